-- `matcher::rules_to_try` meets its contract.
use Rattle.trials.proofs.Ordered.{listed-scan, listed-lookup}
use Rattle.matcher.proofs.rules_to_try.Goals as goal

pub returns-in-Scan-clause-rules_after : goal.returns-in-Scan-clause-rules_after
returns-in-Scan-clause-rules_after c = let whole = listed-scan _ c.args.line.now _ _ _ _ c.requires.table_value c.requires.rules_len c.in-Scan.is c.top_rules.ensures.answers in whole.0

pub returns-in-Scan-clause-upper_bound : goal.returns-in-Scan-clause-upper_bound
returns-in-Scan-clause-upper_bound c = let whole = listed-scan _ c.args.line.now _ _ _ _ c.requires.table_value c.requires.rules_len c.in-Scan.is c.top_rules.ensures.answers in whole.1

pub returns-in-Lookup-clause-rules_after : goal.returns-in-Lookup-clause-rules_after
returns-in-Lookup-clause-rules_after c = let whole = listed-lookup _ c.args.line.now _ _ _ _ c.requires.table_value c.requires.rules_len c.in-Lookup.is _ c.parse_prefix-prefix.ensures.answers c.query_prefixed.ensures.answers in whole.0

pub returns-in-Lookup-clause-upper_bound : goal.returns-in-Lookup-clause-upper_bound
returns-in-Lookup-clause-upper_bound c = let whole = listed-lookup _ c.args.line.now _ _ _ _ c.requires.table_value c.requires.rules_len c.in-Lookup.is _ c.parse_prefix-prefix.ensures.answers c.query_prefixed.ensures.answers in whole.1
