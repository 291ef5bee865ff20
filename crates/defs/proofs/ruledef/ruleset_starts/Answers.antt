-- The tally of all records, summed up.
use mathlib.Core.Path.{◌∙◌}
use native.Mathlib.Omega.{arith}
use Rattle.plain.specs.Lists.{range, listed}
use Rattle.defs.specs.Table.{word_at}
use Rattle.defs.proofs.Starts.{tally-zero, tally-starts, tally-fits}
use Rattle.defs.proofs.ruledef.ruleset_starts.Goals as goal

pub count_rules-requires : goal.count_rules-requires
unfolding listed range
count_rules-requires c = tally-zero c.args.table.now

pub sum_counts-requires : goal.sum_counts-requires
unfolding word_at
sum_counts-requires c = tally-fits c.args.table.now _ c.count_rules.ensures (omega (arith, c.type_inv.table 1))

pub returns : goal.returns
returns c = record { answers = c.sum_counts.ensures ∙ tally-starts _ _ c.count_rules.ensures }
