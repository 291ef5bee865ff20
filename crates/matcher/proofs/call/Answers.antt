-- `matcher::call` meets its contract.
use mathlib.Core.Path.{refl}
use mathlib.Core.List.{[]}
use native.Mathlib.Omega.{arith}
use Rattle.std.proofs.lemmas.Result.{err_from_is_err_and}
use Rattle.trials.proofs.Checks.{accepted-by}
use Rattle.trials.proofs.Choices.{chosen_at, chosen-places}
use Rattle.trials.proofs.Leading.{leads-none}
use Rattle.leads.proofs.Laying.{leads-more}
use Rattle.trials.proofs.Ordered.{table-refused, line_refused, chosen_by, line-told}
use Rattle.matcher.proofs.call.Goals as goal

pub returns-then-not-check_table : goal.returns-then-not-check_table
returns-then-not-check_table c = table-refused c.args.order _ _ _ _ _ _ (cc)

pub returns-in_err-check : goal.returns-in_err-check
returns-in_err-check c =
    let (error, is, gives) = err_from_is_err_and c.from_residual.result c.from_residual.ensures.1 in
    rw (is, gives) (line_refused c.args.order _ _ _ _ _ _ (cc) c.check.ensures.answers c.in_err-check.was)

pub place_rules-requires : goal.place_rules-requires
place_rules-requires c =
    chosen-places _ _ (cc) _ _ _ c.ruleset_starts-starts.ensures.answers
    (chosen_by c.args.order _ c.args.line.now c.args.sheet.now 0 0 [] (cc) _ c.rules_to_try-count.ensures.rules_after) refl

pub lead_rules-requires : goal.lead_rules-requires
lead_rules-requires c = record {
  table = cc;
  begins = c.ruleset_starts-starts.ensures.answers;
  below = chosen_at _ _ (cc) _ (chosen_by c.args.order _ c.args.line.now c.args.sheet.now 0 0 [] (cc) _ c.rules_to_try-count.ensures.rules_after);
  placed = c.place_rules.ensures.answers;
  room = refl;
}

pub read_line-requires-clause-read_asked : goal.read_line-requires-clause-read_asked
read_line-requires-clause-read_asked c = record {
  table = cc;
  lined = accepted-by _ _ _ _ c.check.ensures.answers c.in_ok-check.was;
  begins = c.ruleset_starts-starts.ensures.answers;
  placed = c.place_rules.ensures.answers;
  chosen = chosen_by c.args.order _ c.args.line.now c.args.sheet.now 0 0 [] (cc) _ c.rules_to_try-count.ensures.rules_after;
  sized = refl;
}

pub read_line-requires-clause-leads : goal.read_line-requires-clause-leads
read_line-requires-clause-leads c = leads-more (leads-none _) c.lead_rules.ensures.answers (omega (arith, c.lead_rules.auto))

pub returns : goal.returns
returns c = line-told c.args.order _ _ _ _ _ _ (cc) _ _ c.rules_to_try-count.ensures.rules_after c.read_line.ensures.answers
