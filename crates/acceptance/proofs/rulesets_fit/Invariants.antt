-- The loop's invariant: every record passed stands in order and below S, and `before` is the last one's ruleset.
use mathlib.Core.Path.{◌≡◌}
use mathlib.Core.Bool.{true}
use Rattle.plain.specs.Below.{every_below}
use Rattle.defs.specs.Table.{ruleset_before, ruleset_fits}
use Rattle.acceptance.proofs.rulesets_fit.Given as goal

abbrev pub invariant-loop-rule : goal.invariant-loop-rule
invariant-loop-rule l = (every_below l.rule (ruleset_fits l.table) ≡ true) × (l.before ≡ ruleset_before l.table l.rule)
