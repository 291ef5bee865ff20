-- The loop's invariant: the counts are those of the records passed.
use mathlib.Core.Path.{◌≡◌}
use Rattle.plain.specs.Lists.{listed}
use Rattle.defs.specs.Ruledef.{tally_of}
use Rattle.defs.proofs.ruledef.count_rules.Given as goal

abbrev pub invariant-loop-rule : goal.invariant-loop-rule
invariant-loop-rule l = l.counts ≡ listed 33 (tally_of l.table l.rule)
