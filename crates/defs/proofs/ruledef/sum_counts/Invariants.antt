-- The loop's invariant: up to here the counts are summed.
use mathlib.Core.Path.{◌≡◌}
use Rattle.plain.specs.Lists.{listed}
use Rattle.defs.proofs.Starts.{half_summed}
use Rattle.defs.proofs.ruledef.sum_counts.Given as goal

abbrev pub invariant-loop-set : goal.invariant-loop-set
invariant-loop-set l = l.counts ≡ listed 33 (half_summed l.fn.counts l.set)
