use mathlib.Core.Path.{◌∙◌}
use native.Mathlib.Omega.{arith}
use Rattle.defs.proofs.Starts.{summed-none, summed-done, summed-next, summed-fits, summed-set}
use Rattle.defs.proofs.ruledef.sum_counts.Goals as goal

pub loop-set-init : goal.loop-set-init
loop-set-init c = summed-none _ (omega arith)

pub overflow_add-counts-in-loop-set : goal.overflow_add-counts-in-loop-set
overflow_add-counts-in-loop-set c = omega (arith, summed-next _ _ (omega (arith, c.loop-set-test.true)) _ c.loop-set.invariant, summed-fits c.args.counts.now c.loop-set.set (omega (arith, c.loop-set-test.true)), c.requires)

pub loop-set-preserved : goal.loop-set-preserved
loop-set-preserved c = summed-set _ _ (omega (arith, c.loop-set-test.true)) _ c.loop-set.invariant

pub returns : goal.returns
returns c = c.loop-set.invariant ∙ summed-done _ _ (omega (arith, c.loop-set-test.false))
