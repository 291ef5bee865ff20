use native.Mathlib.Omega.{arith}
use Rattle.trees.proofs.Arguments.{before, many-after}
use Rattle.words.proofs.count_arguments.Goals as goal

pub loop-prev-preserved : goal.loop-prev-preserved
loop-prev-preserved c =
    let low = (before _ _ c.last_argument.ensures.answers.lasts c.in-Some.is).earlier in
    (omega arith, (omega arith, omega (arith, many-after _ _ c.last_argument.ensures.answers.lasts c.in-Some.is)))
