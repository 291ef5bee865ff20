use native.Mathlib.Omega.{arith}
use Rattle.resolver.proofs.Tally.{none-judged, one-judged}
use Rattle.resolver.proofs.instruction.judge.Goals as goal

pub loop-word-init : goal.loop-word-init
loop-word-init c = none-judged _

pub loop-word-preserved : goal.loop-word-preserved
loop-word-preserved c =
    one-judged
    c.loop-word.invariant
    (omega arith)
    c.is_bad.ensures.bad
    c.is_resolved.ensures.resolved
    c.is_known.ensures.known
    c.is_guess.ensures.guess
