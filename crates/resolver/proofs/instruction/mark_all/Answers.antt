use native.Mathlib.Omega.{arith}
use Rattle.resolver.specs.Passes.{marked_word}
use Rattle.plain.proofs.Replaced.{replaced-turn}
use Rattle.resolver.proofs.instruction.mark_all.Goals as goal

pub loop-word-preserved : goal.loop-word-preserved
loop-word-preserved c = replaced-turn marked_word c.loop-word.invariant 0 (omega arith) c.mark_guess.ensures.marked
