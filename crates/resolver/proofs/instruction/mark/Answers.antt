-- `resolver::instruction::mark` meets its contract: the words are marked if any outcome is a guess, and stay otherwise.
use mathlib.Core.Path.{◌∙◌}
use native.Mathlib.Omega.{arith}
use Rattle.resolver.proofs.Marks.{all-marked, none-marked}
use Rattle.resolver.proofs.instruction.mark.Goals as goal

pub returns-then-guesses-gt0 : goal.returns-then-guesses-gt0
returns-then-guesses-gt0 c =
    record { marked = c.mark_all.ensures.marked ∙ all-marked c.args.words.now c.requires.guesses c.requires.good (omega arith) }

pub returns-else-guesses-gt0 : goal.returns-else-guesses-gt0
returns-else-guesses-gt0 c =
    record { marked = none-marked c.args.words.now c.requires.guesses c.requires.good (omega arith) }
