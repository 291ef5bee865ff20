-- `is_letter` meets its contract.
use mathlib.Core.Path.{refl}
use Rattle.expressions.specs.Grammar.{is_letter}
use Rattle.expressions.proofs.is_letter.Goals as goal

pub returns : goal.returns
unfolding is_letter
returns c = refl
