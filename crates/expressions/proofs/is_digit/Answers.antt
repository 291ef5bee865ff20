-- `is_digit` meets its contract.
use mathlib.Core.Path.{refl}
use Rattle.expressions.specs.Grammar.{is_digit}
use Rattle.expressions.proofs.is_digit.Goals as goal

pub returns : goal.returns
unfolding is_digit
returns c = refl
