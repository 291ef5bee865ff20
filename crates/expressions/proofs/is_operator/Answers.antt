-- `is_operator` meets its contract.
use mathlib.Core.Path.{refl}
use Rattle.expressions.specs.Grammar.{is_operator}
use Rattle.expressions.proofs.is_operator.Goals as goal

pub returns : goal.returns
unfolding is_operator
returns c = refl
