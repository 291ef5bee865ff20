-- How tight the promises are: any two answers that a function's contract allows on the same arguments are equal. Each law is
-- stated over the contract itself, `Post`, so a weaker contract breaks it.
use mathlib.Core.Path.{◌≡◌}
use mathlib.Core.Bool.{Bool}
use Rattle.plain.proofs.Answers.{one_answer}
use Rattle.trees.proofs.is_same.Reads as is_same

pub is_same-tight : (κs a : _) (r s : Bool) (x y : _) → is_same.Post κs a r x → is_same.Post κs a s y → r ≡ s
is_same-tight κs a r s x y = one_answer
