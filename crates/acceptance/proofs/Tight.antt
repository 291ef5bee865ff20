-- How tight the promises are: any two answers that a function's contract allows on the same arguments are equal. Each law is
-- stated over the contract itself, `Post`, so a weaker contract breaks it.
use mathlib.Core.Path.{◌≡◌}
use mathlib.Core.Bool.{Bool}
use Rattle.plain.proofs.Answers.{one_answer}
use Rattle.acceptance.proofs.is_part.Reads as is-part
use Rattle.acceptance.proofs.check_table.Reads as check-table

pub is_part-tight : (κs a : _) (r s : Bool) (x y : _) → is-part.Post κs a r x → is-part.Post κs a s y → r ≡ s
is_part-tight κs a r s x y = one_answer

pub check_table-tight : (κs a : _) (r s : Bool) (x y : _) → check-table.Post κs a r x → check-table.Post κs a s y → r ≡ s
check_table-tight κs a r s x y = one_answer
