-- How tight the promises are: any two answers that a function's contract allows on the same arguments are equal. Each law is
-- stated over the contract itself, `Post`, so a weaker contract breaks it.
use mathlib.Core.Path.{◌≡◌}
use mathlib.Core.Bool.{Bool}
use Prim.Native.Nat.{ℕ}
use Rattle.plain.proofs.Answers.{one_answer}
use Rattle.lines.proofs.sheet_size.Reads as sheet-size
use Rattle.lines.proofs.check_program.Reads as check-program

pub sheet_size-tight : (κs a : _) (r s : ℕ) (x y : _) → sheet-size.Post κs a r x → sheet-size.Post κs a s y → r ≡ s
sheet_size-tight κs a r s x y p q = one_answer p.0 q.0

pub check_program-tight : (κs a : _) (r s : Bool) (x y : _) → check-program.Post κs a r x → check-program.Post κs a s y → r ≡ s
check_program-tight κs a r s x y = one_answer
