-- How tight the promises are: any two answers that a function's contract allows on the same arguments are equal. Each law is
-- stated over the contract itself, `Post`, so a weaker contract breaks it.
use mathlib.Core.Path.{◌≡◌, sym, ◌∙◌}
use mathlib.Core.Bool.{Bool}
use mathlib.Core.List.{List}
use Rattle.std.specs.Prelude.{Option}
use Prim.Native.Nat.{ℕ}
use native.Mathlib.Omega.{arith}
use lib.Seq.{ext_get_or}
use Rattle.plain.proofs.Answers.{one_answer}
use Rattle.extents.proofs.held_places.Reads as held-places
use Rattle.extents.proofs.check_sheet.Reads as check-sheet
use Rattle.extents.proofs.free.Reads as free
use Rattle.extents.proofs.greedy.Reads as greedy

pub held_places-tight : (κs a : _) (r s : List ℕ) (x y : _) → held-places.Post κs a r x → held-places.Post κs a s y → r ≡ s
held_places-tight κs a r s x y p q =
    ext_get_or 0 r s (p.many ∙ sym q.many) (λ i h. p.each i (omega (arith, p.many)) ∙ sym (q.each i (omega (arith, p.many))))

pub check_sheet-tight : (κs a : _) (r s : Bool) (x y : _) → check-sheet.Post κs a r x → check-sheet.Post κs a s y → r ≡ s
check_sheet-tight κs a r s x y = one_answer

pub free-tight : (κs a : _) (r s : Option ℕ) (x y : _) → free.Post κs a r x → free.Post κs a s y → r ≡ s
free-tight κs a r s x y = one_answer

pub greedy-tight : (κs a : _) (r s : Option ℕ) (x y : _) → greedy.Post κs a r x → greedy.Post κs a s y → r ≡ s
greedy-tight κs a r s x y = one_answer
