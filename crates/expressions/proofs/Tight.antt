-- How tight the promises are: any two answers that the contract allows on the same arguments are equal, in what is returned
-- and in the lent sheet at exit. The law is stated over the contract itself, `Post`.
use mathlib.Core.Path.{◌≡◌, refl, sym, ap, ◌∙◌}
use mathlib.Core.List.{List}
use Prim.Native.Nat.{ℕ}
use lib.Dec.{eqb}
use Rattle.plain.specs.Choice.{select}
use Rattle.plain.specs.Told.{Told}
use Rattle.std.specs.Prelude.{Result, Ok, Err}
use Rattle.expressions.specs.declared.FillError.{FillError}
use Rattle.expressions.specs.declared.FillError.TheVariants.{BadLine, BadRoom}
use Rattle.expressions.specs.Call.{fill_says}
use Rattle.expressions.proofs.Called.{fill-call-one}
use Rattle.expressions.proofs.fill_sheet.Reads as fill-sheet

-- the answer of a number and fields
fill-case : Told → Result ℕ FillError
fill-case r = select (eqb r.number 0) (Ok r.words) (select (eqb r.number 3) (Err (BadLine r.place)) (Err BadRoom))

fill-same : (a c : Result ℕ FillError) (b d : List ℕ) → fill_says a b ≡ fill_says c d → (a ≡ c) × (b ≡ d)
unfolding fill-case
fill-same a c b d e = (sym (back a b) ∙ ap fill-case e ∙ back c d, sym (left a b) ∙ ap (λ (r : Told). r.buffer) e ∙ left c d)
  where
    back : (q : Result ℕ FillError) (m : List ℕ) → fill-case (fill_says q m) ≡ q
    back (Ok n) m = refl
    back (Err (BadLine p)) m = refl
    back (Err BadRoom) m = refl

    left : (q : Result ℕ FillError) (m : List ℕ) → (fill_says q m).buffer ≡ m
    left (Ok n) m = refl
    left (Err (BadLine p)) m = refl
    left (Err BadRoom) m = refl

pub fill_sheet-tight : (κs a : _) (r s : Result ℕ FillError) (x y : _) → fill-sheet.Post κs a r x → fill-sheet.Post κs a s y → (r ≡ s) × (x.1.0.now ≡ y.1.0.now)
fill_sheet-tight κs a r s x y p q = fill-same r s _ _ (fill-call-one _ _ _ _ p.0 q.0)
