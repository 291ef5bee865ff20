-- How tight the promise is: any two answers that the contract of `resolve_encoding` allows on the same arguments are equal, in
-- what is returned and in both lent lists as they stand at exit. The law is stated over the contract itself, `Post`, so a
-- weaker contract breaks it. An answer is known by its number and count.
use mathlib.Core.Path.{◌≡◌, refl, sym, ap, ◌∙◌}
use Rattle.std.specs.Prelude.{Result, Ok, Err}
use Prim.Native.Nat.{ℕ}
use lib.Dec.{eqb}
use Rattle.plain.specs.Choice.{select}
use Rattle.plain.proofs.Answers.{one_answer}
use Rattle.resolver.specs.Selection.{Selected, selection_says}
use Rattle.resolver.specs.declared.instruction.SelectError.{SelectError}
use Rattle.resolver.specs.declared.instruction.SelectError.TheVariants.{BadList, NoneResolved, NoneKnown, Tied, NoRoom}
use Rattle.resolver.proofs.Cases.{told_by, left_by}
use Rattle.resolver.proofs.instruction.resolve_encoding.Reads as resolve-encoding

-- the answer of a number and a count
case-of : ℕ × ℕ → Result ℕ SelectError
case-of says =
    select (eqb says.0 0) (Ok says.1)
    (select (eqb says.0 10) (Err BadList)
    (select (eqb says.0 11) (Err NoneResolved)
    (select (eqb says.0 12) (Err NoneKnown)
    (select (eqb says.0 13) (Err (Tied says.1)) (Err (NoRoom says.1))))))

case-of-says : (r : Result ℕ SelectError) → case-of (selection_says r) ≡ r
unfolding case-of
case-of-says (Ok n) = refl
case-of-says (Err BadList) = refl
case-of-says (Err NoneResolved) = refl
case-of-says (Err NoneKnown) = refl
case-of-says (Err (Tied n)) = refl
case-of-says (Err (NoRoom n)) = refl

-- an answer is known by its number and count
pub same-selection : (r s : Result ℕ SelectError) → selection_says r ≡ selection_says s → r ≡ s
same-selection r s h = sym (case-of-says r) ∙ ap case-of h ∙ case-of-says s

pub resolve_encoding-tight : (κs a : _) (r s : Result ℕ SelectError) (x y : _) → resolve-encoding.Post κs a r x → resolve-encoding.Post κs a s y
    → (r ≡ s) × (x.0.now ≡ y.0.now) × (x.1.1.0.now ≡ y.1.1.0.now)
resolve_encoding-tight κs a r s x y p q =
    let same = one_answer p.0 q.0 in (
      same-selection r s (ap told_by same),
      ap (λ (a : Selected). a.words) same,
      ap left_by same,
    )
