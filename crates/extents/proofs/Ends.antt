-- The ends of an accepted sheet lie from their start to their limit: an end is an entry that was read and is not 255, and
-- every entry that is read was judged.
use mathlib.Core.Path.{◌≡◌, refl, sym, ◌∙◌}
use mathlib.Core.Logic.{⊎_elim}
use mathlib.Core.Bool.{true, ◌&&◌}
use mathlib.Core.List.{List}
use Rattle.std.specs.Prelude.{Some}
use Rattle.plain.proofs.Options.{none-ne-some}
use Prim.Native.Nat.{ℕ, ◌+◌, ◌≤◌}
use native.Mathlib.Omega.{arith}
use borrow.Author.Tests.{leb-true}
use lib.Dec.{leb, eqb}
use Rattle.plain.proofs.Below.{every-at}
use Rattle.plain.proofs.Tests.{tested, and_left, and_right}
use Rattle.extents.specs.Sheet.{sized, entry_at, entry_fits, row_fits, half_fits, sheet_fits}
use Rattle.extents.specs.Sheet.{readable, entry_end, end_in}
use Rattle.extents.specs.declared.Half.{Half}
use Rattle.extents.specs.declared.Half.TheVariants.{Free, Greedy}
use Rattle.extents.proofs.Reading.{in_order, read, unread}
use Rattle.extents.proofs.Rows.{judged}

-- the end of an entry that fits
fits-between : (c l x e : ℕ) → entry_fits c l x ≡ true → entry_end x ≡ Some e → (c ≤ e) × (e ≤ l)
unfolding entry_fits
fits-between c l x e fits ends =
    ⊎_elim
    (λ nothing. absurd (none-ne-some e (rw nothing at ends)))
    (λ named.
    let both = rw named at fits in
    let same : x ≡ e = cc (rw named at ends) in
    omega (arith, leb-true c x (and_left (leb c x) (leb x l) both), leb-true x l (and_right (leb c x) (leb x l) both)))
    (tested (eqb x 255))

module _ (sheet : List ℕ) (n : ℕ) (good : sheet_fits sheet n ≡ true) where
  both_halves : (half_fits sheet n Free && half_fits sheet n Greedy) ≡ true
  unfolding sheet_fits
  both_halves = and_right (sized sheet n) _ good

  each-half : (half : Half) → half_fits sheet n half ≡ true
  each-half Free = and_left _ (half_fits sheet n Greedy) both_halves
  each-half Greedy = and_right (half_fits sheet n Free) _ both_halves

  -- every entry whose start is not above its limit fits
  pub entry-fits : (half : Half) (c l : ℕ) → c ≤ l → l ≤ n → entry_fits c l (entry_at sheet n half c l) ≡ true
  unfolding half_fits row_fits
  entry-fits half c l from within =
      judged sheet n half from refl refl
      ∙ every-at (n + 1) _ (every-at (n + 1) _ (each-half half) c (omega arith)) l (omega arith)

  -- an end of an accepted sheet is from its start to its limit
  pub end-between : (half : Half) (c l e : ℕ) → end_in sheet n half c l ≡ Some e → (c ≤ e) × (e ≤ l)
  end-between half c l e ends =
      ⊎_elim
      (λ there.
      let (from, within) = in_order sheet n c l there in
      fits-between c l _ e (entry-fits half c l from within) (sym (read sheet n c l half there) ∙ ends))
      (λ nowhere. absurd (none-ne-some e (sym (unread sheet n c l half nowhere) ∙ ends)))
      (tested (readable sheet n c l))
