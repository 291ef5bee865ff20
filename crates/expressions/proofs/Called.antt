-- The call: each answer from what was found, and what it leaves open: nothing.
use mathlib.Core.Path.{◌≡◌, refl, sym, ap, ap₂, ◌∙◌, subst}
use mathlib.Core.Bool.{true}
use mathlib.Core.List.{List}
use Rattle.std.specs.Prelude.{None, Some, Ok, Err}
use Rattle.plain.proofs.Options.{none-ne-some, some_inj}
use Prim.Native.Nat.{ℕ, ◌+◌, ◌*◌, ◌≤◌}
use native.Mathlib.Nat.{mul-le-mul}
use native.Mathlib.Omega.{arith}
use lib.ListN.{length}
use borrow.Author.Tests.{eq-eqb, ne_eqb}
use Rattle.plain.specs.Told.{Told, refused_at}
use Rattle.plain.proofs.Lists.{listed-length}
use Rattle.plain.proofs.Tests.{not-both}
use Rattle.line.specs.Line.{fault_at}
use Rattle.line.proofs.Lines.{good-is}
use Rattle.extents.specs.Sheet.{sized}
use Rattle.expressions.specs.Sheet.{sheet_of, sheet_byte}
use Rattle.expressions.specs.Call.{FillCall, bad_line, bad_room, filled, FilledFits, fill_says, filled_with}
use Rattle.expressions.specs.Filling.{Made}
use Rattle.expressions.specs.declared.FillError.TheVariants.{BadLine, BadRoom}
use Rattle.expressions.proofs.Entries.{sheet-declared, declared-one, sheet-fits}
use Rattle.expressions.proofs.Filled.{made-sheet}

-- a refusal is not 0
refusal : {n : ℕ} (A : Type 0) → (n ≡ 0 → ⊥) → n ≡ 0 → A
refusal A h e = absurd (h e)

module _ (line sheet : List ℕ) where
  pub line_refused : (p : ℕ) → fault_at line ≡ Some p → FillCall line sheet (fill_says (Err (BadLine p)) sheet) × FilledFits line (fill_says (Err (BadLine p)) sheet)
  line_refused p e = (bad_line p e refl, refusal _ (λ z. omega arith))

  module _ (good : fault_at line ≡ None) where
    pub short : length line ≤ 120
    short = ((good-is line).0 good).short

    pub square : (length line + 1) * (length line + 1) ≤ 121 * 121
    square = let side : length line + 1 ≤ 121 = omega (arith, short) in mul-le-mul side side

    pub room-refused : (length sheet ≡ 2 * ((length line + 1) * (length line + 1)) → ⊥) → FillCall line sheet (fill_says (Err BadRoom) sheet) × FilledFits line (fill_says (Err BadRoom) sheet)
    unfolding sized
    room-refused h = (bad_room good (ne_eqb (length sheet) (2 * ((length line + 1) * (length line + 1))) h) refl, refusal _ (λ z. omega arith))

    pub good-room : length sheet ≡ 2 * ((length line + 1) * (length line + 1)) → sized sheet (length line) ≡ true
    unfolding sized
    good-room h = eq-eqb (length sheet) (2 * ((length line + 1) * (length line + 1))) h

    pub sheet-filled : (after : List ℕ) (w : ℕ) → w ≡ 2 * ((length line + 1) * (length line + 1)) → sized sheet (length line) ≡ true → Made line after 0
        → FillCall line sheet (fill_says (Ok w) after) × FilledFits line (fill_says (Ok w) after)
    unfolding sheet_of
    sheet-filled after w q room made =
        let is = made-sheet made in (
          filled (sheet_of line) good room (sheet-declared line) (ap₂ filled_with (q ∙ sym (listed-length (2 * ((length line + 1) * (length line + 1))) (sheet_byte line))) is),
          λ z. subst (λ (s : List ℕ). FilledFits line (filled_with w s)) (sym is) (λ z. sheet-fits line) z,
        )

-- a line and a lent sheet leave one answer
pub fill-call-one : (line sheet : List ℕ) (r s : Told) → FillCall line sheet r → FillCall line sheet s → r ≡ s
fill-call-one line sheet r s (bad_line p e a) (bad_line q f b) = a ∙ ap (λ (x : ℕ). refused_at 3 x sheet) (some_inj (sym e ∙ f)) ∙ sym b
fill-call-one line sheet r s (bad_line p e a) (bad_room f z b) = absurd (none-ne-some p (sym f ∙ e))
fill-call-one line sheet r s (bad_line p e a) (filled t f z d b) = absurd (none-ne-some p (sym f ∙ e))
fill-call-one line sheet r s (bad_room e y a) (bad_line q f b) = absurd (none-ne-some q (sym e ∙ f))
fill-call-one line sheet r s (bad_room e y a) (bad_room f z b) = a ∙ sym b
fill-call-one line sheet r s (bad_room e y a) (filled t f z d b) = absurd (not-both z y)
fill-call-one line sheet r s (filled t e y d a) (bad_line q f b) = absurd (none-ne-some q (sym e ∙ f))
fill-call-one line sheet r s (filled t e y d a) (bad_room f z b) = absurd (not-both y z)
fill-call-one line sheet r s (filled t e y d a) (filled u f z g b) =
    a ∙ ap (λ (x : List ℕ). filled_with (length x) x) (declared-one line t d ∙ sym (declared-one line u g)) ∙ sym b

-- what is filled is a good line's
pub filled-good : (line sheet : List ℕ) (r : Told) → FillCall line sheet r → r.number ≡ 0 → fault_at line ≡ None
filled-good line sheet r (bad_line p e a) z = let w : ◌≡◌ {A = ℕ} 3 0 = sym (ap (λ (t : Told). t.number) a) ∙ z in absurd (omega arith)
filled-good line sheet r (bad_room e y a) z = e
filled-good line sheet r (filled t e y d a) z = e

-- and its sheet
pub filled_is : (line sheet : List ℕ) (r : Told) → FillCall line sheet r → r.number ≡ 0 → r.buffer ≡ sheet_of line
filled_is line sheet r (bad_line p e a) z = let w : ◌≡◌ {A = ℕ} 3 0 = sym (ap (λ (t : Told). t.number) a) ∙ z in absurd (omega arith)
filled_is line sheet r (bad_room e y a) z = let w : ◌≡◌ {A = ℕ} 18 0 = sym (ap (λ (t : Told). t.number) a) ∙ z in absurd (omega arith)
filled_is line sheet r (filled t e y d a) z = ap (λ (t : Told). t.buffer) a ∙ declared-one line t d
