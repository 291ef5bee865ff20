-- What is lent for a program, measured in one pass over its ends: what the ends from here on say, with what was met before, is
-- what all of them say. A sheet has at most 29,282 bytes, so 256 of them are far below any length.
use mathlib.Core.Path.{◌≡◌, refl, sym, ap, ◌∙◌}
use mathlib.Core.Bool.{Bool, true, false, ◌&&◌}
use mathlib.Core.List.{List, [], ◌∷◌}
use Prim.Native.Nat.{ℕ, suc, ◌+◌, ◌*◌, ◌-◌, ◌≤◌, ◌<◌}
use native.Mathlib.Nat.{mul-le-mul}
use native.Mathlib.Numerals.{add-one}
use native.Mathlib.Omega.{arith}
use lib.Dec.{leb, eqb}
use lib.ListN.{length, get_or, drop, drop_of_length-le}
use lib.Seq.{drop-cons}
use borrow.Author.Tests.{le-leb, lt-leb, leb-true, eq-eqb, ne_eqb, eqb-true}
use Rattle.std.specs.Prelude.{Option, None, Some}
use Rattle.plain.specs.Choice.{select}
use Rattle.plain.proofs.Options.{none-ne-some, some-ne-none, some_inj}
use Rattle.plain.proofs.Tests.{and_left, and_right, and-off, and-on}
use Rattle.lines.specs.Lines.{sheet_size, ends_fit, sheets_size, program_fits, ends_of}

-- ---- one sheet

square : {n : ℕ} → n ≤ 120 → (n + 1) * (n + 1) ≤ 14641
square {n} h = mul-le-mul {n₁ = n + 1} {m₁ = n + 1} {n₂ = 121} {m₂ = 121} (omega arith) (omega arith)

module _ (n : ℕ) where
  pub size_none : 120 < n → 0 ≡ sheet_size n
  unfolding sheet_size
  size_none h = sym (rw (sheet_size, lt-leb n 120 h))

  module _ (h : n ≤ 120) where
    pub size_fits : (n + 1) * (n + 1) ≤ 14641
    size_fits = square h

    pub size_is : 2 * ((n + 1) * (n + 1)) ≡ sheet_size n
    unfolding sheet_size
    size_is = sym (rw (sheet_size, le-leb n 120 h))

-- ---- all ends

-- the pass stands before end i, at the end before it, with the bytes of so many sheets
pub record Passed (text : ℕ) (ends : List ℕ) (from sheets i : ℕ) : Type 0 where
  pub within : i ≤ length ends
  pub few : sheets ≤ 29282 * i
  pub fit : ends_fit 0 ends text ≡ ends_fit from (drop i ends) text
  pub size : sheets_size 0 ends ≡ sheets + sheets_size from (drop i ends)

module _ {text : ℕ} {ends : List ℕ} where
  pub passed_none : Passed text ends 0 0 0
  passed_none = record { within = omega arith; few = omega arith; fit = refl; size = omega arith }

  module _ {from sheets i : ℕ} (p : Passed text ends from sheets i) where
    module _ (more : i < length ends) (end : ℕ) (is : end ≡ get_or ends i 0) where
      next : drop i ends ≡ end ∷ drop (i + 1) ends
      next = drop-cons ends i 0 more ∙ ap (λ (e : ℕ). e ∷ drop (suc i) ends) (sym is) ∙ ap (λ (k : ℕ). end ∷ drop k ends) (sym (add-one i))

      tested : ends_fit 0 ends text ≡ (leb from end && (leb end text && ends_fit end (drop (i + 1) ends) text))
      unfolding ends_fit
      tested = p.fit ∙ ap (λ (es : List ℕ). ends_fit from es text) next

      pub ends-fall : end < from → None ≡ ends_of text ends
      unfolding ends_of
      ends-fall h = sym (rw (ends_of, tested, lt-leb from end h))

      pub ends-pass : from ≤ end → text < end → None ≡ ends_of text ends
      unfolding ends_of
      ends-pass h k = sym (rw (ends_of, tested, le-leb from end h, lt-leb end text k))

      pub passed-more : from ≤ end → end ≤ text → (size : ℕ) → size ≡ sheet_size (end - from) → size ≤ 29282 → Passed text ends end (sheets + size) (i + 1)
      unfolding sheets_size
      passed-more h k size type_size small = record {
        within = omega arith;
        few = omega (arith, p.few);
        fit = tested ∙ rw (le-leb from end h, le-leb end text k) refl;
        size = p.size ∙ ap (λ (es : List ℕ). sheets + sheets_size from es) next ∙ sum;
      }
        where
          sum : sheets + (sheet_size (end - from) + sheets_size end (drop (i + 1) ends)) ≡ sheets + size + sheets_size end (drop (i + 1) ends)
          sum = omega (arith, type_size)

    pub passed-all : length ends ≤ i → Some sheets ≡ ends_of text ends
    unfolding ends_of sheets_size ends_fit
    passed-all h =
        let over : drop i ends ≡ [] = drop_of_length-le ends h in
        let fit : ends_fit 0 ends text ≡ true = p.fit ∙ ap (λ (es : List ℕ). ends_fit from es text) over in
        let size : sheets_size 0 ends ≡ sheets = p.size ∙ ap (λ (es : List ℕ). sheets + sheets_size from es) over ∙ omega arith in
        sym (rw (ends_of, fit, size))

-- ---- the whole test

module _ (text : ℕ) (ends : List ℕ) (sheets budgets bases rows : ℕ) where
  pub too_many : 256 < length ends → false ≡ program_fits text ends sheets budgets bases rows
  unfolding program_fits
  too_many h = and-off _ (lt-leb (length ends) 256 h)

  module _ (few : length ends ≤ 256) where
    after-count : {b : Bool} → b ≡ (ends_fit 0 ends text && (eqb sheets (sheets_size 0 ends) && (eqb budgets (length ends) && (eqb bases (length ends) && eqb rows (2 * length ends)))))
        → b ≡ program_fits text ends sheets budgets bases rows
    unfolding program_fits
    after-count e = and-on (le-leb (length ends) 256 few) e

    bad-not-fit : None ≡ ends_of text ends → ends_fit 0 ends text ≡ false
    unfolding ends_of
    bad-not-fit = go (ends_fit 0 ends text)
      where
        go : (b : Bool) → None ≡ select b (Some (sheets_size 0 ends)) None → b ≡ false
        go true q = absurd (none-ne-some _ q)
        go false q = refl

    pub ends-bad : (found : Option ℕ) → found ≡ ends_of text ends → found ≡ None → false ≡ program_fits text ends sheets budgets bases rows
    ends-bad found e q = after-count (and-off _ (bad-not-fit (sym q ∙ e)))

    good-fit : (size : ℕ) → Some size ≡ ends_of text ends → (ends_fit 0 ends text ≡ true) × (size ≡ sheets_size 0 ends)
    unfolding ends_of
    good-fit size = go (ends_fit 0 ends text)
      where
        go : (b : Bool) → Some size ≡ select b (Some (sheets_size 0 ends)) None → (b ≡ true) × (size ≡ sheets_size 0 ends)
        go true q = (refl, some_inj q)
        go false q = absurd (some-ne-none _ q)

    module _ (found : Option ℕ) (e : found ≡ ends_of text ends) (size : ℕ) (q : found ≡ Some size) where
      pub sheets-bad : (sheets ≡ size → ⊥) → false ≡ program_fits text ends sheets budgets bases rows
      sheets-bad ne =
          let (fit, is) = good-fit size (sym q ∙ e) in
          after-count (and-on fit (and-off _ (ne_eqb sheets (sheets_size 0 ends) (λ r. ne (r ∙ sym is)))))

      module _ (right : sheets ≡ size) where
        pub budgets-bad : (budgets ≡ length ends → ⊥) → false ≡ program_fits text ends sheets budgets bases rows
        budgets-bad ne =
            let (fit, is) = good-fit size (sym q ∙ e) in
            after-count (and-on fit (and-on (eq-eqb sheets (sheets_size 0 ends) (right ∙ is)) (and-off _ (ne_eqb budgets (length ends) ne))))

        module _ (same : budgets ≡ length ends) where
          pub after-budgets : {b : Bool} → b ≡ (eqb bases (length ends) && eqb rows (2 * length ends)) → b ≡ program_fits text ends sheets budgets bases rows
          after-budgets r =
              let (fit, is) = good-fit size (sym q ∙ e) in
              after-count (and-on fit (and-on (eq-eqb sheets (sheets_size 0 ends) (right ∙ is)) (and-on (eq-eqb budgets (length ends) same) r)))

-- what a program that fits has been lent
pub record Fitting (text : ℕ) (ends : List ℕ) (sheets budgets bases rows : ℕ) : Type 0 where
  pub few : length ends ≤ 256
  pub fit : ends_fit 0 ends text ≡ true
  pub size : sheets ≡ sheets_size 0 ends
  pub one_each : budgets ≡ length ends
  pub base_each : bases ≡ length ends
  pub two_each : rows ≡ 2 * length ends

pub fitting : (text : ℕ) (ends : List ℕ) (sheets budgets bases rows : ℕ) → program_fits text ends sheets budgets bases rows ≡ true → Fitting text ends sheets budgets bases rows
unfolding program_fits
fitting text ends sheets budgets bases rows e =
    let a = and_right (leb (length ends) 256) _ e in
    let b = and_right (ends_fit 0 ends text) _ a in
    let c = and_right (eqb sheets (sheets_size 0 ends)) _ b in
    let d = and_right (eqb budgets (length ends)) _ c in
    record {
      few = leb-true (length ends) 256 (and_left (leb (length ends) 256) _ e);
      fit = and_left (ends_fit 0 ends text) _ a;
      size = eqb-true sheets (sheets_size 0 ends) (and_left (eqb sheets (sheets_size 0 ends)) _ b);
      one_each = eqb-true budgets (length ends) (and_left (eqb budgets (length ends)) _ c);
      base_each = eqb-true bases (length ends) (and_left (eqb bases (length ends)) (eqb rows (2 * length ends)) d);
      two_each = eqb-true rows (2 * length ends) (and_right (eqb bases (length ends)) (eqb rows (2 * length ends)) d);
    }
