-- Parts tried eight at once, with no branch: what is not odd is a part, and if nothing was odd in the runs that were tried, all
-- words from the first part to the table's end are parts.
use mathlib.Core.Path.{◌≡◌, sym, ap, ◌∙◌}
use mathlib.Core.Logic.{◌⊎◌, inl, inr}
use mathlib.Core.Bool.{true, false, not, ◌&&◌, ◌||◌}
use mathlib.Core.List.{List}
use Prim.Native.Nat.{ℕ, ◌+◌, ◌-◌, ◌≤◌, ◌<◌}
use native.Mathlib.Decide.{dec_lt}
use native.Mathlib.Omega.{arith}
use lib.Dec.{eqb, leb, ltb}
use lib.ListN.{length}
use borrow.Author.Tests.{ltb-false, eqb-true, leb-false, lt-ltb}
use Rattle.plain.specs.Between.{Between}
use Rattle.plain.proofs.Below.{every-all}
use Rattle.plain.proofs.Tests.{tested, or-false-left, or-false-right}
use Rattle.defs.specs.Table.{word_at, rulesets_in, parts_in, parts_from, part_word_at, is_part, parts_fit}
use Rattle.defs.proofs.Fits.{part-printed, part-space, part-expr, part-ruleset}

-- ---- one word

module _ (s w : ℕ) where
  -- past the printed ones: 256, 257, or below 512 + s and not below 512
  past-printed :
      126 < w → (eqb w 256 ≡ true) ⊎ (eqb w 256 ≡ false) → (eqb w 257 ≡ true) ⊎ (eqb w 257 ≡ false) →
      (((ltb 126 w && not (eqb w 256)) && not (eqb w 257)) && (ltb w 512 || leb (512 + s) w)) ≡ false → is_part s w ≡ true
  past-printed h (inl p) q e = sym (part-space s w (eqb-true w 256 p))
  past-printed h (inr p) (inl q) e = sym (part-expr s w (eqb-true w 257 q))
  past-printed h (inr p) (inr q) e =
      let nested : (ltb w 512 || leb (512 + s) w) ≡ false = sym (rw (lt-ltb 126 w h, p, q)) ∙ e in
      let from : 512 ≤ w = ltb-false w 512 (or-false-left (ltb w 512) (leb (512 + s) w) nested) in
      let below : w < 512 + s = leb-false (512 + s) w (or-false-right (ltb w 512) (leb (512 + s) w) nested) in
      sym (part-ruleset s w h (λ x. omega arith) (λ x. omega arith) from) ∙ lt-ltb (w - 512) s (omega arith)

  pub not-odd :
      ((ltb w 33 || eqb w 59) || (((ltb 126 w && not (eqb w 256)) && not (eqb w 257)) && (ltb w 512 || leb (512 + s) w))) ≡ false →
      is_part s w ≡ true
  not-odd e =
      let low = or-false-left (ltb w 33 || eqb w 59) _ e in
      let printed : 33 ≤ w = ltb-false w 33 (or-false-left (ltb w 33) (eqb w 59) low) in
      elim (dec_lt 126 w) [
        | yes h ↦ past-printed h (tested (eqb w 256)) (tested (eqb w 257)) (or-false-right (ltb w 33 || eqb w 59) _ e)
        | no d ↦ sym (part-printed s w printed (omega (arith, d))) ∙ ap not (or-false-right (ltb w 33) (eqb w 59) low)
      ]

-- ---- all of them

-- the words from one place to before another are all parts
abbrev pub PartsFrom : ℕ → List ℕ → ℕ → ℕ → Type 0
PartsFrom s t from to = Between (λ (j : ℕ). is_part s (word_at t j) ≡ true) from to

pub parts-tried :
    (t : List ℕ) (s from n : ℕ) → s ≡ rulesets_in t → from ≡ parts_from t → n ≡ parts_in t → from + n ≡ length t → PartsFrom s t from (length t) →
    parts_fit t ≡ true
unfolding parts_fit part_word_at
parts-tried t s from n sets is parts long all =
    every-all (parts_in t) _
    (λ k h.
    ap (λ (x : ℕ). is_part x (part_word_at t k)) (sym sets) ∙ ap (λ (x : ℕ). is_part s (word_at t (x + k))) (sym is)
    ∙ all.each (from + k) (omega arith) (omega (arith, long, parts)))
