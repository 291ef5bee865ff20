-- A row judged by chunks of limits, both halves together. A chunk may begin below the limits that are left: what is judged
-- twice is judged alike, and a limit below the row's start is never odd.
use mathlib.Core.Path.{◌≡◌, sym, ap, ◌∙◌}
use mathlib.Core.Logic.{◌⊎◌, inl, inr, ⊎_elim}
use mathlib.Core.Bool.{Bool, true, false, not, ◌&&◌, ◌||◌}
use mathlib.Core.List.{List}
use Prim.Native.Nat.{ℕ, ◌+◌, ◌-◌, ◌≤◌, ◌<◌}
use native.Mathlib.Omega.{arith}
use lib.Dec.{leb, ltb}
use borrow.Author.Tests.{lt-ltb, le-ltb, leb-true, leb-false, ltb-true, ltb-false}
use Rattle.plain.specs.Below.{every_below}
use Rattle.plain.proofs.Below.{every-at, every-all, every-fewer, every-and}
use Rattle.plain.proofs.Tests.{tested, not-both, and_both, and-false-left, and-false-right}
use Rattle.extents.specs.Sheet.{entry_at, entry_fits, fits_at, row_fits}
use Rattle.extents.specs.declared.Half.TheVariants.{Free, Greedy}
use Rattle.extents.proofs.Rows.{none-judged, joined}

-- ---- one limit

-- a pair of entries, as bytes, with no branch
pub pair_is :
    (c l x y : ℕ) {r s : Bool} → (c ≤ l → r ≡ not (entry_fits c l x)) → (c ≤ l → s ≡ not (entry_fits c l y)) →
    (leb c l && (r || s)) ≡ not ((ltb l c || entry_fits c l x) && (ltb l c || entry_fits c l y))
pair_is c l x y {r} {s} p q = by (tested (leb c l))
  where
    go : (f g : Bool) → r ≡ not f → s ≡ not g → leb c l ≡ true → (leb c l && (r || s)) ≡ not ((ltb l c || f) && (ltb l c || g))
    go true g p q from = rw (from, le-ltb l c (leb-true c l from), p) q
    go false g p q from = rw (from, le-ltb l c (leb-true c l from), p)

    by : (leb c l ≡ true) ⊎ (leb c l ≡ false) → (leb c l && (r || s)) ≡ not ((ltb l c || entry_fits c l x) && (ltb l c || entry_fits c l y))
    by (inr above) = rw (above, lt-ltb l c (leb-false c l above))
    by (inl from) = go (entry_fits c l x) (entry_fits c l y) (p (leb-true c l from)) (q (leb-true c l from)) from

module _ (sheet : List ℕ) (n c : ℕ) where
  -- the entries of both halves fit at a limit, or the start lies above it
  abbrev pub both_at : ℕ → Bool
  both_at l = fits_at sheet n Free c l && fits_at sheet n Greedy c l

  -- what is said of a pair's bytes is said of its place
  pub pair-here :
      {l p q x y : ℕ} {r : Bool} → p ≡ c → q ≡ l → x ≡ entry_at sheet n Free c l → y ≡ entry_at sheet n Greedy c l →
      r ≡ not ((ltb q p || entry_fits p q x) && (ltb q p || entry_fits p q y)) → r ≡ not (both_at l)
  unfolding fits_at
  pair-here start limit free greedy answer = cc

  -- the limits below the start are not judged
  pub none_both : every_below c both_at ≡ true
  none_both = every-and c _ _ ∙ and_both _ _ (none-judged sheet n Free c) (none-judged sheet n Greedy c)

-- ---- a chunk of w limits, from `at` on

module _ (f : ℕ → Bool) (w at l : ℕ) (low : at ≤ l) (high : l ≤ at + w) where
  -- what holds below l and throughout the chunk holds below the chunk's end
  both-parts : every_below l f ≡ true → every_below w (λ k. f (at + k)) ≡ true → every_below (at + w) f ≡ true
  both-parts p q = every-all (at + w) f each
    where
      in-chunk : (i : ℕ) → l ≤ i → i < at + w → f i ≡ true
      in-chunk i from below =
          let place : i ≡ at + (i - at) = omega (arith, low) in
          ap f place ∙ every-at w _ q (i - at) (omega (arith, low))

      each : (i : ℕ) → i < at + w → f i ≡ true
      each i below =
          ⊎_elim
          (λ before. every-at l f p i (ltb-true i l before))
          (λ after. in-chunk i (ltb-false i l after) below)
          (tested (ltb i l))

  chunk_part : every_below (at + w) f ≡ true → every_below w (λ k. f (at + k)) ≡ true
  chunk_part h = every-all w _ (λ k below. every-at (at + w) f h (at + k) (omega arith))

  pub parts : every_below (at + w) f ≡ (every_below l f && every_below w (λ k. f (at + k)))
  parts = go (tested (every_below (at + w) f)) (tested (every_below l f)) (tested (every_below w (λ k. f (at + k))))
    where
      go : (every_below (at + w) f ≡ true) ⊎ (every_below (at + w) f ≡ false)
          → (every_below l f ≡ true) ⊎ (every_below l f ≡ false)
          → (every_below w (λ k. f (at + k)) ≡ true) ⊎ (every_below w (λ k. f (at + k)) ≡ false)
          → every_below (at + w) f ≡ (every_below l f && every_below w (λ k. f (at + k)))
      go (inl t) p q = t ∙ sym (and_both _ _ (every-fewer l (at + w) f high t) (chunk_part t))
      go (inr t) (inl p) (inl q) = absurd (not-both (both-parts p q) t)
      go (inr t) (inl p) (inr q) = t ∙ sym (and-false-right (every_below l f) _ q)
      go (inr t) (inr p) q = t ∙ sym (and-false-left _ _ p)

  -- what is odd below l, with what is odd in the chunk
  pub odd-chunk :
      (odd here : Bool) → every_below l f ≡ not odd → here ≡ not (every_below w (λ k. f (at + k))) →
      every_below (at + w) f ≡ not (odd || here)
  odd-chunk odd here p q = parts ∙ ap (λ (b : Bool). b && every_below w (λ k. f (at + k))) p ∙ joined odd _ here q

-- a row whose last chunk ends with it
pub row-covered :
    (sheet : List ℕ) (n c w last l : ℕ) (odd here : Bool) → last + w ≡ n + 1 → last ≤ l → l ≤ n + 1 →
    every_below l (both_at sheet n c) ≡ not odd → here ≡ not (every_below w (λ k. both_at sheet n c (last + k))) →
    not (odd || here) ≡ (row_fits sheet n Free c && row_fits sheet n Greedy c)
unfolding row_fits
row-covered sheet n c w last l odd here end low high p q =
    sym (odd-chunk (both_at sheet n c) w last l low (omega (arith, end)) odd here p q)
    ∙ ap (λ (m : ℕ). every_below m (both_at sheet n c)) end
    ∙ every-and (n + 1) _ _
