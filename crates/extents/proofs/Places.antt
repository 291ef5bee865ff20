-- Where the entries stand. A row ends before the next begins, so an entry lies within its half, and no two entries stand
-- at one place.
use mathlib.Core.Path.{◌≡◌, refl, ap}
use mathlib.Core.List.{List}
use Prim.Native.Nat.{ℕ, ◌+◌, ◌*◌, ◌≤◌, ◌<◌}
use native.Mathlib.Nat.{mul-le-mul_right, add-mul, one-mul}
use native.Mathlib.Omega.{arith}
use lib.ListN.{length}
use Rattle.extents.specs.Sheet.{HasEntry, place_of}
use Rattle.extents.specs.declared.Half.{Half}
use Rattle.extents.specs.declared.Half.TheVariants.{Free, Greedy}
use Rattle.extents.proofs.Size.{sized-length, longer}

module _ (n : ℕ) where
  -- an entry stands before the rows after its own
  before-row : (c d l : ℕ) → c < d → l ≤ n → c * (n + 1) + l < d * (n + 1)
  before-row c d l later limit =
      let row : c + 1 ≤ d = omega arith in
      omega (arith, mul-le-mul_right (n + 1) row, add-mul c 1 (n + 1), one-mul (n + 1))

  -- an entry lies within its half
  pub in-half : (c l : ℕ) → c ≤ n → l ≤ n → c * (n + 1) + l < (n + 1) * (n + 1)
  in-half c l start limit = before-row c (n + 1) l (omega arith) limit

  -- two entries of a half at one place are one
  same-entry : (c l d k : ℕ) → l ≤ n → k ≤ n → c * (n + 1) + l ≡ d * (n + 1) + k → (c ≡ d) × (l ≡ k)
  same-entry c l d k p q e =
      let not-before : c < d → ⊥ = λ h. omega (arith, before-row c d l h p) in
      let not_after : d < c → ⊥ = λ h. omega (arith, before-row d c k h q) in
      let same_start : c ≡ d = omega arith in
      (same_start, omega (arith, ap (λ (x : ℕ). x * (n + 1)) same_start))

  -- no two entries of the sheet stand at one place
  pub one_place :
      (half other : Half) (c l d k : ℕ) → c ≤ n → l ≤ n → d ≤ n → k ≤ n →
      place_of n half c l ≡ place_of n other d k → (half ≡ other) × ((c ≡ d) × (l ≡ k))
  one_place Free Free c l d k _ p _ q e = (refl, same-entry c l d k p q (omega arith))
  one_place Free Greedy c l d k s p _ _ e = absurd (omega (arith, in-half c l s p))
  one_place Greedy Free c l d k _ _ s q e = absurd (omega (arith, in-half d k s q))
  one_place Greedy Greedy c l d k _ p _ q e = (refl, same-entry c l d k p q (omega arith))

-- what the way to an entry asks
pub record Placed (sheet : List ℕ) (n c l : ℕ) : Type 0 where
  -- the line is shorter than the sheet
  pub line : n < length sheet
  -- the entry lies in its half
  pub entry : c * (n + 1) + l < (n + 1) * (n + 1)
  -- the two halves are the sheet
  pub halves : length sheet ≡ 2 * ((n + 1) * (n + 1))

pub placed : {sheet : List ℕ} {n c l : ℕ} → HasEntry sheet n c l → Placed sheet n c l
placed {sheet} {n} {c} {l} w =
    record {
      line = longer sheet n w.size;
      entry = in-half n c l w.start w.limit;
      halves = sized-length sheet n w.size;
    }
