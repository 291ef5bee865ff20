-- Laws of what is said of every number below another. Each goes by induction on the bound; a loop that counts up
-- uses `every_more` and `every-fails`, a reader of an accepted input uses `every-at`.
use mathlib.Core.Path.{◌≡◌, refl, sym, ap, ap₂, ◌∙◌, subst}
use mathlib.Core.Bool.{Bool, true, false, ◌&&◌}
use Prim.Native.Nat.{ℕ, zero, suc, ◌+◌, ◌≤◌, ◌<◌}
use native.Mathlib.Numerals.{add-one}
use native.Mathlib.Decide.{ℕ_discrete}
use native.Mathlib.Omega.{arith}
use lib.Dec.{eqb, ltb}
use borrow.Author.Tests.{ltb-true, ltb-false, eqb-true, eqb-false, lt-ltb, le-ltb}
use Rattle.plain.specs.Choice.{select}
use Rattle.plain.specs.Below.{every_below, sum_below, count_below}
use Rattle.plain.proofs.Tests.{and_left, and_right, and_both, and-false-left, and-false-right, and-rotate}

pub every-none : (f : ℕ → Bool) → every_below 0 f ≡ true
unfolding every_below
every-none f = refl

pub every_more : (i : ℕ) (f : ℕ → Bool) → every_below (i + 1) f ≡ (every_below i f && f i)
unfolding every_below
every_more i f = rw add-one

pub every-step : (i : ℕ) (f : ℕ → Bool) → every_below i f ≡ true → f i ≡ true → every_below (i + 1) f ≡ true
every-step i f p q = every_more i f ∙ and_both _ _ p q

pub every-at : (n : ℕ) (f : ℕ → Bool) → every_below n f ≡ true → (i : ℕ) → i < n → f i ≡ true
unfolding every_below
every-at zero f h i l = absurd (omega arith)
every-at (suc n) f h i l =
    elim (ℕ_discrete i n) [
      | yes e ↦ ap f e ∙ and_right (every_below n f) (f n) h
      | no d ↦ every-at n f (and_left (every_below n f) (f n) h) i (omega (arith, d))
    ]

pub every-all : (n : ℕ) (f : ℕ → Bool) → ((i : ℕ) → i < n → f i ≡ true) → every_below n f ≡ true
unfolding every_below
every-all zero f h = refl
every-all (suc n) f h = and_both _ _ (every-all n f (λ i l. h i (omega arith))) (h n (omega arith))

pub every-fails : (n : ℕ) (f : ℕ → Bool) (i : ℕ) → i < n → f i ≡ false → every_below n f ≡ false
unfolding every_below
every-fails zero f i l h = absurd (omega arith)
every-fails (suc n) f i l h =
    elim (ℕ_discrete i n) [
      | yes e ↦ and-false-right (every_below n f) _ (ap f (sym e) ∙ h)
      | no d ↦ and-false-left _ (f n) (every-fails n f i (omega (arith, d)) h)
    ]

-- what holds below a number holds below a lesser one
pub every-fewer : (m n : ℕ) (f : ℕ → Bool) → m ≤ n → every_below n f ≡ true → every_below m f ≡ true
every-fewer m n f less h = every-all m f (λ i below. every-at n f h i (omega arith))

pub every-same : (n : ℕ) (f g : ℕ → Bool) → ((i : ℕ) → i < n → f i ≡ g i) → every_below n f ≡ every_below n g
unfolding every_below
every-same zero f g h = refl
every-same (suc n) f g h = ap₂ ◌&&◌ (every-same n f g (λ i l. h i (omega arith))) (h n (omega arith))

pub every-and : (n : ℕ) (f g : ℕ → Bool) → every_below n (λ i. f i && g i) ≡ (every_below n f && every_below n g)
unfolding every_below
every-and zero f g = refl
every-and (suc n) f g =
    ap (λ (b : Bool). b && (f n && g n)) (every-and n f g) ∙ and-rotate (every_below n f) (every_below n g) (f n) (g n)

pub sum-none : (f : ℕ → ℕ) → sum_below 0 f ≡ 0
unfolding sum_below
sum-none f = refl

pub sum_more : (i : ℕ) (f : ℕ → ℕ) → sum_below (i + 1) f ≡ sum_below i f + f i
unfolding sum_below
sum_more i f = rw add-one

pub sum_same : (n : ℕ) (f g : ℕ → ℕ) → ((i : ℕ) → i < n → f i ≡ g i) → sum_below n f ≡ sum_below n g
unfolding sum_below
sum_same zero f g h = refl
sum_same (suc n) f g h = ap₂ ◌+◌ (sum_same n f g (λ i l. h i (omega arith))) (h n (omega arith))

-- a sum only grows with the bound
pub sum-grows : (m n : ℕ) (f : ℕ → ℕ) → m ≤ n → sum_below m f ≤ sum_below n f
unfolding sum_below
sum-grows m zero f h = subst (λ (k : ℕ). sum_below k f ≤ 0) (sym (zero_of m h)) (omega arith)
  where
    zero_of : (k : ℕ) → k ≤ zero → k ≡ 0
    zero_of k l = omega arith
sum-grows m (suc n) f h =
    elim (ℕ_discrete m (suc n)) [
      | yes e ↦ subst (λ (k : ℕ). sum_below k f ≤ sum_below n f + f n) (sym e) (omega arith)
      | no d ↦ omega (arith, sum-grows m n f (omega (arith, d)))
    ]

pub count_none : (f : ℕ → Bool) → count_below 0 f ≡ 0
unfolding count_below
count_none f = refl

pub count-more : (i : ℕ) (f : ℕ → Bool) → count_below (i + 1) f ≡ count_below i f + select (f i) 1 0
unfolding count_below
count-more i f = rw add-one

pub count_most : (n : ℕ) (f : ℕ → Bool) → count_below n f ≤ n
unfolding count_below
count_most zero f = omega arith
count_most (suc n) f = go (f n) (count_most n f)
  where
    go : (b : Bool) → count_below n f ≤ n → count_below n f + select b 1 0 ≤ suc n
    go true h = omega arith
    go false h = omega arith

pub count-all : (n : ℕ) (f : ℕ → Bool) → ((i : ℕ) → i < n → f i ≡ true) → count_below n f ≡ n
unfolding count_below
count-all zero f h = refl
count-all (suc n) f h = rw (h n (omega arith)) (omega (arith, count-all n f (λ i l. h i (omega arith))))

pub count_no : (n : ℕ) (f : ℕ → Bool) → ((i : ℕ) → i < n → f i ≡ false) → count_below n f ≡ 0
unfolding count_below
count_no zero f h = refl
count_no (suc n) f h = rw (h n (omega arith)) (omega (arith, count_no n f (λ i l. h i (omega arith))))

-- what is below j + 1 is below j, or j
pub count_next : (n : ℕ) (f : ℕ → ℕ) (j : ℕ) → count_below n (λ i. ltb (f i) (suc j)) ≡ count_below n (λ i. ltb (f i) j) + count_below n (λ i. eqb (f i) j)
unfolding count_below
count_next zero f j = refl
count_next (suc n) f j = go (ltb (f n) j) (eqb (f n) j) refl refl (count_next n f j)
  where
    go : (t u : Bool) → ltb (f n) j ≡ t → eqb (f n) j ≡ u
        → count_below n (λ i. ltb (f i) (suc j)) ≡ count_below n (λ i. ltb (f i) j) + count_below n (λ i. eqb (f i) j)
        → count_below n (λ i. ltb (f i) (suc j)) + select (ltb (f n) (suc j)) 1 0 ≡ count_below n (λ i. ltb (f i) j) + select t 1 0 + (count_below n (λ i. eqb (f i) j) + select u 1 0)
    go true true p q h = absurd (omega (arith, ltb-true (f n) j p, eqb-true (f n) j q))
    go true false p q h = rw (lt-ltb (f n) (suc j) (omega (arith, ltb-true (f n) j p))) (omega arith)
    go false true p q h = rw (lt-ltb (f n) (suc j) (omega (arith, eqb-true (f n) j q))) (omega arith)
    go false false p q h = rw (le-ltb (f n) (suc j) (omega (arith, ltb-false (f n) j p, eqb-false (f n) j q))) (omega arith)

-- a count only grows with the bound
pub count-grows : (m n : ℕ) (f : ℕ → Bool) → m ≤ n → count_below m f ≤ count_below n f
unfolding count_below
count-grows m zero f h = let e : m ≡ 0 = omega arith in subst (λ (k : ℕ). count_below k f ≤ 0) (sym e) (omega arith)
count-grows m (suc n) f h =
    elim (ℕ_discrete m (suc n)) [
      | yes e ↦ subst (λ (k : ℕ). count_below k f ≤ count_below n f + select (f n) 1 0) (sym e) (omega arith)
      | no d ↦ omega (arith, count-grows m n f (omega (arith, d)))
    ]
