-- Members of ranges, of what a test keeps and of lists joined, and lists whose members are apart by a key.
use mathlib.Core.Path.{◌≡◌, refl, sym, ◌∙◌, ap}
use mathlib.Core.Logic.{◌⊎◌, inl, inr, ⊎_elim}
use mathlib.Core.Bool.{Bool, true, false}
use mathlib.Core.List.Memᴰ
use mathlib.Core.List.{List, [], ◌∷◌, ◌++◌, map, Memᴰ}
use Prim.Native.Nat.{ℕ, zero, suc, ◌+◌, ◌≤◌, ◌<◌}
use native.Mathlib.Decide.{ℕ_discrete}
use native.Mathlib.Omega.{arith}
use Rattle.plain.specs.Choice.{select}
use Rattle.plain.specs.Lists.{range, keep_if, Apart}
use Rattle.plain.proofs.Tests.{not-both}

-- ---- ranges

pub range-from : (a n : ℕ) {y : ℕ} → Memᴰ y (range a n) → a ≤ y
unfolding range
range-from a zero m = absurd (Memᴰ.not-nil m)
range-from a (suc n) m = elim (Memᴰ.cases_cons m) [ inl e ↦ omega arith | inr k ↦ omega (arith, range-from (suc a) n k) ]

pub range-below : (a n : ℕ) {y : ℕ} → Memᴰ y (range a n) → y < a + n
unfolding range
range-below a zero m = absurd (Memᴰ.not-nil m)
range-below a (suc n) m = elim (Memᴰ.cases_cons m) [ inl e ↦ omega arith | inr k ↦ omega (arith, range-below (suc a) n k) ]

pub range-has : (a n y : ℕ) → a ≤ y → y < a + n → Memᴰ y (range a n)
unfolding range
range-has a zero y h k = absurd (omega arith)
range-has a (suc n) y h k =
    elim (ℕ_discrete y a) [ yes e ↦ Memᴰ.head e | no d ↦ Memᴰ.tail (range-has (suc a) n y (omega (arith, d)) (omega arith)) ]

pub range-apart : (a n : ℕ) → Apart (λ (y : ℕ). y) (range a n)
unfolding range
range-apart a zero = tt
range-apart a (suc n) = ((λ y m e. omega (arith, range-from (suc a) n m)), range-apart (suc a) n)

-- ---- what a test keeps

module _ {A : Type 0} (f : A → Bool) where
  pub kept-mem : (xs : List A) {y : A} → Memᴰ y (keep_if f xs) → Memᴰ y xs × (f y ≡ true)
  unfolding keep_if
  kept-mem [] m = absurd (Memᴰ.not-nil m)
  kept-mem (x ∷ xs) {y} m = go (f x) refl m (λ k. kept-mem xs k)
    where
      go : (b : Bool) → f x ≡ b → Memᴰ y (select b (x ∷ keep_if f xs) (keep_if f xs)) → (Memᴰ y (keep_if f xs) → Memᴰ y xs × (f y ≡ true))
          → Memᴰ y (x ∷ xs) × (f y ≡ true)
      go true e k ih = elim (Memᴰ.cases_cons k) [ inl q ↦ (Memᴰ.head q, ap f q ∙ e) | inr j ↦ (Memᴰ.tail (ih j).0, (ih j).1) ]
      go false e k ih = (Memᴰ.tail (ih k).0, (ih k).1)

  pub kept-has : (xs : List A) {y : A} → f y ≡ true → Memᴰ y xs → Memᴰ y (keep_if f xs)
  unfolding keep_if
  kept-has [] e m = absurd (Memᴰ.not-nil m)
  kept-has (x ∷ xs) {y} e m = go (f x) refl (Memᴰ.cases_cons m) (λ k. kept-has xs e k)
    where
      go : (b : Bool) → f x ≡ b → (y ≡ x) ⊎ Memᴰ y xs → (Memᴰ y xs → Memᴰ y (keep_if f xs))
          → Memᴰ y (select b (x ∷ keep_if f xs) (keep_if f xs))
      go true b (inl q) ih = Memᴰ.head q
      go true b (inr k) ih = Memᴰ.tail (ih k)
      go false b (inl q) ih = absurd (not-both (ap f (sym q) ∙ e) b)
      go false b (inr k) ih = ih k

  pub kept-apart : {K : Type 0} (key : A → K) (xs : List A) → Apart key xs → Apart key (keep_if f xs)
  unfolding keep_if
  kept-apart key [] u = tt
  kept-apart key (x ∷ xs) u = go (f x) (kept-apart key xs u.1)
    where
      go : (b : Bool) → Apart key (keep_if f xs) → Apart key (select b (x ∷ keep_if f xs) (keep_if f xs))
      go true v = ((λ y m. u.0 y (kept-mem xs m).0), v)
      go false v = v

-- ---- lists joined and mapped

module _ {A K : Type 0} (key : A → K) where
  pub apart-append : (xs : List A) {ys : List A} → Apart key xs → Apart key ys → ((x y : A) → Memᴰ x xs → Memᴰ y ys → key x ≡ key y → ⊥)
      → Apart key (xs ++ ys)
  apart-append [] p q h = q
  apart-append (x ∷ xs) p q h = (
    (λ y m e. ⊎_elim (λ a. p.0 y a e) (λ b. h x y (Memᴰ.head refl) b e) (Memᴰ.append_cases xs m)),
    apart-append xs p.1 q (λ z y m. h z y (Memᴰ.tail m)),
  )

module _ {A B K L : Type 0} (ka : A → K) (kb : B → L) (f : A → B) (tells : (x y : A) → kb (f x) ≡ kb (f y) → ka x ≡ ka y) where
  pub apart-map : (xs : List A) → Apart ka xs → Apart kb (map f xs)
  apart-map [] p = tt
  apart-map (x ∷ xs) p =
      ((λ y m e. let (z, n, q) = Memᴰ.of_map f xs m in p.0 z n (tells x z (e ∙ ap kb (sym q)))), apart-map xs p.1)

module _ {A K L : Type 0} (ka : A → K) (kb : A → L) (tells : (x y : A) → kb x ≡ kb y → ka x ≡ ka y) where
  pub apart_by : (xs : List A) → Apart ka xs → Apart kb xs
  apart_by [] p = tt
  apart_by (x ∷ xs) p = ((λ y m e. p.0 y m (tells x y e)), apart_by xs p.1)
