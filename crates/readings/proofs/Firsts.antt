-- What stays of a list when of those that are the same only the first counts: exactly those that are the same as none
-- before them; if the test tells keys apart, one for each key.
use mathlib.Core.Path.{◌≡◌, refl, sym, ◌∙◌, ap}
use mathlib.Core.Logic.{inl, inr, ⊎_elim}
use mathlib.Core.Bool.{Bool, true, false}
use mathlib.Core.List.Memᴰ
use mathlib.Core.List.{List, [], ◌∷◌, ◌++◌, Memᴰ}
use Rattle.plain.specs.Lists.{Apart}
use Rattle.plain.proofs.Tests.{tested, or-false-left, or-false-right}
use Rattle.readings.specs.Walk.{unless, any_same, fresh, firsts}

module _ {A : Type 0} (same : A → A → Bool) where
  -- y is a member, and the same as none before it
  pub data First : List A → A → Type 0 where
    here : {y : A} {xs : List A} → First (y ∷ xs) y
    there : {x y : A} {xs : List A} → same x y ≡ false → First xs y → First (x ∷ xs) y

  first-mem : {xs : List A} {y : A} → First xs y → Memᴰ y xs
  first-mem here = Memᴰ.head refl
  first-mem (there e f) = Memᴰ.tail (first-mem f)

  any_append : (xs : List A) (x y : A) → any_same same (xs ++ (x ∷ [])) y ≡ false → (any_same same xs y ≡ false) × (same x y ≡ false)
  unfolding any_same
  any_append [] x y e = (refl, or-false-left (same x y) false e)
  any_append (z ∷ xs) x y e =
      let (p, q) = any_append xs x y (or-false-right (same z y) (any_same same (xs ++ (x ∷ [])) y) e) in
      (rw (or-false-left (same z y) (any_same same (xs ++ (x ∷ [])) y) e) p, q)

  append-any : (xs : List A) (x y : A) → any_same same xs y ≡ false → same x y ≡ false → any_same same (xs ++ (x ∷ [])) y ≡ false
  unfolding any_same
  append-any [] x y e f = rw f
  append-any (z ∷ xs) x y e f =
      rw (or-false-left (same z y) (any_same same xs y) e) (append-any xs x y (or-false-right (same z y) (any_same same xs y) e) f)

  fresh-first : (seen xs : List A) {y : A} → Memᴰ y (fresh same seen xs) → First xs y × (any_same same seen y ≡ false)
  unfolding fresh
  fresh-first seen [] m = absurd (Memᴰ.not-nil m)
  fresh-first seen (x ∷ xs) {y} m = go (any_same same seen x) refl m (λ k. fresh-first (seen ++ (x ∷ [])) xs k)
    where
      later : First xs y × (any_same same (seen ++ (x ∷ [])) y ≡ false) → First (x ∷ xs) y × (any_same same seen y ≡ false)
      later (f, e) = let (p, q) = any_append seen x y e in (there q f, p)

      go : (b : Bool) → any_same same seen x ≡ b → Memᴰ y (unless b x (fresh same (seen ++ (x ∷ [])) xs))
          → (Memᴰ y (fresh same (seen ++ (x ∷ [])) xs) → First xs y × (any_same same (seen ++ (x ∷ [])) y ≡ false))
          → First (x ∷ xs) y × (any_same same seen y ≡ false)
      go true e k ih = later (ih k)
      go false e k ih =
          elim (Memᴰ.cases_cons k) [
            | inl q ↦ (rw q here, rw q e)
            | inr j ↦ later (ih j)
          ]

  first-fresh : (seen : List A) {xs : List A} {y : A} → First xs y → any_same same seen y ≡ false → Memᴰ y (fresh same seen xs)
  unfolding fresh
  first-fresh seen (here {y = y} {xs = xs}) e = rw e (Memᴰ.head refl)
  first-fresh seen (there {x = x} {y = y} {xs = xs} q f) e = go (any_same same seen x) (first-fresh (seen ++ (x ∷ [])) f (append-any seen x y e q))
    where
      go : (b : Bool) → Memᴰ y (fresh same (seen ++ (x ∷ [])) xs) → Memᴰ y (unless b x (fresh same (seen ++ (x ∷ [])) xs))
      go true m = m
      go false m = Memᴰ.tail m

  pub firsts-first : (xs : List A) {y : A} → Memᴰ y (firsts same xs) → First xs y
  unfolding firsts
  firsts-first xs m = (fresh-first [] xs m).0

  pub first-firsts : {xs : List A} {y : A} → First xs y → Memᴰ y (firsts same xs)
  unfolding firsts any_same
  first-firsts f = first-fresh [] f refl

  pub firsts-mem : (xs : List A) {y : A} → Memᴰ y (firsts same xs) → Memᴰ y xs
  firsts-mem xs m = first-mem (firsts-first xs m)

  module _ {K : Type 0} (key : A → K) (alike : (x y : A) → same x y ≡ true → key x ≡ key y) (unlike : (x y : A) → same x y ≡ false → key x ≡ key y → ⊥) where
    -- a member with an equal key comes first
    keyed : {y : A} {xs : List A} → Memᴰ y xs → (z : A) × First xs z × (key z ≡ key y)
    keyed (Memᴰ.head {x = x} e) = (x, here, ap key (sym e))
    keyed (Memᴰ.tail {x = x} m) =
        let (z, f, q) = keyed m in
        ⊎_elim (λ t. (x, here, alike x z t ∙ q)) (λ t. (z, there t f, q)) (tested (same x z))

    pub firsts-has : (xs : List A) {y : A} → Memᴰ y xs → (z : A) × Memᴰ z (firsts same xs) × (key z ≡ key y)
    firsts-has xs m = let (z, f, q) = keyed m in (z, first-firsts f, q)

    fresh-once : (seen xs : List A) → Apart key (fresh same seen xs)
    unfolding fresh
    fresh-once seen [] = tt
    fresh-once seen (x ∷ xs) = go (any_same same seen x) (fresh-once (seen ++ (x ∷ [])) xs)
      where
        apart : (y : A) → Memᴰ y (fresh same (seen ++ (x ∷ [])) xs) → key x ≡ key y → ⊥
        apart y m e = unlike x y (any_append seen x y (fresh-first (seen ++ (x ∷ [])) xs m).1).1 e

        go : (b : Bool) → Apart key (fresh same (seen ++ (x ∷ [])) xs) → Apart key (unless b x (fresh same (seen ++ (x ∷ [])) xs))
        go true v = v
        go false v = (apart, v)

    pub firsts-once : (xs : List A) → Apart key (firsts same xs)
    unfolding firsts
    firsts-once xs = fresh-once [] xs
