-- "Only the first stays", one candidate at a time. A candidate is compared with those that stayed alone: one that was
-- dropped is the same as an earlier one that stayed, and the test is an equality of keys, so it tells nothing more.
use mathlib.Core.Path.{◌≡◌, refl, sym, ap, ◌∙◌}
use mathlib.Core.Bool.{Bool, true, false}
use mathlib.Core.List.{List, [], ◌∷◌, ◌++◌, append-nil, append_assoc, Memᴰ}
use mathlib.Core.Logic.{◌⊎◌, inl, inr}
use Rattle.std.specs.Prelude.{Option, None, Some}
use Prim.Native.Nat.{ℕ, ◌+◌, ◌≤◌}
use native.Mathlib.Omega.{arith}
use lib.Dec.{eqb}
use lib.ListN.{length, length-append}
use borrow.Author.Tests.{eqb-true, eqb-false, eq-eqb}
use Rattle.plain.proofs.Tests.{tested, or_cases, or_left, or_right, not-both}
use Rattle.readings.specs.Walk.{list_of, unless, any_same, fresh, firsts}
use Rattle.readings.proofs.Firsts.{firsts-mem, firsts-has}
use Rattle.lookahead.specs.Held.{added}

module _ {A : Type 0} (same : A → A → Bool) where
  -- ---- a test of some member

  any-member : (xs : List A) (y : A) → any_same same xs y ≡ true → (x : A) × Memᴰ x xs × (same x y ≡ true)
  unfolding any_same
  any-member [] y e = absurd (not-both e refl)
  any-member (x ∷ xs) y e =
      elim (or_cases (same x y) (any_same same xs y) e) [
        | inl p ↦ (x, Memᴰ.head refl, p)
        | inr q ↦ let (z, m, p) = any-member xs y q in (z, Memᴰ.tail m, p)
      ]

  member-any : {x : A} {xs : List A} (y : A) → Memᴰ x xs → same x y ≡ true → any_same same xs y ≡ true
  unfolding any_same
  member-any {x} y (Memᴰ.head {x = z} {xs = xs} e) p = or_left (same z y) (any_same same xs y) (ap (λ (w : A). same w y) (sym e) ∙ p)
  member-any {x} y (Memᴰ.tail {x = z} {xs = xs} m) p = or_right (same z y) (any_same same xs y) (member-any y m p)

  -- ---- one more at the end

  fresh-more : (seen xs : List A) (x : A) → fresh same seen (xs ++ (x ∷ [])) ≡ fresh same seen xs ++ unless (any_same same (seen ++ xs) x) x []
  unfolding fresh
  fresh-more seen [] x = ap (λ (l : List A). unless (any_same same l x) x []) (sym (append-nil seen))
  fresh-more seen (y ∷ ys) x =
      ap (unless (any_same same seen y) y)
      (fresh-more (seen ++ (y ∷ [])) ys x
      ∙ ap (λ (l : List A). fresh same (seen ++ (y ∷ [])) ys ++ unless (any_same same l x) x []) (append_assoc seen (y ∷ []) ys))
      ∙ past (any_same same seen y) (fresh same (seen ++ (y ∷ [])) ys) (unless (any_same same (seen ++ (y ∷ ys)) x) x [])
    where
      past : (b : Bool) (l m : List A) → unless b y (l ++ m) ≡ unless b y l ++ m
      past true l m = refl
      past false l m = refl

  firsts_more : (xs : List A) (x : A) → firsts same (xs ++ (x ∷ [])) ≡ firsts same xs ++ unless (any_same same xs x) x []
  unfolding firsts
  firsts_more xs x = fresh-more [] xs x

-- ---- where the test is an equality of keys

module _ (key : ℕ → ℕ) where
  abbrev same_key : ℕ → ℕ → Bool
  same_key x y = eqb (key x) (key y)

  -- those that stayed tell as much as all
  kept-tell : (xs : List ℕ) (y : ℕ) → any_same same_key (firsts same_key xs) y ≡ any_same same_key xs y
  kept-tell xs y = go (tested (any_same same_key xs y)) (tested (any_same same_key (firsts same_key xs) y))
    where
      kept : any_same same_key xs y ≡ true → any_same same_key (firsts same_key xs) y ≡ true
      kept e =
          let (x, m, p) = any-member same_key xs y e in
          let (z, k, q) = firsts-has same_key key (λ a b. eqb-true (key a) (key b)) (λ a b. eqb-false (key a) (key b)) xs m in
          member-any same_key y k (eq-eqb (key z) (key y) (q ∙ eqb-true (key x) (key y) p))

      all : any_same same_key (firsts same_key xs) y ≡ true → any_same same_key xs y ≡ true
      all e = let (x, m, p) = any-member same_key (firsts same_key xs) y e in member-any same_key y (firsts-mem same_key xs m) p

      go : (any_same same_key xs y ≡ true) ⊎ (any_same same_key xs y ≡ false)
          → (any_same same_key (firsts same_key xs) y ≡ true) ⊎ (any_same same_key (firsts same_key xs) y ≡ false)
          → any_same same_key (firsts same_key xs) y ≡ any_same same_key xs y
      go (inl t) s = kept t ∙ sym t
      go (inr f) (inl t) = absurd (not-both (all t) f)
      go (inr f) (inr g) = g ∙ sym f

  -- so one candidate more, if there is one, is added to those that stayed
  pub firsts-added : (xs : List ℕ) (o : Option ℕ) → firsts same_key (xs ++ list_of o) ≡ added same_key (firsts same_key xs) o
  unfolding added
  firsts-added xs None = ap (firsts same_key) (append-nil xs)
  firsts-added xs (Some x) =
      firsts_more same_key xs x ∙ ap (λ (b : Bool). firsts same_key xs ++ unless b x []) (sym (kept-tell xs x))

-- it adds at most one
pub added-few : (same : ℕ → ℕ → Bool) (es : List ℕ) (o : Option ℕ) → length (added same es o) ≤ length es + 1
unfolding added
added-few same es None = omega arith
added-few same es (Some e) = omega (arith, length-append es (unless (any_same same es e) e []), one (any_same same es e))
  where
    one : (b : Bool) → length (unless b e []) ≤ 1
    one true = omega arith
    one false = omega arith
