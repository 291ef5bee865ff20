-- Images, tests and counts of a list, and of a list with one element more at its end, which is what a loop knows of the
-- members that it has passed.
use mathlib.Core.Path.{◌≡◌, refl, sym}
use mathlib.Core.Logic.{⊎_elim}
use mathlib.Core.Bool.{Bool, true, false, ◌||◌}
use mathlib.Core.List.{List, [], ◌∷◌, ◌++◌, map, map-append}
use Prim.Native.Nat.{ℕ, zero, suc, ◌+◌, ◌≤◌, ◌<◌}
use native.Mathlib.Numerals.{add-one}
use native.Mathlib.Omega.{arith}
use borrow.Author.Tests.{lt-ltb}
use mir.Val.{bool_byte}
use lib.Dec.{ltb}
use lib.ListN.{length, get_or, take}
use lib.Seq.{take-suc}
use Rattle.plain.specs.Choice.{select}
use Rattle.plain.specs.Lists.{some_of, count}
use Rattle.plain.proofs.Lists.{count-append}
use Rattle.plain.proofs.Tests.{tested, not-both, or-false-left, or-false-right}

module _ {A B : Type 0} (f : A → B) where
  -- the images of one element more
  pub map_more :
      (xs : List A) (i : ℕ) (d : A) → i < length xs →
      map f (take (i + 1) xs) ≡ map f (take i xs) ++ (f (get_or xs i d) ∷ [])
  map_more xs i d l = rw (add-one, take-suc xs i d l) (map-append f (take i xs) (get_or xs i d ∷ []))

-- a test as a number
one-if : (b : Bool) → bool_byte b ≡ select b 1 0
one-if true = refl
one-if false = refl

pub at_most_one : (b : Bool) → bool_byte b ≤ 1
at_most_one true = omega arith
at_most_one false = omega arith

module _ {A : Type 0} (f : A → Bool) where
  -- a test holds of some member if it holds of more than none
  pub some-counted : (xs : List A) → some_of f xs ≡ ltb 0 (count f xs)
  unfolding some_of count
  some-counted [] = refl
  some-counted (x ∷ xs) = go (f x) (some-counted xs)
    where
      go :
          (b : Bool) → some_of f xs ≡ ltb 0 (count f xs) →
          (b || some_of f xs) ≡ ltb 0 (select b (suc (count f xs)) (count f xs))
      go true h = sym (lt-ltb 0 (suc (count f xs)) (omega arith))
      go false h = h

  -- a count with one member more
  pub count-more : (xs : List A) (x : A) → count f (xs ++ (x ∷ [])) ≡ count f xs + select (f x) 1 0
  unfolding count
  count-more xs x = count-append f xs (x ∷ [])

  -- a test that holds of no member holds of none at an index
  pub none-at : (xs : List A) (d : A) → some_of f xs ≡ false → (i : ℕ) → i < length xs → f (get_or xs i d) ≡ false
  unfolding some_of
  none-at [] d h i l = absurd (omega arith)
  none-at (x ∷ xs) d h zero l = or-false-left (f x) (some_of f xs) h
  none-at (x ∷ xs) d h (suc i) l = none-at xs d (or-false-right (f x) (some_of f xs) h) i (omega arith)

  -- and such a test counts none
  pub count_none : (xs : List A) (d : A) → ((i : ℕ) → i < length xs → f (get_or xs i d) ≡ true → ⊥) → count f xs ≡ 0
  unfolding count
  count_none [] d none_of = refl
  count_none (x ∷ xs) d none_of =
      ⊎_elim (λ t. absurd (none_of 0 (omega arith) t))
      (λ t. rw t (count_none xs d (λ i l. none_of (suc i) (omega arith))))
      (tested (f x))

  -- a member that passes the test is counted
  pub count_at : (xs : List A) (d : A) → f d ≡ false → (i : ℕ) → f (get_or xs i d) ≡ true → count f xs ≡ 0 → ⊥
  unfolding count
  count_at [] d out i yes-at none_of = not-both yes-at out
  count_at (x ∷ xs) d out zero yes-at none_of = let h = rw yes-at at none_of in omega (arith, h)
  count_at (x ∷ xs) d out (suc i) yes-at none_of = go (f x) none_of (count_at xs d out i yes-at)
    where
      go : (b : Bool) → select b (suc (count f xs)) (count f xs) ≡ 0 → (count f xs ≡ 0 → ⊥) → ⊥
      go true e later = omega arith
      go false e later = later e

  -- a count with one member more, from the number of its test
  counted :
      (xs : List A) (x : A) {ys : List A} {n : ℕ} {test : Bool} → ys ≡ xs ++ (x ∷ []) → n ≡ count f xs → test ≡ f x →
      n + bool_byte test ≡ count f ys
  counted xs x e n t = rw (e, n, t, one-if (f x)) (sym (count-more xs x))

-- so with one number more, and with one image more
module _ (ws : List ℕ) {i : ℕ} (within : i < length ws) {n : ℕ} {test : Bool} where
  pub counted-number :
      (f : ℕ → Bool) → n ≡ count f (take i ws) → test ≡ f (get_or ws i 0) → n + bool_byte test ≡ count f (take (i + 1) ws)
  counted-number f = counted f (take i ws) (get_or ws i 0) (rw (add-one, take-suc ws i 0 within))

  pub counted-image :
      {A : Type 0} (g : ℕ → A) (f : A → Bool) → n ≡ count f (map g (take i ws)) → test ≡ f (g (get_or ws i 0)) →
      n + bool_byte test ≡ count f (map g (take (i + 1) ws))
  counted-image g f = counted f (map g (take i ws)) (g (get_or ws i 0)) (map_more g ws i 0 within)
