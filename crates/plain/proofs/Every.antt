-- A test that holds of every member: of two lists joined, of a list's image, and place by place.
use mathlib.Core.Path.{◌≡◌, refl, sym, ap, ap₂, ◌∙◌}
use mathlib.Core.Bool.{Bool, true, false, ◌&&◌}
use mathlib.Core.List.{List, [], ◌∷◌, ◌++◌, map}
use Prim.Native.Nat.{ℕ, zero, suc, ◌<◌}
use native.Mathlib.Omega.{arith}
use lib.ListN.{length, get_or}
use Rattle.plain.specs.Below.{every_below}
use Rattle.plain.specs.Lists.{range, every, listed}
use Rattle.plain.proofs.Tests.{and_left, and_right, and_both}
use Rattle.plain.proofs.Lists.{listed_more}

module _ {A : Type 0} (f : A → Bool) where
  pub every-both : (xs ys : List A) → every f (xs ++ ys) ≡ (every f xs && every f ys)
  unfolding every
  every-both [] ys = refl
  every-both (x ∷ xs) ys = go (f x) (every-both xs ys)
    where
      go : (b : Bool) → every f (xs ++ ys) ≡ (every f xs && every f ys) → (b && every f (xs ++ ys)) ≡ ((b && every f xs) && every f ys)
      go true h = h
      go false h = refl

  pub every_append : (xs ys : List A) → every f xs ≡ true → every f ys ≡ true → every f (xs ++ ys) ≡ true
  every_append xs ys p q = every-both xs ys ∙ and_both (every f xs) (every f ys) p q

  pub every_first : (xs ys : List A) → every f (xs ++ ys) ≡ true → every f xs ≡ true
  every_first xs ys h = and_left (every f xs) (every f ys) (sym (every-both xs ys) ∙ h)

  pub every-last : (xs ys : List A) → every f (xs ++ ys) ≡ true → every f ys ≡ true
  every-last xs ys h = and_right (every f xs) (every f ys) (sym (every-both xs ys) ∙ h)

pub every_map : {A B : Type 0} (f : B → Bool) (g : A → B) (xs : List A) → every f (map g xs) ≡ every (λ x. f (g x)) xs
unfolding every
every_map f g [] = refl
every_map f g (x ∷ xs) = ap (λ (b : Bool). f (g x) && b) (every_map f g xs)

pub every-entry : (f : ℕ → Bool) (xs : List ℕ) → ((k : ℕ) → k < length xs → f (get_or xs k 0) ≡ true) → every f xs ≡ true
unfolding every
every-entry f [] h = refl
every-entry f (x ∷ xs) h = and_both (f x) (every f xs) (h 0 (omega arith)) (every-entry f xs (λ k l. h (suc k) (omega arith)))

pub entry-every : (f : ℕ → Bool) (xs : List ℕ) → every f xs ≡ true → (k : ℕ) → k < length xs → f (get_or xs k 0) ≡ true
unfolding every
entry-every f [] h k l = absurd (omega arith)
entry-every f (x ∷ xs) h zero l = and_left (f x) (every f xs) h
entry-every f (x ∷ xs) h (suc k) l = entry-every f xs (and_right (f x) (every f xs) h) k (omega arith)

pub every-listed : {A : Type 0} (f : A → Bool) (n : ℕ) (g : ℕ → A) → every f (listed n g) ≡ every_below n (λ i. f (g i))
unfolding every every_below listed range
every-listed f zero g = refl
every-listed f (suc n) g =
    ap (every f) (listed_more n g) ∙ every-both f (listed n g) (g n ∷ []) ∙ ap₂ ◌&&◌ (every-listed f n g) (last (f (g n)))
  where
    last : (b : Bool) → (b && true) ≡ b
    last true = refl
    last false = refl
