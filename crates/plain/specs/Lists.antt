-- Lists: the numbers from one on, and the members of which a test holds.
use Rattle.std.specs.Prelude.{Bool, true, false, ◌&&◌, ◌||◌, ◌≡◌, ℕ, zero, suc}
use mathlib.Core.List.{List, [], ◌∷◌, map, Memᴰ}
use Rattle.plain.specs.Choice.{select}

-- n numbers, from a on
unfoldable pub range : ℕ → ℕ → List ℕ
range a zero = []
range a (suc n) = a ∷ range (suc a) n

module _ {A : Type 0} (f : A → Bool) where
  -- the members of which the test holds, in their order
  unfoldable pub keep_if : List A → List A
  keep_if [] = []
  keep_if (x ∷ xs) = select (f x) (x ∷ keep_if xs) (keep_if xs)

  -- the test holds of some member
  unfoldable pub some_of : List A → Bool
  some_of [] = false
  some_of (x ∷ xs) = f x || some_of xs

  -- the test holds of every member
  unfoldable pub every : List A → Bool
  every [] = true
  every (x ∷ xs) = f x && every xs

  -- how many members the test holds of
  unfoldable pub count : List A → ℕ
  count [] = 0
  count (x ∷ xs) = select (f x) (suc (count xs)) (count xs)

-- f at the numbers below n, in order
unfoldable pub listed : {A : Type 0} → ℕ → (ℕ → A) → List A
listed n f = map f (range 0 n)

-- no two members have the same key
abbrev pub Apart : {A K : Type 0} → (A → K) → List A → Type 0
Apart key [] = Unit {0}
Apart key (x ∷ xs) = ((y : _) → Memᴰ y xs → key x ≡ key y → ⊥) × Apart key xs
