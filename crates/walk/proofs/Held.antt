-- A list as the code holds it, a count and places, is the list.
use mathlib.Core.Path.{◌≡◌, refl, ◌∙◌}
use mathlib.Core.List.{List, [], ◌∷◌, Memᴰ}
use Prim.Native.Nat.{ℕ, zero, suc, ◌≤◌, ◌<◌}
use native.Mathlib.Omega.{arith}
use lib.ListN.{length, get_or, take}
use lib.Seq.{length-take-le, get_or-take, ext_get_or}
use Rattle.plain.specs.Lists.{listed}
use Rattle.plain.proofs.Lists.{listed-length, listed_at}

module _ (n : ℕ) (xs : List ℕ) (few : length xs ≤ n) where
  abbrev places : List ℕ
  places = listed n (λ j. get_or xs j 0)

  long : length places ≡ n
  long = listed-length n (λ j. get_or xs j 0)

  pub held_at : (i : ℕ) → i < length xs → get_or places i 0 ≡ get_or xs i 0
  held_at i h = listed_at n (λ j. get_or xs j 0) i (omega arith)

  pub held-is : take (length xs) places ≡ xs
  held-is =
      ext_get_or 0 (take (length xs) places) xs (length-take-le (length xs) places (omega (arith, long)))
      (λ i h. get_or-take (length xs) places i 0 (omega (arith, length-take-le (length xs) places (omega (arith, long)))) ∙ held_at i (omega (arith, length-take-le (length xs) places (omega (arith, long)))))

pub member-at : (xs : List ℕ) (i : ℕ) → i < length xs → Memᴰ (get_or xs i 0) xs
member-at [] i h = absurd (omega arith)
member-at (x ∷ xs) zero h = Memᴰ.head refl
member-at (x ∷ xs) (suc i) h = Memᴰ.tail (member-at xs i (omega arith))
