-- A loop that replaces each element of a list by its image: at each turn the list is the images of the elements passed,
-- and the rest as it was.
use mathlib.Core.Path.{◌≡◌, refl, ◌∙◌}
use mathlib.Core.List.{List, ◌++◌, map, append_assoc, append-nil}
use Prim.Native.Nat.{ℕ, ◌+◌, ◌≤◌, ◌<◌}
use native.Mathlib.Numerals.{add-one}
use native.Mathlib.Omega.{arith}
use lib.ListN.{length, get_or, take, drop, set, length-set, length-map, drop_of_length-le}
use lib.Seq.{take_all, length-take-le, drop-cons, set_at, get_or_at}
use Rattle.plain.proofs.Passed.{map_more}

-- the loop has passed i elements of xs
pub record Replaced {A : Type 0} (f : A → A) (xs : List A) (i : ℕ) (now : List A) : Type 0 where
  pub within : i ≤ length xs
  pub long : length now ≡ length xs
  pub now_is : now ≡ map f (take i xs) ++ drop i xs

module _ {A : Type 0} (f : A → A) where
  pub replaced-none : (xs : List A) → Replaced f xs 0 xs
  replaced-none xs = record { within = omega arith; long = refl; now_is = refl }

  module _ {xs : List A} {i : ℕ} {now : List A} (before : Replaced f xs i now) where
    passed_length : length (map f (take i xs)) ≡ i
    passed_length = length-map (take i xs) f ∙ length-take-le i xs before.within

    -- the next element is as it was
    replaced-next : (d : A) → i < length now → get_or now i d ≡ get_or xs i d
    replaced-next d more =
        rw (before.now_is, drop-cons xs i d (omega (arith, before.long)))
        (get_or_at (map f (take i xs)) (get_or xs i d) _ d i passed_length)

    -- a turn replaces it
    pub replaced-turn : (d : A) {v : A} → i < length now → v ≡ f (get_or now i d) → Replaced f xs (i + 1) (set now i v)
    replaced-turn d {v} more image =
        let next : i < length xs = omega (arith, before.long) in
        record {
          within = omega arith;
          long = length-set now i v ∙ before.long;
          now_is =
              rw (image, replaced-next d more, before.now_is, drop-cons xs i d next)
              (set_at (map f (take i xs)) (get_or xs i d) _ _ i passed_length
              ∙ rw (map_more f xs i d next, append_assoc, add-one));
        }

    -- after the last turn every element is replaced
    pub replaced-all : length now ≤ i → now ≡ map f xs
    replaced-all past =
        let end : length xs ≤ i = omega (arith, before.long) in
        before.now_is ∙ rw (take_all i xs end, drop_of_length-le xs end) (append-nil (map f xs))
