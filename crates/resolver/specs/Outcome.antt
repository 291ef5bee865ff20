-- Outcomes as plain data, and the words that stand for them. "Up to 4,096 outcome words of 32 bits: guess + 2·kind +
-- 8·size. Kinds: 0 unresolved, 1 failed constraint, 2 resolved but unknown, 3 sized. Size is 0 to 65,535, and 0 unless
-- sized. An unresolved word is exactly 0 and counts as a guess. Kinds 2 and 3 are resolved; kind 3 is known."
-- In words: docs/MANUAL.md, 9.1.
use Rattle.std.specs.Prelude.{Bool, true, false, not, ◌||◌, List, map, ℕ, ◌+◌, ◌*◌, ◌/◌, ◌%◌, ltb, eqb, length, Option, None, Some}
use Rattle.plain.specs.Choice.{select}
use Rattle.plain.specs.Lists.{some_of}

-- an outcome, with whether it is a guess, and its size where that is known
pub data Outcome : Type 0 where
  unresolved : Outcome
  failed : Bool → Outcome
  unknown : Bool → Outcome
  sized : Bool → ℕ → Outcome

-- the parts of a word: guess + 2·kind + 8·size
abbrev pub guess_in : ℕ → Bool
guess_in w = eqb (w % 2) 1

abbrev pub kind_in : ℕ → ℕ
kind_in w = w / 2 % 4

abbrev pub size_in : ℕ → ℕ
size_in w = w / 8

-- the outcome of a kind: 0 unresolved, 1 failed constraint, 2 resolved but unknown, 3 sized
unfoldable pub of_kind : ℕ → Bool → ℕ → Outcome
of_kind kind guess size =
    select (eqb kind 0) unresolved
    (select (eqb kind 1) (failed guess)
    (select (eqb kind 2) (unknown guess) (sized guess size)))

-- the outcome of a word
unfoldable pub outcome_of : ℕ → Outcome
outcome_of w = of_kind (kind_in w) (guess_in w) (size_in w)

-- a word is bad if it is sized and its size is above 65,535, if it is unresolved and not exactly 0, or if it is of
-- another kind and its size is not 0
unfoldable pub is_bad : ℕ → Bool
is_bad w =
    select (eqb (kind_in w) 3) (ltb 65535 (size_in w))
    (select (eqb (kind_in w) 0) (not (eqb w 0)) (not (eqb (size_in w) 0)))

-- up to 4,096 words, none of them bad, are a list of outcomes; any other words are a bad list
unfoldable pub outcomes_of : List ℕ → Option (List Outcome)
outcomes_of ws = select (ltb 4096 (length ws) || some_of is_bad ws) None (Some (map outcome_of ws))

-- the guess bit
abbrev pub bit : Bool → ℕ
bit true = 1
bit false = 0

-- the word of an outcome
unfoldable pub word_of : Outcome → ℕ
word_of unresolved = 0
word_of (failed guess) = bit guess + 2 * 1
word_of (unknown guess) = bit guess + 2 * 2
word_of (sized guess size) = bit guess + 2 * 3 + 8 * size

-- whether an outcome is a guess; an unresolved one counts as one
unfoldable pub is_guess : Outcome → Bool
is_guess unresolved = true
is_guess (failed guess) = guess
is_guess (unknown guess) = guess
is_guess (sized guess size) = guess

-- kinds 2 and 3 are resolved
unfoldable pub is_resolved : Outcome → Bool
is_resolved unresolved = false
is_resolved (failed guess) = false
is_resolved (unknown guess) = true
is_resolved (sized guess size) = true

-- kind 3 is known
unfoldable pub is_known : Outcome → Bool
is_known unresolved = false
is_known (failed guess) = false
is_known (unknown guess) = false
is_known (sized guess size) = true

-- the size, where it is known
unfoldable pub size_of : Outcome → Option ℕ
size_of unresolved = None
size_of (failed guess) = None
size_of (unknown guess) = None
size_of (sized guess size) = Some size

-- the same outcome as a guess; an unresolved one has no guess bit
unfoldable pub as_guess : Outcome → Outcome
as_guess unresolved = unresolved
as_guess (failed guess) = failed true
as_guess (unknown guess) = unknown true
as_guess (sized guess size) = sized true size
