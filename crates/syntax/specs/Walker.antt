-- The walker's moves. A walker is held to its line first: these definitions speak of one whose cursor is at most its
-- limit, and whose limit is at most the line's length.
-- In words: docs/MANUAL.md, 3.
use Rattle.std.specs.Prelude.{◌≡◌, Bool, true, false, ◌&&◌, ◌||◌, List, [], ◌∷◌, ℕ, suc, ◌+◌, ◌≤◌, ◌<◌, min, leb, ltb, length, get_or}
use Rattle.std.proofs.Math.Seq.{slice}
use Rattle.plain.specs.Choice.{select}
use Rattle.token.specs.Token.{is_whitespace, same_letter}
use Rattle.syntax.specs.declared.walker.Walker.{Walker}
use Rattle.syntax.specs.declared.walker.Step.{Step}
use Rattle.syntax.specs.declared.walker.Step.TheVariants.{Past, Stayed}

-- the byte at a place of the line
abbrev pub byte_at : List ℕ → ℕ → ℕ
byte_at line i = get_or line i 0

-- a limit past the line is first held to its end, then a cursor past the limit to the limit
unfoldable pub held : List ℕ → Walker → Walker
held line w = record {
  cursor = min w.cursor (min w.limit (length line));
  limit = min w.limit (length line);
}

-- nothing is left before the limit
unfoldable pub over : Walker → Bool
over w = leb w.limit w.cursor

-- another place with the same limit, held again
unfoldable pub moved_to : List ℕ → ℕ → Walker → Walker
moved_to line at w = held line (record { cursor = at; limit = w.limit })

-- the same place with another limit, held again
unfoldable pub limited : List ℕ → ℕ → Walker → Walker
limited line end w = held line (record { cursor = w.cursor; limit = end })

-- The useful place, as document 01 says it: the first non-whitespace place at or after the cursor, or the limit.
pub record UsefulPlace (line : List ℕ) (w : Walker) (p : ℕ) : Type 0 where
  pub from : w.cursor ≤ p
  pub within : p ≤ w.limit
  pub passed : (i : ℕ) → w.cursor ≤ i → i < p → is_whitespace (byte_at line i) ≡ true
  pub stands : p < w.limit → is_whitespace (byte_at line p) ≡ false

-- The same as the scan that the Rust makes: over bytes that stand from place i on.
unfoldable pub skipped : List ℕ → ℕ → ℕ
skipped [] i = i
skipped (b ∷ bs) i = select (is_whitespace b) (skipped bs (suc i)) i

unfoldable pub useful_from : List ℕ → ℕ → ℕ → ℕ
useful_from line c l = skipped (slice c l line) c

unfoldable pub useful : List ℕ → Walker → ℕ
useful line w = useful_from line w.cursor w.limit

-- the walker past place p
abbrev pub past_place : ℕ → Walker → Walker
past_place p w = record { cursor = p + 1; limit = w.limit }

-- Exact part: the byte at the useful place, below the limit, equals the wanted one with ASCII case ignored; the
-- cursor goes past it.
unfoldable pub expect_char : List ℕ → ℕ → Walker → Bool × Walker
expect_char line x w =
    select (ltb (useful line w) w.limit && same_letter (byte_at line (useful line w)) x)
    (true, past_place (useful line w) w)
    (false, w)

-- each answer's values: whether the byte was there, and the walker handed back
abbrev pub step_says : Step → Bool × Walker
step_says (Past w) = (true, w)
step_says (Stayed w) = (false, w)

-- Whitespace part: succeeds at the limit or if the byte at the cursor is whitespace. It consumes nothing.
unfoldable pub gap : List ℕ → Walker → Bool
gap line w = over w || is_whitespace (byte_at line w.cursor)

abbrev pub expect_whitespace : List ℕ → Walker → Bool × Walker
expect_whitespace line w = (gap line w, w)
