-- Bytes: whitespace, the lower-case partner, and the class that the table holds.
-- In words: docs/MANUAL.md, 2.1.
use Rattle.std.specs.Prelude.{Bool, not, ◌&&◌, ◌||◌, ℕ, ◌+◌, ◌*◌, eqb, leb}
use Rattle.plain.specs.Choice.{select}

-- whitespace is 9, 13 (since order 4) and 32
unfoldable pub is_whitespace : ℕ → Bool
is_whitespace b = eqb b 9 || eqb b 13 || eqb b 32

abbrev pub is_solid : ℕ → Bool
is_solid b = not (is_whitespace b)

-- the lower-case partner: `A` to `Z` go to `a` to `z`, every other byte stays
unfoldable pub lowered : ℕ → ℕ
lowered b = select (leb 65 b && leb b 90) (b + 32) b

-- equal with ASCII case ignored
abbrev pub same_letter : ℕ → ℕ → Bool
same_letter a b = eqb (lowered a) (lowered b)

-- whitespace, the two openers and the two closers by a number
unfoldable pub class_kind : ℕ → ℕ
class_kind b =
    select (is_whitespace b) 1 (select (eqb b 40) 2 (select (eqb b 41) 3 (select (eqb b 123) 4 (select (eqb b 125) 5 0))))

-- the table's entry
unfoldable pub class_of : ℕ → ℕ
class_of b = lowered b + 256 * class_kind b
