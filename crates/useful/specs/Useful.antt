-- The useful places of a line, and what is lent to a move that goes by them.
-- In words: docs/MANUAL.md, 3.
use Rattle.std.specs.Prelude.{◌≡◌, List, ℕ, ◌≤◌, length}
use Rattle.plain.specs.Lists.{listed}
use Rattle.syntax.specs.Walker.{useful_from}

-- the useful place of each place under no limit but the line's end; that, and each past it, is its own
unfoldable pub useful_places : List ℕ → List ℕ
useful_places line = listed 121 (λ (c : ℕ). useful_from line c (length line))

-- a line that is short enough, with its own places
pub record Lent (line places : List ℕ) : Type 0 where
  pub short : length line ≤ 120
  pub are : places ≡ useful_places line
