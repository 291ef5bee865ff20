-- Programs joined: the second's rows moved on by the first's words.
use Rattle.std.specs.Prelude.{◌≡◌, List, [], ◌∷◌, ℕ, ◌+◌}

-- rows with so many more words used before each line
unfoldable pub moved_rows : ℕ → List ℕ → List ℕ
moved_rows k [] = []
moved_rows k (n ∷ []) = n ∷ []
moved_rows k (n ∷ used ∷ rows) = n ∷ (k + used) ∷ moved_rows k rows

-- no line is refused for want of room
abbrev pub NoneTooLong : List ℕ → Type 0
NoneTooLong [] = Unit {0}
NoneTooLong (n ∷ []) = Unit {0}
NoneTooLong (n ∷ used ∷ rows) = (n ≡ 9 → ⊥) × NoneTooLong rows

-- the last of ends, or where they start
unfoldable pub last_end : ℕ → List ℕ → ℕ
last_end from [] = from
last_end from (end ∷ ends) = last_end end ends
