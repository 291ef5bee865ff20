-- Demand 3 on the last pass: "on the last pass a well-formed list with room chooses exactly when one known size is
-- least and only one outcome has it; otherwise it is 11, 12 or 13". Said of the outcomes, with no search for the
-- least.
-- In words: docs/MANUAL.md, 9.2.
use Rattle.std.specs.Prelude.{◌≡◌, ◌⊎◌, Bool, true, List, ℕ, ◌<◌, length, get_or, set, Option, Some, Result}
use Rattle.resolver.specs.Outcome.{Outcome, outcomes_of, size_of}
use Rattle.resolver.specs.Outcome.Outcome.{unresolved}
use Rattle.resolver.specs.Selection.{selection_says}
use Rattle.resolver.specs.declared.instruction.SelectError.{SelectError}

-- the size of the outcome at an index, where there is one and it is known
abbrev pub size_at : List Outcome → ℕ → Option ℕ
size_at os i = size_of (get_or os i unresolved)

-- the outcome at an index has a known size, and every other known size is greater
pub record OnlyLeast (os : List Outcome) (i : ℕ) : Type 0 where
  pub size : ℕ
  pub known : size_at os i ≡ Some size
  pub others : (j t : ℕ) → (j ≡ i → ⊥) → size_at os j ≡ Some t → size < t

-- what the last pass answers on a list of outcomes, with room in the buffer
pub record LastPass (os : List Outcome) (buffer : List ℕ) (r : Result ℕ SelectError) (after : List ℕ) : Type 0 where
  -- where one known size is least and only one outcome has it, that one is chosen, and its index written
  pub chooses : (i : ℕ) → OnlyLeast os i → (selection_says r ≡ (0, 1)) × (after ≡ set buffer 0 i)
  -- and nowhere else
  pub only_then : (selection_says r).0 ≡ 0 → (i : ℕ) × OnlyLeast os i
  -- otherwise the number is 11, 12 or 13
  pub otherwise :
      ((i : ℕ) → OnlyLeast os i → ⊥) →
      ((selection_says r).0 ≡ 11) ⊎ (((selection_says r).0 ≡ 12) ⊎ ((selection_says r).0 ≡ 13))

-- what the call promises of the last pass: of the words and the buffer that it is lent, what it returns, and the
-- buffer after
abbrev pub OnLastPass : List ℕ → Bool → List ℕ → Result ℕ SelectError → List ℕ → Type 0
OnLastPass words last buffer r after =
    last ≡ true → (os : List Outcome) → outcomes_of words ≡ Some os → 0 < length buffer → LastPass os buffer r after
