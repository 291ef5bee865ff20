-- What the passes over a list of words find. The call's own promise does not mention these: they are what its private
-- functions promise each other.
use Rattle.std.specs.Prelude.{◌≡◌, List, map, ℕ, ◌+◌, ◌-◌, ◌%◌, leb, Option, None, Some}
use Rattle.plain.specs.Choice.{select}
use Rattle.plain.specs.Lists.{count}
use Rattle.resolver.specs.Outcome.{Outcome, kind_in, outcome_of, is_bad, is_guess, is_resolved, is_known}
use Rattle.resolver.specs.Selection.{least_size, has_size}
use Rattle.resolver.specs.declared.instruction.Least.{Least}

-- how many words are bad, and how many outcomes are resolved, known and guesses
pub record Tallied (ws : List ℕ) (bad resolved known guesses : ℕ) : Type 0 where
  pub bads : bad ≡ count is_bad ws
  pub resolveds : resolved ≡ count is_resolved (map outcome_of ws)
  pub knowns : known ≡ count is_known (map outcome_of ws)
  pub guessings : guesses ≡ count is_guess (map outcome_of ws)

-- the size that is the least so far, and how many outcomes have it
abbrev pub size_of_least : Option Least → Option ℕ
size_of_least None = None
size_of_least (Some found) = Some found.size

abbrev pub times : Option Least → ℕ
times None = 0
times (Some found) = found.count

-- the least of the known sizes, or none, and how many outcomes have it
pub record Smallest (os : List Outcome) (found : Option Least) : Type 0 where
  pub least : size_of_least found ≡ least_size os
  pub many : times found ≡ count (has_size (least_size os)) os

-- a word of kind 1 to 3 with its guess bit; an unresolved word stays
unfoldable pub marked_word : ℕ → ℕ
marked_word w = select (leb 1 (kind_in w)) (w - w % 2 + 1) w
