-- The choice among outcomes, from the Rust's steps (`resolve_encoding`), and the whole call. "If any outcome is a
-- guess, every word of kind 1 to 3 gets its guess bit. The sized outcomes of least size are chosen by index,
-- ascending. On a guessing pass all are returned; on the last pass two or more are 13. Order: 10, 11, 12, 13, 14. On 0
-- the indices are written as 16-bit numbers at the buffer's start, the rest unchanged, and the count returned. Marks
-- are made on 0 and 13 only."
-- In words: docs/MANUAL.md, 9.2 and 9.3.
use Rattle.std.specs.Prelude.{Bool, false, ◌&&◌, List, [], ◌∷◌, map, ℕ, min, ltb, eqb, length, get_or, Option, None, Some, Result, Ok, Err}
use Rattle.plain.specs.Choice.{select}
use Rattle.plain.specs.Buffers.{at_start}
use Rattle.plain.specs.Lists.{range, keep_if, some_of, count}
use Rattle.resolver.specs.Outcome.{Outcome, outcomes_of, word_of, is_guess, is_resolved, is_known, size_of, as_guess}
use Rattle.resolver.specs.Outcome.Outcome.{unresolved}
use Rattle.resolver.specs.declared.instruction.SelectError.{SelectError}
use Rattle.resolver.specs.declared.instruction.SelectError.TheVariants.{BadList, NoneResolved, NoneKnown, Tied, NoRoom}

-- if any outcome is a guess, every one of kind 1 to 3 gets its guess bit
unfoldable pub marked : List Outcome → List Outcome
marked os = select (some_of is_guess os) (map as_guess os) os

-- the lesser of two sizes, where either is known
unfoldable pub lesser : Option ℕ → Option ℕ → Option ℕ
lesser None t = t
lesser (Some s) None = Some s
lesser (Some s) (Some t) = Some (min s t)

-- the least of the known sizes
unfoldable pub least_size : List Outcome → Option ℕ
least_size [] = None
least_size (o ∷ os) = lesser (size_of o) (least_size os)

-- both sizes are known, and they are equal
unfoldable pub same_size : Option ℕ → Option ℕ → Bool
same_size None t = false
same_size (Some s) None = false
same_size (Some s) (Some t) = eqb s t

-- an outcome has a size
unfoldable pub has_size : Option ℕ → Outcome → Bool
has_size size o = same_size size (size_of o)

-- the indices of the outcomes that have a size, ascending
unfoldable pub indices_of : Option ℕ → List Outcome → List ℕ
indices_of size os = keep_if (λ i. has_size size (get_or os i unresolved)) (range 0 (length os))

-- the sized outcomes of least size are chosen by index, ascending
unfoldable pub choice_of : List Outcome → List ℕ
choice_of os = indices_of (least_size os) os

-- what a call returns, and the words and the buffer that it leaves
pub record Selected : Type 0 where
  pub number : ℕ
  pub count : ℕ
  pub words : List ℕ
  pub buffer : List ℕ

-- an answer that leaves the words and the buffer
abbrev pub refusal : List ℕ → List ℕ → ℕ → ℕ → Selected
refusal words buffer number count = record { number = number; count = count; words = words; buffer = buffer }

-- 13: a tie, marked
abbrev pub tie : List ℕ → List Outcome → Selected
tie buffer os = record { number = 13; count = length (choice_of os); words = map word_of (marked os); buffer = buffer }

-- 0: the choice, marked and written
abbrev pub choice : List ℕ → List Outcome → Selected
choice buffer os =
    record {
      number = 0;
      count = length (choice_of os);
      words = map word_of (marked os);
      buffer = at_start (choice_of os) buffer;
    }

-- the answer on a list of outcomes: in this order, 11 none resolved, 12 none known, 13 two or more on the last pass,
-- 14 a choice longer than its buffer, 0
unfoldable pub answer_on : List ℕ → Bool → List ℕ → List Outcome → Selected
answer_on words last buffer os =
    select (eqb (count is_resolved os) 0) (refusal words buffer 11 0)
    (select (eqb (count is_known os) 0) (refusal words buffer 12 0)
    (select (last && ltb 1 (length (choice_of os))) (tie buffer os)
    (select (ltb (length buffer) (length (choice_of os))) (refusal words buffer 14 (length (choice_of os)))
    (choice buffer os))))

-- the answer on words that are a list of outcomes, or 10: a bad list
unfoldable pub answer_of : List ℕ → Bool → List ℕ → Option (List Outcome) → Selected
answer_of words last buffer None = refusal words buffer 10 0
answer_of words last buffer (Some os) = answer_on words last buffer os

-- the whole call, on the words, whether this is the last pass, and the buffer
unfoldable pub selected : List ℕ → Bool → List ℕ → Selected
selected words last buffer = answer_of words last buffer (outcomes_of words)

-- the number and the count that each answer stands for
abbrev pub selection_says : Result ℕ SelectError → ℕ × ℕ
selection_says (Ok n) = (0, n)
selection_says (Err BadList) = (10, 0)
selection_says (Err NoneResolved) = (11, 0)
selection_says (Err NoneKnown) = (12, 0)
selection_says (Err (Tied n)) = (13, n)
selection_says (Err (NoRoom n)) = (14, n)

-- what a call answers that returns r and leaves these words and this buffer
abbrev pub answered : Result ℕ SelectError → List ℕ → List ℕ → Selected
answered r words buffer =
    record { number = (selection_says r).0; count = (selection_says r).1; words = words; buffer = buffer }
