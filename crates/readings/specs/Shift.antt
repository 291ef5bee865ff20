-- What a call tells where its line begins so much further on in the file: every start and end moves by that much, and nothing
-- else changes.
-- In words: docs/MANUAL.md, 7.2.
use Rattle.std.specs.Prelude.{◌≡◌, List, map, ℕ}
use Rattle.plain.specs.Buffers.{at_start}
use Rattle.plain.specs.Told.{Told}
use Rattle.readings.specs.Tree.{Tree, moved}
use Rattle.readings.specs.Answer.{words_of}

-- On 0 the same count and the same matches in the same order, each moved; on any other number nothing is written. Answer words
-- are read in one way, so count and trees are those of the answer.
pub data ShiftedWords (d : ℕ) (b : List ℕ) (here there : Told) : Type 0 where
  answered : (count : ℕ) (trees : List Tree) → here.number ≡ 0 → here.buffer ≡ at_start (words_of count trees) b
      → there.buffer ≡ at_start (words_of count (map (moved d) trees)) b → ShiftedWords d b here there
  refused : (here.number ≡ 0 → ⊥) → here.buffer ≡ b → there.buffer ≡ b → ShiftedWords d b here there

pub record Shifted (d : ℕ) (b : List ℕ) (here there : Told) : Type 0 where
  pub number : there.number ≡ here.number
  pub visits : there.visits ≡ here.visits
  pub words : there.words ≡ here.words
  pub place : there.place ≡ here.place
  pub answer : ShiftedWords d b here there
