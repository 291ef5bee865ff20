-- Demand 3, over the reading relation: what a call that is not refused by its walk must have told.
-- In words: docs/MANUAL.md, 4 and 6.
use Rattle.std.specs.Prelude.{◌≡◌, ℕ, ◌≤◌, ◌<◌, length}
use mathlib.Core.List.{List, Memᴰ}
use Rattle.plain.specs.Buffers.{at_start}
use Rattle.plain.specs.Lists.{Apart}
use Rattle.plain.specs.Told.{Told}
use Rattle.readings.specs.Tree.{Tree}
use Rattle.readings.specs.Scene.{Scene, scene_of}
use Rattle.readings.specs.Reading.{Reading}
use Rattle.readings.specs.Plan.{done, run}
use Rattle.readings.specs.Walk.{Match, scan}
use Rattle.readings.specs.Answer.{exact_count, words_of}

-- the full scan stays within visits, depth and pool; of the line alone, since a base changes neither visits nor records
pub record Within (t line sheet : List ℕ) (budget : ℕ) : Type 0 where
  pub left : ℕ
  pub used : ℕ
  pub matches : List Match
  pub ends : run (scan (scene_of t line sheet)) budget 0 ≡ done left used matches

-- a reading that no reading exceeds in exact count
pub record Greatest (s : Scene) (t : Tree) : Type 0 where
  pub reads : Reading s t
  pub most : (u : Tree) → Reading s u → exact_count s u ≤ exact_count s t

-- these trees are the readings with the greatest exact count, each once, and nothing else
pub record BestReadings (s : Scene) (ts : List Tree) : Type 0 where
  pub only : {t : Tree} → Memᴰ t ts → Greatest s t
  pub every : {t : Tree} → Greatest s t → Memᴰ t ts
  pub once : Apart (λ (t : Tree). t) ts

-- those readings, of which there is one at least, and their count
pub record Best (s : Scene) : Type 0 where
  pub trees : List Tree
  pub count : ℕ
  pub readings : BestReadings s trees
  pub counts : (t : Tree) → Memᴰ t trees → exact_count s t ≡ count
  pub one : (t : Tree) × Memᴰ t trees

-- the answer words that they need
abbrev pub needed : {s : Scene} → Best s → List ℕ
needed best = words_of best.count best.trees

-- with room for these words, 0: they stand at the buffer's start, and the rest is unchanged; without, 9: nothing is changed
pub record Tells {s : Scene} (best : Best s) (b : List ℕ) (told : Told) : Type 0 where
  pub words : told.words ≡ length (needed best)
  pub room : length (needed best) ≤ length b → (told.number ≡ 0) × (told.buffer ≡ at_start (needed best) b)
  pub no_room : length b < length (needed best) → (told.number ≡ 9) × (told.buffer ≡ b)

-- "no match" when no reading exists; else every reading with the greatest exact count, each once, and nothing else
pub data Demand3 (s : Scene) (b : List ℕ) (told : Told) : Type 0 where
  no_match : ((t : Tree) → Reading s t → ⊥) → (told.number ≡ 1) × (told.words ≡ 0) × (told.buffer ≡ b) → Demand3 s b told
  listed : (best : Best s) → Tells best b told → Demand3 s b told
