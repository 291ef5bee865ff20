-- The matches of a call, and the measure of their answer.
use Rattle.std.specs.Prelude.{Some, ◌≡◌, ℕ, ◌≤◌, ◌<◌, length, take, get_or}
use mathlib.Core.List.{List, [], map, Memᴰ}
use Rattle.readings.specs.Tree.{Tree, moved}
use Rattle.readings.specs.Scene.{scene_of}
use Rattle.readings.specs.Call.{tree}
use Rattle.readings.specs.Answer.{exact_count, greatest_count, best, tree_words, answer_words}
use Rattle.readings.specs.Measure.{Fit}
use Rattle.pool.specs.Log.{decode, depth_in, log_of}
use Rattle.pool.specs.Meaning.{gathered, Stored, entries}
use Rattle.pool.specs.Counted.{Counted}
use Rattle.answer.specs.declared.Measure.{Measure}

-- the matches of a call: the records of depth 0, in order
abbrev pub trees_in : List ℕ → ℕ → List Tree
trees_in store used = map tree (gathered 0 (entries store used))

-- those among the first records
unfoldable pub trees_to : List ℕ → ℕ → ℕ → List Tree
trees_to store used i = map tree (gathered 0 (take i (entries store used)))

-- what is known of them: their counts fit, and their words (at most 3 a record)
pub record Bounded (t store : List ℕ) (used : ℕ) : Type 0 where
  pub counts : (u : Tree) → Memᴰ u (trees_in store used) → exact_count (scene_of t [] []) u ≤ 65535
  pub words : (u : Tree) → Memᴰ u (trees_in store used) → length (tree_words u) ≤ 12288

-- under a base, every word of theirs fits 32 bits
pub record FitFrom (base : ℕ) (store : List ℕ) (used : ℕ) : Type 0 where
  pub each : (u : Tree) → Memᴰ u (trees_in store used) → Fit (tree_words (moved base u))

-- the answer's number of matches, greatest count and number of words
unfoldable pub measured : List ℕ → List Tree → Measure
measured t ts = record {
  matches = length (best (scene_of t [] []) ts);
  greatest = greatest_count (scene_of t [] []) ts;
  words = length (answer_words (scene_of t [] []) ts);
}

-- what one match more asks: a record of depth 0, and the measure of the matches among the records before it
pub record OneMore (t store : List ℕ) (used m : ℕ) (found : Measure) : Type 0 where
  pub stored : Stored store used
  pub counted : Counted (scene_of t [] []) (log_of store used)
  pub bounded : Bounded t store used
  pub below : m < used
  pub top : depth_in (decode (get_or store m 0)) ≡ Some 0
  pub is : found ≡ measured t (trees_to store used m)
