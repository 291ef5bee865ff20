-- Demand 3 for every line of a program, over the reading relation, with the room left as the line's room.
-- In words: docs/MANUAL.md, 11.
use Rattle.std.specs.Prelude.{◌≡◌, ℕ, ◌+◌, ◌≤◌, length, drop}
use mathlib.Core.List.{List, [], ◌∷◌, Memᴰ}
use Rattle.plain.specs.Told.{Told}
use Rattle.readings.specs.Scene.{scene_of, based}
use Rattle.readings.specs.Call.{Accepted}
use Rattle.readings.specs.Demand.{Within, Demand3}
use Rattle.lines.specs.Lines.{Line, lines_of}
use Rattle.runs.specs.Program.{Ran, ProgramTold, taken, line_then, ran_whole}

-- the scan of a line, if it is accepted, stays within visits, depth and pool
abbrev pub LineWithin : List ℕ → Line → Type 0
LineWithin t x = Accepted t x.bytes x.sheet x.budget x.base → Within t x.bytes x.sheet x.budget

-- what a line tells on the room left keeps demand 3, if the line is accepted and its scan stays within
abbrev pub LineReads : List ℕ → Line → List ℕ → Told → Type 0
LineReads t x room r =
    Accepted t x.bytes x.sheet x.budget x.base → Within t x.bytes x.sheet x.budget → Demand3 (based x.base (scene_of t x.bytes x.sheet)) room r

-- what a line leaves of its room: the words that it takes stand at its start, and the rest is as it was
pub record Kept (room : List ℕ) (r : Told) : Type 0 where
  pub long : length r.buffer ≡ length room
  pub fits : taken r ≤ length room
  pub rest : drop (taken r) r.buffer ≡ drop (taken r) room

-- rows and answers come of lines that keep it, one after another, each on the room that those before it left
pub data ReadLines (t : List ℕ) : List Line → ℕ → List ℕ → Ran → Type 0 where
  none : {used : ℕ} {room : List ℕ} {ran : Ran} → ran ≡ record { rows = []; words = used; answers = room } → ReadLines t [] used room ran
  more : {x : Line} {xs : List Line} {used : ℕ} {room : List ℕ} {ran rest : Ran} (r : Told) → LineReads t x room r → Kept room r
      → ReadLines t xs (used + taken r) (drop (taken r) room) rest → ran ≡ line_then r used rest → ReadLines t (x ∷ xs) used room ran

-- of a program that is not refused
pub record ReadProgram (t text ends sheets budgets bases answers : List ℕ) (told : ProgramTold) : Type 0 where
  pub ran : Ran
  pub is : told ≡ ran_whole ran
  pub reads : ReadLines t (lines_of text ends sheets budgets bases) 0 answers ran

-- the scan of every line stays within
abbrev pub AllWithin : List ℕ → List Line → Type 0
AllWithin t xs = (x : Line) → Memᴰ x xs → LineWithin t x
