-- A whole program: its lines one after another, each by the single call on the room that is left.
-- In words: docs/MANUAL.md, 11.
use Rattle.std.specs.Prelude.{not, List, [], ◌∷◌, ◌++◌, ℕ, ◌+◌, eqb, length, take, drop}
use Rattle.plain.specs.Choice.{select}
use Rattle.plain.specs.Told.{Told, refused_at}
use Rattle.defs.specs.Table.{table_fits}
use Rattle.ruledef_map.specs.RuledefMap.{line_prefix}
use Rattle.readings.specs.Scene.{Scene}
use Rattle.readings.specs.Walk.{top_pairs}
use Rattle.readings.specs.Lookup.{found_pairs}
use Rattle.readings.specs.Call.{call_with}
use Rattle.lines.specs.Lines.{Line, lines_of, program_fits}

-- what lines leave: two words of rows a line, the answer words used in all, and the answer words themselves
pub record Ran : Type 0 where
  pub rows : List ℕ
  pub words : ℕ
  pub answers : List ℕ

-- a matched line takes its words, a refused one none
unfoldable pub taken : Told → ℕ
taken r = select (eqb r.number 0) r.words 0

-- a line's row is its number and the answer words used before it; its words stand before those of the lines after it
abbrev pub line_then : Told → ℕ → Ran → Ran
line_then r used rest = record {
  rows = r.number ∷ used ∷ rest.rows;
  words = rest.words;
  answers = take (taken r) r.buffer ++ rest.answers;
}

-- the lines, after so many words used, on the room that is left
unfoldable pub run_lines : (Line → List ℕ → Told) → List Line → ℕ → List ℕ → Ran
run_lines call [] used room = record { rows = []; words = used; answers = room }
run_lines call (x ∷ xs) used room =
    line_then (call x room) used (run_lines call xs (used + taken (call x room)) (drop (taken (call x room)) (call x room).buffer))

-- a line by the single call's own definition; the line's buffer is the room left
abbrev pub line_call : (Scene → List (ℕ × ℕ)) → List ℕ → Line → List ℕ → Told
line_call order t x room = call_with order t x.bytes x.sheet x.budget x.base room

-- what a program call tells, with the rows as it leaves them; the buffer is that of the answers
pub record ProgramTold : Type 0 where
  pub told : Told
  pub rows : List ℕ

-- 2 and 17: nothing is written
abbrev pub refused_whole : ℕ → List ℕ → List ℕ → ProgramTold
refused_whole n rows answers = record { told = refused_at n 0 answers; rows = rows }

-- 0: the words used in all; visits are 0
abbrev pub ran_whole : Ran → ProgramTold
ran_whole ran = record { told = record { number = 0; visits = 0; words = ran.words; place = 0; buffer = ran.answers }; rows = ran.rows }

-- the table is judged first, then all that is lent for the lines, before any line
unfoldable pub program_with : (Scene → List (ℕ × ℕ)) → List ℕ → List ℕ → List ℕ → List ℕ → List ℕ → List ℕ → List ℕ → List ℕ → ProgramTold
program_with order t text ends sheets budgets bases rows answers =
    select (not (table_fits t)) (refused_whole 2 rows answers)
    (select (not (program_fits (length text) ends (length sheets) (length budgets) (length bases) (length rows))) (refused_whole 17 rows answers)
    (ran_whole (run_lines (line_call order t) (lines_of text ends sheets budgets bases) 0 answers)))

-- by full scan, and by prefix lookup
abbrev pub scan_program : List ℕ → List ℕ → List ℕ → List ℕ → List ℕ → List ℕ → List ℕ → List ℕ → ProgramTold
scan_program = program_with top_pairs

abbrev pub lookup_program : List ℕ → List ℕ → List ℕ → List ℕ → List ℕ → List ℕ → List ℕ → List ℕ → ProgramTold
lookup_program = program_with (λ s. found_pairs s (line_prefix s.line))
