-- Every line of a program keeps demand 3 on the room left to it, whichever call reads the lines.
use mathlib.Core.Path.{◌≡◌, refl, subst}
use mathlib.Core.Bool.{true}
use mathlib.Core.List.{List, [], ◌∷◌}
use Prim.Native.Nat.{ℕ, ◌+◌}
use lib.ListN.{length, drop}
use Rattle.plain.specs.Told.{Told}
use Rattle.defs.specs.Table.{table_fits}
use Rattle.ruledef_map.specs.RuledefMap.{line_prefix}
use Rattle.readings.specs.Scene.{Scene}
use Rattle.readings.specs.Walk.{top_pairs}
use Rattle.readings.specs.Lookup.{found_pairs}
use Rattle.readings.proofs.Theorems.{scan-demand, lookup-demand}
use Rattle.lines.specs.Lines.{Line, lines_of, program_fits}
use Rattle.runs.specs.Program.{taken, run_lines, line_call, scan_program, lookup_program}
use Rattle.runs.specs.Demand.{LineReads, Kept, ReadLines, none, more, ReadProgram}
use Rattle.runs.proofs.Wholes.{ran-whole}
use Rattle.runs.proofs.Shapes.{shape-keeps, line-shape}

-- the rules that a lookup tries
abbrev pub prefixed : Scene → List (ℕ × ℕ)
prefixed s = found_pairs s (line_prefix s.line)

module _ (t : List ℕ) (call : Line → List ℕ → Told) (reads : (x : Line) (room : List ℕ) → LineReads t x room (call x room))
    (keeps : (x : Line) (room : List ℕ) → Kept room (call x room)) where
  pub lines-read : (xs : List Line) (used : ℕ) (room : List ℕ) → ReadLines t xs used room (run_lines call xs used room)
  unfolding run_lines
  lines-read [] used room = none refl
  lines-read (x ∷ xs) used room =
      more (call x room) (reads x room) (keeps x room)
      (subst (λ (l : List ℕ). ReadLines t xs (used + taken (call x room)) l (run_lines call xs (used + taken (call x room)) (drop (taken (call x room)) (call x room).buffer))) (keeps x room).rest
      (lines-read xs (used + taken (call x room)) (drop (taken (call x room)) (call x room).buffer))) refl

keeps : (order : Scene → List (ℕ × ℕ)) (t : List ℕ) (x : Line) (room : List ℕ) → Kept room (line_call order t x room)
keeps order t x room = shape-keeps (line-shape order t x) room

scan-reads : (t : List ℕ) (x : Line) (room : List ℕ) → LineReads t x room (line_call top_pairs t x room)
scan-reads t x room ok w = scan-demand t x.bytes x.sheet x.budget x.base room ok w

lookup-reads : (t : List ℕ) (x : Line) (room : List ℕ) → LineReads t x room (line_call prefixed t x room)
lookup-reads t x room ok w = (lookup-demand t x.bytes x.sheet x.budget x.base room ok w).0

module _ (t text ends sheets budgets bases rows answers : List ℕ) (ok : table_fits t ≡ true)
    (fit : program_fits (length text) ends (length sheets) (length budgets) (length bases) (length rows) ≡ true) where
  pub scan-program-reads : ReadProgram t text ends sheets budgets bases answers (scan_program t text ends sheets budgets bases rows answers)
  scan-program-reads = record {
    ran = run_lines (line_call top_pairs t) (lines_of text ends sheets budgets bases) 0 answers;
    is = ran-whole top_pairs t text ends sheets budgets bases rows answers ok fit;
    reads = lines-read t (line_call top_pairs t) (scan-reads t) (keeps top_pairs t) (lines_of text ends sheets budgets bases) 0 answers;
  }

  pub lookup_program-reads : ReadProgram t text ends sheets budgets bases answers (lookup_program t text ends sheets budgets bases rows answers)
  lookup_program-reads = record {
    ran = run_lines (line_call prefixed t) (lines_of text ends sheets budgets bases) 0 answers;
    is = ran-whole prefixed t text ends sheets budgets bases rows answers ok fit;
    reads = lines-read t (line_call prefixed t) (lookup-reads t) (keeps prefixed t) (lines_of text ends sheets budgets bases) 0 answers;
  }
