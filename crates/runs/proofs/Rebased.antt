-- Rows and words used do not depend on the bases: a line tells the same number and words under any two bases, neither refused or
-- both.
use mathlib.Core.Path.{◌≡◌, refl, sym, ap, ◌∙◌}
use mathlib.Core.Bool.{Bool, not}
use mathlib.Core.List.{List, [], ◌∷◌}
use Prim.Native.Nat.{ℕ, suc, ◌-◌}
use lib.ListN.{length, get_or, take, drop}
use lib.Seq.{slice}
use Rattle.plain.specs.Choice.{select}
use Rattle.defs.specs.Table.{table_fits}
use Rattle.readings.specs.Scene.{Scene}
use Rattle.readings.specs.Walk.{top_pairs}
use Rattle.readings.specs.Call.{base_fits}
use Rattle.readings.proofs.Shifts.{BaseFree, tops-free, found-free, base-free}
use Rattle.lines.specs.Lines.{sheet_size, lines_from, lines_of, program_fits}
use Rattle.runs.specs.Program.{run_lines, line_call, ProgramTold, refused_whole, ran_whole, program_with, scan_program, lookup_program}
use Rattle.runs.proofs.Shapes.{line-shape}
use Rattle.runs.proofs.Rows.{AllAlike, none, more, rows_alike}
use Rattle.runs.proofs.Demands.{prefixed}
use Rattle.runs.proofs.Lookups.{chosen}

-- lines lent with two lists of bases, which at each place are refused both or neither
module _ (order : Scene → List (ℕ × ℕ)) (free : BaseFree order) (t : List ℕ) where
  lines-alike : (from : ℕ) (text ends sheets budgets bases bases' : List ℕ) → ((i : ℕ) → base_fits (get_or bases i 0) ≡ base_fits (get_or bases' i 0))
      → AllAlike (line_call order t) (line_call order t) (lines_from from text ends sheets budgets bases) (lines_from from text ends sheets budgets bases')
  unfolding lines_from
  lines-alike from text [] sheets budgets bases bases' alike = none
  lines-alike from text (end ∷ ends) sheets budgets bases bases' alike =
      more
      (λ room.
      let (n, _, w) = base-free order free t (slice from end text) (take (sheet_size (end - from)) sheets) (get_or budgets 0 0) room (get_or bases 0 0) (get_or bases' 0 0) (alike 0) in
      (n, w))
      (lines-alike end text ends (drop (sheet_size (end - from)) sheets) (drop 1 budgets) (drop 1 bases) (drop 1 bases') (λ i. later bases i ∙ alike (suc i) ∙ sym (later bases' i)))
    where
      later : (l : List ℕ) (i : ℕ) → base_fits (get_or (drop 1 l) i 0) ≡ base_fits (get_or l (suc i) 0)
      later [] i = refl
      later (x ∷ l) i = refl

module _ (t text ends sheets budgets bases bases' rows answers : List ℕ) (many : length bases ≡ length bases')
    (alike : (i : ℕ) → base_fits (get_or bases i 0) ≡ base_fits (get_or bases' i 0)) where
  program-free : (order : Scene → List (ℕ × ℕ)) → BaseFree order
      → ((program_with order t text ends sheets budgets bases rows answers).rows ≡ (program_with order t text ends sheets budgets bases' rows answers).rows)
      × ((program_with order t text ends sheets budgets bases rows answers).told.words ≡ (program_with order t text ends sheets budgets bases' rows answers).told.words)
  unfolding program_with
  program-free order free =
      let (rs, ws) = rows_alike (line_call order t) (line_call order t) (line-shape order t) (line-shape order t) (lines-alike order free t 0 text ends sheets budgets bases bases' alike) 0 answers answers refl in
      let (p, q) = chosen (table_fits t) (program_fits (length text) ends (length sheets) (length budgets) (length bases) (length rows)) (refused_whole 2 rows answers) (refused_whole 17 rows answers)
      (ran_whole (run_lines (line_call order t) (lines_of text ends sheets budgets bases) 0 answers)) (ran_whole (run_lines (line_call order t) (lines_of text ends sheets budgets bases') 0 answers)) rs ws in
      let there = ap (λ (n : ℕ). program_fits (length text) ends (length sheets) (length budgets) n (length rows)) many in
      let swap = ap (λ (b : Bool). select (not (table_fits t)) (refused_whole 2 rows answers) (select (not b) (refused_whole 17 rows answers)
      (ran_whole (run_lines (line_call order t) (lines_of text ends sheets budgets bases') 0 answers)))) there in
      (p ∙ ap (λ (r : ProgramTold). r.rows) swap, q ∙ ap (λ (r : ProgramTold). r.told.words) swap)

  -- a program's rows, and the words that it uses, under other bases
  pub scan-rows-free : ((scan_program t text ends sheets budgets bases rows answers).rows ≡ (scan_program t text ends sheets budgets bases' rows answers).rows)
      × ((scan_program t text ends sheets budgets bases rows answers).told.words ≡ (scan_program t text ends sheets budgets bases' rows answers).told.words)
  scan-rows-free = program-free top_pairs tops-free

  pub lookup-rows-free : ((lookup_program t text ends sheets budgets bases rows answers).rows ≡ (lookup_program t text ends sheets budgets bases' rows answers).rows)
      × ((lookup_program t text ends sheets budgets bases rows answers).told.words ≡ (lookup_program t text ends sheets budgets bases' rows answers).told.words)
  lookup-rows-free = program-free prefixed found-free
