-- The whole program call, case by case: 2 comes first, then 17, and each leaves rows and answers as they were; else the lines run.
use mathlib.Core.Path.{◌≡◌, sym, ap, ◌∙◌}
use mathlib.Core.Bool.{true, false}
use mathlib.Core.List.{List}
use Prim.Native.Nat.{ℕ}
use lib.ListN.{length}
use Rattle.defs.specs.Table.{table_fits}
use Rattle.readings.specs.Scene.{Scene}
use Rattle.lines.specs.Lines.{lines_of, program_fits}
use Rattle.runs.specs.Program.{Ran, run_lines, line_call, refused_whole, ran_whole, program_with}

module _ (order : Scene → List (ℕ × ℕ)) (t text ends sheets budgets bases rows answers : List ℕ) where
  -- whatever else is lent
  pub bad-table : table_fits t ≡ false → refused_whole 2 rows answers ≡ program_with order t text ends sheets budgets bases rows answers
  unfolding program_with
  bad-table e = sym (rw (program_with, e))

  module _ (ok : table_fits t ≡ true) where
    pub bad-program : program_fits (length text) ends (length sheets) (length budgets) (length bases) (length rows) ≡ false → refused_whole 17 rows answers ≡ program_with order t text ends sheets budgets bases rows answers
    unfolding program_with
    bad-program e = sym (rw (program_with, ok, e))

    module _ (fit : program_fits (length text) ends (length sheets) (length budgets) (length bases) (length rows) ≡ true) where
      pub ran-whole : program_with order t text ends sheets budgets bases rows answers ≡ ran_whole (run_lines (line_call order t) (lines_of text ends sheets budgets bases) 0 answers)
      unfolding program_with
      ran-whole = rw (program_with, ok, fit)

      pub program-told : {ran : Ran} → ran ≡ run_lines (line_call order t) (lines_of text ends sheets budgets bases) 0 answers → ran_whole ran ≡ program_with order t text ends sheets budgets bases rows answers
      program-told e = ap ran_whole e ∙ sym ran-whole
