-- What a program call's answer says: document 02's number and fields for each case, with rows and answers. And what a line's
-- answer puts into its row.
use Rattle.std.specs.Prelude.{◌≡◌, List, ℕ, Result, Ok, Err}
use Rattle.runs.specs.Program.{ProgramTold, taken, refused_whole, ran_whole}
use Rattle.trials.specs.declared.Matched.{Matched}
use Rattle.trials.specs.declared.Refused.{Refused}
use Rattle.trials.specs.Told.{says}
use Rattle.program.specs.declared.Row.{Row}
use Rattle.program.specs.declared.ProgramError.{ProgramError}
use Rattle.program.specs.declared.ProgramError.TheVariants.{BadTable, BadProgram}

-- each answer's number and fields, with rows and answers
abbrev pub program_says : Result ℕ ProgramError → List ℕ → List ℕ → ProgramTold
program_says (Ok w) rows answers = ran_whole (record { rows = rows; words = w; answers = answers })
program_says (Err BadTable) rows answers = refused_whole 2 rows answers
program_says (Err BadProgram) rows answers = refused_whole 17 rows answers

-- a line's number, and the words that it takes
pub record RowOf (answer : Result Matched Refused) (row : Row) : Type 0 where
  pub number : (b : List ℕ) → row.number ≡ (says answer b).number
  pub words : (b : List ℕ) → row.words ≡ taken (says answer b)
