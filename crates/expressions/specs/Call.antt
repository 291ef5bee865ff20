-- The call that fills a sheet: which number, which fields and which sheet at the end, for any line and lent sheet.
-- In words: docs/MANUAL.md, 2.3.
use Rattle.std.specs.Prelude.{◌≡◌, true, false, List, ℕ, length, None, Some, Result, Ok, Err}
use Rattle.plain.specs.Told.{Told, refused_at}
use Rattle.line.specs.Line.{fault_at}
use Rattle.extents.specs.Sheet.{sized, sheet_fits}
use Rattle.expressions.specs.Sheet.{SheetIs}
use Rattle.expressions.specs.declared.FillError.{FillError}
use Rattle.expressions.specs.declared.FillError.TheVariants.{BadLine, BadRoom}

-- 0: the sheet is filled; words is its length
abbrev pub filled_with : ℕ → List ℕ → Told
filled_with n b = record { number = 0; visits = 0; words = n; place = 0; buffer = b }

-- Refusals: 3 for a bad line, then 18 if the lent sheet's length is wrong; unchanged in both. Else the sheet is the line's.
pub data FillCall (line sheet : List ℕ) (r : Told) : Type 0 where
  bad_line : (p : ℕ) → fault_at line ≡ Some p → r ≡ refused_at 3 p sheet → FillCall line sheet r
  bad_room : fault_at line ≡ None → sized sheet (length line) ≡ false → r ≡ refused_at 18 0 sheet → FillCall line sheet r
  filled : (after : List ℕ) → fault_at line ≡ None → sized sheet (length line) ≡ true → SheetIs line after
      → r ≡ filled_with (length after) after → FillCall line sheet r

-- a sheet that is filled passes document 01's check
abbrev pub FilledFits : List ℕ → Told → Type 0
FilledFits line r = r.number ≡ 0 → sheet_fits r.buffer (length line) ≡ true

-- each answer's number and fields, with the sheet as it is left
abbrev pub fill_says : Result ℕ FillError → List ℕ → Told
fill_says (Ok n) b = filled_with n b
fill_says (Err (BadLine p)) b = refused_at 3 p b
fill_says (Err BadRoom) b = refused_at 18 0 b
