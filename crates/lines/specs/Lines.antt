-- A program's lines: where each begins and ends in the text, its sheet, its budget and its base, and when all that is lent for
-- them fits.
-- In words: docs/MANUAL.md, 11.
use Rattle.std.specs.Prelude.{Bool, true, ◌&&◌, List, [], ◌∷◌, ℕ, ◌+◌, ◌*◌, ◌-◌, leb, eqb, length, get_or, take, drop, Option, None, Some}
use Rattle.std.proofs.Math.Seq.{slice}
use Rattle.plain.specs.Choice.{select}

-- a line's bytes, its sheet, its budget and its base
pub record Line : Type 0 where
  pub bytes : List ℕ
  pub sheet : List ℕ
  pub budget : ℕ
  pub base : ℕ

-- a sheet has 2(n+1)² bytes for a line of n bytes up to 120; a longer line has none
unfoldable pub sheet_size : ℕ → ℕ
sheet_size n = select (leb n 120) (2 * ((n + 1) * (n + 1))) 0

-- each line goes from the end before it to its own end; sheets stand one after another
unfoldable pub lines_from : ℕ → List ℕ → List ℕ → List ℕ → List ℕ → List ℕ → List Line
lines_from from text [] sheets budgets bases = []
lines_from from text (end ∷ ends) sheets budgets bases =
    record { bytes = slice from end text; sheet = take (sheet_size (end - from)) sheets; budget = get_or budgets 0 0; base = get_or bases 0 0 }
    ∷ lines_from end text ends (drop (sheet_size (end - from)) sheets) (drop 1 budgets) (drop 1 bases)

-- the first begins at 0
abbrev pub lines_of : List ℕ → List ℕ → List ℕ → List ℕ → List ℕ → List Line
lines_of text ends sheets budgets bases = lines_from 0 text ends sheets budgets bases

-- ends don't fall, and don't pass the text, which has n bytes
unfoldable pub ends_fit : ℕ → List ℕ → ℕ → Bool
ends_fit from [] n = true
ends_fit from (end ∷ ends) n = leb from end && (leb end n && ends_fit end ends n)

-- the bytes of all sheets
unfoldable pub sheets_size : ℕ → List ℕ → ℕ
sheets_size from [] = 0
sheets_size from (end ∷ ends) = sheet_size (end - from) + sheets_size end ends

-- up to 256 lines; ends; sheets, a budget and a base a line, and two words of rows a line, of the right lengths
unfoldable pub program_fits : ℕ → List ℕ → ℕ → ℕ → ℕ → ℕ → Bool
program_fits text ends sheets budgets bases rows =
    leb (length ends) 256
    && (ends_fit 0 ends text
    && (eqb sheets (sheets_size 0 ends) && (eqb budgets (length ends) && (eqb bases (length ends) && eqb rows (2 * length ends)))))

-- what the ends say: the bytes of all sheets, or that they don't fit
unfoldable pub ends_of : ℕ → List ℕ → Option ℕ
ends_of text ends = select (ends_fit 0 ends text) (Some (sheets_size 0 ends)) None
