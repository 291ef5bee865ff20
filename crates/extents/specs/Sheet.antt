-- The extent sheet of a line of n bytes: "2(n+1)² bytes: free ends, then greedy decimal ends. The entry for start c and
-- limit l is at c(n+1)+l in its half: 255 for none, else from c to l." When a sheet is good, and the ends that it gives.
-- In words: docs/MANUAL.md, 2.3.
use Rattle.std.specs.Prelude.{◌≡◌, Bool, true, ◌&&◌, ◌||◌, List, ℕ, ◌+◌, ◌*◌, ◌≤◌, leb, ltb, eqb, length, get_or, Option, None, Some}
use Rattle.plain.specs.Choice.{select}
use Rattle.plain.specs.Below.{every_below}
use Rattle.extents.specs.declared.Half.{Half}
use Rattle.extents.specs.declared.Half.TheVariants.{Free, Greedy}

-- the sheet has 2(n+1)² bytes
unfoldable pub sized : List ℕ → ℕ → Bool
sized sheet n = eqb (length sheet) (2 * ((n + 1) * (n + 1)))

-- a start and a limit for which the sheet of a line of n bytes has an entry
pub record HasEntry (sheet : List ℕ) (n c l : ℕ) : Type 0 where
  pub size : sized sheet n ≡ true
  pub start : c ≤ n
  pub limit : l ≤ n

-- a start and a limit whose entry is read: the start is not above the limit
pub record ReadAt (sheet : List ℕ) (n c l : ℕ) : Type 0 where
  pub size : sized sheet n ≡ true
  pub order : c ≤ l
  pub limit : l ≤ n

-- where a half begins: the free ends first, then the greedy ones
abbrev pub half_from : Half → ℕ → ℕ
half_from Free n = 0
half_from Greedy n = (n + 1) * (n + 1)

-- where the entry for start c and limit l stands: at c(n+1)+l in its half
abbrev pub place_of : ℕ → Half → ℕ → ℕ → ℕ
place_of n half c l = half_from half n + (c * (n + 1) + l)

-- the entry's byte
unfoldable pub entry_at : List ℕ → ℕ → Half → ℕ → ℕ → ℕ
entry_at sheet n half c l = get_or sheet (place_of n half c l) 0

-- an entry is 255, or from its start c to its limit l
unfoldable pub entry_fits : ℕ → ℕ → ℕ → Bool
entry_fits c l e = eqb e 255 || (leb c e && leb e l)

-- the entry for start c and limit l fits, or its start lies above its limit
unfoldable pub fits_at : List ℕ → ℕ → Half → ℕ → ℕ → Bool
fits_at sheet n half c l = ltb l c || entry_fits c l (entry_at sheet n half c l)

-- so at every limit in the line, for start c
unfoldable pub row_fits : List ℕ → ℕ → Half → ℕ → Bool
row_fits sheet n half c = every_below (n + 1) (fits_at sheet n half c)

-- and for every start in the line
unfoldable pub half_fits : List ℕ → ℕ → Half → Bool
half_fits sheet n half = every_below (n + 1) (row_fits sheet n half)

-- a sheet is good if its length is right, and every entry of both halves, but for those whose start lies above their limit
unfoldable pub sheet_fits : List ℕ → ℕ → Bool
sheet_fits sheet n = sized sheet n && (half_fits sheet n Free && half_fits sheet n Greedy)

-- an entry's end: 255 for none
abbrev pub entry_end : ℕ → Option ℕ
entry_end e = select (eqb e 255) None (Some e)

-- there is an entry to read: the length is right, the start is not above the limit, and the limit lies in the line
unfoldable pub readable : List ℕ → ℕ → ℕ → ℕ → Bool
readable sheet n c l = sized sheet n && (leb c l && leb l n)

-- the end that a half has for start c and limit l
unfoldable pub end_in : List ℕ → ℕ → Half → ℕ → ℕ → Option ℕ
end_in sheet n half c l = select (readable sheet n c l) (entry_end (entry_at sheet n half c l)) None

-- free(c, l)
abbrev pub free_end : List ℕ → ℕ → ℕ → ℕ → Option ℕ
free_end sheet n c l = end_in sheet n Free c l

-- greedy(c, l)
abbrev pub greedy_end : List ℕ → ℕ → ℕ → ℕ → Option ℕ
greedy_end sheet n c l = end_in sheet n Greedy c l
