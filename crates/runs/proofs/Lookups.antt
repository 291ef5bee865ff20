-- Where the scan of every line stays within, lookup's rows are the scan's, word for word.
use mathlib.Core.Path.{◌≡◌, refl, sym, ap, ◌∙◌}
use mathlib.Core.Bool.{Bool, true, false, not}
use mathlib.Core.List.Memᴰ
use mathlib.Core.List.{List, [], ◌∷◌}
use Prim.Native.Nat.{ℕ}
use lib.ListN.{length}
use Rattle.plain.specs.Choice.{select}
use Rattle.plain.specs.Told.{Told}
use Rattle.defs.specs.Table.{table_fits}
use Rattle.readings.specs.Walk.{top_pairs}
use Rattle.readings.specs.Call.{Accepted}
use Rattle.readings.proofs.Calls as Calls
use Rattle.readings.proofs.Numbers.{Case, table, bytes, extents, visits, origin, walk, none_found, too_long, found, exactly}
use Rattle.readings.proofs.Theorems.{lookup-agrees}
use Rattle.lines.specs.Lines.{Line, lines_of, program_fits}
use Rattle.runs.specs.Program.{Ran, run_lines, line_call, ProgramTold, refused_whole, ran_whole, program_with, scan_program, lookup_program}
use Rattle.runs.specs.Demand.{LineWithin, AllWithin}
use Rattle.runs.proofs.Shapes.{line-shape}
use Rattle.runs.proofs.Rows.{Alike, AllAlike, none, more, rows_alike}
use Rattle.runs.proofs.Demands.{prefixed}

module _ (t : List ℕ) (x : Line) (room : List ℕ) (within : LineWithin t x) where
  abbrev looked : Told
  looked = line_call prefixed t x room

  abbrev scanned : Told
  scanned = line_call top_pairs t x room

  both : {r : Told} → looked ≡ r → scanned ≡ r → Alike looked scanned
  both e f = (ap (λ (r : Told). r.number) (e ∙ sym f), ap (λ (r : Told). r.words) (e ∙ sym f))

  accepted : Accepted t x.bytes x.sheet x.budget x.base → Alike looked scanned
  accepted a = lookup-agrees t x.bytes x.sheet x.budget x.base room a (within a)

  by-case : {n : ℕ} → Case top_pairs t x.bytes x.sheet x.budget x.base room n → Alike looked scanned
  by-case (table e) = both (Calls.bad-table prefixed t x.bytes x.sheet x.budget x.base room e) (Calls.bad-table top_pairs t x.bytes x.sheet x.budget x.base room e)
  by-case (bytes p e f) = both (Calls.bad-line prefixed t x.bytes x.sheet x.budget x.base room p e f) (Calls.bad-line top_pairs t x.bytes x.sheet x.budget x.base room p e f)
  by-case (extents e f g) = both (Calls.bad-sheet prefixed t x.bytes x.sheet x.budget x.base room e f g) (Calls.bad-sheet top_pairs t x.bytes x.sheet x.budget x.base room e f g)
  by-case (visits e f g h) = both (Calls.bad-budget prefixed t x.bytes x.sheet x.budget x.base room e f g h) (Calls.bad-budget top_pairs t x.bytes x.sheet x.budget x.base room e f g h)
  by-case (origin e f g h i) = both (Calls.bad-base prefixed t x.bytes x.sheet x.budget x.base room e f g h i) (Calls.bad-base top_pairs t x.bytes x.sheet x.budget x.base room e f g h i)
  by-case (walk left a e) = accepted a
  by-case (none_found left used a e) = accepted a
  by-case (too_long left used m ms a e h) = accepted a
  by-case (found left used m ms a e h) = accepted a

  pub line-agrees : Alike looked scanned
  line-agrees = by-case ((exactly top_pairs t x.bytes x.sheet x.budget x.base room scanned.number).0 refl)

-- two programs that are refused alike, and else have the same rows and words
pub chosen : (b c : Bool) (two seventeen r s : ProgramTold) → r.rows ≡ s.rows → r.told.words ≡ s.told.words
    → ((select (not b) two (select (not c) seventeen r)).rows ≡ (select (not b) two (select (not c) seventeen s)).rows)
    × ((select (not b) two (select (not c) seventeen r)).told.words ≡ (select (not b) two (select (not c) seventeen s)).told.words)
chosen false c two seventeen r s e f = (refl, refl)
chosen true false two seventeen r s e f = (refl, refl)
chosen true true two seventeen r s e f = (e, f)

module _ (t : List ℕ) where
  abbrev scans : List Line → ℕ → List ℕ → Ran
  scans = run_lines (line_call top_pairs t)

  abbrev lookups : List Line → ℕ → List ℕ → Ran
  lookups = run_lines (line_call prefixed t)

  all-agree : (xs : List Line) → AllWithin t xs → AllAlike (line_call prefixed t) (line_call top_pairs t) xs xs
  all-agree [] all = none
  all-agree (x ∷ xs) all = more (λ room. line-agrees t x room (all x (Memᴰ.head refl))) (all-agree xs (λ y m. all y (Memᴰ.tail m)))

  module _ (text ends sheets budgets bases rows answers : List ℕ) where
    -- where the scan of every line stays within, lookup's rows and words used are the scan's
    pub programs-agree : AllWithin t (lines_of text ends sheets budgets bases)
        → ((lookup_program t text ends sheets budgets bases rows answers).rows ≡ (scan_program t text ends sheets budgets bases rows answers).rows)
        × ((lookup_program t text ends sheets budgets bases rows answers).told.words ≡ (scan_program t text ends sheets budgets bases rows answers).told.words)
    unfolding program_with
    programs-agree all =
        let (rs, ws) = rows_alike (line_call prefixed t) (line_call top_pairs t) (line-shape prefixed t) (line-shape top_pairs t) (all-agree (lines_of text ends sheets budgets bases) all) 0 answers answers refl in
        chosen (table_fits t) (program_fits (length text) ends (length sheets) (length budgets) (length bases) (length rows)) (refused_whole 2 rows answers) (refused_whole 17 rows answers)
        (ran_whole (lookups (lines_of text ends sheets budgets bases) 0 answers)) (ran_whole (scans (lines_of text ends sheets budgets bases) 0 answers)) rs ws
