-- Demand 3 for every line, and lookup beside the scan, in the contracts of the two program calls.
use mathlib.Core.Path.{◌≡◌, sym, ap, subst, ◌∙◌}
use mathlib.Core.Bool.{true}
use mathlib.Core.List.{List}
use Prim.Native.Nat.{ℕ}
use lib.ListN.{length}
use Rattle.defs.specs.Table.{table_fits}
use Rattle.lines.specs.Lines.{lines_of, program_fits}
use Rattle.runs.specs.Program.{ProgramTold, scan_program, lookup_program}
use Rattle.runs.specs.Demand.{ReadProgram, AllWithin}
use Rattle.runs.proofs.Demands.{scan-program-reads, lookup_program-reads}
use Rattle.runs.proofs.Lookups.{programs-agree}

module _ (t text ends sheets budgets bases rows answers : List ℕ) (r : ProgramTold) where
  pub scan-reads : r ≡ scan_program t text ends sheets budgets bases rows answers → table_fits t ≡ true
      → program_fits (length text) ends (length sheets) (length budgets) (length bases) (length rows) ≡ true → ReadProgram t text ends sheets budgets bases answers r
  scan-reads e ok fit = subst (ReadProgram t text ends sheets budgets bases answers) (sym e) (scan-program-reads t text ends sheets budgets bases rows answers ok fit)

  module _ (e : r ≡ lookup_program t text ends sheets budgets bases rows answers) where
    pub lookup-reads : table_fits t ≡ true → program_fits (length text) ends (length sheets) (length budgets) (length bases) (length rows) ≡ true → ReadProgram t text ends sheets budgets bases answers r
    lookup-reads ok fit = subst (ReadProgram t text ends sheets budgets bases answers) (sym e) (lookup_program-reads t text ends sheets budgets bases rows answers ok fit)

    pub lookup-agrees : AllWithin t (lines_of text ends sheets budgets bases)
        → (r.rows ≡ (scan_program t text ends sheets budgets bases rows answers).rows) × (r.told.words ≡ (scan_program t text ends sheets budgets bases rows answers).told.words)
    lookup-agrees all =
        let (p, q) = programs-agree t text ends sheets budgets bases rows answers all in
        (ap (λ (x : ProgramTold). x.rows) e ∙ p, ap (λ (x : ProgramTold). x.told.words) e ∙ q)
