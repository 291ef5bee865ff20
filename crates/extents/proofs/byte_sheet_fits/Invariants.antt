-- `extents::byte_sheet_fits` meets its contract. The loop's invariant: the rows of both halves before the start fit.
use mathlib.Core.Path.{◌≡◌}
use mathlib.Core.Bool.{true, ◌&&◌}
use Prim.Native.Nat.{ℕ}
use Rattle.plain.specs.Below.{every_below}
use Rattle.extents.specs.Sheet.{row_fits}
use Rattle.extents.specs.declared.Half.TheVariants.{Free, Greedy}
use Rattle.extents.proofs.byte_sheet_fits.Given as goal

abbrev pub invariant-loop-c : goal.invariant-loop-c
invariant-loop-c l = every_below l.c (λ (k : ℕ). row_fits l.sheet l.n Free k && row_fits l.sheet l.n Greedy k) ≡ true
