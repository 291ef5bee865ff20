-- `extents::half_fits` meets its contract. The loop's invariant: every row before the start fits.
use mathlib.Core.Path.{◌≡◌}
use mathlib.Core.Bool.{true}
use Rattle.plain.specs.Below.{every_below}
use Rattle.extents.specs.Sheet.{row_fits}
use Rattle.extents.proofs.half_fits.Given as goal

abbrev pub invariant-loop-c : goal.invariant-loop-c
invariant-loop-c l = every_below l.c (row_fits l.sheet l.n l.half) ≡ true
