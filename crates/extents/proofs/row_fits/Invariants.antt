-- `extents::row_fits` meets its contract. The loop's invariant: every entry of the row before the
-- limit fits.
use mathlib.Core.Path.{◌≡◌}
use mathlib.Core.Bool.{true}
use Rattle.plain.specs.Below.{every_below}
use Rattle.extents.specs.Sheet.{fits_at}
use Rattle.extents.proofs.row_fits.Given as goal

abbrev pub invariant-loop-l : goal.invariant-loop-l
invariant-loop-l l = every_below l.l (fits_at l.sheet l.n l.half l.c) ≡ true
