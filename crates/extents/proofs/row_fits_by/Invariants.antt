-- `extents::row_fits_by` meets its contract. The loop's invariant: something was odd exactly if not every pair before the
-- limit fits. What it leaves is the last chunk (`row-covered`).
use mathlib.Core.Path.{◌≡◌}
use mathlib.Core.Bool.{not}
use Prim.Native.Nat.{◌+◌, ◌-◌, ◌≤◌}
use Rattle.plain.specs.Below.{every_below}
use Rattle.extents.proofs.Chunks.{both_at}
use Rattle.extents.proofs.row_fits_by.Given as goal

abbrev pub invariant-loop-l : goal.invariant-loop-l
invariant-loop-l g l = (l.l ≤ l.n + 1) × (every_below l.l (both_at l.sheet l.n l.c) ≡ not l.odd)

abbrev pub decreases-loop-l : goal.decreases-loop-l
decreases-loop-l g l = l.last - l.l
