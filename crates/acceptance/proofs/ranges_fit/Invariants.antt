-- The loop's invariant: every range passed fits, and `sum` is the sum of the counts passed.
use mathlib.Core.Path.{◌≡◌}
use mathlib.Core.Bool.{true}
use Prim.Native.Nat.{◌*◌, ◌≤◌}
use Rattle.plain.specs.Below.{every_below, sum_below}
use Rattle.defs.specs.Table.{count_at, range_fits}
use Rattle.acceptance.proofs.ranges_fit.Given as goal

abbrev pub invariant-loop-rule : goal.invariant-loop-rule
invariant-loop-rule l = (every_below l.rule (range_fits l.table) ≡ true) × ((l.sum ≡ sum_below l.rule (count_at l.table)) × (l.sum ≤ 64 * l.rule))
