-- The loop's invariant: if nothing was odd, every word passed is a part.
use mathlib.Core.Path.{◌≡◌}
use mathlib.Core.Bool.{false}
use Prim.Native.Nat.{◌+◌}
use Rattle.acceptance.proofs.Eights.{PartsFrom}
use Rattle.acceptance.proofs.eight_odd.Given as goal

abbrev pub invariant-loop-i : goal.invariant-loop-i
invariant-loop-i l = l.odd ≡ false → PartsFrom l.sets l.table l.from (l.from + l.i)
