-- The loop's invariant: if nothing was odd, the bytes passed are allowed.
use mathlib.Core.Path.{◌≡◌}
use mathlib.Core.Bool.{false}
use Prim.Native.Nat.{◌+◌}
use Rattle.line.specs.Line.{AllowedBetween}
use Rattle.line.proofs.sixteen_odd.Given as goal

abbrev pub invariant-loop-i : goal.invariant-loop-i
invariant-loop-i l = l.odd ≡ false → AllowedBetween l.line l.from (l.from + l.i)
