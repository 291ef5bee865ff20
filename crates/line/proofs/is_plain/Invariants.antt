-- The loop's invariant: if nothing was odd, the bytes passed are allowed. What it leaves is the last sixteen.
use mathlib.Core.Path.{◌≡◌}
use mathlib.Core.Bool.{false}
use Prim.Native.Nat.{◌≤◌}
use lib.ListN.{length}
use Rattle.line.specs.Line.{AllowedBetween}
use Rattle.line.proofs.is_plain.Given as goal

abbrev pub invariant-loop-at : goal.invariant-loop-at
invariant-loop-at l = (l.at ≤ length l.line) × (l.odd ≡ false → AllowedBetween l.line 0 l.at)
