-- `extents::odd_from` meets its contract. The loop's invariant: something was odd exactly if not every pair of the chunk
-- so far fits.
use mathlib.Core.Path.{◌≡◌}
use mathlib.Core.Bool.{not}
use Prim.Native.Nat.{ℕ, ◌+◌}
use Rattle.plain.specs.Below.{every_below}
use Rattle.extents.proofs.Chunks.{both_at}
use Rattle.extents.proofs.odd_from.Given as goal

abbrev pub invariant-loop-i : goal.invariant-loop-i
invariant-loop-i g l = every_below l.i (λ (k : ℕ). both_at l.sheet l.n l.c (l.l + k)) ≡ not l.odd
