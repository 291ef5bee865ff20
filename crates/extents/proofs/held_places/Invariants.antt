-- `extents::held_places` meets its contract. The loop's invariant: every place before the next holds itself.
use mathlib.Core.Path.{◌≡◌}
use Prim.Native.Nat.{ℕ, ◌<◌}
use lib.ListN.{length, get_or}
use Rattle.extents.proofs.held_places.Given as goal

abbrev pub invariant-loop-place : goal.invariant-loop-place
invariant-loop-place l = (length l.list ≡ 121) × ((i : ℕ) → i < l.place → get_or l.list i 0 ≡ i)
