-- `extents::is_sized` meets its contract: no slice is as long as the sheet of a line of 2^31 bytes, and below that
-- nothing wraps.
use mathlib.Core.Path.{refl, sym}
use native.Mathlib.Omega.{arith}
use Rattle.extents.specs.Sheet.{sized}
use Rattle.extents.proofs.Size.{too_long}
use Rattle.extents.proofs.is_sized.Goals as goal

pub returns-then-n-ge-TOO_LONG : goal.returns-then-n-ge-TOO_LONG
returns-then-n-ge-TOO_LONG c = record { size = sym (too_long _ (omega arith) c.if-n-ge-TOO_LONG.true) }

pub returns : goal.returns
unfolding sized
returns c = record { size = refl }
