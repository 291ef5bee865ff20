-- The loop's invariant: if nothing was odd, every word from the first part to here is a part.
use mathlib.Core.Path.{◌≡◌}
use mathlib.Core.Bool.{false}
use Rattle.acceptance.proofs.Eights.{PartsFrom}
use Rattle.acceptance.proofs.eights_fit.Given as goal

abbrev pub invariant-loop-at : goal.invariant-loop-at
invariant-loop-at l = l.odd ≡ false → PartsFrom l.most l.table l.from l.at
