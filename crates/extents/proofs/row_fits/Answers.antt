use mathlib.Core.Path.{sym}
use native.Mathlib.Omega.{arith}
use Rattle.plain.proofs.Below.{every-step, every-fails, every-fewer}
use Rattle.plain.proofs.Calls.{refused, passed}
use Rattle.extents.specs.Sheet.{row_fits}
use Rattle.extents.proofs.Rows.{none-judged, judged}
use Rattle.extents.proofs.row_fits.Goals as goal

pub loop-l-init : goal.loop-l-init
loop-l-init c = none-judged _ _ _ _

pub returns-then-not-entry_fits : goal.returns-then-not-entry_fits
unfolding row_fits
returns-then-not-entry_fits c = record { fits = sym (every-fails _ _ c.loop-l.l (omega (arith, c.loop-l-test.true)) (refused (judged _ _ _ (omega arith) c.entry.ensures.byte c.entry_fits.ensures.fits) c.if-not-entry_fits.true-raw)) }

pub loop-l-preserved : goal.loop-l-preserved
loop-l-preserved c = every-step _ _ c.loop-l.invariant (passed (judged _ _ _ (omega arith) c.entry.ensures.byte c.entry_fits.ensures.fits) c.if-not-entry_fits.false-raw)

pub returns : goal.returns
unfolding row_fits
returns c = record { fits = sym (every-fewer _ _ _ (omega (arith, c.loop-l-test.false)) c.loop-l.invariant) }

pub returns-else-not-entry_fits : goal.returns-else-not-entry_fits
unfolding row_fits
returns-else-not-entry_fits c = record { fits = sym (every-fewer _ _ _ (omega arith) (every-step _ _ c.loop-l.invariant (passed (judged _ _ _ (omega arith) c.entry.ensures.byte c.entry_fits.ensures.fits) c.if-not-entry_fits.false-raw))) }
