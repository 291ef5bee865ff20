use mathlib.Core.Path.{sym}
use native.Mathlib.Omega.{arith}
use Rattle.plain.proofs.Below.{every-none, every-step, every-fails}
use Rattle.extents.specs.Sheet.{half_fits}
use Rattle.plain.proofs.Calls.{refused, passed}
use Rattle.plain.proofs.Below.{every-fewer}
use Rattle.extents.proofs.half_fits.Goals as goal

pub loop-c-init : goal.loop-c-init
loop-c-init c = every-none _

pub returns-then-not-row_fits : goal.returns-then-not-row_fits
unfolding half_fits
returns-then-not-row_fits c = record { fits = sym (every-fails _ _ c.loop-c.c (omega (arith, c.loop-c-test.true)) (refused c.row_fits.ensures.fits c.if-not-row_fits.true-raw)) }

pub loop-c-preserved : goal.loop-c-preserved
loop-c-preserved c = every-step _ _ c.loop-c.invariant (passed c.row_fits.ensures.fits c.if-not-row_fits.false-raw)

pub returns : goal.returns
unfolding half_fits
returns c = record { fits = sym (every-fewer _ _ _ (omega (arith, c.loop-c-test.false)) c.loop-c.invariant) }

pub returns-else-not-row_fits : goal.returns-else-not-row_fits
unfolding half_fits
returns-else-not-row_fits c = record { fits = sym (every-fewer _ _ _ (omega arith) (every-step _ _ c.loop-c.invariant (passed c.row_fits.ensures.fits c.if-not-row_fits.false-raw))) }
