use mathlib.Core.Path.{sym, ◌∙◌}
use native.Mathlib.Omega.{arith}
use Rattle.plain.proofs.Below.{every-none, every-step, every-fails, every-fewer, every-and}
use Rattle.plain.proofs.Calls.{refused, passed}
use Rattle.extents.specs.Sheet.{half_fits}
use Rattle.extents.proofs.byte_sheet_fits.Goals as goal

pub loop-c-init : goal.loop-c-init
loop-c-init c = every-none _

pub returns-then-not-byte_row_fits : goal.returns-then-not-byte_row_fits
unfolding half_fits
returns-then-not-byte_row_fits c = record { fits = sym (every-fails _ _ c.loop-c.c (omega (arith, c.loop-c-test.true)) (refused c.byte_row_fits.ensures.fits c.if-not-byte_row_fits.true-raw)) ∙ every-and _ _ _ }

pub loop-c-preserved : goal.loop-c-preserved
loop-c-preserved c = every-step _ _ c.loop-c.invariant (passed c.byte_row_fits.ensures.fits c.if-not-byte_row_fits.false-raw)

pub returns : goal.returns
unfolding half_fits
returns c = record { fits = sym (every-fewer _ _ _ (omega (arith, c.loop-c-test.false)) c.loop-c.invariant) ∙ every-and _ _ _ }

pub returns-else-not-byte_row_fits : goal.returns-else-not-byte_row_fits
unfolding half_fits
returns-else-not-byte_row_fits c = record { fits = sym (every-fewer _ _ _ (omega arith) (every-step _ _ c.loop-c.invariant (passed c.byte_row_fits.ensures.fits c.if-not-byte_row_fits.false-raw))) ∙ every-and _ _ _ }
