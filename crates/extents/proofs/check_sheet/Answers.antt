-- `extents::check_sheet` meets its contract: each answer rewrites with the tests that led to it.
use Rattle.plain.proofs.Tests.{and-off, and-on}
use Rattle.plain.proofs.Calls.{refused, passed}
use Rattle.extents.specs.Sheet.{sheet_fits}
use Rattle.extents.proofs.check_sheet.Goals as goal

pub returns-then-not-is_sized : goal.returns-then-not-is_sized
unfolding sheet_fits
returns-then-not-is_sized c = record { answers = and-off _ (refused c.is_sized.ensures.size c.if-not-is_sized.true-raw) }

pub returns-then-n : goal.returns-then-n
unfolding sheet_fits
returns-then-n c = record { answers = and-on (passed c.is_sized.ensures.size c.if-not-is_sized.false-raw) c.halves_fit.ensures.fits }

pub returns-then-n-lt-SHORTEST_NARROW : goal.returns-then-n-lt-SHORTEST_NARROW
unfolding sheet_fits
returns-then-n-lt-SHORTEST_NARROW c = record { answers = and-on (passed c.is_sized.ensures.size c.if-not-is_sized.false-raw) c.halves_fit-then-n-lt-SHORTEST_NARROW.ensures.fits }

pub returns : goal.returns
unfolding sheet_fits
returns c = record { answers = and-on (passed c.is_sized.ensures.size c.if-not-is_sized.false-raw) c.byte_sheet_fits.ensures.fits }
