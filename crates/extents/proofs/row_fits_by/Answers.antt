use native.Mathlib.Omega.{arith}
use Rattle.extents.proofs.Chunks.{both_at, none_both, odd-chunk, row-covered}
use Rattle.extents.proofs.row_fits_by.Goals as goal

pub loop-l-init : goal.loop-l-init
loop-l-init g c = (omega (arith, c.requires.start), none_both _ _ _)

pub loop-l-preserved : goal.loop-l-preserved
loop-l-preserved g c = (omega (arith, c.requires.room, c.loop-l-test.true), odd-chunk (both_at c.args.sheet.now c.args.n c.args.c) g.row.N c.loop-l.l c.loop-l.l (omega arith) (omega arith) c.loop-l.odd c.odd_from-odd.result c.loop-l.invariant.1 c.odd_from-odd.ensures.odd)

pub returns : goal.returns
returns g c = record { fits = row-covered c.args.sheet.now c.args.n c.args.c g.row.N _ c.loop-l.l c.loop-l.odd c.odd_from.result (omega (arith, c.requires.room)) (omega (arith, c.loop-l-test.false)) c.loop-l.invariant.0 c.loop-l.invariant.1 c.odd_from.ensures.odd }
