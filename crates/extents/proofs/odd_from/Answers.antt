use Prim.Native.Nat.{ℕ, ◌+◌}
use native.Mathlib.Omega.{arith}
use Rattle.plain.proofs.Below.{every-none}
use Rattle.extents.proofs.Rows.{odd-more}
use Rattle.extents.proofs.Chunks.{both_at, pair-here}
use Rattle.extents.proofs.odd_from.Goals as goal

pub loop-i-init : goal.loop-i-init
loop-i-init g c = every-none _

pub loop-i-preserved : goal.loop-i-preserved
loop-i-preserved g c = odd-more c.loop-i.i (λ (k : ℕ). both_at c.args.sheet.now c.args.n c.args.c (c.args.l + k)) c.loop-i.odd c.is_pair_odd-odd.result c.loop-i.invariant (pair-here _ _ _ (c.requires.held.each _ (omega (arith, c.requires.short, c.requires.start))) (c.requires.held.each _ (omega (arith, c.requires.short, c.requires.room, c.loop-i-test.true))) c.entry-free.ensures.byte c.entry-greedy.ensures.byte c.is_pair_odd-odd.ensures.odd)
