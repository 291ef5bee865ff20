use native.Mathlib.Omega.{arith}
use Rattle.prefix_order.proofs.Entries.{laying-none, laying-turn, laying-all, entry-is}
use Rattle.leads.proofs.Laying.{part_end, placed-key}
use Rattle.prefix_order.proofs.lay_entries.Goals as goal

pub loop-at-init : goal.loop-at-init
loop-at-init c = laying-none _ _ _

pub bounds-places-rule : goal.bounds-places-rule
bounds-places-rule c = omega (arith, c.requires.small c.loop-at.at c.loop-at-test.true, c.requires.placed.sized)

pub prefix_key-key-requires : goal.prefix_key-key-requires
prefix_key-key-requires c = part_end _ _ ((c.requires.placed.each c.loop-at.at c.loop-at-test.true).is _)

pub loop-at-preserved : goal.loop-at-preserved
loop-at-preserved c =
    laying-turn _ c.loop-at.invariant c.loop-at-test.true (omega (arith, c.requires.room)) (entry-is _ _ (placed-key _ _ ((c.requires.placed.each c.loop-at.at c.loop-at-test.true).is _) c.prefix_key-key.ensures.answers))

pub returns : goal.returns
returns c = laying-all _ c.loop-at.invariant c.loop-at-test.false (omega (arith, c.requires.room))
