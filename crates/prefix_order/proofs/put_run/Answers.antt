use mathlib.Core.Path.{refl}
use Rattle.prefix_order.proofs.Runs.{running_none, running-room, running-turn, running-past, running-end}
use Rattle.prefix_order.proofs.put_run.Goals as goal

pub loop-end-init : goal.loop-end-init
loop-end-init c = running_none _ _ _ _ c.first_from-first.ensures

pub returns-then-entry-key : goal.returns-then-entry-key
returns-then-entry-key c = running-past _ _ _ _ c.requires c.loop-end.invariant c.loop-end-test.true refl c.if-entry-key.true

pub bounds-rules-found : goal.bounds-rules-found
bounds-rules-found c = running-room _ _ _ _ c.requires c.loop-end.invariant c.loop-end-test.true refl c.if-entry-key.false

pub loop-end-preserved : goal.loop-end-preserved
loop-end-preserved c = running-turn _ _ _ _ c.requires c.loop-end.invariant c.loop-end-test.true refl c.if-entry-key.false

pub returns : goal.returns
returns c = running-end _ _ _ _ c.requires c.loop-end.invariant c.loop-end-test.false
