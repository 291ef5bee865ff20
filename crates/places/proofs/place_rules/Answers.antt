use native.Mathlib.Omega.{arith}
use Rattle.places.proofs.Words.{placed-none, placed-room, placed-turn, placed-all}
use Rattle.places.proofs.place_rules.Goals as goal

pub loop-rule-init : goal.loop-rule-init
loop-rule-init c = placed-none c.requires

pub bounds-places-rule : goal.bounds-places-rule
bounds-places-rule c = omega (arith, placed-room c.requires c.loop-rule.rule-index c.loop-rule-test.true, c.loop-rule.invariant.sized)

pub loop-rule-preserved : goal.loop-rule-preserved
loop-rule-preserved c = placed-turn c.requires c.loop-rule.invariant c.loop-rule-test.true c.place_of.ensures

pub returns : goal.returns
returns c = record { answers = placed-all c.requires c.loop-rule.invariant c.loop-rule-test.false }
