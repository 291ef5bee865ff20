use mathlib.Core.List.{[]}
use native.Mathlib.Omega.{arith}
use Rattle.readings.proofs.Records.{few-records}
use Rattle.leads.proofs.Laying.{among-more, part_end, placed-key}
use Rattle.leads.proofs.lead_listed.Goals as goal

pub bounds-places-rule : goal.bounds-places-rule
bounds-places-rule c = omega (arith, c.requires.below c.loop-rule.rule-index c.loop-rule-test.true, few-records _ [] [] c.requires.table, c.requires.placed.sized)

pub prefix_key-requires : goal.prefix_key-requires
prefix_key-requires c = part_end _ _ ((c.requires.placed.each c.loop-rule.rule-index c.loop-rule-test.true).is _)

pub bounds-leads-rule : goal.bounds-leads-rule
bounds-leads-rule c = omega (arith, c.requires.below c.loop-rule.rule-index c.loop-rule-test.true, few-records _ [] [] c.requires.table, c.requires.room)

pub loop-rule-preserved : goal.loop-rule-preserved
loop-rule-preserved c =
    among-more c.args.rules.now c.loop-rule.invariant (omega (arith, c.requires.below c.loop-rule.rule-index c.loop-rule-test.true, few-records _ [] [] c.requires.table, c.requires.room))
    (placed-key _ _ ((c.requires.placed.each c.loop-rule.rule-index c.loop-rule-test.true).is _) c.prefix_key.ensures.answers)
