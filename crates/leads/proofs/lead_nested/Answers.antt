use Prim.Native.Nat.{◌+◌}
use native.Mathlib.Omega.{arith}
use Rattle.leads.proofs.Nested.{starts-long, starts-few, sets-few, nested-none, nested-top, nested-led, nested-empty, nested-all}
use Rattle.defs.specs.Table.{rulesets_in}
use Rattle.leads.proofs.lead_nested.Goals as goal
use Rattle.leads.proofs.lead_nested.Goals.{then-from-to+then-nested, then-from-to+else-nested, else-from-to}
use Prim.Native.Nat.{◌<◌}
use mathlib.Core.Path.{sym, ◌∙◌}

pub loop-set-init : goal.loop-set-init
loop-set-init c = nested-none c.requires

pub offset_bounds-starts-set : goal.offset_bounds-starts-set
offset_bounds-starts-set c = omega (arith, c.ruleset_count-sets.ensures.answers, sets-few c.requires)

pub bounds-starts-set : goal.bounds-starts-set
bounds-starts-set c = starts-long c.requires _ (omega (arith, c.ruleset_count-sets.ensures.answers))

pub offset_bounds-starts-set-in-loop-set : goal.offset_bounds-starts-set-in-loop-set
offset_bounds-starts-set-in-loop-set c = omega (arith, c.ruleset_count-sets.ensures.answers, sets-few c.requires)

pub bounds-starts-set-in-loop-set : goal.bounds-starts-set-in-loop-set
bounds-starts-set-in-loop-set c = starts-long c.requires _ (omega (arith, c.ruleset_count-sets.ensures.answers))

pub lead_between-requires-clause-to_bound : goal.lead_between-requires-clause-to_bound
lead_between-requires-clause-to_bound c = (starts-few c.requires (c.loop-set.set + 1) (omega (arith, c.ruleset_count-sets.ensures.answers))).0

pub loop-set-preserved : goal.loop-set-preserved
loop-set-preserved c =
    let set : c.loop-set.set < rulesets_in c.args.table.now = omega (arith, c.ruleset_count-sets.ensures.answers) in
    elim c.if-from-to.branch [
      | then-from-to+then-nested w ↦
          rw w.leads-is
          (nested-led c.requires set c.loop-set.invariant w.if-from-to.true (sym w.is_top_rule-nested.ensures.answers ∙ w.if-nested.true) w.lead_between.ensures)
      | then-from-to+else-nested w ↦
          rw w.leads-is (nested-top c.requires set c.loop-set.invariant w.if-from-to.true (sym w.is_top_rule-nested.ensures.answers ∙ w.if-nested.false))
      | else-from-to w ↦ rw w.leads-is (nested-empty c.requires set c.loop-set.invariant w.if-from-to.false)
    ]

pub returns : goal.returns
returns c = record { answers = nested-all c.requires (omega (arith, c.ruleset_count-sets.ensures.answers)) c.loop-set.invariant }
