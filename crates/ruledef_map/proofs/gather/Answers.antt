use mathlib.Core.Path.{◌≡◌}
use native.Mathlib.Omega.{arith}
use borrow.Author.Tests.{eq-eqb, ne_eqb}
use Rattle.ruledef_map.specs.RuledefMap.{with_mark}
use Rattle.ruledef_map.proofs.Orders.{written_none, written-room, written-hit, written-miss, written_all}
use Rattle.ruledef_map.proofs.gather.Goals as goal
use Rattle.ruledef_map.proofs.gather.Goals.{then-marks-rule, else-marks-rule}

pub loop-rule-init : goal.loop-rule-init
loop-rule-init c = (written_none _ _ _, omega (arith, c.requires.wanted_in_bounds))

pub bounds-found-count : goal.bounds-found-count
bounds-found-count c = omega (arith, written-room _ _ _ _ c.requires.wanted_in_bounds _ c.loop-rule-test.true _ _ c.loop-rule.invariant.0 (eq-eqb _ _ c.if-marks-rule.true))

pub loop-rule-preserved : goal.loop-rule-preserved
loop-rule-preserved c =
    elim c.if-marks-rule.branch [
      | then-marks-rule w ↦
          let hit = eq-eqb _ _ w.if-marks-rule.true in
          let room = written-room _ _ _ _ c.requires.wanted_in_bounds _ c.loop-rule-test.true _ _ c.loop-rule.invariant.0 hit in
          rw (w.count-is, w.found-is) (written-hit _ _ _ _ _ _ c.loop-rule.invariant.0 hit room (omega (arith, c.requires.wanted_in_bounds)), omega (arith, room))
      | else-marks-rule w ↦ rw (w.count-is, w.found-is) (written-miss _ _ _ _ _ _ c.loop-rule.invariant.0 (ne_eqb _ _ w.if-marks-rule.false), c.loop-rule.invariant.1)
    ]

pub returns : goal.returns
unfolding with_mark
returns c = let end : c.loop-rule.rule ≡ c.args.rules = omega arith in written_all _ _ _ _ _ _ c.loop-rule.invariant.0 _ end
