use mathlib.Core.Path.{◌≡◌, refl, sym, ◌∙◌}
use native.Mathlib.Omega.{arith}
use Rattle.ruledef_map.specs.RuledefMap.{top_rules}
use Rattle.ruledef_map.proofs.Orders.{written_none, written-hit, written-miss, written-first, put-many, put-short, put_all}
use Rattle.ruledef_map.proofs.top_rules.Goals as goal
use Rattle.ruledef_map.proofs.top_rules.Goals.{then-is_top_rule, else-is_top_rule}

pub returns-then-rules-gt-MOST_RULES : goal.returns-then-rules-gt-MOST_RULES
returns-then-rules-gt-MOST_RULES c = record { answers = put-many _ _ _ (omega (arith, c.rule_count-rules.ensures.answers, c.if-rules-gt-MOST_RULES.true)) }

pub returns-then-found-rules : goal.returns-then-found-rules
returns-then-found-rules c = record { answers = put-short _ _ _ (omega (arith, c.rule_count-rules.ensures.answers, c.if-found-rules.true)) }

pub loop-rule-init : goal.loop-rule-init
loop-rule-init c = (written_none _ _ _, omega arith)

pub loop-rule-preserved : goal.loop-rule-preserved
loop-rule-preserved c =
    elim c.if-is_top_rule.branch [
      | then-is_top_rule w ↦ rw (w.count-is, w.found-is) (written-hit _ _ _ _ _ _ c.loop-rule.invariant.0 (sym c.is_top_rule.ensures.answers ∙ w.if-is_top_rule.true) (omega arith) (omega arith), omega arith)
      | else-is_top_rule w ↦ rw (w.count-is, w.found-is) (written-miss _ _ _ _ _ _ c.loop-rule.invariant.0 (sym c.is_top_rule.ensures.answers ∙ w.if-is_top_rule.false), omega arith)
    ]

pub returns : goal.returns
unfolding top_rules
returns c = record {
  answers =
      let end : c.loop-rule.rule ≡ c.rule_count-rules.result = omega arith in
      written-first _ _ _ _ _ _ c.loop-rule.invariant.0 _ refl (end ∙ c.rule_count-rules.ensures.answers)
      ∙ put_all _ _ _ (omega (arith, c.rule_count-rules.ensures.answers, c.if-rules-gt-MOST_RULES.false)) (omega (arith, c.rule_count-rules.ensures.answers, c.if-found-rules.false));
}
