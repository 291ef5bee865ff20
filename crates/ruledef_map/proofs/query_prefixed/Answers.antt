use borrow.Author.Rules.{rules}
use mathlib.Core.Path.{◌≡◌, ◌∙◌}
use native.Mathlib.Omega.{arith}
use lib.ListN.{length, length-take}
use Rattle.ruledef_map.specs.RuledefMap.{prefix_bytes}
use Rattle.ruledef_map.proofs.Orders.{taken_none, taken-room, taken_more, taken-all, put-many, put-short, put_all}
use Rattle.ruledef_map.proofs.query_prefixed.Goals as goal

pub returns-then-rules-gt-MOST_RULES : goal.returns-then-rules-gt-MOST_RULES
returns-then-rules-gt-MOST_RULES c = record { answers = put-many _ _ _ (omega (arith, c.rule_count-rules.ensures.answers, c.if-rules-gt-MOST_RULES.true)) }

pub returns-then-found-rules : goal.returns-then-found-rules
returns-then-found-rules c = record { answers = put-short _ _ _ (omega (arith, c.rule_count-rules.ensures.answers, c.if-found-rules.true)) }

pub loop-size-init : goal.loop-size-init
loop-size-init c = taken_none _ _ _

pub gather-count-requires-clause-wanted_in_bounds : goal.gather-count-requires-clause-wanted_in_bounds
gather-count-requires-clause-wanted_in_bounds c = taken-room _ _ _ _ _ _ c.loop-size.invariant (omega (arith, c.if-found-rules.false))

pub loop-size-preserved : goal.loop-size-preserved
loop-size-preserved c = taken_more _ _ _ _ _ _ c.loop-size.invariant _ _ c.gather-count.ensures

pub returns : goal.returns
returns c = record {
  answers =
      let end : c.loop-size.size ≡ 5 = omega arith in
      let four : length c.args.prefix.bytes ≡ 4 = search rules in
      taken-all _ (prefix_bytes c.args.prefix) _ _ _ _ _ _ (omega (arith, four, length-take c.args.prefix.count c.args.prefix.bytes)) c.rule_count-rules.ensures.answers c.mark_rules.ensures end c.loop-size.invariant
      ∙ put_all _ _ _ (omega (arith, c.rule_count-rules.ensures.answers, c.if-rules-gt-MOST_RULES.false)) (omega (arith, c.rule_count-rules.ensures.answers, c.if-found-rules.false));
}
