use mathlib.Core.Path.{sym, subst, ◌∙◌}
use Prim.Native.Nat.{◌+◌}
use Rattle.listing.proofs.Steps.{is_there, what_is}
use Rattle.listing.proofs.Records.{RulesLeft, rules-first, rule-ended, second-is, second-there, rule-numbered, parts-said, parts-room, row_room, rules-next}
use Rattle.listing.proofs.reading.lay_rules.Goals as goal

pub loop-rule-init : goal.loop-rule-init
loop-rule-init c = λ rules sizes are. rules-first rules _ _ c.args.table.now c.args.lines.now are

pub unwrap-requires : goal.unwrap-requires
unwrap-requires c = is_there _ c.split_once.result (rule-ended c.requires.listed.rules _ _ _ c.requires.listed.sizes c.args.table.now c.loop-rule.table c.loop-rule.rest.now c.loop-rule.rule c.loop-rule.part (c.loop-rule.invariant c.requires.listed.rules c.requires.listed.sizes c.requires.listed.are) c.loop-rule-test.true) c.split_once.ensures.answers

pub unwrap-requires-in-loop-rule : goal.unwrap-requires-in-loop-rule
unwrap-requires-in-loop-rule c =
    is_there _ c.next-in-loop-rule.result
    (second-there c.requires.listed.rules _ _ _ c.requires.listed.sizes c.args.table.now c.loop-rule.table c.loop-rule.rest.now c.loop-rule.rule c.loop-rule.part (c.loop-rule.invariant c.requires.listed.rules c.requires.listed.sizes c.requires.listed.are) c.loop-rule-test.true _ _ (what_is _ _ c.split_once.result _ c.unwrap.ensures c.split_once.ensures.answers) _ _
    (second-is c.requires.listed.rules _ _ _ c.requires.listed.sizes c.args.table.now c.loop-rule.table c.loop-rule.rest.now c.loop-rule.rule c.loop-rule.part (c.loop-rule.invariant c.requires.listed.rules c.requires.listed.sizes c.requires.listed.are) c.loop-rule-test.true _ _ (what_is _ _ c.split_once.result _ c.unwrap.ensures c.split_once.ensures.answers) (λ x. x.now) c.next.result _ _ c.of-fields.ensures.answers c.next.ensures.steps)) c.next-in-loop-rule.ensures.steps

pub unwrap-set-requires : goal.unwrap-set-requires
unwrap-set-requires c = rule-numbered c.requires.listed.rules _ _ _ c.requires.listed.sizes c.args.table.now c.loop-rule.table c.loop-rule.rest.now c.loop-rule.rule c.loop-rule.part (c.loop-rule.invariant c.requires.listed.rules c.requires.listed.sizes c.requires.listed.are) c.loop-rule-test.true _ _ (what_is _ _ c.split_once.result _ c.unwrap.ensures c.split_once.ensures.answers) _ _ _ (second-is c.requires.listed.rules _ _ _ c.requires.listed.sizes c.args.table.now c.loop-rule.table c.loop-rule.rest.now c.loop-rule.rule c.loop-rule.part (c.loop-rule.invariant c.requires.listed.rules c.requires.listed.sizes c.requires.listed.are) c.loop-rule-test.true _ _ (what_is _ _ c.split_once.result _ c.unwrap.ensures c.split_once.ensures.answers) (λ x. x.now) c.next.result _ _ c.of-fields.ensures.answers c.next.ensures.steps) (what_is _ _ c.next-in-loop-rule.result _ c.unwrap-in-loop-rule.ensures c.next-in-loop-rule.ensures.steps) c.number.result c.number.ensures.answers

pub lay_parts-next-requires-clause-said : goal.lay_parts-next-requires-clause-said
lay_parts-next-requires-clause-said c = parts-said c.requires.listed.rules _ _ _ c.requires.listed.sizes c.args.table.now c.loop-rule.table c.loop-rule.rest.now c.loop-rule.rule c.loop-rule.part (c.loop-rule.invariant c.requires.listed.rules c.requires.listed.sizes c.requires.listed.are) c.loop-rule-test.true _ _ (what_is _ _ c.split_once.result _ c.unwrap.ensures c.split_once.ensures.answers) _ _ _ (second-is c.requires.listed.rules _ _ _ c.requires.listed.sizes c.args.table.now c.loop-rule.table c.loop-rule.rest.now c.loop-rule.rule c.loop-rule.part (c.loop-rule.invariant c.requires.listed.rules c.requires.listed.sizes c.requires.listed.are) c.loop-rule-test.true _ _ (what_is _ _ c.split_once.result _ c.unwrap.ensures c.split_once.ensures.answers) (λ x. x.now) c.next.result _ _ c.of-fields.ensures.answers c.next.ensures.steps) (what_is _ _ c.next-in-loop-rule.result _ c.unwrap-in-loop-rule.ensures c.next-in-loop-rule.ensures.steps)

pub lay_parts-next-requires-clause-end_in_bounds : goal.lay_parts-next-requires-clause-end_in_bounds
lay_parts-next-requires-clause-end_in_bounds c = parts-room c.requires.listed.rules _ _ _ c.requires.listed.sizes c.args.table.now c.loop-rule.table c.loop-rule.rest.now c.loop-rule.rule c.loop-rule.part (c.loop-rule.invariant c.requires.listed.rules c.requires.listed.sizes c.requires.listed.are) c.loop-rule-test.true _ _ (what_is _ _ c.split_once.result _ c.unwrap.ensures c.split_once.ensures.answers) _ _ _ (second-is c.requires.listed.rules _ _ _ c.requires.listed.sizes c.args.table.now c.loop-rule.table c.loop-rule.rest.now c.loop-rule.rule c.loop-rule.part (c.loop-rule.invariant c.requires.listed.rules c.requires.listed.sizes c.requires.listed.are) c.loop-rule-test.true _ _ (what_is _ _ c.split_once.result _ c.unwrap.ensures c.split_once.ensures.answers) (λ x. x.now) c.next.result _ _ c.of-fields.ensures.answers c.next.ensures.steps) (what_is _ _ c.next-in-loop-rule.result _ c.unwrap-in-loop-rule.ensures c.next-in-loop-rule.ensures.steps) c.requires.parts_in_bounds

pub lay_three-requires-clause-second_bound : goal.lay_three-requires-clause-second_bound
lay_three-requires-clause-second_bound c = (row_room c.requires.listed.rules _ _ _ c.requires.listed.sizes c.args.table.now c.loop-rule.table c.loop-rule.rest.now c.loop-rule.rule c.loop-rule.part (c.loop-rule.invariant c.requires.listed.rules c.requires.listed.sizes c.requires.listed.are) c.loop-rule-test.true _ _ (what_is _ _ c.split_once.result _ c.unwrap.ensures c.split_once.ensures.answers) _ _ _ (second-is c.requires.listed.rules _ _ _ c.requires.listed.sizes c.args.table.now c.loop-rule.table c.loop-rule.rest.now c.loop-rule.rule c.loop-rule.part (c.loop-rule.invariant c.requires.listed.rules c.requires.listed.sizes c.requires.listed.are) c.loop-rule-test.true _ _ (what_is _ _ c.split_once.result _ c.unwrap.ensures c.split_once.ensures.answers) (λ x. x.now) c.next.result _ _ c.of-fields.ensures.answers c.next.ensures.steps) (what_is _ _ c.next-in-loop-rule.result _ c.unwrap-in-loop-rule.ensures c.next-in-loop-rule.ensures.steps) c.lay_parts-next.result _ c.lay_parts-next.ensures.laid _ (sym c.unwrap-set.ensures ∙ c.number.ensures.answers) c.requires.parts_in_bounds).2

pub lay_three-requires-clause-third_bound : goal.lay_three-requires-clause-third_bound
lay_three-requires-clause-third_bound c = (row_room c.requires.listed.rules _ _ _ c.requires.listed.sizes c.args.table.now c.loop-rule.table c.loop-rule.rest.now c.loop-rule.rule c.loop-rule.part (c.loop-rule.invariant c.requires.listed.rules c.requires.listed.sizes c.requires.listed.are) c.loop-rule-test.true _ _ (what_is _ _ c.split_once.result _ c.unwrap.ensures c.split_once.ensures.answers) _ _ _ (second-is c.requires.listed.rules _ _ _ c.requires.listed.sizes c.args.table.now c.loop-rule.table c.loop-rule.rest.now c.loop-rule.rule c.loop-rule.part (c.loop-rule.invariant c.requires.listed.rules c.requires.listed.sizes c.requires.listed.are) c.loop-rule-test.true _ _ (what_is _ _ c.split_once.result _ c.unwrap.ensures c.split_once.ensures.answers) (λ x. x.now) c.next.result _ _ c.of-fields.ensures.answers c.next.ensures.steps) (what_is _ _ c.next-in-loop-rule.result _ c.unwrap-in-loop-rule.ensures c.next-in-loop-rule.ensures.steps) c.lay_parts-next.result _ c.lay_parts-next.ensures.laid _ (sym c.unwrap-set.ensures ∙ c.number.ensures.answers) c.requires.parts_in_bounds).3

pub loop-rule-preserved : goal.loop-rule-preserved
loop-rule-preserved c = λ rules sizes are.
    subst (λ b. RulesLeft rules c.args.sizes.sets c.args.sizes.rules c.args.table.now b c.unwrap.result.1.now (c.loop-rule.rule + 1) c.lay_parts-next.result) (sym c.lay_three.ensures.laid)
    (rules-next rules _ _ _ sizes c.args.table.now c.loop-rule.table c.loop-rule.rest.now c.loop-rule.rule c.loop-rule.part (c.loop-rule.invariant rules sizes are) c.loop-rule-test.true _ _ (what_is _ _ c.split_once.result _ c.unwrap.ensures c.split_once.ensures.answers) _ _ _ (second-is rules _ _ _ sizes c.args.table.now c.loop-rule.table c.loop-rule.rest.now c.loop-rule.rule c.loop-rule.part (c.loop-rule.invariant rules sizes are) c.loop-rule-test.true _ _ (what_is _ _ c.split_once.result _ c.unwrap.ensures c.split_once.ensures.answers) (λ x. x.now) c.next.result _ _ c.of-fields.ensures.answers c.next.ensures.steps) (what_is _ _ c.next-in-loop-rule.result _ c.unwrap-in-loop-rule.ensures c.next-in-loop-rule.ensures.steps) c.lay_parts-next.result _ c.lay_parts-next.ensures.laid _ (sym c.unwrap-set.ensures ∙ c.number.ensures.answers))
