-- The cycle of the three functions. The visits left fall: 2 * visits for the rule walk, one more for the two steps, which a
-- rule walk calls after its visit. Each answer is a law of the files beside, at the place where the code has come.
use Prim.Native.Nat.{◌+◌, ◌*◌}
use Rattle.walk.proofs.Places.{Along}
use Rattle.walk.proofs.Exprs.{ExprDid}
use Rattle.walk.proofs.Rules.{RulesDid, LimitsDid}
use Rattle.walk.proofs.Nests.{NestDid}
use Rattle.walk.proofs.+match_with_expr_match_with_nested_ruledef_match_with_rule.Given as goal

abbrev pub invariant-match_with_expr-loop-end : goal.invariant-match_with_expr-loop-end
invariant-match_with_expr-loop-end l =
    ExprDid l.lent.table.now l.lent.line.now l.lent.sheet.now l.place l.walker.limit l.begins l.end-items l.initial.walked.left l.initial.walked.pool.used l.initial.store l.end-index l.walked.left l.walked.pool.used l.store

abbrev pub invariant-match_with_nested_ruledef-loop-rule : goal.invariant-match_with_nested_ruledef-loop-rule
invariant-match_with_nested_ruledef-loop-rule l =
    RulesDid l.lent.table.now l.lent.line.now l.lent.sheet.now l.depth l.set l.inner l.count l.initial.walked.left l.initial.walked.pool.used l.initial.store l.rule l.walked.left l.walked.pool.used l.store

abbrev pub invariant-match_with_nested_ruledef-loop-limit : goal.invariant-match_with_nested_ruledef-loop-limit
invariant-match_with_nested_ruledef-loop-limit l =
    LimitsDid l.lent.table.now l.lent.line.now l.lent.sheet.now l.depth l.set l.walker.cursor l.limit-items l.initial.walked.left l.initial.walked.pool.used l.initial.store l.limit-index l.walked.left l.walked.pool.used l.store

abbrev pub invariant-match_with_nested_ruledef-loop-m : goal.invariant-match_with_nested_ruledef-loop-m
invariant-match_with_nested_ruledef-loop-m l =
    NestDid l.lent.table.now l.lent.line.now l.lent.sheet.now l.place l.walker.limit l.begins l.first l.initial.walked.left l.initial.walked.pool.used l.initial.store l.m l.walked.left l.walked.pool.used l.store

abbrev pub invariant-match_with_rule-loop-left : goal.invariant-match_with_rule-loop-left
invariant-match_with_rule-loop-left l =
    Along l.lent.table.now l.lent.line.now l.lent.sheet.now l.place l.initial.here l.end l.pool.used l.initial.store l.initial.left l.initial.at l.store l.left l.at (l.exact + l.passed) l.here

abbrev pub decreases-match_with_rule-loop-left : goal.decreases-match_with_rule-loop-left
decreases-match_with_rule-loop-left l = l.left

abbrev pub decreases-match_with_expr : goal.decreases-match_with_expr
decreases-match_with_expr l = 2 * l.visits + 1

abbrev pub decreases-match_with_nested_ruledef : goal.decreases-match_with_nested_ruledef
decreases-match_with_nested_ruledef l = 2 * l.visits + 1

abbrev pub decreases-match_with_rule : goal.decreases-match_with_rule
decreases-match_with_rule l = 2 * l.visits
