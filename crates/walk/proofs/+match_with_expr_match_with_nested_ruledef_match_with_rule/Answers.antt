use Rattle.std.proofs.lemmas.Result.{err_from_is_err_and}
use mathlib.Core.Path.{refl, sym, ◌∙◌}
use mathlib.Core.List.{[]}
use native.Mathlib.Omega.{arith}
use Rattle.walk.proofs.Places.{along-by, along-ended, along-spent, along-end, along-exact, along-no-exact, along-whitespace, along-no-whitespace, along-expression, along-nested, step-ready, step-stands, ruleset-few}
use Rattle.walk.proofs.Exprs.{expr-start, expr-end, expr-fits, expr-full, expr-counted, expr-stands, expr-ready, expr-again, expr-halt, ends-held, ends-three}
use Rattle.walk.proofs.Rules.{starts-long, starts-ordered, rule-ready, rule-stands, rules-again, rules-stop, rules-skip, rules-spent, lead-there, rules-start, limits-start, limits-again, limits-stop, limits-held, limits-two, inner-within}
use Rattle.walk.proofs.Nests.{nest-start, nest-skip, inner-counts-first, nest-fits, nest-member, nest-full, nest-counted, nest-stands, nest-ready, nest-again, nest-halt, nest-used, nested-deep, nested-stop, nested-grown, nested-since, nested-within, nested-below, nested-halt, nested-done}
use Rattle.walk.proofs.+match_with_expr_match_with_nested_ruledef_match_with_rule.Goals as goal

pub match_with_expr-loop-end-init : goal.match_with_expr-loop-end-init
match_with_expr-loop-end-init t c =
    expr-start c.requires.ready _ _ c.next_useful_index-begins.ensures.answers _ (ends-held _ _ _ _ c.find_ends-ends.ensures.answers)

pub match_with_expr-shared_ref_as_front-end-items : goal.match_with_expr-shared_ref_as_front-end-items
match_with_expr-shared_ref_as_front-end-items t c = (ends-three _ _ _ _ c.find_ends-ends.ensures.answers).0

pub match_with_expr-keep-requires-clause-argument_fits : goal.match_with_expr-keep-requires-clause-argument_fits
match_with_expr-keep-requires-clause-argument_fits t c = expr-fits c.requires.ready _ _ c.next_useful_index-begins.ensures.answers _ (ends-held _ _ _ _ c.find_ends-ends.ensures.answers) c.loop-end.invariant c.loop-end-test.true _ refl c.least-start.ensures.answers (omega (arith, c.requires.stands.small))

pub match_with_expr-returns-in_default : goal.match_with_expr-returns-in_default
match_with_expr-returns-in_default t c =
    expr-full c.requires.ready _ _ c.next_useful_index-begins.ensures.answers _ (ends-held _ _ _ _ c.find_ends-ends.ensures.answers) c.loop-end.invariant c.loop-end-test.true _ refl _ (rw c.in_default.is at c.keep.ensures.answers.log)

pub match_with_expr-match_with_rule-requires : goal.match_with_expr-match_with_rule-requires
match_with_expr-match_with_rule-requires t c = (
  omega (arith, c.decreases),
  (
    expr-ready c.requires.ready _ _ c.next_useful_index-begins.ensures.answers _ (ends-held _ _ _ _ c.find_ends-ends.ensures.answers) c.loop-end.invariant c.loop-end-test.true _ refl _ c.least-start.ensures.answers _ _ (rw c.in-Some.is at c.keep.ensures.answers.log) c.after-next.ensures
        (omega (arith, c.keep.auto))
        (expr-counted c.requires.ready _ _ c.next_useful_index-begins.ensures.answers _ (ends-held _ _ _ _ c.find_ends-ends.ensures.answers) c.loop-end.invariant c.loop-end-test.true _ refl _ c.least-start.ensures.answers _ _ (rw c.in-Some.is at c.keep.ensures.answers.log) c.requires.stands) c.set_cursor_index-moved.ensures.answers,
    (
      expr-stands c.requires.ready _ _ c.next_useful_index-begins.ensures.answers _ (ends-held _ _ _ _ c.find_ends-ends.ensures.answers) c.loop-end.invariant c.loop-end-test.true _ refl _ c.least-start.ensures.answers _ _ (rw c.in-Some.is at c.keep.ensures.answers.log) c.requires.stands c.after-next.ensures c.set_cursor_index-moved.ensures.answers,
      c.requires.prepared,
    ),
  ),
)

pub match_with_expr-loop-end-preserved : goal.match_with_expr-loop-end-preserved
match_with_expr-loop-end-preserved t c =
    expr-again c.requires.ready _ _ c.next_useful_index-begins.ensures.answers _ (ends-held _ _ _ _ c.find_ends-ends.ensures.answers) c.loop-end.invariant c.loop-end-test.true _ refl _ c.least-start.ensures.answers _ _ (rw c.in-Some.is at c.keep.ensures.answers.log) c.after-next.ensures c.set_cursor_index-moved.ensures.answers c.match_with_rule.ensures c.in_ok-walked.was
    (omega (arith, c.match_with_rule.auto, c.keep.auto))

pub match_with_expr-returns-in_err-walked : goal.match_with_expr-returns-in_err-walked
match_with_expr-returns-in_err-walked t c =
    let p = err_from_is_err_and c.from_residual.result c.from_residual.ensures.1 in rw (p.1, p.2) (expr-halt c.requires.ready _ _ c.next_useful_index-begins.ensures.answers _ (ends-held _ _ _ _ c.find_ends-ends.ensures.answers) c.loop-end.invariant c.loop-end-test.true _ refl _ c.least-start.ensures.answers _ _ (rw c.in-Some.is at c.keep.ensures.answers.log) c.after-next.ensures c.set_cursor_index-moved.ensures.answers c.match_with_rule.ensures c.in_err-walked.was)

pub match_with_expr-returns : goal.match_with_expr-returns
match_with_expr-returns t c =
    expr-end c.requires.ready _ _ c.next_useful_index-begins.ensures.answers _ (ends-held _ _ _ _ c.find_ends-ends.ensures.answers) c.loop-end.invariant _ refl c.loop-end-test.false

pub match_with_nested_ruledef-returns-then-depth-ge-DEPTH : goal.match_with_nested_ruledef-returns-then-depth-ge-DEPTH
match_with_nested_ruledef-returns-then-depth-ge-DEPTH t c =
    nested-deep c.requires.ready _ _ c.if-depth-ge-DEPTH.true _

pub match_with_nested_ruledef-bounds-lent-set : goal.match_with_nested_ruledef-bounds-lent-set
match_with_nested_ruledef-bounds-lent-set t c =
    omega (arith, starts-long c.requires.ready _ c.requires.set_bound c.if-depth-ge-DEPTH.false, c.requires.set_bound)

pub match_with_nested_ruledef-bounds-lent-set-2 : goal.match_with_nested_ruledef-bounds-lent-set-2
match_with_nested_ruledef-bounds-lent-set-2 t c =
    omega (arith, starts-long c.requires.ready _ c.requires.set_bound c.if-depth-ge-DEPTH.false, c.requires.set_bound)

pub match_with_nested_ruledef-overflow_sub-count : goal.match_with_nested_ruledef-overflow_sub-count
match_with_nested_ruledef-overflow_sub-count t c =
    omega (arith, starts-ordered c.requires.ready _ c.requires.set_bound c.if-depth-ge-DEPTH.false)

pub match_with_nested_ruledef-loop-limit-init : goal.match_with_nested_ruledef-loop-limit-init
match_with_nested_ruledef-loop-limit-init t c = limits-start c.requires.ready _ c.requires.set_bound c.if-depth-ge-DEPTH.false [] _

pub match_with_nested_ruledef-shared_ref_as_front-limit-items : goal.match_with_nested_ruledef-shared_ref_as_front-limit-items
match_with_nested_ruledef-shared_ref_as_front-limit-items t c = (limits-two _ _ c.args.lent.now.sheet.now _ _ _ c.find_limits-limits.ensures.answers).0

pub match_with_nested_ruledef-look_ahead-ahead-requires-clause-cursor_le_limit : goal.match_with_nested_ruledef-look_ahead-ahead-requires-clause-cursor_le_limit
match_with_nested_ruledef-look_ahead-ahead-requires-clause-cursor_le_limit t c = let (a, b) = inner-within c.requires.ready _ c.requires.set_bound c.if-depth-ge-DEPTH.false _ _ refl refl _ (limits-held _ _ _ _ _ _ c.find_limits-limits.ensures.answers) _ c.loop-limit-test.true _ refl _ c.set_cursor_limit-inner.ensures.answers in omega (arith, a, c.requires.ready.cursor)

pub match_with_nested_ruledef-look_ahead-ahead-requires-clause-limit_in_bounds : goal.match_with_nested_ruledef-look_ahead-ahead-requires-clause-limit_in_bounds
match_with_nested_ruledef-look_ahead-ahead-requires-clause-limit_in_bounds t c = let (a, b) = inner-within c.requires.ready _ c.requires.set_bound c.if-depth-ge-DEPTH.false _ _ refl refl _ (limits-held _ _ _ _ _ _ c.find_limits-limits.ensures.answers) _ c.loop-limit-test.true _ refl _ c.set_cursor_limit-inner.ensures.answers in omega (arith, b, c.requires.ready.limit)

pub match_with_nested_ruledef-loop-rule-init : goal.match_with_nested_ruledef-loop-rule-init
match_with_nested_ruledef-loop-rule-init t c =
    rules-start c.requires.ready _ c.requires.set_bound c.if-depth-ge-DEPTH.false _ _ refl refl _ _ _ _ c.loop-limit.invariant.stored c.loop-limit.invariant.counted

pub match_with_nested_ruledef-loop-limit-preserved : goal.match_with_nested_ruledef-loop-limit-preserved
match_with_nested_ruledef-loop-limit-preserved t c =
    limits-again c.requires.ready _ c.requires.set_bound c.if-depth-ge-DEPTH.false _ _ refl refl _ (limits-held _ _ _ _ _ _ c.find_limits-limits.ensures.answers) _ c.loop-limit-test.true _ refl _ c.set_cursor_limit-inner.ensures.answers c.loop-limit.invariant c.loop-rule.invariant c.loop-rule-test.false

pub match_with_nested_ruledef-bounds-lent-number : goal.match_with_nested_ruledef-bounds-lent-number
match_with_nested_ruledef-bounds-lent-number t c =
    omega (arith, lead-there c.requires.ready _ c.requires.set_bound c.if-depth-ge-DEPTH.false _ _ refl refl c.loop-rule.rule c.loop-rule-test.true, c.requires.prepared.leads.sized)

pub match_with_nested_ruledef-returns-then-walked-fails : goal.match_with_nested_ruledef-returns-then-walked-fails
match_with_nested_ruledef-returns-then-walked-fails t c =
    let (a, b) = inner-within c.requires.ready _ c.requires.set_bound c.if-depth-ge-DEPTH.false _ _ refl refl _ (limits-held _ _ _ _ _ _ c.find_limits-limits.ensures.answers) _ c.loop-limit-test.true _ refl _ c.set_cursor_limit-inner.ensures.answers in
    nested-stop c.requires.ready _ _ c.requires.set_bound c.if-depth-ge-DEPTH.false _ _ refl refl _ c.next_useful_index-begins.ensures.answers _ (limits-held _ _ _ _ _ _ c.find_limits-limits.ensures.answers) _
    (limits-stop c.requires.ready _ c.requires.set_bound c.if-depth-ge-DEPTH.false _ _ refl refl _ (limits-held _ _ _ _ _ _ c.find_limits-limits.ensures.answers) _ c.loop-limit-test.true _ refl _ c.set_cursor_limit-inner.ensures.answers c.loop-limit.invariant
    (rules-spent c.requires.ready _ c.requires.set_bound c.if-depth-ge-DEPTH.false _ _ refl refl c.loop-rule.rule c.loop-rule-test.true _ a b c.requires.prepared.leads c.args.lent.now.bytes _ c.look_ahead-ahead.ensures.answers (sym c.in-Some.is ∙ c.failing_visits.ensures.answers) c.loop-rule.invariant c.if-walked-fails.true))

pub match_with_nested_ruledef-loop-rule-preserved-in-Some : goal.match_with_nested_ruledef-loop-rule-preserved-in-Some
match_with_nested_ruledef-loop-rule-preserved-in-Some t c =
    let (a, b) = inner-within c.requires.ready _ c.requires.set_bound c.if-depth-ge-DEPTH.false _ _ refl refl _ (limits-held _ _ _ _ _ _ c.find_limits-limits.ensures.answers) _ c.loop-limit-test.true _ refl _ c.set_cursor_limit-inner.ensures.answers in
    rules-skip c.requires.ready _ c.requires.set_bound c.if-depth-ge-DEPTH.false _ _ refl refl c.loop-rule.rule c.loop-rule-test.true _ a b c.requires.prepared.leads c.args.lent.now.bytes _ c.look_ahead-ahead.ensures.answers (sym c.in-Some.is ∙ c.failing_visits.ensures.answers) c.loop-rule.invariant c.if-walked-fails.false

pub match_with_nested_ruledef-match_with_rule-requires : goal.match_with_nested_ruledef-match_with_rule-requires
match_with_nested_ruledef-match_with_rule-requires t c =
    let (a, b) = inner-within c.requires.ready _ c.requires.set_bound c.if-depth-ge-DEPTH.false _ _ refl refl _ (limits-held _ _ _ _ _ _ c.find_limits-limits.ensures.answers) _ c.loop-limit-test.true _ refl _ c.set_cursor_limit-inner.ensures.answers in (
      omega (arith, c.decreases),
      (
        rule-ready c.requires.ready _ c.requires.set_bound c.if-depth-ge-DEPTH.false _ _ refl refl _ c.loop-rule-test.true _ c.parts_of-parts.ensures.answers _ a b _ _ c.loop-rule.invariant.stored c.loop-rule.invariant.counted,
        (rule-stands c.requires.ready _ c.requires.set_bound c.if-depth-ge-DEPTH.false _ _ refl refl _ c.loop-rule-test.true _ c.parts_of-parts.ensures.answers _ a b _ _ refl, c.requires.prepared),
      ),
    )

pub match_with_nested_ruledef-loop-rule-preserved : goal.match_with_nested_ruledef-loop-rule-preserved
match_with_nested_ruledef-loop-rule-preserved t c =
    let (a, b) = inner-within c.requires.ready _ c.requires.set_bound c.if-depth-ge-DEPTH.false _ _ refl refl _ (limits-held _ _ _ _ _ _ c.find_limits-limits.ensures.answers) _ c.loop-limit-test.true _ refl _ c.set_cursor_limit-inner.ensures.answers in
    rules-again c.requires.ready _ c.requires.set_bound c.if-depth-ge-DEPTH.false _ _ refl refl _ c.loop-rule-test.true _ c.parts_of-parts.ensures.answers _ a b c.loop-rule.invariant refl c.match_with_rule.ensures c.in_ok-walked.was
    (omega (arith, c.match_with_rule.auto))

pub match_with_nested_ruledef-returns-in_err-walked : goal.match_with_nested_ruledef-returns-in_err-walked
match_with_nested_ruledef-returns-in_err-walked t c =
    let (a, b) = inner-within c.requires.ready _ c.requires.set_bound c.if-depth-ge-DEPTH.false _ _ refl refl _ (limits-held _ _ _ _ _ _ c.find_limits-limits.ensures.answers) _ c.loop-limit-test.true _ refl _ c.set_cursor_limit-inner.ensures.answers in
    let p = err_from_is_err_and c.from_residual.result c.from_residual.ensures.1 in rw (p.1, p.2) (nested-stop c.requires.ready _ _ c.requires.set_bound c.if-depth-ge-DEPTH.false _ _ refl refl _ c.next_useful_index-begins.ensures.answers _ (limits-held _ _ _ _ _ _ c.find_limits-limits.ensures.answers) _
    (limits-stop c.requires.ready _ c.requires.set_bound c.if-depth-ge-DEPTH.false _ _ refl refl _ (limits-held _ _ _ _ _ _ c.find_limits-limits.ensures.answers) _ c.loop-limit-test.true _ refl _ c.set_cursor_limit-inner.ensures.answers c.loop-limit.invariant
    (rules-stop c.requires.ready _ c.requires.set_bound c.if-depth-ge-DEPTH.false _ _ refl refl _ c.loop-rule-test.true _ c.parts_of-parts.ensures.answers _ a b c.loop-rule.invariant refl c.match_with_rule.ensures c.in_err-walked.was)))

pub match_with_nested_ruledef-loop-m-init : goal.match_with_nested_ruledef-loop-m-init
match_with_nested_ruledef-loop-m-init t c =
    nest-start c.requires.ready c.if-depth-ge-DEPTH.false _ c.loop-limit.invariant.stored c.loop-limit.invariant.counted
    (nested-grown c.requires.ready _ _ c.requires.set_bound c.if-depth-ge-DEPTH.false _ _ refl refl _ c.next_useful_index-begins.ensures.answers _ (limits-held _ _ _ _ _ _ c.find_limits-limits.ensures.answers) c.loop-limit.invariant c.loop-limit-test.false)

pub match_with_nested_ruledef-inner_match-requires-clause-m_lt_used : goal.match_with_nested_ruledef-inner_match-requires-clause-m_lt_used
match_with_nested_ruledef-inner_match-requires-clause-m_lt_used t c = omega (arith, nest-used c.requires.ready c.if-depth-ge-DEPTH.false _ c.loop-m.invariant c.loop-m-test.true)

pub match_with_nested_ruledef-loop-m-preserved-in_default-inner_match : goal.match_with_nested_ruledef-loop-m-preserved-in_default-inner_match
match_with_nested_ruledef-loop-m-preserved-in_default-inner_match t c =
    nest-skip c.requires.ready c.if-depth-ge-DEPTH.false _ c.loop-m.invariant c.loop-m-test.true _ c.inner_match.ensures c.in_default-inner_match.is

pub match_with_nested_ruledef-overflow_add-sum : goal.match_with_nested_ruledef-overflow_add-sum
match_with_nested_ruledef-overflow_add-sum t c =
    let few = nested-below c.requires.ready _ _ c.requires.set_bound c.if-depth-ge-DEPTH.false _ _ refl refl _ c.next_useful_index-begins.ensures.answers _ (limits-held _ _ _ _ _ _ c.find_limits-limits.ensures.answers) c.loop-limit.invariant c.loop-limit-test.false
    (nest-member c.requires.ready c.if-depth-ge-DEPTH.false _ c.loop-m.invariant c.loop-m-test.true _ c.inner_match.ensures _ _ c.in-Some-inner_match.is)
    (inner-counts-first c.requires.ready c.if-depth-ge-DEPTH.false _ c.loop-m.invariant c.loop-m-test.true _ c.inner_match.ensures _ _ c.in-Some-inner_match.is) c.requires.stands.small in
    omega (arith, few)

pub match_with_nested_ruledef-keep-requires-clause-argument_fits : goal.match_with_nested_ruledef-keep-requires-clause-argument_fits
match_with_nested_ruledef-keep-requires-clause-argument_fits t c = let few = nested-below c.requires.ready _ _ c.requires.set_bound c.if-depth-ge-DEPTH.false _ _ refl refl _ c.next_useful_index-begins.ensures.answers _ (limits-held _ _ _ _ _ _ c.find_limits-limits.ensures.answers) c.loop-limit.invariant c.loop-limit-test.false
    (nest-member c.requires.ready c.if-depth-ge-DEPTH.false _ c.loop-m.invariant c.loop-m-test.true _ c.inner_match.ensures _ _ c.in-Some-inner_match.is)
    (inner-counts-first c.requires.ready c.if-depth-ge-DEPTH.false _ c.loop-m.invariant c.loop-m-test.true _ c.inner_match.ensures _ _ c.in-Some-inner_match.is) c.requires.stands.small in nest-fits c.requires.ready c.if-depth-ge-DEPTH.false _ c.loop-m.invariant c.loop-m-test.true _ c.inner_match.ensures _ _ c.in-Some-inner_match.is c.least-start.ensures.answers (omega (arith, few))

pub match_with_nested_ruledef-returns-in_default-keep : goal.match_with_nested_ruledef-returns-in_default-keep
match_with_nested_ruledef-returns-in_default-keep t c =
    nested-halt c.requires.ready _ _ c.requires.set_bound c.if-depth-ge-DEPTH.false _ _ refl refl _ c.next_useful_index-begins.ensures.answers _ (limits-held _ _ _ _ _ _ c.find_limits-limits.ensures.answers) c.loop-limit.invariant c.loop-limit-test.false _
    (nest-full c.requires.ready c.if-depth-ge-DEPTH.false _ c.loop-m.invariant c.loop-m-test.true _ c.inner_match.ensures _ _ c.in-Some-inner_match.is (rw c.in_default-keep.is at c.keep.ensures.answers.log))

pub match_with_nested_ruledef-match_with_rule-requires-in-loop-m : goal.match_with_nested_ruledef-match_with_rule-requires-in-loop-m
match_with_nested_ruledef-match_with_rule-requires-in-loop-m t c =
    let few = nested-below c.requires.ready _ _ c.requires.set_bound c.if-depth-ge-DEPTH.false _ _ refl refl _ c.next_useful_index-begins.ensures.answers _ (limits-held _ _ _ _ _ _ c.find_limits-limits.ensures.answers) c.loop-limit.invariant c.loop-limit-test.false
    (nest-member c.requires.ready c.if-depth-ge-DEPTH.false _ c.loop-m.invariant c.loop-m-test.true _ c.inner_match.ensures _ _ c.in-Some-inner_match.is)
    (inner-counts-first c.requires.ready c.if-depth-ge-DEPTH.false _ c.loop-m.invariant c.loop-m-test.true _ c.inner_match.ensures _ _ c.in-Some-inner_match.is) c.requires.stands.small in
    let (within, _, of) = nested-within c.requires.ready _ _ c.requires.set_bound c.if-depth-ge-DEPTH.false _ _ refl refl _ c.next_useful_index-begins.ensures.answers _ (limits-held _ _ _ _ _ _ c.find_limits-limits.ensures.answers) c.loop-limit.invariant c.loop-limit-test.false
    (nest-member c.requires.ready c.if-depth-ge-DEPTH.false _ c.loop-m.invariant c.loop-m-test.true _ c.inner_match.ensures _ _ c.in-Some-inner_match.is) in
    let (since, grown) = nested-since c.requires.ready _ _ c.requires.set_bound c.if-depth-ge-DEPTH.false _ _ refl refl _ c.next_useful_index-begins.ensures.answers _ (limits-held _ _ _ _ _ _ c.find_limits-limits.ensures.answers) c.loop-limit.invariant c.loop-limit-test.false in (
      omega (arith, c.decreases),
      (
        nest-ready c.requires.ready c.if-depth-ge-DEPTH.false _ c.loop-m.invariant c.loop-m-test.true _ c.inner_match.ensures _ _ c.in-Some-inner_match.is _ c.least-start.ensures.answers _ _ (rw c.in-Some-keep.is at c.keep.ensures.answers.log) c.after-next.ensures within (omega (arith, c.keep.auto))
            (nest-counted c.requires.ready c.if-depth-ge-DEPTH.false _ c.loop-m.invariant c.loop-m-test.true _ c.inner_match.ensures _ _ c.in-Some-inner_match.is _ c.least-start.ensures.answers _ _ (rw c.in-Some-keep.is at c.keep.ensures.answers.log) c.requires.stands refl of since grown) c.set_cursor_index-moved.ensures.answers,
        (nest-stands c.requires.ready c.if-depth-ge-DEPTH.false _ c.loop-m.invariant c.loop-m-test.true _ c.inner_match.ensures _ _ c.in-Some-inner_match.is _ c.least-start.ensures.answers _ _ (rw c.in-Some-keep.is at c.keep.ensures.answers.log) c.requires.stands refl of since grown c.after-next.ensures within (omega (arith, few)) c.set_cursor_index-moved.ensures.answers, c.requires.prepared),
      ),
    )

pub match_with_nested_ruledef-loop-m-preserved : goal.match_with_nested_ruledef-loop-m-preserved
match_with_nested_ruledef-loop-m-preserved t c =
    nest-again c.requires.ready c.if-depth-ge-DEPTH.false _ c.loop-m.invariant c.loop-m-test.true _ c.inner_match.ensures _ _ c.in-Some-inner_match.is _ c.least-start.ensures.answers _ _ (rw c.in-Some-keep.is at c.keep.ensures.answers.log) c.after-next.ensures
    (nested-within c.requires.ready _ _ c.requires.set_bound c.if-depth-ge-DEPTH.false _ _ refl refl _ c.next_useful_index-begins.ensures.answers _ (limits-held _ _ _ _ _ _ c.find_limits-limits.ensures.answers) c.loop-limit.invariant c.loop-limit-test.false
    (nest-member c.requires.ready c.if-depth-ge-DEPTH.false _ c.loop-m.invariant c.loop-m-test.true _ c.inner_match.ensures _ _ c.in-Some-inner_match.is)).0
    c.set_cursor_index-moved.ensures.answers c.match_with_rule-in-loop-m.ensures c.in_ok-walked-2.was
    (omega (arith, c.match_with_rule-in-loop-m.auto, c.keep.auto))

pub match_with_nested_ruledef-returns-in_err-walked-2 : goal.match_with_nested_ruledef-returns-in_err-walked-2
match_with_nested_ruledef-returns-in_err-walked-2 t c =
    let p = err_from_is_err_and c.from_residual-in_err-walked-2.result c.from_residual-in_err-walked-2.ensures.1 in rw (p.1, p.2) (nested-halt c.requires.ready _ _ c.requires.set_bound c.if-depth-ge-DEPTH.false _ _ refl refl _ c.next_useful_index-begins.ensures.answers _ (limits-held _ _ _ _ _ _ c.find_limits-limits.ensures.answers) c.loop-limit.invariant c.loop-limit-test.false _
    (nest-halt c.requires.ready c.if-depth-ge-DEPTH.false _ c.loop-m.invariant c.loop-m-test.true _ c.inner_match.ensures _ _ c.in-Some-inner_match.is _ c.least-start.ensures.answers _ _ (rw c.in-Some-keep.is at c.keep.ensures.answers.log) c.after-next.ensures
    (nested-within c.requires.ready _ _ c.requires.set_bound c.if-depth-ge-DEPTH.false _ _ refl refl _ c.next_useful_index-begins.ensures.answers _ (limits-held _ _ _ _ _ _ c.find_limits-limits.ensures.answers) c.loop-limit.invariant c.loop-limit-test.false
    (nest-member c.requires.ready c.if-depth-ge-DEPTH.false _ c.loop-m.invariant c.loop-m-test.true _ c.inner_match.ensures _ _ c.in-Some-inner_match.is)).0
    c.set_cursor_index-moved.ensures.answers c.match_with_rule-in-loop-m.ensures c.in_err-walked-2.was))

pub match_with_nested_ruledef-returns : goal.match_with_nested_ruledef-returns
match_with_nested_ruledef-returns t c =
    nested-done c.requires.ready _ _ c.requires.set_bound c.if-depth-ge-DEPTH.false _ _ refl refl _ c.next_useful_index-begins.ensures.answers _ (limits-held _ _ _ _ _ _ c.find_limits-limits.ensures.answers) c.loop-limit.invariant c.loop-limit-test.false _ c.loop-m.invariant c.loop-m-test.false

pub match_with_rule-returns-then-left-eq0 : goal.match_with_rule-returns-then-left-eq0
match_with_rule-returns-then-left-eq0 t c =
    (along-spent c.requires.ready _ c.loop-left.invariant c.if-left-eq0.true)

pub match_with_rule-finish-requires-clause-ended : goal.match_with_rule-finish-requires-clause-ended
match_with_rule-finish-requires-clause-ended t c = along-ended c.requires.ready _ c.loop-left.invariant c.if-at-end.true

pub match_with_rule-returns-then-at-end : goal.match_with_rule-returns-then-at-end
match_with_rule-returns-then-at-end t c =
    (along-end c.requires.ready _ c.loop-left.invariant c.if-left-eq0.false c.if-at-end.true c.finish.ensures)

pub match_with_rule-loop-left-preserved-in-Exact : goal.match_with_rule-loop-left-preserved-in-Exact
match_with_rule-loop-left-preserved-in-Exact t c =
    along-by (omega arith) (along-exact c.requires.ready _ c.loop-left.invariant c.if-left-eq0.false c.if-at-end.false _ c.part_within-part.ensures.answers c.in-Exact.is _ c.maybe_expect_char.ensures.answers c.in-Past.is)

pub match_with_rule-returns-in_default : goal.match_with_rule-returns-in_default
match_with_rule-returns-in_default t c =
    (along-no-exact c.requires.ready _ c.loop-left.invariant c.if-left-eq0.false c.if-at-end.false _ c.part_within-part.ensures.answers c.in-Exact.is _ c.maybe_expect_char.ensures.answers c.in_default.is)

pub match_with_rule-loop-left-preserved : goal.match_with_rule-loop-left-preserved
match_with_rule-loop-left-preserved t c =
    along-whitespace c.requires.ready _ c.loop-left.invariant c.if-left-eq0.false c.if-at-end.false _ c.part_within-part.ensures.answers c.in-Whitespace.is _ c.maybe_expect_whitespace.ensures.answers c.in-Past-maybe_expect_whitespace.is

pub match_with_rule-returns-in_default-maybe_expect_whitespace : goal.match_with_rule-returns-in_default-maybe_expect_whitespace
match_with_rule-returns-in_default-maybe_expect_whitespace t c =
    (along-no-whitespace c.requires.ready _ c.loop-left.invariant c.if-left-eq0.false c.if-at-end.false _ c.part_within-part.ensures.answers c.in-Whitespace.is _ c.maybe_expect_whitespace.ensures.answers c.in_default-maybe_expect_whitespace.is)

pub match_with_rule-match_with_expr-requires : goal.match_with_rule-match_with_expr-requires
match_with_rule-match_with_expr-requires t c =
    (omega (arith, c.decreases), (step-ready c.requires.ready _ c.loop-left.invariant c.if-left-eq0.false c.if-at-end.false _ c.part_within-part.ensures.answers c.past-rest.ensures, (step-stands c.requires.ready _ c.loop-left.invariant c.if-left-eq0.false c.if-at-end.false _ c.part_within-part.ensures.answers c.in-Expression.is c.past-rest.ensures, c.requires.prepared)))

pub match_with_rule-returns-in-Expression : goal.match_with_rule-returns-in-Expression
match_with_rule-returns-in-Expression t c =
    (along-expression c.requires.ready _ c.loop-left.invariant c.if-left-eq0.false c.if-at-end.false _ c.part_within-part.ensures.answers c.in-Expression.is c.past-rest.ensures c.match_with_expr.ensures)

pub match_with_rule-match_with_nested_ruledef-requires : goal.match_with_rule-match_with_nested_ruledef-requires
match_with_rule-match_with_nested_ruledef-requires t c = (
  omega (arith, c.decreases),
  (step-ready c.requires.ready _ c.loop-left.invariant c.if-left-eq0.false c.if-at-end.false _ c.part_within-part.ensures.answers c.past-rest-in-Nested.ensures, (step-stands c.requires.ready _ c.loop-left.invariant c.if-left-eq0.false c.if-at-end.false _ c.part_within-part.ensures.answers c.in-Nested.is c.past-rest-in-Nested.ensures, (ruleset-few c.requires.ready c.args.visits c.loop-left.invariant c.if-left-eq0.false c.if-at-end.false _ c.part_within-part.ensures.answers c.in-Nested.is, c.requires.prepared))),
)

pub match_with_rule-returns-in-Nested : goal.match_with_rule-returns-in-Nested
match_with_rule-returns-in-Nested t c =
    (along-nested c.requires.ready _ c.loop-left.invariant c.if-left-eq0.false c.if-at-end.false _ c.part_within-part.ensures.answers c.in-Nested.is c.past-rest-in-Nested.ensures c.match_with_nested_ruledef.ensures)
