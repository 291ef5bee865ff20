use native.Mathlib.Omega.{arith}
use Rattle.std.proofs.lemmas.Grind.{common_steps}
use Rattle.listing.proofs.Steps.{from_start, few-sizes, bad-at, from-unended, from-bad, from_next, from-none, from-good, says-bad, says-fits}
use Rattle.listing.proofs.judging.judge.Goals as goal

pub loop-line-init : goal.loop-line-init
loop-line-init c = from_start c.args.text.now

pub next_line-requires-clause-sets_bound : goal.next_line-requires-clause-sets_bound
next_line-requires-clause-sets_bound c = let z = few-sizes c.args.text.now c.loop-line.rest.now _ _ _ _ c.loop-line.invariant in z.0

pub next_line-requires-clause-rules_bound : goal.next_line-requires-clause-rules_bound
next_line-requires-clause-rules_bound c = let z = few-sizes c.args.text.now c.loop-line.rest.now _ _ _ _ c.loop-line.invariant in z.1

pub returns-in_default-judge_line : goal.returns-in_default-judge_line
returns-in_default-judge_line c = record {
  says = bad-at c.next_line.ensures
      (from-bad c.args.text.now c.loop-line.rest.now _ _ _ _ c.loop-line.invariant _ _ c.in-Some.ensures.answers
      (says-bad _ c.judge_line.result c.in_default-judge_line.is (c.judge_line.ensures.says c.loop-line.invariant.so_far c.loop-line.invariant.counted)));
}

pub loop-line-preserved : goal.loop-line-preserved
loop-line-preserved c =
    from_next c.args.text.now c.loop-line.rest.now _ _ _ _ c.loop-line.invariant _ _ c.in-Some.ensures.answers _ _ _ _
    (says-fits _ c.judge_line.result _ c.in-Some-judge_line.is (c.judge_line.ensures.says c.loop-line.invariant.so_far c.loop-line.invariant.counted))

pub next_line-requires-then-not-is_empty-clause-sets_bound : goal.next_line-requires-then-not-is_empty-clause-sets_bound
next_line-requires-then-not-is_empty-clause-sets_bound c = let z = few-sizes c.args.text.now c.loop-line.rest.now _ _ _ _ c.loop-line.invariant in z.0

pub next_line-requires-then-not-is_empty-clause-rules_bound : goal.next_line-requires-then-not-is_empty-clause-rules_bound
next_line-requires-then-not-is_empty-clause-rules_bound c = let z = few-sizes c.args.text.now c.loop-line.rest.now _ _ _ _ c.loop-line.invariant in z.1

pub returns-then-not-is_empty : goal.returns-then-not-is_empty
returns-then-not-is_empty c = record {
  says = bad-at c.next_line-then-not-is_empty.ensures
      (from-unended c.args.text.now c.loop-line.rest.now _ _ _ _ c.loop-line.invariant c.in_default.ensures.answers (grind (arith, common_steps)));
}

pub next_line-requires-then-sizes-eq0-clause-rules_bound : goal.next_line-requires-then-sizes-eq0-clause-rules_bound
next_line-requires-then-sizes-eq0-clause-rules_bound c = let z = few-sizes c.args.text.now c.loop-line.rest.now _ _ _ _ c.loop-line.invariant in z.1

pub returns-then-sizes-eq0 : goal.returns-then-sizes-eq0
returns-then-sizes-eq0 c = record {
  says = bad-at c.next_line-then-sizes-eq0.ensures
      (from-none c.args.text.now c.loop-line.rest.now _ _ _ _ c.loop-line.invariant (grind (arith, common_steps)) (omega arith));
}

pub returns : goal.returns
returns c = record { says = from-good c.args.text.now c.loop-line.rest.now _ _ _ _ c.loop-line.invariant (grind (arith, common_steps)) (λ e. omega arith) }
