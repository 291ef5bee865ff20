-- `listing::judging::judge_rule` meets its contract.
use mathlib.Core.Path.{sym, ◌∙◌}
use native.Mathlib.Omega.{arith}
use Rattle.printing.specs.Reading.{parts_in}
use Rattle.fields.specs.Said.{fields_left}
use Rattle.listing.proofs.Counts.{said-parts}
use Rattle.listing.proofs.Steps.{counted-small, rule-unnumbered, rule-unsaid, rule-out, rule-roomless, rule-some, rule-as}
use Rattle.listing.proofs.judging.judge_rule.Goals as goal

pub returns-in_err-set : goal.returns-in_err-set
returns-in_err-set c = record {
  says = λ d k. rw c.from_residual-in_err-set.ensures
      (rule-as d c.in_ok-next.ensures.steps ∙ rule-unnumbered d _ _ _ _ k _ _ (sym c.in_err-set.was ∙ c.number.ensures.answers));
}

pub returns-then-set-sizes : goal.returns-then-set-sizes
returns-then-set-sizes c = record {
  says = λ d k. rule-as d c.in_ok-next.ensures.steps ∙ rule-out d _ _ _ _ k _ _ _ (sym c.in_ok-set.was ∙ c.number.ensures.answers) (λ x y z. omega arith);
}

pub judge_parts-requires : goal.judge_parts-requires
judge_parts-requires c = record { sets_bound = (counted-small _ _ _ _ _ c.requires.countable.counted).0 }

pub returns-in_err-count : goal.returns-in_err-count
returns-in_err-count c = record {
  says = λ d k. rw c.from_residual-in_err-count.ensures
      (rule-as d c.in_ok-next.ensures.steps ∙ rule-unsaid d _ _ _ _ k _ _ (sym c.in_err-count.was ∙ c.judge_parts.ensures.answers));
}

pub overflow_add-sizes : goal.overflow_add-sizes
overflow_add-sizes c =
    let z = said-parts c.args.sizes.sets c.in_ok-count.count (parts_in (fields_left c.next.new.self)) (sym c.in_ok-count.was ∙ c.judge_parts.ensures.answers) in
    omega (arith, (counted-small _ _ _ _ _ c.requires.countable.counted).2, z.size, z.short)

pub returns-then-sizes-count-gt-MOST_PARTS : goal.returns-then-sizes-count-gt-MOST_PARTS
returns-then-sizes-count-gt-MOST_PARTS c = record {
  says = λ d k. rule-as d c.in_ok-next.ensures.steps
      ∙ rule-roomless d _ _ _ _ k _ _ _ (sym c.in_ok-set.was ∙ c.number.ensures.answers) _ (sym c.in_ok-count.was ∙ c.judge_parts.ensures.answers) (omega arith);
}

pub overflow_add-result : goal.overflow_add-result
overflow_add-result c = omega (arith, (counted-small _ _ _ _ _ c.requires.countable.counted).1)

pub returns : goal.returns
returns c = record {
  says = λ d k.
      let z = rule-some d _ _ _ _ k _ _ _ (sym c.in_ok-set.was ∙ c.number.ensures.answers) _ (sym c.in_ok-count.was ∙ c.judge_parts.ensures.answers) (omega arith) (omega arith) (omega (arith, (counted-small _ _ _ _ _ k).1)) (omega arith) in
      (z.0, rule-as d c.in_ok-next.ensures.steps ∙ z.1, z.2);
}
