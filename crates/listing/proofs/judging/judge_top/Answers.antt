-- `listing::judging::judge_top` meets its contract.
use mathlib.Core.Path.{sym, ap, ◌∙◌}
use mathlib.Core.Bool.{true, false}
use native.Mathlib.Omega.{arith}
use Rattle.printing.specs.Reading.{top_in}
use Rattle.listing.proofs.Steps.{counted-small, top-full, top-more, top-field, nested-field, none-left, lone_field}
use Rattle.listing.proofs.judging.judge_top.Goals as goal
use Rattle.listing.proofs.judging.judge_top.Goals.{then-is_word-via-then-is_word, then-is_word-via-else-is_word+then-is_word-2}

pub returns-then-sizes-eq-MOST_RULESETS : goal.returns-then-sizes-eq-MOST_RULESETS
returns-then-sizes-eq-MOST_RULESETS c = record { says = λ d k. top-full d _ _ _ _ k _ (omega arith) (omega arith) }

pub returns-then-is_word : goal.returns-then-is_word
returns-then-is_word c = record {
  says = λ d k. let one = lone_field c.in_ok-kind.ensures.steps (none-left _ c.next-2.result (sym c.is_some.ensures ∙ c.if-is_some.false) c.next-2.ensures.steps).0 in
      elim c.then-is_word.branch [
        | then-is_word-via-then-is_word w ↦ top-more d _ _ _ _ k _ true (ap top_in one ∙ top-field _ (sym c.is_word.ensures.answers ∙ w.if-is_word.true)) (omega arith) (λ e. omega arith)
        | then-is_word-via-else-is_word+then-is_word-2 w ↦ top-more d _ _ _ _ k _ false (ap top_in one ∙ nested-field _ (sym c.is_word.ensures.answers ∙ w.if-is_word.false) (sym w.is_word-else-is_word.ensures.answers ∙ w.if-is_word-2.true)) (omega arith) (λ e. omega arith)
      ];
}

pub overflow_add-result : goal.overflow_add-result
overflow_add-result c = omega (arith, (counted-small _ _ _ _ _ c.requires.countable.counted).0)
