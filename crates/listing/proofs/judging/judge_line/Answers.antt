-- `listing::judging::judge_line` meets its contract.
use mathlib.Core.Path.{sym, ap, ◌∙◌}
use native.Mathlib.Omega.{arith}
use lib.ListN.{length}
use Rattle.printing.proofs.Pieces.{pieces-some}
use Rattle.listing.proofs.Steps.{line-top, line-rule, line_other, says-as}
use Rattle.listing.proofs.judging.judge_line.Goals as goal

pub returns-in_err-word : goal.returns-in_err-word
returns-in_err-word c = absurd (omega (arith, pieces-some 9 c.args.line.now, ap length (sym c.of-fields.ensures.answers ∙ c.in_err-word.ensures.steps.0)))

pub returns-then-is_word : goal.returns-then-is_word
returns-then-is_word c = record {
  says = λ d k. says-as c.judge_top.result
      (line-top d c.args.line.now _ _ (sym c.of-fields.ensures.answers ∙ c.in_ok-word.ensures.steps) (sym c.is_word.ensures.answers ∙ c.if-is_word.true)) (c.judge_top.ensures.says d k);
}

pub returns-then-is_word-2 : goal.returns-then-is_word-2
returns-then-is_word-2 c = record {
  says = λ d k. says-as c.judge_rule.result
      (line-rule d c.args.line.now _ _ (sym c.of-fields.ensures.answers ∙ c.in_ok-word.ensures.steps) (sym c.is_word.ensures.answers ∙ c.if-is_word.false)
      (sym c.is_word-2.ensures.answers ∙ c.if-is_word-2.true)) (c.judge_rule.ensures.says d k);
}

pub returns : goal.returns
returns c = record {
  says = λ d k. line_other d c.args.line.now _ _ (sym c.of-fields.ensures.answers ∙ c.in_ok-word.ensures.steps) (sym c.is_word.ensures.answers ∙ c.if-is_word.false)
      (sym c.is_word-2.ensures.answers ∙ c.if-is_word-2.false);
}
