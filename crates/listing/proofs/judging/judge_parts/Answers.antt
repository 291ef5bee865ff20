use mathlib.Core.Path.{sym, ap, ◌∙◌}
use native.Mathlib.Omega.{arith}
use Rattle.printing.specs.Reading.{parts_in}
use Rattle.fields.specs.Said.{fields_left}
use Rattle.fields.specs.declared.reading.Fields.{Fields}
use Rattle.listing.specs.Judging.{parts_said}
use Rattle.listing.proofs.Counts.{count_from, count-is, count-no-part, count-many, count-parameter, count-other, count-few, count-over}
use Rattle.listing.proofs.judging.judge_parts.Goals as goal

pub loop-field-init : goal.loop-field-init
loop-field-init c = record {
  same = count-is _ _ ∙ ap (λ (f : Fields). parts_said c.args.sets (parts_in (fields_left f))) c.into_iter-field-iterator.ensures.into_iter_gives;
  most = omega arith;
  few = omega arith;
}

pub returns-in_err-word : goal.returns-in_err-word
returns-in_err-word c = record {
  answers = rw c.from_residual.ensures
      (count-no-part c.args.sets c.loop-field.count c.loop-field.parameters _ _ (sym c.in_err-word.was ∙ c.part_word.ensures.answers)
      ∙ sym (ap (count_from c.args.sets c.loop-field.count c.loop-field.parameters) c.in-Some.ensures.steps) ∙ c.loop-field.invariant.same);
}

pub returns-then-count-eq-MOST_PARTS_A_RULE : goal.returns-then-count-eq-MOST_PARTS_A_RULE
returns-then-count-eq-MOST_PARTS_A_RULE c = record {
  answers = count-many c.args.sets c.loop-field.count c.loop-field.parameters _ _ _ (sym c.in_ok-word.was ∙ c.part_word.ensures.answers) (omega arith)
      ∙ sym (ap (count_from c.args.sets c.loop-field.count c.loop-field.parameters) c.in-Some.ensures.steps) ∙ c.loop-field.invariant.same;
}

pub loop-field-preserved-then-word-gt-WHITESPACE : goal.loop-field-preserved-then-word-gt-WHITESPACE
loop-field-preserved-then-word-gt-WHITESPACE c = record {
  same = count-parameter c.args.sets c.loop-field.count c.loop-field.parameters _ _ _ (sym c.in_ok-word.was ∙ c.part_word.ensures.answers) (omega arith) (omega arith)
      ∙ sym (ap (count_from c.args.sets c.loop-field.count c.loop-field.parameters) c.in-Some.ensures.steps) ∙ c.loop-field.invariant.same;
  most = omega arith;
  few = omega arith;
}

pub loop-field-preserved : goal.loop-field-preserved
loop-field-preserved c = record {
  same = count-other c.args.sets c.loop-field.count c.loop-field.parameters _ _ _ (sym c.in_ok-word.was ∙ c.part_word.ensures.answers) (omega arith) (omega arith)
      ∙ sym (ap (count_from c.args.sets c.loop-field.count c.loop-field.parameters) c.in-Some.ensures.steps) ∙ c.loop-field.invariant.same;
  most = omega arith;
  few = omega arith;
}

pub returns-then-parameters-gt-MOST_PARAMETERS : goal.returns-then-parameters-gt-MOST_PARAMETERS
returns-then-parameters-gt-MOST_PARAMETERS c = record {
  answers = count-over c.args.sets c.loop-field.count c.loop-field.parameters (omega arith)
      ∙ sym (ap (count_from c.args.sets c.loop-field.count c.loop-field.parameters) c.in-None.ensures.steps.0) ∙ c.loop-field.invariant.same;
}

pub returns : goal.returns
returns c = record {
  answers = count-few c.args.sets c.loop-field.count c.loop-field.parameters (omega arith)
      ∙ sym (ap (count_from c.args.sets c.loop-field.count c.loop-field.parameters) c.in-None.ensures.steps.0) ∙ c.loop-field.invariant.same;
}
