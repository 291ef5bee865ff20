-- `fields::reading::part_word` meets its contract, case by case.
use mathlib.Core.Path.{sym, ap, ◌∙◌}
use native.Mathlib.Omega.{arith}
use Rattle.printing.specs.Listing.{Bytes}
use Rattle.printing.specs.Reading.{number_of, part_in}
use Rattle.fields.specs.Said.{low_number, word_in}
use Rattle.fields.proofs.Scans.{one_byte, word-exact, word-ws, word-expr, word-other, word-unnumbered, word-sub, word-past}
use Rattle.fields.proofs.reading.part_word.Goals as goal

pub returns-then-field-eq1 : goal.returns-then-field-eq1
returns-then-field-eq1 c = record { answers = c.exact.ensures.answers ∙ word-exact c.args.sets _ ∙ ap (λ (x : Bytes). word_in c.args.sets (part_in x)) (sym (one_byte c.args.field.now (omega arith))) }

pub returns-then-is_word : goal.returns-then-is_word
returns-then-is_word c = record { answers = word-ws c.args.sets _ (sym c.is_word.ensures.answers ∙ c.if-is_word.true) }

pub returns-then-is_word-2 : goal.returns-then-is_word-2
returns-then-is_word-2 c = record { answers = word-expr c.args.sets _ (sym c.is_word-2.ensures.answers ∙ c.if-is_word-2.true) }

pub returns-in_err-strip_prefix : goal.returns-in_err-strip_prefix
returns-in_err-strip_prefix c =
    record {
      answers =
          rw c.from_residual.ensures
          (word-other c.args.sets _ (sym c.is_word.ensures.answers ∙ c.if-is_word.false) (sym c.is_word-2.ensures.answers ∙ c.if-is_word-2.false)
          (λ e. omega arith)
          c.in_err-strip_prefix.ensures.cases);
    }

pub returns-in_err-set : goal.returns-in_err-set
returns-in_err-set c =
    record {
      answers =
          rw c.from_residual-in_err-set.ensures
          (word-unnumbered c.args.sets _ (sym c.is_word.ensures.answers ∙ c.if-is_word.false) (sym c.is_word-2.ensures.answers ∙ c.if-is_word-2.false)
          c.in_ok-strip_prefix.ensures.cases.0
          (sym c.in_err-set.was ∙ c.number.ensures.answers ∙ ap (λ (x : Bytes). low_number (number_of x)) c.in_ok-strip_prefix.ensures.cases.1) c.requires.sets_bound);
    }

pub returns-then-set-sets : goal.returns-then-set-sets
returns-then-set-sets c =
    record {
      answers =
          word-sub c.args.sets _ (sym c.is_word.ensures.answers ∙ c.if-is_word.false) (sym c.is_word-2.ensures.answers ∙ c.if-is_word-2.false)
          c.in_ok-strip_prefix.ensures.cases.0 _
          (sym c.in_ok-set.was ∙ c.number.ensures.answers ∙ ap (λ (x : Bytes). low_number (number_of x)) c.in_ok-strip_prefix.ensures.cases.1) (omega arith);
    }

pub returns-else-set-sets : goal.returns-else-set-sets
returns-else-set-sets c =
    record {
      answers =
          word-past c.args.sets _ (sym c.is_word.ensures.answers ∙ c.if-is_word.false) (sym c.is_word-2.ensures.answers ∙ c.if-is_word-2.false)
          c.in_ok-strip_prefix.ensures.cases.0 _
          (sym c.in_ok-set.was ∙ c.number.ensures.answers ∙ ap (λ (x : Bytes). low_number (number_of x)) c.in_ok-strip_prefix.ensures.cases.1) (omega arith);
    }
