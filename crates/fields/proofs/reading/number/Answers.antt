-- `fields::reading::number` meets its contract: one digit, two without a leading zero, or none below 100.
use mathlib.Core.Path.{sym, ap, ◌∙◌}
use Rattle.std.specs.Prelude.{Some, ◌≡◌}
use native.Mathlib.Omega.{arith}
use Rattle.printing.specs.Listing.{Bytes}
use Rattle.printing.specs.Reading.{number_of}
use Rattle.fields.specs.Said.{low_number}
use Rattle.fields.proofs.Scans.{one_byte, two_bytes, digit-back, low-one, low-long, two-first, two-second, two-zero, two-some}
use Rattle.fields.proofs.reading.number.Goals as goal

pub returns-in-len1 : goal.returns-in-len1
returns-in-len1 c = record { answers = c.digit.ensures.answers ∙ low-one _ ∙ ap (λ (x : Bytes). low_number (number_of x)) (sym (one_byte c.args.field.now (omega arith))) }

pub returns-in_err-tens-in-len2 : goal.returns-in_err-tens-in-len2
returns-in_err-tens-in-len2 c = record { answers = rw c.from_residual.ensures (two-first _ _ (sym c.digit-in-len2.ensures.answers ∙ c.in_err-tens-in-len2.was) ∙ ap (λ (x : Bytes). low_number (number_of x)) (sym (two_bytes c.args.field.now (omega arith)))) }

pub returns-in_err-ones-in-len2 : goal.returns-in_err-ones-in-len2
returns-in_err-ones-in-len2 c = record { answers = rw c.from_residual-in_err-ones-in-len2.ensures (two-second _ _ (sym c.digit-in-len2-2.ensures.answers ∙ c.in_err-ones-in-len2.was) ∙ ap (λ (x : Bytes). low_number (number_of x)) (sym (two_bytes c.args.field.now (omega arith)))) }

pub returns-then-tens-eq0 : goal.returns-then-tens-eq0
returns-then-tens-eq0 c = let z : c.in_ok-tens-in-len2.tens ≡ 0 = omega arith in record { answers = two-zero _ _ (sym c.digit-in-len2.ensures.answers ∙ c.in_ok-tens-in-len2.was ∙ ap Some z) ∙ ap (λ (x : Bytes). low_number (number_of x)) (sym (two_bytes c.args.field.now (omega arith))) }

pub overflow_add-result : goal.overflow_add-result
overflow_add-result c = omega (arith, digit-back _ _ (sym c.digit-in-len2.ensures.answers ∙ c.in_ok-tens-in-len2.was), digit-back _ _ (sym c.digit-in-len2-2.ensures.answers ∙ c.in_ok-ones-in-len2.was))

pub returns-else-tens-eq0 : goal.returns-else-tens-eq0
returns-else-tens-eq0 c = record { answers = two-some _ _ _ _ (sym c.digit-in-len2.ensures.answers ∙ c.in_ok-tens-in-len2.was) (sym c.digit-in-len2-2.ensures.answers ∙ c.in_ok-ones-in-len2.was) (λ e. omega arith) ∙ ap (λ (x : Bytes). low_number (number_of x)) (sym (two_bytes c.args.field.now (omega arith))) }

pub overflow_mul-result : goal.overflow_mul-result
overflow_mul-result c = omega (arith, digit-back _ _ (sym c.digit-in-len2.ensures.answers ∙ c.in_ok-tens-in-len2.was))

pub returns-in_default : goal.returns-in_default
returns-in_default c = record { answers = low-long c.args.field.now (λ e. omega arith) (λ e. omega arith) }

pub returns-in_default-2 : goal.returns-in_default-2
returns-in_default-2 c = record { answers = low-long c.args.field.now (λ e. omega arith) (λ e. omega arith) }
