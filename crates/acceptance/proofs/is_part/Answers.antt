-- `is_part`, by the tests in the order of the numbers.
use Rattle.defs.proofs.Fits.{part_low, part-printed, part-space, part-expr, part-between, part-ruleset}
use native.Mathlib.Omega.{arith}
use Rattle.acceptance.proofs.is_part.Goals as goal

pub returns-then-word-lt-FIRST_PRINTED : goal.returns-then-word-lt-FIRST_PRINTED
returns-then-word-lt-FIRST_PRINTED c = record { answers = part_low _ _ c.if-word-lt-FIRST_PRINTED.true }

pub returns-then-word-le-LAST_PRINTED : goal.returns-then-word-le-LAST_PRINTED
returns-then-word-le-LAST_PRINTED c = record { answers = part-printed _ _ c.if-word-lt-FIRST_PRINTED.false c.if-word-le-LAST_PRINTED.true }

pub returns-then-word-eq-WHITESPACE : goal.returns-then-word-eq-WHITESPACE
returns-then-word-eq-WHITESPACE c = record { answers = part-space _ _ (omega arith) }

pub returns-then-word-eq-EXPRESSION : goal.returns-then-word-eq-EXPRESSION
returns-then-word-eq-EXPRESSION c = record { answers = part-expr _ _ (omega arith) }

pub returns-then-word-lt-NESTED : goal.returns-then-word-lt-NESTED
returns-then-word-lt-NESTED c = record { answers = part-between _ _ c.if-word-le-LAST_PRINTED.false c.if-word-eq-WHITESPACE.false c.if-word-eq-EXPRESSION.false c.if-word-lt-NESTED.true }

pub returns : goal.returns
returns c = record { answers = part-ruleset _ _ c.if-word-le-LAST_PRINTED.false c.if-word-eq-WHITESPACE.false c.if-word-eq-EXPRESSION.false c.if-word-lt-NESTED.false }
