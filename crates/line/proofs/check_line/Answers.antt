-- What the first bad byte, or none, and the last byte say of the line.
use mathlib.Core.Path.{sym, ◌∙◌}
use native.Mathlib.Omega.{arith}
use Rattle.line.proofs.Lines.{verdict-long, verdict-byte, verdict-empty, verdict-end, verdict-good}
use Rattle.line.proofs.check_line.Goals as goal

pub returns-then-line-gt-LONGEST : goal.returns-then-line-gt-LONGEST
returns-then-line-gt-LONGEST c = record { answers = verdict-long _ (omega (arith, c.if-line-gt-LONGEST.true)) }

pub returns-in-Some : goal.returns-in-Some
returns-in-Some c = record { answers = verdict-byte _ c.if-line-gt-LONGEST.false _ (sym c.first_bad.ensures.value ∙ c.in-Some.is) }

pub returns-then-is_whitespace : goal.returns-then-is_whitespace
returns-then-is_whitespace c = record { answers = verdict-end _ c.if-line-gt-LONGEST.false (sym c.first_bad.ensures.value ∙ c.in_default.is) _ _ c.in-Some-split_last.ensures.cases.0 (sym c.is_whitespace.ensures.answers ∙ c.if-is_whitespace.true) }

pub returns-else-is_whitespace : goal.returns-else-is_whitespace
returns-else-is_whitespace c = record { answers = verdict-good _ c.if-line-gt-LONGEST.false (sym c.first_bad.ensures.value ∙ c.in_default.is) _ _ c.in-Some-split_last.ensures.cases.0 (sym c.is_whitespace.ensures.answers ∙ c.if-is_whitespace.false) }

pub returns-in_default-split_last : goal.returns-in_default-split_last
returns-in_default-split_last c = record { answers = verdict-empty _ c.if-line-gt-LONGEST.false (sym c.first_bad.ensures.value ∙ c.in_default.is) (omega (arith, c.in_default-split_last.ensures.cases)) }
