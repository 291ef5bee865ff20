-- Each answer is the first byte that differs.
use mathlib.Core.Path.{refl, ◌∙◌}
use Rattle.leads.proofs.Words.{nothing_known, differ-first, differ-second, differ-third, differ-fourth, differ-nowhere}
use Rattle.leads.proofs.failing_visits.Goals as goal

pub returns-in_err-line : goal.returns-in_err-line
returns-in_err-line c = record { answers = c.from_residual.ensures ∙ nothing_known _ c.in_err-line.was }

pub returns-then-rule-line : goal.returns-then-rule-line
returns-then-rule-line c = record { answers = differ-first _ _ c.in_ok-line.was c.if-rule-line.true c.unless_ended.ensures }

pub returns-then-rule-line-2 : goal.returns-then-rule-line-2
returns-then-rule-line-2 c = record { answers = differ-second _ _ c.in_ok-line.was c.if-rule-line.false c.if-rule-line-2.true c.unless_ended-then-rule-line-2.ensures }

pub returns-then-rule-line-3 : goal.returns-then-rule-line-3
returns-then-rule-line-3 c = record { answers = differ-third _ _ c.in_ok-line.was c.if-rule-line.false c.if-rule-line-2.false c.if-rule-line-3.true c.unless_ended-then-rule-line-3.ensures }

pub returns-then-rule-line-4 : goal.returns-then-rule-line-4
returns-then-rule-line-4 c = record { answers = differ-fourth _ _ c.in_ok-line.was c.if-rule-line.false c.if-rule-line-2.false c.if-rule-line-3.false c.if-rule-line-4.true c.unless_ended-then-rule-line-4.ensures }

pub returns : goal.returns
returns c = record { answers = differ-nowhere _ _ c.in_ok-line.was c.if-rule-line.false c.if-rule-line-2.false c.if-rule-line-3.false c.if-rule-line-4.false refl }
