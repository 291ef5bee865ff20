-- `lines::check_program` meets its contract.
use native.Mathlib.Omega.{arith}
use mathlib.Core.Path.{refl}
use Rattle.lines.proofs.Measured.{too_many, ends-bad, sheets-bad, budgets-bad, after-budgets}
use Rattle.lines.proofs.check_program.Goals as goal

pub returns-then-ends-gt-MOST_LINES : goal.returns-then-ends-gt-MOST_LINES
returns-then-ends-gt-MOST_LINES c = record { answers = too_many _ _ _ _ _ _ (omega arith) }

pub returns-then-sheets-size : goal.returns-then-sheets-size
returns-then-sheets-size c = record { answers = sheets-bad _ _ _ _ _ _ (omega arith) _ c.measure.ensures _ c.in-Some.is c.if-sheets-size.true }

pub returns-then-budgets-ends : goal.returns-then-budgets-ends
returns-then-budgets-ends c = record { answers = budgets-bad _ _ _ _ _ _ (omega arith) _ c.measure.ensures _ c.in-Some.is c.if-sheets-size.false c.if-budgets-ends.true }

pub returns-in_default : goal.returns-in_default
returns-in_default c = record { answers = ends-bad _ _ _ _ _ _ (omega arith) _ c.measure.ensures c.in_default.is }

pub returns : goal.returns
returns c = record { answers = after-budgets _ _ _ _ _ _ (omega arith) _ c.measure.ensures _ c.in-Some.is c.if-sheets-size.false c.if-budgets-ends.false refl }
