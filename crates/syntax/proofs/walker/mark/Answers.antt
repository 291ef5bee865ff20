-- The partner is marked; below 32 it has no capital, else the capital is looked up and marked if there is one.
use mathlib.Core.Path.{refl}
use native.Mathlib.Nat.{sub-add_cancel}
use native.Mathlib.Omega.{arith}
use Rattle.syntax.proofs.Marks.{partner-read, room-for-mark, marked-low, marked_other, marked-both}
use borrow.Author.Rules.{rules}
use Rattle.syntax.proofs.walker.mark.Goals as goal

pub overflow_add-classes : goal.overflow_add-classes
overflow_add-classes c = record { fits = room-for-mark _ c.requires _ (search rules) }

pub returns-then-partner-lt-CAPITAL_STEP : goal.returns-then-partner-lt-CAPITAL_STEP
returns-then-partner-lt-CAPITAL_STEP c = marked-low _ c.requires _ _ (search rules) (partner-read _ c.requires _ (search rules)) _ _ refl c.if-partner-lt-CAPITAL_STEP.true (omega arith)

pub returns-then-classes-capital : goal.returns-then-classes-capital
returns-then-classes-capital c = marked_other _ c.requires _ _ (search rules) (partner-read _ c.requires _ (search rules)) _ _ _ refl refl (sub-add_cancel c.if-partner-lt-CAPITAL_STEP.false) c.if-classes-capital.true

pub returns : goal.returns
returns c = marked-both _ c.requires _ _ (search rules) (partner-read _ c.requires _ (search rules)) _ _ _ refl refl (sub-add_cancel c.if-partner-lt-CAPITAL_STEP.false) _ (omega (arith, c.if-classes-capital.false)) refl
