-- `trials::check` meets its contract.
use native.Mathlib.Omega.{arith}
use Rattle.std.proofs.lemmas.Result.{err_from_is_err_and}
use Rattle.line.proofs.Faults.{line-good, line-bad}
use Rattle.trials.proofs.Checks.{bytes-bad, extents-bad, budget-none, budget-great, base-great, all-good}
use Rattle.trials.proofs.check.Goals as goal

pub returns-in_err-check_line : goal.returns-in_err-check_line
returns-in_err-check_line c =
    let (error, is, gives) = err_from_is_err_and c.from_residual.result c.from_residual.ensures.1 in
    record { answers = rw (is, gives) (bytes-bad _ _ _ _ _ (line-bad _ _ c.check_line.ensures.answers c.in_err-check_line.was)) }

pub returns-then-not-check_sheet : goal.returns-then-not-check_sheet
returns-then-not-check_sheet c = record { answers = extents-bad _ _ _ _ (line-good _ _ c.check_line.ensures.answers c.in_ok-check_line.was) (cc) }

pub returns-then-budget-eq0 : goal.returns-then-budget-eq0
returns-then-budget-eq0 c = record { answers = budget-none _ _ _ _ (line-good _ _ c.check_line.ensures.answers c.in_ok-check_line.was) (cc) c.if-budget-eq0.true }

pub returns-then-budget-gt-MOST_VISITS : goal.returns-then-budget-gt-MOST_VISITS
returns-then-budget-gt-MOST_VISITS c = record { answers = budget-great _ _ _ _ (line-good _ _ c.check_line.ensures.answers c.in_ok-check_line.was) (cc) (omega arith) }

pub returns-then-base-gt-MOST_BASE : goal.returns-then-base-gt-MOST_BASE
returns-then-base-gt-MOST_BASE c = record { answers = base-great _ _ _ _ (line-good _ _ c.check_line.ensures.answers c.in_ok-check_line.was) (cc) c.if-budget-eq0.false (omega arith) (omega arith) }

pub returns : goal.returns
returns c = record { answers = all-good _ _ _ _ (line-good _ _ c.check_line.ensures.answers c.in_ok-check_line.was) (cc) c.if-budget-eq0.false (omega arith) (omega arith) }
