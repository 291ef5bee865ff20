use Rattle.pool.proofs.Meanings.{last_none, last-kept, last-completed}
use native.Mathlib.Omega.{arith}
use Rattle.pool.proofs.last_argument.Goals as goal

-- src/lib.rt:220:9
pub returns-then-args-eq0 : goal.returns-then-args-eq0
returns-then-args-eq0 c = record { answers = last_none _ _ _ c.if-args-eq0.true }

-- src/lib.rt:214:1
pub returns-in-Kept : goal.returns-in-Kept
returns-in-Kept c = record { answers = last-kept _ _ c.args.records.stored _ (omega (arith, c.requires)) c.record_at.ensures.answers c.record_at.ensures.digits _ (omega arith) c.in-Kept.is }

-- src/lib.rt:214:1
pub returns-in-Completed : goal.returns-in-Completed
returns-in-Completed c = record { answers = last-completed _ _ c.args.records.stored _ (omega (arith, c.requires)) c.record_at.ensures.answers c.record_at.ensures.digits _ (omega arith) c.in-Completed.is }
