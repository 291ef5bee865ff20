use Rattle.pool.proofs.Meanings.{head-kept, head-completed}
use Rattle.pool.proofs.match_at.Goals as goal

-- src/lib.rt:188:1
pub returns-in-Kept : goal.returns-in-Kept
returns-in-Kept c = record { answers = head-kept _ _ c.args.records.stored _ c.requires.m_lt_used c.record_at.ensures.answers c.record_at.ensures.digits c.in-Kept.is }

-- src/lib.rt:188:1
pub returns-in-Completed : goal.returns-in-Completed
returns-in-Completed c = record { answers = head-completed _ _ c.args.records.stored _ c.requires.m_lt_used c.record_at.ensures.answers c.record_at.ensures.digits c.in-Completed.is }
