use Rattle.walk.proofs.Inners.{inner-argument, inner-other, inner-same, inner-new}
use Rattle.walk.proofs.inner_match.Goals as goal
use Rattle.walk.proofs.inner_match.Goals.{then-d-depth-via-then-d-depth, then-d-depth-via-else-d-depth+then-is_duplicate}

pub returns-then-d-depth : goal.returns-then-d-depth
returns-then-d-depth c = elim c.then-d-depth.branch [
  | then-d-depth-via-then-d-depth w ↦ inner-other _ _ c.args.records.stored _ _ _ c.requires.m_lt_used c.record_at.ensures.answers c.record_at.ensures.digits c.in-Completed.is w.if-d-depth.true
  | then-d-depth-via-else-d-depth+then-is_duplicate w ↦ inner-same _ _ c.args.records.stored _ _ _ c.requires.m_lt_used c.record_at.ensures.answers c.record_at.ensures.digits c.in-Completed.is w.if-d-depth.false w.is_duplicate.ensures w.if-is_duplicate.true
]

pub returns-in-Kept : goal.returns-in-Kept
returns-in-Kept c = inner-argument _ _ c.args.records.stored _ _ _ c.requires.m_lt_used c.record_at.ensures.answers c.record_at.ensures.digits c.in-Kept.is

pub returns-else-is_duplicate : goal.returns-else-is_duplicate
returns-else-is_duplicate c = inner-new _ _ c.args.records.stored _ _ _ c.requires.m_lt_used c.record_at.ensures.answers c.record_at.ensures.digits c.in-Completed.is c.if-d-depth.false c.is_duplicate.ensures c.if-is_duplicate.false
