use Rattle.pool.proofs.Depths.{is-depth, not-depth}
use Rattle.pool.proofs.Words.{digits}
use mathlib.Core.Path.{refl, sym, ◌∙◌}
use Rattle.walk.proofs.Inners.{skipped, found-same, found-other, asked-none}
use Rattle.walk.proofs.is_duplicate.Goals as goal
use Rattle.walk.proofs.is_duplicate.Goals.{else-eq-via-then-eq+else-is_same, else-eq-via-else-eq}

pub returns-then-is_same : goal.returns-then-is_same
returns-then-is_same c = λ e. sym (c.loop-i.invariant e ∙ found-same _ _ c.args.records.stored _ _ c.requires.m_lt_used _ c.loop-i-test.true refl (digits _) (sym c.depth_at.ensures.answers ∙ is-depth c.eq.ensures c.if-eq.true) c.is_same.ensures.answers c.if-is_same.true e)

pub loop-i-preserved : goal.loop-i-preserved
loop-i-preserved c = λ e. c.loop-i.invariant e ∙ elim c.else-eq.branch [
  | else-eq-via-then-eq+else-is_same w ↦ found-other _ _ c.args.records.stored _ _ c.requires.m_lt_used _ c.loop-i-test.true refl (digits _) (sym c.depth_at.ensures.answers ∙ is-depth c.eq.ensures w.if-eq.true) w.is_same.ensures.answers w.if-is_same.false e
  | else-eq-via-else-eq w ↦ skipped _ _ c.args.records.stored _ _ c.requires.m_lt_used _ c.loop-i-test.true refl (digits _) (λ q. not-depth c.eq.ensures w.if-eq.false (c.depth_at.ensures.answers ∙ q)) e
]

pub returns : goal.returns
returns c = λ e. sym (c.loop-i.invariant e ∙ asked-none _ _ c.args.records.stored _ _ c.requires.m_lt_used _ e c.loop-i-test.false (c.loop-i.auto.i-end c.requires.first_le_m))
