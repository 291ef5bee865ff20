use mathlib.Core.Path.{sym, ◌∙◌}
use native.Mathlib.Omega.{arith}
use lib.ListN.{length-set}
use Rattle.pool.proofs.Depths.{is-depth, not-depth}
use Rattle.answer.proofs.Tops.{own-count, tree-fit}
use Rattle.answer.proofs.Bounds.{head-fits}
use Rattle.answer.proofs.Written.{two-more, room-for-all, answered, none_written, all-written, none_more, not_written, has_room, one_written}
use Rattle.answer.proofs.write_answer.Goals as goal
use Rattle.answer.proofs.write_answer.Goals.{then-eq+then-count-greatest, then-eq+else-count-greatest, else-eq}

pub overflow_cast-answer : goal.overflow_cast-answer
overflow_cast-answer c =
    omega (arith, head-fits _ _ _ c.requires.stored c.requires.bounded c.requires.measure_value)

pub bounds-answer-0 : goal.bounds-answer-0
bounds-answer-0 c =
    omega (arith, two-more _ _ c.requires.measure_value 0, c.requires.words_in_bounds)

pub overflow_cast-answer-2 : goal.overflow_cast-answer-2
overflow_cast-answer-2 c =
    omega (arith, head-fits _ _ _ c.requires.stored c.requires.bounded c.requires.measure_value)

pub bounds-answer-1 : goal.bounds-answer-1
bounds-answer-1 c =
    simp length-set (omega (arith, two-more _ _ c.requires.measure_value 0, c.requires.words_in_bounds))

pub loop-m-init : goal.loop-m-init
loop-m-init c =
    none_written _ _ _ _ _ (simp length-set (room-for-all _ _ c.requires.measure_value _ c.requires.words_in_bounds))

pub write_tree-at-requires-clause-fit : goal.write_tree-at-requires-clause-fit
write_tree-at-requires-clause-fit c =
    let top = sym c.depth_at.ensures.answers ∙ is-depth c.eq.ensures c.if-eq.true in
    tree-fit _ _ c.requires.stored _ c.loop-m-test.true top c.requires.fit_from

pub write_tree-at-requires-clause-m_in_bounds : goal.write_tree-at-requires-clause-m_in_bounds
write_tree-at-requires-clause-m_in_bounds c =
    let top = sym c.depth_at.ensures.answers ∙ is-depth c.eq.ensures c.if-eq.true in
    let most = sym (own-count _ _ c.requires.stored _ c.loop-m-test.true top _ c.requires.counted c.count_at-count.ensures.answers) ∙ (cc) in
    has_room _ _ _ _ _ c.requires.stored c.loop-m.invariant c.loop-m-test.true top most

pub loop-m-preserved : goal.loop-m-preserved
loop-m-preserved c = elim c.if-eq.branch [
  | then-eq+then-count-greatest w ↦
      let top = sym c.depth_at.ensures.answers ∙ is-depth c.eq.ensures w.if-eq.true in
      let most = sym (own-count _ _ c.requires.stored _ c.loop-m-test.true top _ c.requires.counted w.count_at-count.ensures.answers) ∙ w.if-count-greatest.true in
      rw (w.answer-is, w.at-is) (one_written _ _ _ _ _ c.requires.stored c.loop-m.invariant c.loop-m-test.true top most w.write_tree-at.auto.answer w.write_tree-at.ensures.answers)
  | then-eq+else-count-greatest w ↦
      let top = sym c.depth_at.ensures.answers ∙ is-depth c.eq.ensures w.if-eq.true in
      rw (w.answer-is, w.at-is) (not_written _ _ _ _ _ c.requires.stored c.loop-m.invariant c.loop-m-test.true top (λ q. w.if-count-greatest.false (own-count _ _ c.requires.stored _ c.loop-m-test.true top _ c.requires.counted w.count_at-count.ensures.answers ∙ q)))
  | else-eq w ↦ rw (w.answer-is, w.at-is) (none_more _ _ _ _ _ c.requires.stored c.loop-m.invariant c.loop-m-test.true (λ q. not-depth c.eq.ensures w.if-eq.false (c.depth_at.ensures.answers ∙ q)))
]

pub returns : goal.returns
returns c = record {
  answers =
      answered _ _ c.requires.measure_value _ _ c.requires.words_in_bounds (all-written _ _ _ _ _ c.requires.stored c.loop-m.invariant c.loop-m-test.false);
}
