use mathlib.Core.Path.{sym, ap, ◌∙◌}
use Rattle.pool.proofs.Depths.{not-depth}
use Rattle.answer.specs.Measured.{measured}
use Rattle.answer.proofs.Tops.{none_yet, all-passed, none_here}
use Rattle.answer.proofs.Greatest.{none-measured}
use Rattle.answer.proofs.measure_answer.Goals as goal
use Rattle.answer.proofs.measure_answer.Goals.{then-eq, else-eq}

pub loop-m-init : goal.loop-m-init
loop-m-init c = none-measured _ ∙ ap (measured _) (sym (none_yet _ _))

pub loop-m-preserved : goal.loop-m-preserved
loop-m-preserved c = elim c.if-eq.branch [
  | then-eq w ↦ w.found-is ∙ w.add_match-found.ensures
  | else-eq w ↦ w.found-is ∙ c.loop-m.invariant ∙ ap (measured _) (sym (none_here _ _ c.requires.stored _ c.loop-m-test.true (λ q. not-depth c.eq.ensures w.if-eq.false (c.depth_at.ensures.answers ∙ q))))
]

pub returns : goal.returns
returns c = record { answers = c.loop-m.invariant ∙ ap (measured _) (all-passed _ _ c.requires.stored _ c.loop-m-test.false) }
