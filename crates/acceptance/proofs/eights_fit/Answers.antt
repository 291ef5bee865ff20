use mathlib.Core.Path.{sym, ◌∙◌}
use native.Mathlib.Omega.{arith}
use borrow.Author.Tests.{not-true}
use Rattle.plain.proofs.Tried.{fewer-between, both-between}
use Rattle.acceptance.proofs.Eights.{parts-tried}
use Rattle.acceptance.proofs.eights_fit.Goals as goal
use Rattle.acceptance.proofs.eights_fit.Goals.{else-loop-at-test, then-loop-at-test+else-last-at-gt8}

pub returns : goal.returns
returns c plain =
    parts-tried c.args.table.now _ _ _ c.requires.sets_value c.requires.from_value c.requires.parts_value c.requires.parts_value_2
    (elim c.loop-at-test.branch [
      | else-loop-at-test w ↦
          both-between (λ even. c.loop-at.invariant (sym w.odd-is ∙ even)) (λ even. fewer-between (c.eight_odd.ensures even) (omega arith) (omega arith)) (not-true _ plain)
      | then-loop-at-test+else-last-at-gt8 w ↦
          both-between (λ even. both-between c.loop-at.invariant w.eight_odd-odd.ensures (sym w.odd-is ∙ even))
          (λ even. fewer-between (c.eight_odd.ensures even) (omega arith) (omega arith)) (not-true _ plain)
    ])
