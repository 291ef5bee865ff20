use native.Mathlib.Omega.{arith}
use Rattle.acceptance.proofs.Check.{parameters-whole, parameters-none, parameter-here, parameter-other}
use Rattle.defs.proofs.Words.{parts_within}
use Rattle.acceptance.proofs.parameters_of.Goals as goal
use Rattle.acceptance.proofs.parameters_of.Goals.{then-word_at-gt-WHITESPACE, else-word_at-gt-WHITESPACE}

pub loop-at-init : goal.loop-at-init
loop-at-init c = (parts_within _ _ _ c.parts_of-parts.ensures.answers, (omega arith, omega (arith, parameters-whole _ _ _ c.parts_of-parts.ensures.answers)))

pub loop-at-preserved : goal.loop-at-preserved
loop-at-preserved c =
    elim c.if-word_at-gt-WHITESPACE.branch [
      | then-word_at-gt-WHITESPACE w ↦ (c.loop-at.invariant.0, (omega arith, omega (arith, parameter-here _ _ _ _ c.loop-at-test.true c.loop-at.invariant.0 c.word_at.ensures.answers w.if-word_at-gt-WHITESPACE.true)))
      | else-word_at-gt-WHITESPACE w ↦ (c.loop-at.invariant.0, (omega arith, omega (arith, parameter-other _ _ _ _ c.loop-at-test.true c.loop-at.invariant.0 c.word_at.ensures.answers w.if-word_at-gt-WHITESPACE.false)))
    ]

pub returns : goal.returns
returns c = omega (arith, parameters-none c.args.table.now c.loop-at.at c.parts_of-parts.result.end c.loop-at.invariant.0 c.loop-at-test.false, c.loop-at.invariant.1.1)
