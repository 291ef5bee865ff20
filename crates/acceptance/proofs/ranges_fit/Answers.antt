use mathlib.Core.Path.{sym, ap₂, ◌∙◌}
use Prim.Native.Nat.{◌+◌}
use native.Mathlib.Omega.{arith}
use Rattle.plain.proofs.Below.{every-none, every-step, sum-none, sum_more}
use Rattle.acceptance.proofs.Check.{range-fits, range-past, range-long, ranges-fail, ranges-pass}
use Rattle.acceptance.proofs.ranges_fit.Goals as goal

pub loop-rule-init : goal.loop-rule-init
loop-rule-init c = (every-none _, (sym (sum-none _), omega arith))

pub returns-then-parts-field_at : goal.returns-then-parts-field_at
returns-then-parts-field_at c = ranges-fail _ _ (omega arith) (range-past _ _ _ _ _ c.requires.parts_value c.field_at.ensures.answers c.field_at-count.ensures.answers c.if-parts-field_at.true)

pub returns-then-count-gt-MOST_PARTS_A_RULE : goal.returns-then-count-gt-MOST_PARTS_A_RULE
returns-then-count-gt-MOST_PARTS_A_RULE c = ranges-fail _ _ (omega arith) (range-long _ _ _ _ _ c.requires.parts_value c.field_at.ensures.answers c.field_at-count.ensures.answers (omega arith))

pub loop-rule-preserved : goal.loop-rule-preserved
loop-rule-preserved c = (
  every-step _ _ c.loop-rule.invariant.0 (range-fits _ _ _ _ _ c.requires.parts_value c.field_at.ensures.answers c.field_at-count.ensures.answers (omega arith) (omega arith)),
  (ap₂ ◌+◌ c.loop-rule.invariant.1.0 c.field_at-count.ensures.answers ∙ sym (sum_more _ _), omega arith),
)

pub returns : goal.returns
returns c = ranges-pass _ _ _ _ (omega arith) c.loop-rule.invariant.0 c.loop-rule.invariant.1.0 c.requires.parts_value
