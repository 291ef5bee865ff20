use native.Mathlib.Omega.{arith}
use mathlib.Core.Path.{◌∙◌}
use Rattle.defs.proofs.Starts.{tally-here, tally-past, tally-most}
use Rattle.defs.proofs.ruledef.count_rules.Goals as goal
use Rattle.defs.proofs.ruledef.count_rules.Goals.{then-set-lt-MOST_RULESETS, else-set-lt-MOST_RULESETS}

pub overflow_add-counts-then-set-lt-MOST_RULESETS : goal.overflow_add-counts-then-set-lt-MOST_RULESETS
overflow_add-counts-then-set-lt-MOST_RULESETS c = omega (arith, c.word_at-rules.ensures.small, tally-most _ _ _ _ c.loop-rule.invariant c.if-set-lt-MOST_RULESETS.true)

pub loop-rule-preserved : goal.loop-rule-preserved
loop-rule-preserved c =
    elim c.if-set-lt-MOST_RULESETS.branch [
      | then-set-lt-MOST_RULESETS w ↦ w.counts-is ∙ tally-here _ _ _ _ c.loop-rule.invariant w.if-set-lt-MOST_RULESETS.true c.field_at-set.ensures.answers
      | else-set-lt-MOST_RULESETS w ↦ w.counts-is ∙ c.loop-rule.invariant ∙ tally-past _ _ _ c.field_at-set.ensures.answers w.if-set-lt-MOST_RULESETS.false
    ]
