use native.Mathlib.Omega.{arith}
use Rattle.plain.proofs.Below.{every-none, every-step}
use Rattle.defs.specs.Table.{rulesets_fit}
use Rattle.acceptance.proofs.Check.{all-passed, one-failed, ruleset-fits, ruleset-past, ruleset-falls, before-next, before-first}
use Rattle.acceptance.proofs.rulesets_fit.Goals as goal

pub loop-rule-init : goal.loop-rule-init
loop-rule-init c = (every-none _, before-first _)

pub returns-then-sets-set : goal.returns-then-sets-set
unfolding rulesets_fit
returns-then-sets-set c = one-failed _ _ _ (omega arith) (ruleset-past _ _ _ _ _ c.requires.sets_value c.loop-rule.invariant.1 c.field_at-set.ensures.answers (omega arith))

pub returns-then-set-before : goal.returns-then-set-before
unfolding rulesets_fit
returns-then-set-before c = one-failed _ _ _ (omega arith) (ruleset-falls _ _ _ _ _ c.requires.sets_value c.loop-rule.invariant.1 c.field_at-set.ensures.answers (omega arith))

pub loop-rule-preserved : goal.loop-rule-preserved
loop-rule-preserved c = (
  every-step _ _ c.loop-rule.invariant.0 (ruleset-fits _ _ _ _ _ c.requires.sets_value c.loop-rule.invariant.1 c.field_at-set.ensures.answers (omega arith) (omega arith)),
  before-next _ _ _ c.field_at-set.ensures.answers,
)

pub returns : goal.returns
unfolding rulesets_fit
returns c = all-passed _ _ _ (omega arith) c.loop-rule.invariant.0
