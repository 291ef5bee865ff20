-- The flag of the rule's ruleset is 0.
use mathlib.Core.Path.{ap, ◌∙◌}
use Prim.Native.Nat.{ℕ, ◌+◌}
use lib.Dec.{eqb}
use Rattle.defs.specs.Table.{word_at, flag_at}
use Rattle.defs.specs.Ruledef.{is_top, is_top_rule}
use Rattle.defs.proofs.ruledef.is_top_rule.Goals as goal

pub returns : goal.returns
unfolding is_top_rule is_top flag_at
returns c = record {
  answers =
      ap (λ (n : ℕ). eqb n 0) (c.word_at.ensures.answers ∙ ap (λ (s : ℕ). word_at c.args.table.now (3 + s)) c.field_at.ensures.answers);
}
