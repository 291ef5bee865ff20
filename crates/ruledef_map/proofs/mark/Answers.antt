-- `mark_of`: by the ruleset, then by the prefix.
use mathlib.Core.Path.{sym, ◌∙◌}
use Rattle.ruledef_map.proofs.Orders.{mark-top, mark-nested}
use Rattle.ruledef_map.proofs.mark.Goals as goal

pub returns-then-is_top_rule : goal.returns-then-is_top_rule
returns-then-is_top_rule c = mark-top _ _ _ _ (sym c.is_top_rule.ensures.answers ∙ c.if-is_top_rule.true) c.prefix_length.ensures

pub returns : goal.returns
returns c = mark-nested _ _ _ (sym c.is_top_rule.ensures.answers ∙ c.if-is_top_rule.false)
