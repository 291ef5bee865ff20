-- The ruleset's first rule is not past the rule.
use Rattle.std.proofs.Common.{◌≤◌}
use Rattle.glyphs.proofs.rules.show.Given as goal

abbrev pub invariant-loop-rule : goal.invariant-loop-rule
invariant-loop-rule g l = l.first ≤ l.rule
