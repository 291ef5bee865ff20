-- The loop's invariant: the rules of the prefixes up to this size are written, the key is that of this size, and the last run
-- has ended.
use Rattle.ruledef_map.specs.RuledefMap.{line_prefix}
use Rattle.prefix_order.proofs.Finding.{Sought}
use Rattle.prefix_order.proofs.find_rules.Given as goal

abbrev pub invariant-loop-size : goal.invariant-loop-size
invariant-loop-size l = Sought l.table l.order (line_prefix l.line) l.size l.key l.weight l.run.end l.run.found l.rules
