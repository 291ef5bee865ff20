-- The loop's invariant: the top rules passed are written.
use Prim.Native.Nat.{◌≤◌}
use Rattle.defs.specs.Ruledef.{is_top_rule}
use Rattle.ruledef_map.proofs.Orders.{Written}
use Rattle.ruledef_map.proofs.top_rules.Given as goal

abbrev pub invariant-loop-rule : goal.invariant-loop-rule
invariant-loop-rule l = Written (is_top_rule l.table) 0 l.initial.found l.rule l.count l.found × (l.count ≤ l.rule)
