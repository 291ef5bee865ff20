-- The loop's invariant: the rules of the marks below this size are written.
use Rattle.ruledef_map.proofs.Orders.{Taken}
use Rattle.ruledef_map.proofs.query_prefixed.Given as goal

abbrev pub invariant-loop-size : goal.invariant-loop-size
invariant-loop-size l = Taken l.marks l.rules l.initial.found l.size l.count l.found
