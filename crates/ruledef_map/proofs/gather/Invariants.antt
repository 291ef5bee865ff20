-- The loop's invariant: the rules passed that have the mark are written.
use Prim.Native.Nat.{◌≤◌}
use lib.Dec.{eqb}
use lib.ListN.{length, get_or}
use Rattle.ruledef_map.proofs.Orders.{Written}
use Rattle.ruledef_map.proofs.gather.Given as goal

abbrev pub invariant-loop-rule : goal.invariant-loop-rule
invariant-loop-rule l = Written (λ i. eqb (get_or l.marks i 0) l.wanted) l.from l.initial.found l.rule l.count l.found × (l.count ≤ length l.initial.found)
