-- The loop's invariant: of the entries passed, those of the key are written, and none that is left is of a lesser key.
use Rattle.prefix_order.proofs.Runs.{Running}
use Rattle.prefix_order.proofs.put_run.Given as goal

abbrev pub invariant-loop-end : goal.invariant-loop-end
invariant-loop-end l = Running l.key l.order l.initial.rules l.from l.end l.found l.rules
