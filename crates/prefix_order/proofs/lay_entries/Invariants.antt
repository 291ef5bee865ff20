-- The loop's invariant: the entries of the rules passed are laid.
use Rattle.prefix_order.proofs.Entries.{Laying}
use Rattle.prefix_order.proofs.lay_entries.Given as goal

abbrev pub invariant-loop-at : goal.invariant-loop-at
invariant-loop-at l = Laying l.table l.rules l.order l.at
