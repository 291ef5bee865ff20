-- The loop's invariant: the parameters counted and those still ahead are the rule's.
use mathlib.Core.Path.{◌≡◌}
use Prim.Native.Nat.{◌+◌, ◌≤◌}
use lib.ListN.{length}
use Rattle.defs.specs.Table.{parameters_in}
use Rattle.acceptance.proofs.Check.{parameters_from}
use Rattle.acceptance.proofs.parameters_of.Given as goal

abbrev pub invariant-loop-at : goal.invariant-loop-at
invariant-loop-at l = (l.at-end ≤ length l.table) × ((l.count ≤ l.at) × (l.count + parameters_from l.table l.at l.at-end ≡ parameters_in l.table l.rule))
