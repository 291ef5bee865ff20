-- The loop's invariant: the character that the parts from here on give is the one that all of them give.
use mathlib.Core.Path.{◌≡◌}
use Prim.Native.Nat.{◌≤◌}
use lib.ListN.{length}
use Rattle.defs.specs.Table.{parts_between}
use Rattle.readings.specs.Walk.{lookahead}
use Rattle.lookahead.proofs.find_lookahead_char.Given as goal

abbrev pub invariant-loop-here : goal.invariant-loop-here
invariant-loop-here l = (l.stop ≤ length l.table) × (lookahead (parts_between l.table l.here l.stop) ≡ lookahead (parts_between l.table l.at l.end))
