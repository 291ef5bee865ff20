-- `listing::writing::put_tops` meets its contract. The loop's invariant: the lines of the rulesets left are to be laid from here.
use Prim.Native.Nat.{◌-◌, ◌≤◌}
use Rattle.defs.specs.Table.{rulesets_in}
use Rattle.fields.proofs.Laying.{Laying}
use Rattle.listing.specs.Writing.{tops_text}
use Rattle.listing.proofs.writing.put_tops.Given as goal

abbrev pub invariant-loop-set : goal.invariant-loop-set
invariant-loop-set l =
    Laying l.initial.text 0 (tops_text l.table 0 (rulesets_in l.table)) l.text l.to (tops_text l.table l.set (rulesets_in l.table - l.set)) × (l.set ≤ rulesets_in l.table)
