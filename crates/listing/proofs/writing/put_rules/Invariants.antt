-- `listing::writing::put_rules` meets its contract. The loop's invariant: the lines of the rules left are to be laid from here.
use Prim.Native.Nat.{◌-◌, ◌≤◌}
use Rattle.defs.specs.Table.{records_in}
use Rattle.fields.proofs.Laying.{Laying}
use Rattle.listing.specs.Writing.{rules_text}
use Rattle.listing.proofs.writing.put_rules.Given as goal

abbrev pub invariant-loop-rule : goal.invariant-loop-rule
invariant-loop-rule l =
    Laying l.initial.text l.at (rules_text l.table 0 (records_in l.table)) l.text l.to (rules_text l.table l.rule (records_in l.table - l.rule)) × (l.rule ≤ records_in l.table)
