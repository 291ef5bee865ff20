-- The loop's invariant: the bytes that count from the cursor on give the bytes that are left of the key.
use Prim.Native.Nat.{◌-◌}
use Rattle.readings.specs.Fail.{ahead}
use Rattle.leads.specs.Leads.{key_of}
use Rattle.leads.proofs.Seen.{LineFilling}
use Rattle.leads.proofs.line_key.Given as goal

abbrev pub invariant-loop : goal.invariant-loop
invariant-loop l = LineFilling l.line l.limit (key_of (ahead l.line l.limit l.initial.cursor)) l.cursor (4 - l.counter) l.key
