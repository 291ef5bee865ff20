-- `listing::judging::judge_parts` meets its contract. The loop's invariant: the count from here is the count from the start.
use mathlib.Core.Path.{◌≡◌}
use Prim.Native.Nat.{◌≤◌}
use Rattle.fields.specs.Said.{fields_left}
use Rattle.printing.specs.Reading.{parts_in}
use Rattle.listing.specs.Judging.{parts_said}
use Rattle.listing.proofs.Counts.{count_from}
use Rattle.listing.proofs.judging.judge_parts.Given as goal

abbrev pub invariant-loop-field : goal.invariant-loop-field
invariant-loop-field l = record {
  same : count_from l.sets l.count l.parameters (fields_left l.field-iterator) ≡ parts_said l.sets (parts_in (fields_left l.fn.fields));
  most : l.count ≤ 64;
  few : l.parameters ≤ l.count;
}
