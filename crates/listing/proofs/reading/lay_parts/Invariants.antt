-- `listing::reading::lay_parts` meets its contract. The loop's invariant: the words of the fields from here on are left to lay.
use Rattle.fields.specs.Said.{fields_left}
use Rattle.fields.proofs.Laying.{Laying}
use Rattle.listing.specs.Packing.{AllSaid, words_said}
use Rattle.listing.proofs.reading.lay_parts.Given as goal

abbrev pub invariant-loop-field : goal.invariant-loop-field
invariant-loop-field l = record {
  laying : Laying l.initial.table l.from (words_said l.sets (fields_left l.fn.fields)) l.table l.to (words_said l.sets (fields_left l.field-iterator));
  said : AllSaid l.sets (fields_left l.field-iterator);
}
