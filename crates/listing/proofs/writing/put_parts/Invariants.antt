-- `listing::writing::put_parts` meets its contract. The loop's invariant: the fields of the parts left are to be laid from here.
use mathlib.Core.Path.{◌≡◌}
use mathlib.Core.Bool.{true}
use Rattle.plain.specs.Lists.{every}
use Rattle.defs.specs.Table.{parts_between}
use Rattle.packing.specs.Data.{is_part_of}
use Rattle.fields.proofs.Laying.{Laying}
use Rattle.listing.specs.Writing.{parts_text}
use Rattle.listing.proofs.writing.put_parts.Given as goal

abbrev pub invariant-loop-place : goal.invariant-loop-place
invariant-loop-place l =
    Laying l.initial.text l.at (parts_text (parts_between l.table l.fn.parts.start l.fn.parts.end)) l.text l.to (parts_text (parts_between l.table l.place l.fn.parts.end)) × (every (is_part_of 32) (parts_between l.table l.place l.fn.parts.end) ≡ true)
