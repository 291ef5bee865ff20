-- `extents::end_in` meets its contract: the entry is one to read, by what is asked, and the rest is what `entry` and
-- `entry_end` ensure.
use mathlib.Core.Path.{ap, ◌∙◌}
use borrow.Author.Tests.{le-leb}
use Rattle.extents.specs.Sheet.{readable, end_in, entry_end}
use Rattle.extents.proofs.end_in.Goals as goal

pub returns : goal.returns
unfolding end_in readable
returns c = record {
  end =
      simp (
        c.requires.place.size,
        le-leb _ _ c.requires.place.order,
        le-leb _ _ c.requires.place.limit,
      )
      (c.entry_end.ensures.end ∙ ap entry_end c.entry.ensures.byte);
}
