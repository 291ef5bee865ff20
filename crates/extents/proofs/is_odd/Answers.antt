-- `extents::is_odd` meets its contract: the law of the joined comparisons, by what `held_between` ensures.
use Rattle.extents.proofs.Rows.{odd_is}
use Rattle.extents.proofs.is_odd.Goals as goal

pub returns : goal.returns
returns c = record { odd = odd_is _ _ _ c.held_between.ensures.stays c.held_between.ensures.lies }
