-- The sheet's end under the cut, or none.
use Rattle.lookahead.proofs.free_to_cut.Goals as goal

pub free-requires : goal.free-requires
free-requires c = record { place = c.requires _ c.in_ok-cut.was }
