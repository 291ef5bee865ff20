-- The whole limit, and the cut if there is one.
use Rattle.lookahead.proofs.Stored.{limits-cut, limits-whole}
use Rattle.lookahead.proofs.find_limits.Goals as goal

pub returns-in-Some : goal.returns-in-Some
returns-in-Some c = record { answers = limits-cut _ _ _ _ _ c.find_cut.ensures.answers _ c.get_cursor_limit-whole.ensures.answers _ c.in-Some.is }

pub returns-in-None : goal.returns-in-None
returns-in-None c = record { answers = limits-whole _ _ _ _ _ c.find_cut.ensures.answers _ c.get_cursor_limit-whole.ensures.answers c.in-None.is }
