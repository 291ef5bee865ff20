-- The entry for the cursor, held to the limit.
use Rattle.useful.proofs.Limits.{found}
use Rattle.useful.proofs.next_useful_index.Goals as goal

pub returns : goal.returns
returns c = record { answers = found _ _ c.requires.lent _ _ (c.requires.cursor_le_limit, c.requires.limit_in_bounds) c.least.ensures.answers }
