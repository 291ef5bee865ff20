-- The useful place of the walker that was moved to the end.
use mathlib.Core.Path.{ap, ◌∙◌}
use Rattle.syntax.specs.Walker.{useful}
use Rattle.lookahead.proofs.Stored.{moved-within, moved-held}
use Rattle.lookahead.proofs.useful_place.Goals as goal

pub next_useful_index-requires-clause-cursor_le_limit : goal.next_useful_index-requires-clause-cursor_le_limit
next_useful_index-requires-clause-cursor_le_limit c = let whole = moved-within _ _ _ _ c.set_cursor_index-there.ensures.answers in whole.0

pub next_useful_index-requires-clause-limit_in_bounds : goal.next_useful_index-requires-clause-limit_in_bounds
next_useful_index-requires-clause-limit_in_bounds c = let whole = moved-within _ _ _ _ c.set_cursor_index-there.ensures.answers in whole.1

pub returns : goal.returns
returns c = c.next_useful_index.ensures.answers ∙ ap (useful _) (moved-held _ _ _ _ c.set_cursor_index-there.ensures.answers)
