-- The walker's cut for the lookahead character, or none without one.
use mathlib.Core.Path.{◌∙◌}
use Rattle.readings.specs.Scene.{scene_of}
use Rattle.lookahead.proofs.Stored.{cut_of}
use Rattle.lookahead.proofs.find_cut.Goals as goal

pub returns-in-Some : goal.returns-in-Some
unfolding scene_of
returns-in-Some c = record { answers = c.find_lookahead_char_index.ensures.answers ∙ cut_of _ _ _ _ _ c.find_lookahead_char.ensures.answers _ c.in-Some.is }

pub returns-in-None : goal.returns-in-None
returns-in-None c = record { answers = cut_of _ _ _ _ _ c.find_lookahead_char.ensures.answers _ c.in-None.is }
