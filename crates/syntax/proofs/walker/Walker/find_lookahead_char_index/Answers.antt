-- The cut of the held walker.
use mathlib.Core.Path.{ap, ◌∙◌}
use Rattle.syntax.specs.Cut.{cut}
use Rattle.syntax.proofs.walker.Walker.find_lookahead_char_index.Goals as goal

pub returns : goal.returns
unfolding cut
returns c = record { answers = c.find_cut.ensures ∙ ap (cut c.args.line.now c.args.wanted) c.hold-here.ensures.answers }
