-- The useful place of the held walker.
use mathlib.Core.Path.{ap, ◌∙◌}
use Rattle.syntax.specs.Walker.{useful}
use Rattle.syntax.proofs.walker.Walker.next_useful_index.Goals as goal

pub returns : goal.returns
unfolding useful
returns c = record { answers = c.skip_whitespace.ensures.value ∙ ap (useful c.args.line.now) c.hold-here.ensures.answers }
