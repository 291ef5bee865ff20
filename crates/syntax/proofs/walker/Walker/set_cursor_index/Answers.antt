-- `Walker::set_cursor_index` holds before and after.
use mathlib.Core.Path.{ap, ◌∙◌}
use Rattle.syntax.specs.Walker.{moved_to}
use Rattle.syntax.proofs.walker.Walker.set_cursor_index.Goals as goal

pub returns : goal.returns
unfolding moved_to
returns c = record { answers = c.hold.ensures.answers ∙ ap (moved_to c.args.line.now c.args.at) c.hold-here.ensures.answers }
