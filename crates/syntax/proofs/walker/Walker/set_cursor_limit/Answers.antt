-- `Walker::set_cursor_limit` holds before and after.
use mathlib.Core.Path.{ap, ◌∙◌}
use Rattle.syntax.specs.Walker.{limited}
use Rattle.syntax.proofs.walker.Walker.set_cursor_limit.Goals as goal

pub returns : goal.returns
unfolding limited
returns c = record { answers = c.hold.ensures.answers ∙ ap (limited c.args.line.now c.args.end) c.hold-here.ensures.answers }
