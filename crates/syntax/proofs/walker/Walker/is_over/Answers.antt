-- `Walker::is_over` tests the held walker.
use mathlib.Core.Path.{ap}
use Rattle.syntax.specs.Walker.{over}
use Rattle.syntax.proofs.walker.Walker.is_over.Goals as goal

pub returns : goal.returns
unfolding over
returns c = record { answers = ap over c.hold-here.ensures.answers }
