-- `Walker::hold` is `held`, limit first.
use Rattle.syntax.proofs.Useful.{held_by}
use Rattle.syntax.proofs.walker.Walker.hold.Goals as goal

pub returns-clause-answers : goal.returns-clause-answers
returns-clause-answers c = held_by _ _ _ _ c.least-limit.ensures.answers c.least-cursor.ensures.answers
