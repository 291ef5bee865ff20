-- The loop's invariant: the useful place from here on is the useful place from the start.
use Rattle.syntax.proofs.Useful.{Skipped}
use Rattle.syntax.proofs.walker.skip_whitespace.Given as goal

abbrev pub invariant-loop-at : goal.invariant-loop-at
invariant-loop-at g l = Skipped l.line l.from l.end l.at
