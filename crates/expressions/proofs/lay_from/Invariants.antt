-- `lay_from` meets its contract. What it reads stands past all that it writes, so it is as it was.

use Rattle.expressions.proofs.Laying.{LaysTo, from_row}
use Rattle.expressions.proofs.lay_from.Given as goal

abbrev pub invariant-loop-l : goal.invariant-loop-l
invariant-loop-l l = LaysTo l.initial.sheet l.sheet l.at l.from l.to (from_row l.initial.sheet l.later l.byte) l.l
