-- `resolver::instruction::write` meets its contract. The loop's invariant: the buffer has the indices of the words
-- passed at its start, and the place is past them.
use Rattle.std.specs.Prelude.{Some}
use Rattle.resolver.proofs.Written.{Writing}
use Rattle.resolver.proofs.instruction.write.Given as goal

abbrev pub invariant-loop-index : goal.invariant-loop-index
invariant-loop-index l = Writing l.words (Some l.size) l.initial.chosen l.index l.at l.chosen
