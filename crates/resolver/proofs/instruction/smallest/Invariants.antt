-- `resolver::instruction::smallest` meets its contract. The loop's invariant: the least size and how many have it are
-- those of the words passed. Each way of a turn is a law of proofs/Least.antt.
use Rattle.resolver.proofs.Least.{Passing}
use Rattle.resolver.proofs.instruction.smallest.Given as goal

abbrev pub invariant-loop-word : goal.invariant-loop-word
invariant-loop-word l = Passing l.words l.word-index l.least l.count
