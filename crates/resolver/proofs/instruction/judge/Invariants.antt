-- `resolver::instruction::judge` meets its contract. The loop's invariant: the counts are those of the words passed.
use Rattle.resolver.proofs.Tally.{Judging}
use Rattle.resolver.proofs.instruction.judge.Given as goal

abbrev pub invariant-loop-word : goal.invariant-loop-word
invariant-loop-word l = Judging l.words l.word-index l.bad l.resolved l.known l.guesses
