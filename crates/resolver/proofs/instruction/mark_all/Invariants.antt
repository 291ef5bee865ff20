-- `resolver::instruction::mark_all` meets its contract. The loop's invariant: the words passed are marked, and the
-- rest are as they were.
use Rattle.resolver.specs.Passes.{marked_word}
use Rattle.plain.proofs.Replaced.{Replaced}
use Rattle.resolver.proofs.instruction.mark_all.Given as goal

abbrev pub invariant-loop-word : goal.invariant-loop-word
invariant-loop-word l = Replaced marked_word l.initial.words l.word-index l.words
