-- `answer::write_answer` meets its contract. The loop's invariant: after the two first words the buffer has those of the
-- greatest matches among the records passed, and there is room for all.
use Rattle.answer.proofs.Written.{Writing}
use Rattle.answer.proofs.write_answer.Given as goal

abbrev pub invariant-loop-m : goal.invariant-loop-m
invariant-loop-m l = Writing l.table l.store l.used l.greatest l.base l.initial.answer l.initial.at l.m l.answer l.at
