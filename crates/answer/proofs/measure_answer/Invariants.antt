-- `answer::measure_answer` meets its contract. The loop's invariant: what was found is the measure of the matches among the
-- records passed.
use mathlib.Core.Path.{◌≡◌}
use Rattle.answer.specs.Measured.{trees_to, measured}
use Rattle.answer.proofs.measure_answer.Given as goal

abbrev pub invariant-loop-m : goal.invariant-loop-m
invariant-loop-m l = l.found ≡ measured l.table (trees_to l.store l.used l.m)
