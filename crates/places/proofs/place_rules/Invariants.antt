-- The loop's invariant: the rules passed are prepared.
use Rattle.places.proofs.Words.{PlacedTo}
use Rattle.places.proofs.place_rules.Given as goal

abbrev pub invariant-loop-rule : goal.invariant-loop-rule
invariant-loop-rule l = PlacedTo l.table l.places l.rules l.rule-index
