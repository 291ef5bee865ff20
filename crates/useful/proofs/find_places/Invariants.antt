-- The loop's invariant: the places from here on are filled, and those before are their own (`Filled`).
use Rattle.useful.proofs.Filled.{Filled}
use Rattle.useful.proofs.find_places.Given as goal

abbrev pub invariant-loop-at : goal.invariant-loop-at
invariant-loop-at l = Filled l.line l.places l.at
