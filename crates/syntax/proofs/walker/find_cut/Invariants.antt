-- The loop begins at the first byte other than whitespace; at each turn the cut from here on, with what has passed, is the cut
-- from the start (`Searching`). The table was marked for the wanted byte, so a turn by class is the definition's turn.
use Rattle.syntax.proofs.Cuts.{Searching}
use Rattle.syntax.proofs.walker.find_cut.Given as goal

abbrev pub invariant-loop-at : goal.invariant-loop-at
invariant-loop-at l = Searching l.line l.wanted l.from l.end l.at l.s
