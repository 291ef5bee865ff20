-- `listing::judging::judge` meets its contract. The loop's invariant: what is left is read as the whole text is.
use lib.ListN.{length}
use Rattle.listing.proofs.Steps.{From}
use Rattle.listing.proofs.judging.judge.Given as goal

abbrev pub invariant-loop-line : goal.invariant-loop-line
invariant-loop-line l = From l.text l.rest l.sizes.sets l.sizes.rules l.sizes.parts l.sizes.last

abbrev pub decreases-loop-line : goal.decreases-loop-line
decreases-loop-line l = length l.rest
