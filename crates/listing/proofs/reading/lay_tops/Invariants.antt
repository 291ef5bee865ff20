-- `listing::reading::lay_tops` meets its contract. The loop's invariant: the rulesets so far are laid, and the lines of the others
-- follow.
use Rattle.listing.proofs.Flags.{TopsLeft}
use Rattle.listing.proofs.reading.lay_tops.Given as goal

abbrev pub invariant-loop-set : goal.invariant-loop-set
invariant-loop-set l = TopsLeft l.text l.initial.table l.table l.rest l.set
