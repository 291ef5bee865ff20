use Rattle.tholdrimash.proofs.Said.{reads_of}
use Rattle.tholdrimash.proofs.tholdrimash_lookup.Goals as goal

pub returns-clause-readings : goal.returns-clause-readings
returns-clause-readings c = (λ ok w. reads_of _ _ (c.into.ensures _) (c.match_with_ruledef_map.ensures.readings ok w))
