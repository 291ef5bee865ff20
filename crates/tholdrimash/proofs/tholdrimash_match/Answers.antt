use Rattle.tholdrimash.proofs.Said.{reads_of}
use Rattle.tholdrimash.proofs.tholdrimash_match.Goals as goal

pub returns-clause-readings : goal.returns-clause-readings
returns-clause-readings c = λ ok w. reads_of _ _ (c.into.ensures _) (c.match_instr.ensures.readings ok w)
