use Rattle.matcher.proofs.Promised.{scan-reads}
use Rattle.matcher.proofs.match_instr.Goals as goal

pub returns-clause-readings : goal.returns-clause-readings
returns-clause-readings c = scan-reads _ _ _ _ _ _ _ c.call.ensures
