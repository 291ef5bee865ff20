-- `program::match_program` meets its contract.
use Rattle.program.proofs.Promised.{scan-reads}
use Rattle.program.proofs.match_program.Goals as goal

pub returns-clause-readings : goal.returns-clause-readings
returns-clause-readings c = scan-reads _ _ _ _ _ _ _ _ _ c.run_program.ensures
