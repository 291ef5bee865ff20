-- `program::lookup_program` meets its contract.
use Rattle.program.proofs.Promised.{lookup-reads, lookup-agrees}
use Rattle.program.proofs.lookup_program.Goals as goal

pub returns-clause-readings : goal.returns-clause-readings
returns-clause-readings c = lookup-reads _ _ _ _ _ _ _ _ _ c.run_program.ensures

pub returns-clause-agrees : goal.returns-clause-agrees
returns-clause-agrees c = lookup-agrees _ _ _ _ _ _ _ _ _ c.run_program.ensures
