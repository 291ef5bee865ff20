use Rattle.matcher.proofs.Promised.{lookup-reads, lookup-visits, lookup-tells}
use Rattle.matcher.proofs.match_with_ruledef_map.Goals as goal

pub returns-clause-readings : goal.returns-clause-readings
returns-clause-readings c = lookup-reads _ _ _ _ _ _ _ c.call.ensures

pub returns-clause-visits : goal.returns-clause-visits
returns-clause-visits c = lookup-visits _ _ _ _ _ _ _ c.call.ensures

pub returns-clause-agrees : goal.returns-clause-agrees
returns-clause-agrees c = lookup-tells _ _ _ _ _ _ _ c.call.ensures
