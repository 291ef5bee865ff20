-- The loop's invariant: of the rulesets passed, the rules that are no top rules have their leads.
use lib.ListN.{get_or}
use Rattle.leads.specs.Leads.{Led}
use Rattle.leads.proofs.Nested.{NestedTo}
use Rattle.leads.proofs.lead_nested.Given as goal

abbrev pub invariant-loop-set : goal.invariant-loop-set
invariant-loop-set l = Led l.table (NestedTo l.table (get_or l.starts l.set 0)) l.initial.leads l.leads
