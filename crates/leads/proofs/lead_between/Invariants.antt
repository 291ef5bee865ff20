-- The loop's invariant: the rules passed have their leads.
use Rattle.leads.specs.Leads.{Led, Between}
use Rattle.leads.proofs.lead_between.Given as goal

abbrev pub invariant-loop-rule : goal.invariant-loop-rule
invariant-loop-rule l = Led l.table (Between l.from l.rule) l.initial.leads l.leads
