-- The loop's invariant: the rules passed have their leads.
use Rattle.leads.specs.Leads.{Led}
use Rattle.leads.proofs.Laying.{AmongFirst}
use Rattle.leads.proofs.lead_listed.Given as goal

abbrev pub invariant-loop-rule : goal.invariant-loop-rule
invariant-loop-rule l = Led l.table (AmongFirst l.rules l.rule-index) l.initial.leads l.leads
