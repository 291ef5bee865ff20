use mathlib.Core.List.{[]}
use native.Mathlib.Omega.{arith}
use Rattle.defs.proofs.Words.{parts_within}
use Rattle.readings.proofs.Records.{few-records}
use Rattle.leads.proofs.Laying.{between_more, span_key}
use Rattle.leads.proofs.lead_between.Goals as goal

pub overflow_cast-rule : goal.overflow_cast-rule
overflow_cast-rule c = omega (arith, c.requires.to_bound, few-records _ [] [] c.requires.table_value)

pub prefix_key-requires : goal.prefix_key-requires
prefix_key-requires c = parts_within _ _ _ c.parts_of-parts.ensures.answers

pub offset_bounds-leads-rule : goal.offset_bounds-leads-rule
offset_bounds-leads-rule c = omega (arith, c.requires.to_bound, few-records _ [] [] c.requires.table_value)

pub bounds-leads-rule : goal.bounds-leads-rule
bounds-leads-rule c = omega (arith, c.requires.to_bound, few-records _ [] [] c.requires.table_value, c.requires.leads_len)

pub loop-rule-preserved : goal.loop-rule-preserved
loop-rule-preserved c = between_more c.loop-rule.invariant (omega arith) (omega (arith, c.requires.to_bound, few-records _ [] [] c.requires.table_value, c.requires.leads_len)) (span_key _ _ _ c.parts_of-parts.ensures.answers c.prefix_key.ensures.answers)
