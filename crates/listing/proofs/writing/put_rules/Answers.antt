use native.Mathlib.Omega.{arith}
use Rattle.defs.specs.Table.{records_in}
use Rattle.fields.proofs.Laying.{laying-next, laying-done, laying-ready}
use Rattle.listing.proofs.Writes.{few-rules, rules-step, rules-over}
use Rattle.listing.proofs.writing.put_rules.Goals as goal

pub put_rule-to-requires-clause-ready : goal.put_rule-to-requires-clause-ready
put_rule-to-requires-clause-ready c = laying-ready _ _ _ (rules-step c.args.table.now c.loop-rule.rule (records_in c.args.table.now) (omega arith)) c.requires.ready c.loop-rule.invariant.0

pub overflow_cast-rules : goal.overflow_cast-rules
overflow_cast-rules c = omega (arith, few-rules _ c.requires.table_value)

pub loop-rule-preserved : goal.loop-rule-preserved
loop-rule-preserved c = (laying-next _ _ (rules-step c.args.table.now c.loop-rule.rule (records_in c.args.table.now) (omega arith)) c.loop-rule.invariant.0 c.put_rule-to.ensures.laid, omega arith)

pub returns : goal.returns
returns c = record { laid = laying-done _ (rules-over c.args.table.now c.loop-rule.rule (records_in c.args.table.now) (omega arith)) c.loop-rule.invariant.0 }
