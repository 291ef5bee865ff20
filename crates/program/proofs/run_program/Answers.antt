-- `program::run_program` meets its contract.
use Rattle.trials.specs.Orders.{order_of}
use Rattle.runs.proofs.Wholes.{bad-table, bad-program, program-told}
use Rattle.trials.proofs.Leading.{leads-none}
use Rattle.program.proofs.run_program.Goals as goal

pub returns-then-not-check_table : goal.returns-then-not-check_table
returns-then-not-check_table c = bad-table (order_of c.args.how) _ _ _ _ _ _ _ _ (cc)

pub returns-then-not-check_program : goal.returns-then-not-check_program
returns-then-not-check_program c = bad-program (order_of c.args.how) _ _ _ _ _ _ _ _ (cc) (cc)

pub prepare-tops-requires-clause-leads_2 : goal.prepare-tops-requires-clause-leads_2
prepare-tops-requires-clause-leads_2 c = leads-none _

pub returns : goal.returns
returns c = program-told (order_of c.args.how) _ _ _ _ _ _ _ _ (cc) (cc) c.run_lines-words.ensures.runs
