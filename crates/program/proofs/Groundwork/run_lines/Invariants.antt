-- `program::Groundwork::run_lines` meets its contract: at each turn what was done and what is left are the whole program.
use Rattle.program.proofs.Running.{Turn}
use Rattle.program.proofs.Groundwork.run_lines.Given as goal

abbrev pub invariant-loop-i : goal.invariant-loop-i
invariant-loop-i l = Turn l.self.how l.table l.text l.ends l.sheets l.budgets l.bases l.self.order.now l.initial.answers l.self.tops l.from l.sheet l.used l.i l.rules l.store l.rows l.answers
