-- `program::Groundwork::run_line` meets its contract.
use Rattle.std.proofs.lemmas.Result.{err_from_is_err_and}
use Rattle.trials.proofs.Checks.{accepted-by}
use Rattle.trials.proofs.Ordered.{line_refused, line-told}
use Rattle.program.proofs.Choosing.{read_asked}
use Rattle.program.proofs.Groundwork.run_line.Goals as goal

pub returns-in_err-check-clause-tells : goal.returns-in_err-check-clause-tells
returns-in_err-check-clause-tells c =
    let (error, is, gives) = err_from_is_err_and c.from_residual.result c.from_residual.ensures.1 in
    rw (is, gives) (line_refused c.args.self.now.how _ _ _ _ _ _ c.requires.ready.prepared.table c.check.ensures.answers c.in_err-check.was)

pub choose_rules-count-requires-clause-line_value : goal.choose_rules-count-requires-clause-line_value
choose_rules-count-requires-clause-line_value c = (accepted-by _ _ _ _ c.check.ensures.answers c.in_ok-check.was).bytes

pub read_line-requires-clause-read_asked : goal.read_line-requires-clause-read_asked
read_line-requires-clause-read_asked c = read_asked c.requires.ready.prepared (accepted-by _ _ _ _ c.check.ensures.answers c.in_ok-check.was) c.choose_rules-count.ensures c.requires.store_len

pub returns-clause-tells : goal.returns-clause-tells
returns-clause-tells c = line-told c.args.self.now.how _ _ _ _ _ _ c.requires.ready.prepared.table _ _ c.choose_rules-count.ensures.rules_are c.read_line.ensures.answers
