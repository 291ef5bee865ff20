-- `trials::try_rules` meets its contract: what the rules tried so far left is what their plan leaves.
use Rattle.trials.proofs.Tries.{TriesDid}
use Rattle.trials.proofs.try_rules.Given as goal

abbrev pub invariant-loop-rule : goal.invariant-loop-rule
invariant-loop-rule l = TriesDid l.lent.table.now l.lent.line.now l.lent.sheet.now l.rules l.initial.so_far.left l.initial.so_far.pool.used l.initial.store l.rule-index l.so_far.left l.so_far.pool.used l.store
