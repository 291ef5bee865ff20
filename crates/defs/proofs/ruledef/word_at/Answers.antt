-- A word below 2^16, or 0 past the end.
use mathlib.Core.Path.{refl, sym}
use lib.ListN.{get_or-eq_default}
use Rattle.defs.specs.Table.{word_at}
use Rattle.defs.proofs.ruledef.word_at.Goals as goal

pub returns-then-at-table-clause-answers : goal.returns-then-at-table-clause-answers
unfolding word_at
returns-then-at-table-clause-answers c = refl

pub returns-clause-answers : goal.returns-clause-answers
unfolding word_at
returns-clause-answers c = sym (get_or-eq_default c.args.table.now 0 c.if-at-table.false)
