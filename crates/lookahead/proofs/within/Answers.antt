-- An end past the table is the table's: no words stand between them.
use Rattle.lookahead.proofs.Ahead.{parts-past}
use Rattle.lookahead.proofs.within.Goals as goal

pub returns-clause-by_index : goal.returns-clause-by_index
returns-clause-by_index c = parts-past _ _ c.if-end-table.false
