use Rattle.token.proofs.Bytes.{class-rule}
use borrow.Author.Rules.{rules}
use Rattle.token.proofs.class.Goals as goal

pub returns : goal.returns
returns c = class-rule _ c.classes-table.ensures.answers _ (search rules)
