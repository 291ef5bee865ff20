-- No candidate, a duplicate, or a new one that stands last.
use Rattle.lookahead.proofs.Stored.{add_none, add_same, add-new}
use Rattle.lookahead.proofs.add_end.Goals as goal

pub returns-in_default : goal.returns-in_default
returns-in_default c = λ es is. add_none _ es _ is c.requires.count_bound _ c.in_default.is

pub returns-then-is_duplicate : goal.returns-then-is_duplicate
returns-then-is_duplicate c = λ es is. add_same _ es _ is c.requires.count_bound _ _ _ c.in-Some.is c.is_duplicate.ensures c.if-is_duplicate.true

pub returns : goal.returns
returns c = λ es is. add-new _ es _ is c.requires.count_bound _ _ _ c.in-Some.is c.is_duplicate.ensures c.if-is_duplicate.false
