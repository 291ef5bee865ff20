-- `rule_span`, with the words that were read.
use Rattle.defs.proofs.Words.{span-is}
use Rattle.defs.proofs.ruledef.parts_of.Goals as goal

pub returns : goal.returns
returns c = record { answers = span-is _ _ _ _ _ _ c.word_at.ensures.answers c.word_at-2.ensures.answers c.field_at.ensures.answers c.field_at-2.ensures.answers c.min.ensures }
