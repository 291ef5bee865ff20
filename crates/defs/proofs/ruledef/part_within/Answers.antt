-- `part_of` the word there, which is read as it stands.
use Rattle.defs.specs.Table.{word_at}
use Rattle.defs.proofs.ruledef.part_within.Goals as goal

pub returns : goal.returns
unfolding word_at
returns c = record { answers = c.part_of.ensures }
