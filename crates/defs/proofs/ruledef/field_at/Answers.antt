-- The word at the field's place.
use mathlib.Core.Path.{ap, ◌∙◌}
use native.Mathlib.Omega.{arith}
use Rattle.defs.specs.Table.{word_at, field_at}
use Rattle.defs.proofs.ruledef.field_at.Goals as goal

pub returns-clause-answers : goal.returns-clause-answers
unfolding field_at
returns-clause-answers c = c.word_at-2.ensures.answers ∙ ap (word_at c.args.table.now) (omega (arith, c.word_at.ensures.answers))
