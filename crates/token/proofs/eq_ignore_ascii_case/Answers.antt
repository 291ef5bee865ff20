-- Equal, a capital and its partner, or apart.
use mathlib.Core.Path.{◌∙◌}
use Rattle.token.proofs.Bytes.{letters-near, letters-swap, letters-apart}
use Rattle.token.proofs.eq_ignore_ascii_case.Goals as goal

pub returns-then-a-b-2 : goal.returns-then-a-b-2
returns-then-a-b-2 c = record { answers = letters-near _ _ c.if-a-b-2.true _ c.to_ascii_lowercase.ensures.answers }

pub returns-then-b-a : goal.returns-then-b-a
returns-then-b-a c = record { answers = letters-near _ _ c.if-b-a.true _ c.to_ascii_lowercase-then-b-a.ensures.answers ∙ letters-swap _ _ }

pub returns : goal.returns
returns c = record { answers = letters-apart _ _ c.if-a-b.false c.if-a-b-2.false c.if-b-a.false }
