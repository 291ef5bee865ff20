-- `gap` of the held walker: at the limit, or by the byte; the walker itself comes back.
use mathlib.Core.Path.{sym, ◌∙◌}
use native.Mathlib.Omega.{arith}
use Rattle.syntax.proofs.Moves.{gap-end, gap-byte}
use Rattle.syntax.proofs.walker.Walker.maybe_expect_whitespace.Goals as goal

pub returns-then-limit-at : goal.returns-then-limit-at
returns-then-limit-at c = record { answers = gap-end _ _ _ c.hold-here.ensures.answers (omega (arith, c.if-limit-at.true)) }

pub returns-then-is_whitespace : goal.returns-then-is_whitespace
returns-then-is_whitespace c = record { answers = gap-byte _ _ _ c.hold-here.ensures.answers _ c.if-limit-at.false (sym c.is_whitespace.ensures.answers ∙ c.if-is_whitespace.true) }

pub returns : goal.returns
returns c = record { answers = gap-byte _ _ _ c.hold-here.ensures.answers _ c.if-limit-at.false (sym c.is_whitespace.ensures.answers ∙ c.if-is_whitespace.false) }
