-- `expect_char` of the held walker: no byte below the limit, another byte, or the wanted one.
use mathlib.Core.Path.{sym, ◌∙◌}
use Rattle.syntax.proofs.Moves.{expect-past, expect-other, expect-end}
use Rattle.syntax.proofs.walker.Walker.maybe_expect_char.Goals as goal

pub returns-then-eq_ignore_ascii_case : goal.returns-then-eq_ignore_ascii_case
returns-then-eq_ignore_ascii_case c = record { answers = expect-past _ _ _ c.hold-here.ensures.answers _ _ c.skip_whitespace-at.ensures.value c.if-at-limit.true (sym c.eq_ignore_ascii_case.ensures.answers ∙ c.if-eq_ignore_ascii_case.true) }

pub returns-else-eq_ignore_ascii_case : goal.returns-else-eq_ignore_ascii_case
returns-else-eq_ignore_ascii_case c = record { answers = expect-other _ _ _ c.hold-here.ensures.answers _ _ c.skip_whitespace-at.ensures.value c.if-at-limit.true (sym c.eq_ignore_ascii_case.ensures.answers ∙ c.if-eq_ignore_ascii_case.false) }

pub returns-else-at-limit : goal.returns-else-at-limit
returns-else-at-limit c = record { answers = expect-end _ _ _ c.hold-here.ensures.answers _ _ c.skip_whitespace-at.ensures.value c.if-at-limit.false }
