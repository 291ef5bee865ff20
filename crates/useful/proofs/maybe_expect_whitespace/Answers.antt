-- `expect_whitespace`: at the limit, at a byte of whitespace, or at another byte.
use mathlib.Core.Path.{sym}
use mathlib.Core.Bool.{true, false}
use native.Mathlib.Omega.{arith}
use Rattle.syntax.proofs.Useful.{held_same}
use Rattle.syntax.proofs.Moves.{gap-end, gap-byte}
use Rattle.useful.proofs.Limits.{later-white, own-solid}
use Rattle.useful.proofs.maybe_expect_whitespace.Goals as goal

pub returns-then-limit-here : goal.returns-then-limit-here
returns-then-limit-here c = record { answers = gap-end _ _ _ (sym (held_same _ _ (c.requires.cursor_le_limit, c.requires.limit_in_bounds))) (omega arith) }

pub returns-then-here-place : goal.returns-then-here-place
returns-then-here-place c = record { answers = gap-byte _ _ _ (sym (held_same _ _ (c.requires.cursor_le_limit, c.requires.limit_in_bounds))) true c.if-limit-here.false (later-white _ _ c.requires.lent _ (omega (arith, c.requires.limit_in_bounds)) c.if-here-place.true) }

pub returns : goal.returns
returns c = record { answers = gap-byte _ _ _ (sym (held_same _ _ (c.requires.cursor_le_limit, c.requires.limit_in_bounds))) false c.if-limit-here.false (own-solid _ _ c.requires.lent _ (omega (arith, c.requires.limit_in_bounds)) c.if-here-place.false) }
