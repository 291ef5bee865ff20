use mathlib.Core.Path.{sym, ◌∙◌}
use native.Mathlib.Omega.{arith}
use Rattle.useful.proofs.Filled.{filled-end, filled-white, filled-solid, filled-all}
use Rattle.useful.proofs.find_places.Goals as goal

pub loop-at-init : goal.loop-at-init
loop-at-init c = filled-end _ c.requires.good_line.short _ c.requires.held_places

pub loop-at-preserved-then-is_whitespace : goal.loop-at-preserved-then-is_whitespace
loop-at-preserved-then-is_whitespace c = filled-white _ c.requires.good_line.short _ _ c.loop-at.invariant (omega arith) (sym c.is_whitespace.ensures.answers ∙ c.if-is_whitespace.true)

pub loop-at-preserved : goal.loop-at-preserved
loop-at-preserved c = filled-solid _ c.requires.good_line.short _ _ c.loop-at.invariant (omega arith) (sym c.is_whitespace.ensures.answers ∙ c.if-is_whitespace.false)

pub returns : goal.returns
returns c = record { answers = filled-all _ c.requires.good_line.short _ _ c.loop-at.invariant (omega arith) }
