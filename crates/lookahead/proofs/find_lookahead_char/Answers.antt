use mathlib.Core.Path.{sym, ◌∙◌}
use mathlib.Core.Logic.{inl, inr}
use Rattle.readings.specs.Walk.{lookahead}
use Rattle.lookahead.proofs.Ahead.{ahead-met, ahead_none}
use Rattle.lookahead.proofs.find_lookahead_char.Goals as goal

pub returns-in-Exact : goal.returns-in-Exact
unfolding lookahead
returns-in-Exact c = record { answers = ahead-met _ _ _ c.loop-here.invariant.0 _ c.loop-here.invariant.1 _ c.loop-here-test.true (sym c.in-Exact.is ∙ c.part_within.ensures.answers) }

pub loop-here-preserved : goal.loop-here-preserved
unfolding lookahead
loop-here-preserved c = (c.loop-here.invariant.0, ahead-met _ _ _ c.loop-here.invariant.0 _ c.loop-here.invariant.1 _ c.loop-here-test.true (sym c.in-Whitespace.is ∙ c.part_within.ensures.answers))

pub returns-in-Expression : goal.returns-in-Expression
unfolding lookahead
returns-in-Expression c = record {
  answers =
      elim c.in-Expression.is [
        | inl e ↦ ahead-met _ _ _ c.loop-here.invariant.0 _ c.loop-here.invariant.1 _ c.loop-here-test.true (sym e ∙ c.part_within.ensures.answers)
        | inr n ↦ ahead-met _ _ _ c.loop-here.invariant.0 _ c.loop-here.invariant.1 _ c.loop-here-test.true (sym n.1 ∙ c.part_within.ensures.answers)
      ];
}

pub returns : goal.returns
returns c = record { answers = ahead_none _ _ _ c.loop-here.invariant.0 _ c.loop-here.invariant.1 c.loop-here-test.false }
