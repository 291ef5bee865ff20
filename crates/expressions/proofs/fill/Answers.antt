use mathlib.Core.Path.{refl, ap, ◌∙◌}
use Prim.Native.Nat.{ℕ}
use native.Mathlib.Omega.{arith}
use lib.ListN.{length, get_or}
use Rattle.plain.specs.Below.{every_below}
use Rattle.plain.specs.Lists.{range, listed}
use Rattle.extents.specs.declared.Half.TheVariants.{Free, Greedy}
use Rattle.expressions.proofs.Filled.{row_room, last_made, last-whole, last-token, last-reach, tokens-next, reach-next, greedy-asked, start-done}
use Rattle.expressions.proofs.fill.Goals as goal

pub lay-requires-clause-to_in_bounds : goal.lay-requires-clause-to_in_bounds
lay-requires-clause-to_in_bounds c = row_room (length c.args.line.now) c.args.sheet.now Free (length c.args.line.now) c.requires.line_value (omega arith)

pub lay-requires-2-clause-to_in_bounds : goal.lay-requires-2-clause-to_in_bounds
lay-requires-2-clause-to_in_bounds c = omega (arith, row_room (length c.args.line.now) c.args.sheet.now Greedy (length c.args.line.now) c.requires.line_value (omega arith), c.lay.ensures.long)

pub loop-c-init : goal.loop-c-init
unfolding every_below range listed
loop-c-init c = (omega arith, (last_made c.args.line.now c.args.sheet.now c.lay.new.sheet c.lay-2.new.sheet c.requires.line_len_bound c.requires.line_value c.lay.ensures c.lay-2.ensures, last-whole c.args.line.now _ c.requires.line_len_bound refl refl), (last-token c.args.line.now (listed 121 (λ i. 0)) c.requires.line_len_bound refl, last-reach c.args.line.now))

pub lay_free-whole-requires-clause-reaches : goal.lay_free-whole-requires-clause-reaches
lay_free-whole-requires-clause-reaches c = reach-next c.args.line.now c.loop-c.tokens c.loop-c.c c.loop-c.invariant.0 c.loop-c-test.true c.requires.line_len_bound c.reach_at-reach.result c.loop-c.reach c.loop-c.invariant.2.1 c.reach_at-reach.ensures

pub lay_greedy-requires-clause-made : goal.lay_greedy-requires-clause-made
lay_greedy-requires-clause-made c = let (made, start) = greedy-asked c.args.line.now c.loop-c.sheet c.loop-c.wholes _ c.loop-c.c c.loop-c.invariant.0 c.loop-c-test.true c.loop-c.invariant.1.0 c.loop-c.invariant.1.1 (tokens-next c.args.line.now c.loop-c.tokens c.loop-c.c c.loop-c.invariant.0 c.loop-c-test.true c.requires.line_len_bound c.loop-c.invariant.2.0 c.is_whitespace-white.ensures.answers c.wide-next.result c.next_or.result (c.wide-next.ensures.0 ∙ ap (λ (k : ℕ). get_or c.loop-c.tokens k 0) (omega arith)) c.next_or.ensures) c.lay_free-whole.new.sheet c.lay_free-whole.result c.lay_free-whole.ensures in made

pub lay_greedy-requires-clause-digits_value : goal.lay_greedy-requires-clause-digits_value
lay_greedy-requires-clause-digits_value c = let (made, start) = greedy-asked c.args.line.now c.loop-c.sheet c.loop-c.wholes _ c.loop-c.c c.loop-c.invariant.0 c.loop-c-test.true c.loop-c.invariant.1.0 c.loop-c.invariant.1.1 (tokens-next c.args.line.now c.loop-c.tokens c.loop-c.c c.loop-c.invariant.0 c.loop-c-test.true c.requires.line_len_bound c.loop-c.invariant.2.0 c.is_whitespace-white.ensures.answers c.wide-next.result c.next_or.result (c.wide-next.ensures.0 ∙ ap (λ (k : ℕ). get_or c.loop-c.tokens k 0) (omega arith)) c.next_or.ensures) c.lay_free-whole.new.sheet c.lay_free-whole.result c.lay_free-whole.ensures in (reach-next c.args.line.now c.loop-c.tokens c.loop-c.c c.loop-c.invariant.0 c.loop-c-test.true c.requires.line_len_bound c.reach_at-reach.result c.loop-c.reach c.loop-c.invariant.2.1 c.reach_at-reach.ensures).digits

pub loop-c-preserved : goal.loop-c-preserved
loop-c-preserved c = let tokens = tokens-next c.args.line.now c.loop-c.tokens c.loop-c.c c.loop-c.invariant.0 c.loop-c-test.true c.requires.line_len_bound c.loop-c.invariant.2.0 c.is_whitespace-white.ensures.answers c.wide-next.result c.next_or.result (c.wide-next.ensures.0 ∙ ap (λ (k : ℕ). get_or c.loop-c.tokens k 0) (omega arith)) c.next_or.ensures in let (start, made, wholes) = start-done c.args.line.now c.loop-c.sheet c.loop-c.wholes _ c.loop-c.c c.loop-c.invariant.0 c.loop-c-test.true c.loop-c.invariant.1.0 c.loop-c.invariant.1.1 tokens c.lay_free-whole.new.sheet c.lay_free-whole.result c.lay_free-whole.ensures c.lay_greedy.new.sheet c.lay_greedy.ensures in (start, (made, wholes), (tokens, reach-next c.args.line.now c.loop-c.tokens c.loop-c.c c.loop-c.invariant.0 c.loop-c-test.true c.requires.line_len_bound c.reach_at-reach.result c.loop-c.reach c.loop-c.invariant.2.1 c.reach_at-reach.ensures))
