-- `lay_greedy` meets its contract.
use mathlib.Core.Path.{refl}
use Prim.Native.Nat.{◌+◌, ◌*◌}
use native.Mathlib.Omega.{arith}
use lib.ListN.{length}
use Rattle.extents.specs.declared.Half.TheVariants.{Greedy}
use Rattle.expressions.proofs.Filled.{next_start, copy-room, one-row, digits-room, digits-top, greedy-copied, greedy-none, greedy-ends}
use Rattle.expressions.proofs.lay_greedy.Goals as goal

pub lay_from-requires-clause-to_in_bounds : goal.lay_from-requires-clause-to_in_bounds
lay_from-requires-clause-to_in_bounds c = let whole = copy-room c.args.line.now c.args.sheet.now c.args.c c.requires.made c.requires.c_in_bounds Greedy in whole.1.1

pub returns-then-white : goal.returns-then-white
returns-then-white c = greedy-copied c.args.line.now c.args.sheet.now c.lay_from.new.sheet c.args.c c.requires.made c.requires.c_in_bounds ((length c.args.line.now + 1) * (length c.args.line.now + 1) + c.args.c * (length c.args.line.now + 1) + (length c.args.line.now + 1)) c.requires.white_value c.if-white.true (next_start c.args.line.now c.args.sheet.now c.args.c c.requires.made c.requires.c_in_bounds Greedy) c.lay_from.ensures

pub lay-requires-clause-to_in_bounds : goal.lay-requires-clause-to_in_bounds
lay-requires-clause-to_in_bounds c = one-row c.args.line.now c.args.sheet.now c.args.c c.requires.made c.requires.c_in_bounds Greedy c.args.sheet.now refl

pub returns-then-digits-c : goal.returns-then-digits-c
returns-then-digits-c c = greedy-none c.args.line.now c.args.sheet.now c.lay.new.sheet c.args.c c.requires.made c.requires.c_in_bounds c.requires.white_value (cc) c.args.digits c.requires.digits_value c.if-digits-c.true c.lay.ensures

pub lay_ends-requires-clause-top_in_bounds : goal.lay_ends-requires-clause-top_in_bounds
lay_ends-requires-clause-top_in_bounds c = let inside = digits-top c.args.line.now c.args.c c.requires.c_in_bounds c.args.digits c.requires.digits_value in digits-room c.args.line.now c.args.sheet.now c.args.c c.requires.made c.requires.c_in_bounds c.args.digits inside

pub lay_ends-requires-clause-top_bound : goal.lay_ends-requires-clause-top_bound
lay_ends-requires-clause-top_bound c = let inside = digits-top c.args.line.now c.args.c c.requires.c_in_bounds c.args.digits c.requires.digits_value in omega (arith, inside, c.requires.made.short)

pub overflow_add-digits : goal.overflow_add-digits
overflow_add-digits c = let inside = digits-top c.args.line.now c.args.c c.requires.c_in_bounds c.args.digits c.requires.digits_value in omega (arith, inside, c.requires.made.short)

pub overflow_cast-digits : goal.overflow_cast-digits
overflow_cast-digits c = let inside = digits-top c.args.line.now c.args.c c.requires.c_in_bounds c.args.digits c.requires.digits_value in omega (arith, inside, c.requires.made.short)

pub lay-requires-2-clause-from_le_to : goal.lay-requires-2-clause-from_le_to
lay-requires-2-clause-from_le_to c = let inside = digits-top c.args.line.now c.args.c c.requires.c_in_bounds c.args.digits c.requires.digits_value in omega (arith, inside)

pub lay-requires-2-clause-to_in_bounds : goal.lay-requires-2-clause-to_in_bounds
lay-requires-2-clause-to_in_bounds c = let inside = digits-top c.args.line.now c.args.c c.requires.c_in_bounds c.args.digits c.requires.digits_value in one-row c.args.line.now c.args.sheet.now c.args.c c.requires.made c.requires.c_in_bounds Greedy c.lay_ends.new.sheet c.lay_ends.ensures.long

pub returns : goal.returns
returns c = greedy-ends c.args.line.now c.args.sheet.now c.lay-2.new.sheet c.args.c c.requires.made c.requires.c_in_bounds c.requires.white_value (cc) c.lay_ends.new.sheet c.args.digits c.requires.digits_value c.if-digits-c.false c.lay_ends.ensures c.lay-2.ensures
