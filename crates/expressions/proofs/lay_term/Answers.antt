-- `lay_term` meets its contract.
use mathlib.Core.Path.{◌∙◌}
use Rattle.extents.specs.declared.Half.TheVariants.{Free}
use Rattle.expressions.proofs.Filled.{one-row, term-room, term-follows, operator-none, joined-asks, joined-held, joined-laid, free-alone}
use Rattle.expressions.proofs.lay_term.Goals as goal

pub lay_ends-requires-clause-top_in_bounds : goal.lay_ends-requires-clause-top_in_bounds
lay_ends-requires-clause-top_in_bounds c = let whole = term-room c.args.line.now c.args.sheet.now c.args.c c.requires.free_asked.made c.requires.free_asked.start c.requires.term_ends in whole.0

pub lay_from-requires-clause-to_bound : goal.lay_from-requires-clause-to_bound
lay_from-requires-clause-to_bound c = let whole = joined-asks c.requires.free_asked c.requires.term_ends c.lay_ends.ensures (c.wide-sign.ensures.0 ∙ (term-follows c.requires.free_asked c.requires.term_ends).1) c.byte_at.ensures c.is_operator.ensures c.if-is_operator.true in whole.1.0

pub lay_from-requires-clause-to_in_bounds : goal.lay_from-requires-clause-to_in_bounds
lay_from-requires-clause-to_in_bounds c = let whole = joined-asks c.requires.free_asked c.requires.term_ends c.lay_ends.ensures (c.wide-sign.ensures.0 ∙ (term-follows c.requires.free_asked c.requires.term_ends).1) c.byte_at.ensures c.is_operator.ensures c.if-is_operator.true in whole.1.1

pub bounds-wholes-next : goal.bounds-wholes-next
bounds-wholes-next c = joined-held c.requires.free_asked c.requires.term_ends c.lay_ends.ensures (c.wide-sign.ensures.0 ∙ (term-follows c.requires.free_asked c.requires.term_ends).1) c.byte_at.ensures c.is_operator.ensures c.if-is_operator.true

pub returns-then-is_operator : goal.returns-then-is_operator
returns-then-is_operator c = joined-laid c.requires.free_asked c.requires.term_ends c.lay_ends.ensures (c.wide-sign.ensures.0 ∙ (term-follows c.requires.free_asked c.requires.term_ends).1) c.byte_at.ensures c.is_operator.ensures c.if-is_operator.true c.lay_from.new.sheet c.lay_from.ensures

pub lay-requires-clause-to_in_bounds : goal.lay-requires-clause-to_in_bounds
lay-requires-clause-to_in_bounds c = one-row c.args.line.now c.args.sheet.now c.args.c c.requires.free_asked.made c.requires.free_asked.start Free c.lay_ends.new.sheet c.lay_ends.ensures.long

pub returns : goal.returns
returns c = free-alone c.args.line.now c.args.sheet.now c.lay_ends.new.sheet c.lay.new.sheet c.args.c c.args.term.low c.args.term.top c.requires.free_asked.made c.requires.free_asked.start c.requires.term_ends c.lay_ends.ensures (operator-none c.args.line.now c.args.term.top c.wide-sign.result c.byte_at.result (c.wide-sign.ensures.0 ∙ (term-follows c.requires.free_asked c.requires.term_ends).1) c.byte_at.ensures c.is_operator.ensures c.if-is_operator.false) c.lay.ensures
