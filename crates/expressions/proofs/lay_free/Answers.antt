-- `lay_free` meets its contract.
use mathlib.Core.Path.{refl, sym, ap, ◌∙◌}
use Prim.Native.Nat.{◌+◌, ◌*◌}
use lib.ListN.{length, get_or}
use Rattle.syntax.specs.Walker.{byte_at}
use Rattle.extents.specs.declared.Half.TheVariants.{Free}
use Rattle.expressions.specs.Grammar.{is_minus}
use Rattle.expressions.specs.Filling.{term_says}
use Rattle.expressions.proofs.Told.{changes-told}
use Rattle.expressions.proofs.Filled.{next_start, copy-room, one-row, inner-follows, term-some, term-none, free-copied, free-none}
use Rattle.expressions.proofs.lay_free.Goals as goal

pub lay_from-requires-clause-to_in_bounds : goal.lay_from-requires-clause-to_in_bounds
lay_from-requires-clause-to_in_bounds c = let whole = copy-room c.args.line.now c.args.sheet.now c.args.c c.requires.free_asked.made c.requires.free_asked.start Free in whole.1.1

pub returns-then-white-minus : goal.returns-then-white-minus
unfolding is_minus
returns-then-white-minus c = free-copied c.args.line.now c.args.sheet.now c.lay_from.new.sheet c.args.c c.requires.free_asked.made c.requires.free_asked.start c.args.wholes.now (c.args.c * (length c.args.line.now + 1) + (length c.args.line.now + 1)) c.requires.free_asked.ends (changes-told (byte_at c.args.line.now c.args.c) c.requires.white_value refl) c.if-white-minus.true (next_start c.args.line.now c.args.sheet.now c.args.c c.requires.free_asked.made c.requires.free_asked.start Free) c.lay_from.ensures

pub term_at-requires-clause-follows : goal.term_at-requires-clause-follows
term_at-requires-clause-follows c = inner-follows c.args.line.now c.args.wholes.now c.args.c (get_or c.args.wholes.now (c.args.c + 1) 0) c.requires.free_asked.ends c.requires.free_asked.start refl c.args.tokens.now c.requires.free_asked.made.short c.requires.free_asked.follow

pub lay_term-requires-clause-term_ends : goal.lay_term-requires-clause-term_ends
unfolding is_minus
lay_term-requires-clause-term_ends c = term-some c.args.line.now c.args.wholes.now c.args.c (get_or c.args.wholes.now (c.args.c + 1) 0) c.requires.free_asked.ends c.requires.free_asked.start refl (changes-told (byte_at c.args.line.now c.args.c) c.requires.white_value refl) c.if-white-minus.false _ _ (ap term_says (sym c.in-Some.is) ∙ c.term_at.ensures)

pub lay-requires-clause-to_in_bounds : goal.lay-requires-clause-to_in_bounds
lay-requires-clause-to_in_bounds c = one-row c.args.line.now c.args.sheet.now c.args.c c.requires.free_asked.made c.requires.free_asked.start Free c.args.sheet.now refl

pub returns-in-None : goal.returns-in-None
unfolding is_minus
returns-in-None c = free-none c.args.line.now c.args.sheet.now c.lay.new.sheet c.args.c c.requires.free_asked.made c.requires.free_asked.start (term-none c.args.line.now c.args.wholes.now c.args.c (get_or c.args.wholes.now (c.args.c + 1) 0) c.requires.free_asked.ends c.requires.free_asked.start refl (changes-told (byte_at c.args.line.now c.args.c) c.requires.white_value refl) c.if-white-minus.false (ap term_says (sym c.in-None.is) ∙ c.term_at.ensures)) c.lay.ensures
