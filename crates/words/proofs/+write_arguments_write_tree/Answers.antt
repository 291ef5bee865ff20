-- The cycle of the writing of a tree: links are to earlier records, and each part's words are put after those before it.
use native.Mathlib.Omega.{arith}
use mathlib.Core.Path.{ap}
use Rattle.trees.specs.Asked.{tree_length}
use Rattle.trees.proofs.Arguments.{before, nest-earlier}
use Rattle.trees.proofs.Sizes.{size-before, size-expr}
use Rattle.words.proofs.Writes.{words-sized, words-nest, fit-before, fit-span, fit-inner, fit-head, before-end, tree-put, expr-put, nest-put}
use Rattle.plain.proofs.Buffers.{put-end}
use Rattle.words.proofs.+write_arguments_write_tree.Goals as goal

pub write_arguments-write_arguments-next-requires : goal.write_arguments-write_arguments-next-requires
write_arguments-write_arguments-next-requires t c =
    let low = (before _ _ c.last_argument.ensures.answers.lasts c.in-Some.is).earlier in
    (omega (arith, c.decreases), (omega (arith, c.requires.a_le_used), (fit-before _ c.last_argument.ensures.answers.lasts c.in-Some.is c.requires.fit, omega (arith, c.requires.a_in_bounds, size-before words-sized c.last_argument.ensures.answers.lasts c.in-Some.is))))

pub write_arguments-overflow_add-start : goal.write_arguments-overflow_add-start
write_arguments-overflow_add-start t c =
    omega (arith, (fit-span _ c.last_argument.ensures.answers.lasts c.in-Some.is c.requires.fit).0)

pub write_arguments-overflow_add-end : goal.write_arguments-overflow_add-end
write_arguments-overflow_add-end t c =
    omega (arith, (fit-span _ c.last_argument.ensures.answers.lasts c.in-Some.is c.requires.fit).1)

pub write_arguments-write_words-requires-clause-at_in_bounds : goal.write_arguments-write_words-requires-clause-at_in_bounds
write_arguments-write_words-requires-clause-at_in_bounds t c = let b = fit-span _ c.last_argument.ensures.answers.lasts c.in-Some.is c.requires.fit in let whole = b in omega (arith, c.requires.a_in_bounds, size-expr words-sized c.last_argument.ensures.answers.lasts c.in-Some.is c.in-Expr.is, before-end _ c.last_argument.ensures.answers.lasts c.in-Some.is _ _ c.write_arguments-next.ensures, c.write_arguments-next.auto)

pub write_arguments-write_words-requires-clause-y_bound : goal.write_arguments-write_words-requires-clause-y_bound
write_arguments-write_words-requires-clause-y_bound t c = let b = fit-span _ c.last_argument.ensures.answers.lasts c.in-Some.is c.requires.fit in let whole = b in whole.0

pub write_arguments-write_words-requires-clause-z_bound : goal.write_arguments-write_words-requires-clause-z_bound
write_arguments-write_words-requires-clause-z_bound t c = let b = fit-span _ c.last_argument.ensures.answers.lasts c.in-Some.is c.requires.fit in let whole = b in whole.1

pub write_arguments-write_words-inner-requires-clause-at_in_bounds : goal.write_arguments-write_words-inner-requires-clause-at_in_bounds
write_arguments-write_words-inner-requires-clause-at_in_bounds t c = let b = fit-span _ c.last_argument.ensures.answers.lasts c.in-Some.is c.requires.fit in let whole = b in omega (arith, c.requires.a_in_bounds, words-nest c.last_argument.ensures.answers.lasts c.in-Some.is c.in-Nested.is, before-end _ c.last_argument.ensures.answers.lasts c.in-Some.is _ _ c.write_arguments-next.ensures, c.write_arguments-next.auto)

pub write_arguments-write_words-inner-requires-clause-y_bound : goal.write_arguments-write_words-inner-requires-clause-y_bound
write_arguments-write_words-inner-requires-clause-y_bound t c = let b = fit-span _ c.last_argument.ensures.answers.lasts c.in-Some.is c.requires.fit in let whole = b in whole.0

pub write_arguments-write_words-inner-requires-clause-z_bound : goal.write_arguments-write_words-inner-requires-clause-z_bound
write_arguments-write_words-inner-requires-clause-z_bound t c = let b = fit-span _ c.last_argument.ensures.answers.lasts c.in-Some.is c.requires.fit in let whole = b in whole.1

pub write_arguments-write_tree-requires : goal.write_arguments-write_tree-requires
write_arguments-write_tree-requires t c =
    let low = nest-earlier _ _ c.last_argument.ensures.answers.lasts c.in-Some.is c.in-Nested.is in
    (omega (arith, c.decreases), (omega (arith, c.requires.a_le_used), (fit-inner _ c.last_argument.ensures.answers.lasts c.in-Some.is c.requires.fit c.in-Nested.is, omega (arith, c.requires.a_in_bounds, words-nest c.last_argument.ensures.answers.lasts c.in-Some.is c.in-Nested.is, before-end _ c.last_argument.ensures.answers.lasts c.in-Some.is _ _ c.write_arguments-next.ensures, put-end _ _ _ c.write_words-inner.ensures, c.write_arguments-next.auto, c.write_words-inner.auto))))

pub write_arguments-returns-in-Expr : goal.write_arguments-returns-in-Expr
write_arguments-returns-in-Expr t c =
    expr-put _ _ _ c.last_argument.ensures.answers.lasts c.in-Some.is c.requires.a_in_bounds c.write_arguments-next.ensures c.in-Expr.is c.write_words.ensures

pub write_arguments-returns-in-Nested : goal.write_arguments-returns-in-Nested
write_arguments-returns-in-Nested t c =
    nest-put _ _ _ c.last_argument.ensures.answers.lasts c.in-Some.is c.requires.a_in_bounds c.write_arguments-next.ensures c.in-Nested.is c.write_words-inner.ensures c.write_tree.ensures.answers

pub write_tree-write_arguments-requires : goal.write_tree-write_arguments-requires
write_tree-write_arguments-requires t c =
    (omega (arith, c.decreases, c.match_at-head.ensures.answers.heads.earlier), (omega (arith, c.requires.m_lt_used, c.match_at-head.ensures.answers.heads.earlier), (fit-head _ c.match_at-head.ensures.answers.heads c.requires.fit, omega (arith, c.requires.m_in_bounds, ap tree_length c.match_at-head.ensures.answers.heads.means, put-end _ _ _ c.write_words-next.ensures, c.write_words-next.auto))))

pub write_tree-returns : goal.write_tree-returns
write_tree-returns t c = record {
  answers =
      tree-put _ _ _ c.match_at-head.ensures.answers.heads c.requires.m_in_bounds c.count_arguments-count.ensures.value c.write_words-next.ensures c.write_arguments.ensures;
}
