-- The cycle of the number of answer words: links are to earlier records, and each part's number is at most the whole's.
use native.Mathlib.Omega.{arith}
use Rattle.trees.proofs.Arguments.{before, nest-earlier}
use Rattle.trees.proofs.Sizes.{size-expr, previous-asked, inner-asked}
use Rattle.words.proofs.Writes.{words-sized, words-nest}
use Rattle.words.proofs.+argument_words_tree_words.Goals as goal

pub argument_words-argument_words-requires : goal.argument_words-argument_words-requires
argument_words-argument_words-requires t c =
    (omega (arith, c.decreases, (before _ _ c.last_argument.ensures.answers.lasts c.in-Some.is).earlier), previous-asked words-sized c.requires c.last_argument.ensures.answers.lasts c.in-Some.is)

pub argument_words-overflow_add-result : goal.argument_words-overflow_add-result
argument_words-overflow_add-result t c =
    omega (arith, c.requires.small, size-expr words-sized c.last_argument.ensures.answers.lasts c.in-Some.is c.in-Expr.is, c.argument_words.ensures)

pub argument_words-argument_words-before-requires : goal.argument_words-argument_words-before-requires
argument_words-argument_words-before-requires t c =
    (omega (arith, c.decreases, (before _ _ c.last_argument.ensures.answers.lasts c.in-Some.is).earlier), previous-asked words-sized c.requires c.last_argument.ensures.answers.lasts c.in-Some.is)

pub argument_words-tree_words-inner-requires : goal.argument_words-tree_words-inner-requires
argument_words-tree_words-inner-requires t c =
    (omega (arith, c.decreases, nest-earlier _ _ c.last_argument.ensures.answers.lasts c.in-Some.is c.in-Nested.is), inner-asked words-sized c.requires c.last_argument.ensures.answers.lasts c.in-Some.is c.in-Nested.is)

pub argument_words-overflow_add-result-in-Nested : goal.argument_words-overflow_add-result-in-Nested
argument_words-overflow_add-result-in-Nested t c =
    omega (arith, c.requires.small, words-nest c.last_argument.ensures.answers.lasts c.in-Some.is c.in-Nested.is, c.argument_words-before.ensures)

pub argument_words-overflow_add-result-in-Nested-2 : goal.argument_words-overflow_add-result-in-Nested-2
argument_words-overflow_add-result-in-Nested-2 t c =
    omega (arith, c.requires.small, words-nest c.last_argument.ensures.answers.lasts c.in-Some.is c.in-Nested.is, c.argument_words-before.ensures, c.tree_words-inner.ensures.answers)

pub argument_words-returns-in-Expr : goal.argument_words-returns-in-Expr
argument_words-returns-in-Expr t c =
    omega (arith, size-expr words-sized c.last_argument.ensures.answers.lasts c.in-Some.is c.in-Expr.is, c.argument_words.ensures)

pub argument_words-returns-in-Nested : goal.argument_words-returns-in-Nested
argument_words-returns-in-Nested t c =
    omega (arith, words-nest c.last_argument.ensures.answers.lasts c.in-Some.is c.in-Nested.is, c.argument_words-before.ensures, c.tree_words-inner.ensures.answers)
