-- `answer::add_match` meets its contract. Each way out is a law of proofs/Greatest.antt: a lesser, an equal and a greater
-- count. No sum wraps, since what was found before is bounded by the record's number.
use native.Mathlib.Omega.{arith}
use Rattle.answer.proofs.Tops.{one-here, own-count, few_words, words-asked}
use Rattle.answer.proofs.Greatest.{less-added, same-added, greater-added}
use Rattle.answer.proofs.Bounds.{matches-fit, words-fit}
use Rattle.answer.proofs.add_match.Goals as goal

pub returns-then-count-found : goal.returns-then-count-found
returns-then-count-found c =
    less-added _ _ _ (one-here _ _ c.requires.stored _ c.requires.below c.requires.top) c.requires.is (own-count _ _ c.requires.stored _ c.requires.below c.requires.top _ c.requires.counted c.count_at-count.ensures.answers) c.if-count-found.true

pub tree_words-words-requires : goal.tree_words-words-requires
tree_words-words-requires c =
    words-asked _ _ c.requires.stored _ c.requires.below c.requires.top _ c.requires.bounded

pub overflow_add-result : goal.overflow_add-result
overflow_add-result c =
    omega (arith, matches-fit _ _ _ _ c.requires.is, c.requires.stored.room)

pub overflow_add-result-then-count-found-2 : goal.overflow_add-result-then-count-found-2
overflow_add-result-then-count-found-2 c =
    omega (arith, words-fit _ _ _ _ c.requires.is c.requires.bounded, few_words _ _ c.requires.stored _ c.requires.below c.requires.top _ c.requires.bounded, c.tree_words-words.ensures.answers, c.requires.stored.room)

pub returns-then-count-found-2 : goal.returns-then-count-found-2
returns-then-count-found-2 c =
    same-added _ _ _
    (one-here _ _ c.requires.stored _ c.requires.below c.requires.top)
    c.requires.is
    (own-count _ _ c.requires.stored _ c.requires.below c.requires.top _ c.requires.counted c.count_at-count.ensures.answers)
    c.tree_words-words.ensures.answers
    c.if-count-found-2.true

pub overflow_add-result-2 : goal.overflow_add-result-2
overflow_add-result-2 c =
    omega (arith, few_words _ _ c.requires.stored _ c.requires.below c.requires.top _ c.requires.bounded, c.tree_words-words.ensures.answers)

pub returns : goal.returns
returns c =
    greater-added _ _ _
    (one-here _ _ c.requires.stored _ c.requires.below c.requires.top)
    c.requires.is
    (own-count _ _ c.requires.stored _ c.requires.below c.requires.top _ c.requires.counted c.count_at-count.ensures.answers)
    c.tree_words-words.ensures.answers
    c.if-count-found.false
    c.if-count-found-2.false
