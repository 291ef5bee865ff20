-- The cycle of the test of matches. The first match's record number falls; the second's stays in the pool.
use native.Mathlib.Omega.{arith}
use Rattle.trees.proofs.Sames.{first-none, second_none, different, alike, inner-differ, inner-alike, inner-earlier}
use Rattle.trees.proofs.+is_same_same_arguments.Goals as goal

pub same_arguments-is_same-requires : goal.same_arguments-is_same-requires
same_arguments-is_same-requires t c =
    let (x, y) = inner-earlier c.last_argument-last.ensures.answers.lasts c.last_argument-other.ensures.answers.lasts c.in-Some-Some.is-0 c.in-Some-Some.is-1 c.compare.ensures c.in-Inner.is in
    (omega (arith, c.decreases), (omega (arith, c.requires.a_le_used), omega (arith, c.requires.b_le_used)))

pub same_arguments-returns-in-Different : goal.same_arguments-returns-in-Different
same_arguments-returns-in-Different t c =
    different c.last_argument-last.ensures.answers.lasts c.last_argument-other.ensures.answers.lasts c.in-Some-Some.is-0 c.in-Some-Some.is-1 c.compare.ensures c.in-Different.is

pub same_arguments-returns-in-Alike : goal.same_arguments-returns-in-Alike
same_arguments-returns-in-Alike t c =
    alike c.last_argument-last.ensures.answers.lasts c.last_argument-other.ensures.answers.lasts c.in-Some-Some.is-0 c.in-Some-Some.is-1 c.compare.ensures c.in-Alike.is c.same_arguments.ensures

pub same_arguments-returns-then-is_same : goal.same_arguments-returns-then-is_same
same_arguments-returns-then-is_same t c =
    inner-alike c.last_argument-last.ensures.answers.lasts c.last_argument-other.ensures.answers.lasts c.in-Some-Some.is-0 c.in-Some-Some.is-1 c.compare.ensures c.in-Inner.is c.is_same.ensures.answers c.if-is_same.true c.same_arguments-then-is_same.ensures

pub same_arguments-returns-else-is_same : goal.same_arguments-returns-else-is_same
same_arguments-returns-else-is_same t c =
    inner-differ c.last_argument-last.ensures.answers.lasts c.last_argument-other.ensures.answers.lasts c.in-Some-Some.is-0 c.in-Some-Some.is-1 c.compare.ensures c.in-Inner.is c.is_same.ensures.answers c.if-is_same.false

pub same_arguments-returns-in_default : goal.same_arguments-returns-in_default
same_arguments-returns-in_default t c =
    first-none c.last_argument-last.ensures.answers.lasts c.last_argument-other.ensures.answers.lasts c.in_default.is-0 c.in_default.is-1

pub same_arguments-returns-in_default-2 : goal.same_arguments-returns-in_default-2
same_arguments-returns-in_default-2 t c =
    second_none c.last_argument-last.ensures.answers.lasts c.last_argument-other.ensures.answers.lasts c.in_default.is-0 c.in_default.is-1
