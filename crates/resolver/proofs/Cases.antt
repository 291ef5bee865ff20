-- The five cases of an answer on a list of outcomes, each with the tests that decide it, and the answer in each.
use mathlib.Core.Path.{◌≡◌, refl, ◌∙◌}
use mathlib.Core.Logic.{◌⊎◌, inl, inr}
use mathlib.Core.Bool.{Bool, true, false, ◌&&◌}
use mathlib.Core.List.{List}
use Rattle.std.specs.Prelude.{None, Some}
use Prim.Native.Nat.{ℕ}
use lib.Dec.{ltb, eqb}
use lib.ListN.{length}
use Rattle.plain.specs.Lists.{count}
use Rattle.plain.proofs.Tests.{tested}
use Rattle.resolver.specs.Outcome.{Outcome, outcomes_of, is_resolved, is_known}
use Rattle.resolver.specs.Selection.{Selected, choice_of, refusal, tie, choice, answer_on, answer_of, selected}

-- the tests, in their order
abbrev pub none_resolved : List Outcome → Bool
none_resolved os = eqb (count is_resolved os) 0

abbrev pub none_known : List Outcome → Bool
none_known os = eqb (count is_known os) 0

abbrev pub is_tied : Bool → List Outcome → Bool
is_tied last os = last && ltb 1 (length (choice_of os))

abbrev pub is_short : List ℕ → List Outcome → Bool
is_short buffer os = ltb (length buffer) (length (choice_of os))

pub data Case (last : Bool) (buffer : List ℕ) (os : List Outcome) : Type 0 where
  case_11 : none_resolved os ≡ true → Case last buffer os
  case_12 : none_resolved os ≡ false → none_known os ≡ true → Case last buffer os
  case_13 : none_resolved os ≡ false → none_known os ≡ false → is_tied last os ≡ true → Case last buffer os
  case_14 :
      none_resolved os ≡ false → none_known os ≡ false → is_tied last os ≡ false → is_short buffer os ≡ true →
      Case last buffer os
  case_0 :
      none_resolved os ≡ false → none_known os ≡ false → is_tied last os ≡ false → is_short buffer os ≡ false →
      Case last buffer os

pub which : (last : Bool) (buffer : List ℕ) (os : List Outcome) → Case last buffer os
which last buffer os =
    go (tested (none_resolved os)) (tested (none_known os)) (tested (is_tied last os)) (tested (is_short buffer os))
  where
    go :
        (none_resolved os ≡ true) ⊎ (none_resolved os ≡ false) → (none_known os ≡ true) ⊎ (none_known os ≡ false) →
        (is_tied last os ≡ true) ⊎ (is_tied last os ≡ false) → (is_short buffer os ≡ true) ⊎ (is_short buffer os ≡ false) →
        Case last buffer os
    go (inl r) k t s = case_11 r
    go (inr r) (inl k) t s = case_12 r k
    go (inr r) (inr k) (inl t) s = case_13 r k t
    go (inr r) (inr k) (inr t) (inl s) = case_14 r k t s
    go (inr r) (inr k) (inr t) (inr s) = case_0 r k t s

-- an answer's number and count
abbrev pub told_by : Selected → ℕ × ℕ
told_by a = (a.number, a.count)

-- the buffer that it leaves
abbrev pub left_by : Selected → List ℕ
left_by a = a.buffer

module _ (ws : List ℕ) (last : Bool) (buffer : List ℕ) (os : List Outcome) where
  -- the answer in each case
  abbrev pub answer_in : Case last buffer os → Selected
  answer_in (case_11 r) = refusal ws buffer 11 0
  answer_in (case_12 r k) = refusal ws buffer 12 0
  answer_in (case_13 r k t) = tie buffer os
  answer_in (case_14 r k t s) = refusal ws buffer 14 (length (choice_of os))
  answer_in (case_0 r k t s) = choice buffer os

  pub answer-by : (c : Case last buffer os) → answer_on ws last buffer os ≡ answer_in c
  unfolding answer_on
  answer-by (case_11 r) = rw r
  answer-by (case_12 r k) = rw (r, k)
  answer-by (case_13 r k t) = rw (r, k, t)
  answer-by (case_14 r k t s) = rw (r, k, t, s)
  answer-by (case_0 r k t s) = rw (r, k, t, s)

  -- the answer on words that are a list of outcomes
  pub on-outcomes : outcomes_of ws ≡ Some os → selected ws last buffer ≡ answer_on ws last buffer os
  unfolding selected answer_of
  on-outcomes ok = rw ok

  pub in-case : outcomes_of ws ≡ Some os → (c : Case last buffer os) → selected ws last buffer ≡ answer_in c
  in-case ok c = on-outcomes ok ∙ answer-by c

-- the answer on a bad list
pub on-bad :
    (ws : List ℕ) (last : Bool) (buffer : List ℕ) → outcomes_of ws ≡ None →
    selected ws last buffer ≡ refusal ws buffer 10 0
unfolding selected answer_of
on-bad ws last buffer bad = rw bad

-- what the choice looks at in a list of outcomes
pub record SameChoice (os ps : List Outcome) : Type 0 where
  pub resolved : count is_resolved os ≡ count is_resolved ps
  pub known : count is_known os ≡ count is_known ps
  pub choices : choice_of os ≡ choice_of ps

-- where that is the same, the case is the same, and so are the number, the count and the buffer
module _ {os ps : List Outcome} (same : SameChoice os ps) {last : Bool} {buffer : List ℕ} where
  pub same_case : Case last buffer os → Case last buffer ps
  same_case (case_11 r) = case_11 (rw (← same.resolved) r)
  same_case (case_12 r k) = case_12 (rw (← same.resolved) r) (rw (← same.known) k)
  same_case (case_13 r k t) = case_13 (rw (← same.resolved) r) (rw (← same.known) k) (rw (← same.choices) t)
  same_case (case_14 r k t s) =
      case_14 (rw (← same.resolved) r) (rw (← same.known) k) (rw (← same.choices) t) (rw (← same.choices) s)
  same_case (case_0 r k t s) =
      case_0 (rw (← same.resolved) r) (rw (← same.known) k) (rw (← same.choices) t) (rw (← same.choices) s)

  pub same-told :
      (ws vs : List ℕ) (c : Case last buffer os) →
      (told_by (answer_in ws last buffer os c) ≡ told_by (answer_in vs last buffer ps (same_case c)))
      × (left_by (answer_in ws last buffer os c) ≡ left_by (answer_in vs last buffer ps (same_case c)))
  unfolding same_case
  same-told ws vs (case_11 r) = (refl, refl)
  same-told ws vs (case_12 r k) = (refl, refl)
  same-told ws vs (case_13 r k t) = (rw same.choices, refl)
  same-told ws vs (case_14 r k t s) = (rw same.choices, refl)
  same-told ws vs (case_0 r k t s) = (rw same.choices, rw same.choices)
