-- A call on what a call leaves gives the same answer: the words that it leaves are those of the marked outcomes, marks
-- leave the choice and are made once, and the indices are written where they stand.
use mathlib.Core.Path.{◌≡◌, refl, sym, ap, ap₂, ◌∙◌}
use mathlib.Core.Logic.{◌⊎◌, inl, inr}
use mathlib.Core.Bool.{Bool, true, false, ◌||◌}
use mathlib.Core.List.{List, [], ◌∷◌, ◌++◌, map}
use Rattle.std.specs.Prelude.{Option, None, Some}
use Rattle.plain.proofs.Options.{none-ne-some}
use Prim.Native.Nat.{ℕ, ◌≤◌}
use native.Mathlib.Omega.{arith}
use borrow.Author.Tests.{ltb-false}
use lib.Dec.{ltb}
use lib.ListN.{length, drop, length-append, length-drop, length-map}
use lib.Seq.{drop-append_seam}
use Rattle.plain.specs.Buffers.{at_start}
use Rattle.plain.specs.Choice.{select}
use Rattle.plain.specs.Lists.{some_of}
use Rattle.plain.proofs.Tests.{tested, or-false-left, or-false-right}
use Rattle.resolver.specs.Outcome.{Outcome, outcome_of, outcomes_of, word_of, is_bad, is_guess, as_guess}
use Rattle.resolver.specs.Selection.{marked, choice_of, refusal, selected}
use Rattle.resolver.proofs.Words.{outcome-of-word, good-word, small_size}
use Rattle.resolver.proofs.Marks.{each-good, words_of-outcomes}
use Rattle.resolver.proofs.Guesses.{as-guess, marked-choice, marked-twice}
use Rattle.resolver.proofs.Cases.{Case, SameChoice, which, answer_in, in-case, on-bad}
use Rattle.resolver.proofs.Cases.Case.{case_11, case_12, case_13, case_14, case_0}

-- what an accepted list is
pub accepted :
    (ws : List ℕ) (os : List Outcome) → outcomes_of ws ≡ Some os →
    (ltb 4096 (length ws) ≡ false) × (some_of is_bad ws ≡ false) × (map outcome_of ws ≡ os)
unfolding outcomes_of
accepted ws os ok = go (tested (ltb 4096 (length ws) || some_of is_bad ws))
  where
    go :
        ((ltb 4096 (length ws) || some_of is_bad ws) ≡ true) ⊎ ((ltb 4096 (length ws) || some_of is_bad ws) ≡ false) →
        (ltb 4096 (length ws) ≡ false) × (some_of is_bad ws ≡ false) × (map outcome_of ws ≡ os)
    go (inl bad) = absurd (none-ne-some os (rw bad at ok))
    go (inr good) =
        let same : map outcome_of ws ≡ os = cc (rw good at ok) in
        (or-false-left _ (some_of is_bad ws) good, or-false-right (ltb 4096 (length ws)) _ good, same)

-- the words of outcomes as guesses are good
good-as : (w : ℕ) → is_bad w ≡ false → is_bad (word_of (as_guess (outcome_of w))) ≡ false
good-as w good =
    good-word (as_guess (outcome_of w)) (λ n size. small_size w good n (sym (as-guess (outcome_of w)).same_size ∙ size))

all-good : (ws : List ℕ) → some_of is_bad ws ≡ false → some_of is_bad (map word_of (map as_guess (map outcome_of ws))) ≡ false
unfolding some_of
all-good =
    each-good (λ ws. some_of is_bad (map word_of (map as_guess (map outcome_of ws))) ≡ false) refl
    (λ w ws good rest. rw (good-as w good) rest)

-- the outcomes of outcomes' words are those outcomes
all-outcomes : (os : List Outcome) → map outcome_of (map word_of os) ≡ os
all-outcomes [] = refl
all-outcomes (o ∷ os) = ap₂ ◌∷◌ (outcome-of-word o) (all-outcomes os)

-- so the words that are left are a list of outcomes, the marked ones
module _
    (ws : List ℕ) (os : List Outcome) (few : ltb 4096 (length ws) ≡ false) (good : some_of is_bad ws ≡ false)
    (same : map outcome_of ws ≡ os) where
  guesses-again : outcomes_of (map word_of (map as_guess os)) ≡ Some (map as_guess os)
  unfolding outcomes_of
  guesses-again =
      rw (
        ← same,
        all-outcomes (map as_guess (map outcome_of ws)),
        all-good ws good,
        length-map (map as_guess (map outcome_of ws)) word_of,
        length-map (map outcome_of ws) as_guess,
        length-map ws outcome_of,
        few,
      )

  outcomes-again : outcomes_of (map word_of os) ≡ Some os
  unfolding outcomes_of
  outcomes-again = rw (← same, words_of-outcomes ws good, few, good)

  marked-again : outcomes_of (map word_of (marked os)) ≡ Some (marked os)
  unfolding marked
  marked-again = go (some_of is_guess os)
    where
      go : (b : Bool) → outcomes_of (map word_of (select b (map as_guess os) os)) ≡ Some (select b (map as_guess os) os)
      go true = guesses-again
      go false = outcomes-again

-- indices are written where they stand
written-again : (buffer is : List ℕ) → at_start is (at_start is buffer) ≡ at_start is buffer
written-again buffer is = ap (λ (l : List ℕ). is ++ l) (drop-append_seam is (drop (length is) buffer))

written-length : (buffer is : List ℕ) → length is ≤ length buffer → length (at_start is buffer) ≡ length buffer
written-length buffer is room =
    omega (arith, length-append is (drop (length is) buffer), length-drop (length is) buffer)

module _ (ws : List ℕ) (last : Bool) (buffer : List ℕ) where
  -- a call on what this call leaves
  Again : Type 0
  Again = selected (selected ws last buffer).words last (selected ws last buffer).buffer ≡ selected ws last buffer

  -- a refusal leaves what it was given
  refused-again : {number many : ℕ} → selected ws last buffer ≡ refusal ws buffer number many → Again
  unfolding Again
  refused-again e = rw e e

  module _ (os : List Outcome) (ok : outcomes_of ws ≡ Some os) where
    same : SameChoice (marked os) os
    same = marked-choice os

    ok-again : outcomes_of (map word_of (marked os)) ≡ Some (marked os)
    ok-again = let (few, good, outcomes) = accepted ws os ok in marked-again ws os few good outcomes

    answer : (c : Case last buffer os) → selected ws last buffer ≡ answer_in ws last buffer os c
    answer c = in-case ws last buffer os ok c

    answer-again :
        (after : List ℕ) (c : Case last after (marked os)) →
        selected (map word_of (marked os)) last after ≡ answer_in (map word_of (marked os)) last after (marked os) c
    answer-again after c = in-case (map word_of (marked os)) last after (marked os) ok-again c

    again-in : Case last buffer os → Again
    unfolding Again
    again-in (case_11 r) = refused-again (answer (case_11 r))
    again-in (case_12 r k) = refused-again (answer (case_12 r k))
    again-in (case_13 r k t) =
        rw (answer (case_13 r k t))
        (answer-again buffer (case_13 (rw same.resolved r) (rw same.known k) (rw same.choices t))
        ∙ rw (same.choices, marked-twice))
    again-in (case_14 r k t s) = refused-again (answer (case_14 r k t s))
    again-in (case_0 r k t s) =
        let room = written-length buffer (choice_of os) (ltb-false (length buffer) (length (choice_of os)) s) in
        rw (answer (case_0 r k t s))
        (answer-again (at_start (choice_of os) buffer) (case_0 (rw same.resolved r) (rw same.known k)
        (rw same.choices t) (rw (same.choices, room) s))
        ∙ rw (same.choices, marked-twice, written-again))

  -- a call on what a call leaves gives the same answer, and leaves the same
  pub again : selected (selected ws last buffer).words last (selected ws last buffer).buffer ≡ selected ws last buffer
  unfolding Again
  again = go (outcomes_of ws) refl
    where
      go : (o : Option (List Outcome)) → outcomes_of ws ≡ o → Again
      go None bad = refused-again (on-bad ws last buffer bad)
      go (Some os) ok = again-in os ok (which last buffer os)
