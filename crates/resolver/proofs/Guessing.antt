-- A guessing pass returns what the last pass would, or the tied ones: the two passes differ only in the test for a tie.
use mathlib.Core.Path.{◌≡◌, refl, sym, ◌∙◌}
use mathlib.Core.Logic.{◌⊎◌, inl, inr}
use mathlib.Core.Bool.{true, false}
use mathlib.Core.List.{List}
use Rattle.std.specs.Prelude.{Option, None, Some}
use Prim.Native.Nat.{ℕ, ◌≤◌, ◌<◌}
use borrow.Author.Tests.{ltb-true, ltb-false}
use lib.ListN.{length}
use Rattle.plain.proofs.Tests.{tested}
use Rattle.resolver.specs.Outcome.{Outcome, outcomes_of}
use Rattle.resolver.specs.Selection.{choice_of, refusal, tie, choice, selected}
use Rattle.resolver.proofs.Cases.{Case, is_short, which, in-case, on-bad}
use Rattle.resolver.proofs.Cases.Case.{case_11, case_12, case_13, case_14, case_0}

-- what a guessing pass answers, beside the last pass on the same words and buffer
pub data GuessingPass (ws buffer : List ℕ) : Type 0 where
  -- the same
  as_last : selected ws false buffer ≡ selected ws true buffer → GuessingPass ws buffer
  -- the last pass finds a tie: 0 and the tied ones, with the same count and marks
  the_tied :
      (os : List Outcome) → outcomes_of ws ≡ Some os → 1 < length (choice_of os) → length (choice_of os) ≤ length buffer →
      selected ws true buffer ≡ tie buffer os → selected ws false buffer ≡ choice buffer os →
      GuessingPass ws buffer
  -- the same, where they have no room: 14
  no_room_for_tied :
      (os : List Outcome) → outcomes_of ws ≡ Some os → 1 < length (choice_of os) → length buffer < length (choice_of os) →
      selected ws true buffer ≡ tie buffer os →
      selected ws false buffer ≡ refusal ws buffer 14 (length (choice_of os)) → GuessingPass ws buffer

pub guessing-pass : (ws buffer : List ℕ) → GuessingPass ws buffer
guessing-pass ws buffer = go (outcomes_of ws) refl
  where
    on : (os : List Outcome) → outcomes_of ws ≡ Some os → Case true buffer os → GuessingPass ws buffer
    on os ok (case_11 r) =
        as_last (in-case ws false buffer os ok (case_11 r) ∙ sym (in-case ws true buffer os ok (case_11 r)))
    on os ok (case_12 r k) =
        as_last (in-case ws false buffer os ok (case_12 r k) ∙ sym (in-case ws true buffer os ok (case_12 r k)))
    on os ok (case_13 r k t) = tied (tested (is_short buffer os))
      where
        tied : (is_short buffer os ≡ true) ⊎ (is_short buffer os ≡ false) → GuessingPass ws buffer
        tied (inl s) =
            no_room_for_tied os ok (ltb-true _ _ t) (ltb-true _ _ s) (in-case ws true buffer os ok (case_13 r k t))
            (in-case ws false buffer os ok (case_14 r k refl s))
        tied (inr s) =
            the_tied os ok (ltb-true _ _ t) (ltb-false _ _ s) (in-case ws true buffer os ok (case_13 r k t))
            (in-case ws false buffer os ok (case_0 r k refl s))
    on os ok (case_14 r k t s) =
        as_last (in-case ws false buffer os ok (case_14 r k refl s) ∙ sym (in-case ws true buffer os ok (case_14 r k t s)))
    on os ok (case_0 r k t s) =
        as_last (in-case ws false buffer os ok (case_0 r k refl s) ∙ sym (in-case ws true buffer os ok (case_0 r k t s)))

    go : (o : Option (List Outcome)) → outcomes_of ws ≡ o → GuessingPass ws buffer
    go None bad = as_last (on-bad ws false buffer bad ∙ sym (on-bad ws true buffer bad))
    go (Some os) ok = on os ok (which true buffer os)
