-- Demand 3 on the last pass. On a list of outcomes with room in the buffer: where one outcome is the only least, the
-- choice is that one; and where the answer is 0, the choice is one index, which is the only least.
use mathlib.Core.Path.{◌≡◌, refl, ap, ◌∙◌}
use mathlib.Core.Logic.{◌⊎◌, inl, inr}
use mathlib.Core.Bool.{Bool, true, false}
use mathlib.Core.List.Memᴰ
use mathlib.Core.List.{List, [], ◌∷◌, Memᴰ}
use Rattle.std.specs.Prelude.{Some, Result}
use Prim.Native.Nat.{ℕ, ◌≤◌, ◌<◌}
use native.Mathlib.Omega.{arith}
use borrow.Author.Tests.{ltb-false, le-ltb, eqb-false, ne_eqb}
use lib.ListN.{length, get_or, set}
use Rattle.plain.specs.Buffers.{at_start}
use Rattle.resolver.specs.Outcome.{Outcome, outcomes_of, is_resolved, is_known}
use Rattle.resolver.specs.Outcome.Outcome.{unresolved}
use Rattle.resolver.specs.Selection.{Selected, choice_of, answer_on, selected, selection_says, answered}
use Rattle.resolver.specs.LastPass.{OnlyLeast, LastPass, OnLastPass}
use Rattle.resolver.specs.declared.instruction.SelectError.{SelectError}
use Rattle.resolver.proofs.Words.{sized-known}
use Rattle.plain.proofs.Passed.{count_at}
use Rattle.resolver.proofs.Cases.{Case, none_known, is_tied, which, told_by, left_by, answer-by, on-outcomes}
use Rattle.resolver.proofs.Cases.Case.{case_11, case_12, case_13, case_14, case_0}
use Rattle.resolver.proofs.OnlyLeast.{some-chosen, chosen-alone, alone-chosen}

-- a list with a member and no second one
alone : (is : List ℕ) (i : ℕ) → Memᴰ i is → length is ≤ 1 → (k : ℕ) × (is ≡ k ∷ [])
alone [] i there short = absurd (Memᴰ.not-nil there)
alone (k ∷ []) i there short = (k, refl)
alone (k ∷ l ∷ is) i there short = absurd (omega arith)

-- one index at the start of a buffer with room
one_written : (buffer : List ℕ) (i : ℕ) → 0 < length buffer → at_start (i ∷ []) buffer ≡ set buffer 0 i
one_written [] i room = absurd (omega arith)
one_written (b ∷ buffer) i room = refl

module _ (os : List Outcome) where
  -- some are known and there is no tie on the last pass: one is the only least
  no-tie-alone : none_known os ≡ false → is_tied true os ≡ false → (i : ℕ) × OnlyLeast os i
  no-tie-alone known no_tie =
      let (i, there) = some-chosen os (eqb-false _ _ known) in
      let (j, only) = alone (choice_of os) i there (ltb-false 1 _ no_tie) in
      (j, chosen-alone os j only)

  module _ (ws buffer : List ℕ) (room : 0 < length buffer) where
    -- the only least is chosen, with its index
    only-chosen :
        (i : ℕ) → OnlyLeast os i →
        (told_by (answer_on ws true buffer os) ≡ (0, 1)) × (left_by (answer_on ws true buffer os) ≡ set buffer 0 i)
    unfolding is_resolved is_known
    only-chosen i only =
        let (resolved, known) = sized-known (get_or os i unresolved) only.known in
        let one = alone-chosen os i only in
        let answer = answer-by ws true buffer os (case_0
        (ne_eqb _ _ (count_at is_resolved os unresolved refl i resolved))
        (ne_eqb _ _ (count_at is_known os unresolved refl i known))
        (rw one)
        (rw one (le-ltb (length buffer) 1 room))) in (
          ap told_by answer ∙ rw one,
          ap left_by answer ∙ rw one (one_written buffer i room),
        )

module _
    (ws : List ℕ) (last : Bool) (buffer : List ℕ) (r : Result ℕ SelectError) {words after : List ℕ}
    (answer : answered r words after ≡ selected ws last buffer) (on-last : last ≡ true) (os : List Outcome)
    (accepted : outcomes_of ws ≡ Some os) (room : 0 < length buffer) where
  answer-is : answered r words after ≡ answer_on ws true buffer os
  answer-is = answer ∙ rw (on-last, on-outcomes ws true buffer os accepted)

  number_of : {a : Selected} → answer_on ws true buffer os ≡ a → (selection_says r).0 ≡ a.number
  number_of e = ap (λ (a : Selected). a.number) (answer-is ∙ e)

  -- what the promise of the whole call says of the last pass
  pub last-pass : LastPass os buffer r after
  last-pass =
      record {
        chooses = λ i only.
            let (says, writes) = only-chosen os ws buffer room i only in
            (ap told_by answer-is ∙ says, ap left_by answer-is ∙ writes);
        only_then = then (which true buffer os);
        otherwise = or_else (which true buffer os);
      }
    where
      then : Case true buffer os → (selection_says r).0 ≡ 0 → (i : ℕ) × OnlyLeast os i
      then (case_11 n) zero_is = absurd (omega (arith, number_of (answer-by ws true buffer os (case_11 n))))
      then (case_12 n k) zero_is = absurd (omega (arith, number_of (answer-by ws true buffer os (case_12 n k))))
      then (case_13 n k t) zero_is = absurd (omega (arith, number_of (answer-by ws true buffer os (case_13 n k t))))
      then (case_14 n k t s) zero_is = no-tie-alone os k t
      then (case_0 n k t s) zero_is = no-tie-alone os k t

      or_else :
          Case true buffer os → ((i : ℕ) → OnlyLeast os i → ⊥) →
          ((selection_says r).0 ≡ 11) ⊎ (((selection_says r).0 ≡ 12) ⊎ ((selection_says r).0 ≡ 13))
      or_else (case_11 n) None-only = inl (number_of (answer-by ws true buffer os (case_11 n)))
      or_else (case_12 n k) None-only = inr (inl (number_of (answer-by ws true buffer os (case_12 n k))))
      or_else (case_13 n k t) None-only = inr (inr (number_of (answer-by ws true buffer os (case_13 n k t))))
      or_else (case_14 n k t s) None-only = let (i, only) = no-tie-alone os k t in absurd (None-only i only)
      or_else (case_0 n k t s) None-only = let (i, only) = no-tie-alone os k t in absurd (None-only i only)

-- both promises of the call
abbrev pub Promised : List ℕ → Bool → List ℕ → Result ℕ SelectError → List ℕ → List ℕ → Type 0
Promised ws last buffer r words after =
    (answered r words after ≡ selected ws last buffer) × OnLastPass ws last buffer r after

pub promised :
    (ws : List ℕ) (last : Bool) (buffer : List ℕ) (r : Result ℕ SelectError) {words after : List ℕ} →
    answered r words after ≡ selected ws last buffer → Promised ws last buffer r words after
promised ws last buffer r answer = (answer, last-pass ws last buffer r answer)
