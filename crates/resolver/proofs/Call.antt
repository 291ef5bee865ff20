-- The answer of the whole call, case by case, from what its passes find: each law puts the tests that led there
-- together to a case of proofs/Cases.antt.
use mathlib.Core.Path.{◌≡◌, sym, ap, ◌∙◌}
use mathlib.Core.Bool.{Bool, true, false, ◌&&◌}
use mathlib.Core.List.{List, map}
use Rattle.std.specs.Prelude.{None, Some, Ok, Err}
use Prim.Native.Nat.{ℕ, ◌≤◌, ◌<◌}
use native.Mathlib.Omega.{arith}
use borrow.Author.Tests.{lt-ltb, le-ltb, eq-eqb, ne_eqb}
use lib.Dec.{ltb}
use lib.ListN.{length}
use lib.Seq.{take-length}
use Rattle.plain.specs.Buffers.{at_start}
use Rattle.plain.specs.Lists.{some_of, count}
use Rattle.resolver.specs.Outcome.{Outcome, outcome_of, outcomes_of, word_of, is_bad, is_guess, is_resolved}
use Rattle.resolver.specs.Outcome.Outcome.{unresolved}
use Rattle.resolver.specs.Selection.{marked, least_size, has_size, indices_of, choice_of, selected}
use Rattle.resolver.specs.Passes.{Tallied, Smallest}
use Rattle.resolver.specs.declared.instruction.Least.{Least}
use Rattle.resolver.specs.declared.instruction.SelectError.TheVariants.{BadList, NoneResolved, NoneKnown, Tied, NoRoom}
use Rattle.plain.proofs.Passed.{some-counted}
use Rattle.plain.proofs.Kept.{kept-counted}
use Rattle.resolver.proofs.Least.{known_least, least_known}
use Rattle.resolver.proofs.Cases.{Case, none_resolved, none_known, is_tied, answer_in, in-case, on-bad}
use Rattle.resolver.proofs.Cases.Case.{case_11, case_12, case_13, case_14, case_0}
use Rattle.resolver.proofs.LastPass.{Promised, promised}

-- what is known of words that were judged: they are a list of outcomes, and these are counted
pub record Judged (ws : List ℕ) (resolved guesses : ℕ) : Type 0 where
  pub few : length ws ≤ 4096
  pub good : some_of is_bad ws ≡ false
  pub resolveds : resolved ≡ count is_resolved (map outcome_of ws)
  pub guessings : guesses ≡ count is_guess (map outcome_of ws)

-- what is known once the least size has been sought: some outcomes are known
pub record Found (ws : List ℕ) (resolved guesses : ℕ) (least : Least) : Type 0 where
  pub judged : Judged ws resolved guesses
  pub some_resolved : resolved ≡ 0 → ⊥
  pub smallest : Smallest (map outcome_of ws) (Some least)

pub none-bad :
    {ws : List ℕ} {bad resolved known guesses : ℕ} → length ws ≤ 4096 → Tallied ws bad resolved known guesses → bad ≤ 0 →
    Judged ws resolved guesses
none-bad {ws} few tally none_of =
    record {
      few = few;
      good = rw (some-counted is_bad ws, ← tally.bads, le-ltb _ _ none_of);
      resolveds = tally.resolveds;
      guessings = tally.guessings;
    }

-- as many are chosen as have the least size
choice-length : (os : List Outcome) → length (choice_of os) ≡ count (has_size (least_size os)) os
unfolding choice_of indices_of
choice-length os =
    kept-counted (has_size (least_size os)) os unresolved (length os) (omega arith)
    ∙ ap (count (has_size (least_size os))) (take-length os)

module _ {ws : List ℕ} {resolved guesses : ℕ} {least : Least} (found : Found ws resolved guesses least) where
  times-is : length (choice_of (map outcome_of ws)) ≡ least.count
  times-is = choice-length (map outcome_of ws) ∙ sym found.smallest.many

  -- the indices of the least size are the choice
  indices-are : choice_of (map outcome_of ws) ≡ indices_of (Some least.size) (map outcome_of ws)
  unfolding choice_of
  indices-are = rw (← found.smallest.least)

  -- where as many as were found have room, so have they
  pub room_for : {n : ℕ} → least.count ≤ n → length (indices_of (Some least.size) (map outcome_of ws)) ≤ n
  room_for room = omega (arith, ap length indices-are, times-is)

module _ (ws : List ℕ) (last : Bool) (buffer : List ℕ) where
  bad-list : outcomes_of ws ≡ None → Promised ws last buffer (Err BadList) ws buffer
  bad-list bad = promised ws last buffer (Err BadList) (sym (on-bad ws last buffer bad))

  -- 10: too many words
  pub too_many : 4096 < length ws → Promised ws last buffer (Err BadList) ws buffer
  unfolding outcomes_of
  too_many many = bad-list (rw (lt-ltb _ _ many))

  -- 10: a bad word
  pub bad-word :
      length ws ≤ 4096 → {bad resolved known guesses : ℕ} → Tallied ws bad resolved known guesses → 0 < bad →
      Promised ws last buffer (Err BadList) ws buffer
  unfolding outcomes_of
  bad-word few tally some-bad =
      bad-list (rw (le-ltb _ _ few, some-counted is_bad ws, ← tally.bads, lt-ltb _ _ some-bad))

  module _ {resolved guesses : ℕ} (fine : Judged ws resolved guesses) where
    outcomes : outcomes_of ws ≡ Some (map outcome_of ws)
    unfolding outcomes_of
    outcomes = rw (le-ltb _ _ fine.few, fine.good)

    answer :
        (c : Case last buffer (map outcome_of ws)) → answer_in ws last buffer (map outcome_of ws) c ≡ selected ws last buffer
    answer c = sym (in-case ws last buffer (map outcome_of ws) outcomes c)

    -- 11
    pub none-resolved : resolved ≡ 0 → Promised ws last buffer (Err NoneResolved) ws buffer
    none-resolved none_of =
        promised ws last buffer (Err NoneResolved) (answer (case_11 (rw (← fine.resolveds) (eq-eqb _ _ none_of))))

    resolved-test : (resolved ≡ 0 → ⊥) → none_resolved (map outcome_of ws) ≡ false
    resolved-test some-of-them = rw (← fine.resolveds) (ne_eqb _ _ some-of-them)

    -- 12
    pub none-known :
        (resolved ≡ 0 → ⊥) → Smallest (map outcome_of ws) None → Promised ws last buffer (Err NoneKnown) ws buffer
    none-known some-of-them unsized =
        promised ws last buffer (Err NoneKnown)
        (answer (case_12 (resolved-test some-of-them) (eq-eqb _ _ (known_least _ (sym unsized.least)))))

  module _ {resolved guesses : ℕ} {least : Least} (found : Found ws resolved guesses least) where
    known-test : none_known (map outcome_of ws) ≡ false
    known-test = ne_eqb _ _ (least_known _ _ (sym found.smallest.least))

    -- 13: two or more on the last pass
    pub tie-on-last :
        last ≡ true → ltb 1 least.count ≡ true → {after : List ℕ} → after ≡ map word_of (marked (map outcome_of ws)) →
        Promised ws last buffer (Err (Tied least.count)) after buffer
    tie-on-last on-last two marks =
        promised ws last buffer (Err (Tied least.count))
        (rw (marks, ← times-is found)
        (answer found.judged
        (case_13 (resolved-test found.judged found.some_resolved) known-test (rw (on-last, times-is found) two))))

    module _ (no_tie : (last && ltb 1 least.count) ≡ false) where
      tie-test : is_tied last (map outcome_of ws) ≡ false
      tie-test = rw (times-is found) no_tie

      -- 14
      pub no_room : length buffer < least.count → Promised ws last buffer (Err (NoRoom least.count)) ws buffer
      no_room less =
          promised ws last buffer (Err (NoRoom least.count))
          (rw (← times-is found)
          (answer found.judged
          (case_14 (resolved-test found.judged found.some_resolved) known-test tie-test
          (rw (times-is found) (lt-ltb _ _ less)))))

      -- 0
      pub chosen :
          least.count ≤ length buffer → {after written : List ℕ} → after ≡ map word_of (marked (map outcome_of ws)) →
          written ≡ at_start (indices_of (Some least.size) (map outcome_of ws)) buffer →
          Promised ws last buffer (Ok least.count) after written
      chosen room marks writes =
          promised ws last buffer (Ok least.count)
          (rw (marks, writes, ← indices-are found, ← times-is found)
          (answer found.judged
          (case_0 (resolved-test found.judged found.some_resolved) known-test tie-test
          (rw (times-is found) (le-ltb _ _ room)))))
