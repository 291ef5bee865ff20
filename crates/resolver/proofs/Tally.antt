-- The pass that judges: what it has counted of the words passed. No count is above their number, so that none wraps.
use mathlib.Core.Path.{◌≡◌, refl}
use mathlib.Core.Bool.{Bool}
use mathlib.Core.List.{List}
use Prim.Native.Nat.{ℕ, ◌+◌, ◌≤◌, ◌<◌}
use native.Mathlib.Omega.{arith}
use mir.Val.{bool_byte}
use lib.ListN.{length, get_or, take}
use lib.Seq.{take_all}
use Rattle.plain.specs.Lists.{count}
use Rattle.resolver.specs.Outcome.{outcome_of, is_bad, is_guess, is_resolved, is_known}
use Rattle.resolver.specs.Passes.{Tallied}
use Rattle.plain.proofs.Passed.{at_most_one, counted-number, counted-image}

-- i words are passed
pub record Judging (ws : List ℕ) (i bad resolved known guesses : ℕ) : Type 0 where
  pub within : i ≤ length ws
  pub tally : Tallied (take i ws) bad resolved known guesses
  pub most : (bad ≤ i) × (resolved ≤ i) × (known ≤ i) × (guesses ≤ i)

pub none-judged : (ws : List ℕ) → Judging ws 0 0 0 0 0
unfolding count
none-judged ws =
    record {
      within = omega arith;
      tally = record { bads = refl; resolveds = refl; knowns = refl; guessings = refl };
      most = omega arith;
    }

module _ {ws : List ℕ} {i bad resolved known guesses : ℕ} (before : Judging ws i bad resolved known guesses) where
  -- one word more, by its tests
  pub one-judged :
      i < length ws → {b r k g : Bool} → b ≡ is_bad (get_or ws i 0) → r ≡ is_resolved (outcome_of (get_or ws i 0)) →
      k ≡ is_known (outcome_of (get_or ws i 0)) → g ≡ is_guess (outcome_of (get_or ws i 0)) →
      Judging ws (i + 1) (bad + bool_byte b) (resolved + bool_byte r) (known + bool_byte k) (guesses + bool_byte g)
  one-judged more {b} {r} {k} {g} is_b is-r is-k is-g =
      let counts = before.tally in
      record {
        within = omega arith;
        tally = record {
          bads = counted-number ws more is_bad counts.bads is_b;
          resolveds = counted-image ws more outcome_of is_resolved counts.resolveds is-r;
          knowns = counted-image ws more outcome_of is_known counts.knowns is-k;
          guessings = counted-image ws more outcome_of is_guess counts.guessings is-g;
        };
        most = omega (arith, before.most, at_most_one b, at_most_one r, at_most_one k, at_most_one g);
      }

  pub all-judged : length ws ≤ i → Tallied ws bad resolved known guesses
  all-judged past = rw (take_all i ws past) at before.tally
