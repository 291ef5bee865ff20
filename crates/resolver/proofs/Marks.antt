-- The marks. A pass that marks every word does what the definition says where an outcome is a guess; where none is, the
-- words stay, since words that are not bad are those of their outcomes.
use mathlib.Core.Path.{◌≡◌, refl, sym, ap₂, ◌∙◌}
use mathlib.Core.Bool.{true, false}
use mathlib.Core.List.{List, [], ◌∷◌, map}
use Prim.Native.Nat.{ℕ, ◌≤◌, ◌<◌}
use borrow.Author.Tests.{lt-ltb, le-ltb}
use Rattle.plain.specs.Lists.{some_of, count}
use Rattle.plain.proofs.Tests.{or-false-left, or-false-right}
use Rattle.resolver.specs.Outcome.{outcome_of, word_of, is_bad, is_guess, as_guess}
use Rattle.resolver.specs.Selection.{marked}
use Rattle.resolver.specs.Passes.{marked_word}
use Rattle.plain.proofs.Passed.{some-counted}
use Rattle.resolver.proofs.Words.{word-of-outcome, marked-word}

-- what holds of no words, and with one word more that is not bad, holds of words of which none is bad
pub each-good :
    (P : List ℕ → Type 0) → P [] → ((w : ℕ) (ws : List ℕ) → is_bad w ≡ false → P ws → P (w ∷ ws)) →
    (ws : List ℕ) → some_of is_bad ws ≡ false → P ws
unfolding some_of
each-good P none_of more [] good = none_of
each-good P none_of more (w ∷ ws) good =
    more w ws (or-false-left (is_bad w) (some_of is_bad ws) good)
    (each-good P none_of more ws (or-false-right (is_bad w) (some_of is_bad ws) good))

-- words that are not bad are those of their outcomes
pub words_of-outcomes : (ws : List ℕ) → some_of is_bad ws ≡ false → map word_of (map outcome_of ws) ≡ ws
words_of-outcomes =
    each-good (λ ws. map word_of (map outcome_of ws) ≡ ws) refl (λ w ws good. ap₂ ◌∷◌ (word-of-outcome w good))

-- marked words are those of the outcomes as guesses
marked-words : (ws : List ℕ) → some_of is_bad ws ≡ false → map marked_word ws ≡ map word_of (map as_guess (map outcome_of ws))
marked-words =
    each-good (λ ws. map marked_word ws ≡ map word_of (map as_guess (map outcome_of ws))) refl
    (λ w ws good. ap₂ ◌∷◌ (marked-word w good))

module _ (ws : List ℕ) {guesses : ℕ} (many : guesses ≡ count is_guess (map outcome_of ws)) where
  any-guess : 0 < guesses → some_of is_guess (map outcome_of ws) ≡ true
  any-guess some-guess = some-counted is_guess (map outcome_of ws) ∙ rw (← many) (lt-ltb 0 guesses some-guess)

  no-guess : guesses ≤ 0 → some_of is_guess (map outcome_of ws) ≡ false
  no-guess none-guess = some-counted is_guess (map outcome_of ws) ∙ rw (← many) (le-ltb 0 guesses none-guess)

  module _ (good : some_of is_bad ws ≡ false) where
    -- every word is marked if any outcome is a guess
    pub all-marked : 0 < guesses → map marked_word ws ≡ map word_of (marked (map outcome_of ws))
    unfolding marked
    all-marked some-guess = rw (any-guess some-guess) (marked-words ws good)

    -- and none else
    pub none-marked : guesses ≤ 0 → ws ≡ map word_of (marked (map outcome_of ws))
    unfolding marked
    none-marked none-guess = rw (no-guess none-guess) (sym (words_of-outcomes ws good))
