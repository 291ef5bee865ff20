-- Matches with the greatest count, one match more: a lesser count changes nothing, an equal one adds the match, a greater
-- one leaves it alone. Of no matches the greatest count is 0 and none is kept, so these three cases hold of the first match
-- too: an equal count, 0, adds it to none.
use mathlib.Core.Path.{◌≡◌, refl, sym, ap, ap₂, ◌∙◌}
use mathlib.Core.List.{List, [], ◌∷◌, ◌++◌, append-nil, append_assoc, Memᴰ}
use Prim.Native.Nat.{ℕ, ◌+◌, max, ◌≤◌, ◌<◌}
use native.Mathlib.Omega.{arith}
use lib.Dec.{eqb}
use lib.ListN.{length, length-append}
use borrow.Author.Tests.{eq-eqb, ne_eqb}
use Rattle.plain.specs.Lists.{keep_if}
use Rattle.plain.proofs.Lists.{keep_if-append}
use Rattle.readings.specs.Tree.{Tree}
use Rattle.readings.specs.Scene.{Scene, scene_of}
use Rattle.readings.specs.Answer.{exact_count, greatest, greatest_count, best, tree_words, all_words, words_of}
use Rattle.answer.specs.declared.Measure.{Measure}
use Rattle.answer.specs.Measured.{measured}

module _ (s : Scene) where
  -- the matches with one count
  abbrev pub with_count : ℕ → List Tree → List Tree
  with_count n ts = keep_if (λ t. eqb (exact_count s t) n) ts

  greatest-more : (ts : List Tree) (u : Tree) → greatest_count s (ts ++ (u ∷ [])) ≡ max (greatest_count s ts) (exact_count s u)
  unfolding greatest_count greatest
  greatest-more [] u = omega arith
  greatest-more (t ∷ ts) u = omega (arith, greatest-more ts u)

  pub with_count-append : (n : ℕ) (ts us : List Tree) → with_count n (ts ++ us) ≡ with_count n ts ++ with_count n us
  with_count-append n ts us = keep_if-append (λ t. eqb (exact_count s t) n) ts us

  module _ (n : ℕ) (ts : List Tree) (u : Tree) where
    pub kept : exact_count s u ≡ n → with_count n (ts ++ (u ∷ [])) ≡ with_count n ts ++ (u ∷ [])
    unfolding keep_if
    kept e = with_count-append n ts (u ∷ []) ∙ rw (keep_if, eq-eqb (exact_count s u) n e)

    pub dropped : (exact_count s u ≡ n → ⊥) → with_count n (ts ++ (u ∷ [])) ≡ with_count n ts
    unfolding keep_if
    dropped e = with_count-append n ts (u ∷ []) ∙ rw (keep_if, ne_eqb (exact_count s u) n e) (append-nil _)

  -- no match has more than the greatest count
  none_above : (n : ℕ) (ts : List Tree) → greatest_count s ts < n → with_count n ts ≡ []
  unfolding greatest_count greatest keep_if
  none_above n [] h = refl
  none_above n (t ∷ ts) h = rw (keep_if, ne_eqb (exact_count s t) n (omega arith)) (none_above n ts (omega arith))

  -- a bound of every count is one of the greatest
  pub below_all : (n : ℕ) (ts : List Tree) → ((u : Tree) → Memᴰ u ts → exact_count s u ≤ n) → greatest_count s ts ≤ n
  unfolding greatest_count greatest
  below_all n [] h = omega arith
  below_all n (t ∷ ts) h = omega (arith, h t (Memᴰ.head refl), below_all n ts (λ u m. h u (Memᴰ.tail m)))

-- ---- words

pub words_append : (ts us : List Tree) → all_words (ts ++ us) ≡ all_words ts ++ all_words us
unfolding all_words
words_append [] us = refl
words_append (t ∷ ts) us = ap (λ (l : List ℕ). tree_words t ++ l) (words_append ts us) ∙ sym (append_assoc (tree_words t) (all_words ts) (all_words us))

pub words_more : (ts : List Tree) (u : Tree) → all_words (ts ++ (u ∷ [])) ≡ all_words ts ++ tree_words u
unfolding all_words
words_more ts u = words_append ts (u ∷ []) ∙ ap (λ (l : List ℕ). all_words ts ++ l) (append-nil (tree_words u))

-- ---- the measure, one match more

alike : {a b c a' b' c' : ℕ} → a ≡ a' → b ≡ b' → c ≡ c'
    → ◌≡◌ {A = Measure} (record { matches = a; greatest = b; words = c }) (record { matches = a'; greatest = b'; words = c' })
alike p q r = cc

module _ (t : List ℕ) where
  pub none-measured : ◌≡◌ {A = Measure} (record { matches = 0; greatest = 0; words = 2 }) (measured t [])
  unfolding measured greatest_count greatest best keep_if words_of all_words
  none-measured = refl

  abbrev s : Scene
  s = scene_of t [] []

  module _ (ts : List Tree) (u : Tree) {all : List Tree} (more : all ≡ ts ++ (u ∷ [])) {m : Measure} (is : m ≡ measured t ts) {n : ℕ} (counted : n ≡ exact_count s u) where
    so-far : m.greatest ≡ greatest_count s ts
    unfolding measured
    so-far = ap (λ (x : Measure). x.greatest) is

    pub less-added : n < m.greatest → m ≡ measured t all
    unfolding measured best
    less-added h =
        let g = so-far in
        let stays : greatest_count s (ts ++ (u ∷ [])) ≡ greatest_count s ts = omega (arith, greatest-more s ts u) in
        let same : best s (ts ++ (u ∷ [])) ≡ best s ts = ap (λ (k : ℕ). with_count s k (ts ++ (u ∷ []))) stays ∙ dropped s (greatest_count s ts) ts u (omega arith) in
        is ∙ sym (alike (ap length same) stays (ap₂ (λ (k : ℕ) (l : List Tree). length (words_of k l)) stays same)) ∙ ap (measured t) (sym more)

    module _ {w : ℕ} (long : w ≡ length (tree_words u)) where
      pub same-added : n ≡ m.greatest → ◌≡◌ {A = Measure} (record { matches = m.matches + 1; greatest = n; words = m.words + w }) (measured t all)
      unfolding measured best words_of
      same-added h =
          let g = so-far in
          let stays : greatest_count s (ts ++ (u ∷ [])) ≡ greatest_count s ts = omega (arith, greatest-more s ts u) in
          let adds : best s (ts ++ (u ∷ [])) ≡ best s ts ++ (u ∷ []) = ap (λ (k : ℕ). with_count s k (ts ++ (u ∷ []))) stays ∙ kept s (greatest_count s ts) ts u (omega arith) in
          alike
          (omega (arith, ap (λ (x : Measure). x.matches) is, ap length adds, length-append (best s ts) (u ∷ [])))
          (omega arith)
          (omega (arith, ap (λ (x : Measure). x.words) is, ap (λ (l : List Tree). length (all_words l)) adds, ap length (words_more (best s ts) u), length-append (all_words (best s ts)) (tree_words u)))
          ∙ ap (measured t) (sym more)

      pub greater-added : m.greatest ≤ n → (n ≡ m.greatest → ⊥) → ◌≡◌ {A = Measure} (record { matches = 1; greatest = n; words = 2 + w }) (measured t all)
      unfolding measured best words_of all_words
      greater-added ge ne =
          let g = so-far in
          let above : greatest_count s ts < n = omega (arith, ne) in
          let rises : greatest_count s (ts ++ (u ∷ [])) ≡ n = omega (arith, greatest-more s ts u) in
          let alone : best s (ts ++ (u ∷ [])) ≡ u ∷ [] = ap (λ (k : ℕ). with_count s k (ts ++ (u ∷ []))) rises ∙ kept s n ts u (sym counted) ∙ ap (λ (l : List Tree). l ++ (u ∷ [])) (none_above s n ts above) in
          alike
          (sym (ap length alone))
          (sym rises)
          (omega (arith, ap (λ (l : List Tree). length (all_words l)) alone, ap length (words_more [] u)))
          ∙ ap (measured t) (sym more)
