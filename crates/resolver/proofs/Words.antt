-- What an outcome word says. A word's kind is below 4, so a law over words is four cases; a word that is not bad is the
-- word of its outcome.
use mathlib.Core.Path.{◌≡◌, refl, sym, ap, ◌∙◌}
use mathlib.Core.Logic.{◌⊎◌, inl, inr}
use mathlib.Core.Bool.{Bool, true, false, ◌&&◌, ◌||◌}
use Rattle.std.specs.Prelude.{None, Some}
use Rattle.plain.proofs.Options.{none-ne-some}
use Prim.Native.Nat.{ℕ, zero, suc, ◌+◌, ◌-◌, ◌*◌, ◌%◌, ◌≤◌, ◌<◌}
use native.Mathlib.Omega.{arith}
use borrow.Author.Tests.{eq-eqb, ne_eqb, le-ltb, eqb-true, eqb-false, ltb-false, not-false}
use lib.Dec.{leb, eqb}
use Rattle.plain.specs.Choice.{select}
use Rattle.plain.proofs.Tests.{tested, not-both}
use Rattle.resolver.specs.Outcome.{Outcome, guess_in, kind_in, size_in, of_kind, outcome_of, is_bad, bit, word_of}
use Rattle.resolver.specs.Outcome.{is_guess, is_resolved, is_known, size_of, as_guess}
use Rattle.resolver.specs.Outcome.Outcome.{unresolved, failed, unknown, sized}
use Rattle.resolver.specs.Selection.{same_size, has_size}
use Rattle.resolver.specs.Passes.{marked_word}

-- what holds of the four kinds holds of a word's kind
each-kind : (P : ℕ → Type 0) → P 0 → P 1 → P 2 → P 3 → (k : ℕ) → k < 4 → P k
each-kind P a b c d zero l = a
each-kind P a b c d (suc zero) l = b
each-kind P a b c d (suc (suc zero)) l = c
each-kind P a b c d (suc (suc (suc zero))) l = d
each-kind P a b c d (suc (suc (suc (suc k)))) l = absurd (omega arith)

module _ (w : ℕ) where
  -- each with the equation of its kind
  by-kind-with :
      (P : ℕ → Type 0) → (kind_in w ≡ 0 → P 0) → (kind_in w ≡ 1 → P 1) → (kind_in w ≡ 2 → P 2) → (kind_in w ≡ 3 → P 3) →
      P (kind_in w)
  by-kind-with P a b c d = each-kind (λ k. kind_in w ≡ k → P k) a b c d (kind_in w) (omega arith) refl

  by_kind : (P : ℕ → Type 0) → P 0 → P 1 → P 2 → P 3 → P (kind_in w)
  by_kind P a b c d = each-kind P a b c d (kind_in w) (omega arith)

  -- what a word's kind tells of its outcome
  pub guess-by-kind : is_guess (outcome_of w) ≡ (eqb (kind_in w) 0 || guess_in w)
  unfolding outcome_of of_kind is_guess
  guess-by-kind = by_kind (λ k. is_guess (of_kind k (guess_in w) (size_in w)) ≡ (eqb k 0 || guess_in w)) refl refl refl refl

  pub resolved-by-kind : is_resolved (outcome_of w) ≡ leb 2 (kind_in w)
  unfolding outcome_of of_kind is_resolved
  resolved-by-kind = by_kind (λ k. is_resolved (of_kind k (guess_in w) (size_in w)) ≡ leb 2 k) refl refl refl refl

  pub known-by-kind : is_known (outcome_of w) ≡ eqb (kind_in w) 3
  unfolding outcome_of of_kind is_known
  known-by-kind = by_kind (λ k. is_known (of_kind k (guess_in w) (size_in w)) ≡ eqb k 3) refl refl refl refl

  pub size-by-kind : (n : ℕ) → has_size (Some n) (outcome_of w) ≡ (eqb (kind_in w) 3 && eqb n (size_in w))
  unfolding outcome_of of_kind size_of same_size has_size
  size-by-kind n =
      by_kind (λ k. has_size (Some n) (of_kind k (guess_in w) (size_in w)) ≡ (eqb k 3 && eqb n (size_in w)))
      refl refl refl refl

  -- a known word's size
  pub known-size : is_known (outcome_of w) ≡ true → size_of (outcome_of w) ≡ Some (size_in w)
  unfolding outcome_of of_kind size_of
  known-size known = rw (eqb-true (kind_in w) 3 (sym known-by-kind ∙ known))

  good-size : is_bad w ≡ false → is_known (outcome_of w) ≡ true → size_in w ≤ 65535
  unfolding is_bad
  good-size good known = ltb-false 65535 (size_in w) (rw (eqb-true (kind_in w) 3 (sym known-by-kind ∙ known)) at good)

  -- guess + 2·kind + 8·size
  parts : w ≡ w % 2 + 2 * kind_in w + 8 * size_in w
  parts = omega arith

  -- the bit of a word's guess
  bit-of : bit (guess_in w) ≡ w % 2
  bit-of = go (tested (guess_in w))
    where
      go : (guess_in w ≡ true) ⊎ (guess_in w ≡ false) → bit (guess_in w) ≡ w % 2
      go (inl set) = rw set (sym (eqb-true (w % 2) 1 set))
      go (inr unset) = rw unset (omega (arith, eqb-false (w % 2) 1 unset))

  -- a word that is not bad is the word of its outcome
  pub word-of-outcome : is_bad w ≡ false → word_of (outcome_of w) ≡ w
  unfolding is_bad outcome_of of_kind word_of
  word-of-outcome good =
      by-kind-with (λ k. word_of (of_kind k (guess_in w) (size_in w)) ≡ w)
      (λ k. sym (eqb-true w 0 (not-false _ (rw k at good))))
      (λ k. omega (arith, eqb-true (size_in w) 0 (not-false _ (rw k at good)), bit-of))
      (λ k. omega (arith, eqb-true (size_in w) 0 (not-false _ (rw k at good)), bit-of))
      (λ k. omega (arith, bit-of))

  -- and marked, it is the word of its outcome as a guess
  pub marked-word : is_bad w ≡ false → marked_word w ≡ word_of (as_guess (outcome_of w))
  unfolding is_bad marked_word outcome_of of_kind as_guess word_of
  marked-word good =
      by-kind-with (λ k. select (leb 1 k) (w - w % 2 + 1) w ≡ word_of (as_guess (of_kind k (guess_in w) (size_in w))))
      (λ k. eqb-true w 0 (not-false _ (rw k at good)))
      (λ k. omega (arith, eqb-true (size_in w) 0 (not-false _ (rw k at good))))
      (λ k. omega (arith, eqb-true (size_in w) 0 (not-false _ (rw k at good))))
      (λ k. omega (arith, k, parts))

-- the parts of a sized outcome's word
sized-parts :
    (g : Bool) (n : ℕ) →
    let w = bit g + 2 * 3 + 8 * n in (kind_in w ≡ 3) × (guess_in w ≡ g) × (size_in w ≡ n)
sized-parts true n = (omega arith, eq-eqb ((7 + 8 * n) % 2) 1 (omega arith), omega arith)
sized-parts false n = (omega arith, ne_eqb ((6 + 8 * n) % 2) 1 (omega arith), omega arith)

-- the outcome of an outcome's word is that outcome
pub outcome-of-word : (o : Outcome) → outcome_of (word_of o) ≡ o
unfolding outcome_of of_kind word_of
outcome-of-word unresolved = refl
outcome-of-word (failed true) = refl
outcome-of-word (failed false) = refl
outcome-of-word (unknown true) = refl
outcome-of-word (unknown false) = refl
outcome-of-word (sized g n) =
    let (kind, guess, size) = sized-parts g n in
    simp (kind, guess, size)

-- the word of an outcome whose size is at most 65,535 is not bad
pub good-word : (o : Outcome) → ((n : ℕ) → size_of o ≡ Some n → n ≤ 65535) → is_bad (word_of o) ≡ false
unfolding is_bad word_of size_of
good-word unresolved h = refl
good-word (failed true) h = refl
good-word (failed false) h = refl
good-word (unknown true) h = refl
good-word (unknown false) h = refl
good-word (sized g n) h =
    let (kind, guess, size) = sized-parts g n in
    simp (kind, size) (le-ltb 65535 n (h n refl))

-- a known outcome has a size, and any other has none
pub size-known : (o : Outcome) → is_known o ≡ true → (n : ℕ) × (size_of o ≡ Some n)
unfolding is_known size_of
size-known unresolved h = absurd (not-both h refl)
size-known (failed guess) h = absurd (not-both h refl)
size-known (unknown guess) h = absurd (not-both h refl)
size-known (sized guess size) h = (size, refl)

pub no_size : (o : Outcome) → is_known o ≡ false → size_of o ≡ None
unfolding is_known size_of
no_size unresolved h = refl
no_size (failed guess) h = refl
no_size (unknown guess) h = refl
no_size (sized guess size) h = absurd (not-both refl h)

-- an outcome with a size is resolved and known
pub sized-known : (o : Outcome) {n : ℕ} → size_of o ≡ Some n → (is_resolved o ≡ true) × (is_known o ≡ true)
unfolding is_resolved is_known size_of
sized-known unresolved {n} h = absurd (none-ne-some n h)
sized-known (failed guess) {n} h = absurd (none-ne-some n h)
sized-known (unknown guess) {n} h = absurd (none-ne-some n h)
sized-known (sized guess size) h = (refl, refl)

-- a known size is at most 65,535 in a word that is not bad
pub small_size : (w : ℕ) → is_bad w ≡ false → (n : ℕ) → size_of (outcome_of w) ≡ Some n → n ≤ 65535
small_size w good n size =
    let known = (sized-known (outcome_of w) size).1 in
    let same : size_in w ≡ n = cc (known-size w known) in
    omega (arith, good-size w good known)

-- a word is not bad exactly if it is the word of an outcome whose size is at most 65,535
pub record Spelt (w : ℕ) : Type 0 where
  pub outcome : Outcome
  pub word : word_of outcome ≡ w
  pub small : (n : ℕ) → size_of outcome ≡ Some n → n ≤ 65535

pub good-spelt : (w : ℕ) → is_bad w ≡ false → Spelt w
good-spelt w good = record { outcome = outcome_of w; word = word-of-outcome w good; small = small_size w good }

pub spelt-good : (w : ℕ) → Spelt w → is_bad w ≡ false
spelt-good w spelt = sym (ap is_bad spelt.word) ∙ good-word spelt.outcome spelt.small
