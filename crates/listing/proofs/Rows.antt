-- Words laid by the writing pass: those of a rule's fields, one by one.
use mathlib.Core.Path.{◌≡◌, refl, sym, ap, ◌∙◌, subst}
use mathlib.Core.List.{List, [], ◌∷◌, ◌++◌, flat_map}
use Rattle.std.specs.Prelude.{Option, Some}
use Prim.Native.Nat.{ℕ, ◌+◌, ◌≤◌, ◌<◌}
use native.Mathlib.Omega.{arith}
use lib.ListN.{length}
use Rattle.printing.specs.Listing.{Bytes}
use Rattle.fields.specs.Said.{said_word}
use Rattle.fields.proofs.Laying.{Laying}
use Rattle.listing.specs.Packing.{AllSaid, word_or_none, words_said}

module _ (s : ℕ) where
  pub said-none : {fs : List Bytes} → fs ≡ [] → words_said s fs ≡ []
  unfolding words_said flat_map
  said-none e = ap (words_said s) e

  pub said-next : {fs : List Bytes} (f : Bytes) (gs : List Bytes) (w : ℕ) → fs ≡ f ∷ gs → Some w ≡ said_word s f → words_said s fs ≡ (w ∷ []) ++ words_said s gs
  unfolding words_said flat_map
  said-next f gs w e h = ap (words_said s) e ∙ ap (λ (o : Option ℕ). word_or_none o ++ words_said s gs) (sym h)

  pub said-length : (fs : List Bytes) → AllSaid s fs → length (words_said s fs) ≡ length fs
  unfolding words_said flat_map
  said-length [] h = refl
  said-length (f ∷ fs) h = ap (λ (o : Option ℕ). length (word_or_none o ++ words_said s fs)) h.0.1 ∙ omega (arith, said-length fs h.1)

  -- the fields after the first say parts too
  pub said-tail : {fs gs : List Bytes} {f : Bytes} → fs ≡ f ∷ gs → AllSaid s fs → AllSaid s gs
  said-tail e h = (subst (AllSaid s) e h).1

  -- there is room for the next word
  pub said-room : (fs : List Bytes) (table₀ table rest ys : List ℕ) (from to w : ℕ) → from + length fs ≤ length table₀ → AllSaid s fs → rest ≡ (w ∷ []) ++ ys
      → Laying table₀ from (words_said s fs) table to rest → to < length table
  said-room fs table₀ table rest ys from to w room h e l =
      omega (arith, room, ap length e, l.room, l.long, said-length fs h)
