-- Sums that do not wrap: among the first records there are no more matches than records, and each kept one has at most
-- 12,288 words.
use mathlib.Core.Path.{◌≡◌, refl, sym, ap, subst, ◌∙◌}
use mathlib.Core.Bool.{Bool, true, false}
use mathlib.Core.List.Memᴰ
use mathlib.Core.List.{List, [], ◌∷◌, Memᴰ}
use Prim.Native.Nat.{ℕ, suc, ◌+◌, ◌*◌, ◌≤◌, ◌<◌}
use native.Mathlib.Omega.{arith}
use lib.Dec.{eqb}
use lib.ListN.{length, take, length-map, length-take, length-append}
use Rattle.plain.specs.Choice.{select}
use Rattle.plain.specs.Lists.{keep_if}
use Rattle.readings.specs.Tree.{Tree}
use Rattle.readings.specs.Scene.{scene_of}
use Rattle.readings.specs.Call.{tree}
use Rattle.readings.specs.Answer.{exact_count, greatest_count, best, tree_words, all_words, words_of}
use Rattle.readings.specs.Walk.{Match}
use Rattle.pool.specs.Meaning.{Entry, argued, completed, gathered_of, gathered, Stored, entries}
use Rattle.answer.specs.declared.Measure.{Measure}
use Rattle.answer.specs.Measured.{trees_in, trees_to, Bounded, measured}
use Rattle.answer.proofs.Tops.{the_rest, all-passed}
use Rattle.answer.proofs.Greatest.{below_all}

few-gathered : (d : ℕ) (es : List Entry) → length (gathered d es) ≤ length es
unfolding gathered
few-gathered d [] = omega arith
few-gathered d (x ∷ es) = one x (few-gathered d es)
  where
    chosen : (b : Bool) (p : Match) → length (gathered d es) ≤ length es → length (select b (p ∷ gathered d es) (gathered d es)) ≤ suc (length es)
    chosen true p h = omega arith
    chosen false p h = omega arith

    one : (y : Entry) → length (gathered d es) ≤ length es → length (gathered_of d y (gathered d es)) ≤ suc (length es)
    one (argued c) h = omega arith
    one (completed n t e) h = chosen (eqb n d) (t, e) h

module _ (f : Tree → Bool) where
  few-kept : (ts : List Tree) → length (keep_if f ts) ≤ length ts
  unfolding keep_if
  few-kept [] = omega arith
  few-kept (u ∷ ts) = go (f u) (few-kept ts)
    where
      go : (b : Bool) → length (keep_if f ts) ≤ length ts → length (select b (u ∷ keep_if f ts) (keep_if f ts)) ≤ suc (length ts)
      go true h = omega arith
      go false h = omega arith

  few_words : (n : ℕ) (ts : List Tree) → ((u : Tree) → Memᴰ u ts → length (tree_words u) ≤ n) → length (all_words (keep_if f ts)) ≤ n * length ts
  unfolding keep_if all_words
  few_words n [] h = omega arith
  few_words n (u ∷ ts) h = go (f u) (h u (Memᴰ.head refl)) (few_words n ts (λ v m. h v (Memᴰ.tail m)))
    where
      go : (b : Bool) → length (tree_words u) ≤ n → length (all_words (keep_if f ts)) ≤ n * length ts
          → length (all_words (select b (u ∷ keep_if f ts) (keep_if f ts))) ≤ n * suc (length ts)
      go true l k = omega (arith, length-append (tree_words u) (all_words (keep_if f ts)))
      go false l k = omega arith

module _ (t store : List ℕ) (used : ℕ) where
  module _ (i : ℕ) where
    abbrev is_best : Tree → Bool
    is_best u = eqb (exact_count (scene_of t [] []) u) (greatest_count (scene_of t [] []) (trees_to store used i))

    few-trees : length (trees_to store used i) ≤ i
    unfolding trees_to
    few-trees =
        omega (arith, length-map (gathered 0 (take i (entries store used))) tree, few-gathered 0 (take i (entries store used)), length-take i (entries store used))

    module _ {m : Measure} (is : m ≡ measured t (trees_to store used i)) where
      pub matches-fit : m.matches ≤ i
      unfolding measured best
      matches-fit = omega (arith, ap (λ (x : Measure). x.matches) is, few-kept is_best (trees_to store used i), few-trees)

      pub words-fit : Bounded t store used → m.words ≤ 2 + 12288 * i
      unfolding measured best words_of
      words-fit bounded =
          let (rest, e) = the_rest store used i in
          let each : ((u : Tree) → Memᴰ u (trees_to store used i) → length (tree_words u) ≤ 12288) = λ u m. bounded.words u (subst (Memᴰ u) (sym e) (Memᴰ.append_left rest m)) in
          omega (arith, ap (λ (x : Measure). x.words) is, few_words is_best 12288 (trees_to store used i) each, few-trees)

  -- the answer's first two words are small
  pub head-fits : Stored store used → Bounded t store used → {m : Measure} → m ≡ measured t (trees_in store used) → (m.matches < 65536) × (m.greatest < 65536)
  unfolding measured
  head-fits stored bounded is = (
    omega (arith, matches-fit used (is ∙ ap (measured t) (sym (all-passed store used stored used (omega arith)))), stored.room),
    omega (arith, ap (λ (x : Measure). x.greatest) is, below_all (scene_of t [] []) 65535 (trees_in store used) bounded.counts),
  )
