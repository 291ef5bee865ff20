-- The matches among the first records, record by record: an argument or a deeper match adds none, a match of depth 0
-- itself. The matches of the records so far are the first of all (`the_rest`), so what is known of all is known of them.
use Rattle.std.specs.Prelude.{Some}
use mathlib.Core.Path.{◌≡◌, refl, sym, ap, subst, ◌∙◌}
use mathlib.Core.List.Memᴰ
use mathlib.Core.List.{List, [], ◌∷◌, ◌++◌, map, map-append, append-nil, Memᴰ}
use Prim.Native.Nat.{ℕ, ◌+◌, ◌≤◌, ◌<◌}
use native.Mathlib.Omega.{arith}
use native.Mathlib.Numerals.{add-one}
use lib.ListN.{length, take, drop, get_or, take-append-drop}
use lib.Seq.{take-suc, take_all}
use Rattle.readings.specs.Tree.{Tree, moved}
use Rattle.readings.specs.Walk.{Match}
use Rattle.readings.specs.Scene.{scene_of}
use Rattle.readings.specs.Call.{tree}
use Rattle.readings.specs.Answer.{exact_count, tree_words}
use Rattle.readings.specs.Measure.{Fit}
use Rattle.pool.specs.Log.{decode, depth_in, count_in, log_of}
use Rattle.pool.specs.Meaning.{none, Entry, argued, tree_at, gathered, Stored, entries}
use Rattle.pool.specs.Counted.{Counted}
use Rattle.pool.proofs.Words.{digits}
use Rattle.pool.proofs.Meanings.{gathered-append}
use Rattle.pool.proofs.Gathers.{entries-length, nothing-here, something-here}
use Rattle.pool.proofs.Counts.{count-read}
use Rattle.trees.specs.Asked.{tree_length, TreeAsked}
use Rattle.answer.specs.Measured.{trees_in, trees_to, Bounded, FitFrom}

-- the matches of records one list after another
tops-append : (xs ys : List Entry) → map tree (gathered 0 (xs ++ ys)) ≡ map tree (gathered 0 xs) ++ map tree (gathered 0 ys)
tops-append xs ys = ap (map tree) (gathered-append 0 xs ys) ∙ map-append tree (gathered 0 xs) (gathered 0 ys)

module _ (store : List ℕ) (used : ℕ) where
  pub none_yet : trees_to store used 0 ≡ []
  unfolding trees_to gathered
  none_yet = refl

  pub the_rest : (i : ℕ) → (rest : List Tree) × (trees_in store used ≡ trees_to store used i ++ rest)
  unfolding trees_to
  the_rest i = (_, ap (λ (l : List Entry). map tree (gathered 0 l)) (sym (take-append-drop i (entries store used))) ∙ tops-append (take i (entries store used)) (drop i (entries store used)))

  module _ (stored : Stored store used) where
    pub all-passed : (i : ℕ) → used ≤ i → trees_to store used i ≡ trees_in store used
    unfolding trees_to
    all-passed i h = ap (λ (l : List Entry). map tree (gathered 0 l)) (take_all i (entries store used) (omega (arith, entries-length store used stored)))

    module _ (i : ℕ) (h : i < used) where
      next : trees_to store used (i + 1) ≡ trees_to store used i ++ map tree (gathered 0 (get_or (entries store used) i (argued none) ∷ []))
      unfolding trees_to
      next =
          ap (λ (l : List Entry). map tree (gathered 0 l))
          (ap (λ (n : ℕ). take n (entries store used)) (add-one i) ∙ take-suc (entries store used) i (argued none) (omega (arith, entries-length store used stored)))
          ∙ tops-append (take i (entries store used)) (get_or (entries store used) i (argued none) ∷ [])

      pub none_here : (depth_in (decode (get_or store i 0)) ≡ Some 0 → ⊥) → trees_to store used (i + 1) ≡ trees_to store used i
      unfolding gathered
      none_here ne =
          next
          ∙ ap (λ (l : List Match). trees_to store used i ++ map tree l) (nothing-here store used stored i h refl (digits (get_or store i 0)) 0 ne [])
          ∙ append-nil (trees_to store used i)

      module _ (top : depth_in (decode (get_or store i 0)) ≡ Some 0) where
        pub one-here : trees_to store used (i + 1) ≡ trees_to store used i ++ (tree_at (entries store used) i ∷ [])
        unfolding gathered
        one-here =
            let (e, g) = something-here store used stored i h refl (digits (get_or store i 0)) 0 top [] in
            next ∙ ap (λ (l : List Match). trees_to store used i ++ map tree l) g

        among : Memᴰ (tree_at (entries store used) i) (trees_in store used)
        among =
            let (rest, e) = the_rest (i + 1) in
            subst (Memᴰ (tree_at (entries store used) i)) (sym (e ∙ ap (λ (l : List Tree). l ++ rest) one-here))
            (Memᴰ.append_left rest (Memᴰ.append_right (trees_to store used i) (Memᴰ.head refl)))

        pub tree-fit : {base : ℕ} → FitFrom base store used → Fit (tree_words (moved base (tree_at (entries store used) i)))
        tree-fit fit = fit.each _ among

        -- the count that its record has is its own
        pub own-count : (t : List ℕ) → Counted (scene_of t [] []) (log_of store used) → {n : ℕ} → n ≡ count_in (decode (get_or store i 0)) → n ≡ exact_count (scene_of t [] []) (tree_at (entries store used) i)
        own-count t counted e = e ∙ count-read (scene_of t [] []) store used stored counted i h refl top

        module _ (t : List ℕ) (bounded : Bounded t store used) where
          pub few_words : length (tree_words (tree_at (entries store used) i)) ≤ 12288
          few_words = bounded.words _ among

          pub words-asked : TreeAsked tree_length 16777216 store used i
          words-asked = record { stored = stored; below = h; small = omega (arith, few_words) }
