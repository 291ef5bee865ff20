-- The inner matches of a nested step: those of one depth among the records that the step made, equal ones once. Whether one
-- is the same as an earlier one is asked of the records from the step's first on; each skipped or compared is one step along
-- a list of entries.
use Rattle.std.specs.Prelude.{Some, None}
use mathlib.Core.Path.{◌≡◌, sym, ap, subst, ◌∙◌}
use mathlib.Core.Bool.{Bool, true, false, not, ◌&&◌, ◌||◌}
use mathlib.Core.List.{List, [], ◌∷◌}
use Prim.Native.Nat.{ℕ, ◌+◌, ◌≤◌, ◌<◌}
use native.Mathlib.Omega.{arith}
use native.Mathlib.Numerals.{add-one}
use lib.Dec.{eqb}
use lib.ListN.{get_or}
use lib.Seq.{slice, slice_empty, slice-cons}
use borrow.Author.Tests.{eq-eqb, ne_eqb}
use Rattle.plain.specs.Choice.{select}
use Rattle.readings.specs.Tree.{same_tree}
use Rattle.readings.specs.Walk.{Match, any_same, same_match}
use Rattle.pool.specs.declared.Argument.{Argument}
use Rattle.pool.specs.declared.Record.{Record}
use Rattle.pool.specs.declared.Record.TheVariants.{Kept, Completed}
use Rattle.pool.specs.Log.{decode, Digits, MatchFits, depth_in, count_in}
use Rattle.pool.specs.Meaning.{none, Entry, argued, tree_at, entry_of, gathered, Stored, entries}
use Rattle.pool.proofs.Gathers.{entries-length, entry_here, ends_at, nothing-here, something-here}
use Rattle.walk.specs.Met.{made, fresh_of, InnerOf, new_match, no_match}

module _ (store : List ℕ) (used : ℕ) (stored : Stored store used) where
  abbrev es : List Entry
  es = entries store used

  -- ---- is it the same as an earlier one

  module _ (d m : ℕ) (below : m < used) where
    -- what is asked from record i on
    abbrev pub asked : ℕ → ℕ → Bool
    asked i e = any_same same_match (gathered d (made es i m)) (tree_at es m, e)

    module _ (i : ℕ) (h : i < m) {x : Record} (is : x ≡ decode (get_or store i 0)) (digits : Digits x) where
      opened : made es i m ≡ get_or es i (argued none) ∷ made es (i + 1) m
      opened = slice-cons i m es (argued none) h (omega (arith, entries-length store used stored)) ∙ ap (λ (n : ℕ). get_or es i (argued none) ∷ slice n m es) (sym (add-one i))

      pub skipped : (depth_in x ≡ Some d → ⊥) → (e : ℕ) → asked i e ≡ asked (i + 1) e
      skipped ne e = ap (λ (l : List Match). any_same same_match l (tree_at es m, e)) (ap (gathered d) opened ∙ nothing-here store used stored i (omega arith) is digits d ne (made es (i + 1) m))

      module _ (q : depth_in x ≡ Some d) {r : Bool} (same : r ≡ same_tree (tree_at es i) (tree_at es m)) where
        compared : (e : ℕ) → asked i e ≡ (r || asked (i + 1) e)
        unfolding any_same
        compared e =
            let (c, g) = something-here store used stored i (omega arith) is digits d q (made es (i + 1) m) in
            ap (λ (l : List Match). any_same same_match l (tree_at es m, e)) (ap (gathered d) opened ∙ g)
            ∙ ap (λ (b : Bool). b || asked (i + 1) e) (sym same)

        pub found-same : r ≡ true → (e : ℕ) → asked i e ≡ true
        found-same t e = compared e ∙ ap (λ (b : Bool). b || asked (i + 1) e) t

        pub found-other : r ≡ false → (e : ℕ) → asked i e ≡ asked (i + 1) e
        found-other t e = compared e ∙ ap (λ (b : Bool). b || asked (i + 1) e) t

    pub asked-none : (i e : ℕ) → m ≤ i → i ≤ m → asked i e ≡ false
    unfolding any_same gathered
    asked-none i e a b =
        let q : i ≡ m = omega arith in
        ap (λ (n : ℕ). asked n e) q ∙ ap (λ (l : List Entry). any_same same_match (gathered d l) (tree_at es m, e)) (slice_empty m es)

  -- ---- where an inner match ended

  module _ (d first m : ℕ) (below : m < used) {x : Record} (is : x ≡ decode (get_or store m 0)) (digits : Digits x) where
    abbrev found : Record
    found = decode (get_or store m 0)

    abbrev seen : List Match
    seen = gathered d (made es first m)

    pub inner-argument : {a : Argument} {p c : ℕ} → x ≡ Kept a p c → InnerOf d es first m found None
    inner-argument y = no_match (ap (fresh_of d seen) (entry_here store used stored m below is digits ∙ ap (entry_of es) y))

    module _ {n r k a e c : ℕ} (y : x ≡ Completed n r k a e c) where
      fresh-is : fresh_of d seen (get_or es m (argued none)) ≡ select (eqb n d && not (any_same same_match seen (tree_at es m, e))) ((tree_at es m, e) ∷ []) []
      fresh-is = ap (fresh_of d seen) (ends_at store used stored m below is digits y)

      pub inner-other : (n ≡ d → ⊥) → InnerOf d es first m found None
      inner-other ne = no_match (fresh-is ∙ ap (λ (b : Bool). select (b && not (any_same same_match seen (tree_at es m, e))) ((tree_at es m, e) ∷ []) []) (ne_eqb n d ne))

      module _ (q : n ≡ d) {s : Bool} (same : (z : ℕ) → s ≡ any_same same_match seen (tree_at es m, z)) where
        pub inner-same : s ≡ true → InnerOf d es first m found None
        inner-same t = no_match (fresh-is ∙ rw (eq-eqb n d q, sym (same e) ∙ t))

        pub inner-new : s ≡ false → InnerOf d es first m found (Some (record { end = e; count = c }))
        inner-new t =
            let f : MatchFits n r k a e c = subst Digits y digits in
            let counts : count_in found ≡ c = sym (ap count_in is) ∙ ap count_in y in
            subst (λ (b : ℕ). InnerOf d es first m found (Some (record { end = e; count = b }))) counts
            (new_match f.place (sym (ap depth_in is) ∙ ap depth_in y ∙ ap Some q) (fresh-is ∙ rw (eq-eqb n d q, sym (same e) ∙ t)))
