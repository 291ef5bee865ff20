-- The matches of one depth, record by record: an argument or a match of another depth adds none, a match of the depth one.
use Rattle.std.specs.Prelude.{Some}
use mathlib.Core.Path.{◌≡◌, refl, sym, ap, ◌∙◌}
use mathlib.Core.List.{List, [], ◌∷◌}
use Prim.Native.Nat.{ℕ, ◌<◌}
use native.Mathlib.Omega.{arith}
use lib.ListN.{length, get_or}
use borrow.Author.Tests.{eq-eqb, ne_eqb}
use Rattle.readings.specs.Tree.{Tree}
use Rattle.pool.specs.declared.Record.{Record}
use Rattle.pool.specs.declared.Record.TheVariants.{Kept, Completed}
use Rattle.pool.specs.Log.{decode, Digits, depth_in}
use Rattle.pool.specs.Meaning.{none, Entry, argued, completed, tree_in, tree_at, entry_of, gathered, Stored, entries}
use Rattle.plain.proofs.Options.{none-ne-some, some_inj}
use Rattle.pool.proofs.Words.{log-length}
use Rattle.pool.proofs.Meanings.{meaning-length, entry_read}

pub entries-length : (store : List ℕ) (used : ℕ) → Stored store used → length (entries store used) ≡ used
entries-length store used s = meaning-length [] _ ∙ log-length store used (omega (arith, s.sized, s.room))

counted : (d n : ℕ) (t : Tree) (c : ℕ) (ms : List Entry) → n ≡ d → gathered d (completed n t c ∷ ms) ≡ (t, c) ∷ gathered d ms
unfolding gathered
counted d n t c ms w = rw (gathered, eq-eqb n d w)

module _ (store : List ℕ) (used : ℕ) (stored : Stored store used) where
  abbrev es : List Entry
  es = entries store used

  module _ (i : ℕ) (h : i < used) {x : Record} (is : x ≡ decode (get_or store i 0)) (digits : Digits x) where
    pub entry_here : get_or es i (argued none) ≡ entry_of es x
    entry_here = entry_read store used stored i h is digits

    pub ends_at : {d r k a e c : ℕ} → x ≡ Completed d r k a e c → get_or es i (argued none) ≡ completed d (tree_at es i) e
    unfolding tree_at
    ends_at {d} {e = e} y =
        let q = entry_here ∙ ap (entry_of es) y in
        q ∙ ap (λ t. completed d t e) (sym (ap tree_in q))

    -- an argument, or a match of another depth
    module _ (d : ℕ) where
      pub nothing-here : (depth_in x ≡ Some d → ⊥) → (ms : List Entry) → gathered d (get_or es i (argued none) ∷ ms) ≡ gathered d ms
      unfolding gathered
      nothing-here ne ms = ap (λ (y : Entry). gathered d (y ∷ ms)) entry_here ∙ go x refl
        where
          go : (y : Record) → x ≡ y → gathered d (entry_of es y ∷ ms) ≡ gathered d ms
          go (Kept a p m) e = refl
          go (Completed n r k a c m) e = rw (gathered, ne_eqb n d (λ q. ne (ap depth_in e ∙ ap Some q)))

      pub something-here : depth_in x ≡ Some d → (ms : List Entry) → (e : ℕ) × (gathered d (get_or es i (argued none) ∷ ms) ≡ (tree_at es i, e) ∷ gathered d ms)
      something-here q ms = go x refl
        where
          go : (y : Record) → x ≡ y → (e : ℕ) × (gathered d (get_or es i (argued none) ∷ ms) ≡ (tree_at es i, e) ∷ gathered d ms)
          go (Kept a p m) e = absurd (none-ne-some _ (sym (ap depth_in e) ∙ q))
          go (Completed n r k a c m) e = (c, ap (λ (y : Entry). gathered d (y ∷ ms)) (ends_at e) ∙ counted d n (tree_at es i) c ms (some_inj (sym (ap depth_in e) ∙ q)))
