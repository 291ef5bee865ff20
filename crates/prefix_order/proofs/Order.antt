-- What the order is, in plain words: it has the top rules, each once, and of two neighbours the earlier has the lesser prefix,
-- or the same prefix and the lesser place in the table.
use mathlib.Core.Path.{◌≡◌, refl, sym, ap, subst, ◌∙◌}
use mathlib.Core.Logic.{◌⊎◌, inl, inr}
use mathlib.Core.Bool.{true}
use mathlib.Core.List.Memᴰ
use mathlib.Core.List.{List, [], ◌∷◌, map, Memᴰ}
use Prim.Native.Nat.{ℕ, suc, ◌%◌, ◌<◌}
use native.Mathlib.Omega.{arith}
use lib.ListN.{length, get_or, length-map, get_or-map}
use Rattle.plain.specs.Lists.{range, Apart}
use Rattle.plain.proofs.Members.{range-apart, kept-apart}
use Rattle.defs.specs.Table.{table_fits, records_in, rule_parts}
use Rattle.defs.specs.Ruledef.{is_top_rule}
use Rattle.ruledef_map.specs.RuledefMap.{rule_prefix, top_rules}
use Rattle.sorting.proofs.Insertions.{less-or-not, ascending-length}
use Rattle.sorting.proofs.Members.{member-at, ascending-has, ascending-only, ascending-next}
use Rattle.leads.specs.Leads.{key_of}
use Rattle.prefix_order.specs.PrefixOrder.{entry_of, entries, prefix_order}
use Rattle.prefix_order.proofs.Entries.{small_top, entry_place}

-- one entry stands before another by its rule's prefix, or by the rule's place
entry-before :
    (t : List ℕ) (a b : ℕ) → a < 512 → b < 512 → entry_of t a < entry_of t b →
    (key_of (rule_prefix (rule_parts t a)) < key_of (rule_prefix (rule_parts t b)))
    ⊎ ((key_of (rule_prefix (rule_parts t a)) ≡ key_of (rule_prefix (rule_parts t b))) × (a < b))
unfolding entry_of
entry-before t a b k l h =
    less-or-not (key_of (rule_prefix (rule_parts t a))) (key_of (rule_prefix (rule_parts t b))) (λ m. inl m)
    (λ m. inr (omega arith, omega arith))

module _ (t : List ℕ) (ok : table_fits t ≡ true) where
  pub order-length : length (prefix_order t) ≡ length (top_rules t)
  unfolding prefix_order entries
  order-length =
      length-map (entries t) (λ e. e % 512)
      ∙ ascending-length (map (entry_of t) (top_rules t))
      ∙ length-map (top_rules t) (entry_of t)

  -- a top rule's entry says which rule it is of
  entry-of : {e : ℕ} → Memᴰ e (entries t) → (i : ℕ) × Memᴰ i (top_rules t) × (entry_of t i ≡ e)
  unfolding entries
  entry-of m = Memᴰ.of_map (entry_of t) (top_rules t) (ascending-only (map (entry_of t) (top_rules t)) m)

  place_of : {e i : ℕ} → Memᴰ i (top_rules t) → entry_of t i ≡ e → i ≡ e % 512
  place_of {e} {i} m is = sym (entry_place t ok i (small_top t ok m)) ∙ ap (λ (n : ℕ). n % 512) is

  -- the top rules are in it
  pub order-has : {i : ℕ} → Memᴰ i (top_rules t) → Memᴰ i (prefix_order t)
  unfolding prefix_order entries
  order-has {i} m =
      subst (λ (n : ℕ). Memᴰ n (prefix_order t)) (entry_place t ok i (small_top t ok m))
      (Memᴰ.map (λ e. e % 512) (ascending-has (map (entry_of t) (top_rules t)) (Memᴰ.map (entry_of t) m)))

  -- and no other
  pub order-only : {i : ℕ} → Memᴰ i (prefix_order t) → Memᴰ i (top_rules t)
  unfolding prefix_order
  order-only {i} m =
      let (e, n, q) = Memᴰ.of_map (λ e. e % 512) (entries t) m in
      let (j, k, is) = entry-of n in
      subst (λ (a : ℕ). Memᴰ a (top_rules t)) (place_of k is ∙ q) k

  entries-apart : (xs : List ℕ) → ((i : ℕ) → Memᴰ i xs → i < 512) → Apart (λ (n : ℕ). n) xs → Apart (λ (n : ℕ). n) (map (entry_of t) xs)
  entries-apart [] small u = tt
  entries-apart (x ∷ xs) small u = (
    (λ y m e.
        let (z, n, q) = Memᴰ.of_map (entry_of t) xs m in
        u.0 z n (sym (entry_place t ok x (small x (Memᴰ.head refl))) ∙ ap (λ (k : ℕ). k % 512) (e ∙ sym q) ∙ entry_place t ok z (small z (Memᴰ.tail n)))),
    entries-apart xs (λ i m. small i (Memᴰ.tail m)) u.1,
  )

  top_apart : Apart (λ (n : ℕ). n) (top_rules t)
  unfolding top_rules
  top_apart = kept-apart (is_top_rule t) (λ (n : ℕ). n) (range 0 (records_in t)) (range-apart 0 (records_in t))

  entries_next : (j : ℕ) → suc j < length (entries t) → get_or (entries t) j 0 < get_or (entries t) (suc j) 0
  unfolding entries
  entries_next j l =
      ascending-next (map (entry_of t) (top_rules t)) (entries-apart (top_rules t) (λ i m. small_top t ok m) top_apart) j l

  at_place : (j : ℕ) → get_or (prefix_order t) j 0 ≡ get_or (entries t) j 0 % 512
  unfolding prefix_order
  at_place j = get_or-map (λ e. e % 512) (entries t) j 0

  -- neighbours
  pub order-next :
      (j : ℕ) → suc j < length (prefix_order t) →
      (key_of (rule_prefix (rule_parts t (get_or (prefix_order t) j 0))) < key_of (rule_prefix (rule_parts t (get_or (prefix_order t) (suc j) 0))))
      ⊎ ((key_of (rule_prefix (rule_parts t (get_or (prefix_order t) j 0))) ≡ key_of (rule_prefix (rule_parts t (get_or (prefix_order t) (suc j) 0)))) × (get_or (prefix_order t) j 0 < get_or (prefix_order t) (suc j) 0))
  unfolding prefix_order
  order-next j l =
      let long : length (prefix_order t) ≡ length (entries t) = length-map (entries t) (λ e. e % 512) in
      let (a, m, is) = entry-of (member-at (entries t) j (omega (arith, long))) in
      let (b, n, is') = entry-of (member-at (entries t) (suc j) (omega (arith, long))) in
      rw (at_place j, at_place (suc j), ← place_of m is, ← place_of n is')
      (entry-before t a b (small_top t ok m) (small_top t ok n) (rw (is, is') (entries_next j (omega (arith, long)))))
