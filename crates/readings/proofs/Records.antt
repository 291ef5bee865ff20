-- The rules that the code tries, as places of records, are those that the scene tries, as pairs of ruleset and number,
-- one for one and in the same order. The records of an accepted table stand ruleset by ruleset: those before where
-- ruleset m + 1 begins are those before where m begins, and then m's own. So by induction on the rulesets passed, the
-- top records before where m begins are the pairs of the top rulesets below m; where the last ruleset ends, these are
-- all. A ruleset's own records are all top or none, and their places, less where the ruleset begins, are the numbers
-- from 0 on. The rest are the bounds of an accepted table that the code's indices lean on.
use mathlib.Core.Path.{◌≡◌, refl, sym, ap, ap₂, ◌∙◌, subst}
use mathlib.Core.Logic.{inl, inr}
use mathlib.Core.Bool.{Bool, true, false, ◌&&◌}
use mathlib.Core.List.Memᴰ
use mathlib.Core.List.{List, [], ◌∷◌, ◌++◌, map, flat_map, append-nil, append_assoc, map-append, Memᴰ}
use Prim.Native.Nat.{ℕ, zero, suc, ◌+◌, ◌-◌, ◌≤◌, ◌<◌, min}
use native.Mathlib.Nat.{add-zero, zero-add, add-suc, suc-add}
use native.Mathlib.Numerals.{add-one}
use native.Mathlib.Decide.{ℕ_discrete, dec_lt}
use native.Mathlib.Omega.{arith}
use lib.Dec.{eqb, leb, ltb}
use lib.ListN.{length, take}
use borrow.Author.Tests.{eqb-true, eq-eqb, leb-true, ltb-true, lt-ltb}
use Rattle.plain.specs.Choice.{select}
use Rattle.plain.specs.Lists.{range, keep_if, listed}
use Rattle.plain.proofs.Tests.{and_left, and_right}
use Rattle.plain.proofs.Below.{every-at, count-all, count_most}
use Rattle.plain.proofs.Lists.{keep_if-append, kept_more, kept-length, listed_at, flat-same}
use Rattle.plain.proofs.Members.{range-from, range-below, range-has, kept-mem, kept-has}
use Rattle.defs.specs.Table.{word_at, rulesets_in, records_in, parts_in, parts_from, ruleset_at, first_at, count_at, part_word_at, part_of, rule_from, rule_span, rule_parts}
use Rattle.defs.specs.Table.{table_fits, sizes_fit, length_fits, flags_fit, rulesets_fit, range_fits, ranges_fit, counts_fit, parameters_fit, is_part, parts_fit}
use Rattle.defs.specs.Ruledef.{records_of, is_top, is_top_rule, rules_in, begins_at}
use Rattle.ruledef_map.specs.RuledefMap.{rule_prefix, same_bytes, top_rules, with_prefix, found_in, found_rules, mark_of}
use Rattle.defs.specs.declared.ruledef.Part.{Part}
use Rattle.defs.specs.declared.ruledef.Part.TheVariants.{Nested}
use Rattle.std.specs.declared.ops.Range.{Range}
use Rattle.defs.proofs.Words.{part-exact, part-whitespace, part-expression, part-nested}
use Rattle.defs.proofs.Fits.{Sizes, sizes-bound, part-ruleset}
use Rattle.defs.proofs.Starts.{begins-first, begins-next, ruleset-below, records-together, rule-at, rules-length}
use Rattle.ruledef_map.proofs.Orders.{below-room, marks-found}
use Rattle.readings.specs.Scene.{scene_of}
use Rattle.readings.specs.Walk.{top_pairs}
use Rattle.readings.specs.Lookup.{parts_of, found_pairs}
use Rattle.readings.specs.Records.{pair_of}

-- ---- lists: ranges, and what a test keeps

range_split : (a m n : ℕ) → range a (m + n) ≡ range a m ++ range (a + m) n
unfolding range
range_split a zero n = ap₂ range (sym (add-zero a)) (zero-add n)
range_split a (suc m) n =
    ap (range a) (suc-add m n)
    ∙ ap (λ (l : List ℕ). a ∷ l) (range_split (suc a) m n ∙ ap (λ (k : ℕ). range (suc a) m ++ range k n) (suc-add a m ∙ sym (add-suc a m)))

module _ {A : Type 0} where
  -- two functions that agree on the numbers of a range, one of them d further on
  range_moved : (g h : ℕ → A) (d a n : ℕ) → ((k : ℕ) → a ≤ k → k < a + n → g (d + k) ≡ h k) → map g (range (d + a) n) ≡ map h (range a n)
  unfolding range
  range_moved g h d a zero e = refl
  range_moved g h d a (suc n) e =
      ap₂ ◌∷◌ (e a (omega arith) (omega arith))
      (ap (λ (k : ℕ). map g (range k n)) (sym (add-suc d a)) ∙ range_moved g h d (suc a) n (λ k l m. e k (omega arith) (omega arith)))

  -- a test that says the same of every member keeps all or none
  kept-alike : (f : A → Bool) (b : Bool) (xs : List A) → ((x : A) → Memᴰ x xs → f x ≡ b) → keep_if f xs ≡ select b xs []
  unfolding keep_if
  kept-alike f true [] e = refl
  kept-alike f false [] e = refl
  kept-alike f b (x ∷ xs) e = ap₂ (λ (c : Bool) (l : List A). select c (x ∷ l) l) (e x (Memᴰ.head refl)) (kept-alike f b xs (λ y m. e y (Memᴰ.tail m))) ∙ go b
    where
      go : (c : Bool) → select c (x ∷ select c xs []) (select c xs []) ≡ select c (x ∷ xs) []
      go true = refl
      go false = refl

module _ {A B : Type 0} where
  flat_append : (f : A → List B) (xs ys : List A) → flat_map f (xs ++ ys) ≡ flat_map f xs ++ flat_map f ys
  unfolding flat_map
  flat_append f [] ys = refl
  flat_append f (x ∷ xs) ys = ap (λ (l : List B). f x ++ l) (flat_append f xs ys) ∙ sym (append_assoc (f x) (flat_map f xs) (flat_map f ys))

  -- a member of joined lists is a member of one of them
  flat-mem : (f : A → List B) (xs : List A) {y : B} → Memᴰ y (flat_map f xs) → (x : A) × Memᴰ y (f x)
  unfolding flat_map
  flat-mem f [] m = absurd (Memᴰ.not-nil m)
  flat-mem f (x ∷ xs) m = elim (Memᴰ.append_cases (f x) m) [ inl i ↦ (x, i) | inr j ↦ flat-mem f xs j ]

  -- what a test keeps of members that were mapped
  pub kept_map : (g : B → Bool) (h : A → Bool) (to : A → B) (xs : List A) → ((x : A) → Memᴰ x xs → g (to x) ≡ h x) → keep_if g (map to xs) ≡ map to (keep_if h xs)
  unfolding keep_if
  kept_map g h to [] e = refl
  kept_map g h to (x ∷ xs) e = go (h x) (e x (Memᴰ.head refl)) (kept_map g h to xs (λ y m. e y (Memᴰ.tail m)))
    where
      go : (c : Bool) → g (to x) ≡ c → keep_if g (map to xs) ≡ map to (keep_if h xs)
          → select (g (to x)) (to x ∷ keep_if g (map to xs)) (keep_if g (map to xs)) ≡ map to (select c (x ∷ keep_if h xs) (keep_if h xs))
      go true q ih = ap₂ (λ (t : Bool) (l : List B). select t (to x ∷ l) l) q ih
      go false q ih = ap₂ (λ (t : Bool) (l : List B). select t (to x ∷ l) l) q ih

flat-map : {A B C : Type 0} (to : B → C) (f : A → List B) (xs : List A) → map to (flat_map f xs) ≡ flat_map (λ x. map to (f x)) xs
unfolding flat_map
flat-map to f [] = refl
flat-map {C = C} to f (x ∷ xs) = map-append to (f x) (flat_map f xs) ∙ ap (λ (l : List C). map to (f x) ++ l) (flat-map to f xs)

-- ---- a part word that names a ruleset

nested-word : (w r : ℕ) → part_of w ≡ Nested r → (512 ≤ w) × (r ≡ w - 512)
nested-word w r e = go (dec_lt w 256) (ℕ_discrete w 256) (dec_lt w 512)
  where
    go : Dec (w < 256) → Dec (w ≡ 256) → Dec (w < 512) → (512 ≤ w) × (r ≡ w - 512)
    go (yes h) d k = let z : ◌≡◌ {A = ℕ} 0 1 = cc (part-exact w w refl h) in absurd (omega arith)
    go (no h) (yes d) k = let z : ◌≡◌ {A = ℕ} 0 1 = cc (part-whitespace w w refl d) in absurd (omega arith)
    go (no h) (no d) (yes k) = let z : ◌≡◌ {A = ℕ} 0 1 = cc (part-expression w w refl (omega (arith, h)) d k) in absurd (omega arith)
    go (no h) (no d) (no k) = (omega (arith, k), cc (part-nested w w refl (omega (arith, h)) d (omega (arith, k))))

-- where the parts of a rule stand: within the table's part words, and at most 64
pub record Spanned (t : List ℕ) (p : Range ℕ) : Type 0 where
  pub from : parts_from t ≤ p.start
  pub ordered : p.start ≤ p.end
  pub within : p.end ≤ length t
  pub few : p.end - p.start ≤ 64

-- ---- the sentences of acceptance

module _ (t : List ℕ) (ok : table_fits t ≡ true) where
  sizes : Sizes (rulesets_in t) (records_in t) (parts_in t)
  unfolding table_fits sizes_fit
  sizes = sizes-bound (rulesets_in t) (records_in t) (parts_in t) (and_left (sizes_fit t) _ ok)

  length-is : length t ≡ parts_from t + parts_in t
  unfolding table_fits length_fits
  length-is = eqb-true (length t) (parts_from t + parts_in t) (and_left (length_fits t) _ (and_right (sizes_fit t) _ ok))

  from-rulesets : (rulesets_fit t && ((ranges_fit t && counts_fit t) && (parameters_fit t && parts_fit t))) ≡ true
  unfolding table_fits
  from-rulesets = and_right (flags_fit t) _ (and_right (length_fits t) _ (and_right (sizes_fit t) _ ok))

  rulesets-fit : rulesets_fit t ≡ true
  rulesets-fit = and_left (rulesets_fit t) _ from-rulesets

  ranges-fit : ranges_fit t ≡ true
  ranges-fit = and_left (ranges_fit t) _ (and_left (ranges_fit t && counts_fit t) _ (and_right (rulesets_fit t) _ from-rulesets))

  parts-fit : parts_fit t ≡ true
  parts-fit = and_right (parameters_fit t) _ (and_right (ranges_fit t && counts_fit t) _ (and_right (rulesets_fit t) _ from-rulesets))

  -- ---- the records of a ruleset

  -- those before where the last ruleset ends are all
  all-begun : begins_at t (rulesets_in t) ≡ records_in t
  unfolding begins_at
  all-begun =
      count-all (records_in t) (λ i. ltb (ruleset_at t i) (rulesets_in t))
      (λ i l. lt-ltb (ruleset_at t i) (rulesets_in t) (ruleset-below t rulesets-fit i l))

  -- the records from where ruleset r begins, as many as it has, are of r
  owned : (r i : ℕ) → Memᴰ i (range (begins_at t r) (rules_in t r)) → ruleset_at t i ≡ r
  unfolding records_of
  owned r i m =
      eqb-true (ruleset_at t i) r
      (kept-mem (λ i. eqb (ruleset_at t i) r) (range 0 (records_in t)) (rw (← records-together t rulesets-fit r) at m)).1

  -- and record i is among those of its own ruleset
  among : (i : ℕ) → i < records_in t → Memᴰ i (range (begins_at t (ruleset_at t i)) (rules_in t (ruleset_at t i)))
  unfolding records_of
  among i h =
      subst (Memᴰ i) (records-together t rulesets-fit (ruleset_at t i))
      (kept-has (λ j. eqb (ruleset_at t j) (ruleset_at t i)) (range 0 (records_in t)) (eq-eqb (ruleset_at t i) (ruleset_at t i) refl) (range-has 0 (records_in t) i (omega arith) (omega arith)))

  pair-at : (r k : ℕ) → k < rules_in t r → pair_of t (begins_at t r + k) ≡ (r, k)
  unfolding pair_of
  pair-at r k h =
      let less : begins_at t r + k - begins_at t r ≡ k = omega arith in
      ap (λ (q : ℕ). (q, begins_at t r + k - begins_at t q)) (owned r (begins_at t r + k) (range-has (begins_at t r) (rules_in t r) (begins_at t r + k) (omega arith) (omega arith)))
      ∙ ap (λ (n : ℕ). (r, n)) less

  pairs-of : (r : ℕ) → map (pair_of t) (range (begins_at t r) (rules_in t r)) ≡ map (λ k. (r, k)) (range 0 (rules_in t r))
  pairs-of r =
      ap (λ (n : ℕ). map (pair_of t) (range n (rules_in t r))) (sym (add-zero (begins_at t r)))
      ∙ range_moved (pair_of t) (λ k. (r, k)) (begins_at t r) 0 (rules_in t r) (λ k l m. pair-at r k (omega arith))

  -- ---- the top rules, ruleset by ruleset

  abbrev pairs_of : ℕ → List (ℕ × ℕ)
  pairs_of r = map (λ k. (r, k)) (range 0 (rules_in t r))

  -- one ruleset more: its pairs if it is top, else none
  one_more : (r : ℕ) → map (pair_of t) (keep_if (is_top_rule t) (range (begins_at t r) (rules_in t r))) ≡ flat_map pairs_of (select (is_top t r) (r ∷ []) [])
  unfolding is_top_rule flat_map
  one_more r =
      ap (map (pair_of t)) (kept-alike (is_top_rule t) (is_top t r) (range (begins_at t r) (rules_in t r)) (λ i m. ap (is_top t) (owned r i m)))
      ∙ go (is_top t r)
    where
      go : (b : Bool) → map (pair_of t) (select b (range (begins_at t r) (rules_in t r)) []) ≡ flat_map pairs_of (select b (r ∷ []) [])
      go true = pairs-of r ∙ sym (append-nil (pairs_of r))
      go false = refl

  tops-below : (m : ℕ) → flat_map pairs_of (keep_if (is_top t) (range 0 m)) ≡ map (pair_of t) (keep_if (is_top_rule t) (range 0 (begins_at t m)))
  unfolding flat_map keep_if range
  tops-below zero = sym (ap (λ (n : ℕ). map (pair_of t) (keep_if (is_top_rule t) (range 0 n))) (begins-first t))
  tops-below (suc m) =
      ap (λ (n : ℕ). flat_map pairs_of (keep_if (is_top t) (range 0 n))) (sym (add-one m))
      ∙ ap (flat_map pairs_of) (kept_more m (is_top t))
      ∙ flat_append pairs_of (keep_if (is_top t) (range 0 m)) (select (is_top t m) (m ∷ []) [])
      ∙ ap₂ (λ (a b : List (ℕ × ℕ)). a ++ b) (tops-below m) (sym (one_more m))
      ∙ sym
      (ap (λ (n : ℕ). map (pair_of t) (keep_if (is_top_rule t) (range 0 n))) (begins-next t m)
      ∙ ap (λ (l : List ℕ). map (pair_of t) (keep_if (is_top_rule t) l)) (range_split 0 (begins_at t m) (rules_in t m) ∙ ap (λ (n : ℕ). range 0 (begins_at t m) ++ range n (rules_in t m)) (zero-add (begins_at t m)))
      ∙ ap (map (pair_of t)) (keep_if-append (is_top_rule t) (range 0 (begins_at t m)) (range (begins_at t m) (rules_in t m)))
      ∙ map-append (pair_of t) (keep_if (is_top_rule t) (range 0 (begins_at t m))) (keep_if (is_top_rule t) (range (begins_at t m) (rules_in t m))))

module _ (t line sheet : List ℕ) (ok : table_fits t ≡ true) where
  -- ---- where rulesets begin, and the record of a pair

  pub begins-order : (r : ℕ) → begins_at t r ≤ begins_at t (r + 1)
  begins-order r = omega (arith, ap (begins_at t) (add-one r), begins-next t r)

  rules-many : (r : ℕ) → rules_in t r ≡ begins_at t (r + 1) - begins_at t r
  rules-many r = omega (arith, ap (begins_at t) (add-one r), begins-next t r)

  -- a record stands among those of its ruleset
  pub pair-within : (i : ℕ) → i < records_in t → (begins_at t (ruleset_at t i) ≤ i) × (i < begins_at t (ruleset_at t i + 1)) × (ruleset_at t i < 32)
  pair-within i h =
      let m = among t ok i h in (
        range-from (begins_at t (ruleset_at t i)) (rules_in t (ruleset_at t i)) m,
        omega (arith, range-below (begins_at t (ruleset_at t i)) (rules_in t (ruleset_at t i)) m, rules-many (ruleset_at t i), begins-order (ruleset_at t i)),
        omega (arith, ruleset-below t (rulesets-fit t ok) i h, (sizes t ok).sets),
      )

  -- and those from where a ruleset begins to where the next one does are of it
  pub set-of : (r i : ℕ) → begins_at t r ≤ i → i < begins_at t (r + 1) → ruleset_at t i ≡ r
  set-of r i low high = owned t ok r i (range-has (begins_at t r) (rules_in t r) i low (omega (arith, rules-many r)))

  pub begins-last : begins_at t (rulesets_in t) ≡ records_in t
  begins-last = all-begun t ok

  pub few-sets : rulesets_in t ≤ 32
  few-sets = (sizes t ok).sets

  -- the scene's rules of a ruleset, and their parts, are those of its records
  pub rules-range : (r : ℕ) → (scene_of t line sheet).rules r ≡ range 0 (begins_at t (r + 1) - begins_at t r)
  unfolding scene_of
  rules-range r = ap (range 0) (rules-length t (rulesets-fit t ok) r ∙ rules-many r)

  pub rule-parts : (r k : ℕ) → k < begins_at t (r + 1) - begins_at t r → (scene_of t line sheet).parts r k ≡ rule_parts t (begins_at t r + k)
  unfolding scene_of
  rule-parts r k h = rule-at t (rulesets-fit t ok) r k (omega (arith, rules-many r))

  pub pair_parts : (i : ℕ) → i < records_in t → (scene_of t line sheet).parts (pair_of t i).0 (pair_of t i).1 ≡ rule_parts t i
  unfolding pair_of
  pair_parts i h =
      let (low, high, _) = pair-within i h in
      let back : begins_at t (ruleset_at t i) + (i - begins_at t (ruleset_at t i)) ≡ i = omega arith in
      rule-parts (ruleset_at t i) (i - begins_at t (ruleset_at t i)) (omega arith) ∙ ap (rule_parts t) back

  -- ---- the rules to try, in their order

  pub top-pairs : top_pairs (scene_of t line sheet) ≡ map (pair_of t) (top_rules t)
  unfolding top_pairs top_rules scene_of
  top-pairs =
      ap (λ (rules : ℕ → ℕ). flat_map (λ r. map (λ k. (r, k)) (range 0 (rules r))) (keep_if (is_top t) (range 0 (rulesets_in t)))) (λ j r. rules-length t (rulesets-fit t ok) r j)
      ∙ tops-below t ok (rulesets_in t)
      ∙ ap (λ (n : ℕ). map (pair_of t) (keep_if (is_top_rule t) (range 0 n))) (all-begun t ok)

  pub top_below : {i : ℕ} → Memᴰ i (top_rules t) → i < records_in t
  unfolding top_rules
  top_below m = omega (arith, range-below 0 (records_in t) (kept-mem (is_top_rule t) (range 0 (records_in t)) m).0)

  -- of each prefix, the scene keeps the pairs of the records that the table keeps: their parts are the same
  with-pairs : (q : List ℕ) → with_prefix (parts_of (scene_of t line sheet)) (top_pairs (scene_of t line sheet)) q ≡ map (pair_of t) (with_prefix (rule_parts t) (top_rules t) q)
  unfolding with_prefix
  with-pairs q =
      ap (keep_if (λ x. same_bytes (rule_prefix (parts_of (scene_of t line sheet) x)) q)) top-pairs
      ∙ kept_map (λ x. same_bytes (rule_prefix (parts_of (scene_of t line sheet) x)) q) (λ i. same_bytes (rule_prefix (rule_parts t i)) q) (pair_of t) (top_rules t)
      (λ i m. ap (λ (ps : List Part). same_bytes (rule_prefix ps) q) (pair_parts i (top_below m)))

  pub found-pairs : (p : List ℕ) → found_pairs (scene_of t line sheet) p ≡ map (pair_of t) (found_rules t p)
  unfolding found_in
  found-pairs p =
      flat-same (λ j. with_prefix (parts_of (scene_of t line sheet)) (top_pairs (scene_of t line sheet)) (take j p)) (λ j. map (pair_of t) (with_prefix (rule_parts t) (top_rules t) (take j p)))
      (suc (length p)) (λ j l. with-pairs (take j p))
      ∙ sym (flat-map (pair_of t) (λ j. with_prefix (rule_parts t) (top_rules t) (take j p)) (range 0 (suc (length p))))

  pub found_below : {i : ℕ} (p : List ℕ) → Memᴰ i (found_rules t p) → i < records_in t
  unfolding found_in with_prefix
  found_below p m =
      let (j, n) = flat-mem (λ j. with_prefix (rule_parts t) (top_rules t) (take j p)) (range 0 (suc (length p))) m in
      top_below (kept-mem (λ i. same_bytes (rule_prefix (rule_parts t i)) (take j p)) (top_rules t) n).0

  -- ---- how many, and how far

  pub few-records : records_in t ≤ 512
  few-records = (sizes t ok).rules

  pub top-many : length (top_rules t) ≤ 512
  unfolding top_rules
  top-many = omega (arith, kept-length (records_in t) (is_top_rule t), count_most (records_in t) (is_top_rule t), few-records)

  -- a lookup marks each record once
  pub found-many : (p : List ℕ) → length p ≤ 4 → length (found_rules t p) ≤ 512
  found-many p h =
      let marks = listed (records_in t) (mark_of t p) in
      omega (arith, ap length (marks-found t p marks h (listed_at (records_in t) (mark_of t p))), below-room marks (records_in t) 5, few-records)

  -- a part that names a ruleset names one that the table has
  pub nested-few : (j r : ℕ) → parts_from t ≤ j → j < length t → part_of (word_at t j) ≡ Nested r → r < 32
  unfolding parts_fit part_word_at
  nested-few j r h k e =
      let (high, is) = nested-word (word_at t j) r e in
      let at : parts_from t + (j - parts_from t) ≡ j = omega arith in
      let good = every-at (parts_in t) (λ k. is_part (rulesets_in t) (part_word_at t k)) (parts-fit t ok) (j - parts_from t) (omega (arith, length-is t ok)) in
      let below = part-ruleset (rulesets_in t) (word_at t j) (omega arith) (λ q. omega arith) (λ q. omega arith) high ∙ ap (λ (n : ℕ). is_part (rulesets_in t) (word_at t n)) (sym at) ∙ good in
      omega (arith, ltb-true (word_at t j - 512) (rulesets_in t) below, (sizes t ok).sets)

  pub span-within : (i : ℕ) → i < records_in t → (p : Range ℕ) → p ≡ rule_span t i → Spanned t p
  unfolding ranges_fit range_fits rule_span rule_from
  span-within i h p e =
      let good = every-at (records_in t) (range_fits t) (ranges-fit t ok) i h in
      let ends = leb-true (first_at t i + count_at t i) (parts_in t) (and_left (leb (first_at t i + count_at t i) (parts_in t)) _ good) in
      let most = leb-true (count_at t i) 64 (and_right (leb (first_at t i + count_at t i) (parts_in t)) _ good) in
      let at : p.start ≡ parts_from t + first_at t i = ap (λ (x : Range ℕ). x.start) e in
      let end : p.end ≡ min (parts_from t + first_at t i + count_at t i) (length t) = ap (λ (x : Range ℕ). x.end) e in
      record {
        from = omega arith;
        ordered = omega (arith, length-is t ok);
        within = omega arith;
        few = omega arith;
      }
