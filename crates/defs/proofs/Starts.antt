-- Where rulesets begin: the tally that a pass over the records makes, summed up, says how many records are of lesser
-- rulesets; and since an accepted table's records stand in order, a ruleset's records are the places from there on.
use mathlib.Core.Path.{◌≡◌, refl, sym, ap, ap₂, ◌∙◌, subst}
use mathlib.Core.Bool.{Bool, true, false}
use mathlib.Core.List.{List, [], ◌∷◌, ◌++◌, map, append-nil}
use Prim.Native.Nat.{ℕ, zero, suc, ◌+◌, ◌≤◌, ◌<◌}
use native.Mathlib.Numerals.{add-one}
use native.Mathlib.Decide.{ℕ_discrete, dec_lt}
use native.Mathlib.Omega.{arith}
use lib.Dec.{eqb, leb, ltb}
use lib.ListN.{length, get_or, set, length-map}
use borrow.Author.Tests.{leb-true, ltb-true, eq-eqb, ne_eqb, lt-ltb, le-ltb, le-leb, lt-leb}
use Rattle.plain.specs.Choice.{select}
use Rattle.plain.specs.Below.{sum_below, count_below}
use Rattle.plain.specs.Lists.{range, keep_if, listed}
use Rattle.plain.proofs.Tests.{and_left, and_right}
use Rattle.plain.proofs.Below.{every-at, sum_more, sum-none, sum-grows, count-more, count_none, count_next, count_most, count-all, count_no}
use Rattle.plain.proofs.Lists.{range_length, range_at, range-more, listed_at, as-listed, listed-set, listed_same, listed-length, kept_more}
use Rattle.defs.specs.Table.{records_in, rulesets_in, ruleset_at, ruleset_before, ruleset_fits, rulesets_fit, rule_parts}
use Rattle.defs.specs.Ruledef.{records_of, ruleset_of, rules_in, begins_at, starts_of, tally_of, summed_up}

-- a list that is listed to 33 has 33 entries
pub listed-33 : (f : ℕ → ℕ) (xs : List ℕ) → xs ≡ listed 33 f → length xs ≡ 33
listed-33 f xs e = ap length e ∙ listed-length 33 f

-- ---- the pass that counts

pub tally-zero : (t : List ℕ) → listed 33 (λ s. 0) ≡ listed 33 (tally_of t 0)
unfolding tally_of
tally-zero t = listed_same 33 (λ s. 0) (tally_of t 0) none
  where
    none : (s : ℕ) → s < 33 → 0 ≡ tally_of t 0 s
    none zero h = refl
    none (suc s) h = sym (count_none (λ i. eqb (ruleset_at t i) s))

module _ (t : List ℕ) (n w : ℕ) (counts : List ℕ) (sofar : counts ≡ listed 33 (tally_of t n)) (below : w < 32) where
  counted : get_or counts (w + 1) 0 ≡ tally_of t n (suc w)
  counted = ap (λ (l : List ℕ). get_or l (w + 1) 0) sofar ∙ listed_at 33 (tally_of t n) (w + 1) (omega arith) ∙ ap (tally_of t n) (add-one w)

  -- no count is more than the records passed
  pub tally-most : get_or counts (w + 1) 0 ≤ n
  unfolding tally_of
  tally-most = omega (arith, counted, count_most n (λ i. eqb (ruleset_at t i) w))

  -- a record of ruleset w is counted at place w + 1
  pub tally-here : w ≡ ruleset_at t n → set counts (w + 1) (get_or counts (w + 1) 0 + 1) ≡ listed 33 (tally_of t (n + 1))
  unfolding tally_of
  tally-here e =
      ap₂ (λ (l : List ℕ) (v : ℕ). set l (w + 1) (v + 1)) sofar counted
      ∙ listed-set 33 (tally_of t n) (tally_of t (n + 1)) (w + 1) (tally_of t n (suc w) + 1) (omega arith) here other
    where
      grown : (s : ℕ) (b : Bool) → eqb (ruleset_at t n) s ≡ b → tally_of t (n + 1) (suc s) ≡ tally_of t n (suc s) + select b 1 0
      grown s b p = count-more n (λ i. eqb (ruleset_at t i) s) ∙ ap (λ (x : Bool). tally_of t n (suc s) + select x 1 0) p

      here : tally_of t (n + 1) (w + 1) ≡ tally_of t n (suc w) + 1
      here = ap (tally_of t (n + 1)) (add-one w) ∙ grown w true (eq-eqb (ruleset_at t n) w (sym e))

      other : (i : ℕ) → i < 33 → (i ≡ w + 1 → ⊥) → tally_of t (n + 1) i ≡ tally_of t n i
      other zero l d = refl
      other (suc s) l d = grown s false (ne_eqb (ruleset_at t n) s (λ x. d (omega arith))) ∙ omega arith

-- a record of no ruleset below 32
pub tally-past : (t : List ℕ) (n w : ℕ) → w ≡ ruleset_at t n → 32 ≤ w → listed 33 (tally_of t n) ≡ listed 33 (tally_of t (n + 1))
unfolding tally_of
tally-past t n w e h = listed_same 33 (tally_of t n) (tally_of t (n + 1)) same
  where
    same : (i : ℕ) → i < 33 → tally_of t n i ≡ tally_of t (n + 1) i
    same zero l = refl
    same (suc s) l =
        sym
        (count-more n (λ i. eqb (ruleset_at t i) s)
        ∙ ap (λ (x : Bool). tally_of t n (suc s) + select x 1 0) (ne_eqb (ruleset_at t n) s (λ x. omega arith))
        ∙ omega arith)

-- ---- the pass that sums

-- sums up to place k, the counts themselves past it
unfoldable pub half_summed : List ℕ → ℕ → ℕ → ℕ
half_summed xs k s = select (leb s k) (summed_up xs s) (get_or xs s 0)

pub summed-none : (xs : List ℕ) → length xs ≡ 33 → xs ≡ listed 33 (half_summed xs 0)
unfolding half_summed summed_up
summed-none xs n = as-listed 33 (half_summed xs 0) xs n at
  where
    at : (i : ℕ) → i < 33 → get_or xs i 0 ≡ select (leb i 0) (sum_below (i + 1) (λ k. get_or xs k 0)) (get_or xs i 0)
    at zero h = sym (sum_more 0 (λ k. get_or xs k 0) ∙ ap (λ (m : ℕ). m + get_or xs 0 0) (sum-none (λ k. get_or xs k 0)) ∙ omega arith)
    at (suc i) h = rw (lt-leb (suc i) 0 (omega arith))

pub summed-done : (xs : List ℕ) (k : ℕ) → 32 ≤ k → listed 33 (half_summed xs k) ≡ listed 33 (summed_up xs)
unfolding half_summed
summed-done xs k h =
    listed_same 33 (half_summed xs k) (summed_up xs) (λ i l. ap (λ (b : Bool). select b (summed_up xs i) (get_or xs i 0)) (le-leb i k (omega arith)))

module _ (xs : List ℕ) (k : ℕ) (below : k < 32) where
  summed-more : summed_up xs (k + 1) ≡ summed_up xs k + get_or xs (k + 1) 0
  unfolding summed_up
  summed-more = sum_more (k + 1) (λ i. get_or xs i 0)

  at_sum : get_or (listed 33 (half_summed xs k)) k 0 ≡ summed_up xs k
  unfolding half_summed
  at_sum = listed_at 33 (half_summed xs k) k (omega arith) ∙ ap (λ (b : Bool). select b (summed_up xs k) (get_or xs k 0)) (le-leb k k (omega arith))

  at_count : get_or (listed 33 (half_summed xs k)) (k + 1) 0 ≡ get_or xs (k + 1) 0
  unfolding half_summed
  at_count =
      listed_at 33 (half_summed xs k) (k + 1) (omega arith)
      ∙ ap (λ (b : Bool). select b (summed_up xs (k + 1)) (get_or xs (k + 1) 0)) (lt-leb (k + 1) k (omega arith))

  module _ (counts : List ℕ) (sofar : counts ≡ listed 33 (half_summed xs k)) where
    -- the two that are added are the sum so far and the next count
    pub summed-next : get_or counts k 0 + get_or counts (k + 1) 0 ≡ summed_up xs (k + 1)
    summed-next =
        ap₂ ◌+◌ (ap (λ (l : List ℕ). get_or l k 0) sofar ∙ at_sum) (ap (λ (l : List ℕ). get_or l (k + 1) 0) sofar ∙ at_count) ∙ sym summed-more

    pub summed-set : set counts (k + 1) (get_or counts k 0 + get_or counts (k + 1) 0) ≡ listed 33 (half_summed xs (k + 1))
    unfolding half_summed
    summed-set =
        ap₂ (λ (l : List ℕ) (v : ℕ). set l (k + 1) v) sofar summed-next
        ∙ listed-set 33 (half_summed xs k) (half_summed xs (k + 1)) (k + 1) (summed_up xs (k + 1)) (omega arith)
        (ap (λ (b : Bool). select b (summed_up xs (k + 1)) (get_or xs (k + 1) 0)) (le-leb (k + 1) (k + 1) (omega arith)))
        (λ i l d. ap (λ (b : Bool). select b (summed_up xs i) (get_or xs i 0)) (same i d (dec_lt k i)))
      where
        same : (i : ℕ) → (i ≡ k + 1 → ⊥) → Dec (k < i) → leb i (k + 1) ≡ leb i k
        same i d (yes h) = lt-leb i (k + 1) (omega (arith, d)) ∙ sym (lt-leb i k h)
        same i d (no h) = le-leb i (k + 1) (omega (arith, h)) ∙ sym (le-leb i k (omega (arith, h)))

  pub summed-fits : summed_up xs (k + 1) ≤ summed_up xs 32
  unfolding summed_up
  summed-fits = sum-grows (k + 1 + 1) (32 + 1) (λ i. get_or xs i 0) (omega arith)

-- ---- the tally summed up

pub begins-first : (t : List ℕ) → begins_at t 0 ≡ 0
unfolding begins_at
begins-first t = count_no (records_in t) (λ i. ltb (ruleset_at t i) 0) (λ i l. le-ltb (ruleset_at t i) 0 (omega arith))

pub begins-next : (t : List ℕ) (s : ℕ) → begins_at t (suc s) ≡ begins_at t s + rules_in t s
unfolding begins_at rules_in
begins-next t s = count_next (records_in t) (ruleset_at t) s

pub begins-within : (t : List ℕ) (s : ℕ) → begins_at t s ≤ records_in t
unfolding begins_at
begins-within t s = count_most (records_in t) (λ i. ltb (ruleset_at t i) s)

pub tally-sums : (t : List ℕ) (s : ℕ) → s < 33 → summed_up (listed 33 (tally_of t (records_in t))) s ≡ begins_at t s
unfolding summed_up tally_of rules_in
tally-sums t zero h =
    sum_more 0 (λ i. get_or (listed 33 (tally_of t (records_in t))) i 0)
    ∙ ap₂ ◌+◌ (sum-none (λ i. get_or (listed 33 (tally_of t (records_in t))) i 0)) (listed_at 33 (tally_of t (records_in t)) 0 h)
    ∙ sym (begins-first t)
tally-sums t (suc s) h =
    sum_more (suc s) (λ i. get_or (listed 33 (tally_of t (records_in t))) i 0)
    ∙ ap₂ ◌+◌ (ap (λ (n : ℕ). sum_below n (λ i. get_or (listed 33 (tally_of t (records_in t))) i 0)) (sym (add-one s)) ∙ tally-sums t s (omega arith)) (listed_at 33 (tally_of t (records_in t)) (suc s) h)
    ∙ sym (begins-next t s)

module _ (t : List ℕ) (counts : List ℕ) (all : counts ≡ listed 33 (tally_of t (records_in t))) where
  pub tally-starts : listed 33 (summed_up counts) ≡ starts_of t
  unfolding starts_of
  tally-starts = ap (λ (l : List ℕ). listed 33 (summed_up l)) all ∙ listed_same 33 (summed_up (listed 33 (tally_of t (records_in t)))) (begins_at t) (tally-sums t)

  pub tally-fits : records_in t < 65536 → summed_up counts 32 < 65536
  tally-fits h = omega (arith, ap (λ (l : List ℕ). summed_up l 32) all ∙ tally-sums t 32 (omega arith), begins-within t 32)

-- ---- a ruleset's records stand together

module _ (t : List ℕ) (fits : rulesets_fit t ≡ true) where
  below_next : (i : ℕ) → suc i < records_in t → ruleset_at t i ≤ ruleset_at t (suc i)
  unfolding rulesets_fit ruleset_fits ruleset_before
  below_next i h =
      leb-true (ruleset_at t i) (ruleset_at t (suc i))
      (and_right (ltb (ruleset_at t (suc i)) (rulesets_in t)) (leb (ruleset_at t i) (ruleset_at t (suc i))) (every-at (records_in t) (ruleset_fits t) fits (suc i) h))

  pub ruleset-below : (i : ℕ) → i < records_in t → ruleset_at t i < rulesets_in t
  unfolding rulesets_fit ruleset_fits
  ruleset-below i h =
      ltb-true (ruleset_at t i) (rulesets_in t)
      (and_left (ltb (ruleset_at t i) (rulesets_in t)) (leb (ruleset_before t i) (ruleset_at t i)) (every-at (records_in t) (ruleset_fits t) fits i h))

  pub in_order : (i j : ℕ) → i ≤ j → j < records_in t → ruleset_at t i ≤ ruleset_at t j
  in_order i zero h k = let e : i ≡ 0 = omega arith in ap-le e
    where
      ap-le : i ≡ 0 → ruleset_at t i ≤ ruleset_at t 0
      ap-le e = subst (λ (n : ℕ). ruleset_at t n ≤ ruleset_at t 0) (sym e) (omega arith)
  in_order i (suc j) h k =
      elim (ℕ_discrete i (suc j)) [
        | yes e ↦ subst (λ (n : ℕ). ruleset_at t n ≤ ruleset_at t (suc j)) (sym e) (omega arith)
        | no d ↦ omega (arith, in_order i j (omega (arith, d)) (omega arith), below_next j k)
      ]

  -- of the first m records, those of ruleset s
  module _ (s : ℕ) where
    abbrev is_of : ℕ → Bool
    is_of i = eqb (ruleset_at t i) s

    abbrev less : ℕ → ℕ
    less m = count_below m (λ i. ltb (ruleset_at t i) s)

    abbrev same : ℕ → ℕ
    same m = count_below m is_of

    module _ (m : ℕ) (inside : m < records_in t) (sofar : keep_if is_of (range 0 m) ≡ range (less m) (same m)) where
      -- the next record, judged
      joined : (a b : Bool) → ltb (ruleset_at t m) s ≡ a → is_of m ≡ b
          → range (less m) (same m) ++ select b (m ∷ []) [] ≡ range (less m + select a 1 0) (same m + select b 1 0)
          → keep_if is_of (range 0 (m + 1)) ≡ range (less (m + 1)) (same (m + 1))
      joined a b p q e =
          kept_more m is_of
          ∙ ap₂ (λ (l : List ℕ) (x : Bool). l ++ select x (m ∷ []) []) sofar q
          ∙ e
          ∙ sym
          (ap₂ range (count-more m (λ i. ltb (ruleset_at t i) s) ∙ ap (λ (x : Bool). less m + select x 1 0) p) (count-more m is_of ∙ ap (λ (x : Bool). same m + select x 1 0) q))

      no_more : (n k : ℕ) → range n (k + 0) ≡ range n k ++ []
      no_more n k = (let e : k + 0 ≡ k = omega arith in ap (range n) e) ∙ sym (append-nil (range n k))

      together-more : keep_if is_of (range 0 (m + 1)) ≡ range (less (m + 1)) (same (m + 1))
      unfolding range
      together-more = by (dec_lt (ruleset_at t m) s) (ℕ_discrete (ruleset_at t m) s)
        where
          none_yet : ruleset_at t m < s → same m ≡ 0
          none_yet h = count_no m is_of (λ i l. ne_eqb (ruleset_at t i) s (λ e. omega (arith, in_order i m (omega arith) inside)))

          all-so-far : ruleset_at t m ≡ s → less m + same m ≡ m
          all-so-far e =
              sym (count_next m (ruleset_at t) s)
              ∙ count-all m (λ i. ltb (ruleset_at t i) (suc s)) (λ i l. lt-ltb (ruleset_at t i) (suc s) (omega (arith, in_order i m (omega arith) inside)))

          by : Dec (ruleset_at t m < s) → Dec (ruleset_at t m ≡ s) → keep_if is_of (range 0 (m + 1)) ≡ range (less (m + 1)) (same (m + 1))
          by (yes h) d =
              joined true false (lt-ltb (ruleset_at t m) s h) (ne_eqb (ruleset_at t m) s (λ e. omega arith))
              (ap (λ (k : ℕ). range (less m) k ++ []) (none_yet h) ∙ sym (ap (λ (k : ℕ). range (less m + 1) (k + 0)) (none_yet h)))
          by (no h) (yes e) =
              joined false true (le-ltb (ruleset_at t m) s (omega arith)) (eq-eqb (ruleset_at t m) s e)
              (ap (λ (k : ℕ). range (less m) (same m) ++ (k ∷ [])) (sym (all-so-far e))
              ∙ sym (range-more (less m) (same m))
              ∙ ap₂ range (omega arith) (sym (add-one (same m))))
          by (no h) (no d) =
              joined false false (le-ltb (ruleset_at t m) s (omega (arith, h))) (ne_eqb (ruleset_at t m) s d)
              (sym (no_more (less m) (same m)) ∙ ap (λ (k : ℕ). range k (same m + 0)) (omega arith))

    together : (m : ℕ) → m ≤ records_in t → keep_if is_of (range 0 m) ≡ range (less m) (same m)
    unfolding count_below range keep_if
    together zero h = refl
    together (suc m) h =
        subst (λ (n : ℕ). keep_if is_of (range 0 n) ≡ range (less n) (same n)) (add-one m)
        (together-more m h (together m (omega arith)))

    -- the records of ruleset s are the places from where it begins, as many as it has
    pub records-together : records_of t s ≡ range (begins_at t s) (rules_in t s)
    unfolding records_of begins_at rules_in
    records-together = together (records_in t) (omega arith)

    -- rule k of ruleset s is the record k places on
    pub rule-at : (k : ℕ) → k < rules_in t s → get_or (ruleset_of t s).rules k [] ≡ rule_parts t (begins_at t s + k)
    unfolding ruleset_of
    rule-at k h =
        ap (λ (l : List ℕ). get_or (map (rule_parts t) l) k []) records-together
        ∙ mapped (range (begins_at t s) (rules_in t s)) k (omega (arith, range_length (begins_at t s) (rules_in t s)))
        ∙ ap (rule_parts t) (range_at (begins_at t s) (rules_in t s) k 0 h)
      where
        mapped : (l : List ℕ) (j : ℕ) → j < length l → get_or (map (rule_parts t) l) j [] ≡ rule_parts t (get_or l j 0)
        mapped [] j q = absurd (omega arith)
        mapped (x ∷ xs) zero q = refl
        mapped (x ∷ xs) (suc j) q = mapped xs j (omega arith)

    pub rules-length : length (ruleset_of t s).rules ≡ rules_in t s
    unfolding ruleset_of
    rules-length = length-map (records_of t s) (rule_parts t) ∙ ap length records-together ∙ range_length (begins_at t s) (rules_in t s)
