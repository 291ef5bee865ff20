-- An accepted table's data is within the limits: each sentence of the table's check is one of its data's.
use mathlib.Core.Path.{◌≡◌, refl, sym, ap, ap₂, ◌∙◌, subst}
use mathlib.Core.Logic.{◌⊎◌, inl, inr}
use mathlib.Core.Bool.{Bool, true, false, not, ◌&&◌, ◌||◌}
use mathlib.Core.List.{List, [], ◌∷◌, ◌++◌}
use Prim.Native.Nat.{ℕ, zero, suc, ◌+◌, ◌-◌, ◌≤◌, ◌<◌}
use native.Mathlib.Omega.{arith}
use lib.Dec.{eqb, leb, ltb}
use lib.ListN.{length, get_or, take, length-map}
use lib.Seq.{length-slice, get_or-drop, get_or-take}
use borrow.Author.Tests.{leb-true, ltb-true, ltb-false, eqb-true, le-leb, lt-ltb, eq-eqb}
use Rattle.plain.specs.Choice.{select}
use Rattle.plain.specs.Below.{every_below, sum_below}
use Rattle.plain.specs.Lists.{range, listed, every}
use Rattle.plain.proofs.Below.{every-at, every-all, sum_same}
use Rattle.plain.proofs.Lists.{listed_more, listed-length}
use Rattle.plain.proofs.Every.{every-listed, every_map, every-entry}
use Rattle.plain.proofs.Tests.{and_left, and_right, and_both, or_cases}
use Rattle.defs.specs.Table.{word_at, rulesets_in, records_in, parts_in, parts_from, ruleset_at, first_at, count_at, part_word_at, part_of, rule_from, rule_words, rule_parts, in_range, sizes_fit, length_fits, flags_fit, ruleset_before, ruleset_fits, rulesets_fit, range_fits, ranges_fit, counts_fit, parameters_in, parameters_fit, is_part, parts_fit, table_fits}
use Rattle.defs.specs.Ruledef.{is_top}
use Rattle.defs.specs.declared.ruledef.Part.TheVariants.{Exact, Whitespace, Expression, Nested}
use Rattle.defs.proofs.Fits.{sizes-bound}
use Rattle.packing.specs.Data.{Rule, is_part_of, rule_fits, ascend, last_of, parts_of, data_fits}
use Rattle.packing.specs.Packed.{rule_at, data_of}
use Rattle.packing.proofs.Limits.{all-fits, parts_of-append}

-- ---- lists by their entries, from the front

pub parts_of-listed : (n : ℕ) (g : ℕ → Rule) → parts_of (listed n g) ≡ sum_below n (λ i. length (g i).parts)
unfolding parts_of sum_below listed range
parts_of-listed zero g = refl
parts_of-listed (suc n) g =
    ap parts_of (listed_more n g) ∙ parts_of-append (listed n g) (g n ∷ []) ∙ omega (arith, parts_of-listed n g)

pub last_of-more : (s : ℕ) (xs : List Rule) (r : Rule) → last_of s (xs ++ (r ∷ [])) ≡ r.set
last_of-more s [] r = refl
last_of-more s (x ∷ xs) r = last_of-more x.set xs r

pub ascend-more : (s : ℕ) (xs : List Rule) (r : Rule) → ascend s (xs ++ (r ∷ [])) ≡ (ascend s xs && leb (last_of s xs) r.set)
unfolding ascend
ascend-more s [] r = last (leb s r.set)
  where
    last : (b : Bool) → (b && true) ≡ b
    last true = refl
    last false = refl
ascend-more s (x ∷ xs) r = ap (λ (b : Bool). leb s x.set && b) (ascend-more x.set xs r) ∙ sym (three (leb s x.set) (ascend x.set xs) _)
  where
    three : (a b c : Bool) → ((a && b) && c) ≡ (a && (b && c))
    three true b c = refl
    three false b c = refl

last-before : (t : List ℕ) (n : ℕ) → last_of 0 (listed n (rule_at t)) ≡ ruleset_before t n
unfolding listed range ruleset_before rule_at
last-before t zero = refl
last-before t (suc n) = ap (last_of 0) (listed_more n (rule_at t)) ∙ last_of-more 0 (listed n (rule_at t)) (rule_at t n)

pub ascend-listed : (t : List ℕ) (n : ℕ) → ascend 0 (listed n (rule_at t)) ≡ every_below n (λ i. leb (ruleset_before t i) (ruleset_at t i))
unfolding ascend listed range every_below rule_at
ascend-listed t zero = refl
ascend-listed t (suc n) =
    ap (ascend 0) (listed_more n (rule_at t)) ∙ ascend-more 0 (listed n (rule_at t)) (rule_at t n)
    ∙ ap₂ (λ (b : Bool) (m : ℕ). b && leb m (ruleset_at t n)) (ascend-listed t n) (last-before t n)

-- ---- parts

-- a word that is a part is read as a part within the limits
part-within : (s w : ℕ) → is_part s w ≡ true → is_part_of s (part_of w) ≡ true
unfolding is_part part_of
part-within s w h = go (ltb w 256) (eqb w 256) (ltb w 512) refl refl refl (or_cases (exact || eqb w 256 || eqb w 257) (leb 512 w && ltb w (512 + s)) h)
  where
    exact : Bool
    exact = leb 33 w && leb w 126 && not (eqb w 59)

    low : (exact || eqb w 256 || eqb w 257) ≡ true → (exact ≡ true) ⊎ ((256 ≤ w) × (w < 258))
    low k =
        elim (or_cases (exact || eqb w 256) (eqb w 257) k) [
          | inl e ↦ elim (or_cases exact (eqb w 256) e) [ inl x ↦ inl x | inr x ↦ inr (omega (arith, eqb-true w 256 x)) ]
          | inr e ↦ inr (omega (arith, eqb-true w 257 e))
        ]

    small : exact ≡ true → w ≤ 126
    small e = leb-true w 126 (and_right (leb 33 w) _ (and_left (leb 33 w && leb w 126) _ e))

    go : (a b c : Bool) → ltb w 256 ≡ a → eqb w 256 ≡ b → ltb w 512 ≡ c
        → ((exact || eqb w 256 || eqb w 257) ≡ true) ⊎ ((leb 512 w && ltb w (512 + s)) ≡ true)
        → is_part_of s (select a (Exact w) (select b Whitespace (select c Expression (Nested (w - 512))))) ≡ true
    go true b c p q r (inl k) = elim (low k) [ inl e ↦ e | inr e ↦ absurd (omega (arith, e, ltb-true w 256 p)) ]
    go true b c p q r (inr k) = absurd (omega (arith, ltb-true w 256 p, leb-true 512 w (and_left (leb 512 w) _ k)))
    go false true c p q r k = refl
    go false false true p q r k = refl
    go false false false p q r (inl k) =
        absurd (elim (low k) [ inl e ↦ omega (arith, small e, ltb-false w 512 r) | inr e ↦ omega (arith, e, ltb-false w 512 r) ])
    go false false false p q r (inr k) =
        lt-ltb (w - 512) s (omega (arith, ltb-false w 512 r, ltb-true w (512 + s) (and_right (leb 512 w) _ k)))

-- ---- an accepted table's rules

module _ (t : List ℕ) (i : ℕ) (long : length t ≡ parts_from t + parts_in t) (within : first_at t i + count_at t i ≤ parts_in t) where
  rule-to : rule_from t i + count_at t i ≤ length t
  unfolding rule_from
  rule-to = omega arith

  pub parts-count : length (rule_parts t i) ≡ count_at t i
  unfolding rule_parts rule_words
  parts-count = length-map (rule_words t i) part_of ∙ length-slice (rule_from t i) (rule_from t i + count_at t i) t rule-to ∙ omega arith

  pub parts-each : parts_fit t ≡ true → every (is_part_of (rulesets_in t)) (rule_parts t i) ≡ true
  unfolding rule_parts rule_words rule_from parts_fit part_word_at word_at
  parts-each h =
      every_map (is_part_of (rulesets_in t)) part_of (rule_words t i)
      ∙ every-entry (λ w. is_part_of (rulesets_in t) (part_of w)) (rule_words t i) (λ k l. part-within (rulesets_in t) (get_or (rule_words t i) k 0) (at k (subst (λ (n : ℕ). k < n) size l)))
    where
      size : length (rule_words t i) ≡ count_at t i
      size = length-slice (rule_from t i) (rule_from t i + count_at t i) t rule-to ∙ omega arith

      at : (k : ℕ) → k < count_at t i → is_part (rulesets_in t) (get_or (rule_words t i) k 0) ≡ true
      at k l =
          ap (is_part (rulesets_in t))
          (get_or-drop (rule_from t i) (take (rule_from t i + count_at t i) t) k 0
          ∙ get_or-take (rule_from t i + count_at t i) t (rule_from t i + k) 0 (omega arith)
          ∙ ap (λ (n : ℕ). get_or t n 0) (omega arith))
          ∙ every-at (parts_in t) (λ n. is_part (rulesets_in t) (part_word_at t n)) h (first_at t i + k) (omega arith)

-- an accepted table, sentence by sentence
pub record Accepted (t : List ℕ) : Type 0 where
  pub sizes : in_range (rulesets_in t) (records_in t) (parts_in t) ≡ true
  pub long : length t ≡ parts_from t + parts_in t
  pub flags : flags_fit t ≡ true
  pub sets : (i : ℕ) → i < records_in t → ruleset_fits t i ≡ true
  pub ranges : (i : ℕ) → i < records_in t → range_fits t i ≡ true
  pub counts : sum_below (records_in t) (count_at t) ≤ parts_in t
  pub parameters : (i : ℕ) → i < records_in t → leb (parameters_in t i) 8 ≡ true
  pub words : parts_fit t ≡ true

pub accepted-all : (t : List ℕ) → table_fits t ≡ true → Accepted t
unfolding table_fits sizes_fit length_fits rulesets_fit ranges_fit counts_fit parameters_fit
accepted-all t h =
    let rest = and_right (sizes_fit t) _ h in
    let rest2 = and_right (length_fits t) _ rest in
    let rest3 = and_right (flags_fit t) _ rest2 in
    let rest4 = and_right (rulesets_fit t) _ rest3 in
    let rest5 = and_right (ranges_fit t && counts_fit t) _ rest4 in
    let both = and_left (ranges_fit t && counts_fit t) _ rest4 in
    record {
      sizes = and_left (sizes_fit t) _ h;
      long = eqb-true (length t) (parts_from t + parts_in t) (and_left (length_fits t) _ rest);
      flags = and_left (flags_fit t) _ rest2;
      sets = every-at (records_in t) (ruleset_fits t) (and_left (rulesets_fit t) _ rest3);
      ranges = every-at (records_in t) (range_fits t) (and_left (ranges_fit t) _ both);
      counts = leb-true (sum_below (records_in t) (count_at t)) (parts_in t) (and_right (ranges_fit t) _ both);
      parameters = every-at (records_in t) (λ i. leb (parameters_in t i) 8) (and_left (parameters_fit t) _ rest5);
      words = and_right (parameters_fit t) _ rest5;
    }

pub all-accepted : (t : List ℕ) → Accepted t → table_fits t ≡ true
unfolding table_fits sizes_fit length_fits rulesets_fit ranges_fit counts_fit parameters_fit
all-accepted t a =
    and_both (sizes_fit t) _ a.sizes
    (and_both (length_fits t) _ (eq-eqb (length t) (parts_from t + parts_in t) a.long)
    (and_both (flags_fit t) _ a.flags
    (and_both (rulesets_fit t) _ (every-all (records_in t) (ruleset_fits t) a.sets)
    (and_both (ranges_fit t && counts_fit t) _
    (and_both (ranges_fit t) _ (every-all (records_in t) (range_fits t) a.ranges) (le-leb (sum_below (records_in t) (count_at t)) (parts_in t) a.counts))
    (and_both (parameters_fit t) _ (every-all (records_in t) (λ i. leb (parameters_in t i) 8) a.parameters) a.words)))))

-- a rule's tests, opened
pub set-test : (t : List ℕ) (i : ℕ) → ruleset_fits t i ≡ true → (ltb (ruleset_at t i) (rulesets_in t) && leb (ruleset_before t i) (ruleset_at t i)) ≡ true
unfolding ruleset_fits
set-test t i h = h

pub range-test : (t : List ℕ) (i : ℕ) → range_fits t i ≡ true → (first_at t i + count_at t i ≤ parts_in t) × (count_at t i ≤ 64)
unfolding range_fits
range-test t i h = (
  leb-true (first_at t i + count_at t i) (parts_in t) (and_left (leb (first_at t i + count_at t i) (parts_in t)) _ h),
  leb-true (count_at t i) 64 (and_right (leb (first_at t i + count_at t i) (parts_in t)) _ h),
)

rule-count : (t : List ℕ) (i : ℕ) → length t ≡ parts_from t + parts_in t → first_at t i + count_at t i ≤ parts_in t → length (rule_at t i).parts ≡ count_at t i
unfolding rule_at
rule-count t i long within = parts-count t i long within

rule-test : (t : List ℕ) (i : ℕ) → ltb (ruleset_at t i) (rulesets_in t) ≡ true → leb (length (rule_parts t i)) 64 ≡ true → leb (parameters_in t i) 8 ≡ true
    → every (is_part_of (rulesets_in t)) (rule_parts t i) ≡ true → rule_fits (rulesets_in t) (rule_at t i) ≡ true
unfolding rule_fits rule_at parameters_in
rule-test t i a b c d = and_both _ _ a (and_both _ _ b (and_both _ _ c d))

-- an accepted table's data is within the limits
pub table-fits : (t : List ℕ) → table_fits t ≡ true → data_fits (data_of t) ≡ true
unfolding data_of
table-fits t h =
    all-fits (data_of t).tops (data_of t).rules
    (record {
      sizes = omega (arith, sizes-bound _ _ _ a.sizes, sets, listed-length (records_in t) (rule_at t), parts, a.counts);
      order = ascend-listed t (records_in t) ∙ every-all (records_in t) (λ i. leb (ruleset_before t i) (ruleset_at t i)) (λ i l. and_right (ltb (ruleset_at t i) (rulesets_in t)) _ (set-fits i l));
      each =
          ap (λ (s : ℕ). every (rule_fits s) (data_of t).rules) sets ∙ every-listed (rule_fits (rulesets_in t)) (records_in t) (rule_at t)
          ∙ every-all (records_in t) (λ i. rule_fits (rulesets_in t) (rule_at t i)) fits;
    })
  where
    a : Accepted t
    a = accepted-all t h

    sets : length (data_of t).tops ≡ rulesets_in t
    sets = listed-length (rulesets_in t) (is_top t)

    set-fits : (i : ℕ) → i < records_in t → (ltb (ruleset_at t i) (rulesets_in t) && leb (ruleset_before t i) (ruleset_at t i)) ≡ true
    set-fits i l = set-test t i (a.sets i l)

    within : (i : ℕ) → i < records_in t → (first_at t i + count_at t i ≤ parts_in t) × (count_at t i ≤ 64)
    within i l = range-test t i (a.ranges i l)

    parts : parts_of (listed (records_in t) (rule_at t)) ≡ sum_below (records_in t) (count_at t)
    parts = parts_of-listed (records_in t) (rule_at t) ∙ sum_same (records_in t) (λ i. length (rule_at t i).parts) (count_at t) (λ i l. rule-count t i a.long (within i l).0)

    fits : (i : ℕ) → i < records_in t → rule_fits (rulesets_in t) (rule_at t i) ≡ true
    fits i l =
        rule-test t i (and_left (ltb (ruleset_at t i) (rulesets_in t)) _ (set-fits i l))
        (le-leb (length (rule_parts t i)) 64 (omega (arith, within i l, parts-count t i a.long (within i l).0))) (a.parameters i l)
        (parts-each t i a.long (within i l).0 a.words)
