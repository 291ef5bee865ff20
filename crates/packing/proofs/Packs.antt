-- Data within the limits, packed, is an accepted table, and it says that data.
use mathlib.Core.Path.{◌≡◌, refl, sym, ap, ap₂, ◌∙◌}
use mathlib.Core.Bool.{Bool, true, false, not, ◌&&◌, ◌||◌}
use mathlib.Core.List.{List, [], ◌∷◌, ◌++◌, map, flat_map, append_assoc}
use Prim.Native.Nat.{ℕ, ◌+◌, ◌*◌, ◌-◌, ◌≤◌, ◌<◌}
use native.Mathlib.Omega.{arith}
use lib.Dec.{eqb, leb, ltb}
use lib.ListN.{length, get_or, take, drop, length-map, length-append}
use lib.Seq.{slice, get_or-append-add, take-append-add, take-append_seam, drop-append_seam}
use borrow.Author.Tests.{leb-true, ltb-true, le-leb, lt-ltb, le-ltb, ne_eqb}
use Rattle.plain.specs.Choice.{select}
use Rattle.plain.specs.Below.{sum_below}
use Rattle.plain.specs.Lists.{count, listed, every}
use Rattle.plain.proofs.Below.{every-at, every-all, sum_same}
use Rattle.plain.proofs.Tests.{and_left, and_right, and_both, or_left, or_right}
use Rattle.plain.proofs.Every.{every_append, every-last, every-listed, every_map, entry-every}
use Rattle.plain.proofs.Lists.{Split, split-of, listed-is}
use Rattle.defs.specs.Table.{word_at, parts_in, parts_from, flag_at, field_at, ruleset_at, first_at, count_at, part_word_at, part_of, rule_from, rule_words, rule_parts, is_parameter, flags_fit, ruleset_before, ruleset_fits, range_fits, parameters_in, is_part, parts_fit, table_fits}
use Rattle.defs.specs.Ruledef.{is_top}
use Rattle.defs.specs.declared.ruledef.Part.{Part}
use Rattle.defs.specs.declared.ruledef.Part.TheVariants.{Exact, Whitespace, Expression, Nested}
use Rattle.packing.specs.Data.{Data, Rule, word_of, is_part_of, rule_fits, ascend, parts_of, data_fits, data_from, rule}
use Rattle.packing.specs.Packed.{flag_of, words_of, records_of, packed, rule_at, data_of}
use Rattle.packing.proofs.Limits.{sizes-range, Fits, fits_all, parts_of-append}
use Rattle.packing.proofs.Tables.{parts_of-listed, ascend-listed, parts-count, all-accepted}

slice-mid : (a b c : List ℕ) (m n : ℕ) → m ≡ length a → n ≡ length a + length b → slice m n (a ++ (b ++ c)) ≡ b
slice-mid a b c m n p q =
    ap₂ (λ (x y : ℕ). drop x (take y (a ++ (b ++ c)))) p q
    ∙ ap (drop (length a)) (take-append-add a (b ++ c) (length b) ∙ ap (λ (l : List ℕ). a ++ l) (take-append_seam b c))
    ∙ drop-append_seam a b

-- ---- the packed words

pub records-append : (f : ℕ) (xs ys : List Rule) → records_of f (xs ++ ys) ≡ records_of f xs ++ records_of (f + parts_of xs) ys
unfolding records_of parts_of
records-append f [] ys = ap (λ (n : ℕ). records_of n ys) (omega arith)
records-append f (x ∷ xs) ys =
    ap (λ (l : List ℕ). x.set ∷ f ∷ length x.parts ∷ l)
    (records-append (f + length x.parts) xs ys ∙ ap (λ (n : ℕ). records_of (f + length x.parts) xs ++ records_of n ys) (omega arith))

pub records-length : (f : ℕ) (xs : List Rule) → length (records_of f xs) ≡ 3 * length xs
unfolding records_of
records-length f [] = refl
records-length f (x ∷ xs) = omega (arith, records-length (f + length x.parts) xs)

pub words_append : (xs ys : List Rule) → flat_map words_of (xs ++ ys) ≡ flat_map words_of xs ++ flat_map words_of ys
unfolding flat_map
words_append [] ys = refl
words_append (x ∷ xs) ys = ap (λ (l : List ℕ). words_of x ++ l) (words_append xs ys) ∙ sym (append_assoc (words_of x) (flat_map words_of xs) (flat_map words_of ys))

pub words-length : (xs : List Rule) → length (flat_map words_of xs) ≡ parts_of xs
unfolding flat_map parts_of
words-length [] = refl
words-length (x ∷ xs) = omega (arith, length-append (words_of x) (flat_map words_of xs), length-map x.parts word_of, words-length xs)

-- how many words there are: at most 9,763 within the limits
pub packed-length : (d : Data) → length (packed d) ≡ 3 + length d.tops + 3 * length d.rules + parts_of d.rules
unfolding packed
packed-length d =
    omega (
      arith,
      length-append (map flag_of d.tops) (records_of 0 d.rules ++ flat_map words_of d.rules),
      length-append (records_of 0 d.rules) (flat_map words_of d.rules),
      length-map d.tops flag_of,
      records-length 0 d.rules,
      words-length d.rules,
    )

pub packed-short : (d : Data) → data_fits d ≡ true → length (packed d) ≤ 9763
packed-short d h = omega (arith, packed-length d, (fits_all d.tops d.rules h).sizes)

-- ---- one rule of them

module _ (ts : List Bool) (xs : List Rule) (r : Rule) (ys : List Rule) where
  abbrev rs : List Rule
  rs = xs ++ (r ∷ ys)

  abbrev t : List ℕ
  t = packed (data_from ts rs)

  front : List ℕ
  front = length ts ∷ length rs ∷ parts_of rs ∷ (map flag_of ts ++ records_of 0 xs)

  back : List ℕ
  back = r.set ∷ parts_of xs ∷ length r.parts ∷ (records_of (parts_of xs + length r.parts) ys ++ flat_map words_of rs)

  fronted : t ≡ front ++ back
  unfolding packed records_of front back
  fronted =
      ap (λ (l : List ℕ). length ts ∷ length rs ∷ parts_of rs ∷ (map flag_of ts ++ (l ++ flat_map words_of rs)))
      (records-append 0 xs (r ∷ ys) ∙ ap (λ (n : ℕ). records_of 0 xs ++ records_of n (r ∷ ys)) (omega arith))
      ∙ ap (λ (l : List ℕ). length ts ∷ length rs ∷ parts_of rs ∷ (map flag_of ts ++ l)) (append_assoc (records_of 0 xs) _ (flat_map words_of rs))
      ∙ ap (λ (l : List ℕ). length ts ∷ length rs ∷ parts_of rs ∷ l) (sym (append_assoc (map flag_of ts) (records_of 0 xs) _))

  field : (which : ℕ) → field_at t (length xs) which ≡ get_or back which 0
  unfolding field_at word_at packed front
  field which =
      let place : 3 + length ts + 3 * length xs + which ≡ length front + which =
      omega (arith, length-append (map flag_of ts) (records_of 0 xs), length-map ts flag_of, records-length 0 xs) in
      ap₂ (λ (l : List ℕ) (n : ℕ). get_or l n 0) fronted place
      ∙ get_or-append-add front back which 0

  set_is : ruleset_at t (length xs) ≡ r.set
  unfolding back
  set_is = field 0

  first-is : first_at t (length xs) ≡ parts_of xs
  unfolding back
  first-is = field 1

  count-is : count_at t (length xs) ≡ length r.parts
  unfolding back
  count-is = field 2

  words_are : rule_words t (length xs) ≡ words_of r
  unfolding rule_words rule_from word_at packed flat_map
  words_are =
      ap (slice (rule_from t (length xs)) (rule_from t (length xs) + count_at t (length xs))) cut
      ∙ slice-mid before (words_of r) (flat_map words_of ys) (rule_from t (length xs)) (rule_from t (length xs) + count_at t (length xs)) (omega (arith, size, first-is)) (omega (arith, size, first-is, count-is, length-map r.parts word_of))
    where
      before : List ℕ
      before = length ts ∷ length rs ∷ parts_of rs ∷ (map flag_of ts ++ (records_of 0 rs ++ flat_map words_of xs))

      size : length before ≡ 3 + length ts + 3 * length rs + parts_of xs
      size = omega (arith, length-append (map flag_of ts) (records_of 0 rs ++ flat_map words_of xs), length-append (records_of 0 rs) (flat_map words_of xs), length-map ts flag_of, records-length 0 rs, words-length xs)

      cut : t ≡ before ++ (words_of r ++ flat_map words_of ys)
      cut =
          ap (λ (l : List ℕ). length ts ∷ length rs ∷ parts_of rs ∷ (map flag_of ts ++ (records_of 0 rs ++ l))) (words_append xs (r ∷ ys))
          ∙ ap (λ (l : List ℕ). length ts ∷ length rs ∷ parts_of rs ∷ (map flag_of ts ++ l)) (sym (append_assoc (records_of 0 rs) (flat_map words_of xs) _))
          ∙ ap (λ (l : List ℕ). length ts ∷ length rs ∷ parts_of rs ∷ l) (sym (append_assoc (map flag_of ts) (records_of 0 rs ++ flat_map words_of xs) _))

-- ---- parts as words and back

part-back : (s : ℕ) (p : Part) → is_part_of s p ≡ true → part_of (word_of p) ≡ p
unfolding part_of
part-back s (Exact b) h =
    let small : b ≤ 126 = leb-true b 126 (and_right (leb 33 b) _ (and_left (leb 33 b && leb b 126) _ h)) in
    ap (λ (t : Bool). select t (Exact b) (select (eqb b 256) Whitespace (select (ltb b 512) Expression (Nested (b - 512))))) (lt-ltb b 256 (omega arith))
part-back s Whitespace h = refl
part-back s Expression h = refl
part-back s (Nested r) h =
    let back : 512 + r - 512 ≡ r = omega arith in
    rw (le-ltb (512 + r) 256 (omega arith), ne_eqb (512 + r) 256 (λ e. omega arith), le-ltb (512 + r) 512 (omega arith)) (ap Nested back)

parts-back : (s : ℕ) (ps : List Part) → every (is_part_of s) ps ≡ true → map part_of (map word_of ps) ≡ ps
unfolding every
parts-back s [] h = refl
parts-back s (p ∷ ps) h = ap₂ ◌∷◌ (part-back s p (and_left (is_part_of s p) _ h)) (parts-back s ps (and_right (is_part_of s p) _ h))

word-part : (s : ℕ) (p : Part) → is_part_of s p ≡ true → is_part s (word_of p) ≡ true
unfolding is_part
word-part s (Exact b) h = or_left _ _ (or_left _ _ (or_left _ _ h))
word-part s Whitespace h = refl
word-part s Expression h = refl
word-part s (Nested r) h =
    or_right (leb 33 (512 + r) && leb (512 + r) 126 && not (eqb (512 + r) 59) || eqb (512 + r) 256 || eqb (512 + r) 257) _
    (and_both _ _ (le-leb 512 (512 + r) (omega arith)) (lt-ltb (512 + r) (512 + s) (omega (arith, ltb-true r s h))))

-- a rule within the limits
record Good (s : ℕ) (r : Rule) : Type 0 where
  low : r.set < s
  short : length r.parts ≤ 64
  few : leb (count is_parameter r.parts) 8 ≡ true
  each : every (is_part_of s) r.parts ≡ true

rule-good : (s : ℕ) (r : Rule) → rule_fits s r ≡ true → Good s r
unfolding rule_fits
rule-good s r h =
    let two = and_right (ltb r.set s) _ h in
    let three = and_right (leb (length r.parts) 64) _ two in
    record {
      low = ltb-true r.set s (and_left (ltb r.set s) _ h);
      short = leb-true (length r.parts) 64 (and_left (leb (length r.parts) 64) _ two);
      few = and_left (leb (count is_parameter r.parts) 8) _ three;
      each = and_right (leb (count is_parameter r.parts) 8) _ three;
    }

words-fit : (s : ℕ) (rs : List Rule) → every (rule_fits s) rs ≡ true → every (is_part s) (flat_map words_of rs) ≡ true
unfolding flat_map every
words-fit s [] h = refl
words-fit s (r ∷ rs) h =
    every_append (is_part s) (words_of r) (flat_map words_of rs) (every_map (is_part s) word_of r.parts ∙ each r.parts (rule-good s r (and_left (rule_fits s r) _ h)).each)
    (words-fit s rs (and_right (rule_fits s r) _ h))
  where
    each : (ps : List Part) → every (is_part_of s) ps ≡ true → every (λ p. is_part s (word_of p)) ps ≡ true
    each [] k = refl
    each (p ∷ ps) k = and_both _ _ (word-part s p (and_left (is_part_of s p) _ k)) (each ps (and_right (is_part_of s p) _ k))

-- ---- a flag of them

flag_is : (us : List Bool) (u : Bool) (vs : List Bool) (rs : List Rule) → flag_at (packed (data_from (us ++ (u ∷ vs)) rs)) (length us) ≡ flag_of u
unfolding flag_at word_at packed
flag_is us u vs rs =
    let place : 3 + length us ≡ length front + 0 = omega (arith, length-map us flag_of) in
    ap₂ (λ (l : List ℕ) (n : ℕ). get_or l n 0) cut place ∙ get_or-append-add front (flag_of u ∷ (map flag_of vs ++ rest)) 0 0
  where
    front : List ℕ
    front = length (us ++ (u ∷ vs)) ∷ length rs ∷ parts_of rs ∷ map flag_of us

    rest : List ℕ
    rest = records_of 0 rs ++ flat_map words_of rs

    joined : (l : List Bool) → map flag_of (l ++ (u ∷ vs)) ≡ map flag_of l ++ (flag_of u ∷ map flag_of vs)
    joined [] = refl
    joined (x ∷ l) = ap (λ (m : List ℕ). flag_of x ∷ m) (joined l)

    cut : packed (data_from (us ++ (u ∷ vs)) rs) ≡ front ++ (flag_of u ∷ (map flag_of vs ++ rest))
    cut =
        ap (λ (l : List ℕ). length (us ++ (u ∷ vs)) ∷ length rs ∷ parts_of rs ∷ (l ++ rest)) (joined us)
        ∙ ap (λ (l : List ℕ). length (us ++ (u ∷ vs)) ∷ length rs ∷ parts_of rs ∷ l) (append_assoc (map flag_of us) (flag_of u ∷ map flag_of vs) rest)

-- ---- data packed, and what the table says

module _ (ts : List Bool) (rs : List Rule) (fits : data_fits (data_from ts rs) ≡ true) where
  f : Fits ts rs
  f = fits_all ts rs fits

  abbrev table : List ℕ
  table = packed (data_from ts rs)

  tops_are : listed (length ts) (is_top table) ≡ ts
  unfolding is_top
  tops_are = listed-is ts (is_top table) (λ us u vs e. ap (λ (l : List Bool). is_top (packed (data_from l rs)) (length us)) e ∙ ap (λ (n : ℕ). eqb n 0) (flag_is us u vs rs) ∙ back u)
    where
      back : (u : Bool) → eqb (flag_of u) 0 ≡ u
      back true = refl
      back false = refl

  good-at : (xs : List Rule) (r : Rule) (ys : List Rule) → rs ≡ xs ++ (r ∷ ys) → Good (length ts) r
  unfolding every
  good-at xs r ys e =
      rule-good (length ts) r
      (and_left (rule_fits (length ts) r) _ (every-last (rule_fits (length ts)) xs (r ∷ ys) (ap (every (rule_fits (length ts))) (sym e) ∙ f.each)))

  rules-are : listed (length rs) (rule_at table) ≡ rs
  unfolding rule_at rule_parts
  rules-are =
      listed-is rs (rule_at table)
      (λ xs r ys e. ap (λ (l : List Rule). rule_at (packed (data_from ts l)) (length xs)) e
      ∙ ap₂ rule (set_is ts xs r ys) (ap (map part_of) (words_are ts xs r ys) ∙ parts-back (length ts) r.parts (good-at xs r ys e).each))

  -- the packed table says the data
  pub packed-says : data_of table ≡ data_from ts rs
  unfolding data_of word_at packed
  packed-says = ap₂ data_from tops_are rules-are

  long-is : length table ≡ parts_from table + parts_in table
  unfolding word_at packed
  long-is =
      omega (
        arith,
        length-append (map flag_of ts) (records_of 0 rs ++ flat_map words_of rs),
        length-append (records_of 0 rs) (flat_map words_of rs),
        length-map ts flag_of,
        records-length 0 rs,
        words-length rs,
      )

  flags-are : flags_fit table ≡ true
  unfolding flags_fit word_at packed
  flags-are = every-all (length ts) (λ s. leb (flag_at table s) 1) (λ i l. at i (split-of ts i l))
    where
      low : (u : Bool) → leb (flag_of u) 1 ≡ true
      low true = refl
      low false = refl

      at : (i : ℕ) → Split ts i → leb (flag_at table i) 1 ≡ true
      at i s =
          ap₂ (λ (l : List Bool) (n : ℕ). leb (flag_at (packed (data_from l rs)) n) 1) s.is (sym s.size)
          ∙ ap (λ (n : ℕ). leb n 1) (flag_is s.before s.it s.after rs) ∙ low s.it

  -- a rule's record
  record Record (i : ℕ) : Type 0 where
    range : first_at table i + count_at table i ≤ parts_of rs
    short : count_at table i ≤ 64

  records-are : (i : ℕ) → i < length rs → Record i
  unfolding parts_of
  records-are i l = at i (split-of rs i l)
    where
      at : (i : ℕ) → Split rs i → Record i
      at i s =
          let first : first_at table i ≡ parts_of s.before =
          ap₂ (λ (l : List Rule) (n : ℕ). first_at (packed (data_from ts l)) n) s.is (sym s.size) ∙ first-is ts s.before s.it s.after in
          let many : count_at table i ≡ length s.it.parts =
          ap₂ (λ (l : List Rule) (n : ℕ). count_at (packed (data_from ts l)) n) s.is (sym s.size) ∙ count-is ts s.before s.it s.after in
          let g = good-at s.before s.it s.after s.is in
          record {
            range = omega (arith, first, many, ap parts_of s.is, parts_of-append s.before (s.it ∷ s.after));
            short = omega (arith, many, g.short);
          }

  rules-good : (i : ℕ) → i < length rs → Good (length ts) (rule_at table i)
  rules-good i l =
      rule-good (length ts) (rule_at table i)
      (every-at (length rs) (λ k. rule_fits (length ts) (rule_at table k))
      (sym (every-listed (rule_fits (length ts)) (length rs) (rule_at table)) ∙ ap (every (rule_fits (length ts))) rules-are ∙ f.each) i l)

  order_is : (i : ℕ) → i < length rs → leb (ruleset_before table i) (ruleset_at table i) ≡ true
  order_is i l =
      every-at (length rs) (λ k. leb (ruleset_before table k) (ruleset_at table k)) (sym (ascend-listed table (length rs)) ∙ ap (ascend 0) rules-are ∙ f.order) i l

  in_table : (i : ℕ) → first_at table i + count_at table i ≤ parts_of rs → first_at table i + count_at table i ≤ parts_in table
  unfolding word_at packed
  in_table i h = h

  counts-are : sum_below (length rs) (count_at table) ≤ parts_of rs
  unfolding rule_at
  counts-are =
      let sums : sum_below (length rs) (λ i. length (rule_at table i).parts) ≡ sum_below (length rs) (count_at table) =
      sum_same (length rs) (λ i. length (rule_at table i).parts) (count_at table) (λ i l. parts-count table i long-is (within i l)) in
      omega (arith, sums, parts_of-listed (length rs) (rule_at table), ap parts_of rules-are)
    where
      within : (i : ℕ) → i < length rs → first_at table i + count_at table i ≤ parts_in table
      within i l = in_table i (records-are i l).range

  words-fit-all : parts_fit table ≡ true
  unfolding parts_fit part_word_at word_at packed
  words-fit-all = every-all (parts_of rs) (λ k. is_part (length ts) (part_word_at table k)) at
    where
      front : List ℕ
      front = length ts ∷ length rs ∷ parts_of rs ∷ (map flag_of ts ++ records_of 0 rs)

      at : (k : ℕ) → k < parts_of rs → is_part (length ts) (part_word_at table k) ≡ true
      at k l =
          let place : 3 + length ts + 3 * length rs + k ≡ length front + k =
          omega (arith, length-append (map flag_of ts) (records_of 0 rs), length-map ts flag_of, records-length 0 rs) in
          let cut : table ≡ front ++ flat_map words_of rs =
          ap (λ (l : List ℕ). length ts ∷ length rs ∷ parts_of rs ∷ l) (sym (append_assoc (map flag_of ts) (records_of 0 rs) (flat_map words_of rs))) in
          ap (is_part (length ts)) (ap₂ (λ (l : List ℕ) (n : ℕ). get_or l n 0) cut place ∙ get_or-append-add front (flat_map words_of rs) k 0)
          ∙ entry-every (is_part (length ts)) (flat_map words_of rs) (words-fit (length ts) rs f.each) k (omega (arith, words-length rs))

  -- the packed table is accepted
  pub packed-fits : table_fits table ≡ true
  unfolding word_at packed ruleset_fits range_fits parameters_in rule_at
  packed-fits =
      all-accepted table
      (record {
        sizes = sizes-range _ _ _ f.sizes;
        long = long-is;
        flags = flags-are;
        sets = λ i l. and_both _ _ (lt-ltb (ruleset_at table i) (length ts) (rules-good i l).low) (order_is i l);
        ranges = λ i l. and_both _ _ (le-leb (first_at table i + count_at table i) (parts_of rs) (records-are i l).range) (le-leb (count_at table i) 64 (records-are i l).short);
        counts = counts-are;
        parameters = λ i l. (rules-good i l).few;
        words = words-fit-all;
      })
