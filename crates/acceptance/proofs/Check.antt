-- The table's check: each sentence's test, as the code makes it, and the loops that make it of every record or word.
use mathlib.Core.Path.{◌≡◌, refl, sym, ap, ap₂, ◌∙◌}
use mathlib.Core.Bool.{Bool, true, false, ◌&&◌}
use mathlib.Core.List.{List}
use Prim.Native.Nat.{ℕ, suc, ◌+◌, ◌*◌, ◌-◌, ◌≤◌, ◌<◌}
use native.Mathlib.Numerals.{add-one}
use native.Mathlib.Omega.{arith}
use lib.Dec.{eqb, leb, ltb}
use lib.ListN.{length, take, length-map, length-take, length-drop}
use borrow.Author.Tests.{ltb-true, ltb-false, eqb-true, eqb-false, lt-ltb, le-ltb, le-leb, lt-leb, eq-eqb, ne_eqb}
use Rattle.std.proofs.lemmas.List.FromFn.{length-range_with_len, get_or-range_with_len}
use Rattle.std.specs.Bool.{MatchBool}
use Rattle.std.specs.List.{range_with_len, AllWithin, HoldsAt}
use Rattle.plain.specs.Choice.{select}
use Rattle.plain.specs.Below.{every_below, sum_below}
use Rattle.plain.specs.Lists.{count}
use Rattle.plain.proofs.Lists.{count_most}
use Rattle.plain.proofs.Tests.{and_both, and-false-right}
use Rattle.plain.proofs.Below.{every-all, every-fewer, every-fails}
use Rattle.defs.specs.Table.{word_at, rulesets_in, records_in, parts_in, parts_from, flag_at, ruleset_at, first_at, count_at, part_word_at, part_of, rule_from, rule_words, rule_parts, rule_span, parts_between, is_parameter}
use Rattle.defs.specs.Table.{in_range, sizes_fit, length_fits, ruleset_before, ruleset_fits, range_fits, ranges_fit, counts_fit, parameters_in, is_part}
use Rattle.std.specs.declared.ops.Range.{Range}
use Rattle.defs.proofs.Words.{parts_whole, parts_none, parts_next}
use Rattle.defs.specs.declared.ruledef.Part.TheVariants.{Exact, Whitespace, Expression, Nested}

-- a loop that has passed every number, and one that met a number of which the test fails
pub all-passed : (n i : ℕ) (f : ℕ → Bool) → n ≤ i → every_below i f ≡ true → true ≡ every_below n f
all-passed n i f h e = sym (every-fewer n i f h e)

pub one-failed : (n i : ℕ) (f : ℕ → Bool) → i < n → f i ≡ false → false ≡ every_below n f
one-failed n i f h e = sym (every-fails n f i h e)

-- the same of `all` over a range: it is true if the test holds of every number, and false if it fails of one
pub all-below : (n : ℕ) (r : Bool) (f : ℕ → Bool) → MatchBool r (AllWithin (λ i. f i ≡ true) (range_with_len 0 n) 0 (length (range_with_len 0 n)))
    ((k : ℕ) × (k < length (range_with_len 0 n)) × HoldsAt (λ i. f i ≡ false) (range_with_len 0 n) k) → r ≡ every_below n f
all-below n true f d =
    sym
    (every-all n f
    (λ i h. let at : i ≡ 0 + i = omega arith in ap f (at ∙ sym (get_or-range_with_len 0 n i 0 h)) ∙ d i 0 (omega arith) (omega (arith, length-range_with_len 0 n))))
all-below n false f (k, h, e) =
    let below : k < n = omega (arith, length-range_with_len 0 n) in
    let at : k ≡ 0 + k = omega arith in
    one-failed n k f below (ap f (at ∙ sym (get_or-range_with_len 0 n k 0 below)) ∙ e 0)

-- ---- a ruleset's flag

pub flag-fits : (t : List ℕ) (s w : ℕ) → w ≡ word_at t (3 + s) → w ≤ 1 → leb (flag_at t s) 1 ≡ true
unfolding flag_at
flag-fits t s w e h = le-leb (word_at t (3 + s)) 1 (omega arith)

pub flag-fails : (t : List ℕ) (s w : ℕ) → w ≡ word_at t (3 + s) → 1 < w → leb (flag_at t s) 1 ≡ false
unfolding flag_at
flag-fails t s w e h = lt-leb (word_at t (3 + s)) 1 (omega arith)

-- ---- a record's ruleset

module _ (t : List ℕ) (i s b w : ℕ) (sets : s ≡ rulesets_in t) (before : b ≡ ruleset_before t i) (set : w ≡ ruleset_at t i) where
  pub ruleset-fits : w < s → b ≤ w → ruleset_fits t i ≡ true
  unfolding ruleset_fits
  ruleset-fits h k = and_both _ _ (lt-ltb (ruleset_at t i) (rulesets_in t) (omega arith)) (le-leb (ruleset_before t i) (ruleset_at t i) (omega arith))

  pub ruleset-past : s ≤ w → ruleset_fits t i ≡ false
  unfolding ruleset_fits
  ruleset-past h = ap (λ (x : Bool). x && leb (ruleset_before t i) (ruleset_at t i)) (le-ltb (ruleset_at t i) (rulesets_in t) (omega arith))

  pub ruleset-falls : w < b → ruleset_fits t i ≡ false
  unfolding ruleset_fits
  ruleset-falls k = and-false-right (ltb (ruleset_at t i) (rulesets_in t)) _ (lt-leb (ruleset_before t i) (ruleset_at t i) (omega arith))

pub before-next : (t : List ℕ) (i w : ℕ) → w ≡ ruleset_at t i → w ≡ ruleset_before t (i + 1)
unfolding ruleset_before
before-next t i w e = e ∙ sym (ap (ruleset_before t) (add-one i))

pub before-first : (t : List ℕ) → 0 ≡ ruleset_before t 0
unfolding ruleset_before
before-first t = refl

-- ---- a record's part range

module _ (t : List ℕ) (i p f n : ℕ) (parts : p ≡ parts_in t) (first : f ≡ first_at t i) (many : n ≡ count_at t i) where
  pub range-fits : f + n ≤ p → n ≤ 64 → range_fits t i ≡ true
  unfolding range_fits
  range-fits h k = and_both _ _ (le-leb (first_at t i + count_at t i) (parts_in t) (omega arith)) (le-leb (count_at t i) 64 (omega arith))

  pub range-past : p < f + n → range_fits t i ≡ false
  unfolding range_fits
  range-past h = ap (λ (x : Bool). x && leb (count_at t i) 64) (lt-leb (first_at t i + count_at t i) (parts_in t) (omega arith))

  pub range-long : 64 < n → range_fits t i ≡ false
  unfolding range_fits
  range-long k = and-false-right (leb (first_at t i + count_at t i) (parts_in t)) _ (lt-leb (count_at t i) 64 (omega arith))

pub ranges-fail : (t : List ℕ) (i : ℕ) → i < records_in t → range_fits t i ≡ false → false ≡ (ranges_fit t && counts_fit t)
unfolding ranges_fit
ranges-fail t i h e = ap (λ (x : Bool). x && counts_fit t) (one-failed (records_in t) i (range_fits t) h e)

pub ranges-pass : (t : List ℕ) (i s p : ℕ) → records_in t ≡ i → every_below i (range_fits t) ≡ true → s ≡ sum_below i (count_at t) → p ≡ parts_in t
    → leb s p ≡ (ranges_fit t && counts_fit t)
unfolding ranges_fit counts_fit
ranges-pass t i s p n e sum parts =
    ap₂ leb (sum ∙ ap (λ (m : ℕ). sum_below m (count_at t)) (sym n)) parts
    ∙ ap (λ (x : Bool). x && leb (sum_below (records_in t) (count_at t)) (parts_in t)) (sym e ∙ ap (λ (m : ℕ). every_below m (range_fits t)) (sym n))

-- ---- a rule's parameters

pub parameter-word : (w : ℕ) → is_parameter (part_of w) ≡ ltb 256 w
unfolding part_of
parameter-word w = go (ltb w 256) (eqb w 256) (ltb w 512) refl refl
  where
    go : (a b c : Bool) → ltb w 256 ≡ a → eqb w 256 ≡ b
        → is_parameter (select a (Exact w) (select b Whitespace (select c Expression (Nested (w - 512))))) ≡ ltb 256 w
    go true b c p q = sym (le-ltb 256 w (omega (arith, ltb-true w 256 p)))
    go false true c p q = sym (le-ltb 256 w (omega (arith, eqb-true w 256 q)))
    go false false true p q = sym (lt-ltb 256 w (omega (arith, ltb-false w 256 p, eqb-false w 256 q)))
    go false false false p q = sym (lt-ltb 256 w (omega (arith, ltb-false w 256 p, eqb-false w 256 q)))

-- parameters among the parts from one place to another
abbrev pub parameters_from : List ℕ → ℕ → ℕ → ℕ
parameters_from t at end = count is_parameter (parts_between t at end)

pub parameters-whole : (t : List ℕ) (i : ℕ) (r : Range ℕ) → r ≡ rule_span t i → parameters_from t r.start r.end ≡ parameters_in t i
unfolding parameters_in
parameters-whole t i r e = ap (count is_parameter) (parts_whole t i r e)

pub parameters-none : (t : List ℕ) (at end : ℕ) → end ≤ length t → end ≤ at → parameters_from t at end ≡ 0
unfolding count
parameters-none t at end h k = ap (count is_parameter) (parts_none t at end h k)

module _ (t : List ℕ) (at end w : ℕ) (below : at < end) (fits : end ≤ length t) (is : w ≡ word_at t at) where
  parameters-next : (b : Bool) → ltb 256 w ≡ b → parameters_from t at end ≡ select b (suc (parameters_from t (at + 1) end)) (parameters_from t (at + 1) end)
  unfolding count
  parameters-next b e =
      ap (count is_parameter) (parts_next t at end fits below)
      ∙ ap (λ (x : Bool). select x (suc (parameters_from t (at + 1) end)) (parameters_from t (at + 1) end)) (parameter-word (word_at t at) ∙ ap (ltb 256) (sym is) ∙ e)

  pub parameter-here : 256 < w → parameters_from t at end ≡ parameters_from t (at + 1) end + 1
  parameter-here h = parameters-next true (lt-ltb 256 w h) ∙ sym (add-one (parameters_from t (at + 1) end))

  pub parameter-other : w ≤ 256 → parameters_from t at end ≡ parameters_from t (at + 1) end
  parameter-other h = parameters-next false (le-ltb 256 w h)

-- a rule has no more parameters than parts
pub few-parts : (t : List ℕ) (i n : ℕ) → n ≡ count_at t i → n ≤ 8 → true ≡ leb (parameters_in t i) 8
unfolding parameters_in rule_parts rule_words
few-parts t i n e h =
    sym
    (le-leb (parameters_in t i) 8
    (omega (arith, count_most is_parameter (rule_parts t i), length-map (rule_words t i) part_of, length-drop (rule_from t i) (take (rule_from t i + count_at t i) t), length-take (rule_from t i + count_at t i) t)))

pub parameters-few : (t : List ℕ) (i n : ℕ) → n ≡ parameters_in t i → leb n 8 ≡ leb (parameters_in t i) 8
parameters-few t i n e = ap (λ (m : ℕ). leb m 8) e

-- ---- a part word

-- the word that was judged is the table's
pub part-tested : (t : List ℕ) (s f k w : ℕ) (r : Bool) → s ≡ rulesets_in t → f ≡ parts_from t → w ≡ word_at t (f + k) → r ≡ is_part s w
    → r ≡ is_part (rulesets_in t) (part_word_at t k)
unfolding part_word_at
part-tested t s f k w r sets from word e = e ∙ ap₂ is_part sets (word ∙ ap (λ (n : ℕ). word_at t (n + k)) from)

-- ---- the whole

module _ (t : List ℕ) (s r p : ℕ) (sets : s ≡ rulesets_in t) (rules : r ≡ records_in t) (parts : p ≡ parts_in t) where
  pub sizes-are : in_range s r p ≡ sizes_fit t
  unfolding sizes_fit
  sizes-are = ap₂ (λ (m n : ℕ). in_range m n p) sets rules ∙ ap (in_range (rulesets_in t) (records_in t)) parts

  from : 3 + s + 3 * r + p ≡ parts_from t + parts_in t
  from = omega arith

  pub length-fits : length t ≡ 3 + s + 3 * r + p → length_fits t ≡ true
  unfolding length_fits
  length-fits e = eq-eqb (length t) (parts_from t + parts_in t) (e ∙ from)

  pub length-fails : (length t ≡ 3 + s + 3 * r + p → ⊥) → length_fits t ≡ false
  unfolding length_fits
  length-fails n = ne_eqb (length t) (parts_from t + parts_in t) (λ e. n (e ∙ sym from))
