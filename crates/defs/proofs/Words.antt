-- The table's words as the code reads them.
use mathlib.Core.Path.{◌≡◌, sym, ap, ◌∙◌}
use mathlib.Core.List.{List, [], ◌∷◌, map}
use Prim.Native.Nat.{ℕ, ◌+◌, ◌*◌, ◌-◌, ◌≤◌, ◌<◌, min}
use native.Mathlib.Numerals.{add-one}
use native.Mathlib.Decide.{dec_le}
use native.Mathlib.Omega.{arith}
use lib.ListN.{length, get_or, take, drop, drop_of_length-le}
use lib.Seq.{slice, slice-cons, take_all, length-take-le}
use borrow.Author.Tests.{lt-ltb, le-ltb, ne_eqb}
use Rattle.defs.specs.Table.{word_at, first_at, count_at, part_of, rule_from, rule_words, rule_span, rule_parts, parts_between}
use Rattle.defs.specs.declared.ruledef.Part.{Part}
use Rattle.defs.specs.declared.ruledef.Part.TheVariants.{Exact, Whitespace, Expression, Nested}
use Rattle.std.specs.declared.ops.Range.{Range}

-- a word as a part, by the tests that the code makes
module _ (w v : ℕ) (is : w ≡ v) where
  pub part-exact : w < 256 → Exact w ≡ part_of v
  unfolding part_of
  part-exact h = sym (rw (part_of, lt-ltb w 256 h)) ∙ ap part_of is

  pub part-whitespace : w ≡ 256 → Whitespace ≡ part_of v
  unfolding part_of
  part-whitespace e = ap part_of (sym e ∙ is)

  pub part-expression : 256 ≤ w → (w ≡ 256 → ⊥) → w < 512 → Expression ≡ part_of v
  unfolding part_of
  part-expression h n k = sym (rw (part_of, le-ltb w 256 h, ne_eqb w 256 n, lt-ltb w 512 k)) ∙ ap part_of is

  pub part-nested : 256 ≤ w → (w ≡ 256 → ⊥) → 512 ≤ w → Nested (w - 512) ≡ part_of v
  unfolding part_of
  part-nested h n k = sym (rw (part_of, le-ltb w 256 h, ne_eqb w 256 n, le-ltb w 512 k)) ∙ ap part_of is

-- where a rule's words stand, from the numbers that the code has read
module _ (t : List ℕ) (i a b f n : ℕ) (sets : a ≡ word_at t 0) (rules : b ≡ word_at t 1) (first : f ≡ first_at t i) (many : n ≡ count_at t i) where
  from : 3 + a + 3 * b + f ≡ rule_from t i
  unfolding rule_from
  from = omega (arith, sets, rules, first)

  pub span-is : {end : ℕ} → end ≡ min (3 + a + 3 * b + f + n) (length t) → ◌≡◌ {A = Range ℕ} (record { start = 3 + a + 3 * b + f; end = end }) (rule_span t i)
  unfolding rule_span
  span-is {end} e =
      let to : end ≡ min (rule_from t i + count_at t i) (length t) = omega (arith, e, from, many) in λ j. record { start = from j; end = to j }

-- ---- the parts between two places

take_within : (n : ℕ) (l : List ℕ) → take (min n (length l)) l ≡ take n l
take_within n l = go (dec_le n (length l))
  where
    go : Dec (n ≤ length l) → take (min n (length l)) l ≡ take n l
    go (yes h) = let e : min n (length l) ≡ n = omega arith in ap (λ (m : ℕ). take m l) e
    go (no h) =
        let e : min n (length l) ≡ length l = omega (arith, h) in
        ap (λ (m : ℕ). take m l) e ∙ take_all (length l) l (omega arith) ∙ sym (take_all n l (omega (arith, h)))

-- from where a rule's parts begin to where they end stand the rule's parts
pub parts_whole : (t : List ℕ) (i : ℕ) (r : Range ℕ) → r ≡ rule_span t i → parts_between t r.start r.end ≡ rule_parts t i
unfolding parts_between rule_span rule_parts rule_words
parts_whole t i r e =
    ap (λ (x : Range ℕ). parts_between t x.start x.end) e
    ∙ ap (λ (l : List ℕ). map part_of (drop (rule_from t i) l)) (take_within (rule_from t i + count_at t i) t)

pub parts_within : (t : List ℕ) (i : ℕ) (r : Range ℕ) → r ≡ rule_span t i → r.end ≤ length t
unfolding rule_span
parts_within t i r e = let to : r.end ≡ min (rule_from t i + count_at t i) (length t) = ap (λ (x : Range ℕ). x.end) e in omega arith

module _ (t : List ℕ) (at end : ℕ) (fits : end ≤ length t) where
  pub parts_none : end ≤ at → parts_between t at end ≡ []
  unfolding parts_between
  parts_none h = ap (map part_of) (drop_of_length-le (take end t) {i = at} (omega (arith, length-take-le end t fits)))

  pub parts_next : at < end → parts_between t at end ≡ part_of (word_at t at) ∷ parts_between t (at + 1) end
  unfolding parts_between word_at
  parts_next h = ap (map part_of) (slice-cons at end t 0 h fits ∙ ap (λ (n : ℕ). get_or t at 0 ∷ slice n end t) (sym (add-one at)))

  -- with the part that was read there
  pub met : at < end → (q : Part) → q ≡ part_of (word_at t at) → parts_between t at end ≡ q ∷ parts_between t (at + 1) end
  met h q is = parts_next h ∙ ap (λ (p : Part). p ∷ parts_between t (at + 1) end) (sym is)
