-- The lists of rules to try: written into a buffer by a loop that keeps the rules of which a test holds, and that the
-- marks of a lookup, taken by length, give the order of its definition.
use mathlib.Core.Path.{◌≡◌, refl, sym, ap, ap₂, ◌∙◌}
use mathlib.Core.Logic.{◌⊎◌, inl, inr}
use mathlib.Core.Bool.{Bool, true, false, ◌&&◌, true≢false}
use mathlib.Core.List.{List, [], ◌∷◌, ◌++◌, append-nil, append_assoc, flat_map}
use Prim.Native.Nat.{ℕ, zero, suc, ◌+◌, ◌-◌, ◌≤◌, ◌<◌}
use native.Mathlib.Nat.{zero-add, add-zero}
use native.Mathlib.Numerals.{add-one}
use native.Mathlib.Decide.{ℕ_discrete}
use native.Mathlib.Omega.{arith}
use lib.Dec.{eqb, leb, ltb}
use lib.ListN.{length, get_or, take, drop, set, length-append, length-take, length-drop, take-append-drop}
use lib.Seq.{drop-cons, drop-drop, drop-append-add, take_at, set_at, get_or-set_same, get_or-set_other, append_snoc, length-take-le}
use borrow.Author.Tests.{eqb-true, eq-eqb, ne_eqb, le-ltb, le-leb, lt-leb}
use Rattle.plain.specs.Choice.{select}
use Rattle.plain.specs.Below.{count_below}
use Rattle.plain.specs.Buffers.{put_after}
use Rattle.plain.specs.Lists.{range, keep_if}
use Rattle.plain.proofs.Below.{count_none, count_no, count-more, count_most, count-grows, count_next}
use Rattle.plain.proofs.Lists.{kept-length, kept_more, kept_same, kept-none, kept-both, flat-more, flat-same, flat-fewer}
use Rattle.plain.proofs.Tests.{tested, not-both, and_left, and_right, and_both, and-false-right}
use Rattle.defs.specs.Table.{records_in, rule_parts}
use Rattle.defs.specs.Ruledef.{is_top_rule}
use Rattle.ruledef_map.specs.RuledefMap.{rule_prefix, same_bytes, prefix_length, top_rules, with_prefix, found_in, found_rules, mark_of, with_mark, put_rules}

-- ---- a loop that keeps rules

-- after i rules, the buffer holds from place `from` on those of which the test holds, and n is the place after them
pub record Written (f : ℕ → Bool) (from : ℕ) (buffer : List ℕ) (i n : ℕ) (found : List ℕ) : Type 0 where
  pub held : found ≡ take from buffer ++ keep_if f (range 0 i) ++ drop n buffer
  pub many : n ≡ from + count_below i f

module _ (f : ℕ → Bool) (from : ℕ) (buffer : List ℕ) where
  pub written_none : Written f from buffer 0 from buffer
  unfolding keep_if range
  written_none = record {
    held = sym (ap (λ (l : List ℕ). l ++ drop from buffer) (append-nil (take from buffer)) ∙ take-append-drop from buffer);
    many = sym (ap (λ (n : ℕ). from + n) (count_none f) ∙ add-zero from);
  }

  module _ (n : ℕ) (room : from + count_below n f ≤ length buffer) (i : ℕ) (below : i < n) where
    -- while rules are left, there is room for one that is kept
    pub written-room : (m : ℕ) (found : List ℕ) → Written f from buffer i m found → f i ≡ true → m < length buffer
    written-room m found w e = omega (arith, w.many, count-more i f, ap {B = ℕ} (λ (b : Bool). select b 1 0) e, count-grows (i + 1) n f (omega arith))

  module _ (i m : ℕ) (found : List ℕ) (w : Written f from buffer i m found) where
    front : List ℕ
    front = take from buffer ++ keep_if f (range 0 i)

    front_length : from ≤ length buffer → length front ≡ m
    unfolding front
    front_length h =
        length-append (take from buffer) (keep_if f (range 0 i)) ∙ ap₂ ◌+◌ (length-take-le from buffer h) (kept-length i f) ∙ sym w.many

    pub written-length : from ≤ length buffer → m ≤ length buffer → length found ≡ length buffer
    unfolding front
    written-length h k =
        ap length w.held ∙ length-append front (drop m buffer) ∙ ap₂ ◌+◌ (front_length h) (length-drop m buffer) ∙ omega arith

    pub written-miss : f i ≡ false → Written f from buffer (i + 1) m found
    written-miss e = record {
      held = w.held ∙ ap (λ (l : List ℕ). take from buffer ++ l ++ drop m buffer) (sym (kept_more i f ∙ ap (λ (b : Bool). keep_if f (range 0 i) ++ select b (i ∷ []) []) e ∙ append-nil (keep_if f (range 0 i))));
      many = omega (arith, w.many, count-more i f, ap {B = ℕ} (λ (b : Bool). select b 1 0) e);
    }

    pub written-hit : f i ≡ true → m < length buffer → from ≤ length buffer → Written f from buffer (i + 1) (m + 1) (set found m i)
    unfolding front
    written-hit e h k = record {
      held =
          ap (λ (l : List ℕ). set l m i) (w.held ∙ ap (λ (l : List ℕ). front ++ l) (drop-cons buffer m 0 h))
          ∙ set_at front (get_or buffer m 0) (drop (suc m) buffer) i m (front_length k)
          ∙ sym (append_snoc front i (drop (suc m) buffer))
          ∙ ap₂ (λ (l : List ℕ) (j : ℕ). l ++ drop j buffer) (append_assoc (take from buffer) (keep_if f (range 0 i)) (i ∷ []) ∙ ap (λ (l : List ℕ). take from buffer ++ l) (sym kept)) (sym (add-one m));
      many = omega (arith, w.many, count-more i f, ap {B = ℕ} (λ (b : Bool). select b 1 0) e);
    }
      where
        kept : keep_if f (range 0 (i + 1)) ≡ keep_if f (range 0 i) ++ (i ∷ [])
        kept = kept_more i f ∙ ap (λ (b : Bool). keep_if f (range 0 i) ++ select b (i ∷ []) []) e

    -- all rules done
    pub written_all : (n : ℕ) → i ≡ n → (found, m) ≡ put_after from (keep_if f (range 0 n)) buffer
    written_all n e =
        let end : m ≡ from + length (keep_if f (range 0 n)) = w.many ∙ ap (λ (k : ℕ). from + count_below k f) e ∙ ap (λ (k : ℕ). from + k) (sym (kept-length n f)) in
        ap₂ (λ (l : List ℕ) (k : ℕ). (l, k)) (w.held ∙ ap₂ (λ (j k : ℕ). take from buffer ++ keep_if f (range 0 j) ++ drop k buffer) e end) end

    -- and at the buffer's start
    pub written-first : (n : ℕ) → from ≡ 0 → i ≡ n → ◌≡◌ {A = List ℕ × ℕ} (found, m) (keep_if f (range 0 n) ++ drop (length (keep_if f (range 0 n))) buffer, length (keep_if f (range 0 n)))
    written-first n z e = written_all n e ∙ ap (λ (k : ℕ). put_after k (keep_if f (range 0 n)) buffer) z ∙ first (keep_if f (range 0 n))
      where
        first : (l : List ℕ) → ◌≡◌ {A = List ℕ × ℕ} (put_after 0 l buffer) (l ++ drop (length l) buffer, length l)
        first l = ap (λ (k : ℕ). (l ++ drop k buffer, k)) (zero-add (length l))

-- ---- lists at the buffer's start

module _ (t rules buffer : List ℕ) where
  pub put-many : 512 < records_in t → (buffer, 0) ≡ put_rules t rules buffer
  unfolding put_rules
  put-many h = sym (ap (λ (b : Bool). select (b && leb (records_in t) (length buffer)) (rules ++ drop (length rules) buffer, length rules) (buffer, 0)) (lt-leb (records_in t) 512 h))

  pub put-short : length buffer < records_in t → (buffer, 0) ≡ put_rules t rules buffer
  unfolding put_rules
  put-short k =
      sym
      (ap (λ (b : Bool). select b (rules ++ drop (length rules) buffer, length rules) (buffer, 0)) (and-false-right (leb (records_in t) 512) _ (lt-leb (records_in t) (length buffer) k)))

  pub put_all : records_in t ≤ 512 → records_in t ≤ length buffer → (rules ++ drop (length rules) buffer, length rules) ≡ put_rules t rules buffer
  unfolding put_rules
  put_all h k =
      sym
      (ap₂ (λ (a b : Bool). select (a && b) (rules ++ drop (length rules) buffer, length rules) (buffer, 0)) (le-leb (records_in t) 512 h) (le-leb (records_in t) (length buffer) k))

-- ---- the marks, taken by length

pub mark-top : (t p : List ℕ) (i r : ℕ) → is_top_rule t i ≡ true → r ≡ prefix_length (rule_parts t i) p → r ≡ mark_of t p i
unfolding mark_of
mark-top t p i r e q = q ∙ sym (ap (λ (b : Bool). select b (prefix_length (rule_parts t i) p) 5) e)

pub mark-nested : (t p : List ℕ) (i : ℕ) → is_top_rule t i ≡ false → 5 ≡ mark_of t p i
unfolding mark_of
mark-nested t p i e = sym (ap (λ (b : Bool). select b (prefix_length (rule_parts t i) p) 5) e)

-- one mark more
pub marks-more : (marks : List ℕ) (n v : ℕ) (g : ℕ → ℕ) → n < length marks → v ≡ g n → ((i : ℕ) → i < n → get_or marks i 0 ≡ g i)
    → (i : ℕ) → i < n + 1 → get_or (set marks n v) i 0 ≡ g i
marks-more marks n v g h e same i l =
    elim (ℕ_discrete i n) [
      | yes q ↦ ap (λ (k : ℕ). get_or (set marks n v) k 0) q ∙ get_or-set_same marks n v 0 h ∙ e ∙ ap g (sym q)
      | no d ↦ get_or-set_other marks n i v 0 d ∙ same i (omega (arith, d))
    ]

module _ (marks : List ℕ) (n : ℕ) where
  -- the rules of the marks below j
  unfoldable pub marks_below : ℕ → List ℕ
  marks_below j = flat_map (with_mark marks n) (range 0 j)

  below_length : (j : ℕ) → length (marks_below j) ≡ count_below n (λ i. ltb (get_or marks i 0) j)
  unfolding marks_below with_mark flat_map range
  below_length zero = sym (count_no n (λ i. ltb (get_or marks i 0) 0) (λ i l. le-ltb (get_or marks i 0) 0 (omega arith)))
  below_length (suc j) =
      ap (λ (k : ℕ). length (marks_below k)) (sym (add-one j))
      ∙ ap length (flat-more (with_mark marks n) j)
      ∙ length-append (marks_below j) (with_mark marks n j)
      ∙ ap₂ ◌+◌ (below_length j) (kept-length n (λ i. eqb (get_or marks i 0) j))
      ∙ sym (count_next n (λ i. get_or marks i 0) j)

  -- there is room for those of the next mark too
  pub below-room : (j : ℕ) → length (marks_below j) + count_below n (λ i. eqb (get_or marks i 0) j) ≤ n
  below-room j =
      omega (arith, below_length j, count_next n (λ i. get_or marks i 0) j, count_most n (λ i. ltb (get_or marks i 0) (suc j)))

  -- the buffer, with the rules of the marks below j at its start
  pub record Taken (buffer : List ℕ) (j m : ℕ) (found : List ℕ) : Type 0 where
    pub held : found ≡ marks_below j ++ drop m buffer
    pub many : m ≡ length (marks_below j)

  pub taken_none : (buffer : List ℕ) → Taken buffer 0 0 buffer
  unfolding marks_below flat_map range
  taken_none buffer = record { held = refl; many = refl }

  pub taken-room : (buffer : List ℕ) (j m : ℕ) (found : List ℕ) → Taken buffer j m found → n ≤ length found → m + count_below n (λ i. eqb (get_or marks i 0) j) ≤ length found
  taken-room buffer j m found w h = omega (arith, w.many, below-room j)

  pub taken_more : (buffer : List ℕ) (j m : ℕ) (found : List ℕ) → Taken buffer j m found
      → (after : List ℕ) (r : ℕ) → (after, r) ≡ put_after m (with_mark marks n j) found → Taken buffer (j + 1) r after
  unfolding marks_below
  taken_more buffer j m found w after r e = record {
    held =
        ap (λ (x : List ℕ × ℕ). x.0) e
        ∙ ap₂ (λ (a b : List ℕ). a ++ with_mark marks n j ++ b) front back
        ∙ ap₂ (λ (a : List ℕ) (k : ℕ). a ++ drop k buffer) (sym (flat-more (with_mark marks n) j)) (sym end);
    many = end ∙ ap (λ (k : ℕ). k + length (with_mark marks n j)) w.many ∙ sym (ap length (flat-more (with_mark marks n) j) ∙ length-append (marks_below j) (with_mark marks n j));
  }
    where
      end : r ≡ m + length (with_mark marks n j)
      end = ap (λ (x : List ℕ × ℕ). x.1) e

      front : take m found ≡ marks_below j
      front = ap (take m) w.held ∙ take_at (marks_below j) (drop m buffer) m (sym w.many)

      back : drop (m + length (with_mark marks n j)) found ≡ drop (m + length (with_mark marks n j)) buffer
      back =
          ap (drop (m + length (with_mark marks n j))) w.held
          ∙ ap (λ (k : ℕ). drop (k + length (with_mark marks n j)) (marks_below j ++ drop m buffer)) w.many
          ∙ drop-append-add (marks_below j) (drop m buffer) (length (with_mark marks n j))
          ∙ drop-drop (length (with_mark marks n j)) m buffer

-- ---- by length, the marks give the order of the lookup

pub same-eq : (xs ys : List ℕ) → same_bytes xs ys ≡ true → xs ≡ ys
same-eq [] [] e = refl
same-eq [] (y ∷ ys) e = absurd (true≢false (sym e))
same-eq (x ∷ xs) [] e = absurd (true≢false (sym e))
same-eq (x ∷ xs) (y ∷ ys) e =
    ap₂ (λ (a : ℕ) (l : List ℕ). a ∷ l) (eqb-true x y (and_left (eqb x y) (same_bytes xs ys) e)) (same-eq xs ys (and_right (eqb x y) (same_bytes xs ys) e))

pub same_refl : (xs : List ℕ) → same_bytes xs xs ≡ true
same_refl [] = refl
same_refl (x ∷ xs) = and_both (eqb x x) (same_bytes xs xs) (eq-eqb x x refl) (same_refl xs)

-- the mark that a prefix q has, of a top rule
abbrev length_mark : List ℕ → List ℕ → ℕ
length_mark q p = select (same_bytes q (take (length q) p)) (length q) 5

module _ (q p : List ℕ) (j : ℕ) (few : j ≤ 4) where
  -- a rule has mark j exactly if its prefix is the line's of length j
  marks-prefix : j ≤ length p → eqb (length_mark q p) j ≡ same_bytes q (take j p)
  marks-prefix h = by (tested (same_bytes q (take (length q) p))) (tested (same_bytes q (take j p)))
    where
      by : (same_bytes q (take (length q) p) ≡ true) ⊎ (same_bytes q (take (length q) p) ≡ false) → (same_bytes q (take j p) ≡ true) ⊎ (same_bytes q (take j p) ≡ false)
          → eqb (select (same_bytes q (take (length q) p)) (length q) 5) j ≡ same_bytes q (take j p)
      by (inl a) (inl c) =
          ap (λ (b : Bool). eqb (select b (length q) 5) j) a
          ∙ eq-eqb (length q) j (ap length (same-eq q (take j p) c) ∙ length-take-le j p h) ∙ sym c
      by (inl a) (inr c) =
          ap (λ (b : Bool). eqb (select b (length q) 5) j) a
          ∙ ne_eqb (length q) j (λ e. not-both (ap (λ (k : ℕ). same_bytes q (take k p)) (sym e) ∙ a) c) ∙ sym c
      by (inr a) (inl c) =
          absurd (not-both (ap (λ (k : ℕ). same_bytes q (take k p)) (ap length (same-eq q (take j p) c) ∙ length-take-le j p h) ∙ c) a)
      by (inr a) (inr c) = ap (λ (b : Bool). eqb (select b (length q) 5) j) a ∙ ne_eqb 5 j (λ e. omega arith) ∙ sym c

  -- no rule has a mark between the line's prefix and four
  marks-past : length p < j → eqb (length_mark q p) j ≡ false
  marks-past h = by (tested (same_bytes q (take (length q) p)))
    where
      by : (same_bytes q (take (length q) p) ≡ true) ⊎ (same_bytes q (take (length q) p) ≡ false) → eqb (select (same_bytes q (take (length q) p)) (length q) 5) j ≡ false
      by (inl a) =
          ap (λ (b : Bool). eqb (select b (length q) 5) j) a
          ∙ ne_eqb (length q) j (λ e. omega (arith, ap length (same-eq q (take (length q) p) a), length-take (length q) p))
      by (inr a) = ap (λ (b : Bool). eqb (select b (length q) 5) j) a ∙ ne_eqb 5 j (λ e. omega arith)

module _ (t p marks : List ℕ) (short : length p ≤ 4) (all : (i : ℕ) → i < records_in t → get_or marks i 0 ≡ mark_of t p i) where
  judged : (i j : ℕ) (b : Bool) → is_top_rule t i ≡ b → i < records_in t → eqb (get_or marks i 0) j ≡ eqb (select b (prefix_length (rule_parts t i) p) 5) j
  unfolding mark_of
  judged i j b e h = ap (λ (n : ℕ). eqb n j) (all i h ∙ ap (λ (x : Bool). select x (prefix_length (rule_parts t i) p) 5) e)

  at_length : (j : ℕ) → j ≤ length p → with_mark marks (records_in t) j ≡ with_prefix (rule_parts t) (top_rules t) (take j p)
  unfolding with_mark with_prefix prefix_length top_rules
  at_length j h =
      kept_same (records_in t) (λ i. eqb (get_or marks i 0) j) (λ i. is_top_rule t i && same_bytes (rule_prefix (rule_parts t i)) (take j p))
      (λ i l. judged i j (is_top_rule t i) refl l ∙ by i (is_top_rule t i))
      ∙ sym (kept-both (is_top_rule t) (λ i. same_bytes (rule_prefix (rule_parts t i)) (take j p)) (range 0 (records_in t)))
    where
      by : (i : ℕ) (b : Bool) → eqb (select b (prefix_length (rule_parts t i) p) 5) j ≡ (b && same_bytes (rule_prefix (rule_parts t i)) (take j p))
      by i true = marks-prefix (rule_prefix (rule_parts t i)) p j (omega arith) h
      by i false = ne_eqb 5 j (λ e. omega arith)

  past-length : (j : ℕ) → length p < j → j ≤ 4 → with_mark marks (records_in t) j ≡ []
  unfolding with_mark prefix_length
  past-length j h k = kept-none (records_in t) (λ i. eqb (get_or marks i 0) j) (λ i l. judged i j (is_top_rule t i) refl l ∙ by i (is_top_rule t i))
    where
      by : (i : ℕ) (b : Bool) → eqb (select b (prefix_length (rule_parts t i) p) 5) j ≡ false
      by i true = marks-past (rule_prefix (rule_parts t i)) p j k h
      by i false = ne_eqb 5 j (λ e. omega arith)

  -- all marks taken, the rules are the lookup's, in its order
  pub marks-found : marks_below marks (records_in t) 5 ≡ found_rules t p
  unfolding marks_below found_in
  marks-found =
      let whole : 5 ≡ suc (length p) + (4 - length p) = omega arith in
      ap (λ (n : ℕ). flat_map (with_mark marks (records_in t)) (range 0 n)) whole
      ∙ flat-fewer (with_mark marks (records_in t)) (suc (length p)) (4 - length p) (λ j l k. past-length j l (omega arith))
      ∙ flat-same (with_mark marks (records_in t)) (λ j. with_prefix (rule_parts t) (top_rules t) (take j p)) (suc (length p)) (λ j l. at_length j (omega arith))

-- the loop's end: every mark is taken
pub taken-all : (t p marks buffer : List ℕ) (n j m : ℕ) (found : List ℕ) → length p ≤ 4 → n ≡ records_in t
    → ((i : ℕ) → i < n → get_or marks i 0 ≡ mark_of t p i) → j ≡ 5 → Taken marks n buffer j m found
    → ◌≡◌ {A = List ℕ × ℕ} (found, m) (found_rules t p ++ drop (length (found_rules t p)) buffer, length (found_rules t p))
taken-all t p marks buffer n j m found short rules all five w =
    let is : marks_below marks n j ≡ found_rules t p = ap₂ (marks_below marks) rules five ∙ marks-found t p marks short (λ i l. all i (omega arith)) in
    let end : m ≡ length (found_rules t p) = w.many ∙ ap length is in
    ap₂ (λ (l : List ℕ) (k : ℕ). (l, k)) (w.held ∙ ap₂ (λ (l : List ℕ) (k : ℕ). l ++ drop k buffer) is end) end
