-- Fields of a text as the code reads them: bytes cut at a byte, digits, numbers and parts.
use mathlib.Core.Path.{◌≡◌, refl, sym, ap, ap₂, ◌∙◌, subst}
use mathlib.Core.Logic.{◌⊎◌, inl, inr}
use mathlib.Core.Bool.{Bool, true, false, not, ◌&&◌, or-false, cond}
use mathlib.Core.List.{[], ◌∷◌, ◌++◌}
use Rattle.std.specs.Prelude.{Option, None, Some}
use Rattle.std.specs.List.{position_or_len, prefix_len}
use Prim.Native.Nat.{ℕ, suc, ◌+◌, ◌*◌, ◌-◌, ◌/◌, ◌%◌, ◌≤◌, ◌<◌}
use native.Mathlib.Decide.{dec_lt, dec_le}
use native.Mathlib.Omega.{arith}
use lib.Dec.{eqb, leb, ltb}
use lib.ListN.{length, get_or, take, drop, length-drop, take-append-drop, drop_of_length-le}
use lib.Seq.{drop-cons, take-length}
use lib.Pointwise.{pointwise}
use borrow.Author.Tests.{leb-true, eqb-true, ne_eqb, eq-eqb, le-leb, lt-ltb, le-ltb, lt-leb}
use Rattle.std.proofs.lemmas.List.Sums.{prefix_len_stops, prefix_len-le-length}
use Rattle.plain.specs.Choice.{select}
use Rattle.plain.specs.Lists.{every}
use Rattle.plain.proofs.Options.{none-ne-some, some-ne-none, some_inj}
use Rattle.plain.proofs.Tests.{tested, not-both, and_left, and_right, and_both, and-false-left, and-false-right}
use Rattle.defs.specs.Table.{is_part}
use Rattle.defs.specs.declared.ruledef.Part.TheVariants.{Exact, Whitespace, Expression}
use Rattle.printing.specs.Listing.{Bytes, ws_word, expr_word, sub_word, decimal}
use Rattle.printing.specs.Reading.{same, number_of, nested_in, other_part, part_in, pieces}
use Rattle.printing.specs.FirstBad.{lacks}
use Rattle.printing.proofs.Pieces.{same_true, piece-first}
use Rattle.printing.proofs.Decimals.{number-decimal, number_is, decimal-one, decimal-two}
use Rattle.printing.proofs.Fields.{part-read}
use Rattle.fields.specs.Said.{Cut, low_number, digit_of, word_in}

-- ---- bytes cut

module _ (byte : ℕ) where
  lacks-before : (t : Bytes) → lacks byte (take (prefix_len (λ b. not (eqb b byte)) t) t) ≡ true
  unfolding lacks every
  lacks-before [] = refl
  lacks-before (b ∷ t) = go (not (eqb b byte)) refl (lacks-before t)
    where
      go : (s : Bool) → not (eqb b byte) ≡ s → lacks byte (take (prefix_len (λ c. not (eqb c byte)) t) t) ≡ true
          → lacks byte (take (cond s (1 + prefix_len (λ c. not (eqb c byte)) t) 0) (b ∷ t)) ≡ true
      go true e h =
          let more : suc (prefix_len (λ c. not (eqb c byte)) t) ≡ 1 + prefix_len (λ c. not (eqb c byte)) t = omega arith in
          subst (λ (k : ℕ). lacks byte (take k (b ∷ t)) ≡ true) more (and_both (not (eqb b byte)) _ e h)
      go false e h = refl

  module _ (t : Bytes) where
    abbrev pub n : ℕ
    n = position_or_len (λ b. eqb b byte) t

    not_not : (b : Bool) → not b ≡ false → b ≡ true
    not_not true h = refl
    not_not false h = absurd (not-both refl h)

    before : lacks byte (take n t) ≡ true
    before = lacks-before t

    -- no byte is one that is sought
    pub sought-none : cond (ltb n (length t)) (Some n) None ≡ None → lacks byte t ≡ true
    sought-none e = go (dec_lt n (length t))
      where
        go : Dec (n < length t) → lacks byte t ≡ true
        go (yes h) = absurd (some-ne-none _ (sym (ap (λ (b : Bool). cond b (Some n) None) (lt-ltb n (length t) h)) ∙ e))
        go (no h) = let all : n ≡ length t = omega (arith, h, prefix_len-le-length (λ b. not (eqb b byte)) t) in ap (lacks byte) (sym (ap (λ (k : ℕ). take k t) all ∙ take-length t)) ∙ before

    -- the first is cut
    pub sought-cut : (i : ℕ) → Some i ≡ cond (ltb n (length t)) (Some n) None → Cut t byte (take i t) (take (length t - (i + 1)) (drop (i + 1) t))
    sought-cut i e = subst (λ (x : Bytes). Cut t byte (take i t) x) all (go (dec_lt n (length t)))
      where
        all : drop (i + 1) t ≡ take (length t - (i + 1)) (drop (i + 1) t)
        all = sym (ap (λ (k : ℕ). take k (drop (i + 1) t)) (sym (length-drop (i + 1) t)) ∙ take-length (drop (i + 1) t))

        go : Dec (n < length t) → Cut t byte (take i t) (drop (i + 1) t)
        go (no h) = absurd (some-ne-none _ (e ∙ ap (λ (b : Bool). cond b (Some n) None) (le-ltb n (length t) (omega (arith, h)))))
        go (yes h) =
            let is : i ≡ n = some_inj (e ∙ ap (λ (b : Bool). cond b (Some n) None) (lt-ltb n (length t) h)) in
            let next : suc n ≡ n + 1 = omega arith in
            let here : get_or t n 0 ≡ byte = eqb-true _ byte (not_not (eqb (get_or t n 0) byte) (prefix_len_stops (λ b. not (eqb b byte)) t 0 h)) in
            subst (λ (k : ℕ). Cut t byte (take k t) (drop (k + 1) t)) (sym is)
            (record {
              lacking = before;
              is = sym (take-append-drop n t) ∙ ap (λ (x : Bytes). take n t ++ x) (drop-cons t n 0 h ∙ ap₂ (λ (b k : ℕ). b ∷ drop k t) here next);
            })

-- bytes of a length
pub one_byte : (x : Bytes) → length x ≡ 1 → x ≡ get_or x 0 0 ∷ []
one_byte [] h = absurd (omega arith)
one_byte (b ∷ []) h = refl
one_byte (b ∷ (c ∷ x)) h = absurd (omega arith)

pub two_bytes : (x : Bytes) → length x ≡ 2 → x ≡ get_or x 0 0 ∷ get_or x 1 0 ∷ []
two_bytes [] h = absurd (omega arith)
two_bytes (b ∷ []) h = absurd (omega arith)
two_bytes (b ∷ (c ∷ [])) h = refl
two_bytes (b ∷ (c ∷ (e ∷ x))) h = absurd (omega arith)

-- what is cut is cut into pieces
pub cut-pieces : (byte : ℕ) (t x y : Bytes) → Cut t byte x y → pieces byte t ≡ x ∷ pieces byte y
cut-pieces byte t x y c = ap (pieces byte) c.is ∙ piece-first byte x y c.lacking

-- ---- bytes compared

pub same_not : (x y : Bytes) → (length x ≡ length y → ⊥) → same x y ≡ false
same_not x y n = go (tested (same x y))
  where
    go : (same x y ≡ true) ⊎ (same x y ≡ false) → same x y ≡ false
    go (inl h) = absurd (n (ap length (same_true x y h)))
    go (inr h) = h

module _ (f w : Bytes) (i : ℕ) (here : i < length f) (low : i < length w) where
  heads : same (drop i f) (drop i w) ≡ (eqb (get_or f i 0) (get_or w i 0) && same (drop (i + 1) f) (drop (i + 1) w))
  unfolding same
  heads =
      let q : suc i ≡ i + 1 = omega arith in
      ap₂ same
      (drop-cons f i 0 here ∙ ap (λ (n : ℕ). get_or f i 0 ∷ drop n f) q)
      (drop-cons w i 0 low ∙ ap (λ (n : ℕ). get_or w i 0 ∷ drop n w) q)

  pub same_step : get_or f i 0 ≡ get_or w i 0 → same (drop (i + 1) f) (drop (i + 1) w) ≡ same (drop i f) (drop i w)
  same_step e = sym (heads ∙ ap (λ (b : Bool). b && same (drop (i + 1) f) (drop (i + 1) w)) (eq-eqb (get_or f i 0) (get_or w i 0) e))

  pub same_stop : (get_or f i 0 ≡ get_or w i 0 → ⊥) → same (drop i f) (drop i w) ≡ false
  same_stop n = heads ∙ and-false-left _ _ (ne_eqb (get_or f i 0) (get_or w i 0) n)

pub same_over : (f w : Bytes) (i : ℕ) → length f ≤ i → length w ≤ i → same (drop i f) (drop i w) ≡ true
unfolding same
same_over f w i h l = ap₂ same (drop_of_length-le f {i = i} h) (drop_of_length-le w {i = i} l)

pub same_pointwise : (x y : Bytes) → pointwise eqb x y ≡ same x y
unfolding same
same_pointwise [] [] = refl
same_pointwise [] (c ∷ y) = refl
same_pointwise (b ∷ x) [] = refl
same_pointwise (b ∷ x) (c ∷ y) = ap (λ (s : Bool). eqb b c && s) (same_pointwise x y)

-- ---- numbers

pub digit-no : (b : ℕ) → (48 ≤ b → b ≤ 57 → ⊥) → None ≡ digit_of b
unfolding digit_of
digit-no b n = go (tested (leb 48 b && leb b 57))
  where
    go : ((leb 48 b && leb b 57) ≡ true) ⊎ ((leb 48 b && leb b 57) ≡ false) → None ≡ select (leb 48 b && leb b 57) (Some (b - 48)) None
    go (inl h) = absurd (n (leb-true 48 b (and_left (leb 48 b) _ h)) (leb-true b 57 (and_right (leb 48 b) _ h)))
    go (inr h) = sym (ap (λ (x : Bool). select x (Some (b - 48)) None) h)

pub digit-yes : (b : ℕ) → 48 ≤ b → b ≤ 57 → Some (b - 48) ≡ digit_of b
unfolding digit_of
digit-yes b h l = sym (ap (λ (x : Bool). select x (Some (b - 48)) None) (and_both _ _ (le-leb 48 b h) (le-leb b 57 l)))

-- a byte is a digit's, or no digit's
digit-of : (d : ℕ) → d < 10 → digit_of (48 + d) ≡ Some d
digit-of d h = let e : 48 + d - 48 ≡ d = omega arith in sym (digit-yes (48 + d) (omega arith) (omega arith)) ∙ ap Some e

pub digit-back : (b d : ℕ) → digit_of b ≡ Some d → (b ≡ 48 + d) × (d < 10)
digit-back b d e = go (dec_le 48 b) (dec_le b 57)
  where
    go : Dec (48 ≤ b) → Dec (b ≤ 57) → (b ≡ 48 + d) × (d < 10)
    go (yes p) (yes q) = let is : b - 48 ≡ d = some_inj (digit-yes b p q ∙ e) in (omega arith, omega arith)
    go (no p) q = absurd (none-ne-some _ (digit-no b (λ x y. p x) ∙ e))
    go (yes p) (no q) = absurd (none-ne-some _ (digit-no b (λ x y. q y) ∙ e))

low-none : (x : Bytes) → ((n : ℕ) → n < 100 → x ≡ decimal n → ⊥) → None ≡ low_number (number_of x)
low-none x h = go (number_of x) refl
  where
    go : (o : Option ℕ) → number_of x ≡ o → None ≡ low_number o
    go None e = refl
    go (Some n) e = by (dec_lt n 100)
      where
        by : Dec (n < 100) → None ≡ select (ltb n 100) (Some n) None
        by (yes l) = absurd (h n l (number_is x n e))
        by (no l) = sym (ap (λ (b : Bool). select b (Some n) None) (le-ltb n 100 (omega (arith, l))))

pub low-some : (x : Bytes) (n : ℕ) → n < 100 → x ≡ decimal n → Some n ≡ low_number (number_of x)
low-some x n h e =
    sym (ap (λ (y : Bytes). low_number (number_of y)) e ∙ ap low_number (number-decimal n) ∙ ap (λ (b : Bool). select b (Some n) None) (lt-ltb n 100 h))

size_of : (n : ℕ) → n < 100 → ((n < 10) × (length (decimal n) ≡ 1)) ⊎ ((10 ≤ n) × (length (decimal n) ≡ 2))
size_of n h = go (dec_lt n 10)
  where
    go : Dec (n < 10) → ((n < 10) × (length (decimal n) ≡ 1)) ⊎ ((10 ≤ n) × (length (decimal n) ≡ 2))
    go (yes l) = inl (l, ap length (decimal-one n l))
    go (no l) = inr (omega (arith, l), ap length (decimal-two n (omega (arith, l)) h))

pub low-long : (x : Bytes) → (length x ≡ 1 → ⊥) → (length x ≡ 2 → ⊥) → None ≡ low_number (number_of x)
low-long x p q = low-none x (λ n h e. go n e (size_of n h))
  where
    go : (n : ℕ) → x ≡ decimal n → ((n < 10) × (length (decimal n) ≡ 1)) ⊎ ((10 ≤ n) × (length (decimal n) ≡ 2)) → ⊥
    go n e (inl k) = p (ap length e ∙ k.1)
    go n e (inr k) = q (ap length e ∙ k.1)

pub low-one : (b : ℕ) → digit_of b ≡ low_number (number_of (b ∷ []))
low-one b = go (digit_of b) refl
  where
    none : digit_of b ≡ None → (n : ℕ) → n < 100 → b ∷ [] ≡ decimal n → ⊥
    none p n h e = elim (size_of n h) [
      | inl k ↦ let is : b ≡ 48 + n = ap (λ (l : Bytes). get_or l 0 0) (e ∙ decimal-one n k.0) in some-ne-none _ (sym (digit-of n k.0) ∙ ap digit_of (sym is) ∙ p)
      | inr k ↦ omega (arith, ap length e, k.1)
    ]

    go : (o : Option ℕ) → digit_of b ≡ o → o ≡ low_number (number_of (b ∷ []))
    go None e = low-none (b ∷ []) (none e)
    go (Some d) e = let z = digit-back b d e in low-some (b ∷ []) d (omega (arith, z)) (ap (λ (c : ℕ). c ∷ []) z.0 ∙ sym (decimal-one d z.1))

-- two digits: what they are if it is a number
module _ (b c : ℕ) where
  two-are : (n : ℕ) → n < 100 → b ∷ c ∷ [] ≡ decimal n → (10 ≤ n) × (digit_of b ≡ Some (n / 10)) × (digit_of c ≡ Some (n % 10))
  two-are n h e = elim (size_of n h) [
    | inl k ↦ absurd (omega (arith, ap length e, k.1))
    | inr k ↦ (k.0, ap digit_of (ap (λ (l : Bytes). get_or l 0 0) (e ∙ decimal-two n k.0 h)) ∙ digit-of (n / 10) (omega arith), ap digit_of (ap (λ (l : Bytes). get_or l 1 0) (e ∙ decimal-two n k.0 h)) ∙ digit-of (n % 10) (omega arith))
  ]

  pub two-first : digit_of b ≡ None → None ≡ low_number (number_of (b ∷ c ∷ []))
  two-first z = low-none (b ∷ c ∷ []) (λ n h e. none-ne-some _ (sym z ∙ (two-are n h e).1))

  pub two-second : digit_of c ≡ None → None ≡ low_number (number_of (b ∷ c ∷ []))
  two-second z = low-none (b ∷ c ∷ []) (λ n h e. none-ne-some _ (sym z ∙ (two-are n h e).2))

  pub two-zero : digit_of b ≡ Some 0 → None ≡ low_number (number_of (b ∷ c ∷ []))
  two-zero z = low-none (b ∷ c ∷ []) (λ n h e. let k = two-are n h e in let zero : 0 ≡ n / 10 = some_inj (sym z ∙ k.1) in omega (arith, k.0))

  pub two-some : (t o : ℕ) → digit_of b ≡ Some t → digit_of c ≡ Some o → (t ≡ 0 → ⊥) → Some (10 * t + o) ≡ low_number (number_of (b ∷ c ∷ []))
  two-some t o p q n =
      let tens = digit-back b t p in
      let ones = digit-back c o q in
      let v : ℕ = 10 * t + o in
      let first : b ≡ 48 + v / 10 = omega (arith, tens, ones) in
      let second : c ≡ 48 + v % 10 = omega (arith, tens, ones) in
      low-some (b ∷ c ∷ []) v (omega (arith, tens, ones)) (ap₂ (λ (x y : ℕ). x ∷ y ∷ []) first second ∙ sym (decimal-two v (omega (arith, n)) (omega (arith, tens, ones))))

-- ---- parts

-- a byte is a part of a table without rulesets exactly if it is an exact part
is-exact : (b : ℕ) → b < 256 → is_part 0 b ≡ (leb 33 b && leb b 126 && not (eqb b 59))
unfolding is_part
is-exact b h = rw (is_part, ne_eqb b 256 (λ e. omega arith), ne_eqb b 257 (λ e. omega arith), lt-leb 512 b (omega arith)) (simp or-false)

pub exact-yes : (b : ℕ) → b < 256 → is_part 0 b ≡ true → Some b ≡ word_in 0 (Some (Exact b))
exact-yes b h e = sym (ap (λ (x : Bool). select x (Some b) None) (sym (is-exact b h) ∙ e))

pub exact-no : (b : ℕ) → b < 256 → is_part 0 b ≡ false → None ≡ word_in 0 (Some (Exact b))
exact-no b h e = sym (ap (λ (x : Bool). select x (Some b) None) (sym (is-exact b h) ∙ e))

module _ (s : ℕ) where
  pub word-exact : (b : ℕ) → word_in 0 (Some (Exact b)) ≡ word_in s (part_in (b ∷ []))
  word-exact b = sym (ap (word_in s) (part-read (Exact b)))

  pub word-ws : (x : Bytes) → same x ws_word ≡ true → Some 256 ≡ word_in s (part_in x)
  word-ws x h = sym (ap (λ (y : Bytes). word_in s (part_in y)) (same_true x ws_word h) ∙ ap (word_in s) (part-read Whitespace))

  pub word-expr : (x : Bytes) → same x expr_word ≡ true → Some 257 ≡ word_in s (part_in x)
  word-expr x h = sym (ap (λ (y : Bytes). word_in s (part_in y)) (same_true x expr_word h) ∙ ap (word_in s) (part-read Expression))

  -- other fields than these
  module _ (x : Bytes) (p : same x ws_word ≡ false) (q : same x expr_word ≡ false) where
    other-is : part_in x ≡ other_part x
    unfolding part_in
    other-is = rw (part_in, p, q)

    -- one that does not begin with `sub` says no part, but for a field of one byte
    pub word-other : (length x ≡ 1 → ⊥) → pointwise eqb (take 3 x) sub_word ≡ false → None ≡ word_in s (part_in x)
    word-other n h = sym (ap (word_in s) other-is ∙ go x n (sym (same_pointwise (take 3 x) sub_word) ∙ h))
      where
        go : (y : Bytes) → (length y ≡ 1 → ⊥) → same (take 3 y) sub_word ≡ false → word_in s (other_part y) ≡ None
        go [] m k = refl
        go (b ∷ []) m k = absurd (m refl)
        go (b ∷ (c ∷ [])) m k = refl
        go (b ∷ (c ∷ (e ∷ y))) m k = ap (λ (t : Bool). word_in s (select t (nested_in (number_of y)) None)) k

    nested : pointwise eqb (take 3 x) sub_word ≡ true → part_in x ≡ nested_in (number_of (drop 3 x))
    unfolding same
    nested h = other-is ∙ go x (sym (same_pointwise (take 3 x) sub_word) ∙ h)
      where
        go : (y : Bytes) → same (take 3 y) sub_word ≡ true → other_part y ≡ nested_in (number_of (drop 3 y))
        go [] k = absurd (not-both k refl)
        go (b ∷ []) k = absurd (not-both k (and-false-right (eqb b 115) false refl))
        go (b ∷ (c ∷ [])) k = absurd (not-both k (and-false-right (eqb b 115) _ (and-false-right (eqb c 117) false refl)))
        go (b ∷ (c ∷ (e ∷ y))) k = ap (λ (t : Bool). select t (nested_in (number_of y)) None) k

    module _ (is : pointwise eqb (take 3 x) sub_word ≡ true) where
      pub word-unnumbered : None ≡ low_number (number_of (drop 3 x)) → s ≤ 32 → None ≡ word_in s (part_in x)
      word-unnumbered e small = sym (ap (word_in s) (nested is) ∙ go (number_of (drop 3 x)) e)
        where
          go : (o : Option ℕ) → None ≡ low_number o → word_in s (nested_in o) ≡ None
          go None k = refl
          go (Some m) k = by (dec_lt m s)
            where
              by : Dec (m < s) → select (ltb m s) (Some (512 + m)) None ≡ None
              by (no l) = ap (λ (b : Bool). select b (Some (512 + m)) None) (le-ltb m s (omega (arith, l)))
              by (yes l) = absurd (none-ne-some _ (k ∙ ap (λ (b : Bool). select b (Some m) None) (lt-ltb m 100 (omega arith))))

      module _ (n : ℕ) (e : Some n ≡ low_number (number_of (drop 3 x))) where
        numbered : number_of (drop 3 x) ≡ Some n
        numbered = go (number_of (drop 3 x)) e
          where
            go : (o : Option ℕ) → Some n ≡ low_number o → o ≡ Some n
            go None k = absurd (some-ne-none _ k)
            go (Some m) k = by (ltb m 100) k
              where
                by : (b : Bool) → Some n ≡ select b (Some m) None → Some m ≡ Some n
                by true j = sym j
                by false j = absurd (some-ne-none _ j)

        word-is : word_in s (part_in x) ≡ select (ltb n s) (Some (512 + n)) None
        word-is = ap (word_in s) (nested is ∙ ap nested_in numbered)

        pub word-sub : n < s → Some (512 + n) ≡ word_in s (part_in x)
        word-sub l = sym (word-is ∙ ap (λ (b : Bool). select b (Some (512 + n)) None) (lt-ltb n s l))

        pub word-past : s ≤ n → None ≡ word_in s (part_in x)
        word-past l = sym (word-is ∙ ap (λ (b : Bool). select b (Some (512 + n)) None) (le-ltb n s l))
