-- Prefixes as numbers. A rule's is filled byte by byte as its parts are read, and what is left of it is filled with 0; and
-- since no byte of a prefix is 0, two prefixes with one key are the same.
use mathlib.Core.Path.{◌≡◌, refl, sym, ap, ap₂, subst, ◌∙◌}
use mathlib.Core.Logic.{⊎_elim}
use mathlib.Core.Bool.{Bool, true, false, ◌&&◌}
use mathlib.Core.List.{List, [], ◌∷◌}
use Prim.Native.Nat.{ℕ, zero, suc, ◌+◌, ◌*◌, ◌-◌, ◌≤◌, ◌<◌}
use native.Mathlib.Nat.{add-zero}
use native.Mathlib.Omega.{arith}
use lib.Dec.{eqb, ltb}
use lib.ListN.{length, get_or, take, drop, length-take, get_or-eq_default}
use lib.Seq.{get_or-take}
use borrow.Author.Tests.{lt-ltb, le-ltb, ltb-true, eq-eqb, ne_eqb}
use Rattle.plain.specs.Choice.{select}
use Rattle.plain.specs.Lists.{every}
use Rattle.plain.proofs.Tests.{tested, and_left, and_right, not-both}
use Rattle.token.specs.Token.{lowered}
use Rattle.token.proofs.Bytes.{lowered-below}
use Rattle.defs.specs.Table.{word_at, part_of, parts_between}
use Rattle.defs.specs.declared.ruledef.Part.{Part}
use Rattle.defs.specs.declared.ruledef.Part.TheVariants.{Whitespace, Expression, Nested}
use Rattle.defs.proofs.Words.{parts_none, parts_next}
use Rattle.ruledef_map.specs.RuledefMap.{leading, rule_prefix, same_bytes}
use Rattle.ruledef_map.proofs.Orders.{same-eq, same_refl}
use Rattle.sorting.proofs.Insertions.{less-or-not, every-head, every-tail}
use Rattle.leads.specs.Leads.{key_of}

-- ---- filling

-- a key with n bytes more
unfoldable pub filled : ℕ → ℕ → List ℕ → ℕ
filled key zero p = key
filled key (suc n) p = filled (key * 256 + get_or p 0 0) n (drop 1 p)

filled-key : (p : List ℕ) → filled 0 4 p ≡ key_of (take 4 p)
unfolding filled key_of
filled-key [] = refl
filled-key (a ∷ []) = omega arith
filled-key (a ∷ b ∷ []) = omega arith
filled-key (a ∷ b ∷ c ∷ []) = omega arith
filled-key (a ∷ b ∷ c ∷ d ∷ p) = omega arith

-- a key is below this with n bytes to come
unfoldable pub bound : ℕ → ℕ
bound zero = 4294967296
bound (suc zero) = 16777216
bound (suc (suc zero)) = 65536
bound (suc (suc (suc zero))) = 256
bound (suc (suc (suc (suc n)))) = 1

pub bound-none : {key : ℕ} → key < bound 0 → key < 4294967296
unfolding bound
bound-none h = h

pub bound-fits : {key : ℕ} (n : ℕ) → key < bound (suc n) → key < 16777216
unfolding bound
bound-fits zero h = h
bound-fits (suc zero) h = omega arith
bound-fits (suc (suc zero)) h = omega arith
bound-fits (suc (suc (suc n))) h = omega arith

bound-next : {key b : ℕ} (n : ℕ) → n < 4 → b < 256 → key < bound (suc n) → key * 256 + b < bound n
unfolding bound
bound-next zero l k h = omega arith
bound-next (suc zero) l k h = omega arith
bound-next (suc (suc zero)) l k h = omega arith
bound-next (suc (suc (suc zero))) l k h = omega arith
bound-next (suc (suc (suc (suc n)))) l k h = absurd (omega arith)

-- these bytes, and zeros after them, give the rest of the key
pub record Filling (rest : List ℕ) (whole left key : ℕ) : Type 0 where
  pub few : left ≤ 4
  pub small : key < bound left
  pub is : filled key left rest ≡ whole

pub filling-start : (p : List ℕ) → Filling p (key_of (take 4 p)) 4 0
unfolding bound
filling-start p = record { few = omega arith; small = omega arith; is = filled-key p }

pub filling-all : {rest : List ℕ} {whole left key : ℕ} → Filling rest whole left key → left ≤ 0 → (key ≡ whole) × (key < 4294967296)
unfolding filled
filling-all {left = zero} f h = (f.is, bound-none f.small)
filling-all {left = suc n} f h = absurd (omega arith)

filled_none : (key n : ℕ) → filled key (suc n) [] ≡ filled (key * 256) n []
unfolding filled
filled_none key n = ap (λ (k : ℕ). filled k n []) (add-zero (key * 256))

filled_next : (key n b : ℕ) (p : List ℕ) → filled key (suc n) (b ∷ p) ≡ filled (key * 256 + b) n p
unfolding filled
filled_next key n b p = refl

module _ {rest : List ℕ} {whole left key : ℕ} (before : Filling rest whole left key) (more : 0 < left) where
  one_less : left ≡ suc (left - 1)
  one_less = omega arith

  small-now : key < bound (suc (left - 1))
  small-now = subst (λ (n : ℕ). key < bound n) one_less before.small

  is-now : filled key (suc (left - 1)) rest ≡ whole
  is-now = ap (λ (n : ℕ). filled key n rest) (sym one_less) ∙ before.is

  pub filling-fits : key < 16777216
  filling-fits = bound-fits (left - 1) small-now

  -- no byte is left
  pub filling-none : {rest' : List ℕ} → rest ≡ [] → rest' ≡ [] → Filling rest' whole (left - 1) (key * 256)
  filling-none e e' = record {
    few = omega (arith, before.few);
    small = omega (arith, bound-next {b = 0} (left - 1) (omega (arith, before.few)) (omega arith) small-now);
    is = ap (filled (key * 256) (left - 1)) e' ∙ sym (filled_none key (left - 1)) ∙ ap (filled key (suc (left - 1))) (sym e) ∙ is-now;
  }

  pub filling-byte : {rest' : List ℕ} {byte : ℕ} → byte < 256 → rest ≡ byte ∷ rest' → Filling rest' whole (left - 1) (key * 256 + byte)
  filling-byte {rest'} {byte} h e = record {
    few = omega (arith, before.few);
    small = bound-next (left - 1) (omega (arith, before.few)) h small-now;
    is = sym (filled_next key (left - 1) byte rest') ∙ ap (filled key (suc (left - 1))) (sym e) ∙ is-now;
  }

-- ---- a rule's parts

pub leading-none : leading [] ≡ []
unfolding leading
leading-none = refl

-- a word that is no byte ends the prefix
no_byte : (a b : Bool) (r : ℕ) (ps : List Part) → leading (select a Whitespace (select b Expression (Nested r)) ∷ ps) ≡ []
unfolding leading
no_byte true b r ps = refl
no_byte false true r ps = refl
no_byte false false r ps = refl

pub leading-other : (w : ℕ) (ps : List Part) → 256 ≤ w → leading (part_of w ∷ ps) ≡ []
unfolding part_of
leading-other w ps h = rw (le-ltb w 256 h) (no_byte (eqb w 256) (ltb w 512) (w - 512) ps)

pub leading-exact : (w : ℕ) (ps : List Part) → w < 256 → leading (part_of w ∷ ps) ≡ lowered w ∷ leading ps
unfolding part_of leading
leading-exact w ps h = rw (lt-ltb w 256 h)

-- the parts from `at` to before `to` give the rest of the key
pub record PartsFilling (t : List ℕ) (to whole at left key : ℕ) : Type 0 where
  pub rest : Filling (leading (parts_between t at to)) whole left key

pub parts-start : (t : List ℕ) (from to : ℕ) → PartsFilling t to (key_of (rule_prefix (parts_between t from to))) from 4 0
unfolding rule_prefix
parts-start t from to = record { rest = filling-start (leading (parts_between t from to)) }

pub parts-as : {t : List ℕ} {to whole at a b key : ℕ} → a ≡ b → PartsFilling t to whole at a key → PartsFilling t to whole at b key
parts-as {t} {to} {whole} {at} {key = key} e p = subst (λ (n : ℕ). PartsFilling t to whole at n key) e p

module _
    {t : List ℕ}
    {to whole at left key : ℕ}
    (before : PartsFilling t to whole at left key)
    (fits : to ≤ length t)
    (more : 0 < left)
  where
    pub parts-end : to ≤ at → PartsFilling t to whole at (left - 1) (key * 256)
    parts-end h = let e = ap leading (parts_none t at to fits h) ∙ leading-none in record { rest = filling-none before.rest more e e }

    module _ {word : ℕ} (here : at < to) (read : word ≡ get_or t at 0) where
      pub parts-other : 256 ≤ word → PartsFilling t to whole to (left - 1) (key * 256)
      unfolding word_at
      parts-other h = record {
        rest =
            filling-none before.rest more (ap leading (parts_next t at to fits here) ∙ leading-other (word_at t at) (parts_between t (at + 1) to) (omega (arith, read)))
            (ap leading (parts_none t to to fits (omega arith)) ∙ leading-none);
      }

      pub parts-exact : {byte : ℕ} → word < 256 → byte ≡ lowered word → PartsFilling t to whole (at + 1) (left - 1) (key * 256 + byte)
      unfolding word_at
      parts-exact {byte} h low = record {
        rest =
            filling-byte before.rest more (omega (arith, low, lowered-below word h))
            (ap leading (parts_next t at to fits here) ∙ leading-exact (word_at t at) (parts_between t (at + 1) to) (omega (arith, read)) ∙ ap (λ (n : ℕ). n ∷ leading (parts_between t (at + 1) to)) (ap lowered (sym read) ∙ sym low));
      }

-- ---- one key, one prefix

-- a prefix's byte: below 256, and not 0
abbrev pub is_byte : ℕ → Bool
is_byte b = ltb 0 b && ltb b 256

pub byte-some : (b : ℕ) → is_byte b ≡ true → 0 < b
byte-some b h = ltb-true 0 b (and_left (ltb 0 b) (ltb b 256) h)

byte-below : {b : ℕ} → is_byte b ≡ true → b < 256
byte-below {b} h = ltb-true b 256 (and_right (ltb 0 b) (ltb b 256) h)

-- bytes that are the same at n places, and no more
same-places :
    (n : ℕ) (p q : List ℕ) → every is_byte p ≡ true → every is_byte q ≡ true → length p ≤ n → length q ≤ n →
    ((j : ℕ) → j < n → get_or p j 0 ≡ get_or q j 0) → p ≡ q
same-places n [] [] a b k l h = refl
same-places n [] (y ∷ q) a b k l h =
    absurd (omega (arith, h 0 (omega arith), byte-some y (every-head is_byte y q b)))
same-places n (x ∷ p) [] a b k l h =
    absurd (omega (arith, h 0 (omega arith), byte-some x (every-head is_byte x p a)))
same-places zero (x ∷ p) (y ∷ q) a b k l h = absurd (omega arith)
same-places (suc n) (x ∷ p) (y ∷ q) a b k l h =
    ap₂ ◌∷◌ (h 0 (omega arith))
    (same-places n p q (every-tail is_byte x p a) (every-tail is_byte y q b) (omega arith) (omega arith) (λ j m. h (suc j) (omega arith)))

pub small_at : (p : List ℕ) → every is_byte p ≡ true → (j : ℕ) → get_or p j 0 < 256
small_at [] h j = omega arith
small_at (x ∷ p) h zero = byte-below (every-head is_byte x p h)
small_at (x ∷ p) h (suc j) = small_at p (every-tail is_byte x p h) j

-- a byte after what weighs more
high_same : {a b c d : ℕ} → b < 256 → d < 256 → a * 256 + b ≡ c * 256 + d → a ≡ c
high_same k l e = omega arith

low_same : (a c : ℕ) {b d : ℕ} → b < 256 → d < 256 → a * 256 + b ≡ c * 256 + d → b ≡ d
low_same a c k l e = omega arith

module _ (p q : List ℕ) (a : every is_byte p ≡ true) (b : every is_byte q ≡ true) where
  key-places : key_of p ≡ key_of q → (j : ℕ) → j < 4 → get_or p j 0 ≡ get_or q j 0
  unfolding key_of
  key-places e j l =
      let e₃ = high_same (small_at p a 3) (small_at q b 3) e in
      let e₂ = high_same (small_at p a 2) (small_at q b 2) e₃ in
      at j l (high_same (small_at p a 1) (small_at q b 1) e₂) (low_same _ _ (small_at p a 1) (small_at q b 1) e₂) (low_same _ _ (small_at p a 2) (small_at q b 2) e₃) (low_same _ _ (small_at p a 3) (small_at q b 3) e)
    where
      at :
          (j : ℕ) → j < 4 → get_or p 0 0 ≡ get_or q 0 0 → get_or p 1 0 ≡ get_or q 1 0 → get_or p 2 0 ≡ get_or q 2 0 →
          get_or p 3 0 ≡ get_or q 3 0 → get_or p j 0 ≡ get_or q j 0
      at zero l c d f g = c
      at (suc zero) l c d f g = d
      at (suc (suc zero)) l c d f g = f
      at (suc (suc (suc zero))) l c d f g = g
      at (suc (suc (suc (suc j)))) l c d f g = absurd (omega arith)

  -- the same bytes have the same key, and no others
  pub same_key : length p ≤ 4 → length q ≤ 4 → eqb (key_of p) (key_of q) ≡ same_bytes p q
  same_key k l =
      ⊎_elim (λ t. eq-eqb (key_of p) (key_of q) (ap key_of (same-eq p q t)) ∙ sym t)
      (λ f. ne_eqb (key_of p) (key_of q) (λ e. not-both (ap (same_bytes p) (sym (same-places 4 p q a b k l (key-places e))) ∙ same_refl p) f) ∙ sym f)
      (tested (same_bytes p q))

-- ---- a prefix's first bytes

taken_at : (size : ℕ) (p : List ℕ) (j : ℕ) → get_or (take size p) j 0 ≡ select (ltb j size) (get_or p j 0) 0
taken_at size p j =
    less-or-not j size (λ l. rw (lt-ltb j size l) (get_or-take size p j 0 l))
    (λ l. rw (le-ltb j size l) (get_or-eq_default (take size p) 0 {n = j} (omega (arith, length-take size p))))

pub key-within :
    (size : ℕ) (p : List ℕ) {a b c d : ℕ} → a ≡ select (ltb 0 size) (get_or p 0 0) 0 →
    b ≡ select (ltb 1 size) (get_or p 1 0) 0 → c ≡ select (ltb 2 size) (get_or p 2 0) 0 →
    d ≡ select (ltb 3 size) (get_or p 3 0) 0 → ((a * 256 + b) * 256 + c) * 256 + d ≡ key_of (take size p)
unfolding key_of
key-within size p e f g h =
    rw (e, f, g, h, taken_at size p 0, taken_at size p 1, taken_at size p 2, taken_at size p 3)
