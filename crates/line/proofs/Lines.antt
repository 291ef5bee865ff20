-- The line's check: bytes tried many at once and the scan for the first bad byte, for the code, and that a line has no fault
-- exactly if it is good.
use mathlib.Core.Path.{◌≡◌, refl, sym, ap, ◌∙◌}
use mathlib.Core.Logic.{◌↔◌}
use mathlib.Core.Bool.{Bool, true, false, not, ◌&&◌, ◌||◌}
use mathlib.Core.List.{List, [], ◌∷◌, ◌++◌}
use Rattle.std.specs.Prelude.{Option, None, Some}
use Rattle.plain.proofs.Options.{some-ne-none}
use Prim.Native.Nat.{ℕ, zero, suc, ◌+◌, ◌-◌, ◌≤◌, ◌<◌}
use native.Mathlib.Numerals.{add-one}
use native.Mathlib.Decide.{dec_lt}
use native.Mathlib.Omega.{arith}
use lib.Dec.{leb, ltb, eqb}
use lib.ListN.{length, get_or, length-append}
use lib.Seq.{get_or_at}
use Rattle.std.specs.List.{position, position_from}
use Rattle.std.proofs.lemmas.Iterator.Adapters.{position_from-zero}
use Rattle.std.specs.Prelude.{cond}
use borrow.Author.Tests.{lt-ltb, le-ltb, ltb-true, ltb-false, le-leb, lt-leb, eq-eqb}
use Rattle.plain.specs.Choice.{select}
use Rattle.plain.proofs.Tests.{or-false-left, or-false-right}
use Rattle.token.specs.Token.{is_whitespace}
use Rattle.token.proofs.Bytes.{white-above, white-from}
use Rattle.syntax.specs.Walker.{byte_at}
use Rattle.line.specs.Line.{is_allowed, AllowedBetween, GoodLine, first_bad, ends_open, or_else, fault_at, numbered, line_verdict}

-- ---- a byte, as the code tests it

module _ (b : ℕ) where
  printed : 33 ≤ b → false ≡ is_whitespace b
  printed h = white-above 32 b (omega arith) (omega arith)

  pub allowed-low : b < 33 → is_whitespace b ≡ is_allowed b
  unfolding is_allowed
  allowed-low h = go (is_whitespace b)
    where
      go : (w : Bool) → w ≡ (w || leb 33 b && leb b 126 && not (eqb b 59))
      go true = refl
      go false = rw (lt-leb 33 b h)

  pub allowed-high : 33 ≤ b → 126 < b → false ≡ is_allowed b
  unfolding is_allowed
  allowed-high h k = rw (is_allowed, sym (printed h), le-leb 33 b h, lt-leb b 126 k)

  pub allowed-printed : 33 ≤ b → b ≤ 126 → not (eqb b 59) ≡ is_allowed b
  unfolding is_allowed
  allowed-printed h k = rw (is_allowed, sym (printed h), le-leb 33 b h, le-leb b 126 k)

  -- of the bytes that a line may hold, those below the printed ones are whitespace, and no others
  pub low-white : is_allowed b ≡ true → ltb b 33 ≡ is_whitespace b
  low-white good =
      elim (dec_lt b 33) [
        | yes low ↦ lt-ltb b 33 low ∙ sym (allowed-low low ∙ good)
        | no d ↦ le-ltb b 33 (omega (arith, d)) ∙ printed (omega (arith, d))
      ]

  -- a byte that is not odd is allowed: a space, or a printed byte and no semicolon
  pub not-odd : ((ltb b 32 || ltb 126 b) || eqb b 59) ≡ false → is_allowed b ≡ true
  not-odd even =
      let near : (ltb b 32 || ltb 126 b) ≡ false = or-false-left _ _ even in
      let from : 32 ≤ b = ltb-false b 32 (or-false-left _ _ near) in
      let to : b ≤ 126 = ltb-false 126 b (or-false-right (ltb b 32) _ near) in
      let other : eqb b 59 ≡ false = or-false-right (ltb b 32 || ltb 126 b) _ even in
      elim (dec_lt b 33) [
        | yes low ↦ sym (allowed-low low) ∙ sym (white-from 32 b from refl) ∙ eq-eqb b 32 (omega arith)
        | no d ↦ sym (allowed-printed (omega (arith, d)) to) ∙ ap not other
      ]

-- ---- the scan

-- std's search for the first byte that fails is the definition's
scan-from : (bs : List ℕ) (i : ℕ) → position_from (λ b. not (is_allowed b)) i bs ≡ first_bad bs i
unfolding first_bad
scan-from [] i = refl
scan-from (b ∷ bs) i =
    ap (λ (o : Option ℕ). cond (not (is_allowed b)) (Some i) o) (ap (λ (k : ℕ). position_from (λ b. not (is_allowed b)) k bs) (add-one i) ∙ scan-from bs (suc i))
    ∙ turned (is_allowed b)
  where
    turned : (t : Bool) → cond (not t) (Some i) (first_bad bs (suc i)) ≡ select t (first_bad bs (suc i)) (Some i)
    turned true = refl
    turned false = refl

pub scan-is : (bs : List ℕ) → position (λ b. not (is_allowed b)) bs ≡ first_bad bs 0
scan-is bs = position_from-zero (λ b. not (is_allowed b)) bs ∙ scan-from bs 0

none-bad : (bs : List ℕ) (i : ℕ) → ((k : ℕ) → k < length bs → is_allowed (get_or bs k 0) ≡ true) → first_bad bs i ≡ None
unfolding first_bad
none-bad [] i h = refl
none-bad (b ∷ bs) i h =
    ap (λ (t : Bool). select t (first_bad bs (suc i)) (Some i)) (h 0 (omega arith)) ∙ none-bad bs (suc i) (λ k l. h (suc k) (omega arith))

module _ (line : List ℕ) where
  -- all bytes are allowed
  pub bad-nowhere : AllowedBetween line 0 (length line) → first_bad line 0 ≡ None
  bad-nowhere all = none-bad line 0 (λ k below. all.each k (omega arith) below)

-- ---- number and place, as the code finds them

pub verdict-long : (line : List ℕ) → 120 < length line → (3, 120) ≡ line_verdict line
unfolding fault_at
verdict-long line h = sym (ap (λ (t : Bool). numbered (select t (Some 120) (or_else (first_bad line 0) (select (ends_open line) (Some (length line - 1)) None)))) (lt-ltb 120 (length line) h))

module _ (line : List ℕ) (short : length line ≤ 120) where
  settled : (o : Option ℕ) (t : Bool) → first_bad line 0 ≡ o → ends_open line ≡ t → numbered (or_else o (select t (Some (length line - 1)) None)) ≡ line_verdict line
  unfolding fault_at
  settled o t p q =
      sym
      (ap (λ (s : Bool). numbered (select s (Some 120) (or_else (first_bad line 0) (select (ends_open line) (Some (length line - 1)) None)))) (le-ltb 120 (length line) short)
      ∙ ap (λ (m : Option ℕ). numbered (or_else m (select (ends_open line) (Some (length line - 1)) None))) p
      ∙ ap (λ (s : Bool). numbered (or_else o (select s (Some (length line - 1)) None))) q)

  pub verdict-byte : (i : ℕ) → first_bad line 0 ≡ Some i → (3, i) ≡ line_verdict line
  verdict-byte i p = settled (Some i) (ends_open line) p refl

  -- with no bad byte
  module _ (clean : first_bad line 0 ≡ None) where
    -- the bytes before the last one, and that
    module _ (before : List ℕ) (last : ℕ) (parts : line ≡ before ++ (last ∷ [])) where
      long : length line ≡ length before + 1
      long = omega (arith, ap length parts, length-append before (last ∷ []))

      ends : (t : Bool) → is_whitespace last ≡ t → ends_open line ≡ t
      unfolding ends_open
      ends t e =
          ap (λ (s : Bool). s && is_whitespace (byte_at line (length line - 1))) (lt-ltb 0 (length line) (omega (arith, long)))
          ∙ ap (λ (bs : List ℕ). is_whitespace (get_or bs (length line - 1) 0)) parts
          ∙ ap is_whitespace (get_or_at before last [] 0 (length line - 1) (omega (arith, long)))
          ∙ e

      pub verdict-end : is_whitespace last ≡ true → (3, length before) ≡ line_verdict line
      verdict-end e =
          let place : length before ≡ length line - 1 = omega (arith, long) in
          ap (λ (p : ℕ). (3, p)) place ∙ settled None true clean (ends true e)

      pub verdict-good : is_whitespace last ≡ false → (0, 0) ≡ line_verdict line
      verdict-good e = settled None false clean (ends false e)

    pub verdict-empty : length line ≤ 0 → (0, 0) ≡ line_verdict line
    unfolding ends_open
    verdict-empty h =
        settled None false clean (ap (λ (t : Bool). t && is_whitespace (byte_at line (length line - 1))) (le-ltb 0 (length line) h))

-- ---- no fault exactly if the line is good

all-allowed : (bs : List ℕ) (i : ℕ) → first_bad bs i ≡ None → (k : ℕ) → k < length bs → is_allowed (get_or bs k 0) ≡ true
unfolding first_bad
all-allowed [] i e k h = absurd (omega arith)
all-allowed (b ∷ bs) i e k h = go (is_allowed b) refl e k h (all-allowed bs (suc i))
  where
    go : (t : Bool) → is_allowed b ≡ t → select t (first_bad bs (suc i)) (Some i) ≡ None → (k : ℕ) → k < suc (length bs)
        → (first_bad bs (suc i) ≡ None → (j : ℕ) → j < length bs → is_allowed (get_or bs j 0) ≡ true) → is_allowed (get_or (b ∷ bs) k 0) ≡ true
    go true p q zero l ih = p
    go true p q (suc j) l ih = ih q j (omega arith)
    go false p q m l ih = absurd (some-ne-none i q)

pub good-is : (line : List ℕ) → (fault_at line ≡ None) ↔ GoodLine line
unfolding fault_at ends_open
good-is line = (forth (ltb 120 (length line)) (first_bad line 0) (ltb 0 (length line)) (is_whitespace (byte_at line (length line - 1))) refl refl refl refl, back)
  where
    forth : (l : Bool) (o : Option ℕ) (m w : Bool)
        → ltb 120 (length line) ≡ l → first_bad line 0 ≡ o → ltb 0 (length line) ≡ m → is_whitespace (byte_at line (length line - 1)) ≡ w
        → select l (Some 120) (or_else o (select (m && w) (Some (length line - 1)) None)) ≡ None → GoodLine line
    forth true o m w p q r s e = absurd (some-ne-none 120 e)
    forth false (Some i) m w p q r s e = absurd (some-ne-none i e)
    forth false None true true p q r s e = absurd (some-ne-none (length line - 1) e)
    forth false None true false p q r s e = record { short = ltb-false 120 (length line) p; bytes = all-allowed line 0 q; last = λ h. s }
    forth false None false w p q r s e = record {
      short = ltb-false 120 (length line) p;
      bytes = all-allowed line 0 q;
      last = λ h. absurd (omega (arith, ltb-false 0 (length line) r));
    }

    back : GoodLine line → fault_at line ≡ None
    back g = faultless (first_bad line 0) (ltb 0 (length line)) (none-bad line 0 g.bytes) refl
      where
        faultless : (o : Option ℕ) (m : Bool) → o ≡ None → ltb 0 (length line) ≡ m
            → select (ltb 120 (length line)) (Some 120) (or_else o (select (m && is_whitespace (byte_at line (length line - 1))) (Some (length line - 1)) None)) ≡ None
        faultless (Some i) m p q = absurd (some-ne-none i p)
        faultless None true p q = rw (le-ltb 120 (length line) g.short, g.last (ltb-true 0 (length line) q))
        faultless None false p q = rw (le-ltb 120 (length line) g.short)
