-- Kinds of bytes: above whitespace, and apart from each other.
use mathlib.Core.Path.{◌≡◌, refl, sym, ap₂, subst}
use mathlib.Core.Logic.{⊎_elim}
use mathlib.Core.Bool.{Bool, true, false, ◌&&◌, ◌||◌}
use Prim.Native.Nat.{ℕ, ◌≤◌, ◌<◌}
use native.Mathlib.Omega.{arith}
use lib.Dec.{eqb, leb}
use borrow.Author.Tests.{eqb-true, leb-true}
use Rattle.plain.proofs.Tests.{tested, not-both, or_cases, or-false-left, and_left, and_right}
use Rattle.token.specs.Token.{is_whitespace}
use Rattle.token.proofs.Bytes.{white-above}
use Rattle.expressions.specs.Grammar.{is_digit, is_letter, is_alnum, is_operator, is_minus, is_opener, is_closer}
use Rattle.expressions.specs.Filling.{Parts}

-- a kind of bytes with which a token may begin
pub record Kind (kind : ℕ → Bool) : Type 0 where
  pub above : (b : ℕ) → kind b ≡ true → 32 < b

-- such a byte is no whitespace
pub solid : {kind : ℕ → Bool} → Kind kind → (b : ℕ) → kind b ≡ true → is_whitespace b ≡ false
solid k b h = sym (white-above 32 b (k.above b h) (omega arith))

-- and stands within a line: past it bytes are 0
pub past : {kind : ℕ → Bool} → Kind kind → kind 0 ≡ false
past {kind} k = ⊎_elim (λ t. absurd (omega (arith, k.above 0 t))) (λ f. f) (tested (kind 0))

-- ---- what each kind's bytes are

pub digit-is : (b : ℕ) → is_digit b ≡ true → (48 ≤ b) × (b ≤ 57)
unfolding is_digit
digit-is b h = (leb-true 48 b (and_left (leb 48 b) (leb b 57) h), leb-true b 57 (and_right (leb 48 b) (leb b 57) h))

pub letter-is : (b : ℕ) → is_letter b ≡ true → 65 ≤ b
unfolding is_letter
letter-is b h =
    ⊎_elim
    (λ t. leb-true 65 b (and_left (leb 65 b) (leb b 90) t))
    (λ t. omega (arith, leb-true 97 b (and_left (leb 97 b) (leb b 122) t)))
    (or_cases (leb 65 b && leb b 90) (leb 97 b && leb b 122) h)

pub minus_is : (b : ℕ) → is_minus b ≡ true → b ≡ 45
unfolding is_minus
minus_is b = eqb-true b 45

pub opener-is : (b : ℕ) → is_opener b ≡ true → b ≡ 40
unfolding is_opener
opener-is b = eqb-true b 40

pub closer-is : (b : ℕ) → is_closer b ≡ true → b ≡ 41
unfolding is_closer
closer-is b = eqb-true b 41

-- what holds of each operator holds of a byte that is one
pub operator-is : (P : ℕ → Type 0) → P 43 → P 45 → P 42 → P 47 → P 38 → P 124 → (b : ℕ) → is_operator b ≡ true → P b
unfolding is_operator
operator-is P plus minus times over both either b h =
    ⊎_elim (λ t. is 43 t plus)
    (λ r. ⊎_elim (λ t. is 45 t minus)
    (λ r. ⊎_elim (λ t. is 42 t times)
    (λ r. ⊎_elim (λ t. is 47 t over)
    (λ r. ⊎_elim (λ t. is 38 t both) (λ t. is 124 t either)
    (or_cases (eqb b 38) _ r))
    (or_cases (eqb b 47) _ r))
    (or_cases (eqb b 42) _ r))
    (or_cases (eqb b 45) _ r))
    (or_cases (eqb b 43) _ h)
  where
    is : (x : ℕ) → eqb b x ≡ true → P x → P b
    is x t p = subst P (sym (eqb-true b x t)) p

-- ---- the kinds of the grammar

pub digit : Kind is_digit
digit = record { above = λ b h. omega (arith, digit-is b h) }

pub letter : Kind is_letter
letter = record { above = λ b h. omega (arith, letter-is b h) }

pub alnum : Kind is_alnum
unfolding is_alnum
alnum = record { above = λ b h. ⊎_elim (letter.above b) (digit.above b) (or_cases (is_letter b) (is_digit b) h) }

pub minus-sign : Kind is_minus
minus-sign = record { above = λ b h. omega (arith, minus_is b h) }

pub opener : Kind is_opener
opener = record { above = λ b h. omega (arith, opener-is b h) }

pub closer : Kind is_closer
closer = record { above = λ b h. omega (arith, closer-is b h) }

pub operator : Kind is_operator
operator = record {
  above = operator-is (λ b. 32 < b) (omega arith) (omega arith) (omega arith) (omega arith) (omega arith) (omega arith);
}

-- an operator and a closer go on with no name and no number, and are two
pub operator-parts : Parts is_operator
unfolding is_alnum is_letter is_digit
operator-parts = operator-is (λ b. is_alnum b ≡ false) refl refl refl refl refl refl

pub closer-parts : Parts is_closer
unfolding is_alnum is_letter is_digit
closer-parts b h = subst (λ (x : ℕ). is_alnum x ≡ false) (sym (closer-is b h)) refl

pub operator-no-closer : (b : ℕ) → is_operator b ≡ true → is_closer b ≡ false
unfolding is_closer
operator-no-closer = operator-is (λ b. is_closer b ≡ false) refl refl refl refl refl refl

-- digits and letters are of both
pub digit-alnum : (b : ℕ) → is_digit b ≡ true → is_alnum b ≡ true
unfolding is_alnum
digit-alnum b h = or-on (is_letter b) h
  where
    or-on : (a : Bool) → is_digit b ≡ true → (a || is_digit b) ≡ true
    or-on true t = refl
    or-on false t = t

pub letter-alnum : (b : ℕ) → is_letter b ≡ true → is_alnum b ≡ true
unfolding is_alnum
letter-alnum b h = rw h

-- and nothing else is
pub alnum-letter : (b : ℕ) → is_alnum b ≡ true → is_digit b ≡ false → is_letter b ≡ true
unfolding is_alnum
alnum-letter b h d = ⊎_elim (λ t. t) (λ t. absurd (not-both t d)) (or_cases (is_letter b) (is_digit b) h)

pub no-letter : (b : ℕ) → is_alnum b ≡ false → is_letter b ≡ false
unfolding is_alnum
no-letter b h = or-false-left (is_letter b) (is_digit b) h

-- as the code tests it
pub alnum-told : {l d : Bool} (b : ℕ) → l ≡ is_letter b → d ≡ is_digit b → (l || d) ≡ is_alnum b
unfolding is_alnum
alnum-told b p q = ap₂ ◌||◌ p q
