-- Decimals: the value of a number's decimal is the number, and its bytes are digits.
use mathlib.Core.Path.{◌≡◌, refl, ap, ◌∙◌}
use mathlib.Core.Bool.{Bool, true, false, not, ◌&&◌}
use mathlib.Core.List.{[], ◌∷◌, ◌++◌}
use Rattle.std.specs.Prelude.{None, Some}
use Prim.Native.Nat.{ℕ, zero, suc, ◌+◌, ◌*◌, ◌-◌, ◌/◌, ◌%◌, ◌≤◌, ◌<◌}
use native.Mathlib.Omega.{arith}
use lib.Dec.{ltb}
use borrow.Author.Tests.{ltb-false, ne_eqb, lt-ltb, le-ltb}
use Rattle.plain.specs.Choice.{select}
use Rattle.plain.specs.Lists.{every}
use Rattle.printing.specs.Listing.{Bytes, digits, decimal}
use Rattle.printing.specs.Reading.{same, value_from, value, number_of}
use Rattle.printing.specs.FirstBad.{lacks}
use Rattle.printing.proofs.Pieces.{same_refl, same_true, lacks-append}

value-append : (x y : Bytes) (n : ℕ) → value_from n (x ++ y) ≡ value_from (value_from n x) y
unfolding value_from
value-append [] y n = refl
value-append (b ∷ x) y n = value-append x y (10 * n + (b - 48))

value-digits : (k n : ℕ) → n < k → value (digits k n) ≡ n
unfolding digits value_from
value-digits zero n h = absurd (omega arith)
value-digits (suc k) n h = go (ltb n 10) refl (λ l. value-digits k (n / 10) l)
  where
    go : (t : Bool) → ltb n 10 ≡ t → (n / 10 < k → value (digits k (n / 10)) ≡ n / 10)
        → value (select t ((48 + n) ∷ []) (digits k (n / 10) ++ ((48 + n % 10) ∷ []))) ≡ n
    go true e ih = omega arith
    go false e ih =
        let before : value (digits k (n / 10)) ≡ n / 10 = ih (omega (arith, ltb-false n 10 e)) in
        value-append (digits k (n / 10)) ((48 + n % 10) ∷ []) 0 ∙ omega (arith, before)

value-decimal : (n : ℕ) → value (decimal n) ≡ n
unfolding decimal
value-decimal n = value-digits (suc n) n (omega arith)

-- a number's decimal is read as that number, and what is read is a decimal
pub number-decimal : (n : ℕ) → number_of (decimal n) ≡ Some n
unfolding number_of
number-decimal n =
    ap (λ (v : ℕ). select (same (decimal n) (decimal v)) (Some v) None) (value-decimal n)
    ∙ ap (λ (t : Bool). select t (Some n) None) (same_refl (decimal n))

pub number_is : (x : Bytes) (n : ℕ) → number_of x ≡ Some n → x ≡ decimal n
unfolding number_of
number_is x n h = go (same x (decimal (value x))) refl h
  where
    go : (t : Bool) → same x (decimal (value x)) ≡ t → select t (Some (value x)) None ≡ Some n → x ≡ decimal n
    go true e q = same_true x (decimal (value x)) e ∙ ap decimal (cc)
    go false e q = let z : ◌≡◌ {A = ℕ} 0 1 = cc in absurd (omega arith)

-- no byte below 48 is in it
digits-lack : (c k n : ℕ) → c < 48 → lacks c (digits k n) ≡ true
unfolding digits lacks every
digits-lack c zero n h = refl
digits-lack c (suc k) n h = go (ltb n 10) (digits-lack c k (n / 10) h)
  where
    one : (m : ℕ) → 48 ≤ m → lacks c (m ∷ []) ≡ true
    one m l = ap (λ (t : Bool). not t && true) (ne_eqb m c (λ e. omega arith))

    go : (t : Bool) → lacks c (digits k (n / 10)) ≡ true → lacks c (select t ((48 + n) ∷ []) (digits k (n / 10) ++ ((48 + n % 10) ∷ []))) ≡ true
    go true ih = one (48 + n) (omega arith)
    go false ih = lacks-append c (digits k (n / 10)) ((48 + n % 10) ∷ []) ih (one (48 + n % 10) (omega arith))

pub decimal-lacks : (c n : ℕ) → c < 48 → lacks c (decimal n) ≡ true
unfolding decimal
decimal-lacks c n h = digits-lack c (suc n) n h

-- ---- decimals of one and two digits

small : (k n : ℕ) → 0 < k → n < 10 → digits k n ≡ (48 + n) ∷ []
unfolding digits
small zero n h l = absurd (omega arith)
small (suc k) n h l = ap (λ (t : Bool). select t ((48 + n) ∷ []) (digits k (n / 10) ++ ((48 + n % 10) ∷ []))) (lt-ltb n 10 l)

pub decimal-one : (n : ℕ) → n < 10 → decimal n ≡ (48 + n) ∷ []
unfolding decimal
decimal-one n h = small (suc n) n (omega arith) h

pub decimal-two : (n : ℕ) → 10 ≤ n → n < 100 → decimal n ≡ (48 + n / 10) ∷ (48 + n % 10) ∷ []
unfolding decimal digits
decimal-two n h l =
    ap (λ (t : Bool). select t ((48 + n) ∷ []) (digits n (n / 10) ++ ((48 + n % 10) ∷ []))) (le-ltb n 10 h)
    ∙ ap (λ (x : Bytes). x ++ ((48 + n % 10) ∷ [])) (small n (n / 10) (omega arith) (omega arith))
