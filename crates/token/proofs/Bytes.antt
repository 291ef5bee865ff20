-- The byte table's rule, from one computed test of all its 256 entries, and what a class gives back.
use mathlib.Core.Path.{◌≡◌, refl, sym, ap, ◌∙◌}
use mathlib.Core.Logic.{◌⊎◌, inl, inr}
use mathlib.Core.Bool.{Bool, true, false, ◌&&◌}
use mathlib.Core.List.{List, [], ◌∷◌}
use Prim.Native.Nat.{ℕ, ◌+◌, ◌*◌, ◌/◌, ◌%◌, ◌<◌, ◌≤◌}
use native.Mathlib.Omega.{arith}
use lib.Dec.{eqb, leb}
use lib.ListN.{get_or}
use borrow.Author.Tests.{leb-true, lt-leb, eqb-true, eqb-false, eq-eqb, ne_eqb}
use Rattle.plain.specs.Choice.{select}
use Rattle.plain.specs.Lists.{listed}
use Rattle.plain.proofs.Lists.{listed-read}
use Rattle.plain.proofs.Tests.{and_left, and_right, and-false-right, tested}
use Rattle.token.specs.Token.{is_whitespace, lowered, same_letter, class_kind, class_of}

-- each byte finds its own class in the table that is laid
pub class-rule : (t : List ℕ) → t ≡ listed 256 class_of → (b : ℕ) → b < 256 → get_or t b 0 ≡ class_of b
class-rule = listed-read 256 class_of

pub lowered-below : (b : ℕ) → b < 256 → lowered b < 256
unfolding lowered
lowered-below b h = go (leb 65 b && leb b 90) refl
  where
    go : (t : Bool) → (leb 65 b && leb b 90) ≡ t → select t (b + 32) b < 256
    go true e = omega (arith, leb-true b 90 (and_right (leb 65 b) (leb b 90) e))
    go false e = h

pub class-partner : (b : ℕ) → b < 256 → class_of b % 256 ≡ lowered b
unfolding class_of
class-partner b h = omega (arith, lowered-below b h)

pub class-kind : (b : ℕ) → b < 256 → class_of b / 256 ≡ class_kind b
unfolding class_of
class-kind b h = omega (arith, lowered-below b h)

-- the kind by its five tests: whitespace, `(`, `)`, `{`, `}`
abbrev kind_by : Bool → Bool → Bool → Bool → Bool → ℕ
kind_by w o c p q = select w 1 (select o 2 (select c 3 (select p 4 (select q 5 0))))

kind-whitespace : (b : ℕ) → eqb (class_kind b) 1 ≡ is_whitespace b
unfolding class_kind
kind-whitespace b = go (is_whitespace b) (eqb b 40) (eqb b 41) (eqb b 123) (eqb b 125)
  where
    go : (w o c p q : Bool) → eqb (kind_by w o c p q) 1 ≡ w
    go true o c p q = refl
    go false true c p q = refl
    go false false true p q = refl
    go false false false true q = refl
    go false false false false true = refl
    go false false false false false = refl

pub white-kind : (b : ℕ) → is_whitespace b ≡ true → class_kind b ≡ 1
white-kind b w = eqb-true (class_kind b) 1 (kind-whitespace b ∙ w)

-- whitespace, read off a class
pub class-whitespace : (b c : ℕ) → b < 256 → c ≡ class_of b → eqb (c / 256) 1 ≡ is_whitespace b
class-whitespace b c h e = ap (λ (n : ℕ). eqb (n / 256) 1) e ∙ ap (λ (n : ℕ). eqb n 1) (class-kind b h) ∙ kind-whitespace b

pub laid-whitespace : (t : List ℕ) → t ≡ listed 256 class_of → (b : ℕ) → b < 256 → eqb (get_or t b 0 / 256) 1 ≡ is_whitespace b
laid-whitespace t e b h = class-whitespace b (get_or t b 0) h (class-rule t e b h)

-- the bracket of each kind; 0 for the kinds that have none
abbrev pub bracket_of : ℕ → ℕ
bracket_of k = get_or (0 ∷ 0 ∷ 40 ∷ 41 ∷ 123 ∷ 125 ∷ []) k 0

pub kind-bracket : (b : ℕ) → 2 ≤ class_kind b → b ≡ bracket_of (class_kind b)
unfolding class_kind
kind-bracket b = go (is_whitespace b) (eqb b 40) (eqb b 41) (eqb b 123) (eqb b 125) refl refl refl refl
  where
    go : (w o c p q : Bool) → eqb b 40 ≡ o → eqb b 41 ≡ c → eqb b 123 ≡ p → eqb b 125 ≡ q
        → 2 ≤ kind_by w o c p q → b ≡ bracket_of (kind_by w o c p q)
    go true o c p q e f g i h = absurd (omega arith)
    go false true c p q e f g i h = eqb-true b 40 e
    go false false true p q e f g i h = eqb-true b 41 f
    go false false false true q e f g i h = eqb-true b 123 g
    go false false false false true e f g i h = eqb-true b 125 i
    go false false false false false e f g i h = absurd (omega arith)

-- a byte of kind 0 or 1, which is whitespace, is no bracket
pub no-bracket : (b : ℕ) → class_kind b < 2 → (eqb b 40 ≡ false) × (eqb b 41 ≡ false) × (eqb b 123 ≡ false) × (eqb b 125 ≡ false)
unfolding class_kind is_whitespace
no-bracket b h = (other 40 (omega arith), other 41 (omega arith), other 123 (omega arith), other 125 (omega arith))
  where
    other : (o : ℕ) → 2 ≤ class_kind o → eqb b o ≡ false
    other o l = ne_eqb b o (λ e. omega (arith, ap class_kind e))

-- there are six kinds, so every class is below 1,536
pub kind-small : (b : ℕ) → class_kind b < 6
unfolding class_kind
kind-small b = go (is_whitespace b) (eqb b 40) (eqb b 41) (eqb b 123) (eqb b 125)
  where
    go : (w o c p q : Bool) → kind_by w o c p q < 6
    go true o c p q = omega arith
    go false true c p q = omega arith
    go false false true p q = omega arith
    go false false false true q = omega arith
    go false false false false true = omega arith
    go false false false false false = omega arith

pub class-small : (b : ℕ) → b < 256 → class_of b < 1536
unfolding class_of
class-small b h = omega (arith, lowered-below b h, kind-small b)

-- ---- where the table need not be read: past a bound of the code, which the last premise judges

pub white-above : (k b : ℕ) → k < b → 32 ≤ k → false ≡ is_whitespace b
unfolding is_whitespace
white-above k b h l =
    rw (is_whitespace, ne_eqb b 9 (λ e. omega arith), ne_eqb b 13 (λ e. omega arith), ne_eqb b 32 (λ e. omega arith))

-- from the last whitespace on, that byte alone is
pub white-from : (k b : ℕ) → k ≤ b → k ≡ 32 → eqb b k ≡ is_whitespace b
unfolding is_whitespace
white-from k b h e = rw (is_whitespace, ne_eqb b 9 (λ n. omega arith), ne_eqb b 13 (λ n. omega arith)) (ap (eqb b) e)

pub low_below : (k b : ℕ) → b < k → k ≤ 65 → b ≡ lowered b
unfolding lowered
low_below k b h l = rw (lowered, lt-leb 65 b (omega arith))

pub low-above : (k b : ℕ) → k < b → 90 ≤ k → b ≡ lowered b
unfolding lowered
low-above k b h l = ap (λ (t : Bool). select t (b + 32) b) (sym (and-false-right (leb 65 b) (leb b 90) (lt-leb b 90 (omega arith))))

-- A byte's partner is itself or, if it is a capital, 32 above.
abbrev Partner : ℕ → ℕ → Type 0
Partner b p = (p ≡ b) ⊎ ((p ≡ b + 32) × (65 ≤ b) × (b ≤ 90))

partner : (b : ℕ) → Partner b (lowered b)
unfolding lowered
partner b = go (leb 65 b && leb b 90) refl
  where
    go : (t : Bool) → (leb 65 b && leb b 90) ≡ t → Partner b (select t (b + 32) b)
    go true e = inr (refl, leb-true 65 b (and_left (leb 65 b) (leb b 90) e), leb-true b 90 (and_right (leb 65 b) (leb b 90) e))
    go false e = inl refl

-- So two bytes with one partner are the same, or 32 apart, and then the greater is no capital.
module _ (a b : ℕ) where
  apart : (p q : ℕ) → Partner a p → Partner b q → p ≡ q → (a ≡ b → ⊥) → (a + 32 ≡ b → ⊥) → b + 32 ≡ a
  apart p q (inl x) (inl y) e n m = absurd (n (omega (arith, e, x, y)))
  apart p q (inl x) (inr y) e n m = omega (arith, e, x, y.0)
  apart p q (inr x) (inl y) e n m = absurd (m (omega (arith, e, x.0, y)))
  apart p q (inr x) (inr y) e n m = absurd (n (omega (arith, e, x.0, y.0)))

  pub letters-apart : (a ≡ b → ⊥) → (a + 32 ≡ b → ⊥) → (b + 32 ≡ a → ⊥) → false ≡ same_letter a b
  letters-apart n m k =
      sym (ne_eqb (lowered a) (lowered b) (λ e. k (apart (lowered a) (lowered b) (partner a) (partner b) e n m)))

  same_or_not : (p q : ℕ) → Partner a p → Partner b q → a + 32 ≡ b → eqb p b ≡ eqb p q
  same_or_not p q x (inl y) d = ap (eqb p) (sym y)
  same_or_not p q (inl x) (inr y) d =
      ne_eqb p b (λ e. omega (arith, e, x, d)) ∙ sym (ne_eqb p q (λ e. omega (arith, e, x, y.0, d)))
  same_or_not p q (inr x) (inr y) d = absurd (omega (arith, d, x.1, y.2))

  -- the partner of the lesser decides
  pub letters-near : a + 32 ≡ b → (r : ℕ) → r ≡ lowered a → eqb r b ≡ same_letter a b
  letters-near d r e = ap (λ (n : ℕ). eqb n b) e ∙ same_or_not (lowered a) (lowered b) (partner a) (partner b) d

pub letters-swap : (a b : ℕ) → same_letter b a ≡ same_letter a b
letters-swap a b = go (tested (same_letter a b))
  where
    go : (same_letter a b ≡ true) ⊎ (same_letter a b ≡ false) → same_letter b a ≡ same_letter a b
    go (inl e) = eq-eqb (lowered b) (lowered a) (sym (eqb-true (lowered a) (lowered b) e)) ∙ sym e
    go (inr e) = ne_eqb (lowered b) (lowered a) (λ q. eqb-false (lowered a) (lowered b) e (sym q)) ∙ sym e

pub letters-equal : (a b : ℕ) → a ≡ b → true ≡ same_letter a b
letters-equal a b e = sym (eq-eqb (lowered a) (lowered b) (ap lowered e))

-- ---- the two cases of a letter

pub lowered-again : (b : ℕ) → lowered (lowered b) ≡ lowered b
lowered-again b = go (partner b)
  where
    go : Partner b (lowered b) → lowered (lowered b) ≡ lowered b
    go (inl e) = ap lowered e
    go (inr e) = sym (low-above 90 (lowered b) (omega (arith, e.0, e.1)) (omega arith))

capital-kind : (b : ℕ) → 65 ≤ b → b ≤ 90 → class_kind b ≡ 0
unfolding class_kind
capital-kind b l h =
    rw (class_kind, sym (white-above 32 b (omega arith) (omega arith)), ne_eqb b 40 (λ e. omega arith), ne_eqb b 41 (λ e. omega arith), ne_eqb b 123 (λ e. omega arith), ne_eqb b 125 (λ e. omega arith))

-- The same letter is a byte's partner, or the capital 32 below that, whose class is the partner alone.
pub same-or-capital : (a b : ℕ) → same_letter a b ≡ true → (a ≡ lowered b → ⊥) → (a + 32 ≡ lowered b) × (class_of a ≡ lowered b)
unfolding class_of
same-or-capital a b s n = go (partner a)
  where
    same : lowered a ≡ lowered b
    same = eqb-true (lowered a) (lowered b) s

    go : Partner a (lowered a) → (a + 32 ≡ lowered b) × (lowered a + 256 * class_kind a ≡ lowered b)
    go (inl e) = absurd (n (sym e ∙ same))
    go (inr e) = (sym e.0 ∙ same, omega (arith, same, capital-kind a e.1 e.2))
