-- The table that is laid for a search. The bytes of one letter are its partner and at most one more, the capital 32 below: so at
-- most two entries are marked, and no other byte has the letter.
use mathlib.Core.Path.{◌≡◌, refl, sym, ap, ◌∙◌}
use mathlib.Core.Logic.{◌⊎◌, inl, inr}
use mathlib.Core.Bool.{Bool, true, false}
use mathlib.Core.List.{List}
use Prim.Native.Nat.{ℕ, ◌+◌, ◌%◌, ◌^◌, ◌≤◌, ◌<◌}
use native.Mathlib.Omega.{arith}
use native.Mathlib.Decide.{ℕ_discrete}
use lib.Dec.{eqb}
use lib.ListN.{get_or, set}
use borrow.Author.Tests.{eq-eqb, ne_eqb}
use Rattle.plain.specs.Choice.{select}
use Rattle.plain.specs.Lists.{listed}
use Rattle.plain.proofs.Tests.{tested, not-both}
use Rattle.plain.proofs.Lists.{listed-read, listed_same, listed-set}
use Rattle.token.specs.Token.{lowered, same_letter, class_of}
use Rattle.token.proofs.Bytes.{class-rule, class-small, class-partner, lowered-below, lowered-again, same-or-capital}

-- an entry of the table in which a letter is marked
abbrev pub marked_class : ℕ → ℕ → ℕ
marked_class x b = select (same_letter b x) (class_of b + 2048) (class_of b)

-- an entry with one byte marked
abbrev once : ℕ → ℕ → ℕ
once p b = select (eqb b p) (class_of b + 2048) (class_of b)

-- the entry of a byte gives its partner
pub partner-read : (t : List ℕ) → t ≡ listed 256 class_of → (x : ℕ) → x < 256 → get_or t x 0 % 256 ≡ lowered x
partner-read t laid x h = ap (λ (n : ℕ). n % 256) (class-rule t laid x h) ∙ class-partner x h

-- a mark fits above any class
pub room-for-mark : (t : List ℕ) → t ≡ listed 256 class_of → (b : ℕ) → b < 256 → get_or t b 0 + 2048 < 2 ^ 16
room-for-mark t laid b h = omega (arith, class-rule t laid b h, class-small b h)

module _ (t : List ℕ) (laid : t ≡ listed 256 class_of) (x p : ℕ) (small : x < 256) (partner : p ≡ lowered x) where
  below : p < 256
  below = omega (arith, partner, lowered-below x small)

  -- the partner is marked first
  marked-once : (v : ℕ) → v ≡ get_or t p 0 + 2048 → set t p v ≡ listed 256 (once p)
  marked-once v e =
      ap (λ (u : List ℕ). set u p v) laid
      ∙ listed-set 256 class_of (once p) p v below
      (ap (λ (c : Bool). select c (class_of p + 2048) (class_of p)) (eq-eqb p p refl) ∙ sym (ap (λ (n : ℕ). n + 2048) (class-rule t laid p below)) ∙ sym e)
      (λ i l n. ap (λ (c : Bool). select c (class_of i + 2048) (class_of i)) (ne_eqb i p n))

  same-at-partner : same_letter p x ≡ true
  same-at-partner = eq-eqb (lowered p) (lowered x) (ap lowered partner ∙ lowered-again x)

  -- Where no other byte has the letter, the partner's place tells it.
  alone : (b : ℕ) → (same_letter b x ≡ true → b ≡ p) → once p b ≡ marked_class x b
  alone b only = ap (λ (c : Bool). select c (class_of b + 2048) (class_of b)) (go (tested (same_letter b x)))
    where
      go : (same_letter b x ≡ true) ⊎ (same_letter b x ≡ false) → eqb b p ≡ same_letter b x
      go (inl s) = eq-eqb b p (only s) ∙ sym s
      go (inr f) = ne_eqb b p (λ e. not-both (ap (λ (n : ℕ). same_letter n x) e ∙ same-at-partner) f) ∙ sym f

  -- no partner below 32 has a capital; the bound is the code's, which the last premise judges
  pub marked-low : (v k : ℕ) → v ≡ get_or t p 0 + 2048 → p < k → k ≤ 32 → set t p v ≡ listed 256 (marked_class x)
  marked-low v k e l h =
      marked-once v e ∙ listed_same 256 (once p) (marked_class x) (λ b _. alone b (λ s. go b s (ℕ_discrete b p)))
    where
      go : (b : ℕ) → same_letter b x ≡ true → Dec (b ≡ p) → b ≡ p
      go b s (yes q) = q
      go b s (no n) = absurd (omega (arith, partner, (same-or-capital b x s (λ q. n (q ∙ sym partner))).0))

  module _ (u : List ℕ) (v q : ℕ) (first : v ≡ get_or t p 0 + 2048) (once-marked : u ≡ set t p v) (apart : q + 32 ≡ p) where
    at-capital : get_or u q 0 ≡ class_of q
    at-capital =
        listed-read 256 (once p) u (once-marked ∙ marked-once v first) q (omega (arith, below, apart))
        ∙ ap (λ (c : Bool). select c (class_of q + 2048) (class_of q)) (ne_eqb q p (λ e. omega arith))

    -- another byte of the letter would be the capital
    only : (b : ℕ) → same_letter b x ≡ true → (b ≡ q → ⊥) → b ≡ p
    only b s n = go (ℕ_discrete b p)
      where
        go : Dec (b ≡ p) → b ≡ p
        go (yes e) = e
        go (no m) = absurd (n (omega (arith, partner, apart, (same-or-capital b x s (λ e. m (e ∙ sym partner))).0)))

    pub marked_other : (get_or u q 0 ≡ p → ⊥) → u ≡ listed 256 (marked_class x)
    marked_other n =
        once-marked ∙ marked-once v first ∙ listed_same 256 (once p) (marked_class x) (λ b _. alone b (λ s. only b s (λ e. n (capital b s e))))
      where
        capital : (b : ℕ) → same_letter b x ≡ true → b ≡ q → get_or u q 0 ≡ p
        capital b s e =
            at-capital ∙ ap class_of (sym e)
            ∙ (same-or-capital b x s (λ i. omega (arith, i, e, partner, apart))).1 ∙ sym partner

    pub marked-both : (w : ℕ) → get_or u q 0 ≡ p → w ≡ p + 2048 → set u q w ≡ listed 256 (marked_class x)
    marked-both w e f =
        ap (λ (l : List ℕ). set l q w) (once-marked ∙ marked-once v first)
        ∙ listed-set 256 (once p) (marked_class x) q w (omega (arith, below, apart))
        (ap (λ (c : Bool). select c (class_of q + 2048) (class_of q)) same ∙ ap (λ (n : ℕ). n + 2048) class ∙ sym f)
        (λ i _ n. sym (alone i (λ s. only i s n)))
      where
        class : class_of q ≡ p
        class = sym at-capital ∙ e

        same : same_letter q x ≡ true
        same =
            eq-eqb (lowered q) (lowered x)
            (sym (class-partner q (omega (arith, below, apart))) ∙ omega (arith, class, below, partner))
