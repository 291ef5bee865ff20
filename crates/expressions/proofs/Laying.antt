-- Entries laid one by one, and runs of them that stand side by side.
use mathlib.Core.Path.{◌≡◌, refl, sym, ap, ◌∙◌, subst}
use mathlib.Core.Logic.{inl, inr, ⊎_elim}
use mathlib.Core.List.{List}
use Prim.Native.Nat.{ℕ, ◌+◌, ◌≤◌, ◌<◌}
use native.Mathlib.Decide.{ℕ_discrete, dec_lt}
use native.Mathlib.Omega.{arith}
use lib.Dec.{eqb}
use lib.ListN.{length, get_or, set, length-set}
use lib.Seq.{get_or-set_same, get_or-set_other}
use borrow.Author.Tests.{eq-eqb, ne_eqb}
use Rattle.plain.specs.Choice.{select}
use Rattle.expressions.specs.Filling.{Lays}

pub lays-none : (s : List ℕ) (at from : ℕ) (f : ℕ → ℕ) → Lays s s at from from f
lays-none s at from f = record { long = refl; here = λ l low high. absurd (omega arith); beside = λ i h. refl }

-- so far: the limits from `from` to before l, of those to before `to`
abbrev pub LaysTo : List ℕ → List ℕ → ℕ → ℕ → ℕ → (ℕ → ℕ) → ℕ → Type 0
LaysTo s t at from to f l = (from ≤ l) × (l ≤ to) × Lays s t at from l f

module _ {s t : List ℕ} {at from to : ℕ} {f : ℕ → ℕ} where
  pub lays_more : (l v : ℕ) → LaysTo s t at from to f l → l < to → at + l < length t → v ≡ f l → LaysTo s (set t (at + l) v) at from to f (l + 1)
  lays_more l v (low, high, so_far) less room is = (
    omega arith,
    omega arith,
    record {
      long = length-set t (at + l) v ∙ so_far.long;
      here = λ k a b. elim (ℕ_discrete k l) [
        | yes e ↦ let same : at + k ≡ at + l = omega arith in
            ap (λ (i : ℕ). get_or (set t (at + l) v) i 0) same ∙ get_or-set_same t (at + l) v 0 room ∙ is ∙ ap f (sym e)
        | no d ↦ get_or-set_other t (at + l) (at + k) v 0 (λ e. d (omega arith)) ∙ so_far.here k a (omega (arith, d))
      ];
      beside = λ i h. get_or-set_other t (at + l) i v 0 (λ e. ⊎_elim (λ a. omega arith) (λ a. omega arith) h)
          ∙ so_far.beside i (⊎_elim (λ a. inl a) (λ a. inr (omega arith)) h);
    },
  )

  pub lays_all : (l : ℕ) → LaysTo s t at from to f l → to ≤ l → Lays s t at from to f
  lays_all l (low, high, so_far) over = let end : l ≡ to = omega arith in subst (λ (k : ℕ). Lays s t at from k f) end so_far

  -- what stands at or past the last limit is as it was
  pub lays-past : (l i : ℕ) → LaysTo s t at from to f l → at + to ≤ i → get_or t i 0 ≡ get_or s i 0
  lays-past l i (low, high, so_far) h = so_far.beside i (inr (omega arith))

-- the same entries, said otherwise
pub lays-as : {s t : List ℕ} {at from to : ℕ} {f : ℕ → ℕ} (g : ℕ → ℕ) → ((l : ℕ) → from ≤ l → l < to → f l ≡ g l) → Lays s t at from to f → Lays s t at from to g
lays-as g same k = record { long = k.long; here = λ l a b. k.here l a b ∙ same l a b; beside = k.beside }

-- two runs side by side
pub lays-join : {s t u : List ℕ} {at i j k : ℕ} {f : ℕ → ℕ} → i ≤ j → j ≤ k → Lays s t at i j f → Lays t u at j k f → Lays s u at i k f
lays-join {at = at} {i = i} {j = j} {k = k} low high a b = record {
  long = b.long ∙ a.long;
  here = λ l p q. elim (dec_lt l j) [ yes h ↦ b.beside (at + l) (inl (omega arith)) ∙ a.here l p h | no h ↦ b.here l (omega (arith, h)) q ];
  beside = λ n h.
      b.beside n (⊎_elim (λ p. inl (omega arith)) (λ p. inr p) h)
      ∙ a.beside n (⊎_elim (λ p. inl p) (λ p. inr (omega arith)) h);
}

-- an entry of a later row, or a byte where that holds nothing
abbrev pub from_row : List ℕ → ℕ → ℕ → ℕ → ℕ
from_row sheet later byte l = select (eqb (get_or sheet (later + l) 0) 255) byte (get_or sheet (later + l) 0)

module _ (byte x : ℕ) where
  pub or_byte : x ≡ 255 → byte ≡ select (eqb x 255) byte x
  or_byte h = rw (eq-eqb x 255 h)

  pub or-there : (x ≡ 255 → ⊥) → x ≡ select (eqb x 255) byte x
  or-there h = rw (ne_eqb x 255 h)
