-- Places tried many at once, by a test that says of a whole run only whether something in it was odd. While nothing was, what
-- the test promises holds of every place tried. A run may begin before the places that are left: it tries some again.
use mathlib.Core.Path.{◌≡◌, sym, subst}
use mathlib.Core.Bool.{Bool, false, ◌||◌}
use Prim.Native.Nat.{ℕ, ◌+◌, ◌≤◌, ◌<◌}
use native.Mathlib.Decide.{dec_lt}
use native.Mathlib.Omega.{arith}
use Rattle.plain.specs.Between.{Between}
use Rattle.plain.proofs.Tests.{or-false-left, or-false-right}

module _ {P : ℕ → Type 0} where
  pub none_between : {from to : ℕ} → to ≤ from → Between P from to
  none_between empty = record { each = λ i from below. absurd (omega arith) }

  pub one-between : {i to : ℕ} → to ≤ i + 1 → P i → Between P i to
  one-between {i} {to} next holds = record { each = λ j from below. subst P (sym (alone j from below)) holds }
    where
      alone : (j : ℕ) → i ≤ j → j < to → j ≡ i
      alone j from below = omega arith

  pub fewer-between : {a b c d : ℕ} → Between P a b → a ≤ c → d ≤ b → Between P c d
  fewer-between all p q = record { each = λ i from below. all.each i (omega arith) (omega arith) }

  -- what holds if nothing was odd so far, with what holds from there on if nothing is odd there
  pub both-between :
      {odd here : Bool} {a b c : ℕ} → (odd ≡ false → Between P a b) → (here ≡ false → Between P b c) → (odd || here) ≡ false → Between P a c
  both-between {odd} {here} {a} {b} {c} before after even = record { each = each }
    where
      each : (i : ℕ) → a ≤ i → i < c → P i
      each i from below =
          elim (dec_lt i b) [
            | yes h ↦ (before (or-false-left odd here even)).each i from h
            | no h ↦ (after (or-false-right odd here even)).each i (omega (arith, h)) below
          ]
