-- The greatest end within a limit: there is one at most, and one that is greatest among all ends.
use mathlib.Core.Path.{◌≡◌, refl, sym, ap, ◌∙◌, subst}
use mathlib.Core.Logic.{◌⊎◌, ⊎_elim}
use mathlib.Core.Bool.{Bool}
use Rattle.std.specs.Prelude.{Option, None, Some}
use Prim.Native.Nat.{ℕ, ◌≤◌, ◌<◌, min}
use native.Mathlib.Decide.{dec_lt}
use native.Mathlib.Omega.{arith}
use borrow.Author.Tests.{lt-ltb, le-ltb}
use Rattle.plain.specs.Choice.{select}
use Rattle.line.specs.Line.{or_else}
use Rattle.expressions.specs.Grammar.{GreatestEnd}
use Rattle.expressions.specs.Ends.{up_to}

-- this is the greatest end within the limit, or there is none
abbrev pub Greatest : (ℕ → Type 0) → ℕ → Option ℕ → Type 0
Greatest End l (Some e) = GreatestEnd End l e
Greatest End l None = (e : ℕ) → End e → e ≤ l → ⊥

module _ (End : ℕ → Type 0) (l : ℕ) where
  -- there is one greatest end, or none
  pub greatest-one : (o p : Option ℕ) → Greatest End l o → Greatest End l p → o ≡ p
  greatest-one None None a b = refl
  greatest-one None (Some e) a b = absurd (a e b.ends b.within)
  greatest-one (Some d) None a b = absurd (b d a.ends a.within)
  greatest-one (Some d) (Some e) a b =
      let same : d ≡ e = omega (arith, a.greatest e b.ends b.within, b.greatest d a.ends a.within) in
      ap {B = Option ℕ} Some same

  -- ends that are the same have the same greatest one
  pub greatest-map : (Other : ℕ → Type 0) → ((e : ℕ) → End e → Other e) → ((e : ℕ) → Other e → End e)
      → (o : Option ℕ) → Greatest End l o → Greatest Other l o
  greatest-map Other f g None h = λ e x w. h e (g e x) w
  greatest-map Other f g (Some e) h = record { ends = f e h.ends; within = h.within; greatest = λ d x w. h.greatest d (g d x) w }

-- ---- ends from low + 1 to top

module _ (low top l : ℕ) where
  pub up-low : l ≤ low → up_to low top l ≡ None
  unfolding up_to
  up-low h = ap (λ (t : Bool). select t (Some (min top l)) None) (le-ltb low (min top l) (omega arith))

  pub up-here : low < l → l ≤ top → up_to low top l ≡ Some l
  unfolding up_to
  up-here h k =
      let least : min top l ≡ l = omega arith in
      ap (λ (t : Bool). select t (Some (min top l)) None) (lt-ltb low (min top l) (omega arith)) ∙ ap {B = Option ℕ} Some least

  pub up-past : low < top → top ≤ l → up_to low top l ≡ Some top
  unfolding up_to
  up-past h k =
      let least : min top l ≡ top = omega arith in
      ap (λ (t : Bool). select t (Some (min top l)) None) (lt-ltb low (min top l) (omega arith)) ∙ ap {B = Option ℕ} Some least

  pub up-greatest : (End : ℕ → Type 0) → ((e : ℕ) → low < e → e ≤ top → End e) → ((e : ℕ) → End e → (low < e) × (e ≤ top))
      → Greatest End l (up_to low top l)
  unfolding up_to
  up-greatest End each only =
      elim (dec_lt low (min top l)) [
        | yes h ↦ subst (Greatest End l) (sym (ap (λ (t : Bool). select t (Some (min top l)) None) (lt-ltb low (min top l) h)))
            (record { ends = each (min top l) h (omega arith); within = omega arith; greatest = λ d x w. omega (arith, only d x) })
        | no h ↦ subst (Greatest End l) (sym (ap (λ (t : Bool). select t (Some (min top l)) None) (le-ltb low (min top l) (omega (arith, h)))))
            (λ e x w. omega (arith, h, only e x))
      ]

-- ---- ends of one kind, and greater ones of another

module _ (End Low High : ℕ → Type 0) (l : ℕ) (either : (e : ℕ) → End e → Low e ⊎ High e) (low : (e : ℕ) → Low e → End e) (high : (e : ℕ) → High e → End e)
    (greater : (d e : ℕ) → Low d → High e → d ≤ e) where
  pub or-else-greatest : (o p : Option ℕ) → Greatest High l o → Greatest Low l p → Greatest End l (or_else o p)
  or-else-greatest None None h g = λ e x w. ⊎_elim (λ a. g e a w) (λ a. h e a w) (either e x)
  or-else-greatest None (Some d) h g = record {
    ends = low d g.ends;
    within = g.within;
    greatest = λ e x w. ⊎_elim (λ a. g.greatest e a w) (λ a. absurd (h e a w)) (either e x);
  }
  or-else-greatest (Some d) p h g = record {
    ends = high d h.ends;
    within = h.within;
    greatest = λ e x w. ⊎_elim (λ a. greater e d a h.ends) (λ a. h.greatest e a w) (either e x);
  }
