-- A depth that is compared by `==`: what the answer says of it.
use Rattle.std.specs.Prelude.{Option, Some, None}
use Rattle.std.specs.Option.{option_eq}
use Rattle.std.proofs.lemmas.Bool.{eqb-true, eq-eqb, false≢true}
use mathlib.Core.Path.{◌≡◌, refl, sym, ap, ◌∙◌}
use mathlib.Core.Bool.{Bool, true, false}
use Prim.Native.Nat.{ℕ}
use lib.Dec.{eqb}

module _ {o : Option ℕ} {d : ℕ} {r : Bool} (is : r ≡ option_eq eqb o (Some d)) where
  pub is-depth : r ≡ true → o ≡ Some d
  is-depth t = go o (sym is ∙ t)
    where
      go : (x : Option ℕ) → option_eq eqb x (Some d) ≡ true → x ≡ Some d
      go None e = absurd (false≢true e)
      go (Some n) e = ap Some (eqb-true n d e)

  pub not-depth : r ≡ false → o ≡ Some d → ⊥
  not-depth f e = false≢true (sym f ∙ is ∙ ap (λ (x : Option ℕ). option_eq eqb x (Some d)) e ∙ eq-eqb d d refl)
