-- A promise that is an equation allows one answer: of a value, or of an enum through what its cases say.
use mathlib.Core.Path.{◌≡◌, sym, ◌∙◌}

module _ {A : Type 0} where
  pub one_answer : {a r s : A} → r ≡ a → s ≡ a → r ≡ s
  one_answer p q = p ∙ sym q

  module _ {B : Type 0} (says : A → B) (apart : (r s : A) → says r ≡ says s → r ≡ s) where
    pub one_told : (b : B) (r s : A) → says r ≡ b → says s ≡ b → r ≡ s
    one_told b r s p q = apart r s (p ∙ sym q)
