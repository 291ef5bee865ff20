-- Tests taken apart and put together: what a conjunction or a disjunction says of its parts.
use mathlib.Core.Path.{◌≡◌, refl, sym, ap, ◌∙◌}
use mathlib.Core.Logic.{◌⊎◌, inl, inr}
use mathlib.Core.Bool.{Bool, true, false, ◌&&◌, ◌||◌, true≢false}

-- a test is true or false, with the equation
pub tested : (b : Bool) → (b ≡ true) ⊎ (b ≡ false)
tested true = inl refl
tested false = inr refl

pub not-both : {b : Bool} → b ≡ true → b ≡ false → ⊥
not-both t f = true≢false (sym t ∙ f)

pub and_left : (a b : Bool) → (a && b) ≡ true → a ≡ true
and_left true b h = refl
and_left false b h = h

pub and_right : (a b : Bool) → (a && b) ≡ true → b ≡ true
and_right true b h = h
and_right false b h = absurd (not-both refl (sym h))

pub and_both : (a b : Bool) → a ≡ true → b ≡ true → (a && b) ≡ true
and_both a b p q = ap (λ (x : Bool). x && b) p ∙ q

pub and-false-left : (a b : Bool) → a ≡ false → (a && b) ≡ false
and-false-left a b p = ap (λ (x : Bool). x && b) p

pub and-false-right : (a b : Bool) → b ≡ false → (a && b) ≡ false
and-false-right true b p = p
and-false-right false b p = refl

-- a conjunction judged part by part: a part that fails decides, and one that holds leaves the rest
pub and-off : {a : Bool} (b : Bool) → a ≡ false → false ≡ (a && b)
and-off {a} b p = sym (and-false-left a b p)

pub and-on : {a b r : Bool} → a ≡ true → r ≡ b → r ≡ (a && b)
and-on {a} {b} p q = q ∙ sym (ap (λ (x : Bool). x && b) p)

pub and-rotate : (a b c d : Bool) → ((a && b) && (c && d)) ≡ ((a && c) && (b && d))
and-rotate true true c d = refl
and-rotate true false true d = refl
and-rotate true false false d = refl
and-rotate false b c d = refl

pub or-false-left : (a b : Bool) → (a || b) ≡ false → a ≡ false
or-false-left true b h = h
or-false-left false b h = refl

pub or-false-right : (a b : Bool) → (a || b) ≡ false → b ≡ false
or-false-right true b h = absurd (not-both refl h)
or-false-right false b h = h

pub or_cases : (a b : Bool) → (a || b) ≡ true → (a ≡ true) ⊎ (b ≡ true)
or_cases true b h = inl refl
or_cases false b h = inr h

pub or_left : (a b : Bool) → a ≡ true → (a || b) ≡ true
or_left a b p = ap (λ (x : Bool). x || b) p

pub or_right : (a b : Bool) → b ≡ true → (a || b) ≡ true
or_right true b p = refl
or_right false b p = p
