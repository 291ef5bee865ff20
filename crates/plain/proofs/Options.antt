-- What follows from a value in an option, and from none.
use mathlib.Core.Path.{◌≡◌, sym}
use Rattle.std.specs.Prelude.{Option, None, Some}
use Rattle.std.proofs.lemmas.Option.{none-some, same_Some}

pub none-ne-some : {A : Type 0} (x : A) → None ≡ Some x → ⊥
none-ne-some x e = none-some x e

pub some-ne-none : {A : Type 0} (x : A) → Some x ≡ None → ⊥
some-ne-none x e = none-some x (sym e)

pub some_inj : {A : Type 0} {x y : A} → Some x ≡ Some y → x ≡ y
some_inj {x = x} {y = y} e = same_Some x y e
