-- A part within the limits: its word and its ruleset are small.
use mathlib.Core.Path.{◌≡◌, refl, sym, ap, ◌∙◌}
use mathlib.Core.Bool.{Bool, true, false, ◌&&◌}
use Rattle.std.specs.Prelude.{Option, None, Some}
use Prim.Native.Nat.{ℕ, ◌≤◌, ◌<◌}
use native.Mathlib.Omega.{arith}
use lib.Dec.{leb}
use borrow.Author.Tests.{leb-true, ltb-true}
use Rattle.plain.specs.Choice.{select}
use Rattle.plain.proofs.Options.{none-ne-some, some_inj}
use Rattle.plain.proofs.Tests.{and_left, and_right}
use Rattle.defs.specs.declared.ruledef.Part.{Part}
use Rattle.defs.specs.declared.ruledef.Part.TheVariants.{Exact, Whitespace, Expression, Nested}
use Rattle.packing.specs.Data.{word_of, is_part_of}
use Rattle.fields.specs.Said.{word_in}

pub nested-low : (p : Part) (r : ℕ) → p ≡ Nested r → is_part_of 32 p ≡ true → r < 100
nested-low p r e h = omega (arith, ltb-true r 32 (ap (is_part_of 32) (sym e) ∙ h))

-- a part's word is small
pub word_small : (s : ℕ) (o : Option Part) (w : ℕ) → s ≤ 32 → word_in s o ≡ Some w → w < 65536
word_small s None w h e = absurd (none-ne-some _ e)
word_small s (Some p) w h e = go (is_part_of s p) refl e
  where
    low : (q : Part) → is_part_of s q ≡ true → word_of q < 65536
    low (Exact b) e = omega (arith, leb-true b 126 (and_right (leb 33 b) _ (and_left (leb 33 b && leb b 126) _ e)))
    low Whitespace e = omega arith
    low Expression e = omega arith
    low (Nested r) e = omega (arith, h, ltb-true r s e)

    go : (b : Bool) → is_part_of s p ≡ b → select b (Some (word_of p)) None ≡ Some w → w < 65536
    go true e k = let is : word_of p ≡ w = some_inj k in omega (arith, low p e, is)
    go false e k = absurd (none-ne-some _ k)
