-- The exact part's move and the whitespace part's test, case by case as the code tells them apart. In each, v is the
-- walker that the code holds, and w the one that the definition speaks of.
use mathlib.Core.Path.{◌≡◌, sym, ap, ◌∙◌}
use mathlib.Core.Bool.{Bool, true, false, ◌&&◌, ◌||◌}
use mathlib.Core.List.{List}
use Prim.Native.Nat.{ℕ, ◌≤◌, ◌<◌}
use lib.Dec.{ltb}
use borrow.Author.Tests.{lt-ltb, le-ltb, le-leb, lt-leb}
use Rattle.plain.specs.Choice.{select}
use Rattle.token.specs.Token.{is_whitespace, same_letter}
use Rattle.syntax.specs.Walker.{byte_at, over, useful_from, useful, past_place, expect_char, gap, expect_whitespace}
use Rattle.syntax.specs.declared.walker.Walker.{Walker}

module _ (line : List ℕ) (v w : Walker) (held : v ≡ w) where
  tested-gap : (t : Bool) → gap line v ≡ t → (t, v) ≡ expect_whitespace line w
  tested-gap t e = ap (λ (b : Bool). (b, v)) (sym e) ∙ ap (expect_whitespace line) held

  pub gap-end : v.limit ≤ v.cursor → (true, v) ≡ expect_whitespace line w
  unfolding gap over
  gap-end h = tested-gap true (ap (λ (b : Bool). b || is_whitespace (byte_at line v.cursor)) (le-leb v.limit v.cursor h))

  pub gap-byte : (t : Bool) → v.cursor < v.limit → is_whitespace (byte_at line v.cursor) ≡ t → (t, v) ≡ expect_whitespace line w
  unfolding gap over
  gap-byte t h e = tested-gap t (ap (λ (b : Bool). b || is_whitespace (byte_at line v.cursor)) (lt-leb v.limit v.cursor h) ∙ e)

  module _ (x u : ℕ) (found : u ≡ useful_from line v.cursor v.limit) where
    judged : (t : Bool) → (ltb u v.limit && same_letter (byte_at line u) x) ≡ t → select t (true, past_place u v) (false, v) ≡ expect_char line x w
    unfolding expect_char useful
    judged t e =
        ap (λ (b : Bool). select b (true, past_place u v) (false, v)) (sym e)
        ∙ ap (λ (p : ℕ). select (ltb p v.limit && same_letter (byte_at line p) x) (true, past_place p v) (false, v)) found
        ∙ ap (expect_char line x) held

    pub expect-past : u < v.limit → same_letter (byte_at line u) x ≡ true → (true, past_place u v) ≡ expect_char line x w
    expect-past h e = judged true (ap (λ (b : Bool). b && same_letter (byte_at line u) x) (lt-ltb u v.limit h) ∙ e)

    pub expect-other : u < v.limit → same_letter (byte_at line u) x ≡ false → (false, v) ≡ expect_char line x w
    expect-other h e = judged false (ap (λ (b : Bool). b && same_letter (byte_at line u) x) (lt-ltb u v.limit h) ∙ e)

    pub expect-end : v.limit ≤ u → (false, v) ≡ expect_char line x w
    expect-end h = judged false (ap (λ (b : Bool). b && same_letter (byte_at line u) x) (le-ltb u v.limit h))
