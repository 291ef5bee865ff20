-- The useful place under a limit is the lesser of the limit and the one under the line's end: both are the first place at or
-- after the cursor that holds no whitespace, or the limit, and there is only one such place. So an entry of the line's places
-- and the limit give it.
use mathlib.Core.Path.{◌≡◌, sym, ap, ◌∙◌, subst}
use mathlib.Core.Bool.{true, false}
use mathlib.Core.List.{List}
use Prim.Native.Nat.{ℕ, ◌^◌, ◌≤◌, ◌<◌, min}
use native.Mathlib.Omega.{arith}
use lib.ListN.{length, get_or}
use Rattle.plain.proofs.Lists.{listed-read}
use Rattle.token.specs.Token.{is_whitespace}
use Rattle.syntax.specs.Walker.{byte_at, held, UsefulPlace, useful_from, useful}
use Rattle.syntax.specs.declared.walker.Walker.{Walker}
use Rattle.syntax.proofs.Useful.{InLine, held_same, useful-is, useful-one}
use Rattle.useful.specs.Useful.{useful_places, Lent}

module _ (line : List ℕ) (c l : ℕ) (within : c ≤ l) (fits : l ≤ length line) where
  whole : UsefulPlace line (record { cursor = c; limit = length line }) (useful_from line c (length line))
  unfolding useful
  whole = useful-is line (record { cursor = c; limit = length line }) (omega arith, omega arith)

  lesser : UsefulPlace line (record { cursor = c; limit = l }) (min (useful_from line c (length line)) l)
  lesser = record {
    from = omega (arith, whole.from);
    within = omega arith;
    passed = λ i h k. whole.passed i h (omega arith);
    stands = λ k.
        let same : useful_from line c (length line) ≡ min (useful_from line c (length line)) l = omega arith in
        subst (λ (p : ℕ). is_whitespace (byte_at line p) ≡ false) same (whole.stands (omega arith));
  }

  pub under-limit : useful_from line c l ≡ min (useful_from line c (length line)) l
  unfolding useful
  under-limit =
      useful-one line (record { cursor = c; limit = l }) _ _
      (useful-is line (record { cursor = c; limit = l }) (within, fits)) lesser

module _ (line places : List ℕ) (lent : Lent line places) where
  -- an entry of the line's places
  pub entry-is : (c : ℕ) → c ≤ length line → get_or places c 0 ≡ useful_from line c (length line)
  unfolding useful_places
  entry-is c h = listed-read 121 _ places lent.are c (omega (arith, lent.short))

  -- a byte is whitespace exactly if its place's entry is a later one
  pub later-white : (c : ℕ) → c < length line → c < get_or places c 0 → is_whitespace (byte_at line c) ≡ true
  later-white c h k = (whole line c c (omega arith) (omega arith)).passed c (omega arith) (omega (arith, entry-is c (omega arith)))

  pub own-solid : (c : ℕ) → c < length line → get_or places c 0 ≤ c → is_whitespace (byte_at line c) ≡ false
  own-solid c h k =
      let place : UsefulPlace line (record { cursor = c; limit = length line }) (useful_from line c (length line)) = whole line c c (omega arith) (omega arith) in
      let own : useful_from line c (length line) ≡ c = omega (arith, entry-is c (omega arith), place.from) in
      subst (λ (p : ℕ). is_whitespace (byte_at line p) ≡ false) own (place.stands (omega arith))

  pub entry-fits : (c : ℕ) → c ≤ length line → get_or places c 0 < 2 ^ 64
  entry-fits c h = omega (arith, lent.short, entry-is c h, (whole line c c (omega arith) h).within)

  -- held to the limit it is the walker's useful place
  pub found : (w : Walker) (u : ℕ) → InLine line w → u ≡ min (get_or places w.cursor 0) w.limit → u ≡ useful line (held line w)
  unfolding useful
  found w u h e =
      e ∙ ap (λ (p : ℕ). min p w.limit) (entry-is w.cursor (omega arith))
      ∙ sym (under-limit line w.cursor w.limit h.0 h.1)
      ∙ ap (useful line) (sym (held_same line w h))

-- the same told of the walker that the code has, which is within its line and so held already
pub told-found : (line : List ℕ) (w : Walker) (u : ℕ) → InLine line w → u ≡ useful line (held line w) → u ≡ useful_from line w.cursor w.limit
unfolding useful
told-found line w u h e = e ∙ ap (useful line) (held_same line w h)
