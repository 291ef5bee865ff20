-- No byte of a line's prefix is 0: its bytes are those of an accepted line that are no whitespace, so all are 33 or more; and
-- lowering lowers none.
use mathlib.Core.Path.{◌≡◌, refl, sym, ◌∙◌}
use mathlib.Core.Bool.{Bool, true, false}
use mathlib.Core.List.{List, [], ◌∷◌, map}
use Rattle.std.specs.Prelude.{None}
use Prim.Native.Nat.{ℕ, ◌≤◌}
use native.Mathlib.Omega.{arith}
use lib.ListN.{length, length-take}
use borrow.Author.Tests.{not-true}
use Rattle.plain.specs.Choice.{select}
use Rattle.plain.specs.Lists.{keep_if, every}
use Rattle.plain.proofs.Tests.{not-both}
use Rattle.plain.proofs.Every.{every-entry}
use Rattle.token.specs.Token.{is_whitespace, is_solid, lowered}
use Rattle.line.specs.Line.{is_allowed, fault_at}
use Rattle.line.proofs.Lines.{allowed-low, allowed-high, good-is}
use Rattle.ruledef_map.specs.RuledefMap.{line_prefix}
use Rattle.sorting.proofs.Insertions.{less-or-not, every-none, every-cons, every-head, every-tail}
use Rattle.leads.proofs.Keys.{is_byte}
use Rattle.leads.proofs.Bytes.{every_take, lowered-byte}

solid-bytes : (line : List ℕ) → every is_allowed line ≡ true → every is_byte (map lowered (keep_if is_solid line)) ≡ true
unfolding keep_if
solid-bytes [] h = every-none is_byte
solid-bytes (b ∷ line) h = go (is_solid b) refl (solid-bytes line (every-tail is_allowed b line h))
  where
    byte : is_whitespace b ≡ false → is_byte (lowered b) ≡ true
    byte solid =
        less-or-not b 33 (λ l. absurd (not-both (every-head is_allowed b line h) (sym (allowed-low b l) ∙ solid)))
        (λ l.
        less-or-not 126 b (λ k. absurd (not-both (every-head is_allowed b line h) (sym (allowed-high b l k))))
        (λ k. lowered-byte b (omega arith) (omega arith)))

    go :
        (s : Bool) → is_solid b ≡ s → every is_byte (map lowered (keep_if is_solid line)) ≡ true →
        every is_byte (map lowered (select s (b ∷ keep_if is_solid line) (keep_if is_solid line))) ≡ true
    go true e ih = every-cons is_byte (map lowered (keep_if is_solid line)) (byte (not-true (is_whitespace b) e)) ih
    go false e ih = ih

pub line-bytes : (line : List ℕ) → fault_at line ≡ None → every is_byte (line_prefix line) ≡ true
unfolding line_prefix
line-bytes line good =
    every_take is_byte 4 (map lowered (keep_if is_solid line))
    (solid-bytes line (every-entry is_allowed line ((good-is line).0 good).bytes))

pub line-short : (line : List ℕ) → length (line_prefix line) ≤ 4
unfolding line_prefix
line-short line = omega (arith, length-take 4 (map lowered (keep_if is_solid line)))
