-- Where tokens begin. A kind of bytes that are no whitespace marks one place after a start, and that is where the scan over
-- whitespace stops.
use mathlib.Core.Path.{◌≡◌, refl, sym, ap, ◌∙◌, subst}
use mathlib.Core.Bool.{Bool, true, false}
use mathlib.Core.List.{List, []}
use Rattle.std.specs.Prelude.{None, Some}
use Rattle.plain.proofs.Options.{none-ne-some, some-ne-none, some_inj}
use Prim.Native.Nat.{ℕ, suc, ◌+◌, ◌≤◌, ◌<◌}
use native.Mathlib.Decide.{dec_lt, ℕ_discrete}
use native.Mathlib.Omega.{arith}
use lib.ListN.{length, take, drop_of_length-le, get_or-eq_default}
use lib.Seq.{slice, length-take-le}
use Rattle.plain.specs.Choice.{select}
use Rattle.plain.proofs.Tests.{not-both}
use Rattle.token.specs.Token.{is_whitespace}
use Rattle.syntax.specs.Walker.{byte_at, skipped, useful_from, useful}
use Rattle.syntax.proofs.Useful.{useful-end, useful-here, useful-later, useful-is, useful-one}
use Rattle.expressions.specs.Grammar.{Begins}
use Rattle.expressions.specs.Ends.{token_at, sign_at}
use Rattle.expressions.proofs.Bytes.{Kind, solid, past}

-- a byte of a kind stands within the line
pub inside : {kind : ℕ → Bool} → Kind kind → (line : List ℕ) (p : ℕ) → kind (byte_at line p) ≡ true → p < length line
inside {kind} k line p h =
    elim (dec_lt p (length line)) [
      | yes l ↦ l
      | no d ↦ absurd (not-both h (ap kind (get_or-eq_default line 0 (omega (arith, d))) ∙ past k))
    ]

-- a token begins at or after c
pub token-from : (line : List ℕ) (c : ℕ) → c ≤ token_at line c
unfolding token_at useful_from useful skipped
token-from line c =
    elim (dec_lt (length line) c) [
      | no h ↦ (useful-is line (record { cursor = c; limit = length line }) (omega (arith, h), omega arith)).from
      | yes h ↦ let empty : slice c (length line) line ≡ [] = drop_of_length-le (take (length line) line) {i = c} (omega (arith, length-take-le (length line) line (omega arith))) in
          rw empty (omega arith)
    ]

-- it is that of the next start, if whitespace stands here
pub token-next : (line : List ℕ) (c : ℕ) → c < length line → token_at line c ≡ select (is_whitespace (byte_at line c)) (token_at line (c + 1)) c
unfolding token_at
token-next line c h = go (is_whitespace (byte_at line c)) refl
  where
    go : (t : Bool) → is_whitespace (byte_at line c) ≡ t → useful_from line c (length line) ≡ select t (useful_from line (c + 1) (length line)) c
    go true e = sym (useful-later line (length line) (omega arith) c h e)
    go false e = useful-here line (length line) (omega arith) c h e

pub token-over : (line : List ℕ) → token_at line (length line) ≡ length line
unfolding token_at
token-over line = useful-end line (length line) (omega arith)

pub token-inside : (line : List ℕ) (c : ℕ) → c ≤ length line → token_at line c ≤ length line
unfolding token_at useful
token-inside line c h = (useful-is line (record { cursor = c; limit = length line }) (h, omega arith)).within

module _ {kind : ℕ → Bool} (k : Kind kind) (line : List ℕ) (c : ℕ) where
  -- a token begins at one place after c
  pub begins-once : (p : ℕ) → Begins kind line c p → p ≡ token_at line c
  unfolding token_at useful
  begins-once p b =
      let high = inside k line p b.here in
      let low = b.from in
      useful-one line (record { cursor = c; limit = length line }) p (token_at line c)
      (record { from = low; within = omega arith; passed = b.blank; stands = λ h. solid k (byte_at line p) b.here })
      (useful-is line (record { cursor = c; limit = length line }) (omega arith, omega arith))

  -- where the scan stops at a byte of the kind, a token begins
  pub token_begins : kind (byte_at line (token_at line c)) ≡ true → Begins kind line c (token_at line c)
  unfolding token_at useful
  token_begins h =
      let low = token-from line c in
      let high = inside k line (token_at line c) h in
      let place = useful-is line (record { cursor = c; limit = length line }) (omega arith, omega arith) in
      record { from = low; blank = place.passed; here = h }

  pub begins-there : (p : ℕ) → sign_at kind line c ≡ Some p → Begins kind line c p
  unfolding sign_at
  begins-there p e = go (kind (byte_at line (token_at line c))) refl e
    where
      go : (t : Bool) → kind (byte_at line (token_at line c)) ≡ t → select t (Some (token_at line c)) None ≡ Some p → Begins kind line c p
      go true h q = subst (λ (n : ℕ). Begins kind line c n) (some_inj q) (token_begins h)
      go false h q = absurd (none-ne-some p q)

  pub begins-nowhere : sign_at kind line c ≡ None → (p : ℕ) → Begins kind line c p → ⊥
  unfolding sign_at
  begins-nowhere e p b = go (kind (byte_at line (token_at line c))) refl e
    where
      go : (t : Bool) → kind (byte_at line (token_at line c)) ≡ t → select t (Some (token_at line c)) None ≡ None → ⊥
      go true h q = some-ne-none (token_at line c) q
      go false h q = not-both b.here (ap (λ (n : ℕ). kind (byte_at line n)) (begins-once p b) ∙ h)

-- ---- a start whose byte is no whitespace, and one whose byte is

module _ {kind : ℕ → Bool} {line : List ℕ} {c : ℕ} where
  -- a token begins right there
  pub begins-here : {p : ℕ} → is_whitespace (byte_at line c) ≡ false → Begins kind line c p → p ≡ c
  begins-here {p} h b =
      elim (dec_lt c p) [
        | yes l ↦ absurd (not-both (b.blank c (omega arith) l) h)
        | no d ↦ omega (arith, d, b.from)
      ]

  pub byte-here : {p : ℕ} → is_whitespace (byte_at line c) ≡ false → Begins kind line c p → kind (byte_at line c) ≡ true
  byte-here h b = ap (λ (n : ℕ). kind (byte_at line n)) (sym (begins-here h b)) ∙ b.here

  pub here-begins : kind (byte_at line c) ≡ true → Begins kind line c c
  here-begins h = record { from = omega arith; blank = λ i low high. absurd (omega arith); here = h }

  -- or after the whitespace
  module _ (white : is_whitespace (byte_at line c) ≡ true) where
    pub begins-on : {p : ℕ} → Kind kind → Begins kind line c p → Begins kind line (suc c) p
    begins-on {p} k b =
        elim (ℕ_discrete p c) [
          | yes q ↦ absurd (not-both white (solid k (byte_at line c) (ap (λ (n : ℕ). kind (byte_at line n)) (sym q) ∙ b.here)))
          | no d ↦ record { from = omega (arith, d, b.from); blank = λ i low high. b.blank i (omega arith) high; here = b.here }
        ]

    pub begins-back : {p : ℕ} → Begins kind line (suc c) p → Begins kind line c p
    begins-back {p} b = record {
      from = omega (arith, b.from);
      blank = λ i low high. elim (ℕ_discrete i c) [ yes q ↦ ap (λ (n : ℕ). is_whitespace (byte_at line n)) q ∙ white | no d ↦ b.blank i (omega (arith, d)) high ];
      here = b.here;
    }
