-- An end lies past its start and within the line, and follows a byte that is no whitespace.
use mathlib.Core.Path.{◌≡◌, ap, ◌∙◌}
use mathlib.Core.Bool.{Bool, false}
use mathlib.Core.List.{List}
use Prim.Native.Nat.{ℕ, ◌-◌, ◌≤◌, ◌<◌}
use native.Mathlib.Omega.{arith}
use lib.ListN.{length}
use Rattle.token.specs.Token.{is_whitespace}
use Rattle.syntax.specs.Walker.{byte_at}
use Rattle.expressions.specs.Grammar.{Sign, Word, Term, digits, name, minus, parens, Expr, term, joined}
use Rattle.expressions.proofs.Bytes.{Kind, solid, digit, alnum, minus-sign, opener, closer, operator}
use Rattle.expressions.proofs.Tokens.{inside}

-- from c to e, which lies in the line
abbrev pub Span : List ℕ → ℕ → ℕ → Type 0
Span line c e = (c < e) × (e ≤ length line)

module _ {line : List ℕ} {c e : ℕ} where
  pub sign-span : {kind : ℕ → Bool} → Kind kind → Sign kind line c e → Span line c e
  sign-span k s =
      let low = s.begins.from in
      let high = inside k line s.place s.begins.here in
      let end = s.past in
      (omega arith, omega arith)

  pub word-span : {first each : ℕ → Bool} → Kind each → Word first each line c e → Span line c e
  word-span {first} {each} k w =
      let low = w.begins.from in
      let more = w.some in
      let high = inside k line (e - 1) (w.run (e - 1) (omega arith) (omega arith)) in
      (omega arith, omega arith)

  -- the byte before an end
  sign-solid : {kind : ℕ → Bool} → Kind kind → Sign kind line c e → is_whitespace (byte_at line (e - 1)) ≡ false
  sign-solid k s =
      let at : e - 1 ≡ s.place = omega (arith, s.past) in
      ap (λ (i : ℕ). is_whitespace (byte_at line i)) at ∙ solid k (byte_at line s.place) s.begins.here

  word-solid : {first each : ℕ → Bool} → Kind each → Word first each line c e → is_whitespace (byte_at line (e - 1)) ≡ false
  word-solid k w = let more = w.some in solid k (byte_at line (e - 1)) (w.run (e - 1) (omega arith) (omega arith))

mutual
  pub term-span : {line : List ℕ} {c e : ℕ} → Term line c e → Span line c e
  term-span (digits w) = word-span digit w
  term-span (name w) = word-span alnum w
  term-span (minus s t) = let a = sign-span minus-sign s in let b = term-span t in (omega arith, omega arith)
  term-span (parens s x t) = let a = sign-span opener s in let b = expr-span x in let d = sign-span closer t in (omega arith, omega arith)

  pub expr-span : {line : List ℕ} {c e : ℕ} → Expr line c e → Span line c e
  expr-span (term t) = term-span t
  expr-span (joined t s x) = let a = term-span t in let b = sign-span operator s in let d = expr-span x in (omega arith, omega arith)

-- an expression's end follows a byte that is no whitespace
pub term-solid : {line : List ℕ} {c e : ℕ} → Term line c e → is_whitespace (byte_at line (e - 1)) ≡ false
term-solid (digits w) = word-solid digit w
term-solid (name w) = word-solid alnum w
term-solid (minus s t) = term-solid t
term-solid (parens s x t) = sign-solid closer t

pub expr-solid : {line : List ℕ} {c e : ℕ} → Expr line c e → is_whitespace (byte_at line (e - 1)) ≡ false
expr-solid (term t) = term-solid t
expr-solid (joined t s x) = expr-solid x
