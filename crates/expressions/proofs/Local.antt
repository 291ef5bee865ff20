-- Bytes at or past an end are never looked at: what the grammar says of c and e it says of every line with the same bytes
-- before e. So a free end under a limit is an end of the line that the limit cuts.
use mathlib.Core.Path.{◌≡◌, sym, ap, ◌∙◌}
use mathlib.Core.Bool.{Bool}
use mathlib.Core.List.{List}
use Prim.Native.Nat.{ℕ, ◌≤◌, ◌<◌}
use native.Mathlib.Omega.{arith}
use Rattle.token.specs.Token.{is_whitespace}
use Rattle.syntax.specs.Walker.{byte_at}
use Rattle.expressions.specs.Grammar.{Begins, Sign, Word, Term, digits, name, minus, parens, Expr, term, joined}
use Rattle.expressions.proofs.Bytes.{operator, closer}
use Rattle.expressions.proofs.Spans.{sign-span, term-span, expr-span}

-- two lines with the same bytes before e
abbrev pub Agree : List ℕ → List ℕ → ℕ → Type 0
Agree a b e = (i : ℕ) → i < e → byte_at a i ≡ byte_at b i

module _ {a b : List ℕ} where
  begins-local : {kind : ℕ → Bool} {c p : ℕ} (e : ℕ) → p < e → Agree a b e → Begins kind a c p → Begins kind b c p
  begins-local {kind} {c} {p} e h same s = record {
    from = s.from;
    blank = λ i low high. ap is_whitespace (sym (same i (omega arith))) ∙ s.blank i low high;
    here = ap kind (sym (same p h)) ∙ s.here;
  }

  sign-local : {kind : ℕ → Bool} {c d : ℕ} (e : ℕ) → d ≤ e → Agree a b e → Sign kind a c d → Sign kind b c d
  sign-local e h same s = record { place = s.place; begins = begins-local e (omega (arith, s.past)) same s.begins; past = s.past }

  pub word-local : {first each : ℕ → Bool} {c e : ℕ} → Agree a b e → Word first each a c e → Word first each b c e
  word-local {first} {each} {c} {e} same w = record {
    place = w.place;
    begins = begins-local e w.some same w.begins;
    some = w.some;
    run = λ i low high. ap each (sym (same i high)) ∙ w.run i low high;
  }

mutual
  pub term-local : {a b : List ℕ} {c e : ℕ} → Term a c e → Agree a b e → Term b c e
  term-local (digits w) same = digits (word-local same w)
  term-local (name w) same = name (word-local same w)
  term-local {e = e} (minus s t) same =
      let k = term-span t in minus (sign-local e (omega arith) same s) (term-local t same)
  term-local {e = e} (parens s x t) same =
      let k = expr-span x in
      let l = sign-span closer t in
      parens (sign-local e (omega arith) same s) (expr-local x (λ i h. same i (omega arith))) (sign-local e (omega arith) same t)

  pub expr-local : {a b : List ℕ} {c e : ℕ} → Expr a c e → Agree a b e → Expr b c e
  expr-local (term t) same = term (term-local t same)
  expr-local {e = e} (joined t s x) same =
      let k = sign-span operator s in
      let l = expr-span x in
      joined (term-local t (λ i h. same i (omega arith))) (sign-local e (omega arith) same s) (expr-local x same)
