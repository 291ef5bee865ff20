-- What the code's tests of a start tell, over plain values, with premises in the code's form.
use mathlib.Core.Path.{◌≡◌, sym, ap, ap₂, ◌∙◌}
use mathlib.Core.Bool.{Bool, true, false, ◌||◌}
use mathlib.Core.List.{List}
use Rattle.std.specs.Prelude.{Option, None, Some}
use Prim.Native.Nat.{ℕ, ◌+◌, ◌≤◌, ◌<◌}
use native.Mathlib.Numerals.{add-one}
use native.Mathlib.Omega.{arith}
use borrow.Author.Tests.{eq-eqb, ne_eqb}
use Rattle.plain.specs.Choice.{select}
use Rattle.token.specs.Token.{is_whitespace}
use Rattle.syntax.specs.Walker.{byte_at}
use Rattle.extents.specs.Sheet.{entry_end}
use Rattle.extents.proofs.Reading.{end-some}
use Rattle.expressions.specs.Grammar.{is_digit, is_letter, is_alnum, is_minus, is_opener, is_closer}
use Rattle.expressions.specs.Ends.{token_at, sign_at, run_end, TermAt, closed_at, closed_after, changes_none, term_at}
use Rattle.expressions.specs.Filling.{Reaches}
use Rattle.expressions.specs.declared.Reach.{Reach}
use Rattle.expressions.proofs.Bytes.{digit, alnum, alnum-letter, no-letter}
use Rattle.expressions.proofs.Runs.{run-some, run-empty}

-- whitespace or a minus, as the code tests them
pub changes-told : {w m : Bool} (b : ℕ) → w ≡ is_whitespace b → m ≡ is_minus b → (w || m) ≡ changes_none b
changes-told b p q = ap₂ ◌||◌ p q

-- ---- the byte with which the token after m begins

module _ (kind : ℕ → Bool) (line : List ℕ) (m t b : ℕ) (token : t ≡ token_at line m) (byte : b ≡ byte_at line t) where
  same_kind : kind (byte_at line (token_at line m)) ≡ kind b
  same_kind = ap kind (sym (byte ∙ ap (byte_at line) token))

  pub sign-off : kind b ≡ false → sign_at kind line m ≡ None
  unfolding sign_at
  sign-off h = ap (λ (x : Bool). select x (Some (token_at line m)) None) (same_kind ∙ h)

  pub sign-on : kind b ≡ true → sign_at kind line m ≡ Some t
  unfolding sign_at
  sign-on h = ap (λ (x : Bool). select x (Some (token_at line m)) None) (same_kind ∙ h) ∙ ap {B = Option ℕ} Some (sym token)

-- ---- an expression in parentheses

module _ (line : List ℕ) (inner : ℕ) where
  pub closed-nothing : inner ≡ 255 → None ≡ closed_after line (entry_end inner)
  closed-nothing h = sym (ap (λ (x : Bool). closed_after line (select x None (Some inner))) (eq-eqb inner 255 h))

  module _ (is : inner ≡ 255 → ⊥) where
    after_is : (o : Option ℕ) → sign_at is_closer line inner ≡ o → closed_at o ≡ closed_after line (entry_end inner)
    after_is o e = sym (ap (closed_after line) (sym (end-some inner is)) ∙ ap closed_at e)

    module _ (t b : ℕ) (token : t ≡ token_at line inner) (byte : b ≡ byte_at line t) where
      pub closed-not : (b ≡ 41 → ⊥) → None ≡ closed_after line (entry_end inner)
      unfolding is_closer
      closed-not h = after_is None (sign-off is_closer line inner t b token byte (ne_eqb b 41 h))

      pub closed-here : b ≡ 41 → Some (record { low = t; top = t + 1 }) ≡ closed_after line (entry_end inner)
      unfolding is_closer
      closed-here h =
          ap (λ (x : ℕ). Some (record { low = t; top = x })) (add-one t)
          ∙ after_is (Some t) (sign-on is_closer line inner t b token byte (eq-eqb b 41 h))

-- ---- a term

module _ (line : List ℕ) (inner : Option ℕ) (c : ℕ) (reach : Reach) (known : Reaches line c reach) where
  -- the term by the byte's three tests
  abbrev by : Bool → Bool → Bool → Option TermAt
  by d l o =
      select d (Some (record { low = c; top = run_end is_digit line c }))
      (select l (Some (record { low = c; top = run_end is_alnum line c }))
      (select o (closed_after line inner) None))

  pub term-digit : c < reach.digits → Some (record { low = c; top = reach.digits }) ≡ term_at line inner c
  unfolding term_at
  term-digit h =
      ap (λ (x : ℕ). Some (record { low = c; top = x })) known.digits
      ∙ sym (ap (λ (d : Bool). by d (is_letter (byte_at line c)) (is_opener (byte_at line c))) (run-some digit line c (omega (arith, known.digits))))

  module _ (none_here : reach.digits ≤ c) where
    no_digit : is_digit (byte_at line c) ≡ false
    no_digit = run-empty digit line c (omega (arith, known.digits))

    by-letter : term_at line inner c ≡ by false (is_letter (byte_at line c)) (is_opener (byte_at line c))
    unfolding term_at
    by-letter = ap (λ (d : Bool). by d (is_letter (byte_at line c)) (is_opener (byte_at line c))) no_digit

    pub term-letter : c < reach.names → Some (record { low = c; top = reach.names }) ≡ term_at line inner c
    term-letter h =
        ap (λ (x : ℕ). Some (record { low = c; top = x })) known.names
        ∙ sym (by-letter ∙ ap (λ (l : Bool). by false l (is_opener (byte_at line c)))
        (alnum-letter (byte_at line c) (run-some alnum line c (omega (arith, known.names))) no_digit))

    module _ (no_name : reach.names ≤ c) where
      by-opener : term_at line inner c ≡ by false false (is_opener (byte_at line c))
      by-opener =
          by-letter ∙ ap (λ (l : Bool). by false l (is_opener (byte_at line c)))
          (no-letter (byte_at line c) (run-empty alnum line c (omega (arith, known.names))))

      pub term-opener : {o : Option TermAt} → byte_at line c ≡ 40 → o ≡ closed_after line inner → o ≡ term_at line inner c
      unfolding is_opener
      term-opener m e = e ∙ sym (by-opener ∙ ap (λ (o : Bool). by false false o) (eq-eqb (byte_at line c) 40 m))

      pub term-nothing : (byte_at line c ≡ 40 → ⊥) → None ≡ term_at line inner c
      unfolding is_opener
      term-nothing m = sym (by-opener ∙ ap (λ (o : Bool). by false false o) (ne_eqb (byte_at line c) 40 m))
