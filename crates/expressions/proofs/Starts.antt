-- What the byte at a start decides. Whitespace and a minus change no end: the ends are those of the start after them. A
-- digit, a letter and an opener begin a term of their own; no other byte begins any.
use mathlib.Core.Path.{◌≡◌, refl, sym, ap, ◌∙◌, subst}
use mathlib.Core.Bool.{Bool, true, false}
use mathlib.Core.List.{List}
use Prim.Native.Nat.{ℕ, suc, ◌≤◌, ◌<◌}
use native.Mathlib.Decide.{dec_lt}
use native.Mathlib.Omega.{arith}
use Rattle.plain.proofs.Tests.{not-both}
use Rattle.token.specs.Token.{is_whitespace}
use Rattle.syntax.specs.Walker.{byte_at}
use Rattle.expressions.specs.Grammar.{is_digit, is_letter, is_alnum, is_minus, is_opener, is_closer, Begins, Sign, Word, Digits, Name, Term, digits, name, minus, parens, Expr, term, joined}
use Rattle.expressions.specs.Ends.{run_end}
use Rattle.expressions.specs.Filling.{Parts, TermEnds}
use Rattle.expressions.proofs.Bytes.{Kind, solid, digit-is, letter-is, minus_is, opener-is, digit, letter, alnum, minus-sign, opener, closer, digit-alnum, letter-alnum}
use Rattle.expressions.proofs.Tokens.{inside, begins-here, byte-here, here-begins, begins-on, begins-back, begins-once}
use Rattle.expressions.proofs.Spans.{expr-span}
use Rattle.expressions.proofs.Runs.{run_is, run_inside, run_more}

-- an expression from c is one from d, if each term is
pub expr-map : {line : List ℕ} {c d : ℕ} → ((e : ℕ) → Term line c e → Term line d e) → (e : ℕ) → Expr line c e → Expr line d e
expr-map f e (term t) = term (f e t)
expr-map f e (joined {m = m} t s x) = joined (f m t) s x

module _ (line : List ℕ) (c : ℕ) where
  -- ---- whitespace

  module _ (white : is_whitespace (byte_at line c) ≡ true) where
    sign-on : {kind : ℕ → Bool} {d : ℕ} → Kind kind → Sign kind line c d → Sign kind line (suc c) d
    sign-on k s = record { place = s.place; begins = begins-on white k s.begins; past = s.past }

    sign-back : {kind : ℕ → Bool} {d : ℕ} → Sign kind line (suc c) d → Sign kind line c d
    sign-back s = record { place = s.place; begins = begins-back white s.begins; past = s.past }

    pub word_on : {first each : ℕ → Bool} {e : ℕ} → Kind first → Word first each line c e → Word first each line (suc c) e
    word_on k w = record { place = w.place; begins = begins-on white k w.begins; some = w.some; run = w.run }

    pub word_back : {first each : ℕ → Bool} {e : ℕ} → Word first each line (suc c) e → Word first each line c e
    word_back w = record { place = w.place; begins = begins-back white w.begins; some = w.some; run = w.run }

    white-on : (e : ℕ) → Term line c e → Term line (suc c) e
    white-on e (digits w) = digits (word_on digit w)
    white-on e (name w) = name (word_on letter w)
    white-on e (minus s t) = minus (sign-on minus-sign s) t
    white-on e (parens s x t) = parens (sign-on opener s) x t

    white-back : (e : ℕ) → Term line (suc c) e → Term line c e
    white-back e (digits w) = digits (word_back w)
    white-back e (name w) = name (word_back w)
    white-back e (minus s t) = minus (sign-back s) t
    white-back e (parens s x t) = parens (sign-back s) x t

    -- leading whitespace changes no end
    pub past-white : (e : ℕ) → Expr line c e → Expr line (suc c) e
    past-white = expr-map white-on

    pub before-white : (e : ℕ) → Expr line (suc c) e → Expr line c e
    before-white = expr-map white-back

  -- ---- a byte that is no whitespace

  sign-here : {kind : ℕ → Bool} {d : ℕ} → is_whitespace (byte_at line c) ≡ false → Sign kind line c d → d ≡ suc c
  sign-here h s = s.past ∙ ap suc (begins-here h s.begins)

  here-sign : {kind : ℕ → Bool} → kind (byte_at line c) ≡ true → Sign kind line c (suc c)
  here-sign h = record { place = c; begins = here-begins h; past = refl }

  -- ---- a minus

  module _ (at : is_minus (byte_at line c) ≡ true) where
    is-minus : byte_at line c ≡ 45
    is-minus = minus_is (byte_at line c) at

    bare : is_whitespace (byte_at line c) ≡ false
    bare = solid minus-sign (byte_at line c) at

    minus-on : (e : ℕ) → Term line c e → Term line (suc c) e
    minus-on e (digits w) = absurd (omega (arith, is-minus, digit-is (byte_at line c) (byte-here bare w.begins)))
    minus-on e (name w) = absurd (omega (arith, is-minus, letter-is (byte_at line c) (byte-here bare w.begins)))
    minus-on e (minus s t) = subst (λ (d : ℕ). Term line d e) (sign-here bare s) t
    minus-on e (parens s x t) = absurd (omega (arith, is-minus, opener-is (byte_at line c) (byte-here bare s.begins)))

    -- a minus before a term changes no end
    pub past-minus : (e : ℕ) → Expr line c e → Expr line (suc c) e
    past-minus = expr-map minus-on

    pub before-minus : (e : ℕ) → Expr line (suc c) e → Expr line c e
    before-minus = expr-map (λ e t. minus (here-sign at) t)

  -- ---- a word

  -- the ends of a word that begins at c: each place of its run
  pub word-only : {first each : ℕ → Bool} → Kind each → is_whitespace (byte_at line c) ≡ false → (e : ℕ) → Word first each line c e → (c < e) × (e ≤ run_end each line c)
  word-only {first} {each} k h e w =
      let r = run_is k line c in
      let at = begins-here h w.begins in
      let more = w.some in
      elim (dec_lt (run_end each line c) e) [
        | yes l ↦ absurd (not-both (w.run (run_end each line c) (omega (arith, r.from)) l) r.ends)
        | no d ↦ (omega arith, omega (arith, d))
      ]

  pub word_each : {first each : ℕ → Bool} → Kind each → first (byte_at line c) ≡ true → (e : ℕ) → c < e → e ≤ run_end each line c → Word first each line c e
  word_each {first} {each} k h e low high =
      record { place = c; begins = here-begins h; some = low; run = λ i a b. (run_is k line c).run i a (omega arith) }

  -- within its run, no byte parts it from what follows
  word-last : {each kind : ℕ → Bool} → Kind each → ((b : ℕ) → each b ≡ true → is_alnum b ≡ true) → Parts kind
      → (e p : ℕ) → c < e → e ≤ run_end each line c → Begins kind line e p → e ≡ run_end each line c
  word-last {each} {kind} k sub parts e p low high b =
      elim (dec_lt e (run_end each line c)) [
        | no d ↦ omega (arith, d)
        | yes l ↦ let here : is_alnum (byte_at line e) ≡ true = sub (byte_at line e) ((run_is k line c).run e (omega arith) l) in
            let bare : is_whitespace (byte_at line e) ≡ false = solid alnum (byte_at line e) here in
            absurd (not-both here (parts (byte_at line e) (byte-here bare b)))
      ]

  -- ---- digits

  module _ (at : is_digit (byte_at line c) ≡ true) where
    bare-digit : is_whitespace (byte_at line c) ≡ false
    bare-digit = solid digit (byte_at line c) at

    digit-only : (e : ℕ) → Term line c e → Digits line c e
    digit-only e (digits w) = w
    digit-only e (name w) = absurd (omega (arith, digit-is (byte_at line c) at, letter-is (byte_at line c) (byte-here bare-digit w.begins)))
    digit-only e (minus s t) = absurd (omega (arith, digit-is (byte_at line c) at, minus_is (byte_at line c) (byte-here bare-digit s.begins)))
    digit-only e (parens s x t) = absurd (omega (arith, digit-is (byte_at line c) at, opener-is (byte_at line c) (byte-here bare-digit s.begins)))

    pub digits-end : TermEnds line c c (run_end is_digit line c)
    digits-end = record {
      after = omega arith;
      some = run_more digit line c at;
      inside = run_inside digit line c (omega (arith, inside digit line c at));
      each = λ e low high. digits (word_each digit at e low high);
      only = λ e t. word-only digit bare-digit e (digit-only e t);
      last = λ e p parts t b. let (low, high) = word-only digit bare-digit e (digit-only e t) in word-last digit digit-alnum parts e p low high b;
    }

  -- ---- a name

  module _ (at : is_letter (byte_at line c) ≡ true) where
    bare-letter : is_whitespace (byte_at line c) ≡ false
    bare-letter = solid letter (byte_at line c) at

    letter-only : (e : ℕ) → Term line c e → Name line c e
    letter-only e (digits w) = absurd (omega (arith, letter-is (byte_at line c) at, digit-is (byte_at line c) (byte-here bare-letter w.begins)))
    letter-only e (name w) = w
    letter-only e (minus s t) = absurd (omega (arith, letter-is (byte_at line c) at, minus_is (byte_at line c) (byte-here bare-letter s.begins)))
    letter-only e (parens s x t) = absurd (omega (arith, letter-is (byte_at line c) at, opener-is (byte_at line c) (byte-here bare-letter s.begins)))

    pub name-ends : TermEnds line c c (run_end is_alnum line c)
    name-ends = record {
      after = omega arith;
      some = run_more alnum line c (letter-alnum (byte_at line c) at);
      inside = run_inside alnum line c (omega (arith, inside letter line c at));
      each = λ e low high. name (word_each alnum at e low high);
      only = λ e t. word-only alnum bare-letter e (letter-only e t);
      last = λ e p parts t b. let (low, high) = word-only alnum bare-letter e (letter-only e t) in word-last alnum (λ b h. h) parts e p low high b;
    }

  -- ---- an opener

  -- an expression in parentheses: what is within, and its closer's place
  pub record Closed (e : ℕ) : Type 0 where
    pub end : ℕ
    pub place : ℕ
    pub inner : Expr line (suc c) end
    pub closes : Begins is_closer line end place
    pub past : e ≡ suc place

  module _ (at : is_opener (byte_at line c) ≡ true) where
    bare-opener : is_whitespace (byte_at line c) ≡ false
    bare-opener = solid opener (byte_at line c) at

    pub opener-only : (e : ℕ) → Term line c e → Closed e
    opener-only e (digits w) = absurd (omega (arith, opener-is (byte_at line c) at, digit-is (byte_at line c) (byte-here bare-opener w.begins)))
    opener-only e (name w) = absurd (omega (arith, opener-is (byte_at line c) at, letter-is (byte_at line c) (byte-here bare-opener w.begins)))
    opener-only e (minus s t) = absurd (omega (arith, opener-is (byte_at line c) at, minus_is (byte_at line c) (byte-here bare-opener s.begins)))
    opener-only e (parens {m = m} s x t) = record {
      end = m;
      place = t.place;
      inner = subst (λ (d : ℕ). Expr line d m) (sign-here bare-opener s) x;
      closes = t.begins;
      past = t.past;
    }

    -- `(e)` is a term wherever e is an expression
    pub in-parens : (m p : ℕ) → Expr line (suc c) m → Begins is_closer line m p → Term line c (suc p)
    in-parens m p x b = parens (here-sign at) x (record { place = p; begins = b; past = refl })

    -- so a term ends past the one closer
    pub parens-end : (m p : ℕ) → Expr line (suc c) m → Begins is_closer line m p
        → ((n q : ℕ) → Expr line (suc c) n → Begins is_closer line n q → n ≡ m) → TermEnds line c p (suc p)
    parens-end m p x b one = record {
      after = omega (arith, expr-span x, b.from);
      some = omega arith;
      inside = omega (arith, inside closer line p b.here);
      each = λ e low high. let same : suc p ≡ e = omega arith in subst (Term line c) same (in-parens m p x b);
      only = λ e t. let same = past_one e t in (omega arith, omega arith);
      last = λ e q parts t k. past_one e t;
    }
      where
        past_one : (e : ℕ) → Term line c e → e ≡ suc p
        past_one e t =
            let t' = opener-only e t in
            let same = one t'.end t'.place t'.inner t'.closes in
            let here : Begins is_closer line m t'.place = subst (λ (n : ℕ). Begins is_closer line n t'.place) same t'.closes in
            t'.past ∙ ap suc (begins-once closer line m t'.place here ∙ sym (begins-once closer line m p b))

  -- ---- any other byte

  pub no-term : is_whitespace (byte_at line c) ≡ false → is_minus (byte_at line c) ≡ false → is_digit (byte_at line c) ≡ false
      → is_letter (byte_at line c) ≡ false → is_opener (byte_at line c) ≡ false → (e : ℕ) → Term line c e → ⊥
  no-term w m d l o e (digits x) = not-both (byte-here w x.begins) d
  no-term w m d l o e (name x) = not-both (byte-here w x.begins) l
  no-term w m d l o e (minus s t) = not-both (byte-here w s.begins) m
  no-term w m d l o e (parens s x t) = not-both (byte-here w s.begins) o
