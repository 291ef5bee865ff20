-- The ends that are computed are the grammar's: a row from later rows, so every row, and with it free and greedy.
use mathlib.Core.Path.{◌≡◌, refl, sym, ap, ◌∙◌, subst}
use mathlib.Core.Logic.{◌⊎◌, inl, inr, ⊎_elim}
use mathlib.Core.Bool.{Bool, true, false}
use mathlib.Core.List.{List}
use Rattle.std.specs.Prelude.{Option, None, Some}
use Rattle.plain.proofs.Options.{none-ne-some, some_inj}
use Prim.Native.Nat.{ℕ, zero, suc, ◌+◌, ◌≤◌, ◌<◌}
use native.Mathlib.Decide.{dec_lt}
use native.Mathlib.Omega.{arith}
use lib.ListN.{length}
use Rattle.plain.specs.Choice.{select}
use Rattle.plain.proofs.Tests.{not-both, or_cases, or-false-left, or-false-right}
use Rattle.token.specs.Token.{is_whitespace}
use Rattle.syntax.specs.Walker.{byte_at}
use Rattle.line.specs.Line.{or_else}
use Rattle.expressions.specs.Grammar.{is_digit, is_letter, is_alnum, is_operator, is_minus, is_opener, is_closer, Begins, Digits, Term, Expr, term, joined}
use Rattle.expressions.specs.Ends.{token_at, sign_at, run_end, up_to, Row, no_row, TermAt, closed_at, closed_after, term_at, joined_at, term_row, changes_none, row_of, row_from, starts_after, free, greedy}
use Rattle.expressions.specs.Filling.{WholeIs, TermEnds}
use Rattle.expressions.proofs.Bytes.{digit, operator, closer, operator-parts, closer-parts, operator-no-closer}
use Rattle.expressions.proofs.Tokens.{begins-once, begins-there, begins-nowhere, token_begins}
use Rattle.expressions.proofs.Spans.{term-span, expr-span}
use Rattle.expressions.proofs.Runs.{RunEnds, run_is}
use Rattle.expressions.proofs.Starts.{past-white, before-white, past-minus, before-minus, digits-end, name-ends, opener-only, parens-end, no-term}
use Rattle.expressions.proofs.Greatest.{Greatest, greatest-map, up-greatest, or-else-greatest}

-- a row that says what the grammar says of its start
pub record RowIs (line : List ℕ) (c : ℕ) (r : Row) : Type 0 where
  pub within : (l : ℕ) → Greatest (Expr line c) l (r.within l)
  pub whole : WholeIs line c r.whole

-- ---- no term

no-expr : (line : List ℕ) (c : ℕ) → ((e : ℕ) → Term line c e → ⊥) → (e : ℕ) → Expr line c e → ⊥
no-expr line c none_here e (term t) = none_here e t
no-expr line c none_here e (joined {m = m} t s x) = none_here m t

pub none_is : (line : List ℕ) (c : ℕ) → ((e : ℕ) → Term line c e → ⊥) → RowIs line c no_row
none_is line c none_here = record {
  within = λ l e x w. no-expr line c none_here e x;
  whole = record { ends = λ m q. absurd (none-ne-some m q); only = λ m p x b. absurd (no-expr line c none_here m x) };
}

-- ---- the ends of the start after

pub moved-whole : (line : List ℕ) (c d : ℕ) → ((e : ℕ) → Expr line c e → Expr line d e) → ((e : ℕ) → Expr line d e → Expr line c e)
    → (o : Option ℕ) → WholeIs line d o → WholeIs line c o
moved-whole line c d on back o w = record { ends = λ m q. back m (w.ends m q); only = λ m p x b. w.only m p (on m x) b }

pub moved : (line : List ℕ) (c d : ℕ) → ((e : ℕ) → Expr line c e → Expr line d e) → ((e : ℕ) → Expr line d e → Expr line c e)
    → (r : Row) → RowIs line d r → RowIs line c r
moved line c d on back r is = record {
  within = λ l. greatest-map (Expr line d) l (Expr line c) back on (r.within l) (is.within l);
  whole = moved-whole line c d on back r.whole is.whole;
}

-- ---- a term, and what an operator joins to it

module _ (line : List ℕ) (c low top : ℕ) (ends : TermEnds line c low top) where
  whole-term : Term line c top
  whole-term = ends.each top ends.some (omega arith)

  module _ (none_after : sign_at is_operator line top ≡ None) where
    alone : (e : ℕ) → Expr line c e → Term line c e
    alone e (term t) = t
    alone e (joined {m = m} t s x) =
        absurd (begins-nowhere operator line top none_after s.place
        (subst (λ (n : ℕ). Begins is_operator line n s.place) (ends.last m s.place operator-parts t s.begins) s.begins))

    pub alone-within : (l : ℕ) → Greatest (Expr line c) l (up_to low top l)
    alone-within l = up-greatest low top l (Expr line c) (λ e a b. term (ends.each e a b)) (λ e x. ends.only e (alone e x))

    pub alone-whole : WholeIs line c (Some top)
    alone-whole = record {
      ends = λ m q. subst (Expr line c) (some_inj q) (term whole-term);
      only = λ m p x b. ap {B = Option ℕ} Some (sym (ends.last m p closer-parts (alone m x) b));
    }

  module _ (p : ℕ) (sign : Begins is_operator line top p) where
    -- past the operator
    abbrev next : ℕ
    next = suc p

    pub next-after : c < next
    next-after = omega (arith, ends.after, ends.some, sign.from)

    either : (e : ℕ) → Expr line c e → Term line c e ⊎ Expr line next e
    either e (term t) = inl t
    either e (joined {m = m} {d = d} t s x) =
        let same = ends.last m s.place operator-parts t s.begins in
        let at = begins-once operator line top s.place (subst (λ (n : ℕ). Begins is_operator line n s.place) same s.begins) in
        let here : d ≡ next = s.past ∙ ap suc (at ∙ sym (begins-once operator line top p sign)) in
        inr (subst (λ (n : ℕ). Expr line n e) here x)

    join : (e : ℕ) → Expr line next e → Expr line c e
    join e x = joined whole-term (record { place = p; begins = sign; past = refl }) x

    pub joined-within : (l : ℕ) (o : Option ℕ) → Greatest (Expr line next) l o → Greatest (Expr line c) l (or_else o (up_to low top l))
    joined-within l o g =
        or-else-greatest (Expr line c) (Term line c) (Expr line next) l either (λ e t. term t) join
        (λ d e t x. omega (arith, ends.only d t, sign.from, expr-span x))
        o (up_to low top l) g (up-greatest low top l (Term line c) ends.each ends.only)

    pub joined-whole : (o : Option ℕ) → WholeIs line next o → WholeIs line c o
    joined-whole o w = record {
      ends = λ m q. join m (w.ends m q);
      only = λ m q x b. ⊎_elim (λ t. absurd (two m q t b)) (λ y. w.only m q y b) (either m x);
    }
      where
        -- no closer follows where an operator does
        two : (m q : ℕ) → Term line c m → Begins is_closer line m q → ⊥
        two m q t b =
            let same = ends.last m q closer-parts t b in
            let at : q ≡ p = begins-once closer line top q (subst (λ (n : ℕ). Begins is_closer line n q) same b) ∙ sym (begins-once operator line top p sign) in
            not-both (ap (λ (n : ℕ). is_closer (byte_at line n)) (sym at) ∙ b.here) (operator-no-closer (byte_at line p) sign.here)

-- ---- the row of a start

module _ (line : List ℕ) (later : ℕ → Row) (c : ℕ) (given : (k : ℕ) → c < k → RowIs line k (later k)) where
  term-row : (t : TermAt) → TermEnds line c t.low t.top → RowIs line c (term_row line later (Some t))
  term-row t ends = go (sign_at is_operator line t.top) refl
    where
      go : (o : Option ℕ) → sign_at is_operator line t.top ≡ o → RowIs line c (joined_at later t o)
      go None e = record { within = alone-within line c t.low t.top ends e; whole = alone-whole line c t.low t.top ends e }
      go (Some p) e =
          let sign = begins-there operator line t.top p e in
          let r = given (suc p) (next-after line c t.low t.top ends p sign) in
          record {
            within = λ l. joined-within line c t.low t.top ends p sign l ((later (suc p)).within l) (r.within l);
            whole = joined-whole line c t.low t.top ends p sign (later (suc p)).whole r.whole;
          }

-- the term that is found at a start is the grammar's
pub data TermIs (line : List ℕ) (c : ℕ) : Option TermAt → Type 0 where
  some_term : {t : TermAt} → TermEnds line c t.low t.top → TermIs line c (Some t)
  no_terms : ((e : ℕ) → Term line c e → ⊥) → TermIs line c None

module _ (line : List ℕ) (inner : Option ℕ) (c : ℕ) (whole : WholeIs line (suc c) inner) where
  module _ (at : is_opener (byte_at line c) ≡ true) where
    -- where no expression is closed, there is no term
    unclosed : ((m p : ℕ) → Expr line (suc c) m → Begins is_closer line m p → ⊥) → TermIs line c None
    unclosed nowhere = no_terms (λ e t. let k = opener-only line c at e t in nowhere k.end k.place k.inner k.closes)

    closed-at : (m : ℕ) → inner ≡ Some m → (o : Option ℕ) → sign_at is_closer line m ≡ o → TermIs line c (closed_at o)
    closed-at m e None q = unclosed (λ n p x b.
        begins-nowhere closer line m q p (subst (λ (k : ℕ). Begins is_closer line k p) (some_inj (sym (whole.only n p x b) ∙ e)) b))
    closed-at m e (Some p) q =
        some_term (parens-end line c at m p (whole.ends m e) (begins-there closer line m p q)
        (λ n r x b. some_inj (sym (whole.only n r x b) ∙ e)))

    closed-after : (o : Option ℕ) → inner ≡ o → TermIs line c (closed_after line o)
    closed-after None e = unclosed (λ m p x b. none-ne-some m (sym e ∙ whole.only m p x b))
    closed-after (Some m) e = closed-at m e (sign_at is_closer line m) refl

  pub term_is : changes_none (byte_at line c) ≡ false → TermIs line c (term_at line inner c)
  unfolding term_at
  term_is h = by-digit (is_digit (byte_at line c)) refl
    where
      bare : is_whitespace (byte_at line c) ≡ false
      bare = or-false-left (is_whitespace (byte_at line c)) (is_minus (byte_at line c)) h

      no_minus : is_minus (byte_at line c) ≡ false
      no_minus = or-false-right (is_whitespace (byte_at line c)) (is_minus (byte_at line c)) h

      by-opener : (t : Bool) → is_digit (byte_at line c) ≡ false → is_letter (byte_at line c) ≡ false → is_opener (byte_at line c) ≡ t → TermIs line c (select t (closed_after line inner) None)
      by-opener true d l e = closed-after e inner refl
      by-opener false d l e = no_terms (no-term line c bare no_minus d l e)

      by-letter : (t : Bool) → is_digit (byte_at line c) ≡ false → is_letter (byte_at line c) ≡ t
          → TermIs line c (select t (Some (record { low = c; top = run_end is_alnum line c })) (select (is_opener (byte_at line c)) (closed_after line inner) None))
      by-letter true d e = some_term (name-ends line c e)
      by-letter false d e = by-opener (is_opener (byte_at line c)) d e refl

      by-digit : (t : Bool) → is_digit (byte_at line c) ≡ t
          → TermIs line c (select t (Some (record { low = c; top = run_end is_digit line c })) (select (is_letter (byte_at line c)) (Some (record { low = c; top = run_end is_alnum line c })) (select (is_opener (byte_at line c)) (closed_after line inner) None)))
      by-digit true e = some_term (digits-end line c e)
      by-digit false e = by-letter (is_letter (byte_at line c)) e refl

-- whitespace and a minus change no end
pub past-none : (line : List ℕ) (c : ℕ) → changes_none (byte_at line c) ≡ true → (e : ℕ) → Expr line c e → Expr line (suc c) e
past-none line c h e x = ⊎_elim (λ w. past-white line c w e x) (λ m. past-minus line c m e x) (or_cases (is_whitespace (byte_at line c)) (is_minus (byte_at line c)) h)

pub before-none : (line : List ℕ) (c : ℕ) → changes_none (byte_at line c) ≡ true → (e : ℕ) → Expr line (suc c) e → Expr line c e
before-none line c h e x = ⊎_elim (λ w. before-white line c w e x) (λ m. before-minus line c m e x) (or_cases (is_whitespace (byte_at line c)) (is_minus (byte_at line c)) h)

-- past the line's end nothing begins
pub past_end : (line : List ℕ) (c : ℕ) → length line ≤ c → (e : ℕ) → Term line c e → ⊥
past_end line c h e t = omega (arith, h, term-span t)

row_is : (line : List ℕ) (later : ℕ → Row) (c : ℕ) → ((k : ℕ) → c < k → RowIs line k (later k)) → RowIs line c (row_of line later c)
unfolding row_of
row_is line later c given = go (changes_none (byte_at line c)) refl
  where
    next : RowIs line (suc c) (later (suc c))
    next = given (suc c) (omega arith)

    by-term : (o : Option TermAt) → TermIs line c o → RowIs line c (term_row line later o)
    by-term (Some t) (some_term ends) = term-row line later c given t ends
    by-term None (no_terms n) = none_is line c n

    go : (t : Bool) → changes_none (byte_at line c) ≡ t → RowIs line c (select t (later (suc c)) (term_row line later (term_at line (later (suc c)).whole c)))
    go true e = moved line c (suc c) (past-none line c e) (before-none line c e) (later (suc c)) next
    go false e = by-term (term_at line (later (suc c)).whole c) (term_is line (later (suc c)).whole c next.whole e)

rows_are : (line : List ℕ) (d c : ℕ) → length line ≤ c + d → RowIs line c (row_from line d c)
unfolding row_from
rows_are line zero c h = none_is line c (past_end line c (omega arith))
rows_are line (suc d) c h = row_is line (row_from line d) c (λ k l. rows_are line d k (omega arith))

-- The free end is the greatest end within the limit that closes an expression on its last token, or none.
pub free-is : (line : List ℕ) (c l : ℕ) → Greatest (Expr line c) l (free line c l)
unfolding free
free-is line c l = (rows_are line (starts_after line) c (omega arith)).within l

-- The greedy end is the end of the longest nonempty digit run after whitespace, or none.
pub greedy-is : (line : List ℕ) (c l : ℕ) → Greatest (Digits line c) l (greedy line c l)
unfolding greedy
greedy-is line c l =
    up-greatest (token_at line c) (run_end is_digit line (token_at line c)) l (Digits line c)
    (λ e low high. record {
      place = token_at line c;
      begins = token_begins digit line c (run.run (token_at line c) (omega arith) (omega arith));
      some = low;
      run = λ i a b. run.run i a (omega arith);
    })
    (λ e w.
    let at = begins-once digit line c w.place w.begins in
    let more = w.some in
    elim (dec_lt (run_end is_digit line (token_at line c)) e) [
      | yes h ↦ absurd (not-both (w.run (run_end is_digit line (token_at line c)) (omega (arith, run.from)) h) run.ends)
      | no h ↦ (omega arith, omega (arith, h))
    ])
  where
    run : RunEnds is_digit line (token_at line c) (run_end is_digit line (token_at line c))
    run = run_is digit line (token_at line c)
