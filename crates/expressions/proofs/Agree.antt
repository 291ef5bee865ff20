-- The grammar and what is computed agree both ways; an end stays or grows with its limit, and depends only on bytes before it.
use mathlib.Core.Path.{◌≡◌, refl, sym, ap, subst}
use mathlib.Core.Logic.{◌↔◌}
use mathlib.Core.Bool.{Bool, true}
use mathlib.Core.List.{List, ◌∷◌}
use Rattle.std.specs.Prelude.{Option, None, Some}
use Rattle.plain.proofs.Options.{none-ne-some, some_inj}
use Prim.Native.Nat.{ℕ, zero, suc, ◌≤◌, ◌<◌}
use native.Mathlib.Omega.{arith}
use Rattle.token.specs.Token.{is_whitespace}
use Rattle.syntax.specs.Walker.{byte_at}
use Rattle.extents.specs.declared.Half.{Half}
use Rattle.extents.specs.declared.Half.TheVariants.{Free, Greedy}
use Rattle.expressions.specs.Grammar.{is_operator, is_minus, is_opener, is_closer, GreatestEnd, Begins, Sign, Word, Digits, Name, Term, digits, name, minus, parens, Expr, term, joined}
use Rattle.expressions.specs.Sheet.{EndIn, end_for}
use Rattle.expressions.proofs.Local.{Agree, word-local, expr-local}
use Rattle.expressions.proofs.Greatest.{Greatest, greatest-one}
use Rattle.expressions.proofs.Entries.{end_is}
use Rattle.expressions.proofs.Starts.{past-white, before-white}

module _ (line : List ℕ) (half : Half) (c : ℕ) where
  ends_of : (l : ℕ) (o : Option ℕ) → Greatest (EndIn half line c) l o → (e : ℕ) → o ≡ Some e → GreatestEnd (EndIn half line c) l e
  ends_of l None g e q = absurd (none-ne-some e q)
  ends_of l (Some d) g e q = subst (GreatestEnd (EndIn half line c) l) (some_inj q) g

  -- an end that is found is the grammar's greatest within the limit
  pub found : (l e : ℕ) → end_for line half c l ≡ Some e → GreatestEnd (EndIn half line c) l e
  found l e q = ends_of l (end_for line half c l) (end_is line half c l) e q

  -- an end of the grammar is found under itself as the limit
  pub end-found : (e : ℕ) → EndIn half line c e ↔ (end_for line half c e ≡ Some e)
  end-found e = (
    λ x. greatest-one (EndIn half line c) e (end_for line half c e) (Some e) (end_is line half c e) (record { ends = x; within = omega arith; greatest = λ d y w. w }),
    λ q. (found e e q).ends,
  )

  -- under a greater limit it is found again, or a greater end is
  pub grows : (l m e : ℕ) → l ≤ m → end_for line half c l ≡ Some e → (f : ℕ) × (end_for line half c m ≡ Some f) × (e ≤ f)
  grows l m e h q = go (end_for line half c m) refl (end_is line half c m)
    where
      here : GreatestEnd (EndIn half line c) l e
      here = found l e q

      go : (o : Option ℕ) → end_for line half c m ≡ o → Greatest (EndIn half line c) m o → (f : ℕ) × (end_for line half c m ≡ Some f) × (e ≤ f)
      go None p g = absurd (g e here.ends (omega (arith, here.within)))
      go (Some f) p g = (f, p, g.greatest e here.ends (omega (arith, here.within)))

-- ---- bytes at or past the limit are never looked at

end-local : (a b : List ℕ) (half : Half) (c e : ℕ) → EndIn half a c e → Agree a b e → EndIn half b c e
end-local a b Free c e x same = expr-local x same
end-local a b Greedy c e w same = word-local same w

pub cut_line : (a b : List ℕ) (half : Half) (c l : ℕ) → Agree a b l → end_for a half c l ≡ end_for b half c l
cut_line a b half c l same =
    greatest-one (EndIn half b c) l (end_for a half c l) (end_for b half c l) (moved (end_for a half c l) (end_is a half c l)) (end_is b half c l)
  where
    moved : (o : Option ℕ) → Greatest (EndIn half a c) l o → Greatest (EndIn half b c) l o
    moved None g = λ e x w. g e (end-local b a half c e x (λ i h. sym (same i (omega arith)))) w
    moved (Some e) g = record {
      ends = end-local a b half c e g.ends (λ i h. same i (omega (arith, g.within)));
      within = g.within;
      greatest = λ d x w. g.greatest d (end-local b a half c d x (λ i h. sym (same i (omega arith)))) w;
    }

-- ---- a byte in front of a line moves its ends by one

module _ (b : ℕ) (line : List ℕ) where
  begins-moved : {kind : ℕ → Bool} {c p : ℕ} → Begins kind line c p → Begins kind (b ∷ line) (suc c) (suc p)
  begins-moved {kind} {c} {p} s = record { from = omega (arith, s.from); blank = blank; here = s.here }
    where
      blank : (i : ℕ) → suc c ≤ i → i < suc p → is_whitespace (byte_at (b ∷ line) i) ≡ true
      blank zero low high = absurd (omega arith)
      blank (suc i) low high = s.blank i (omega arith) (omega arith)

  sign-moved : {kind : ℕ → Bool} {c d : ℕ} → Sign kind line c d → Sign kind (b ∷ line) (suc c) (suc d)
  sign-moved s = record { place = suc s.place; begins = begins-moved s.begins; past = ap suc s.past }

  word_moved : {first each : ℕ → Bool} {c e : ℕ} → Word first each line c e → Word first each (b ∷ line) (suc c) (suc e)
  word_moved {first} {each} {c} {e} w = record { place = suc w.place; begins = begins-moved w.begins; some = omega (arith, w.some); run = run }
    where
      run : (i : ℕ) → suc w.place ≤ i → i < suc e → each (byte_at (b ∷ line) i) ≡ true
      run zero low high = absurd (omega arith)
      run (suc i) low high = w.run i (omega arith) (omega arith)

  mutual
    term_moved : {c e : ℕ} → Term line c e → Term (b ∷ line) (suc c) (suc e)
    term_moved (digits w) = digits (word_moved w)
    term_moved (name w) = name (word_moved w)
    term_moved (minus s t) = minus (sign-moved s) (term_moved t)
    term_moved (parens s x t) = parens (sign-moved s) (expr-moved x) (sign-moved t)

    pub expr-moved : {c e : ℕ} → Expr line c e → Expr (b ∷ line) (suc c) (suc e)
    expr-moved (term t) = term (term_moved t)
    expr-moved (joined t s x) = joined (term_moved t) (sign-moved s) (expr-moved x)

  -- and back: what ends from a moved start is moved
  begins-back : {kind : ℕ → Bool} (c p : ℕ) → Begins kind (b ∷ line) (suc c) (suc p) → Begins kind line c p
  begins-back c p s = record { from = omega (arith, s.from); blank = λ i low high. s.blank (suc i) (omega arith) (omega arith); here = s.here }

  sign-back : {kind : ℕ → Bool} (c d : ℕ) → Sign kind (b ∷ line) (suc c) d → (f : ℕ) × (d ≡ suc f) × Sign kind line c f
  sign-back {kind} c d s = go s.place s.begins s.past
    where
      go : (p : ℕ) → Begins kind (b ∷ line) (suc c) p → d ≡ suc p → (f : ℕ) × (d ≡ suc f) × Sign kind line c f
      go zero t q = absurd (omega (arith, t.from))
      go (suc p) t q = (suc p, q, record { place = p; begins = begins-back c p t; past = refl })

  word_back : {first each : ℕ → Bool} (c e : ℕ) → Word first each (b ∷ line) (suc c) e → (f : ℕ) × (e ≡ suc f) × Word first each line c f
  word_back {first} {each} c e w = go e w.place w.begins w.some w.run
    where
      go : (n p : ℕ) → Begins first (b ∷ line) (suc c) p → p < n → ((i : ℕ) → p ≤ i → i < n → each (byte_at (b ∷ line) i) ≡ true) → (f : ℕ) × (n ≡ suc f) × Word first each line c f
      go zero p t h run = absurd (omega arith)
      go (suc f) zero t h run = absurd (omega (arith, t.from))
      go (suc f) (suc p) t h run = (f, refl, record { place = p; begins = begins-back c p t; some = omega arith; run = λ i low high. run (suc i) (omega arith) (omega arith) })

  mutual
    term-back : {c e : ℕ} → Term (b ∷ line) c e → (k : ℕ) → c ≡ suc k → (f : ℕ) × (e ≡ suc f) × Term line k f
    term-back {e = e} (digits w) k q = let (f, r, v) = word_back k e (subst (λ (n : ℕ). Digits (b ∷ line) n e) q w) in (f, r, digits v)
    term-back {e = e} (name w) k q = let (f, r, v) = word_back k e (subst (λ (n : ℕ). Name (b ∷ line) n e) q w) in (f, r, name v)
    term-back {e = e} (minus {d = d} s t) k q =
        let (f, r, u) = sign-back k d (subst (λ (n : ℕ). Sign is_minus (b ∷ line) n d) q s) in
        let (g, p, v) = term-back t f r in
        (g, p, minus u v)
    term-back {e = e} (parens {d = d} {m = m} s x t) k q =
        let (f, r, u) = sign-back k d (subst (λ (n : ℕ). Sign is_opener (b ∷ line) n d) q s) in
        let (g, p, y) = expr-back x f r in
        let (h, o, v) = sign-back g e (subst (λ (n : ℕ). Sign is_closer (b ∷ line) n e) p t) in
        (h, o, parens u y v)

    expr-back : {c e : ℕ} → Expr (b ∷ line) c e → (k : ℕ) → c ≡ suc k → (f : ℕ) × (e ≡ suc f) × Expr line k f
    expr-back (term t) k q = let (f, r, u) = term-back t k q in (f, r, term u)
    expr-back (joined {m = m} {d = d} t s x) k q =
        let (f, r, u) = term-back t k q in
        let (g, p, v) = sign-back f d (subst (λ (n : ℕ). Sign is_operator (b ∷ line) n d) r s) in
        let (h, o, y) = expr-back x g p in
        (h, o, joined u v y)

  moved_back : {c e : ℕ} → Expr (b ∷ line) (suc c) (suc e) → Expr line c e
  moved_back {c} {e} x = let (f, q, y) = expr-back x c refl in let same : f ≡ e = omega arith in subst (Expr line c) same y

  -- so whitespace in front of a line moves them and changes none
  pub white-in-front : is_whitespace b ≡ true → (e : ℕ) → Expr line 0 e ↔ Expr (b ∷ line) 0 (suc e)
  white-in-front w e = (λ x. before-white (b ∷ line) 0 w (suc e) (expr-moved x), λ y. moved_back (past-white (b ∷ line) 0 w (suc e) y))
