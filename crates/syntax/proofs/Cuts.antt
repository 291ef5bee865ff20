-- The search for the cut: its steps, for the code, and that it finds the cut that document 01 describes.
-- The argument: while no closer has been stray, closers never outnumber openers, so what the search carries along is
-- what counting from the cursor gives; then each place is judged by the same tests in the scan and in the description.
use mathlib.Core.Path.{◌≡◌, refl, sym, ap, ap₂, ◌∙◌, subst}
use mathlib.Core.Logic.{◌⊎◌, inl, inr, ⊎_elim, ◌↔◌}
use mathlib.Core.Bool.{Bool, true, false, not, ◌&&◌, ◌||◌, or-false}
use mathlib.Core.List.{List, [], ◌∷◌, ◌++◌}
use Rattle.std.specs.Prelude.{Option, None, Some}
use Prim.Native.Nat.{ℕ, zero, suc, ◌+◌, ◌-◌, ◌≤◌, ◌<◌}
use native.Mathlib.Numerals.{add-one}
use native.Mathlib.Decide.{ℕ_discrete, dec_lt}
use native.Mathlib.Omega.{arith}
use lib.Dec.{eqb}
use lib.ListN.{length}
use lib.Seq.{slice, slice_empty, slice-cons, take-suc, drop-append-le, length-take-le}
use borrow.Author.Tests.{eqb-true, eqb-false, eq-eqb}
use Rattle.plain.specs.Choice.{select}
use Rattle.plain.specs.Lists.{some_of, count}
use Rattle.plain.proofs.Tests.{tested, not-both, or-false-left, or-false-right, or_left}
use Rattle.plain.proofs.Lists.{some-of-append, count-append}
use Rattle.token.specs.Token.{is_whitespace, is_solid}
use Rattle.token.proofs.Bytes.{white-kind, no-bracket}
use Rattle.syntax.specs.Walker.{byte_at, UsefulPlace, useful_from, useful}
use Rattle.syntax.specs.Cut.{is_wanted, is_stray, nesting, passed_to, CutAt, Cuts, taken_in, turn_of, follow, searched, fresh, cut_from, cut}
use Rattle.syntax.specs.declared.walker.Walker.{Walker}
use Rattle.syntax.specs.declared.walker.Search.{Search}
use Rattle.syntax.specs.declared.walker.Turn.{Turn}
use Rattle.syntax.proofs.Useful.{InLine, useful-end, useful-here, useful-later, useful-is}
use Rattle.syntax.proofs.Turns.{turn-wanted, turn-stray, turn_on}

-- ---- the scan's steps

module _ (line : List ℕ) (x l : ℕ) (fits : l ≤ length line) where
  cut-end : (s : Search) → cut_from line x l l s ≡ None
  unfolding cut_from searched
  cut-end s = ap (λ (bs : List ℕ). searched x bs l s) (slice_empty l line)

  unrolled : (i : ℕ) (s : Search) → i < l
      → cut_from line x i l s ≡ follow (turn_of x (byte_at line i) s) i (λ t. cut_from line x (suc i) l t)
  unfolding cut_from searched
  unrolled i s h = ap (λ (bs : List ℕ). searched x bs i s) (slice-cons i l line 0 h fits)

  cut_step : (i : ℕ) (s : Search) (t : Turn) → i < l → t ≡ turn_of x (byte_at line i) s
      → cut_from line x i l s ≡ follow t i (λ n. cut_from line x (i + 1) l n)
  cut_step i s t h e =
      unrolled i s h
      ∙ ap (λ (u : Turn). follow u i (λ n. cut_from line x (suc i) l n)) (sym e)
      ∙ ap (λ (k : ℕ). follow t i (λ n. cut_from line x k l n)) (sym (add-one i))

-- a byte adds at most one to a nesting
grown : (a b : Bool) (n : ℕ) → select a (n + 1) (select b (n - 1) n) ≤ n + 1
grown true b n = omega arith
grown false true n = omega arith
grown false false n = omega arith

-- a search that goes on has taken the byte in
turn-taken : (x b : ℕ) (s t : Search) → Turn.On t ≡ turn_of x b s → t ≡ taken_in b s
unfolding turn_of
turn-taken x b s t e = go (is_wanted x b s) (is_stray b s) e
  where
    go : (w y : Bool) → Turn.On t ≡ select w Turn.Cut (select y Turn.Stray (Turn.On (taken_in b s))) → t ≡ taken_in b s
    go true y q = let z : ◌≡◌ {A = ℕ} 0 1 = cc in absurd (omega arith)
    go false true q = let z : ◌≡◌ {A = ℕ} 0 1 = cc in absurd (omega arith)
    go false false q = cc

-- whitespace before anything has been seen changes nothing
turn-blank : (x b : ℕ) → is_whitespace b ≡ true → turn_of x b fresh ≡ Turn.On fresh
unfolding turn_of is_wanted is_stray taken_in
turn-blank x b w =
    let plain = no-bracket b (omega (arith, white-kind b w)) in
    rw (w, plain.0, plain.1, plain.2, plain.3)

-- ---- the code's loop: it begins at the first byte other than whitespace, and holds this at each turn

pub record Searching (line : List ℕ) (x from end at : ℕ) (s : Search) : Type 0 where
  pub begun : from ≤ at
  pub within : at ≤ end
  pub same : cut_from line x at end s ≡ cut_from line x from end fresh
  pub parens : s.parens + from ≤ at
  pub braces : s.braces + from ≤ at
  pub sees : at < end → (s.seen || is_solid (byte_at line at)) ≡ true

module _ (line : List ℕ) (x from end : ℕ) (fits : end ≤ length line) where
  cut-skips : (n i : ℕ) → i + n ≡ end → cut_from line x (useful_from line i end) end fresh ≡ cut_from line x i end fresh
  cut-skips zero i e =
      let here : i ≡ end = omega arith in
      ap (λ (k : ℕ). cut_from line x (useful_from line k end) end fresh) here
      ∙ ap (λ (k : ℕ). cut_from line x k end fresh) (useful-end line end fits ∙ sym here)
  cut-skips (suc n) i e = go (cut-skips n (i + 1) (omega arith)) (tested (is_whitespace (byte_at line i)))
    where
      go : cut_from line x (useful_from line (i + 1) end) end fresh ≡ cut_from line x (i + 1) end fresh
          → (is_whitespace (byte_at line i) ≡ true) ⊎ (is_whitespace (byte_at line i) ≡ false)
          → cut_from line x (useful_from line i end) end fresh ≡ cut_from line x i end fresh
      go later (inl w) =
          ap (λ (k : ℕ). cut_from line x k end fresh) (sym (useful-later line end fits i (omega arith) w))
          ∙ later
          ∙ sym (cut_step line x end fits i fresh (Turn.On fresh) (omega arith) (sym (turn-blank x (byte_at line i) w)))
      go later (inr f) = ap (λ (k : ℕ). cut_from line x k end fresh) (useful-here line end fits i (omega arith) f)

  pub search-begins : (at : ℕ) → from ≤ end → at ≡ useful_from line from end → Searching line x from end at fresh
  unfolding useful
  search-begins at h e = record {
    begun = omega (arith, e, place.from);
    within = omega (arith, e, place.within);
    same = ap (λ (k : ℕ). cut_from line x k end fresh) e ∙ cut-skips (end - from) from (omega arith);
    parens = omega (arith, e, place.from);
    braces = omega (arith, e, place.from);
    sees = λ l. ap not (ap (λ (k : ℕ). is_whitespace (byte_at line k)) e ∙ place.stands (omega (arith, e)));
  }
    where
      place : UsefulPlace line (record { cursor = from; limit = end }) (useful_from line from end)
      place = useful-is line (record { cursor = from; limit = end }) (h, fits)

  -- what a turn leads to
  pub search-turns : (at : ℕ) (s : Search) (t : Turn) → Searching line x from end at s → at < end
      → t ≡ turn_of x (byte_at line at) s → follow t at (λ n. cut_from line x (at + 1) end n) ≡ cut_from line x from end fresh
  search-turns at s t now h e = sym (cut_step line x end fits at s t h e) ∙ now.same

  pub search-ends : (at : ℕ) (s : Search) → Searching line x from end at s → end ≤ at → None ≡ cut_from line x from end fresh
  search-ends at s now h =
      let last : at ≡ end = omega arith in
      sym (ap (λ (k : ℕ). cut_from line x k end s) last ∙ cut-end line x end fits s) ∙ now.same

  pub search-goes-on : (at : ℕ) (s t : Search) → Searching line x from end at s → at < end
      → Turn.On t ≡ turn_of x (byte_at line at) s → Searching line x from end (at + 1) t
  unfolding taken_in
  search-goes-on at s t now h on = record {
    begun = omega arith;
    within = omega arith;
    same = search-turns at s (Turn.On t) now h on;
    parens = omega (arith, ap (λ (u : Search). u.parens) taken, grown (eqb b 40) (eqb b 41) s.parens);
    braces = omega (arith, ap (λ (u : Search). u.braces) taken, grown (eqb b 123) (eqb b 125) s.braces);
    sees = λ l. or_left t.seen (is_solid (byte_at line (at + 1))) (ap (λ (u : Search). u.seen) taken ∙ now.sees h);
  }
    where
      b : ℕ
      b = byte_at line at

      taken : t ≡ taken_in b s
      taken = turn-taken x b s t on

-- ---- counting from the cursor, one byte more

more_bytes : (line : List ℕ) (c i : ℕ) → c ≤ i → i < length line → slice c (suc i) line ≡ slice c i line ++ (byte_at line i ∷ [])
more_bytes line c i h k =
    ap (λ (bs : List ℕ). lib.ListN.drop c bs) (take-suc line i 0 k)
    ∙ drop-append-le c (lib.ListN.take i line) (byte_at line i ∷ []) (omega (arith, length-take-le i line (omega arith)))

-- one kind of bracket
module _ (o e : ℕ) (apart : o ≡ e → ⊥) where
  abbrev opens : List ℕ → ℕ
  opens bs = count (λ b. eqb b o) bs

  abbrev closes : List ℕ → ℕ
  closes bs = count (λ b. eqb b e) bs

  one-kind : (b : ℕ) → eqb b o ≡ true → eqb b e ≡ true → ⊥
  one-kind b p q = apart (sym (eqb-true b o p) ∙ eqb-true b e q)

  module _ (bs : List ℕ) (b : ℕ) (even : closes bs ≤ opens bs) (unended : (eqb b e && eqb (nesting o e bs) 0) ≡ false) where
    counted : (t u : Bool) → eqb b o ≡ t → eqb b e ≡ u
        → (opens bs + select t 1 0 - (closes bs + select u 1 0) ≡ select t (opens bs - closes bs + 1) (select u (opens bs - closes bs - 1) (opens bs - closes bs)))
        × (closes bs + select u 1 0 ≤ opens bs + select t 1 0)
    unfolding nesting
    counted true true p q = absurd (one-kind b p q)
    counted true false p q = (omega arith, omega arith)
    counted false true p q =
        let n : (opens bs - closes bs ≡ 0 → ⊥) = λ z. not-both (eq-eqb _ _ z) (ap (λ (v : Bool). v && eqb (opens bs - closes bs) 0) (sym q) ∙ unended) in
        (omega (arith, n), omega (arith, n))
    counted false false p q = (omega arith, omega arith)

    opened : opens (bs ++ (b ∷ [])) ≡ opens bs + select (eqb b o) 1 0
    unfolding count
    opened = count-append (λ b. eqb b o) bs (b ∷ [])

    closed : closes (bs ++ (b ∷ [])) ≡ closes bs + select (eqb b e) 1 0
    unfolding count
    closed = count-append (λ b. eqb b e) bs (b ∷ [])

    pub nesting-more : nesting o e (bs ++ (b ∷ [])) ≡ select (eqb b o) (nesting o e bs + 1) (select (eqb b e) (nesting o e bs - 1) (nesting o e bs))
    unfolding nesting
    nesting-more = ap₂ ◌-◌ opened closed ∙ (counted (eqb b o) (eqb b e) refl refl).0

    pub even-more : closes (bs ++ (b ∷ [])) ≤ opens (bs ++ (b ∷ []))
    even-more = omega (arith, opened, closed, (counted (eqb b o) (eqb b e) refl refl).1)

-- ---- the scan against the description

distinct : (m n : ℕ) → eqb m n ≡ false → m ≡ n → ⊥
distinct m n t = eqb-false m n t

module _ (line : List ℕ) (x : ℕ) (w : Walker) (within : InLine line w) where
  abbrev c : ℕ
  c = w.cursor

  abbrev sofar : ℕ → Search
  sofar i = passed_to line c i

  -- no place before i was wanted or stray, so closers do not outnumber openers
  record Clear (i : ℕ) : Type 0 where
    parens : closes 40 41 (distinct 40 41 refl) (slice c i line) ≤ opens 40 41 (distinct 40 41 refl) (slice c i line)
    braces : closes 123 125 (distinct 123 125 refl) (slice c i line) ≤ opens 123 125 (distinct 123 125 refl) (slice c i line)
    unwanted : (k : ℕ) → c ≤ k → k < i → is_wanted x (byte_at line k) (sofar k) ≡ false
    unended : (k : ℕ) → c ≤ k → k < i → is_stray (byte_at line k) (sofar k) ≡ false

  start : Clear c
  unfolding count
  start = record {
    parens = rw slice_empty (omega arith);
    braces = rw slice_empty (omega arith);
    unwanted = λ k h l. absurd (omega arith);
    unended = λ k h l. absurd (omega arith);
  }

  start-fresh : sofar c ≡ fresh
  unfolding passed_to nesting count some_of
  start-fresh = rw slice_empty

  -- one byte more
  module _ (i : ℕ) (from : c ≤ i) (inside : i < length line) (s : Clear i) (free : is_stray (byte_at line i) (sofar i) ≡ false) where
    abbrev bs : List ℕ
    bs = slice c i line

    abbrev b : ℕ
    b = byte_at line i

    no-paren : (eqb b 41 && eqb (nesting 40 41 bs) 0) ≡ false
    unfolding is_stray passed_to
    no-paren = or-false-left (eqb b 41 && eqb (nesting 40 41 bs) 0) (eqb b 125 && eqb (nesting 123 125 bs) 0) free

    no-brace : (eqb b 125 && eqb (nesting 123 125 bs) 0) ≡ false
    unfolding is_stray passed_to
    no-brace = or-false-right (eqb b 41 && eqb (nesting 40 41 bs) 0) (eqb b 125 && eqb (nesting 123 125 bs) 0) free

    seen_more : some_of is_solid (bs ++ (b ∷ [])) ≡ (some_of is_solid bs || is_solid b)
    unfolding some_of
    seen_more = some-of-append is_solid bs (b ∷ []) ∙ ap (λ (v : Bool). some_of is_solid bs || v) (or-false (is_solid b))

    taken : sofar (suc i) ≡ taken_in b (sofar i)
    unfolding passed_to taken_in
    taken =
        ap (λ (cs : List ℕ). record { seen = some_of is_solid cs; parens = nesting 40 41 cs; braces = nesting 123 125 cs }) (more_bytes line c i from inside)
        ∙ (λ j. record {
          seen = seen_more j;
          parens = nesting-more 40 41 (distinct 40 41 refl) bs b s.parens no-paren j;
          braces = nesting-more 123 125 (distinct 123 125 refl) bs b s.braces no-brace j;
        })

    clear-more : is_wanted x b (sofar i) ≡ false → Clear (suc i)
    clear-more unwanted = record {
      parens = subst (λ (cs : List ℕ). closes 40 41 (distinct 40 41 refl) cs ≤ opens 40 41 (distinct 40 41 refl) cs) (sym (more_bytes line c i from inside)) (even-more 40 41 (distinct 40 41 refl) bs b s.parens no-paren);
      braces = subst (λ (cs : List ℕ). closes 123 125 (distinct 123 125 refl) cs ≤ opens 123 125 (distinct 123 125 refl) cs) (sym (more_bytes line c i from inside)) (even-more 123 125 (distinct 123 125 refl) bs b s.braces no-brace);
      unwanted = λ k h l. elim (ℕ_discrete k i) [ yes e ↦ ap (λ n. is_wanted x (byte_at line n) (sofar n)) e ∙ unwanted | no n ↦ s.unwanted k h (omega (arith, n)) ];
      unended = λ k h l. elim (ℕ_discrete k i) [ yes e ↦ ap (λ n. is_stray (byte_at line n) (sofar n)) e ∙ free | no n ↦ s.unended k h (omega (arith, n)) ];
    }

  cut-here : (i : ℕ) → c ≤ i → i < w.limit → Clear i → is_wanted x (byte_at line i) (sofar i) ≡ true → CutAt line x w i
  cut-here i from below s t = record { from = from; below = below; here = t; first = s.unwanted; unended = s.unended }

  no-cut-left : (i : ℕ) → w.limit ≤ i → Clear i → (p : ℕ) → CutAt line x w p → ⊥
  no-cut-left i h s p q = not-both q.here (s.unwanted p q.from (omega (arith, q.below)))

  no-cut-past : (i : ℕ) → c ≤ i → Clear i → is_wanted x (byte_at line i) (sofar i) ≡ false → is_stray (byte_at line i) (sofar i) ≡ true
      → (p : ℕ) → CutAt line x w p → ⊥
  no-cut-past i from s f t p q = placed (dec_lt p i) (ℕ_discrete p i)
    where
      placed : Dec (p < i) → Dec (p ≡ i) → ⊥
      placed (yes h) e = not-both q.here (s.unwanted p q.from h)
      placed (no h) (yes e) = not-both (ap (λ n. is_wanted x (byte_at line n) (sofar n)) (sym e) ∙ q.here) f
      placed (no h) (no e) = not-both t (q.unended i from (omega (arith, h, e)))

  -- with so many bytes to go, the search ends as the description has it
  searching : (d i : ℕ) → c ≤ i → i + d ≡ w.limit → Clear i → Cuts line x w (cut_from line x i w.limit (sofar i))
  searching zero i from e s =
      let end : w.limit ≡ i = omega arith in
      subst (Cuts line x w)
      (sym (cut-end line x w.limit within.1 (sofar i)) ∙ ap (λ (k : ℕ). cut_from line x k w.limit (sofar i)) end)
      (no-cut-left i (omega arith) s)
  searching (suc d) i from e s =
      ⊎_elim
      (λ t. subst (Cuts line x w) (sym (turned (turn-wanted x _ _ t))) (cut-here i from (omega arith) s t))
      (λ f. ⊎_elim
      (λ t. subst (Cuts line x w) (sym (turned (turn-stray x _ _ f t))) (no-cut-past i from s f t))
      (λ g. subst (Cuts line x w)
      (sym (turned (turn_on x _ _ f g) ∙ ap (cut_from line x (suc i) w.limit) (sym (taken i from inside s g))))
      (searching d (suc i) (omega arith) (omega arith) (clear-more i from inside s g f)))
      (tested (is_stray (byte_at line i) (sofar i))))
      (tested (is_wanted x (byte_at line i) (sofar i)))
    where
      inside : i < length line
      inside = omega (arith, within.1)

      turned : {t : Turn} → turn_of x (byte_at line i) (sofar i) ≡ t
          → cut_from line x i w.limit (sofar i) ≡ follow t i (λ n. cut_from line x (suc i) w.limit n)
      turned q =
          unrolled line x w.limit within.1 i (sofar i) (omega arith)
          ∙ ap (λ (u : Turn). follow u i (λ n. cut_from line x (suc i) w.limit n)) q

  -- the search finds the cut, or there is none
  pub cut-is : Cuts line x w (cut line x w)
  unfolding cut
  cut-is =
      subst (λ (s : Search). Cuts line x w (cut_from line x c w.limit s)) start-fresh
      (searching (w.limit - c) c (omega arith) (omega (arith, within.0)) start)

-- there is at most one cut
pub cut-one : (line : List ℕ) (x : ℕ) (w : Walker) (p q : ℕ) → CutAt line x w p → CutAt line x w q → p ≡ q
cut-one line x w p q a b = ordered (dec_lt p q) (dec_lt q p)
  where
    ordered : Dec (p < q) → Dec (q < p) → p ≡ q
    ordered (yes h) k = absurd (not-both a.here (b.first p a.from h))
    ordered (no h) (yes k) = absurd (not-both b.here (a.first q b.from k))
    ordered (no h) (no k) = omega (arith, h, k)

-- so the search and the description are the same
pub cut_at : (line : List ℕ) (x : ℕ) (w : Walker) → InLine line w → (p : ℕ) → (cut line x w ≡ Some p) ↔ CutAt line x w p
cut_at line x w within p = (
  (λ e. subst (Cuts line x w) e (cut-is line x w within)),
  (λ q. go (cut line x w) (cut-is line x w within) q),
)
  where
    go : (o : Option ℕ) → Cuts line x w o → CutAt line x w p → o ≡ Some p
    go None n q = absurd (n p q)
    go (Some m) k q = ap {B = Option ℕ} Some (cut-one line x w m p k q)
