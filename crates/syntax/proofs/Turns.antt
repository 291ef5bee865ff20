-- One byte of the search for the cut, case by case as the code tells them apart.
use mathlib.Core.Path.{◌≡◌, sym, ap, ◌∙◌}
use mathlib.Core.Logic.{◌⊎◌, inl, inr}
use mathlib.Core.Bool.{Bool, true, false, ◌&&◌, ◌||◌, and-false}
use Prim.Native.Nat.{ℕ, ◌+◌, ◌-◌, ◌/◌, ◌%◌, ◌≤◌, ◌<◌}
use native.Mathlib.Omega.{arith}
use lib.Dec.{eqb}
use borrow.Author.Tests.{eq-eqb, ne_eqb}
use Rattle.plain.specs.Choice.{select}
use Rattle.plain.proofs.Tests.{tested, and_both, and-false-left, and-false-right}
use Rattle.token.specs.Token.{is_solid, same_letter, class_kind, class_of}
use Rattle.token.proofs.Bytes.{class-kind, kind-small, bracket_of, kind-bracket, no-bracket, class-small}
use Rattle.syntax.specs.Cut.{is_wanted, is_stray, taken_in, turn_of}
use Rattle.syntax.specs.declared.walker.Search.{Search}
use Rattle.syntax.specs.declared.walker.Turn.{Turn}
use Rattle.syntax.proofs.Marks.{marked_class}

pub turn-wanted : (x b : ℕ) (s : Search) → is_wanted x b s ≡ true → turn_of x b s ≡ Turn.Cut
unfolding turn_of
turn-wanted x b s w = rw w

pub turn-stray : (x b : ℕ) (s : Search) → is_wanted x b s ≡ false → is_stray b s ≡ true → turn_of x b s ≡ Turn.Stray
unfolding turn_of
turn-stray x b s w t = rw (w, t)

pub turn_on : (x b : ℕ) (s : Search) → is_wanted x b s ≡ false → is_stray b s ≡ false → turn_of x b s ≡ Turn.On (taken_in b s)
unfolding turn_of
turn_on x b s w t = rw (w, t)

-- Outside brackets and after some byte other than whitespace the wanted character is the cut. The first test that fails decides.
module _ (s : Search) where
  abbrev may_cut : Bool
  may_cut = s.seen && eqb s.parens 0 && eqb s.braces 0

  pub may_cut-unseen : s.seen ≡ false → false ≡ may_cut
  may_cut-unseen e = rw e

  pub may_cut-in-parens : (s.parens ≡ 0 → ⊥) → false ≡ may_cut
  may_cut-in-parens n = rw (ne_eqb s.parens 0 n, and-false)

  pub may_cut-outside : s.seen ≡ true → s.parens ≡ 0 → eqb s.braces 0 ≡ may_cut
  may_cut-outside e z = rw (e, eq-eqb s.parens 0 z)

-- what a byte does that is not the cut
abbrev nested : ℕ → Search → Turn
nested b s = select (is_stray b s) Turn.Stray (Turn.On (taken_in b s))

-- Such a byte by its kind, which the code reads off its class. It is solid, or something has been seen.
module _ (class b : ℕ) (s : Search) (below : b < 256) (is : class ≡ class_of b) (seen : (s.seen || is_solid b) ≡ true) where
  -- the search goes on with these nestings
  abbrev on : ℕ → ℕ → Turn
  on p q = Turn.On (record { seen = true; parens = p; braces = q })

  kind : class / 256 ≡ class_kind b
  kind = ap (λ (n : ℕ). n / 256) is ∙ class-kind b below

  bracket : (n : ℕ) → class / 256 ≡ n → 2 ≤ n → b ≡ bracket_of n
  bracket n e l = kind-bracket b (omega (arith, kind)) ∙ ap bracket_of (sym kind ∙ e)

  pub nest-none : class / 256 < 2 → on s.parens s.braces ≡ nested b s
  unfolding is_stray taken_in
  nest-none h =
      let none = no-bracket b (omega (arith, kind)) in
      rw (seen, none.0, none.1, none.2, none.3)

  pub nest-open-paren : class / 256 ≡ 2 → on (s.parens + 1) s.braces ≡ nested b s
  unfolding is_stray taken_in
  nest-open-paren e = rw (seen, bracket 2 e (omega arith))

  pub nest-stray-paren : class / 256 ≡ 3 → s.parens ≡ 0 → Turn.Stray ≡ nested b s
  unfolding is_stray
  nest-stray-paren e z = rw (bracket 3 e (omega arith), eq-eqb s.parens 0 z)

  pub nest-close-paren : class / 256 ≡ 3 → (s.parens ≡ 0 → ⊥) → on (s.parens - 1) s.braces ≡ nested b s
  unfolding is_stray taken_in
  nest-close-paren e n = rw (seen, bracket 3 e (omega arith), ne_eqb s.parens 0 n)

  pub nest-open-brace : class / 256 ≡ 4 → on s.parens (s.braces + 1) ≡ nested b s
  unfolding is_stray taken_in
  nest-open-brace e = rw (seen, bracket 4 e (omega arith))

  pub nest-stray-brace : class / 256 ≡ 5 → s.braces ≡ 0 → Turn.Stray ≡ nested b s
  unfolding is_stray
  nest-stray-brace e z = rw (bracket 5 e (omega arith), eq-eqb s.braces 0 z)

  pub nest-close-brace : class / 256 ≡ 5 → (s.braces ≡ 0 → ⊥) → on s.parens (s.braces - 1) ≡ nested b s
  unfolding is_stray taken_in
  nest-close-brace e n = rw (seen, bracket 5 e (omega arith), ne_eqb s.braces 0 n)

  -- no kind is greater
  pub kinds-end : 5 ≤ class / 256 → class / 256 ≡ 5
  kinds-end l = omega (arith, kind, kind-small b)

-- Any byte, by its class in the table in which the wanted one is marked: a mark tells that the letter is the same.
module _ (class x b : ℕ) (s : Search) (below : b < 256) (is : class ≡ marked_class x b) where
  abbrev Read : Type 0
  Read = ((same_letter b x ≡ true) × (class ≡ class_of b + 2048)) ⊎ ((same_letter b x ≡ false) × (class ≡ class_of b))

  read : Read
  read = go (tested (same_letter b x))
    where
      go : (same_letter b x ≡ true) ⊎ (same_letter b x ≡ false) → Read
      go (inl e) = inl (e, is ∙ rw e)
      go (inr e) = inr (e, is ∙ rw e)

  unmarked : class < 2048 → (same_letter b x ≡ false) × (class ≡ class_of b)
  unmarked h = go read
    where
      go : Read → (same_letter b x ≡ false) × (class ≡ class_of b)
      go (inl e) = absurd (omega (arith, e.1))
      go (inr e) = e

  marked : 2048 ≤ class → (same_letter b x ≡ true) × (class ≡ class_of b + 2048)
  marked h = go read
    where
      go : Read → (same_letter b x ≡ true) × (class ≡ class_of b + 2048)
      go (inl e) = e
      go (inr e) = absurd (omega (arith, e.1, class-small b below))

  pub turn-cut : 2048 ≤ class → may_cut s ≡ true → Turn.Cut ≡ turn_of x b s
  unfolding is_wanted
  turn-cut h e = sym (turn-wanted x b s (and_both (may_cut s) (same_letter b x) e (marked h).0))

  nests : is_wanted x b s ≡ false → nested b s ≡ turn_of x b s
  unfolding turn_of
  nests e = rw e

  pub turn-unmarked : (r : Turn) → class < 2048 → (class ≡ class_of b → r ≡ nested b s) → r ≡ turn_of x b s
  unfolding is_wanted
  turn-unmarked r h e = e (unmarked h).1 ∙ nests (and-false-right (may_cut s) (same_letter b x) (unmarked h).0)

  -- no cut, since it may not be one or is not marked: the byte nests, marked or not
  pub turn-nested : (r : Turn) → (class < 2048) ⊎ (may_cut s ≡ false) → (class % 2048 ≡ class_of b → r ≡ nested b s) → r ≡ turn_of x b s
  unfolding is_wanted
  turn-nested r (inl h) e =
      e (omega (arith, (unmarked h).1)) ∙ nests (and-false-right (may_cut s) (same_letter b x) (unmarked h).0)
  turn-nested r (inr f) e = go read
    where
      go : Read → r ≡ turn_of x b s
      go (inl m) = e (omega (arith, m.1, class-small b below)) ∙ nests (and-false-left (may_cut s) (same_letter b x) f)
      go (inr m) = e (omega (arith, m.1, class-small b below)) ∙ nests (and-false-left (may_cut s) (same_letter b x) f)
