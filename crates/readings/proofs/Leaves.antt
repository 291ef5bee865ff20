-- The leaves of the walk against those of the relation: useful place, exact part, whitespace part, cut and span are found
-- exactly where they are declared.
use mathlib.Core.Path.{◌≡◌, refl, sym, ap, ◌∙◌, subst}
use mathlib.Core.Logic.{◌⊎◌, inl, inr, ⊎_elim}
use mathlib.Core.Bool.{Bool, true, false, ◌&&◌}
use mathlib.Core.List.Memᴰ
use mathlib.Core.List.{List, [], ◌∷◌, Memᴰ}
use Rattle.std.specs.Prelude.{Option, None, Some}
use Rattle.plain.proofs.Options.{some_inj, none-ne-some}
use Prim.Native.Nat.{ℕ, ◌+◌, ◌<◌, min}
use native.Mathlib.Nat.{zero-add}
use native.Mathlib.Omega.{arith}
use native.Mathlib.Decide.{dec_lt}
use lib.Dec.{leb, ltb}
use borrow.Author.Tests.{ltb-true, lt-ltb, leb-true, le-leb}
use Rattle.plain.specs.Choice.{select}
use Rattle.plain.proofs.Tests.{tested, not-both, and_left, and_right, and_both, or_cases, or_left, or_right}
use Rattle.token.specs.Token.{is_whitespace, same_letter}
use Rattle.syntax.specs.Walker.{byte_at, held, over, past_place, expect_char, gap}
use Rattle.syntax.proofs.Useful.{held-within, useful-is, useful-one}
use Rattle.defs.specs.declared.ruledef.Part.{Part}
use Rattle.defs.specs.declared.ruledef.Part.TheVariants.{Exact, Whitespace, Expression, Nested}
use Rattle.readings.specs.Scene.{Scene, walker_at, Lawful}
use Rattle.readings.specs.Reading.{Useful, Exactly-at, Gap, Ahead, next, past_space, Cut-for, Under, whole, up_to, Span}
use Rattle.readings.specs.Walk.{useful_at, went_to, exactly, is_gap, lookahead, cut_by, cut_for, list_of, limits, start}

-- ---- lookahead

pub ahead-declared : (ps : List Part) (x : ℕ) → lookahead ps ≡ Some x → Ahead ps x
unfolding lookahead
ahead-declared [] x e = absurd (none-ne-some x e)
ahead-declared (Exact y ∷ ps) x e = subst (λ (z : ℕ). Ahead (Exact y ∷ ps) z) (some_inj e) next
ahead-declared (Whitespace ∷ ps) x e = past_space (ahead-declared ps x e)
ahead-declared (Expression ∷ ps) x e = absurd (none-ne-some x e)
ahead-declared (Nested r ∷ ps) x e = absurd (none-ne-some x e)

pub ahead-found : {ps : List Part} {x : ℕ} → Ahead ps x → lookahead ps ≡ Some x
unfolding lookahead
ahead-found next = refl
ahead-found (past_space a) = ahead-found a

module _ (s : Scene) (l c : ℕ) where
  pub useful-found : Useful s l c (useful_at s l c)
  useful-found = useful-is s.line (walker_at s.line l c) (held-within s.line (record { cursor = c; limit = l }))

  pub useful-only : {p : ℕ} → Useful s l c p → p ≡ useful_at s l c
  useful-only {p} u = useful-one s.line (walker_at s.line l c) p (useful_at s l c) u useful-found

  -- ---- exact part

  abbrev there : ℕ
  there = useful_at s l c

  abbrev most : ℕ
  most = (walker_at s.line l c).limit

  -- the test of the byte, and where it leads
  abbrev stands : ℕ → Bool
  stands x = ltb there most && same_letter (byte_at s.line there) x

  abbrev leads : Bool → Option ℕ
  leads b = went_to (select b (true, past_place there (walker_at s.line l c)) (false, walker_at s.line l c))

  pub exactly-declared : (x d : ℕ) → exactly s l c x ≡ Some d → Exactly-at s l c x d
  unfolding exactly expect_char
  exactly-declared x d e = go (tested (stands x))
    where
      go : (stands x ≡ true) ⊎ (stands x ≡ false) → Exactly-at s l c x d
      go (inl t) = record {
        place = there;
        useful = useful-found;
        below = ltb-true there most (and_left (ltb there most) (same_letter (byte_at s.line there) x) t);
        equal = and_right (ltb there most) (same_letter (byte_at s.line there) x) t;
        past = sym (some_inj (sym (ap leads t) ∙ e));
      }
      go (inr f) = absurd (none-ne-some d (sym (ap leads f) ∙ e))

  pub exactly-found : (x d : ℕ) → Exactly-at s l c x d → exactly s l c x ≡ Some d
  unfolding exactly expect_char
  exactly-found x d e =
      let at = useful-only e.useful in
      let below : there < most = subst (λ (p : ℕ). p < most) at e.below in
      let equal : same_letter (byte_at s.line there) x ≡ true = subst (λ (p : ℕ). same_letter (byte_at s.line p) x ≡ true) at e.equal in
      ap leads (and_both _ _ (lt-ltb _ _ below) equal) ∙ ap {B = Option ℕ} Some (ap (λ (p : ℕ). p + 1) (sym at) ∙ sym e.past)

  -- ---- whitespace part

  pub gap-declared : is_gap s l c ≡ true → Gap s l c
  unfolding gap over
  gap-declared e =
      ⊎_elim (λ t. inl (leb-true (walker_at s.line l c).limit (walker_at s.line l c).cursor t)) (λ t. inr t)
      (or_cases (leb (walker_at s.line l c).limit (walker_at s.line l c).cursor) (is_whitespace (byte_at s.line (walker_at s.line l c).cursor)) e)

  pub gap-found : Gap s l c → is_gap s l c ≡ true
  unfolding gap over
  gap-found (inl h) = or_left _ _ (le-leb (walker_at s.line l c).limit (walker_at s.line l c).cursor h)
  gap-found (inr t) = or_right (leb (walker_at s.line l c).limit (walker_at s.line l c).cursor) _ t

  -- ---- span

  pub span-declared : (e : ℕ) → Span s l c e (s.base + start s l c e) (s.base + e)
  span-declared e = record { place = useful_at s l c; useful = useful-found; starts = refl; stops = refl }

  pub span-found : (e f g : ℕ) → Span s l c e f g → f ≡ s.base + start s l c e
  span-found e f g p = p.starts ∙ ap (λ (n : ℕ). s.base + min e n) (useful-only p.useful)

  -- ---- cut and limits

  module _ (law : Lawful s) (ps : List Part) where
    pub cut-declared : (m : ℕ) → cut_for s l c ps ≡ Some m → Cut-for s l c ps m
    unfolding cut_for
    cut-declared m e = go (lookahead ps) refl e
      where
        go : (o : Option ℕ) → lookahead ps ≡ o → cut_by s l c o ≡ Some m → Cut-for s l c ps m
        go None p q = absurd (none-ne-some m q)
        go (Some x) p q = record { char = x; ahead = ahead-declared ps x p; cuts = (law.cut_at x l c m).0 q }

    pub cut-found : (m : ℕ) → Cut-for s l c ps m → cut_for s l c ps ≡ Some m
    unfolding cut_for
    cut-found m k = ap (cut_by s l c) (ahead-found k.ahead) ∙ (law.cut_at k.char l c m).1 k.cuts

    pub limit-declared : (m : ℕ) → Memᴰ m (limits s l c ps) → Under s l c ps m
    unfolding limits
    limit-declared m i =
        elim (Memᴰ.cases_cons i) [
          | inl e ↦ subst (λ (n : ℕ). Under s l c ps n) (sym e) whole
          | inr j ↦ go (cut_for s l c ps) refl j
        ]
      where
        go : (o : Option ℕ) → cut_for s l c ps ≡ o → Memᴰ m (list_of o) → Under s l c ps m
        go None p j = absurd (Memᴰ.not-nil j)
        go (Some n) p j = elim (Memᴰ.cases_cons j) [ inl e ↦ up_to (cut-declared m (p ∙ ap {B = Option ℕ} Some (sym e))) | inr k ↦ absurd (Memᴰ.not-nil k) ]

    pub limit-found : (m : ℕ) → Under s l c ps m → Memᴰ m (limits s l c ps)
    unfolding limits
    limit-found m whole = Memᴰ.head refl
    limit-found m (up_to k) = Memᴰ.tail (subst (λ (o : Option ℕ). Memᴰ m (list_of o)) (sym (cut-found m k)) (Memᴰ.head refl))

-- a useful place below a limit is the same under any other limit that it is below
pub same-useful : (s : Scene) (l m c p q : ℕ) → Useful s l c p → p < (walker_at s.line l c).limit → Useful s m c q → q < (walker_at s.line m c).limit → p ≡ q
unfolding held
same-useful s l m c p q u h v k = ordered (dec_lt p q) (dec_lt q p)
  where
    ordered : Dec (p < q) → Dec (q < p) → p ≡ q
    ordered (yes i) j = absurd (not-both (v.passed p (omega (arith, u.from, u.within)) i) (u.stands h))
    ordered (no i) (yes j) = absurd (not-both (u.passed q (omega (arith, v.from, v.within)) j) (v.stands k))
    ordered (no i) (no j) = omega (arith, i, j)

-- at base 0, where the line stands alone, a place is its offset
pub alone : ◌≡◌ {A = ℕ → ℕ} (λ p. 0 + p) (λ p. p)
alone = λ i p. zero-add p i
