-- A rule that fails in its leading exact parts makes one visit more than bytes agree, takes no record and finds nothing: a top
-- rule on the whole line, and a nested one from a cursor under a limit.
use mathlib.Core.Path.{◌≡◌, refl, sym, ◌∙◌, ap}
use mathlib.Core.Logic.{inl, inr}
use mathlib.Core.Bool.{Bool, true, false, not, ◌&&◌}
use Rattle.std.specs.Prelude.{Option, None, Some}
use mathlib.Core.List.{List, [], ◌∷◌, map}
use Prim.Native.Nat.{ℕ, zero, suc, ◌+◌, ◌-◌, ◌≤◌, ◌<◌}
use native.Mathlib.Numerals.{add-one}
use native.Mathlib.Omega.{arith}
use native.Mathlib.Decide.{dec_lt}
use lib.Dec.{ltb}
use lib.ListN.{length, take, drop_of_length-le}
use lib.Seq.{length-take-le, get_or-take, take_all}
use borrow.Author.Tests.{lt-ltb, le-ltb, ltb-true}
use Rattle.plain.specs.Choice.{select}
use Rattle.plain.specs.Lists.{keep_if}
use Rattle.plain.proofs.Tests.{tested}
use Rattle.token.specs.Token.{is_solid, is_whitespace, lowered, same_letter}
use Rattle.syntax.specs.Walker.{byte_at, held, UsefulPlace, useful, past_place, expect_char}
use Rattle.syntax.proofs.Useful.{held-within, useful-is}
use Rattle.ruledef_map.specs.RuledefMap.{leading, rule_prefix, line_prefix}
use Rattle.defs.specs.declared.ruledef.Part.{Part}
use Rattle.defs.specs.declared.ruledef.Part.TheVariants.{Exact, Whitespace, Expression, Nested}
use Rattle.readings.specs.Scene.{Scene, walker_at}
use Rattle.readings.specs.Plan.{Plan, give, visit, done, stop, run, ◌then◌, after, mapped}
use Rattle.readings.specs.Walk.{Found, Match, Below, useful_at, went_to, exactly, walk}
use Rattle.readings.specs.Fail.{ahead, agreed, FailsAt, failing, visited}
use Rattle.readings.proofs.Lookups.{solids_from, solids-here, solids-skip}

-- ---- the bytes that count, from a cursor on and below a limit

module _ (line : List ℕ) (l : ℕ) (within : l ≤ length line) where
  -- what is seen of the line
  abbrev pub seen : List ℕ
  seen = take l line

  long : length seen ≡ l
  long = length-take-le l line within

  byte-seen : (i : ℕ) → i < l → byte_at seen i ≡ byte_at line i
  byte-seen i h = get_or-take l line i 0 h

  module _ (c : ℕ) (inside : c ≤ l) where
    abbrev pub u : ℕ
    u = useful line (walker_at line l c)

    found : UsefulPlace line (walker_at line l c) u
    found = useful-is line (walker_at line l c) (held-within line (record { cursor = c; limit = l }))

    useful-solids : (c ≤ u) × (u ≤ l) × (solids_from seen c ≡ solids_from seen u)
    unfolding held
    useful-solids =
        let from : c ≤ u = omega (arith, found.from) in
        let most : u ≤ l = omega (arith, found.within) in
        let at : c + (u - c) ≡ u = omega arith in (
          from,
          most,
          solids-skip seen (u - c) c (omega (arith, long)) (λ i a b. ap is_whitespace (byte-seen i (omega arith)) ∙ found.passed i (omega arith) (omega arith))
              ∙ ap (solids_from seen) at,
        )

    pub met-byte : u < l → solids_from seen c ≡ lowered (byte_at line u) ∷ solids_from seen (u + 1)
    unfolding held
    met-byte h =
        useful-solids.2 ∙ solids-here seen u true (omega (arith, long)) (ap is_solid (byte-seen u h) ∙ ap not (found.stands (omega (arith, within))))
        ∙ ap (λ (k : ℕ). lowered (byte_at seen u) ∷ solids_from seen k) (sym (add-one u))
        ∙ ap (λ (b : ℕ). lowered b ∷ solids_from seen (u + 1)) (byte-seen u h)

    pub met-end : l ≤ u → solids_from seen c ≡ []
    unfolding keep_if
    met-end h = useful-solids.2 ∙ ap (λ (x : List ℕ). map lowered (keep_if is_solid x)) (drop_of_length-le seen {i = u} (omega (arith, long)))

  pub met-none : solids_from seen l ≡ []
  unfolding keep_if
  met-none = ap (λ (x : List ℕ). map lowered (keep_if is_solid x)) (drop_of_length-le seen {i = l} (omega (arith, long)))

-- ---- an exact part meets the next of them

module _ (s : Scene) (below : Below) (fin : ℕ → Bool) (l : ℕ) (within : l ≤ length s.line) where
  module _ (c : ℕ) (inside : c ≤ l) where
    abbrev at : ℕ
    at = useful_at s l c

    went : Bool → Option ℕ
    went b = went_to (select b (true, past_place at (walker_at s.line l c)) (false, walker_at s.line l c))

    went-is : (t : Bool) → went (true && t) ≡ select t (Some (at + 1)) None
    unfolding went
    went-is true = refl
    went-is false = refl

    past-byte : at < l → (x : ℕ) (t : Bool) → same_letter (byte_at s.line at) x ≡ t → exactly s l c x ≡ select t (Some (at + 1)) None
    unfolding exactly expect_char held went
    past-byte h x t e =
        let i : ltb at (walker_at s.line l c).limit ≡ true = lt-ltb at (walker_at s.line l c).limit (omega (arith, within)) in
        ap (λ (b : Bool). went (b && same_letter (byte_at s.line at) x)) i ∙ ap (λ (b : Bool). went (true && b)) e ∙ went-is t

    past_end : l ≤ at → (x : ℕ) → exactly s l c x ≡ None
    unfolding exactly expect_char held
    past_end h x = let i : ltb at (walker_at s.line l c).limit ≡ false = le-ltb at (walker_at s.line l c).limit (omega arith) in rw i

  -- ---- so a walk fails where the bytes differ

  -- of at most k leading exact parts, those that the line has from cursor c on
  abbrev same : List Part → ℕ → ℕ → ℕ
  same ps k c = agreed (take k (leading ps)) (take k (solids_from (seen s.line l within) c))

  module _ (x : ℕ) (ps : List Part) (k c : ℕ) (inside : c ≤ l) where
    same_byte : at c inside < l → (t : Bool) → same_letter (byte_at s.line (at c inside)) x ≡ t
        → same (Exact x ∷ ps) (suc k) c ≡ select t (suc (same ps k (at c inside + 1))) 0
    unfolding agreed leading
    same_byte h t e = rw (met-byte s.line l within c inside h, e)

    same_end : l ≤ at c inside → same (Exact x ∷ ps) (suc k) c ≡ 0
    unfolding agreed leading
    same_end h = rw (met-end s.line l within c inside h)

    walk-exact : (o : Option ℕ) → exactly s l c x ≡ o → walk s below fin (Exact x ∷ ps) l c ≡ visit (after o (λ d. walk s below fin ps l d))
    unfolding walk
    walk-exact o e = ap (λ (o : Option ℕ). visit (after o (λ d. walk s below fin ps l d))) e

  abbrev Fails : List Part → ℕ → ℕ → Type 0
  Fails ps k c = walk s below fin ps l c ≡ visited (suc (same ps k c)) (give [])

  module _ (x : ℕ) (ps : List Part) (k c : ℕ) (inside : c ≤ l) where
    exact-stays : exactly s l c x ≡ None → same (Exact x ∷ ps) (suc k) c ≡ 0 → Fails (Exact x ∷ ps) (suc k) c
    unfolding visited
    exact-stays p q = walk-exact x ps k c inside None p ∙ ap (λ (m : ℕ). visit (visited m (give []))) (sym q)

    exact-goes : at c inside < l → same_letter (byte_at s.line (at c inside)) x ≡ true → Fails ps k (at c inside + 1) → Fails (Exact x ∷ ps) (suc k) c
    unfolding visited
    exact-goes h e f =
        walk-exact x ps k c inside (Some (at c inside + 1)) (past-byte c inside h x true e) ∙ ap visit f
        ∙ ap (λ (m : ℕ). visit (visited m (give []))) (sym (same_byte x ps k c inside h true e))

    exact-fails : same (Exact x ∷ ps) (suc k) c < suc (length (take k (leading ps)))
        → ((d : ℕ) → d ≤ l → same ps k d < length (take k (leading ps)) → Fails ps k d) → Fails (Exact x ∷ ps) (suc k) c
    exact-fails h again = placed (dec_lt (at c inside) l)
      where
        placed : Dec (at c inside < l) → Fails (Exact x ∷ ps) (suc k) c
        placed (no n) = exact-stays (past_end c inside (omega (arith, n)) x) (same_end x ps k c inside (omega (arith, n)))
        placed (yes n) =
            elim (tested (same_letter (byte_at s.line (at c inside)) x)) [
              | inl e ↦ exact-goes n e (again (at c inside + 1) (omega arith) (omega (arith, same_byte x ps k c inside n true e)))
              | inr e ↦ exact-stays (past-byte c inside n x false e) (same_byte x ps k c inside n false e)
            ]

  leading-fails : (ps : List Part) (k c : ℕ) → c ≤ l → same ps k c < length (take k (leading ps)) → Fails ps k c
  unfolding leading
  leading-fails ps zero c i h = absurd (omega arith)
  leading-fails [] (suc k) c i h = absurd (omega arith)
  leading-fails (Whitespace ∷ ps) (suc k) c i h = absurd (omega arith)
  leading-fails (Expression ∷ ps) (suc k) c i h = absurd (omega arith)
  leading-fails (Nested r ∷ ps) (suc k) c i h = absurd (omega arith)
  leading-fails (Exact x ∷ ps) (suc k) c i h = exact-fails x ps k c i h (λ d b f. leading-fails ps k d b f)

  pub walk-fails : (ps : List Part) (c j : ℕ) → c ≤ l → FailsAt (rule_prefix ps) (ahead s.line l c) j → walk s below fin ps l c ≡ visited (suc j) (give [])
  unfolding rule_prefix ahead
  walk-fails ps c j inside fails = leading-fails ps 4 c inside (omega arith) ∙ ap (λ (m : ℕ). visited (suc m) (give [])) fails.0

-- at the line's start, under no limit but its end, that is its prefix
pub prefix-ahead : (line : List ℕ) → ahead line (length line) 0 ≡ line_prefix line
unfolding ahead line_prefix
prefix-ahead line = ap (λ (l : List ℕ). take 4 (map lowered (keep_if is_solid l))) (take_all (length line) line (omega arith))

pub fails-at : (q p : List ℕ) (j : ℕ) → failing q p ≡ suc j → FailsAt q p j
unfolding failing
fails-at q p j e =
    elim (tested (ltb (agreed q p) (length q))) [
      | inl t ↦ let i = ltb-true (agreed q p) (length q) t in let f : suc (agreed q p) ≡ suc j = rw t at e in (omega arith, omega arith)
      | inr t ↦ let f : 0 ≡ suc j = rw t at e in absurd (omega arith)
    ]

-- ---- so many visits, and then a plan

module _ {A : Type 0} where
  visited-then : {B : Type 0} (m : ℕ) (p : Plan A) (f : A → Plan B) → visited m p then f ≡ visited m (p then f)
  unfolding visited ◌then◌
  visited-then zero p f = refl
  visited-then (suc m) p f = ap visit (visited-then m p f)

  visited-done : (m : ℕ) (p : Plan A) (v r : ℕ) → m ≤ v → run (visited m p) v r ≡ run p (v - m) r
  unfolding visited run
  visited-done zero p v r h = let e : v ≡ v - 0 = omega arith in ap (λ (w : ℕ). run p w r) e
  visited-done (suc m) p zero r h = absurd (omega arith)
  visited-done (suc m) p (suc v) r h = let e : v - m ≡ suc v - suc m = omega arith in visited-done m p v r (omega arith) ∙ ap (λ (w : ℕ). run p w r) e

  visited-stop : (m : ℕ) (p : Plan A) (v r : ℕ) → v < m → run (visited m p) v r ≡ stop 6 0
  unfolding visited run
  visited-stop zero p v r h = absurd (omega arith)
  visited-stop (suc m) p zero r h = refl
  visited-stop (suc m) p (suc v) r h = visited-stop m p v r (omega arith)

-- ---- a rule by its visits: what its plan leaves, whatever names its match

module _ (s : Scene) (below : Below) (fin : ℕ → Bool) (ps : List Part) (l c : ℕ) (within : l ≤ length s.line) (inside : c ≤ l)
    (m : ℕ) (is : m ≡ failing (rule_prefix ps) (ahead s.line l c)) (some-visits : 0 < m) where
  fails-there : walk s below fin ps l c ≡ visited m (give [])
  fails-there =
      let n : m ≡ suc (m - 1) = omega arith in
      walk-fails s below fin l within ps c (m - 1) inside (fails-at (rule_prefix ps) (ahead s.line l c) (m - 1) (sym is ∙ n))
      ∙ ap (λ (k : ℕ). visited k (give [])) (sym n)

  module _ (name : Found → Match) where
    named-fails : mapped name (walk s below fin ps l c) ≡ visited m (give [])
    unfolding mapped ◌then◌
    named-fails = ap (mapped name) fails-there ∙ visited-then m (give []) (λ xs. give (map name xs))

    pub fails-done : (v r : ℕ) → m ≤ v → run (mapped name (walk s below fin ps l c)) v r ≡ done (v - m) r []
    unfolding run
    fails-done v r h = ap (λ (p : Plan (List Match)). run p v r) named-fails ∙ visited-done m (give []) v r h

    pub fails-stop : (v r : ℕ) → v < m → run (mapped name (walk s below fin ps l c)) v r ≡ stop 6 0
    fails-stop v r h = ap (λ (p : Plan (List Match)). run p v r) named-fails ∙ visited-stop m (give []) v r h
