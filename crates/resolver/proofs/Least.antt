-- The least of the known sizes: it is at most each of them, and one of them; and how it and the number of outcomes that
-- have it change with one outcome more.
use mathlib.Core.Path.{◌≡◌, refl, sym, ap, ◌∙◌}
use mathlib.Core.Logic.{◌⊎◌, inl, inr, ⊎_elim}
use mathlib.Core.Bool.{Bool, true, false}
use mathlib.Core.List.{List, [], ◌∷◌, ◌++◌, map}
use Rattle.std.specs.Prelude.{Option, None, Some}
use Rattle.plain.proofs.Options.{none-ne-some}
use Prim.Native.Nat.{ℕ, zero, suc, ◌+◌, ◌≤◌, ◌<◌, min}
use native.Mathlib.Nat.{add-zero}
use native.Mathlib.Decide.{dec_le}
use native.Mathlib.Omega.{arith}
use borrow.Author.Tests.{eqb-true, eq-eqb, ne_eqb}
use lib.Dec.{eqb}
use lib.ListN.{length, get_or, take}
use lib.Seq.{take_all}
use Rattle.plain.specs.Choice.{select}
use Rattle.plain.specs.Lists.{some_of, count}
use Rattle.plain.proofs.Tests.{not-both}
use Rattle.resolver.specs.Outcome.{Outcome, size_in, outcome_of, is_bad, is_known, size_of}
use Rattle.resolver.specs.Outcome.Outcome.{unresolved}
use Rattle.resolver.specs.Selection.{lesser, least_size, same_size, has_size}
use Rattle.resolver.specs.LastPass.{size_at}
use Rattle.resolver.specs.Passes.{Smallest}
use Rattle.plain.proofs.Passed.{map_more, count-more, count_none, count_at, none-at}
use Rattle.resolver.proofs.Words.{known-size, small_size, no_size, size-known, sized-known}

-- a size, or 65,536, which is more than any
abbrev pub or_more : Option ℕ → ℕ
or_more None = 65536
or_more (Some s) = s

-- sizes that are the same are known
same_true : (s t : Option ℕ) → same_size s t ≡ true → (n : ℕ) × (s ≡ Some n) × (t ≡ Some n)
unfolding same_size
same_true None t h = absurd (not-both refl (sym h))
same_true (Some s) None h = absurd (not-both refl (sym h))
same_true (Some s) (Some t) h = (s, refl, ap Some (sym (eqb-true s t h)))

-- so an outcome that has a size
pub has-true : (s : Option ℕ) (o : Outcome) → has_size s o ≡ true → (n : ℕ) × (s ≡ Some n) × (size_of o ≡ Some n)
unfolding has_size
has-true s o h = same_true s (size_of o) h

pub has_same : (n : ℕ) (o : Outcome) → size_of o ≡ Some n → has_size (Some n) o ≡ true
unfolding has_size same_size
has_same n o h = rw h (eq-eqb n n refl)

-- the lesser of two sizes is at most either, and one of them
lesser-left : (t : ℕ) (b : Option ℕ) → (m : ℕ) × (lesser (Some t) b ≡ Some m) × (m ≤ t)
unfolding lesser
lesser-left t None = (t, refl, omega arith)
lesser-left t (Some u) = (min t u, refl, omega arith)

lesser-right : (a : Option ℕ) (u : ℕ) → (m : ℕ) × (lesser a (Some u) ≡ Some m) × (m ≤ u)
unfolding lesser
lesser-right None u = (u, refl, omega arith)
lesser-right (Some s) u = (min s u, refl, omega arith)

lesser-either : (a b : Option ℕ) (m : ℕ) → lesser a b ≡ Some m → (a ≡ Some m) ⊎ (b ≡ Some m)
unfolding lesser
lesser-either None b m h = inr h
lesser-either (Some s) None m h = inl h
lesser-either (Some s) (Some t) m h =
    let e : min s t ≡ m = cc in
    elim (dec_le s t) [ yes l ↦ inl (ap Some (omega arith)) | no l ↦ inr (ap Some (omega (arith, l))) ]

-- a known size is no less than the least
pub least-at-most :
    (os : List Outcome) (i t : ℕ) → size_at os i ≡ Some t → (m : ℕ) × (least_size os ≡ Some m) × (m ≤ t)
unfolding least_size size_of
least-at-most [] i t h = absurd (none-ne-some t h)
least-at-most (o ∷ os) zero t h = rw h (lesser-left t (least_size os))
least-at-most (o ∷ os) (suc i) t h =
    let (u, e, l) = least-at-most os i t h in
    let (m, f, k) = lesser-right (size_of o) u in
    (m, ap (lesser (size_of o)) e ∙ f, omega arith)

-- the least is one of the known sizes
pub least-attained :
    (os : List Outcome) (m : ℕ) → least_size os ≡ Some m → (i : ℕ) × (i < length os) × (size_at os i ≡ Some m)
unfolding least_size
least-attained [] m h = absurd (none-ne-some m h)
least-attained (o ∷ os) m h =
    ⊎_elim (λ first. (0, omega arith, first))
    (λ later. let (i, l, e) = least-attained os m later in (suc i, omega arith, e))
    (lesser-either (size_of o) (least_size os) m h)

-- where an outcome is known there is a least size
pub known_least : (os : List Outcome) → least_size os ≡ None → count is_known os ≡ 0
known_least os unsized = count_none is_known os unresolved (λ i l known.
    let (t, size) = size-known (get_or os i unresolved) known in
    let (m, least, most) = least-at-most os i t size in
    none-ne-some m (sym unsized ∙ least))

pub some_least : (os : List Outcome) → (count is_known os ≡ 0 → ⊥) → (m : ℕ) × (least_size os ≡ Some m)
some_least os some_Known = go (least_size os) refl
  where
    go : (a : Option ℕ) → least_size os ≡ a → (m : ℕ) × (least_size os ≡ Some m)
    go None e = absurd (some_Known (known_least os e))
    go (Some m) e = (m, e)

-- and where there is a least size, an outcome is known
pub least_known : (os : List Outcome) (m : ℕ) → least_size os ≡ Some m → count is_known os ≡ 0 → ⊥
unfolding is_known
least_known os m least none_of =
    let (i, l, size) = least-attained os m least in
    count_at is_known os unresolved refl i (sized-known (get_or os i unresolved) size).1 none_of

-- sizes may be compared in any grouping
lesser-assoc : (a b c : Option ℕ) → lesser a (lesser b c) ≡ lesser (lesser a b) c
unfolding lesser
lesser-assoc None b c = refl
lesser-assoc (Some a) None c = refl
lesser-assoc (Some a) (Some b) None = refl
lesser-assoc (Some a) (Some b) (Some c) = ap Some (omega arith)

lesser-none : (a : Option ℕ) → lesser a None ≡ a
unfolding lesser
lesser-none None = refl
lesser-none (Some a) = refl

-- the least of one outcome more
least_more : (os : List Outcome) (o : Outcome) → least_size (os ++ (o ∷ [])) ≡ lesser (least_size os) (size_of o)
unfolding least_size lesser
least_more [] o = lesser-none (size_of o)
least_more (p ∷ os) o = ap (lesser (size_of p)) (least_more os o) ∙ lesser-assoc (size_of p) (least_size os) (size_of o)

-- no outcome has a size below the least
none_below : (os : List Outcome) (s : ℕ) → s < or_more (least_size os) → count (has_size (Some s)) os ≡ 0
none_below os s below = count_none (has_size (Some s)) os unresolved (λ i l h.
    let (n, e, f) = has-true (Some s) (get_or os i unresolved) h in
    let (m, g, k) = least-at-most os i n f in
    let same : s ≡ n = cc in
    omega (arith, ap or_more g))

-- the lesser of a least size so far and one more
lesser-below : (a : Option ℕ) (s : ℕ) → s < or_more a → lesser a (Some s) ≡ Some s
unfolding lesser
lesser-below None s l = refl
lesser-below (Some m) s l = ap Some (omega arith)

lesser-above : (a : Option ℕ) (s : ℕ) → or_more a ≤ s → s ≤ 65535 → lesser a (Some s) ≡ a
unfolding lesser
lesser-above None s l small = absurd (omega arith)
lesser-above (Some m) s l small = ap Some (omega arith)

same_above : (a : Option ℕ) (s : ℕ) → or_more a ≤ s → s ≤ 65535 → same_size a (Some s) ≡ eqb (or_more a) s
unfolding same_size
same_above None s l small = absurd (omega arith)
same_above (Some m) s l small = refl

has-none : (a : Option ℕ) (o : Outcome) → size_of o ≡ None → has_size a o ≡ false
unfolding has_size same_size
has-none None o e = refl
has-none (Some n) o e = rw e

-- the least of the known sizes, or 65,536 for none, and how many outcomes have it
pub record Sought (os : List Outcome) (size times : ℕ) : Type 0 where
  pub least : size ≡ or_more (least_size os)
  pub many : times ≡ count (has_size (least_size os)) os

-- no size is found where no outcome is known
pub none_found : {os : List Outcome} {known : ℕ} → known ≡ count is_known os → known ≡ 0 → Smallest os None
none_found {os} knowns none_of = go (least_size os) refl
  where
    go : (a : Option ℕ) → least_size os ≡ a → Smallest os None
    go None e =
        record {
          least = sym e;
          many =
              rw e (sym (count_none (has_size None) os unresolved (λ i l h.
              let (n, f, g) = has-true None (get_or os i unresolved) h in
              none-ne-some n f)));
        }
    go (Some m) e = absurd (least_known os m e (sym knowns ∙ none_of))

-- and else the least is
some_found :
    {os : List Outcome} {size times known : ℕ} → Sought os size times → known ≡ count is_known os → (known ≡ 0 → ⊥) →
    Smallest os (Some (record { size = size; count = times }))
some_found {os} sought knowns some-of-them =
    let (m, e) = some_least os (λ none_of. some-of-them (knowns ∙ none_of)) in
    record { least = rw e (ap Some (sought.least ∙ ap or_more e)); many = sought.many }

-- the turns of the pass: what it has found, with one outcome more
module _ {os : List Outcome} {least times : ℕ} (before : Sought os least times) (o : Outcome) where
  turn :
      (new : Option ℕ) {size many : ℕ} → lesser (least_size os) (size_of o) ≡ new → size ≡ or_more new →
      many ≡ count (has_size new) os + select (has_size new o) 1 0 → Sought (os ++ (o ∷ [])) size many
  turn new e f g = record { least = rw (least_more, e) f; many = rw (least_more, e, count-more) g }

  turn-unknown : size_of o ≡ None → Sought (os ++ (o ∷ [])) least times
  turn-unknown e =
      turn (least_size os) (rw e (lesser-none (least_size os))) before.least
      (rw (has-none _ o e) (omega (arith, before.many)))

  module _ {s : ℕ} (known : size_of o ≡ Some s) where
    turn-less : s < least → Sought (os ++ (o ∷ [])) s 1
    turn-less less =
        let below : s < or_more (least_size os) = omega (arith, before.least) in
        turn (Some s) (rw known (lesser-below _ s below)) refl
        (rw (has_same s o known, none_below os s below))

    module _ (small : s ≤ 65535) where
      turn-above : least ≤ s → Sought (os ++ (o ∷ [])) least (times + select (eqb least s) 1 0)
      unfolding has_size
      turn-above above =
          let over : or_more (least_size os) ≤ s = omega (arith, before.least) in
          turn (least_size os) (rw known (lesser-above _ s over small)) before.least
          (rw (known, same_above _ s over small, before.least, before.many))

      turn-same : s ≡ least → Sought (os ++ (o ∷ [])) least (times + 1)
      turn-same same = rw (eq-eqb least s (sym same)) at (turn-above (omega arith))

      turn-greater : least ≤ s → (s ≡ least → ⊥) → Sought (os ++ (o ∷ [])) least times
      turn-greater above other = rw (ne_eqb least s (λ e. other (sym e)), add-zero) at (turn-above above)

-- the pass over words: i of them are passed
pub record Passing (ws : List ℕ) (i least times : ℕ) : Type 0 where
  pub within : i ≤ length ws
  pub good : some_of is_bad ws ≡ false
  pub found : Sought (map outcome_of (take i ws)) least times
  pub most : times ≤ i

pub none_passed : (ws : List ℕ) → some_of is_bad ws ≡ false → Passing ws 0 65536 0
unfolding least_size has_size count
none_passed ws good =
    record { within = omega arith; good = good; found = record { least = refl; many = refl }; most = omega arith }

module _ {ws : List ℕ} {i least times : ℕ} (before : Passing ws i least times) where
  pub all-passed :
      {known : ℕ} → known ≡ count is_known (map outcome_of ws) → (known ≡ 0 → ⊥) → length ws ≤ i →
      Smallest (map outcome_of ws) (Some (record { size = least; count = times }))
  all-passed knowns some-of-them past = some_found (rw (take_all i ws past) at before.found) knowns some-of-them

  module _ (more : i < length ws) where
    passed :
        {size many : ℕ} → Sought (map outcome_of (take i ws) ++ (outcome_of (get_or ws i 0) ∷ [])) size many →
        many ≤ i + 1 → Passing ws (i + 1) size many
    passed next few =
        record { within = omega arith; good = before.good; found = rw (map_more outcome_of ws i 0 more) next; most = few }

    module _ {test : Bool} (answer : test ≡ is_known (outcome_of (get_or ws i 0))) where
      -- the next word is not known
      pub pass-unknown : test ≡ false → Passing ws (i + 1) least times
      pass-unknown no_test =
          passed (turn-unknown before.found _ (no_size _ (sym answer ∙ no_test))) (omega (arith, before.most))

      module _ (known : test ≡ true) {s : ℕ} (size : s ≡ size_in (get_or ws i 0)) where
        size_is : size_of (outcome_of (get_or ws i 0)) ≡ Some s
        size_is = known-size _ (sym answer ∙ known) ∙ ap Some (sym size)

        small : s ≤ 65535
        small = small_size _ (none-at is_bad ws 0 before.good i more) s size_is

        -- its size is less than the least
        pub pass-less : s < least → Passing ws (i + 1) s 1
        pass-less less = passed (turn-less before.found _ size_is less) (omega arith)

        -- it is the least
        pub pass_same : s ≡ least → Passing ws (i + 1) least (times + 1)
        pass_same same = passed (turn-same before.found _ size_is small same) (omega (arith, before.most))

        -- it is greater
        pub pass-greater : least ≤ s → (s ≡ least → ⊥) → Passing ws (i + 1) least times
        pass-greater above other =
            passed (turn-greater before.found _ size_is small above other) (omega (arith, before.most))
