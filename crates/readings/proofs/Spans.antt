-- A place in a pattern lies between the cursor it began at and its limit, and every exact part has taken a non-whitespace
-- byte of its own: so an exact count is at most the line's non-whitespace bytes, and a match's at most the bytes that it took.
use mathlib.Core.Path.{◌≡◌, sym, ◌∙◌, subst, ap}
use mathlib.Core.Bool.{Bool, true, false, not}
use mathlib.Core.List.{List}
use Prim.Native.Nat.{ℕ, zero, suc, ◌+◌, ◌-◌, ◌≤◌, ◌<◌}
use native.Mathlib.Omega.{arith}
use lib.ListN.{length}
use Rattle.plain.specs.Choice.{select}
use Rattle.plain.specs.Below.{count_below}
use Rattle.plain.specs.Lists.{count}
use Rattle.plain.proofs.Below.{count-more, count-grows}
use Rattle.token.specs.Token.{is_whitespace}
use Rattle.syntax.specs.Walker.{byte_at, held}
use Rattle.defs.specs.declared.ruledef.Part.{Part}
use Rattle.readings.specs.Tree.{Tree, Args}
use Rattle.readings.specs.Scene.{Scene, Lawful}
use Rattle.readings.specs.Reading.{Exactly-at, Cut-for, Candidate, freely, cut_short, greedily, Under, whole, up_to, From, finish, exact, whitespace, expression, nested, Reading, reading}
use Rattle.readings.specs.Answer.{exact_parts, exact_count, nested_count}
use Rattle.readings.specs.Measure.{solids_before, solids}

module _ (s : Scene) (law : Lawful s) where
  -- one exact part: past its byte, within the limit, and one non-whitespace byte further
  pub exact-within : (l c x d : ℕ) → c ≤ l → l ≤ length s.line → Exactly-at s l c x d → (c < d) × (d ≤ l)
  unfolding held
  exact-within l c x d h k e = (omega (arith, e.useful.from, e.past), omega (arith, e.below, e.past))

  exact-solid : (l c x d : ℕ) → c ≤ l → l ≤ length s.line → Exactly-at s l c x d → suc (solids_before s.line c) ≤ solids_before s.line d
  unfolding held solids_before
  exact-solid l c x d h k e =
      let solid : not (is_whitespace (byte_at s.line e.place)) ≡ true = ap not (e.useful.stands e.below) in
      let grown = count-grows c e.place (λ i. not (is_whitespace (byte_at s.line i))) (omega (arith, e.useful.from)) in
      let next = count-more e.place (λ i. not (is_whitespace (byte_at s.line i))) ∙ ap (λ (b : Bool). count_below e.place (λ i. not (is_whitespace (byte_at s.line i))) + select b 1 0) solid in
      subst (λ (p : ℕ). suc (count_below c (λ i. not (is_whitespace (byte_at s.line i)))) ≤ count_below p (λ i. not (is_whitespace (byte_at s.line i)))) (sym e.past)
      (omega (arith, grown, next))

  cut_in : (l c : ℕ) (ps : List Part) (m : ℕ) → c ≤ l → Cut-for s l c ps m → (c ≤ m) × (m ≤ l)
  cut_in l c ps m h k = law.cut_within k.char l c m h ((law.cut_at k.char l c m).1 k.cuts)

  pub candidate-within : (l c : ℕ) (ps : List Part) {d : ℕ} → c ≤ l → Candidate s l c ps d → (c ≤ d) × (d ≤ l)
  candidate-within l c ps h (freely {e} q) = law.free_within c l e q
  candidate-within l c ps h (cut_short {e} {m} k q _) =
      let (i, j) = cut_in l c ps m h k in
      let (a, b) = law.free_within c m e q in
      (a, omega arith)
  candidate-within l c ps h (greedily {e} q _ _) = law.greedy_within c l e q

  pub under-within : (l c : ℕ) (ps : List Part) {m : ℕ} → c ≤ l → Under s l c ps m → (c ≤ m) × (m ≤ l)
  under-within l c ps h whole = (h, omega arith)
  under-within l c ps h (up_to {m} k) = cut_in l c ps m h k

  -- parts read under a limit end between cursor and limit
  pub from-within : {l c e : ℕ} {ps : List Part} {a : Args} → c ≤ l → l ≤ length s.line → From s l ps c a e → (c ≤ e) × (e ≤ l)
  from-within h k finish = (omega arith, h)
  from-within {l} {c} h k (exact {d = d} {x = x} p u) =
      let (i, j) = exact-within l c x d h k p in
      let (a, b) = from-within j k u in
      (omega arith, b)
  from-within h k (whitespace p u) = from-within h k u
  from-within {l} {c} h k (expression {d = d} {ps = ps} p q u) =
      let (i, j) = candidate-within l c ps h p in
      let (a, b) = from-within j k u in
      (omega arith, b)
  from-within {l} {c} h k (nested {m = m} {d = d} {ps = ps} p n v q u) =
      let (i, j) = under-within l c ps h p in
      let (a, b) = from-within i (omega arith) v in
      let (y, z) = from-within (omega arith) k u in
      (omega arith, z)

  solids-grow : (c d : ℕ) → c ≤ d → solids_before s.line c ≤ solids_before s.line d
  unfolding solids_before
  solids-grow c d h = count-grows c d (λ i. not (is_whitespace (byte_at s.line i))) h

  -- and have taken a byte for each exact part
  from-solids : {l c e : ℕ} {ps : List Part} {a : Args} → c ≤ l → l ≤ length s.line → From s l ps c a e
      → exact_parts ps + nested_count s a + solids_before s.line c ≤ solids_before s.line e
  unfolding exact_parts count
  from-solids h k finish = omega arith
  from-solids {l} {c} h k (exact {d = d} {x = x} p u) =
      let (i, j) = exact-within l c x d h k p in
      omega (arith, exact-solid l c x d h k p, from-solids j k u)
  from-solids h k (whitespace p u) = from-solids h k u
  from-solids {l} {c} h k (expression {d = d} {ps = ps} p q u) =
      let (i, j) = candidate-within l c ps h p in
      omega (arith, from-solids j k u, solids-grow c d i)
  from-solids {l} {c} h k (nested {m = m} {d = d} {ps = ps} p n v q u) =
      let (i, j) = under-within l c ps h p in
      let (a, b) = from-within i (omega arith) v in
      omega (arith, from-solids i (omega arith) v, from-solids (omega arith) k u)

  -- so many places further on there are at most so many such bytes more
  solids-slow : (c k : ℕ) → solids_before s.line (c + k) ≤ solids_before s.line c + k
  unfolding solids_before
  solids-slow c zero = let e : c + 0 ≡ c = omega arith in rw e (omega arith)
  solids-slow c (suc k) =
      let e : c + suc k ≡ c + k + 1 = omega arith in
      let one : select (not (is_whitespace (byte_at s.line (c + k)))) 1 0 ≤ 1 = at_most (not (is_whitespace (byte_at s.line (c + k)))) in
      rw e (omega (arith, solids-slow c k, count-more (c + k) (λ i. not (is_whitespace (byte_at s.line i))), one))
    where
      at_most : (b : Bool) → select b 1 0 ≤ 1
      at_most true = omega arith
      at_most false = omega arith

  -- so a match counts at most the bytes from where it began to where it ended
  pub from-few : {l c e : ℕ} {ps : List Part} {a : Args} → c ≤ l → l ≤ length s.line → From s l ps c a e → exact_parts ps + nested_count s a + c ≤ e
  from-few {c = c} {e = e} h k u =
      let (i, j) = from-within h k u in
      let q : c + (e - c) ≡ e = omega arith in
      omega (arith, from-solids h k u, solids-slow c (e - c), ap (solids_before s.line) q)

  pub few-exact : {t : Tree} → Reading s t → exact_count s t ≤ solids s.line
  few-exact (reading i j w) = omega (arith, from-solids (omega arith) (omega arith) w)
