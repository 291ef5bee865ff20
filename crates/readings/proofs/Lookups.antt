-- Lookup by prefix lists what the scan lists: a rule that is left out has no reading, since a reading's leading exact parts
-- are the line's first bytes.
use mathlib.Core.Path.{◌≡◌, refl, sym, ◌∙◌, subst, ap}
use mathlib.Core.Bool.{Bool, true, false, not}
use Rattle.plain.proofs.Options.{some_inj}
use mathlib.Core.List.{List, [], ◌∷◌, ◌++◌, map, Memᴰ}
use Prim.Native.Nat.{ℕ, zero, suc, ◌+◌, ◌-◌, ◌≤◌, ◌<◌}
use native.Mathlib.Numerals.{add-one}
use native.Mathlib.Omega.{arith}
use lib.ListN.{length, take, drop}
use lib.Seq.{drop-cons, length-take-le}
use borrow.Author.Tests.{eqb-true}
use Rattle.plain.specs.Choice.{select}
use Rattle.plain.specs.Lists.{range, keep_if, Apart}
use Rattle.plain.proofs.Members.{range-below, range-has, range-apart, kept-mem, kept-has, kept-apart}
use Rattle.token.specs.Token.{is_whitespace, lowered}
use Rattle.syntax.specs.Walker.{byte_at, held}
use Rattle.token.specs.Token.{is_solid}
use Rattle.ruledef_map.specs.RuledefMap.{leading, rule_prefix, line_prefix, same_bytes, with_prefix, found_in}
use Rattle.ruledef_map.proofs.Orders.{same-eq, same_refl}
use Rattle.defs.specs.declared.ruledef.Part.{Part}
use Rattle.readings.specs.Tree.{Args}
use Rattle.readings.specs.Scene.{Scene, Lawful}
use Rattle.readings.specs.Plan.{give, done, run}
use Rattle.readings.specs.Walk.{Match, top_pairs, scan}
use Rattle.readings.specs.Reading.{Exactly-at, From, finish, exact, whitespace, expression, nested, Readings}
use Rattle.readings.specs.Lookup.{parts_of, found_pairs, lookup}
use Rattle.readings.proofs.Plans.{each-source, each-has, each-once, joined}
use Rattle.readings.proofs.Runs.{run-done}
use Rattle.readings.proofs.Walks.{tree, top-has, top-once}
use Rattle.readings.proofs.Scan.{Enough, tries-readings, tries-done}
use Rattle.readings.proofs.Packed.{past-cursor}

-- ---- the bytes that count, from a place on

abbrev pub solids_from : List ℕ → ℕ → List ℕ
solids_from line c = map lowered (keep_if is_solid (drop c line))

pub solids-here : (line : List ℕ) (c : ℕ) (b : Bool) → c < length line → is_solid (byte_at line c) ≡ b
    → solids_from line c ≡ map lowered (select b (byte_at line c ∷ keep_if is_solid (drop (suc c) line)) (keep_if is_solid (drop (suc c) line)))
unfolding keep_if
solids-here line c b h e =
    ap (λ (l : List ℕ). map lowered (keep_if is_solid l)) (drop-cons line c 0 h)
    ∙ ap (λ (t : Bool). map lowered (select t (byte_at line c ∷ keep_if is_solid (drop (suc c) line)) (keep_if is_solid (drop (suc c) line)))) e

-- whitespace is passed over
pub solids-skip : (line : List ℕ) (d c : ℕ) → c + d ≤ length line → ((i : ℕ) → c ≤ i → i < c + d → is_whitespace (byte_at line i) ≡ true)
    → solids_from line c ≡ solids_from line (c + d)
solids-skip line zero c h w = let e : c ≡ c + 0 = omega arith in ap (solids_from line) e
solids-skip line (suc d) c h w =
    let e : suc c + d ≡ c + suc d = omega arith in
    solids-here line c false (omega arith) (ap not (w c (omega arith) (omega arith)))
    ∙ solids-skip line d (suc c) (omega arith) (λ i l m. w i (omega arith) (omega arith))
    ∙ ap (solids_from line) e

module _ (s : Scene) where
  exact-solids : (c x d : ℕ) → Exactly-at s (length s.line) c x d → solids_from s.line c ≡ lowered x ∷ solids_from s.line d
  unfolding held
  exact-solids c x d p =
      let n = length s.line in
      let place = past-cursor s.line n c p.place p.useful.from p.below in
      let at : c + (p.place - c) ≡ p.place = omega (arith, place.0) in
      let inside : p.place < n = omega (arith, p.below) in
      let next : suc p.place ≡ d = sym (p.past ∙ add-one p.place) in
      solids-skip s.line (p.place - c) c (omega arith) (λ i l m. p.useful.passed i (omega arith) (omega arith))
      ∙ ap (solids_from s.line) at
      ∙ solids-here s.line p.place true inside (ap not (p.useful.stands p.below))
      ∙ ap (λ (l : List ℕ). lowered (byte_at s.line p.place) ∷ l) (ap (solids_from s.line) next)
      ∙ ap (λ (b : ℕ). b ∷ solids_from s.line d) (eqb-true (lowered (byte_at s.line p.place)) (lowered x) p.equal)

  -- what is read from the cursor on begins with the leading exact parts
  leads : {l c e : ℕ} {ps : List Part} {a : Args} → From s l ps c a e → l ≡ length s.line → (rest : List ℕ) × (leading ps ++ rest ≡ solids_from s.line c)
  unfolding leading
  leads {c = c} finish q = (solids_from s.line c, refl)
  leads {l} {c} (exact {d = d} {x = x} p w) q =
      let (rest, f) = leads w q in
      (rest, ap (λ (k : List ℕ). lowered x ∷ k) f ∙ sym (exact-solids c x d (subst (λ (n : ℕ). Exactly-at s n c x d) q p)))
  leads {c = c} (whitespace p w) q = (solids_from s.line c, refl)
  leads {c = c} (expression i p w) q = (solids_from s.line c, refl)
  leads {c = c} (nested i k v p w) q = (solids_from s.line c, refl)

-- a beginning of a list, cut at n, is a beginning of the list cut at n
begins : (n : ℕ) (xs ys : List ℕ) → (take n xs ≡ take (length (take n xs)) (take n (xs ++ ys))) × (length (take n xs) ≤ length (take n (xs ++ ys)))
begins zero xs ys = (refl, omega arith)
begins (suc n) [] ys = (refl, omega arith)
begins (suc n) (x ∷ xs) ys = let (p, q) = begins n xs ys in (ap (λ (l : List ℕ). x ∷ l) p, omega arith)

-- ---- the rules that a lookup tries

-- whatever names them: they are of the given rules, each once, and all whose prefix begins the line's
module _ {A : Type 0} (parts : A → List Part) (rules : List A) (p : List ℕ) where
  abbrev of_length : ℕ → List A
  of_length j = with_prefix parts rules (take j p)

  abbrev lengths : List ℕ
  lengths = range 0 (suc (length p))

  with_mem : (j : ℕ) {x : A} → Memᴰ x (of_length j) → Memᴰ x rules × (rule_prefix (parts x) ≡ take j p)
  unfolding with_prefix
  with_mem j m = let (i, e) = kept-mem (λ x. same_bytes (rule_prefix (parts x)) (take j p)) rules m in (i, same-eq _ _ e)

  found-mem : {x : A} → Memᴰ x (found_in parts rules p) → Memᴰ x rules
  unfolding found_in
  found-mem m =
      let (j, i, xs, g, n) = each-source (λ j. give (of_length j)) lengths (joined of_length lengths) m in
      (with_mem j (rw (← some_inj g) at n)).0

  found-has : {x : A} (j : ℕ) → Memᴰ x rules → j ≤ length p → rule_prefix (parts x) ≡ take j p → Memᴰ x (found_in parts rules p)
  unfolding found_in with_prefix
  found-has j i h e =
      each-has (λ j. give (of_length j)) lengths (joined of_length lengths) (range-has 0 (suc (length p)) j (omega arith) (omega arith))
      (λ xs g. rw (← some_inj g) (kept-has (λ x. same_bytes (rule_prefix (parts x)) (take j p)) rules (rw e (same_refl (take j p))) i))

  found-once : Apart (λ (x : A). x) rules → Apart (λ (x : A). x) (found_in parts rules p)
  unfolding found_in with_prefix
  found-once apart =
      each-once (λ j. give (of_length j)) (λ (j : ℕ). j) (λ (x : A). x) (λ (x : A). length (rule_prefix (parts x))) lengths
      (λ j xs z i g n.
      ap length (with_mem j (rw (← some_inj g) at n)).1 ∙ length-take-le j p (omega (arith, range-below 0 (suc (length p)) i)))
      (joined of_length lengths) (range-apart 0 (suc (length p)))
      (λ j xs g. rw (← some_inj g) (kept-apart (λ x. same_bytes (rule_prefix (parts x)) (take j p)) (λ (x : A). x) rules apart))

pub lookup-enough : (s : Scene) → Lawful s → Enough s (found_pairs s (line_prefix s.line))
unfolding rule_prefix line_prefix
lookup-enough s law = record {
  once = found-once (parts_of s) (top_pairs s) (line_prefix s.line) (top-once s law);
  top = λ x m. found-mem (parts_of s) (top_pairs s) (line_prefix s.line) m;
  all = λ r k a i j w.
      let (rest, e) = leads s w refl in
      let (p, q) = begins 4 (leading (s.parts r k)) rest in
      found-has (parts_of s) (top_pairs s) (line_prefix s.line) (length (rule_prefix (s.parts r k))) (top-has s i j) (rw (← e) q) (rw (← e) p);
}

-- ---- the theorems

pub lookup-readings : (s : Scene) → Lawful s → (v : ℕ) {w u : ℕ} {is : List Match} → run (lookup s) v 0 ≡ done w u is → Readings s (map tree is)
unfolding lookup
lookup-readings s law v h = tries-readings s law (found_pairs s (line_prefix s.line)) (lookup-enough s law) (run-done (lookup s) v 0 h).0

-- where the scan is not refused, neither is lookup under the same budget, and it makes no more visits
pub lookup-done : (s : Scene) → Lawful s → (v : ℕ) {w u : ℕ} {is : List Match} → run (scan s) v 0 ≡ done w u is
    → (w' u' : ℕ) × (js : List Match) × (run (lookup s) v 0 ≡ done w' u' js) × (w ≤ w')
unfolding lookup
lookup-done s law v h =
    let e = lookup-enough s law in
    tries-done s (found_pairs s (line_prefix s.line)) e.once e.top v h
