-- What the base is to readings and to calls: a tree is a reading under one base exactly if, moved by the difference, it is one
-- under the other; and a call tells the same number, visits, words and place under every base that is not refused, with every
-- start and end moved by the difference.
use mathlib.Core.Path.{◌≡◌, refl, sym, ap, subst, ◌∙◌}
use mathlib.Core.Logic.{inl, inr, ⊎_elim, ◌↔◌}
use mathlib.Core.Bool.{true, false}
use Rattle.std.specs.Prelude.{Option, None, Some}
use mathlib.Core.List.{List, [], ◌∷◌, map}
use Prim.Native.Nat.{ℕ, ◌+◌, ◌-◌, ◌≤◌, min}
use native.Mathlib.Decide.{dec_le}
use native.Mathlib.Omega.{arith}
use lib.ListN.{length}
use borrow.Author.Tests.{leb-true, le-leb}
use Rattle.plain.specs.Buffers.{at_start}
use Rattle.plain.specs.Told.{Told, refused_at}
use Rattle.plain.proofs.Tests.{tested}
use Rattle.line.specs.Line.{fault_at}
use Rattle.defs.specs.Table.{table_fits}
use Rattle.defs.specs.declared.ruledef.Part.{Part}
use Rattle.extents.specs.Sheet.{sheet_fits}
use Rattle.ruledef_map.specs.RuledefMap.{line_prefix}
use Rattle.readings.specs.Tree.{Tree, node, Args, end, expr, nest, moved, moved_args}
use Rattle.readings.specs.Scene.{Scene, scene_of, based}
use Rattle.readings.specs.Reading.{Exactly-at, Cut-for, Candidate, freely, cut_short, greedily, Under, whole, up_to, Span, From, finish, exact, whitespace, expression, nested, Reading, reading}
use Rattle.readings.specs.Plan.{Outcome, done, stop, run}
use Rattle.readings.specs.Walk.{Match, top_pairs, tries}
use Rattle.readings.specs.Lookup.{found_pairs}
use Rattle.readings.specs.Answer.{greatest_count, best, words_of, answer_words}
use Rattle.readings.specs.Call.{tree, written, matched, ended, budget_fits, base_fits, call_with, scan_call, lookup_call}
use Rattle.readings.specs.Shift.{answered, refused, Shifted}
use Rattle.readings.proofs.Runs.{mapped_end}
use Rattle.readings.proofs.Moved.{moved-one, moved_match, run_moved, trees-moved, words-moved, many-moved, words-by}
use Rattle.readings.proofs.Calls.{bad-table, bad-line, bad-sheet, bad-budget, accepted, fits, short}
use Rattle.readings.proofs.Numbers.{stop-numbers}

-- ---- readings

-- what a step asks does not name the base
module _ (s : Scene) (a b : ℕ) where
  exact_same : {l c x d : ℕ} → Exactly-at (based a s) l c x d → Exactly-at (based b s) l c x d
  unfolding based
  exact_same p = record { place = p.place; useful = p.useful; below = p.below; equal = p.equal; past = p.past }

  cut-same : {l c m : ℕ} {ps : List Part} → Cut-for (based a s) l c ps m → Cut-for (based b s) l c ps m
  unfolding based
  cut-same k = record { char = k.char; ahead = k.ahead; cuts = k.cuts }

module _ (s : Scene) (a b : ℕ) where
  candidate-same : {l c d : ℕ} {ps : List Part} → Candidate (based a s) l c ps d → Candidate (based b s) l c ps d
  unfolding based
  candidate-same (freely q) = freely q
  candidate-same (cut_short k q n) = cut_short (cut-same s a b k) q n
  candidate-same (greedily q n m) = greedily q n (λ c d k. m c d (cut-same s b a k))

  under_same : {l c m : ℕ} {ps : List Part} → Under (based a s) l c ps m → Under (based b s) l c ps m
  under_same whole = whole
  under_same (up_to k) = up_to (cut-same s a b k)

module _ (s : Scene) (d b : ℕ) where
  abbrev here : Scene
  here = based b s

  abbrev there : Scene
  there = based (d + b) s

  span-moved : {l c e f g : ℕ} → Span here l c e f g → Span there l c e (d + f) (d + g)
  unfolding based
  span-moved q = record { place = q.place; useful = q.useful; starts = omega (arith, q.starts); stops = omega (arith, q.stops) }

  from-moved : {l c e : ℕ} {ps : List Part} {a : Args} → From here l ps c a e → From there l ps c (moved_args d a) e
  unfolding based
  from-moved finish = finish
  from-moved (exact p u) = exact (exact_same s b (d + b) p) (from-moved u)
  from-moved (whitespace p u) = whitespace p (from-moved u)
  from-moved (expression p q u) = expression (candidate-same s b (d + b) p) (span-moved q) (from-moved u)
  from-moved (nested p k v q u) = nested (under_same s b (d + b) p) k (from-moved v) (span-moved q) (from-moved u)

  -- and every reading there comes from one here
  span-back : {l c e f g : ℕ} → Span there l c e f g → (f' g' : ℕ) × Span here l c e f' g' × (d + f' ≡ f) × (d + g' ≡ g)
  unfolding based
  span-back {e = e} q = (
    b + min e q.place,
    b + e,
    record { place = q.place; useful = q.useful; starts = refl; stops = refl },
    omega (arith, q.starts),
    omega (arith, q.stops),
  )

  from_back : {l c e : ℕ} {ps : List Part} {a : Args} → From there l ps c a e → (a' : Args) × From here l ps c a' e × (moved_args d a' ≡ a)
  unfolding based
  from_back finish = (end, finish, refl)
  from_back (exact p u) = let (a, v, i) = from_back u in (a, exact (exact_same s (d + b) b p) v, i)
  from_back (whitespace p u) = let (a, v, i) = from_back u in (a, whitespace p v, i)
  from_back (expression p q u) =
      let (f, g, r, i, j) = span-back q in
      let (a, v, k) = from_back u in
      (expr f g a, expression (candidate-same s (d + b) b p) r v, cc)
  from_back (nested {r = r} {k = k} p m w q u) =
      let (f, g, o, i, j) = span-back q in
      let (a, v, h) = from_back u in
      let (y, x, n) = from_back w in
      (nest f g (node r k y) a, nested (under_same s (d + b) b p) m x o v, cc)

  from-here : {t : Tree} → Reading here t → Reading there (moved d t)
  unfolding based
  from-here (reading i j w) = reading i j (from-moved w)

  -- every reading there is one of here, moved
  pub reading-there : {t : Tree} → Reading there t → (u : Tree) × Reading here u × (moved d u ≡ t)
  unfolding based
  reading-there (reading {r} {k} i j w) = let (a, v, e) = from_back w in (node r k a, reading i j v, ap (node r k) e)

  -- a tree is a reading here exactly if, moved, it is one there
  pub reading-moved : (t : Tree) → Reading here t ↔ Reading there (moved d t)
  reading-moved t = (from-here, λ r. let (u, q, e) = reading-there r in subst (Reading here) (moved-one d u t e) q)

-- ---- calls

shifted_as : {d : ℕ} {b : List ℕ} {r r' u u' : Told} → r ≡ r' → u ≡ u' → Shifted d b r' u' → Shifted d b r u
shifted_as {d} {b} {r} {r'} {u} {u'} p q x = subst (λ (k : Told). Shifted d b k u) (sym p) (subst (Shifted d b r') (sym q) x)

refused-alike : (d n p : ℕ) (b : List ℕ) → (n ≡ 0 → ⊥) → Shifted d b (refused_at n p b) (refused_at n p b)
refused-alike d n p b h = record { number = refl; visits = refl; words = refl; place = refl; answer = refused h refl refl }

module _ (s : Scene) (d c : ℕ) (b : List ℕ) where
  -- the words of the matches moved
  words-there : (ts : List Tree) → answer_words (based (d + c) s) (map (moved d) ts) ≡ words_of (greatest_count (based c s) ts) (map (moved d) (best (based c s) ts))
  unfolding based
  words-there ts = words-by (based (d + c) s) (based c s) refl (map (moved d) ts) ∙ words-moved (based c s) d ts

  many-there : (ts : List Tree) → length (answer_words (based (d + c) s) (map (moved d) ts)) ≡ length (answer_words (based c s) ts)
  unfolding based
  many-there ts = ap length (words-by (based (d + c) s) (based c s) refl (map (moved d) ts)) ∙ many-moved (based c s) d ts

  matched-moved : (v : ℕ) (ts : List Tree) → Shifted d b (matched (based c s) v ts b) (matched (based (d + c) s) v (map (moved d) ts) b)
  matched-moved v [] = record { number = refl; visits = refl; words = refl; place = refl; answer = refused (λ e. omega (arith, e)) refl refl }
  matched-moved v (t ∷ ts) = by (dec_le (length (answer_words (based c s) (t ∷ ts))) (length b))
    where
      words' : List ℕ
      words' = answer_words (based (d + c) s) (map (moved d) (t ∷ ts))

      by : Dec (length (answer_words (based c s) (t ∷ ts)) ≤ length b)
          → Shifted d b (written v (answer_words (based c s) (t ∷ ts)) b) (written v words' b)
      by (yes h) =
          shifted_as (fits (based c s) v b (answer_words (based c s) (t ∷ ts)) h) (fits (based (d + c) s) v b words' (omega (arith, many-there (t ∷ ts))))
          (record {
            number = refl;
            visits = refl;
            words = many-there (t ∷ ts);
            place = refl;
            answer = answered (greatest_count (based c s) (t ∷ ts)) (best (based c s) (t ∷ ts)) refl refl (ap (λ (ws : List ℕ). at_start ws b) (words-there (t ∷ ts)));
          })
      by (no h) =
          shifted_as (short (based c s) v b (answer_words (based c s) (t ∷ ts)) (omega (arith, h))) (short (based (d + c) s) v b words' (omega (arith, h, many-there (t ∷ ts))))
          (record { number = refl; visits = refl; words = many-there (t ∷ ts); place = refl; answer = refused (λ e. omega (arith, e)) refl refl })

  ended-moved : (budget : ℕ) (o : Outcome (List Match)) → ((n left : ℕ) → o ≡ stop n left → n ≡ 0 → ⊥)
      → Shifted d b (ended (based c s) budget b o) (ended (based (d + c) s) budget b (mapped_end (moved_match d) o))
  ended-moved budget (stop n left) h = record { number = refl; visits = refl; words = refl; place = refl; answer = refused (h n left refl) refl refl }
  ended-moved budget (done left used ms) h =
      subst (λ (ts : List Tree). Shifted d b (matched (based c s) (budget - left) (map tree ms) b) (matched (based (d + c) s) (budget - left) ts b))
      (sym (trees-moved d ms)) (matched-moved (budget - left) (map tree ms))

-- rules that are tried whatever the base, as the scan's and lookup's are
abbrev pub BaseFree : (Scene → List (ℕ × ℕ)) → Type 1
BaseFree order = (s : Scene) (b c : ℕ) → order (based b s) ≡ order (based c s)

pub tops-free : BaseFree top_pairs
unfolding top_pairs based
tops-free s b c = refl

pub found-free : BaseFree (λ s. found_pairs s (line_prefix s.line))
unfolding top_pairs based
found-free s b c = refl

module _ (order : Scene → List (ℕ × ℕ)) (free : BaseFree order) (t line sheet : List ℕ) (budget : ℕ) (b : List ℕ) where
  abbrev s : Scene
  s = scene_of t line sheet

  -- what the call tells under a base
  abbrev call : ℕ → Told
  call base = call_with order t line sheet budget base b

  module _ (d base : ℕ) (low : base_fits base ≡ true) (high : base_fits (d + base) ≡ true) where
    abbrev Moves : Type 0
    Moves = Shifted d b (call base) (call (d + base))

    both-moved : Moves
    both-moved =
        ⊎_elim
        (λ e. by-line e (fault_at line) refl)
        (λ e. shifted_as (bad-table order t line sheet budget base b e) (bad-table order t line sheet budget (d + base) b e) (refused-alike d 2 0 b (λ z. omega (arith, z))))
        (tested (table_fits t))
      where
        walked : table_fits t ≡ true → fault_at line ≡ None → sheet_fits sheet (length line) ≡ true → budget_fits budget ≡ true → Moves
        walked e f g h =
            shifted_as (accepted order t line sheet budget base b (record { table = e; bytes = f; extents = g; visits = h; origin = low }))
            (accepted order t line sheet budget (d + base) b (record { table = e; bytes = f; extents = g; visits = h; origin = high })
            ∙ ap (λ (xs : List (ℕ × ℕ)). ended (based (d + base) s) budget b (run (tries (based (d + base) s) xs) budget 0)) (free s (d + base) base)
            ∙ ap (ended (based (d + base) s) budget b) (run_moved s d base (order (based base s)) budget 0))
            (ended-moved s d base b budget (run (tries (based base s) (order (based base s))) budget 0)
            (λ n left q z. elim (stop-numbers (tries (based base s) (order (based base s))) budget 0 q) [
              | inl i ↦ omega (arith, i, z)
              | inr j ↦ elim j [ inl i ↦ omega (arith, i, z) | inr i ↦ omega (arith, i, z) ]
            ]))

        by-budget : table_fits t ≡ true → fault_at line ≡ None → sheet_fits sheet (length line) ≡ true → Moves
        by-budget e f g =
            ⊎_elim (λ h. walked e f g h)
            (λ h. shifted_as (bad-budget order t line sheet budget base b e f g h) (bad-budget order t line sheet budget (d + base) b e f g h) (refused-alike d 5 0 b (λ z. omega (arith, z))))
            (tested (budget_fits budget))

        by-line : table_fits t ≡ true → (o : Option ℕ) → fault_at line ≡ o → Moves
        by-line e (Some p) f = shifted_as (bad-line order t line sheet budget base b p e f) (bad-line order t line sheet budget (d + base) b p e f) (refused-alike d 3 p b (λ z. omega (arith, z)))
        by-line e None f =
            ⊎_elim (λ g. by-budget e f g)
            (λ g. shifted_as (bad-sheet order t line sheet budget base b e f g) (bad-sheet order t line sheet budget (d + base) b e f g) (refused-alike d 4 0 b (λ z. omega (arith, z))))
            (tested (sheet_fits sheet (length line)))

  -- the call under a base that is d greater, and not refused
  pub call-moved : (d base : ℕ) → base_fits (d + base) ≡ true → Shifted d b (call base) (call (d + base))
  unfolding base_fits
  call-moved d base high = both-moved d base (le-leb base 4294967175 (omega (arith, leb-true (d + base) 4294967175 high))) high

  -- so number, visits and words needed are the same under any two bases, neither refused or both
  abbrev Alike : ℕ → ℕ → Type 0
  Alike base base' = ((call base).number ≡ (call base').number) × ((call base).visits ≡ (call base').visits) × ((call base).words ≡ (call base').words)

  above : (base base' : ℕ) → base ≤ base' → base_fits base' ≡ true → Alike base' base
  above base base' h fits =
      let sum : base' - base + base ≡ base' = omega arith in
      let m = subst (λ (n : ℕ). Shifted (base' - base) b (call base) (call n)) sum (call-moved (base' - base) base (ap base_fits sum ∙ fits)) in
      (m.number, m.visits, m.words)

  both-refused : (base base' : ℕ) → base_fits base ≡ false → base_fits base' ≡ false → call base ≡ call base'
  unfolding call_with
  both-refused base base' e f = rw (e, f) refl

  pub base-free : (base base' : ℕ) → base_fits base ≡ base_fits base' → Alike base base'
  base-free base base' same = ⊎_elim (λ f. by (dec_le base base') f (sym same ∙ f)) (λ f. alike (both-refused base base' f (sym same ∙ f))) (tested (base_fits base))
    where
      alike : call base ≡ call base' → Alike base base'
      alike e = (ap (λ (r : Told). r.number) e, ap (λ (r : Told). r.visits) e, ap (λ (r : Told). r.words) e)

      by : Dec (base ≤ base') → base_fits base ≡ true → base_fits base' ≡ true → Alike base base'
      by (yes h) f g = let (n, v, w) = above base base' h g in (sym n, sym v, sym w)
      by (no h) f g = above base' base (omega (arith, h)) f

module _ (t line sheet : List ℕ) (budget : ℕ) (b : List ℕ) where
  pub scan-moved : (d base : ℕ) → base_fits (d + base) ≡ true → Shifted d b (scan_call t line sheet budget base b) (scan_call t line sheet budget (d + base) b)
  scan-moved = call-moved top_pairs tops-free t line sheet budget b

  pub lookup-moved : (d base : ℕ) → base_fits (d + base) ≡ true → Shifted d b (lookup_call t line sheet budget base b) (lookup_call t line sheet budget (d + base) b)
  lookup-moved = call-moved (λ s. found_pairs s (line_prefix s.line)) found-free t line sheet budget b
