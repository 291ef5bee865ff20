-- What an answer can come to: every word of it fits 32 bits and so does its length, and where a scan is not refused no reading
-- is deeper than 16.
use mathlib.Core.Path.{◌≡◌, refl, sym, ◌∙◌, subst, ap}
use mathlib.Core.Logic.{inl, inr}
use mathlib.Core.Bool.{Bool, true, false, not}
use mathlib.Core.List.Memᴰ
use mathlib.Core.List.{List, [], ◌∷◌, ◌++◌, map, Memᴰ}
use Prim.Native.Nat.{ℕ, zero, suc, ◌+◌, ◌*◌, ◌-◌, ◌≤◌, ◌<◌}
use native.Mathlib.Nat.{mul-suc, suc-mul, mul_comm, mul-le-mul_left}
use native.Mathlib.Decide.{dec_le}
use native.Mathlib.Omega.{arith}
use lib.Dec.{eqb}
use lib.ListN.{length, length-append, length-map}
use borrow.Author.Tests.{eqb-true, leb-true}
use Rattle.plain.specs.Choice.{select}
use Rattle.plain.specs.Lists.{range, keep_if}
use Rattle.plain.specs.Told.{Told}
use Rattle.plain.proofs.Tests.{and_left, and_right}
use Rattle.plain.proofs.Below.{count_most}
use Rattle.plain.proofs.Lists.{kept-length}
use Rattle.plain.proofs.Members.{range-below, kept-mem}
use Rattle.token.specs.Token.{is_whitespace}
use Rattle.syntax.specs.Walker.{byte_at}
use Rattle.line.proofs.Lines.{good-is}
use Rattle.defs.specs.Table.{table_fits, sizes_fit, length_fits, flags_fit, rulesets_fit, rulesets_in, records_in, parts_in, ruleset_at, rule_parts}
use Rattle.defs.specs.Ruledef.{records_of, ruleset_of}
use Rattle.defs.specs.declared.ruledef.Part.{Part}
use Rattle.defs.proofs.Fits.{Sizes, sizes-bound}
use Rattle.defs.proofs.Starts.{ruleset-below}
use Rattle.readings.specs.Tree.{Tree, node, Args, end, expr, nest}
use Rattle.readings.specs.Scene.{Scene, Lawful, scene_of, based}
use Rattle.readings.specs.Reading.{Span, From, finish, exact, whitespace, expression, nested, Reading, reading}
use Rattle.readings.specs.Plan.{done, run, records, room}
use Rattle.readings.specs.Walk.{Match, top_pairs, tries, scan, depths}
use Rattle.readings.specs.Answer.{exact_count, greatest_count, greatest, best, arg_count, tree_words, arg_words, all_words, words_of, answer_words}
use Rattle.readings.specs.Call.{Accepted, tree, base_fits, call_with}
use Rattle.readings.specs.Measure.{tree_records, arg_records, tree_depth, solids_before, solids, Fit}
use Rattle.readings.proofs.Runs.{run-done, run_room}
use Rattle.readings.proofs.Packed.{lawful, lawful-based}
use Rattle.readings.proofs.Scan.{Enough, scan-enough, tries-readings}
use Rattle.readings.proofs.Best.{reached}
use Rattle.readings.proofs.Spans.{exact-within, candidate-within, under-within, from-within, few-exact}
use Rattle.readings.proofs.Sizes.{some-length, tries-paid, tries-stored, tries-shallow}
use Rattle.readings.proofs.Calls.{bad-table, bad-line, bad-sheet, bad-budget, bad-base, stopped, walked_through, fits, short}
use Rattle.readings.proofs.Numbers.{Case, table, bytes, extents, visits, origin, walk, none_found, too_long, found, exactly}

-- ---- how many words

mutual
  tree-length : (t : Tree) → length (tree_words t) ≡ 3 * tree_records t
  tree-length (node r k a) = omega (arith, arg-length a)

  arg-length : (a : Args) → length (arg_words a) ≡ 3 * arg_records a
  arg-length end = refl
  arg-length (expr x y a) = omega (arith, arg-length a)
  arg-length (nest x y t a) = omega (arith, length-append (tree_words t) (arg_words a), tree-length t, arg-length a)

-- trees of at most q records each
all-length : (q : ℕ) (ts : List Tree) → ((t : Tree) → Memᴰ t ts → tree_records t ≤ q) → length (all_words ts) ≤ 3 * (q * length ts)
unfolding all_words
all-length q [] h = omega arith
all-length q (t ∷ ts) h =
    omega
    (arith, length-append (tree_words t) (all_words ts), tree-length t, h t (Memᴰ.head refl), mul-suc q (length ts), all-length q ts (λ u m. h u (Memᴰ.tail m)))

-- two numbers with one sum have the greatest product where they are closest
closest : (d a b : ℕ) → a + b ≡ 4097 → a + d ≡ 2048 → a * b ≤ 4196352
closest zero a b e f =
    let p : a ≡ 2048 = omega arith in
    let q : b ≡ 2049 = omega arith in
    rw (p, q) (omega arith)
closest (suc d) a zero e f = absurd (omega arith)
closest (suc d) a (suc b) e f = omega (arith, mul-suc a b, suc-mul a b, closest d (suc a) b (omega arith) (omega arith))

at-closest : (a b : ℕ) → a + b ≡ 4097 → a * b ≤ 4196352
at-closest a b e =
    elim (dec_le a 2048) [
      | yes h ↦ closest (2048 - a) a b e (omega arith)
      | no h ↦ omega (arith, mul_comm a b, closest (2048 - b) b a (omega arith) (omega (arith, h)))
    ]

kept-fewer : {A : Type 0} (f : A → Bool) (xs : List A) → length (keep_if f xs) ≤ length xs
unfolding keep_if
kept-fewer f [] = omega arith
kept-fewer {A} f (x ∷ xs) = go (f x) (kept-fewer f xs)
  where
    go : (b : Bool) → length (keep_if f xs) ≤ length xs → length (select b (x ∷ keep_if f xs) (keep_if f xs)) ≤ suc (length xs)
    go true h = omega arith
    go false h = omega arith

-- ---- every word

fit_none : Fit []
fit_none w m = absurd (Memᴰ.not-nil m)

fit-more : {x : ℕ} {ws : List ℕ} → x < 4294967296 → Fit ws → Fit (x ∷ ws)
fit-more {x} {ws} h k w m = elim (Memᴰ.cases_cons m) [ inl e ↦ subst (λ (n : ℕ). n < 4294967296) (sym e) h | inr n ↦ k w n ]

fit-join : (vs : List ℕ) {ws : List ℕ} → Fit vs → Fit ws → Fit (vs ++ ws)
fit-join vs h k w m = elim (Memᴰ.append_cases vs m) [ inl i ↦ h w i | inr j ↦ k w j ]

-- each argument is a record
count-records : (a : Args) → arg_count a ≤ arg_records a
count-records end = omega arith
count-records (expr x y a) = omega (arith, count-records a)
count-records (nest x y t a) = omega (arith, count-records a)

-- rulesets and rules that have numbers of 16 bits, and a line that is short, in the first 2^32 bytes of its file
pub record Small (s : Scene) : Type 0 where
  pub short : length s.line ≤ 120
  pub early : s.base ≤ 4294967175
  pub numbers : (r k : ℕ) → Memᴰ k (s.rules r) → (r < 65536) × (k < 65536)

module _ (s : Scene) (law : Lawful s) (small : Small s) where
  -- at the greatest base, 4,294,967,175, place 120 is the greatest number of 32 bits
  span_fits : (l c d f g : ℕ) → d ≤ length s.line → Span s l c d f g → (f < 4294967296) × (g < 4294967296)
  span_fits l c d f g h q = (omega (arith, q.starts, small.short, small.early), omega (arith, q.stops, small.short, small.early))

  args_fit : {l c e : ℕ} {ps : List Part} {a : Args} → c ≤ l → l ≤ length s.line → From s l ps c a e → arg_records a ≤ room → Fit (arg_words a)
  args_fit h k finish few = fit_none
  args_fit {l} {c} h k (exact {d = d} {x = x} p u) few = args_fit (exact-within s law l c x d h k p).1 k u few
  args_fit h k (whitespace p u) few = args_fit h k u few
  args_fit {l} {c} h k (expression {d = d} {f = f} {g = g} {ps = ps} p q u) few =
      let (i, j) = candidate-within s law l c ps h p in
      let (x, y) = span_fits l c d f g (omega arith) q in
      fit-more (omega arith) (fit-more x (fit-more y (args_fit j k u (omega arith))))
  args_fit {l} {c} h k (nested {m = m} {d = d} {f = f} {g = g} {r = r} {k = z} {ps = ps} {a = a} {b = b} p n v q u) few =
      let (i, j) = under-within s law l c ps h p in
      let (_, o) = from-within s law i (omega arith) v in
      let (x, y) = span_fits l c d f g (omega arith) q in
      let (i', w) = small.numbers r z n in
      fit-more (omega arith)
      (fit-more x
      (fit-more y
      (fit-join (tree_words (node r z b))
      (fit-more (omega (arith, i')) (fit-more (omega (arith, w)) (fit-more (omega (arith, count-records b)) (args_fit i (omega arith) v (omega arith)))))
      (args_fit (omega arith) k u (omega arith)))))

  tree-fits : {t : Tree} → Reading s t → tree_records t ≤ room → Fit (tree_words t)
  tree-fits (reading {r} {k} {a} i j w) few =
      let (g, h) = small.numbers r k j in
      fit-more (omega (arith, g)) (fit-more (omega (arith, h)) (fit-more (omega (arith, count-records a)) (args_fit (omega arith) (omega arith) w (omega arith))))

  all_fit : (ts : List Tree) → ((t : Tree) → Memᴰ t ts → Reading s t × (tree_records t ≤ room)) → Fit (all_words ts)
  unfolding all_words
  all_fit [] h = fit_none
  all_fit (t ∷ ts) h = let (r, few) = h t (Memᴰ.head refl) in fit-join (tree_words t) (tree-fits r few) (all_fit ts (λ u m. h u (Memᴰ.tail m)))

  greatest-few : (ts : List Tree) → ((t : Tree) → Memᴰ t ts → Reading s t) → greatest_count s ts ≤ solids s.line
  unfolding greatest_count greatest
  greatest-few [] h = omega arith
  greatest-few (t ∷ ts) h = let (u, m, e) = reached s t ts in omega (arith, few-exact s law (h u m))

  solids-short : solids s.line ≤ 120
  unfolding solids_before
  solids-short = omega (arith, count_most (length s.line) (λ i. not (is_whitespace (byte_at s.line i))), small.short)

  -- ---- of a call that its walk does not refuse

  module _ (xs : List (ℕ × ℕ)) (enough : Enough s xs) (budget : ℕ) {left used : ℕ} {ms : List Match} (e : run (tries s xs) budget 0 ≡ done left used ms) where
    taken : records (tries s xs) ≤ room
    taken = omega (arith, run_room (tries s xs) budget 0 e (omega arith))

    read : (t : Tree) → Memᴰ t (map tree ms) → Reading s t × (tree_records t ≤ room)
    read t m =
        let g = (run-done (tries s xs) budget 0 e).0 in
        let (i, n, q) = Memᴰ.of_map tree ms m in
        ((tries-readings s law xs enough g).only m, subst (λ (u : Tree). tree_records u ≤ room) q (omega (arith, taken, tries-stored s xs g n, some-length n)))

    kept_read : (t : Tree) → Memᴰ t (best s (map tree ms)) → Reading s t × (tree_records t ≤ room)
    unfolding best
    kept_read t m = read t (kept-mem (λ t. eqb (exact_count s t) (greatest_count s (map tree ms))) (map tree ms) m).0

    -- no more matches than records
    kept-count : length (best s (map tree ms)) ≤ room
    unfolding best
    kept-count =
        omega (arith, taken, kept-fewer (λ t. eqb (exact_count s t) (greatest_count s (map tree ms))) (map tree ms), length-map ms tree, tries-paid s xs (run-done (tries s xs) budget 0 e).0)

    -- a call's trees have at most as many records as the call took, one for each other match beside them
    pub trees-stored : (t : Tree) → Memᴰ t (map tree ms) → tree_records t + length ms ≤ used + 1
    trees-stored t m =
        let (g, _, u) = run-done (tries s xs) budget 0 e in
        let (i, n, q) = Memᴰ.of_map tree ms m in
        subst (λ (x : Tree). tree_records x + length ms ≤ used + 1) q (omega (arith, u, tries-stored s xs g n))

    -- each tree's count and words are few
    pub tree-few : (t : Tree) → Memᴰ t (map tree ms) → (exact_count s t ≤ 120) × (length (tree_words t) ≤ 12288)
    tree-few t m = let (r, few) = read t m in (omega (arith, few-exact s law r, solids-short), omega (arith, tree-length t, few))

    -- the words of each tree fit 32 bits
    pub tree-fit : (t : Tree) → Memᴰ t (map tree ms) → Fit (tree_words t)
    tree-fit t m = let (r, few) = read t m in tree-fits r few

    -- and so does every answer word
    pub words-fit : Fit (answer_words s (map tree ms))
    unfolding words_of
    words-fit =
        fit-more (omega (arith, kept-count))
        (fit-more (omega (arith, greatest-few (map tree ms) (λ t m. (read t m).0), solids-short)) (all_fit (best s (map tree ms)) kept_read))

    -- and the words needed fit 32, those of 255 calls together too
    pub words-few : length (answer_words s (map tree ms)) ≤ 12589058
    unfolding words_of best
    words-few =
        let (_, _, u) = run-done (tries s xs) budget 0 e in
        let many = kept-fewer (λ t. eqb (exact_count s t) (greatest_count s (map tree ms))) (map tree ms) in
        let most : length ms ≤ 4096 = omega (arith, taken, tries-paid s xs (run-done (tries s xs) budget 0 e).0) in
        let each-tree = all-length (4097 - length ms) (best s (map tree ms))
        (λ t m. omega (arith, taken, u, trees-stored t (kept-mem (λ t. eqb (exact_count s t) (greatest_count s (map tree ms))) (map tree ms) m).0)) in
        let product = mul-le-mul_left {m = length (best s (map tree ms))} {n = length ms} (4097 - length ms) (omega (arith, many, length-map ms tree)) in
        omega (arith, each-tree, product, at-closest (4097 - length ms) (length ms) (omega (arith, most)))

-- ---- of an accepted call

module _ (t line sheet : List ℕ) (budget base : ℕ) (ok : Accepted t line sheet budget base) where
  sizes : Sizes (rulesets_in t) (records_in t) (parts_in t)
  unfolding table_fits sizes_fit
  sizes = sizes-bound (rulesets_in t) (records_in t) (parts_in t) (and_left (sizes_fit t) _ ok.table)

  rulesets-fit : rulesets_fit t ≡ true
  unfolding table_fits
  rulesets-fit =
      and_left (rulesets_fit t) _
      (and_right (flags_fit t) _ (and_right (length_fits t) _ (and_right (sizes_fit t) _ ok.table)))

  first_of : (xs : List ℕ) (k : ℕ) → k < length xs → (i : ℕ) × Memᴰ i xs
  first_of [] k h = absurd (omega arith)
  first_of (i ∷ xs) k h = (i, Memᴰ.head refl)

  rules-few : (r k : ℕ) → Memᴰ k (range 0 (length (ruleset_of t r).rules)) → (r < 65536) × (k < 65536)
  unfolding ruleset_of records_of
  rules-few r k m =
      let many = length-map (records_of t r) (rule_parts t) in
      let below = range-below 0 (length (ruleset_of t r).rules) m in
      let (i, n) = first_of (records_of t r) k (omega (arith, many, below)) in
      let (j, e) = kept-mem (λ i. eqb (ruleset_at t i) r) (range 0 (records_in t)) n in
      let is = eqb-true (ruleset_at t i) r e in (
        omega (arith, is, ruleset-below t rulesets-fit i (omega (arith, range-below 0 (records_in t) j)), sizes.sets),
        omega (arith, many, below, kept-length (records_in t) (λ i. eqb (ruleset_at t i) r), count_most (records_in t) (λ i. eqb (ruleset_at t i) r), sizes.rules),
      )

  pub small : Small (based base (scene_of t line sheet))
  unfolding scene_of based base_fits
  small = record { short = ((good-is line).0 ok.bytes).short; early = leb-true base 4294967175 ok.origin; numbers = rules-few }

-- ---- depth never cuts a reading off in silence

pub deepest : (s : Scene) → Lawful s → (v : ℕ) {w u : ℕ} {ms : List Match} → run (scan s) v 0 ≡ done w u ms → {t : Tree} → Reading s t → tree_depth t ≤ depths
unfolding scan
deepest s law v {w} {u} {ms} e r =
    let g = (run-done (tries s (top_pairs s)) v 0 e).0 in
    let (i, n, q) = Memᴰ.of_map tree ms ((tries-readings s law (top_pairs s) (scan-enough s law) g).every r) in
    subst (λ (x : Tree). tree_depth x ≤ depths) q (tries-shallow s (top_pairs s) g n)

-- ---- the words that any call needs, accepted or not

module _ (order : Scene → List (ℕ × ℕ)) (enough : (s : Scene) → Lawful s → Enough s (order s)) (t line sheet : List ℕ) (budget base : ℕ) (b : List ℕ) where
  pub call-words : (call_with order t line sheet budget base b).words ≤ 12589058
  call-words = go ((exactly order t line sheet budget base b (call_with order t line sheet budget base b).number).0 refl)
    where
      s : Scene
      s = based base (scene_of t line sheet)

      few : Accepted t line sheet budget base → (left used : ℕ) (m : Match) (ms : List Match) → run (tries s (order s)) budget 0 ≡ done left used (m ∷ ms)
          → length (answer_words s (tree m ∷ map tree ms)) ≤ 12589058
      few a left used m ms e = words-few s (law a) (small t line sheet budget base a) (order s) (enough s (law a)) budget e
        where
          law : Accepted t line sheet budget base → Lawful s
          law a = lawful-based base (lawful t line sheet a.extents)

      none_needed : {r : Told} → call_with order t line sheet budget base b ≡ r → r.words ≡ 0 → (call_with order t line sheet budget base b).words ≤ 12589058
      none_needed e z = omega (arith, ap (λ (r : Told). r.words) e, z)

      go : {n : ℕ} → Case order t line sheet budget base b n → (call_with order t line sheet budget base b).words ≤ 12589058
      go (table e) = none_needed (bad-table order t line sheet budget base b e) refl
      go (bytes p e f) = none_needed (bad-line order t line sheet budget base b p e f) refl
      go (extents e f g) = none_needed (bad-sheet order t line sheet budget base b e f g) refl
      go (visits e f g h) = none_needed (bad-budget order t line sheet budget base b e f g h) refl
      go (origin e f g h i) = none_needed (bad-base order t line sheet budget base b e f g h i) refl
      go (walk {n = n} left a e) = none_needed (stopped order t line sheet budget base b a n left e) refl
      go (none_found left used a e) = none_needed (walked_through order t line sheet budget base b a left used [] e) refl
      go (too_long left used m ms a e h) =
          let q = ap (λ (r : Told). r.words) (walked_through order t line sheet budget base b a left used (m ∷ ms) e ∙ short s (budget - left) b (answer_words s (tree m ∷ map tree ms)) h) in
          omega (arith, q, few a left used m ms e)
      go (found left used m ms a e h) =
          let q = ap (λ (r : Told). r.words) (walked_through order t line sheet budget base b a left used (m ∷ ms) e ∙ fits s (budget - left) b (answer_words s (tree m ∷ map tree ms)) h) in
          omega (arith, q, few a left used m ms e)
