-- The whole call, told: refused by a check, stopped by the walk, or the matches that the walk left, measured and written.
-- The matches of depth 0 in the log are those that the plan lists, so the call's definition applies to them.
use mathlib.Core.Path.{◌≡◌, refl, sym, ap, subst, ◌∙◌}
use mathlib.Core.Bool.{true}
use mathlib.Core.List.Memᴰ
use mathlib.Core.List.{List, [], ◌∷◌, ◌++◌, map, Memᴰ}
use Rattle.std.specs.Prelude.{Result, Ok, Err}
use Prim.Native.Nat.{ℕ, ◌-◌, ◌≤◌, ◌<◌}
use native.Mathlib.Omega.{arith}
use lib.Dec.{eqb}
use lib.ListN.{length, drop}
use borrow.Author.Tests.{eq-eqb}
use Rattle.plain.specs.Lists.{keep_if}
use Rattle.plain.specs.Told.{Told}
use Rattle.plain.proofs.Members.{kept-has}
use Rattle.ruledef_map.specs.RuledefMap.{line_prefix}
use Rattle.defs.specs.Table.{table_fits}
use Rattle.readings.specs.Tree.{Tree, moved}
use Rattle.line.specs.Line.{GoodLine}
use Rattle.line.proofs.Lines.{good-is}
use Rattle.readings.specs.Scene.{Scene, Lawful, scene_of, based}
use Rattle.readings.specs.Plan.{Outcome, done, stop, run}
use Rattle.readings.specs.Walk.{Match, top_pairs, tries}
use Rattle.readings.specs.Records.{pair_of}
use Rattle.readings.specs.Answer.{exact_count, greatest_count, best, tree_words, answer_words}
use Rattle.readings.specs.Call.{Accepted, tree, stopped_after, matched, written, base_fits}
use Rattle.readings.proofs.Packed.{lawful, lawful-based, count-free}
use Rattle.readings.proofs.Runs.{run-done, stop-left, mapped_end}
use Rattle.readings.proofs.Moved.{moved_match, run-based, trees-moved, many-moved, words-by}
use Rattle.readings.proofs.Scan.{Enough, scan-enough}
use Rattle.readings.proofs.Lookups.{lookup-enough}
use Rattle.readings.proofs.Best.{reached}
use Rattle.readings.proofs.Bounds.{Small, small, tree-few, tree-fit, words-few}
use Rattle.readings.proofs.Calls as Calls
use Rattle.readings.proofs.Records.{top-pairs, found-pairs}
use Rattle.pool.specs.declared.Pool.{Pool}
use Rattle.pool.specs.Meaning.{gathered, meaning, meanings}
use Rattle.pool.proofs.Meanings.{meanings-more}
use Rattle.answer.specs.Measured.{trees_in, measured, FitFrom}
use Rattle.answer.specs.declared.Measure.{Measure}
use Rattle.places.specs.declared.RulePlace.{RulePlace}
use Rattle.trials.specs.declared.Refused.{Refused}
use Rattle.trials.specs.declared.Refused.TheVariants.{NoMatch, TooLong}
use Rattle.walk.specs.declared.Stopped.{Stopped}
use Rattle.walk.specs.declared.Walked.{Walked}
use Rattle.walk.specs.declared.Refusal.{Refusal}
use Rattle.walk.specs.Met.{number_of}
use Rattle.trials.proofs.Choices.{chosen_at}
use Rattle.trials.specs.Told.{says, listed_call, tried_pairs, Chosen, all_tops, by_prefix, Listed, Tried, listed, stopped, TryAsked, TellAsked, ReadAsked, stopped_by}

-- ---- the scene's line, sheet and base do not matter to the answer's words

words-free : (t line sheet : List ℕ) (base : ℕ) (us : List Tree) → answer_words (based base (scene_of t line sheet)) us ≡ answer_words (scene_of t [] []) us
unfolding scene_of based
words-free t line sheet base us = words-by (based base (scene_of t line sheet)) (scene_of t [] []) refl us

matched-free : (t line sheet : List ℕ) (base v : ℕ) (us : List Tree) (b : List ℕ) → matched (based base (scene_of t line sheet)) v us b ≡ matched (scene_of t [] []) v us b
matched-free t line sheet base v [] b = refl
matched-free t line sheet base v (u ∷ us) b = ap (λ (ws : List ℕ). written v ws b) (words-free t line sheet base (u ∷ us))

-- ---- the matches told

best-some : (s : Scene) (t : Tree) (ts : List Tree) → length (best s (t ∷ ts)) ≡ 0 → ⊥
unfolding best
best-some s t ts e =
    let (u, m, q) = reached s t ts in
    none (best s (t ∷ ts)) e (kept-has (λ u. eqb (exact_count s u) (greatest_count s (t ∷ ts))) (t ∷ ts) (eq-eqb (exact_count s u) (greatest_count s (t ∷ ts)) q) m)
  where
    none : (us : List Tree) → length us ≡ 0 → {u : Tree} → Memᴰ u us → ⊥
    none [] e m = Memᴰ.not-nil m
    none (u ∷ us) e m = omega arith

module _ (t : List ℕ) (base : ℕ) (ts : List Tree) (v : ℕ) (b : List ℕ) (found : Measure) (is : found ≡ measured t ts) where
  abbrev s : Scene
  s = scene_of t [] []

  -- as the answer has them
  abbrev placed : List Tree
  placed = map (moved base) ts

  count_of : found.matches ≡ length (best s ts)
  unfolding measured
  count_of = ap (λ (m : Measure). m.matches) is

  pub words_of : found.words ≡ length (answer_words s ts)
  unfolding measured
  words_of = ap (λ (m : Measure). m.words) is

  words_placed : found.words ≡ length (answer_words s placed)
  words_placed = words_of ∙ sym (many-moved s base ts)

  pub tell_none : found.matches ≡ 0 → says (Err (NoMatch v)) b ≡ matched s v placed b
  tell_none e = go ts (sym count_of ∙ e)
    where
      go : (ts : List Tree) → length (best s ts) ≡ 0 → says (Err (NoMatch v)) b ≡ matched s v (map (moved base) ts) b
      go [] e = refl
      go (u ∷ us) e = absurd (best-some s u us e)

  some-match : (found.matches ≡ 0 → ⊥) → matched s v placed b ≡ written v (answer_words s placed) b
  unfolding best keep_if
  some-match ne = go ts (λ e. ne (count_of ∙ e))
    where
      go : (ts : List Tree) → (length (best s ts) ≡ 0 → ⊥) → matched s v (map (moved base) ts) b ≡ written v (answer_words s (map (moved base) ts)) b
      go [] ne = absurd (ne refl)
      go (u ∷ us) ne = refl

  module _ (ne : found.matches ≡ 0 → ⊥) where
    pub tell-long : length b < found.words → says (Err (TooLong v found.words)) b ≡ matched s v placed b
    tell-long h = ap (λ (n : ℕ). says (Err (TooLong v n)) b) words_placed ∙ sym (some-match ne ∙ Calls.short s v b (answer_words s placed) (omega (arith, words_placed)))

    pub tell-matched : (b' : List ℕ) → found.words ≤ length b → b' ≡ answer_words s placed ++ drop (length (answer_words s placed)) b → says (Ok (record { visits = v; words = found.words })) b' ≡ matched s v placed b
    tell-matched b' h e =
        ap (λ (n : ℕ). says (Ok (record { visits = v; words = n })) b') words_placed ∙ ap (says (Ok (record { visits = v; words = length (answer_words s placed) }))) e
        ∙ sym (some-match ne ∙ Calls.fits s v b (answer_words s placed) (omega (arith, words_placed)))

-- ---- the whole call

module _ (t line sheet rules : List ℕ) (base : ℕ) (ok : table_fits t ≡ true) (law : Lawful (based base (scene_of t line sheet))) where
  abbrev here : Scene
  here = based base (scene_of t line sheet)

  chosen-enough : Chosen t line rules → Enough here (map (pair_of t) rules)
  unfolding top_pairs scene_of based
  chosen-enough (all_tops e) = subst (Enough here) (top-pairs t line sheet ok ∙ ap (map (pair_of t)) (sym e)) (scan-enough here law)
  chosen-enough (by_prefix e) = subst (Enough here) (found-pairs t line sheet ok (line_prefix line) ∙ ap (map (pair_of t)) (sym e)) (lookup-enough here law)

pub listed_by : {t : List ℕ} {o : Outcome (List Match)} {store : List ℕ} {r : Result Walked Stopped} {w : Walked} → Tried t o store r → r ≡ Ok w → Listed t o store w.left w.pool
listed_by {t} {o} {store} m e = go (subst (Tried t o store) e m)
  where
    go : {w : Walked} → Tried t o store (Ok w) → Listed t o store w.left w.pool
    go (listed x) = x

pub stopped-by : {t : List ℕ} {o : Outcome (List Match)} {store : List ℕ} {r : Result Walked Stopped} {s : Stopped} → Tried t o store r → r ≡ Err s → o ≡ stop (number_of s.why) s.left
stopped-by {t} {o} {store} m e = go (subst (Tried t o store) e m)
  where
    go : {s : Stopped} → Tried t o store (Err s) → o ≡ stop (number_of s.why) s.left
    go (stopped x) = x

module _ {t line sheet starts store₀ rules : List ℕ} {places : List RulePlace} {budget base : ℕ} (asked : ReadAsked t line sheet starts places store₀ rules budget base) where
  ok : Accepted t line sheet budget base
  ok = record { table = asked.table; bytes = asked.lined.bytes; extents = asked.lined.extents; visits = asked.lined.visits; origin = asked.lined.origin }

  -- the walk counts places from the line's start
  abbrev scene : Scene
  scene = scene_of t line sheet

  abbrev placed_scene : Scene
  placed_scene = based base scene

  ok-alone : Accepted t line sheet budget 0
  unfolding base_fits
  ok-alone = record { table = ok.table; bytes = ok.bytes; extents = ok.extents; visits = ok.visits; origin = refl }

  abbrev pairs : List (ℕ × ℕ)
  pairs = tried_pairs t rules

  abbrev walked : Outcome (List Match)
  walked = run (tries scene pairs) budget 0

  law : Lawful scene
  law = lawful t line sheet ok.extents

  law-placed : Lawful placed_scene
  law-placed = lawful-based base law

  -- alone is at base 0
  enough : Enough scene pairs
  unfolding scene_of based
  enough = chosen-enough t line sheet rules 0 asked.table (lawful-based 0 law) asked.chosen

  small-alone : Small scene
  unfolding scene_of based
  small-alone = small t line sheet budget 0 ok-alone

  words-alone : (us : List Tree) → answer_words scene us ≡ answer_words (scene_of t [] []) us
  unfolding scene_of based
  words-alone us = words-free t line sheet 0 us

  pub line-good : GoodLine line
  line-good = (good-is line).0 asked.lined.bytes

  pub try-asked : TryAsked t line sheet starts places store₀ rules budget
  try-asked = record {
    accepted = ok-alone;
    begins = asked.begins;
    placed = asked.placed;
    sized = asked.sized;
    below = chosen_at t line asked.table rules asked.chosen;
  }

  says-stopped : (why : Refusal) (v : ℕ) (b : List ℕ) → says (Err (stopped_by why v)) b ≡ stopped_after (number_of why) v b
  says-stopped Refusal.Spent v b = refl
  says-stopped Refusal.Deep v b = refl
  says-stopped Refusal.Full v b = refl

  module _ (why : Refusal) {left : ℕ} (e : walked ≡ stop (number_of why) left) where
    pub call-within : left ≤ budget
    call-within = stop-left (tries scene pairs) budget 0 e

    pub call-stopped : (a : Refused) (v : ℕ) (b : List ℕ) → v ≡ budget - left → a ≡ stopped_by why v → says (Err a) b ≡ listed_call pairs t line sheet budget base b
    call-stopped a v b n q =
        ap (λ (x : Refused). says (Err x) b) q ∙ says-stopped why v b ∙ ap (λ (k : ℕ). stopped_after (number_of why) k b) n
        ∙ sym (Calls.stopped (λ s. pairs) t line sheet budget base b ok (number_of why) left (run-based t line sheet base pairs budget 0 ∙ ap (mapped_end (moved_match base)) e))

  module _ {store : List ℕ} {left : ℕ} {pool : Pool} (l : Listed t walked store left pool) where
    pub call-left : left ≤ budget
    call-left = let (_, i, _) = run-done (tries scene pairs) budget 0 l.done_with in omega arith

    trees-are : trees_in store pool.used ≡ map tree l.matches
    unfolding meaning
    trees-are = ap (λ (ms : List Match). map tree ms) (ap (λ log. gathered 0 (meanings log)) l.made.grown ∙ ap (gathered 0) (meanings-more [] l.made.new) ∙ l.made.found)

    -- the same matches under the base
    done-placed : run (tries placed_scene pairs) budget 0 ≡ done left pool.used (map (moved_match base) l.matches)
    done-placed = run-based t line sheet base pairs budget 0 ∙ ap (mapped_end (moved_match base)) l.done_with

    trees-placed : map (moved base) (trees_in store pool.used) ≡ map tree (map (moved_match base) l.matches)
    trees-placed = ap (map (moved base)) trees-are ∙ sym (trees-moved base l.matches)

    fit : FitFrom base store pool.used
    fit = record {
      each = λ u m.
          tree-fit placed_scene law-placed (small t line sheet budget base ok) pairs
          (chosen-enough t line sheet rules base asked.table law-placed asked.chosen) budget done-placed (moved base u)
          (subst (Memᴰ (moved base u)) trees-placed (Memᴰ.map (moved base) m));
    }

    pub call-asked : length store ≡ 4096 → TellAsked t store pool.used base
    call-asked sized = record {
      stored = record { sized = sized; room = l.room; earlier = l.made.earlier };
      counted = l.counted;
      bounded = record {
        counts = λ u m. omega (arith, (few u (subst (Memᴰ u) trees-are m)).0, count-free t line sheet u);
        words = λ u m. (few u (subst (Memᴰ u) trees-are m)).1;
      };
      fit = fit;
      words = subst (λ (ts : List Tree). length (answer_words (scene_of t [] []) ts) ≤ 12589058) (sym trees-are)
          (subst (λ (ws : List ℕ). length ws ≤ 12589058) (words-alone (map tree l.matches))
          (words-few scene law small-alone pairs enough budget l.done_with));
    }
      where
        few : (u : Tree) → Memᴰ u (map tree l.matches) → (exact_count scene u ≤ 120) × (length (tree_words u) ≤ 12288)
        few u m = tree-few scene law small-alone pairs enough budget l.done_with u m

    pub call-told : (v : ℕ) (b : List ℕ) (r : Told) → v ≡ budget - left → r ≡ matched (scene_of t [] []) v (map (moved base) (trees_in store pool.used)) b
        → r ≡ listed_call pairs t line sheet budget base b
    call-told v b r n q =
        q ∙ ap (λ (ts : List Tree). matched (scene_of t [] []) v ts b) trees-placed
        ∙ sym (matched-free t line sheet base v (map tree (map (moved_match base) l.matches)) b)
        ∙ ap (λ (k : ℕ). matched placed_scene k (map tree (map (moved_match base) l.matches)) b) n
        ∙ sym (Calls.walked_through (λ s. pairs) t line sheet budget base b ok left pool.used (map (moved_match base) l.matches) done-placed)
