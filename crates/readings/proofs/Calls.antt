-- The whole call, case by case: each number exactly in its case, and demand 3 for scan and lookup.
use mathlib.Core.Path.{◌≡◌, refl, ◌∙◌, ap}
use mathlib.Core.Bool.{true, false}
use Rattle.std.specs.Prelude.{None, Some}
use mathlib.Core.List.Memᴰ
use mathlib.Core.List.{List, [], ◌∷◌, map}
use Prim.Native.Nat.{ℕ, ◌-◌, ◌≤◌, ◌<◌}
use native.Mathlib.Decide.{dec_le}
use native.Mathlib.Omega.{arith}
use lib.ListN.{length}
use borrow.Author.Tests.{le-leb, lt-leb}
use Rattle.plain.specs.Buffers.{at_start}
use Rattle.plain.specs.Told.{Told, refused_at}
use Rattle.line.specs.Line.{fault_at}
use Rattle.defs.specs.Table.{table_fits}
use Rattle.extents.specs.Sheet.{sheet_fits}
use Rattle.readings.specs.Tree.{Tree}
use Rattle.readings.specs.Scene.{Scene, scene_of, based}
use Rattle.readings.specs.Reading.{Readings}
use Rattle.readings.specs.Plan.{Outcome, done, stop, run}
use Rattle.readings.specs.Walk.{Match, tries}
use Rattle.readings.specs.Answer.{greatest_count, best, answer_words}
use Rattle.readings.specs.Call.{Accepted, stopped_after, written, matched, tree, ended, budget_fits, base_fits, call_with}
use Rattle.readings.proofs.Runs.{run-spent}
use Rattle.readings.specs.Demand.{Demand3, no_match, listed}
use Rattle.readings.proofs.Best.{best-readings, best-counts, best-one}

module _ (order : Scene → List (ℕ × ℕ)) (t line sheet : List ℕ) (budget base : ℕ) (b : List ℕ) where
  abbrev answer : Told
  answer = call_with order t line sheet budget base b

  abbrev s : Scene
  s = based base (scene_of t line sheet)

  abbrev outcome : Outcome (List Match)
  outcome = run (tries s (order s)) budget 0

  -- the checks, in their order
  pub bad-table : table_fits t ≡ false → answer ≡ refused_at 2 0 b
  unfolding call_with
  bad-table e = rw (call_with, e)

  pub bad-line : (p : ℕ) → table_fits t ≡ true → fault_at line ≡ Some p → answer ≡ refused_at 3 p b
  unfolding call_with
  bad-line p e f = rw (call_with, e, f)

  pub bad-sheet : table_fits t ≡ true → fault_at line ≡ None → sheet_fits sheet (length line) ≡ false → answer ≡ refused_at 4 0 b
  unfolding call_with
  bad-sheet e f g = rw (call_with, e, f, g)

  pub bad-budget : table_fits t ≡ true → fault_at line ≡ None → sheet_fits sheet (length line) ≡ true → budget_fits budget ≡ false → answer ≡ refused_at 5 0 b
  unfolding call_with
  bad-budget e f g h = rw (call_with, e, f, g, h)

  pub bad-base : table_fits t ≡ true → fault_at line ≡ None → sheet_fits sheet (length line) ≡ true → budget_fits budget ≡ true → base_fits base ≡ false → answer ≡ refused_at 19 0 b
  unfolding call_with
  bad-base e f g h i = rw (call_with, e, f, g, h, i)

  pub accepted : Accepted t line sheet budget base → answer ≡ ended s budget b outcome
  unfolding call_with
  accepted a = rw (call_with, a.table, a.bytes, a.extents, a.visits, a.origin)

  -- a walk that is refused, with its visits; on 6 they are the budget
  pub stopped : Accepted t line sheet budget base → (n left : ℕ) → outcome ≡ stop n left → answer ≡ stopped_after n (budget - left) b
  stopped a n left e = accepted a ∙ ap (ended s budget b) e

  pub spent : Accepted t line sheet budget base → (left : ℕ) → outcome ≡ stop 6 left → answer ≡ stopped_after 6 budget b
  spent a left e =
      let all : budget - left ≡ budget = omega (arith, run-spent (tries s (order s)) budget 0 e) in
      stopped a 6 left e ∙ ap (λ (v : ℕ). stopped_after 6 v b) all

  -- a walk that is not refused
  pub walked_through : Accepted t line sheet budget base → (left used : ℕ) (ms : List Match) → outcome ≡ done left used ms
      → answer ≡ matched s (budget - left) (map tree ms) b
  walked_through a left used ms e = accepted a ∙ ap (ended s budget b) e

-- ---- demand 3, from the readings that a walk has listed

module _ (s : Scene) (v : ℕ) (b : List ℕ) where
  pub fits : (ws : List ℕ) → length ws ≤ length b → written v ws b ≡ record { number = 0; visits = v; words = length ws; place = 0; buffer = at_start ws b }
  fits ws h = rw (le-leb (length ws) (length b) h)

  pub short : (ws : List ℕ) → length b < length ws → written v ws b ≡ record { number = 9; visits = v; words = length ws; place = 0; buffer = b }
  short ws h = rw (lt-leb (length ws) (length b) h)

  words_of : (ws : List ℕ) → (written v ws b).words ≡ length ws
  words_of ws = by (dec_le (length ws) (length b))
    where
      by : Dec (length ws ≤ length b) → (written v ws b).words ≡ length ws
      by (yes h) = ap (λ (r : Told). r.words) (fits ws h)
      by (no h) = ap (λ (r : Told). r.words) (short ws (omega (arith, h)))

  pub demand : (ts : List Tree) → Readings s ts → Demand3 s b (matched s v ts b)
  demand [] r = no_match (λ t k. Memᴰ.not-nil (r.every k)) (refl, refl, refl)
  demand (t ∷ ts) r =
      listed
      (record {
        trees = best s (t ∷ ts);
        count = greatest_count s (t ∷ ts);
        readings = best-readings s (t ∷ ts) r;
        counts = best-counts s (t ∷ ts);
        one = best-one s t ts;
      })
      (record {
        words = words_of ws;
        room = λ h. (ap (λ (x : Told). x.number) (fits ws h), ap (λ (x : Told). x.buffer) (fits ws h));
        no_room = λ h. (ap (λ (x : Told). x.number) (short ws h), ap (λ (x : Told). x.buffer) (short ws h));
      })
    where
      ws : List ℕ
      ws = answer_words s (t ∷ ts)

  pub visits-told : (ts : List Tree) → (matched s v ts b).visits ≡ v
  visits-told [] = refl
  visits-told (t ∷ ts) = by (dec_le (length (answer_words s (t ∷ ts))) (length b))
    where
      by : Dec (length (answer_words s (t ∷ ts)) ≤ length b) → (written v (answer_words s (t ∷ ts)) b).visits ≡ v
      by (yes h) = ap (λ (r : Told). r.visits) (fits (answer_words s (t ∷ ts)) h)
      by (no h) = ap (λ (r : Told). r.visits) (short (answer_words s (t ∷ ts)) (omega (arith, h)))
