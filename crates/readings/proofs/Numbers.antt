-- Each number is given exactly in its case: a call's case gives its number, and its number has a case.
use mathlib.Core.Path.{◌≡◌, refl, sym, ◌∙◌, subst, ap}
use mathlib.Core.Logic.{◌⊎◌, inl, inr, ⊎_elim, ◌↔◌}
use mathlib.Core.Bool.{Bool, true, false}
use Rattle.std.specs.Prelude.{Option, None, Some}
use mathlib.Core.List.{List, [], ◌∷◌, map}
use Prim.Native.Nat.{ℕ, zero, suc, ◌-◌, ◌≤◌, ◌<◌}
use native.Mathlib.Decide.{dec_le}
use native.Mathlib.Omega.{arith}
use lib.Dec.{ltb}
use lib.ListN.{length}
use Rattle.plain.specs.Told.{Told}
use Rattle.plain.proofs.Tests.{tested}
use Rattle.line.specs.Line.{fault_at}
use Rattle.defs.specs.Table.{table_fits}
use Rattle.extents.specs.Sheet.{sheet_fits}
use Rattle.readings.specs.Scene.{Scene, scene_of, based}
use Rattle.readings.specs.Plan.{Plan, give, visit, keep, deep, Outcome, done, stop, run, room, pooled}
use Rattle.readings.specs.Walk.{Match, tries}
use Rattle.readings.specs.Answer.{answer_words}
use Rattle.readings.specs.Call.{Accepted, tree, budget_fits, base_fits, call_with}
use Rattle.readings.proofs.Calls.{bad-table, bad-line, bad-sheet, bad-budget, bad-base, stopped, walked_through, fits, short}

-- a run that is refused is refused with 6, 7 or 8
pub stop-numbers : {A : Type 0} (p : Plan A) (v u : ℕ) {n w : ℕ} → run p v u ≡ stop n w → (n ≡ 6) ⊎ ((n ≡ 7) ⊎ (n ≡ 8))
unfolding run
stop-numbers (give a) v u h = let z : ◌≡◌ {A = ℕ} 0 1 = cc in absurd (omega arith)
stop-numbers (visit p) zero u {n} h = let e : n ≡ 6 = cc in inl e
stop-numbers (visit p) (suc v) u h = stop-numbers p v u h
stop-numbers {A} (keep p) v u {n} {w} h = go (ltb u room) h (λ k. stop-numbers p v (suc u) k)
  where
    go : (b : Bool) → pooled b v (run p v (suc u)) ≡ stop n w → (run p v (suc u) ≡ stop n w → (n ≡ 6) ⊎ ((n ≡ 7) ⊎ (n ≡ 8))) → (n ≡ 6) ⊎ ((n ≡ 7) ⊎ (n ≡ 8))
    go true e k = k e
    go false e k = let q : n ≡ 8 = cc in inr (inr q)
stop-numbers deep v u {n} h = let e : n ≡ 7 = cc in inr (inl e)

module _ (order : Scene → List (ℕ × ℕ)) (t line sheet : List ℕ) (budget base : ℕ) (b : List ℕ) where
  abbrev s : Scene
  s = based base (scene_of t line sheet)

  abbrev outcome : Outcome (List Match)
  outcome = run (tries s (order s)) budget 0

  abbrev words : Match → List Match → List ℕ
  words m ms = answer_words s (tree m ∷ map tree ms)

  -- the cases, by number
  pub data Case : ℕ → Type 0 where
    table : table_fits t ≡ false → Case 2
    bytes : (p : ℕ) → table_fits t ≡ true → fault_at line ≡ Some p → Case 3
    extents : table_fits t ≡ true → fault_at line ≡ None → sheet_fits sheet (length line) ≡ false → Case 4
    visits : table_fits t ≡ true → fault_at line ≡ None → sheet_fits sheet (length line) ≡ true → budget_fits budget ≡ false → Case 5
    origin : table_fits t ≡ true → fault_at line ≡ None → sheet_fits sheet (length line) ≡ true → budget_fits budget ≡ true → base_fits base ≡ false → Case 19
    -- 6, 7 or 8, whichever the walk meets first
    walk : {n : ℕ} (left : ℕ) → Accepted t line sheet budget base → outcome ≡ stop n left → Case n
    none_found : (left used : ℕ) → Accepted t line sheet budget base → outcome ≡ done left used [] → Case 1
    too_long : (left used : ℕ) (m : Match) (ms : List Match) → Accepted t line sheet budget base → outcome ≡ done left used (m ∷ ms) → length b < length (words m ms) → Case 9
    found : (left used : ℕ) (m : Match) (ms : List Match) → Accepted t line sheet budget base → outcome ≡ done left used (m ∷ ms) → length (words m ms) ≤ length b → Case 0

  abbrev number : ℕ
  number = (call_with order t line sheet budget base b).number

  pub numbered : {n : ℕ} → Case n → number ≡ n
  numbered (table e) = ap (λ (r : Told). r.number) (bad-table order t line sheet budget base b e)
  numbered (bytes p e f) = ap (λ (r : Told). r.number) (bad-line order t line sheet budget base b p e f)
  numbered (extents e f g) = ap (λ (r : Told). r.number) (bad-sheet order t line sheet budget base b e f g)
  numbered (visits e f g h) = ap (λ (r : Told). r.number) (bad-budget order t line sheet budget base b e f g h)
  numbered (origin e f g h i) = ap (λ (r : Told). r.number) (bad-base order t line sheet budget base b e f g h i)
  numbered (walk {n = n} left a e) = ap (λ (r : Told). r.number) (stopped order t line sheet budget base b a n left e)
  numbered (none_found left used a e) = ap (λ (r : Told). r.number) (walked_through order t line sheet budget base b a left used [] e)
  numbered (too_long left used m ms a e h) =
      ap (λ (r : Told). r.number) (walked_through order t line sheet budget base b a left used (m ∷ ms) e ∙ short s (budget - left) b (words m ms) h)
  numbered (found left used m ms a e h) =
      ap (λ (r : Told). r.number) (walked_through order t line sheet budget base b a left used (m ∷ ms) e ∙ fits s (budget - left) b (words m ms) h)

  walk-case : Accepted t line sheet budget base → (o : Outcome (List Match)) → outcome ≡ o → (n : ℕ) × Case n
  walk-case a (stop n left) e = (n, walk left a e)
  walk-case a (done left used []) e = (1, none_found left used a e)
  walk-case a (done left used (m ∷ ms)) e = by (dec_le (length (words m ms)) (length b))
    where
      by : Dec (length (words m ms) ≤ length b) → (n : ℕ) × Case n
      by (yes h) = (0, found left used m ms a e h)
      by (no h) = (9, too_long left used m ms a e (omega (arith, h)))

  some-case : (n : ℕ) × Case n
  some-case =
      ⊎_elim
      (λ e. by-line e (fault_at line) refl)
      (λ e. (2, table e))
      (tested (table_fits t))
    where
      by-base : table_fits t ≡ true → fault_at line ≡ None → sheet_fits sheet (length line) ≡ true → budget_fits budget ≡ true → (n : ℕ) × Case n
      by-base e f g h =
          ⊎_elim
          (λ i. walk-case (record { table = e; bytes = f; extents = g; visits = h; origin = i }) outcome refl)
          (λ i. (19, origin e f g h i))
          (tested (base_fits base))

      by-budget : table_fits t ≡ true → fault_at line ≡ None → sheet_fits sheet (length line) ≡ true → (n : ℕ) × Case n
      by-budget e f g = ⊎_elim (λ h. by-base e f g h) (λ h. (5, visits e f g h)) (tested (budget_fits budget))

      by-line : table_fits t ≡ true → (o : Option ℕ) → fault_at line ≡ o → (n : ℕ) × Case n
      by-line e (Some p) f = (3, bytes p e f)
      by-line e None f = ⊎_elim (λ g. by-budget e f g) (λ g. (4, extents e f g)) (tested (sheet_fits sheet (length line)))

  pub exactly : (n : ℕ) → (number ≡ n) ↔ Case n
  exactly n = ((λ e. let (m, k) = some-case in subst Case (sym (numbered k) ∙ e) k), numbered)
