-- A sheet filled, and a line read on it: the contracts of the calls, one after another. The call is never 4, and what it tells
-- are the readings of the line alone.
use mathlib.Core.Path.{◌≡◌, refl, sym, ap, ap₂, ◌∙◌, subst}
use mathlib.Core.Logic.{⊎_elim}
use mathlib.Core.Bool.{true}
use mathlib.Core.List.{List}
use Rattle.std.specs.Prelude.{None, Result, Ok}
use Prim.Native.Nat.{ℕ}
use native.Mathlib.Omega.{arith}
use lib.ListN.{length}
use Rattle.plain.specs.Told.{Told}
use Rattle.plain.proofs.Tests.{not-both}
use Rattle.line.specs.Line.{fault_at}
use Rattle.line.proofs.Lines.{good-is}
use Rattle.defs.specs.Table.{table_fits}
use Rattle.extents.specs.Sheet.{sheet_fits}
use Rattle.expressions.specs.Sheet.{sheet_of}
use Rattle.expressions.specs.Call.{filled_with}
use Rattle.expressions.proofs.Called.{filled-good, filled_is}
use Rattle.expressions.proofs.fill_sheet.Reads as fill-sheet
use Rattle.readings.specs.Scene.{Scene, scene_of, based}
use Rattle.readings.specs.Call.{Accepted, budget_fits, base_fits, call_with}
use Rattle.readings.specs.Demand.{Within, Demand3}
use Rattle.readings.specs.Walk.{top_pairs}
use Rattle.readings.specs.Lookup.{found_pairs}
use Rattle.ruledef_map.specs.RuledefMap.{line_prefix}
use Rattle.readings.proofs.Numbers.{Case, walk, extents, exactly, stop-numbers}
use Rattle.trials.specs.declared.Matched.{Matched}
use Rattle.trials.specs.declared.Refused.{Refused}
use Rattle.trials.specs.Told.{says}
use Rattle.matcher.proofs.match_instr.Reads as match-instr
use Rattle.matcher.proofs.match_with_ruledef_map.Reads as match-with-ruledef-map
use Rattle.line_readings.specs.LineReading.{line_scene}
use Rattle.line_readings.proofs.Scenes.{same-scene}

-- on a sheet that fits, no call is 4
module _ (order : Scene → List (ℕ × ℕ)) (t line sheet : List ℕ) (budget base : ℕ) (b : List ℕ) (fits : sheet_fits sheet (length line) ≡ true) where
  not-four : Case order t line sheet budget base b 4 → ⊥
  not-four (extents e f g) = not-both fits g
  not-four (walk left a e) = ⊎_elim (λ q. omega (arith, q)) (λ r. ⊎_elim (λ q. omega (arith, q)) (λ q. omega (arith, q)) r) (stop-numbers _ budget 0 e)

  pub never-four : (call_with order t line sheet budget base b).number ≡ 4 → ⊥
  never-four e = not-four ((exactly order t line sheet budget base b 4).0 e)

-- demand 3 over the readings of the line, from what is promised on its sheet
module _ (t line sheet : List ℕ) (good : fault_at line ≡ None) (is : sheet ≡ sheet_of line) (fits : sheet_fits sheet (length line) ≡ true) where
  pub reads-alone : (budget base : ℕ) (b : List ℕ) (told : Told) → (Accepted t line sheet budget base → Within t line sheet budget → Demand3 (based base (scene_of t line sheet)) b told)
      → table_fits t ≡ true → budget_fits budget ≡ true → base_fits base ≡ true → Within t line sheet budget → Demand3 (based base (line_scene t line)) b told
  reads-alone budget base b told promise table-good budget-good base-good within =
      subst (λ (s : Scene). Demand3 (based base s) b told) (ap (scene_of t line) is ∙ same-scene t line ((good-is line).0 good).short)
      (promise (record { table = table-good; bytes = good; extents = fits; visits = budget-good; origin = base-good }) within)

-- the calls: filling, then matching on the line and the sheet that it left
module _ (κs a : _) (n : ℕ) (x : _) (fill : fill-sheet.Post κs a (Ok n) x) where
  -- the line, and the sheet that is left
  abbrev line : List ℕ
  line = a.0.now

  abbrev sheet : List ℕ
  sheet = x.1.0.now

  good : fault_at line ≡ None
  good = filled-good line a.1.0.now (filled_with n sheet) fill.0 refl

  is : sheet ≡ sheet_of line
  is = filled_is line a.1.0.now (filled_with n sheet) fill.0 refl

  fits : sheet_fits sheet (length line) ≡ true
  fits = fill.1 refl

  -- a call on that line and that sheet
  module _ (there on : List ℕ) (same_line : there ≡ line) (same-sheet : on ≡ sheet) where
    there-good : fault_at there ≡ None
    there-good = ap fault_at same_line ∙ good

    there-is : on ≡ sheet_of there
    there-is = same-sheet ∙ is ∙ sym (ap sheet_of same_line)

    there-fits : sheet_fits on (length there) ≡ true
    there-fits = ap₂ (λ (s l : List ℕ). sheet_fits s (length l)) same-sheet same_line ∙ fits

  -- it is never 4
  pub scan-not-four : (μs c : _) (r : Result Matched Refused) (z : _) → match-instr.Post μs c r z → c.1.0.now ≡ line → c.1.1.0.now ≡ sheet → (says r z.1.1.1.1.1.0.now).number ≡ 4 → ⊥
  scan-not-four μs c r z p l s e =
      never-four top_pairs c.0.now c.1.0.now c.1.1.0.now c.1.1.1.0 c.1.1.1.1.0 c.1.1.1.1.1.0.now (there-fits c.1.0.now c.1.1.0.now l s)
      (sym (ap (λ (t : Told). t.number) p.0) ∙ e)

  pub lookup-not-four : (μs c : _) (r : Result Matched Refused) (z : _) → match-with-ruledef-map.Post μs c r z → c.1.0.now ≡ line → c.1.1.0.now ≡ sheet → (says r z.1.1.1.1.1.0.now).number ≡ 4 → ⊥
  lookup-not-four μs c r z p l s e =
      never-four (λ s. found_pairs s (line_prefix s.line)) c.0.now c.1.0.now c.1.1.0.now c.1.1.1.0 c.1.1.1.1.0 c.1.1.1.1.1.0.now (there-fits c.1.0.now c.1.1.0.now l s)
      (sym (ap (λ (t : Told). t.number) p.0) ∙ e)

  -- and tells the readings of the line alone, as demand 3 says
  pub scan-reads : (μs c : _) (r : Result Matched Refused) (z : _) → match-instr.Post μs c r z → c.1.0.now ≡ line → c.1.1.0.now ≡ sheet → table_fits c.0.now ≡ true → budget_fits c.1.1.1.0 ≡ true → base_fits c.1.1.1.1.0 ≡ true
      → Within c.0.now c.1.0.now c.1.1.0.now c.1.1.1.0 → Demand3 (based c.1.1.1.1.0 (line_scene c.0.now c.1.0.now)) c.1.1.1.1.1.0.now (says r z.1.1.1.1.1.0.now)
  scan-reads μs c r z p l s =
      reads-alone c.0.now c.1.0.now c.1.1.0.now (there-good c.1.0.now c.1.1.0.now l s) (there-is c.1.0.now c.1.1.0.now l s)
      (there-fits c.1.0.now c.1.1.0.now l s) c.1.1.1.0 c.1.1.1.1.0 c.1.1.1.1.1.0.now (says r z.1.1.1.1.1.0.now) p.1

  pub lookup-reads : (μs c : _) (r : Result Matched Refused) (z : _) → match-with-ruledef-map.Post μs c r z → c.1.0.now ≡ line → c.1.1.0.now ≡ sheet → table_fits c.0.now ≡ true → budget_fits c.1.1.1.0 ≡ true → base_fits c.1.1.1.1.0 ≡ true
      → Within c.0.now c.1.0.now c.1.1.0.now c.1.1.1.0 → Demand3 (based c.1.1.1.1.0 (line_scene c.0.now c.1.0.now)) c.1.1.1.1.1.0.now (says r z.1.1.1.1.1.0.now)
  lookup-reads μs c r z p l s =
      reads-alone c.0.now c.1.0.now c.1.1.0.now (there-good c.1.0.now c.1.1.0.now l s) (there-is c.1.0.now c.1.1.0.now l s)
      (there-fits c.1.0.now c.1.1.0.now l s) c.1.1.1.0 c.1.1.1.1.0 c.1.1.1.1.1.0.now (says r z.1.1.1.1.1.0.now) p.1.0
