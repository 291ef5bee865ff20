-- The theorems, in one place: what the whole call tells, said in the reading relation.
use mathlib.Core.Path.{◌≡◌, sym, ◌∙◌, subst, ap}
use mathlib.Core.Bool.{not}
use mathlib.Core.List.{List, [], map}
use Prim.Native.Nat.{ℕ, ◌-◌, ◌≤◌}
use native.Mathlib.Omega.{arith}
use lib.ListN.{length, get_or}
use Rattle.plain.specs.Choice.{select}
use Rattle.plain.specs.Lists.{range, keep_if}
use Rattle.plain.specs.Told.{Told, refused_at}
use Rattle.line.specs.Line.{fault_at}
use Rattle.syntax.specs.Cut.{CutAt, cut}
use Rattle.defs.specs.Table.{rulesets_in, table_fits}
use Rattle.defs.specs.Ruledef.{is_top, ruleset_of}
use Rattle.ruledef_map.specs.RuledefMap.{line_prefix}
use Rattle.extents.specs.Alike.{Alike}
use Rattle.extents.proofs.Unread.{same-sheet, same-free, same-greedy}
use Rattle.readings.specs.Scene.{Scene, Lawful, walker_at, scene_of, based}
use Rattle.readings.specs.Plan.{done, run}
use Rattle.readings.specs.Walk.{top_pairs, tries, scan}
use Rattle.readings.specs.Lookup.{found_pairs, lookup}
use Rattle.readings.specs.Call.{Accepted, tree, ended, budget_fits, base_fits, lined, call_with, scan_call, lookup_call}
use Rattle.readings.specs.Demand.{Within, Demand3}
use Rattle.readings.proofs.Runs.{mapped_end}
use Rattle.readings.proofs.Moved.{moved_match, run-based}
use Rattle.readings.proofs.Scan.{scan-readings}
use Rattle.readings.proofs.Packed.{lawful, lawful-based}
use Rattle.readings.proofs.Lookups.{lookup-readings, lookup-done}
use Rattle.readings.proofs.Calls.{walked_through, visits-told, demand}
use Rattle.readings.proofs.Agree.{same-told}

-- the rules that a lookup tries
abbrev prefixed : Scene → List (ℕ × ℕ)
prefixed s = found_pairs s (line_prefix s.line)

module _ (t line sheet : List ℕ) (budget base : ℕ) (b : List ℕ) (ok : Accepted t line sheet budget base) where
  abbrev s : Scene
  s = based base (scene_of t line sheet)

  law : Lawful s
  law = lawful-based base (lawful t line sheet ok.extents)

  -- the base changes neither visits nor records
  within-here : (w : Within t line sheet budget) → run (scan s) budget 0 ≡ done w.left w.used (map (moved_match base) w.matches)
  unfolding scan top_pairs based
  within-here w = run-based t line sheet base (top_pairs (scene_of t line sheet)) budget 0 ∙ ap (mapped_end (moved_match base)) w.ends

  -- demand 3 for the full scan
  pub scan-demand : Within t line sheet budget → Demand3 s b (scan_call t line sheet budget base b)
  unfolding scan
  scan-demand w =
      subst (Demand3 s b) (sym (walked_through top_pairs t line sheet budget base b ok w.left w.used (map (moved_match base) w.matches) (within-here w)))
      (demand s (budget - w.left) b (map tree (map (moved_match base) w.matches)) (scan-readings s law budget (within-here w)))

  -- and for lookup, whenever the scan stays within: the same readings, with no more visits, and so the scan's number and words
  pub lookup-demand : Within t line sheet budget → Demand3 s b (lookup_call t line sheet budget base b) × ((lookup_call t line sheet budget base b).visits ≤ (scan_call t line sheet budget base b).visits)
  unfolding scan lookup
  lookup-demand w =
      let ms = map (moved_match base) w.matches in
      let (left', used', ms', e', less) = lookup-done s law budget (within-here w) in
      let there = walked_through prefixed t line sheet budget base b ok left' used' ms' e' in
      let here = walked_through top_pairs t line sheet budget base b ok w.left w.used ms (within-here w) in (
        subst (Demand3 s b) (sym there) (demand s (budget - left') b (map tree ms') (lookup-readings s law budget e')),
        omega (
          arith,
          ap (λ (r : Told). r.visits) there ∙ visits-told s (budget - left') b (map tree ms'),
          ap (λ (r : Told). r.visits) here ∙ visits-told s (budget - w.left) b (map tree ms),
        ),
      )

  pub lookup-agrees : Within t line sheet budget
      → ((lookup_call t line sheet budget base b).number ≡ (scan_call t line sheet budget base b).number) × ((lookup_call t line sheet budget base b).words ≡ (scan_call t line sheet budget base b).words)
  lookup-agrees w = same-told (lookup-demand w).0 (scan-demand w)

-- entries whose start lies above their limit change no answer
module _ (t line a b : List ℕ) (alike : Alike (length line) a b) where
  same-scene : scene_of t line a ≡ scene_of t line b
  unfolding scene_of
  same-scene = λ i. record {
    line = line;
    base = 0;
    tops = keep_if (is_top t) (range 0 (rulesets_in t));
    rules = λ r. range 0 (length (ruleset_of t r).rules);
    parts = λ r k. get_or (ruleset_of t r).rules k [];
    free = λ c l. same-free alike c l i;
    greedy = λ c l. same-greedy alike c l i;
    IsCut = λ x l c p. CutAt line x (walker_at line l c) p;
    cut = λ x l c. cut line x (walker_at line l c);
  }

  pub unread : (order : Scene → List (ℕ × ℕ)) (budget base : ℕ) (buffer : List ℕ)
      → call_with order t line a budget base buffer ≡ call_with order t line b budget base buffer
  unfolding call_with
  unread order budget base buffer = λ i.
      select (not (table_fits t)) (refused_at 2 0 buffer)
      (lined (fault_at line) buffer
      (select (not (same-sheet alike i)) (refused_at 4 0 buffer)
      (select (not (budget_fits budget)) (refused_at 5 0 buffer)
      (select (not (base_fits base)) (refused_at 19 0 buffer)
      (let s = based base (same-scene i) in ended s budget buffer (run (tries s (order s)) budget 0))))))
