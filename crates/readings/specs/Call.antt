-- The whole call: which number, which fields, which words, for any table, line, sheet, budget, base and buffer.
-- In words: docs/MANUAL.md, 7 and 8.
use Rattle.std.specs.Prelude.{◌≡◌, Bool, true, not, ◌&&◌, List, [], ◌∷◌, map, ℕ, ◌-◌, leb, length, Option, None, Some}
use Rattle.plain.specs.Choice.{select}
use Rattle.plain.specs.Buffers.{at_start}
use Rattle.plain.specs.Told.{Told, refused_at}
use Rattle.line.specs.Line.{fault_at}
use Rattle.defs.specs.Table.{table_fits}
use Rattle.ruledef_map.specs.RuledefMap.{line_prefix}
use Rattle.extents.specs.Sheet.{sheet_fits}
use Rattle.readings.specs.Tree.{Tree}
use Rattle.readings.specs.Scene.{Scene, scene_of, based}
use Rattle.readings.specs.Plan.{Outcome, done, stop, run}
use Rattle.readings.specs.Walk.{Match, top_pairs, tries}
use Rattle.readings.specs.Lookup.{found_pairs}
use Rattle.readings.specs.Answer.{answer_words}

-- a refusal that returns visits; numbers 1 to 9 and 19 leave the buffer unchanged
abbrev pub stopped_after : ℕ → ℕ → List ℕ → Told
stopped_after n v b = record { number = n; visits = v; words = 0; place = 0; buffer = b }

-- 9: answer longer than the buffer; 0: the buffer's start is written, the rest unchanged
abbrev pub written : ℕ → List ℕ → List ℕ → Told
written v ws b =
    select (leb (length ws) (length b))
    (record { number = 0; visits = v; words = length ws; place = 0; buffer = at_start ws b })
    (record { number = 9; visits = v; words = length ws; place = 0; buffer = b })

-- 1: no match; else the answer's words
abbrev pub matched : Scene → ℕ → List Tree → List ℕ → Told
matched s v [] b = stopped_after 1 v b
matched s v (t ∷ ts) b = written v (answer_words s (t ∷ ts)) b

abbrev pub tree : Match → Tree
tree m = m.0

-- visits left become visits made
abbrev pub ended : Scene → ℕ → List ℕ → Outcome (List Match) → Told
ended s budget b (done left used ms) = matched s (budget - left) (map tree ms) b
ended s budget b (stop n left) = stopped_after n (budget - left) b

-- budget: 1 to 1,000,000 visits
unfoldable pub budget_fits : ℕ → Bool
budget_fits v = leb 1 v && leb v 1000000

-- base: at most 4,294,967,175, so that place 120 of the line still fits 32 bits
unfoldable pub base_fits : ℕ → Bool
base_fits base = leb base 4294967175

-- table, line, sheet, budget and base that get no number from 2 to 5, nor 19
pub record Accepted (t line sheet : List ℕ) (budget base : ℕ) : Type 0 where
  pub table : table_fits t ≡ true
  pub bytes : fault_at line ≡ None
  pub extents : sheet_fits sheet (length line) ≡ true
  pub visits : budget_fits budget ≡ true
  pub origin : base_fits base ≡ true

abbrev pub lined : Option ℕ → List ℕ → Told → Told
lined None b r = r
lined (Some p) b r = refused_at 3 p b

-- Checks run 2, 3, 4, 5, 19; then whichever of 6, 7, 8 the walk meets first; then 1; then 9. `order` gives the rules to try.
unfoldable pub call_with : (Scene → List (ℕ × ℕ)) → List ℕ → List ℕ → List ℕ → ℕ → ℕ → List ℕ → Told
call_with order t line sheet budget base b =
    select (not (table_fits t)) (refused_at 2 0 b)
    (lined (fault_at line) b
    (select (not (sheet_fits sheet (length line))) (refused_at 4 0 b)
    (select (not (budget_fits budget)) (refused_at 5 0 b)
    (select (not (base_fits base)) (refused_at 19 0 b)
    (let s = based base (scene_of t line sheet) in ended s budget b (run (tries s (order s)) budget 0))))))

-- the full scan, and prefix lookup
abbrev pub scan_call : List ℕ → List ℕ → List ℕ → ℕ → ℕ → List ℕ → Told
scan_call = call_with top_pairs

abbrev pub lookup_call : List ℕ → List ℕ → List ℕ → ℕ → ℕ → List ℕ → Told
lookup_call = call_with (λ s. found_pairs s (line_prefix s.line))
