-- A table and its rewriting give the same answers. A scene asks of its table only which rulesets are top and which rules each
-- ruleset has, and the table's data tells both: tables of the same data have the same scene. A call sees its table through
-- acceptance and scene alone, and a table's data, packed anew, is accepted and says that data.
use mathlib.Core.Path.{◌≡◌, sym, ap, ap₂, fun_ext, ◌∙◌}
use mathlib.Core.Bool.{true, false}
use mathlib.Core.List.{List, []}
use Prim.Native.Nat.{ℕ}
use lib.ListN.{length, get_or}
use Rattle.plain.specs.Lists.{range, keep_if}
use Rattle.defs.specs.Table.{table_fits}
use Rattle.defs.specs.declared.ruledef.Part.{Part}
use Rattle.packing.specs.Data.{Data}
use Rattle.packing.specs.Packed.{packed, data_of, rules_of}
use Rattle.packing.proofs.Tables.{table-fits}
use Rattle.packing.proofs.Packs.{packed-fits, packed-says}
use Rattle.packing.proofs.Says.{rules-of, tops-of}
use Rattle.readings.specs.Scene.{Scene, scene_of}
use Rattle.readings.specs.Call.{call_with}

pub scene-of-data : (t u line sheet : List ℕ) → data_of t ≡ data_of u → scene_of t line sheet ≡ scene_of u line sheet
unfolding scene_of
scene-of-data t u line sheet same =
    ap₂ scene
    (tops-of t ∙ ap (λ (d : Data). keep_if (λ s. get_or d.tops s false) (range 0 (length d.tops))) same ∙ sym (tops-of u))
    (fun_ext (λ r. rules-of t r ∙ ap (λ (d : Data). rules_of r d.rules) same ∙ sym (rules-of u r)))
  where
    -- the scene over its top rulesets and each ruleset's rules
    scene : List ℕ → (ℕ → List (List Part)) → Scene
    scene tops rules = record {
      line = line;
      base = 0;
      tops = tops;
      rules = λ r. range 0 (length (rules r));
      parts = λ r k. get_or (rules r) k [];
      free = (scene_of t line sheet).free;
      greedy = (scene_of t line sheet).greedy;
      IsCut = (scene_of t line sheet).IsCut;
      cut = (scene_of t line sheet).cut;
    }

pub call-of-data :
    (order : Scene → List (ℕ × ℕ)) (t u line sheet : List ℕ) (budget base : ℕ) (b : List ℕ) → table_fits t ≡ table_fits u → data_of t ≡ data_of u
    → call_with order t line sheet budget base b ≡ call_with order u line sheet budget base b
unfolding call_with
call-of-data order t u line sheet budget base b fits same = rw (fits, scene-of-data t u line sheet same)

-- an accepted table, and its data packed anew
pub rewritten-call :
    (order : Scene → List (ℕ × ℕ)) (t line sheet : List ℕ) (budget base : ℕ) (b : List ℕ) → table_fits t ≡ true
    → call_with order (packed (data_of t)) line sheet budget base b ≡ call_with order t line sheet budget base b
rewritten-call order t line sheet budget base b h =
    let d = data_of t in
    call-of-data order (packed d) t line sheet budget base b (packed-fits d.tops d.rules (table-fits t h) ∙ sym h) (packed-says d.tops d.rules (table-fits t h))
