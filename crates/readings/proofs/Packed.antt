-- The scene of an accepted call is lawful: its leaves are the ground crates' definitions, and their laws.
use mathlib.Core.Path.{◌≡◌, refl}
use mathlib.Core.Bool.{true}
use mathlib.Core.List.{List, []}
use Prim.Native.Nat.{ℕ, ◌≤◌, ◌<◌}
use native.Mathlib.Omega.{arith}
use lib.ListN.{length}
use Rattle.plain.specs.Lists.{range}
use Rattle.plain.proofs.Members.{range-apart, kept-apart}
use Rattle.syntax.specs.Walker.{held}
use Rattle.syntax.specs.Cut.{CutAt}
use Rattle.syntax.proofs.Useful.{held-within}
use Rattle.syntax.proofs.Cuts as Cuts
use Rattle.defs.specs.Table.{rulesets_in}
use Rattle.defs.specs.Ruledef.{is_top, ruleset_of}
use Rattle.extents.specs.Sheet.{sheet_fits}
use Rattle.extents.specs.declared.Half.TheVariants.{Free, Greedy}
use Rattle.extents.proofs.Ends.{end-between}
use Rattle.readings.specs.Tree.{Tree}
use Rattle.readings.specs.Scene.{Scene, walker_at, Lawful, scene_of, based}
use Rattle.readings.specs.Answer.{exact_count}
use Rattle.readings.proofs.Moved.{count_by}

-- what is found below a held limit lies at or after the cursor, and below the limit
pub past-cursor : (line : List ℕ) (l c p : ℕ) → (walker_at line l c).cursor ≤ p → p < (walker_at line l c).limit → (c ≤ p) × (p ≤ l)
unfolding held
past-cursor line l c p h k = (omega arith, omega arith)

pub lawful : (t line sheet : List ℕ) → sheet_fits sheet (length line) ≡ true → Lawful (scene_of t line sheet)
unfolding scene_of
lawful t line sheet good = record {
  cut_at = λ x l c p. Cuts.cut_at line x (walker_at line l c) (held-within line (record { cursor = c; limit = l })) p;
  cut_within = λ x l c p h e.
      let q : CutAt line x (walker_at line l c) p = (Cuts.cut_at line x (walker_at line l c) (held-within line (record { cursor = c; limit = l })) p).0 e in
      past-cursor line l c p q.from q.below;
  free_within = λ c l e q. end-between sheet (length line) good Free c l e q;
  greedy_within = λ c l e q. end-between sheet (length line) good Greedy c l e q;
  rules_apart = λ r. range-apart 0 (length (ruleset_of t r).rules);
  tops_apart = kept-apart (is_top t) (λ (r : ℕ). r) (range 0 (rulesets_in t)) (range-apart 0 (rulesets_in t));
}

-- wherever the line begins
pub lawful-based : {s : Scene} (b : ℕ) → Lawful s → Lawful (based b s)
unfolding based
lawful-based b law = record {
  cut_at = law.cut_at;
  cut_within = law.cut_within;
  free_within = law.free_within;
  greedy_within = law.greedy_within;
  rules_apart = law.rules_apart;
  tops_apart = law.tops_apart;
}

-- exact counts look only at the table's parts
pub count-free : (t line sheet : List ℕ) (u : Tree) → exact_count (scene_of t line sheet) u ≡ exact_count (scene_of t [] []) u
unfolding scene_of
count-free t line sheet u = count_by (scene_of t line sheet) (scene_of t [] []) refl u
