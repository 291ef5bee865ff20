-- The scene of a line is the scene of its filled sheet, so the readings of the one are those of the other; and its ends are
-- the grammar's.
use mathlib.Core.Path.{◌≡◌, sym, ap, ◌∙◌, subst}
use mathlib.Core.Logic.{◌↔◌}
use mathlib.Core.Bool.{Bool}
use mathlib.Core.List.{List, []}
use Rattle.std.specs.Prelude.{None}
use Prim.Native.Nat.{ℕ, ◌≤◌, ◌<◌}
use native.Mathlib.Decide.{dec_lt}
use native.Mathlib.Omega.{arith}
use lib.Dec.{leb}
use lib.ListN.{length, get_or}
use borrow.Author.Tests.{le-leb, lt-leb}
use Rattle.plain.specs.Choice.{select}
use Rattle.plain.specs.Lists.{range, keep_if}
use Rattle.plain.proofs.Tests.{and-false-left, and-false-right}
use Rattle.syntax.specs.Cut.{CutAt, cut}
use Rattle.defs.specs.Table.{rulesets_in}
use Rattle.defs.specs.Ruledef.{is_top, ruleset_of}
use Rattle.extents.specs.declared.Half.{Half}
use Rattle.extents.specs.declared.Half.TheVariants.{Free, Greedy}
use Rattle.extents.specs.Sheet.{sized, readable, end_in}
use Rattle.extents.proofs.Reading.{unread}
use Rattle.expressions.specs.Sheet.{EndIn, end_for, sheet_of}
use Rattle.expressions.proofs.Greatest.{Greatest, greatest-one}
use Rattle.expressions.proofs.Entries.{end_is, end-span, end_back}
use Rattle.readings.specs.Tree.{Tree}
use Rattle.readings.specs.Scene.{Scene, walker_at, scene_of, based}
use Rattle.readings.specs.Reading.{Reading}
use Rattle.line_readings.specs.LineReading.{end_within, line_scene, LineReading}

module _ (line : List ℕ) (half : Half) (c l : ℕ) where
  in-line : l ≤ length line → end_within line half c l ≡ end_for line half c l
  unfolding end_within
  in-line h = ap (λ (b : Bool). select b (end_for line half c l) None) (le-leb l (length line) h)

  -- the end that a scene of the line gives is the greatest that the grammar allows, and it gives none only if there is none
  pub end-declared : l ≤ length line → Greatest (EndIn half line c) l (end_within line half c l)
  end-declared h = subst (Greatest (EndIn half line c) l) (sym (in-line h)) (end_is line half c l)

  -- none lies below its start
  below : l < c → end_for line half c l ≡ None
  below h = greatest-one (EndIn half line c) l (end_for line half c l) None (end_is line half c l) (λ e x w. omega (arith, end-span line half x))

  -- the filled sheet gives the same
  pub sheet-end : length line ≤ 120 → end_in (sheet_of line) (length line) half c l ≡ end_within line half c l
  unfolding readable end_within
  sheet-end short =
      elim (dec_lt (length line) l) [
        | yes past ↦ unread (sheet_of line) (length line) c l half (and-false-right (sized (sheet_of line) (length line)) _ (and-false-right (leb c l) _ (lt-leb l (length line) past)))
            ∙ sym (ap (λ (b : Bool). select b (end_for line half c l) None) (lt-leb l (length line) past))
        | no within ↦ elim (dec_lt l c) [
          | yes above ↦ unread (sheet_of line) (length line) c l half (and-false-right (sized (sheet_of line) (length line)) _ (and-false-left _ _ (lt-leb c l above)))
              ∙ sym (in-line (omega (arith, within)) ∙ below above)
          | no from ↦ end_back line (omega arith) half c l (omega (arith, from)) (omega (arith, within)) ∙ sym (in-line (omega (arith, within)))
        ]
      ]

-- so the scenes are one
pub same-scene : (t line : List ℕ) → length line ≤ 120 → scene_of t line (sheet_of line) ≡ line_scene t line
unfolding scene_of line_scene
same-scene t line short = λ i. record {
  line = line;
  base = 0;
  tops = keep_if (is_top t) (range 0 (rulesets_in t));
  rules = λ r. range 0 (length (ruleset_of t r).rules);
  parts = λ r k. get_or (ruleset_of t r).rules k [];
  free = λ c l. sheet-end line Free c l short i;
  greedy = λ c l. sheet-end line Greedy c l short i;
  IsCut = λ x l c p. CutAt line x (walker_at line l c) p;
  cut = λ x l c. cut line x (walker_at line l c);
}

-- and a reading on the filled sheet is a reading of the line, wherever it begins
pub line-reading : (t line : List ℕ) → length line ≤ 120 → (base : ℕ) (u : Tree) → Reading (based base (scene_of t line (sheet_of line))) u ↔ LineReading t line base u
line-reading t line short base u =
    (subst (λ (s : Scene). Reading (based base s) u) (same-scene t line short), subst (λ (s : Scene). Reading (based base s) u) (sym (same-scene t line short)))
