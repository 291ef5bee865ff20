-- The scene: what a call is given, decoded. Its leaves are all that the relation and the walk see of table, line and sheet.
use Rattle.std.specs.Prelude.{List, [], ◌≡◌, ◌↔◌, ℕ, ◌≤◌, length, get_or, Option, Some}
use Rattle.plain.specs.Lists.{range, keep_if, Apart}
use Rattle.syntax.specs.Walker.{held}
use Rattle.syntax.specs.Cut.{CutAt, cut}
use Rattle.syntax.specs.declared.walker.Walker.{Walker}
use Rattle.defs.specs.Table.{rulesets_in}
use Rattle.defs.specs.Ruledef.{is_top, ruleset_of}
use Rattle.defs.specs.declared.ruledef.Part.{Part}
use Rattle.extents.specs.Sheet.{free_end, greedy_end}

pub record Scene : Type 1 where
  -- the line's bytes, and where it begins in its file
  pub line : List ℕ
  pub base : ℕ
  -- top rulesets in order; a ruleset's rules by number, in order; a rule's parts
  pub tops : List ℕ
  pub rules : ℕ → List ℕ
  pub parts : ℕ → ℕ → List Part
  -- free(c, l) and greedy(c, l)
  pub free : ℕ → ℕ → Option ℕ
  pub greedy : ℕ → ℕ → Option ℕ
  -- the cut for a character, under a limit, from a cursor: declared, and found
  pub IsCut : ℕ → ℕ → ℕ → ℕ → Type 0
  pub cut : ℕ → ℕ → ℕ → Option ℕ

-- the walker at cursor c under limit l, held to the line
abbrev pub walker_at : List ℕ → ℕ → ℕ → Walker
walker_at line l c = held line (record { cursor = c; limit = l })

-- what theorems use of a scene: the cut that is found is the declared one; ends and cuts lie between cursor and limit;
-- rules and top rulesets have no double
pub record Lawful (s : Scene) : Type 0 where
  pub cut_at : (x l c p : ℕ) → (s.cut x l c ≡ Some p) ↔ s.IsCut x l c p
  pub cut_within : (x l c p : ℕ) → c ≤ l → s.cut x l c ≡ Some p → (c ≤ p) × (p ≤ l)
  pub free_within : (c l e : ℕ) → s.free c l ≡ Some e → (c ≤ e) × (e ≤ l)
  pub greedy_within : (c l e : ℕ) → s.greedy c l ≡ Some e → (c ≤ e) × (e ≤ l)
  pub rules_apart : (r : ℕ) → Apart (λ (k : ℕ). k) (s.rules r)
  pub tops_apart : Apart (λ (r : ℕ). r) s.tops

-- the scene of a packed table, a line and a sheet, with the first edition of the cut; the line stands alone, at base 0
unfoldable pub scene_of : List ℕ → List ℕ → List ℕ → Scene
scene_of t line sheet = record {
  line = line;
  base = 0;
  tops = keep_if (is_top t) (range 0 (rulesets_in t));
  rules = λ r. range 0 (length (ruleset_of t r).rules);
  parts = λ r k. get_or (ruleset_of t r).rules k [];
  free = λ c l. free_end sheet (length line) c l;
  greedy = λ c l. greedy_end sheet (length line) c l;
  IsCut = λ x l c p. CutAt line x (walker_at line l c) p;
  cut = λ x l c. cut line x (walker_at line l c);
}

-- the same line, where it begins at this base
unfoldable pub based : ℕ → Scene → Scene
based b s = record {
  line = s.line;
  base = b;
  tops = s.tops;
  rules = s.rules;
  parts = s.parts;
  free = s.free;
  greedy = s.greedy;
  IsCut = s.IsCut;
  cut = s.cut;
}
