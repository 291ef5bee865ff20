-- What a reading of a line is: a reading with the grammar in place of a sheet. An expression part asks for the greatest end
-- within a limit of an expression, or of digits, that begins at the cursor; every limit is a place of the line. A scene has
-- functions, so these ends are computed; that they are the grammar's is the law `end-declared`.
use Rattle.std.specs.Prelude.{List, [], ℕ, leb, length, get_or, Option, None}
use Rattle.plain.specs.Choice.{select}
use Rattle.plain.specs.Lists.{range, keep_if}
use Rattle.syntax.specs.Cut.{CutAt, cut}
use Rattle.defs.specs.Table.{rulesets_in}
use Rattle.defs.specs.Ruledef.{is_top, ruleset_of}
use Rattle.extents.specs.declared.Half.{Half}
use Rattle.extents.specs.declared.Half.TheVariants.{Free, Greedy}
use Rattle.expressions.specs.Sheet.{end_for}
use Rattle.readings.specs.Tree.{Tree}
use Rattle.readings.specs.Scene.{Scene, walker_at, based}
use Rattle.readings.specs.Reading.{Reading}

-- the end that the grammar gives, under a limit in the line
unfoldable pub end_within : List ℕ → Half → ℕ → ℕ → Option ℕ
end_within line half c l = select (leb l (length line)) (end_for line half c l) None

-- the scene of a packed table and a line that stands alone, at base 0
unfoldable pub line_scene : List ℕ → List ℕ → Scene
line_scene t line = record {
  line = line;
  base = 0;
  tops = keep_if (is_top t) (range 0 (rulesets_in t));
  rules = λ r. range 0 (length (ruleset_of t r).rules);
  parts = λ r k. get_or (ruleset_of t r).rules k [];
  free = λ c l. end_within line Free c l;
  greedy = λ c l. end_within line Greedy c l;
  IsCut = λ x l c p. CutAt line x (walker_at line l c) p;
  cut = λ x l c. cut line x (walker_at line l c);
}

-- a reading of a line under a table, where the line begins at a base
abbrev pub LineReading : List ℕ → List ℕ → ℕ → Tree → Type 0
LineReading t line base u = Reading (based base (line_scene t line)) u
