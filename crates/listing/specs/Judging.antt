-- What the judging pass finds, line by line.
use Rattle.std.specs.Prelude.{◌≡◌, ◌&&◌, List, ℕ, ◌≤◌, leb, length, Option, None, Some, Result, Ok, Err}
use Rattle.plain.specs.Choice.{select}
use Rattle.plain.specs.Lists.{count, every}
use Rattle.defs.specs.Table.{is_parameter}
use Rattle.defs.specs.declared.ruledef.Part.{Part}
use Rattle.packing.specs.Data.{Data, is_part_of, last_of, parts_of}
use Rattle.printing.specs.Reading.{Reached, Read, good, bad}
use Rattle.listing.specs.declared.judging.Sizes.{Sizes}
use Rattle.listing.specs.declared.judging.BadLine.{BadLine}

-- how many parts fields say of a rule: at most 64 parts and 8 parameters, each within the limits
abbrev pub parts_said : ℕ → Option (List Part) → Option ℕ
parts_said s None = None
parts_said s (Some ps) = select (leb (length ps) 64 && (leb (count is_parameter ps) 8 && every (is_part_of s) ps)) (Some (length ps)) None

-- ---- the lines so far

-- S, R, P and the last rule's ruleset of the data to which they are read
pub record Counted (d : Data) (s r p l : ℕ) : Type 0 where
  pub reached : Reached d
  pub sets : s ≡ length d.tops
  pub rules : r ≡ length d.rules
  pub parts : p ≡ parts_of d.rules
  pub last : l ≡ last_of 0 d.rules

pub record Countable (s r p l : ℕ) : Type 0 where
  pub so_far : Data
  pub counted : Counted so_far s r p l

-- what the answer on one more line says of the data with it
abbrev pub LineSays : Option Data → Option Sizes → Type 0
LineSays o (Some z) = (e : Data) × (o ≡ Some e) × Counted e z.sets z.rules z.parts z.last
LineSays o None = o ≡ None

-- what the answer on a whole text says of its reading; no listing has more than 544 lines
abbrev pub Judges : Read → Result Sizes BadLine → Type 0
Judges x (Ok z) = (e : Data) × (x ≡ good e) × Counted e z.sets z.rules z.parts z.last
Judges x (Err b) = (x ≡ bad b.line) × (b.line ≤ 544)
