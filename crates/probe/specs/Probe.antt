-- The C structs' fields as the walker's values.
use Rattle.std.specs.Prelude.{Bool, ℕ, Option, None, Some}
use Rattle.plain.specs.Choice.{select}
use Rattle.syntax.specs.declared.walker.Walker.{Walker}
use Rattle.probe.specs.declared.ProbeWalker.{ProbeWalker}
use Rattle.probe.specs.declared.ProbePlace.{ProbePlace}

-- the walker with this cursor and limit
abbrev pub at : ℕ → ℕ → Walker
at c l = record { cursor = c; limit = l }

-- the walker that the fields stand for
abbrev pub ends : ProbeWalker → Walker
ends r = at r.cursor r.limit

-- whether the byte was there, and the cursor of the walker handed back
abbrev pub stepped : Bool × Walker → ProbePlace
stepped s = record { found = select s.0 1 0; place = s.1.cursor }

-- the cut's place, if there is one
abbrev pub placed : Option ℕ → ProbePlace
placed (Some p) = record { found = 1; place = p }
placed None = record { found = 0; place = 0 }
