-- The lookahead character as the loop seeks it: what it is of the parts from here on, it is of all, since every part that
-- was passed is whitespace. The words past the table's end are no parts.
use mathlib.Core.Path.{◌≡◌, sym, ap, ◌∙◌}
use mathlib.Core.List.{List, ◌∷◌, map}
use Rattle.std.specs.Prelude.{Option, None}
use Prim.Native.Nat.{ℕ, ◌+◌, ◌≤◌, ◌<◌}
use native.Mathlib.Omega.{arith}
use lib.ListN.{length, drop}
use lib.Seq.{take_all}
use Rattle.defs.specs.Table.{word_at, part_of, parts_between}
use Rattle.defs.specs.declared.ruledef.Part.{Part}
use Rattle.defs.proofs.Words.{parts_none}
use Rattle.defs.proofs.Words.{met}
use Rattle.readings.specs.Walk.{lookahead}

-- parts that end past the table end with it
pub parts-past : (t : List ℕ) (end : ℕ) → length t < end → (at : ℕ) → parts_between t at (length t) ≡ parts_between t at end
unfolding parts_between
parts-past t end h at =
    ap (λ (l : List ℕ). map part_of (drop at l)) (take_all (length t) t (omega arith) ∙ sym (take_all end t (omega arith)))

module _ (t : List ℕ) (at end : ℕ) (fits : end ≤ length t) (o : Option ℕ) (from : lookahead (parts_between t at end) ≡ o) where
  -- the part that the loop meets
  pub ahead-met : (q : Part) → at < end → q ≡ part_of (word_at t at) → lookahead (q ∷ parts_between t (at + 1) end) ≡ o
  ahead-met q below is = ap lookahead (sym (met t at end fits below q is)) ∙ from

  pub ahead_none : end ≤ at → None ≡ o
  unfolding lookahead
  ahead_none h = ap lookahead (sym (parts_none t at end fits h)) ∙ from
