-- Bytes or words laid into lent memory, one after another.
use Rattle.std.specs.Prelude.{◌≡◌, List, ◌∷◌, ℕ, ◌+◌, ◌≤◌, length}
use Rattle.std.proofs.lemmas.List.Edits.{sets}
use Rattle.defs.specs.declared.ruledef.Part.{Part}
use Rattle.printing.specs.Listing.{Bytes, part_field}

-- items were laid from a place on, as far as the memory reaches, up to place r
pub record Laid (before : List ℕ) (at : ℕ) (items : List ℕ) (after : List ℕ) (r : ℕ) : Type 0 where
  pub left : after ≡ sets before at items
  pub to : r ≡ at + length items

-- items can be laid from a place on: the place after them is small
pub record Ready (at : ℕ) (items : List ℕ) : Type 0 where
  pub small : at + length items ≤ 65536

-- a part's field after its tab
abbrev pub part_text : Part → Bytes
part_text p = 9 ∷ part_field p
