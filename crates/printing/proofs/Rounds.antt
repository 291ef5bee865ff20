-- Both ways round: a listing's data packed, and listed again; a table listed, and its data packed again.
use mathlib.Core.Path.{◌≡◌, ap, ◌∙◌}
use mathlib.Core.Bool.{true}
use mathlib.Core.List.{List}
use Prim.Native.Nat.{ℕ}
use Rattle.defs.specs.Table.{table_fits}
use Rattle.defs.specs.Ruledef.{table_of}
use Rattle.packing.specs.Data.{Data, data_fits}
use Rattle.packing.specs.Packed.{packed, data_of}
use Rattle.packing.proofs.Tables.{table-fits}
use Rattle.packing.proofs.Packs.{packed-says, packed-fits}
use Rattle.packing.proofs.Says.{packed-again}
use Rattle.printing.specs.Listing.{Bytes, listing}

-- reading then writing gives the same bytes for any accepted text
pub text-again : (text : Bytes) (d : Data) → data_fits d ≡ true → listing d ≡ text → (table_fits (packed d) ≡ true) × (listing (data_of (packed d)) ≡ text)
text-again text d f e = (packed-fits d.tops d.rules f, ap listing (packed-says d.tops d.rules f) ∙ e)

-- writing then reading gives the same rulesets and rules
pub table-again : (t : List ℕ) → table_fits t ≡ true → (data_fits (data_of t) ≡ true) × (data_of (packed (data_of t)) ≡ data_of t) × (table_of (packed (data_of t)) ≡ table_of t)
table-again t h =
    let f = table-fits t h in
    (f, packed-says (data_of t).tops (data_of t).rules f, packed-again t h)
