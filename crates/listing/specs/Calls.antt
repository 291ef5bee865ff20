-- The two calls: which number, which fields and which memory at the end, for any text, table and room.
-- In words: docs/MANUAL.md, 10.
use Rattle.std.specs.Prelude.{◌≡◌, true, List, ℕ, leb, length, Result, Ok, Err}
use Rattle.plain.specs.Choice.{select}
use Rattle.plain.specs.Buffers.{at_start}
use Rattle.plain.specs.Told.{Told, refused_at}
use Rattle.defs.specs.Table.{table_fits}
use Rattle.packing.specs.Data.{Data, data_fits}
use Rattle.packing.specs.Packed.{packed, data_of}
use Rattle.printing.specs.Listing.{Bytes, listing}
use Rattle.printing.specs.FirstBad.{FirstBad}
use Rattle.listing.specs.declared.reading.ReadError.{ReadError}
use Rattle.listing.specs.declared.reading.ReadError.TheVariants as reading
use Rattle.listing.specs.declared.writing.WriteError.{WriteError}
use Rattle.listing.specs.declared.writing.WriteError.TheVariants as writing

-- 0: the result at the room's start, the rest unchanged; words is its length
abbrev pub filled : ℕ → List ℕ → Told
filled n b = record { number = 0; visits = 0; words = n; place = 0; buffer = b }

-- then, for either call, 16 if the result needs more room than lent; room unchanged
abbrev pub wrote : List ℕ → List ℕ → Told
wrote ws room = select (leb (length ws) (length room)) (filled (length ws) (at_start ws room)) (refused_at 16 0 room)

-- reading gives the packed words of the data whose listing the text is, if there is such data within the limits;
-- else 15 with the first bad line
pub data ReadCall (text : Bytes) (room : List ℕ) (r : Told) : Type 0 where
  listed : (d : Data) → data_fits d ≡ true → listing d ≡ text → r ≡ wrote (packed d) room → ReadCall text room r
  unlisted : (k : ℕ) → FirstBad text k → r ≡ refused_at 15 k room → ReadCall text room r

-- writing gives the listing of the table's data; 2 for a bad table
unfoldable pub write_call : List ℕ → Bytes → Told
write_call t room = select (table_fits t) (wrote (listing (data_of t)) room) (refused_at 2 0 room)

-- each case's number and fields, with the room as it is left
abbrev pub read_says : Result ℕ ReadError → List ℕ → Told
read_says (Ok n) b = filled n b
read_says (Err (reading.BadText k)) b = refused_at 15 k b
read_says (Err reading.NoRoom) b = refused_at 16 0 b

abbrev pub write_says : Result ℕ WriteError → Bytes → Told
write_says (Ok n) b = filled n b
write_says (Err writing.BadTable) b = refused_at 2 0 b
write_says (Err writing.NoRoom) b = refused_at 16 0 b
