-- Two calls in a row: a text read and written again, and a table written and read again. First over what calls tell, then over
-- the contracts, whatever the room of either call was.
use mathlib.Core.Path.{◌≡◌, refl, sym, ap, ◌∙◌, subst}
use mathlib.Core.Bool.{Bool, true, false}
use mathlib.Core.List.{List}
use Prim.Native.Nat.{ℕ}
use native.Mathlib.Omega.{arith}
use lib.Dec.{leb}
use lib.ListN.{length, take, drop}
use lib.Seq.{take-append_seam}
use Rattle.plain.specs.Choice.{select}
use Rattle.plain.specs.Buffers.{at_start}
use Rattle.plain.specs.Told.{Told, refused_at}
use Rattle.defs.specs.Table.{table_fits}
use Rattle.packing.specs.Packed.{packed, data_of}
use Rattle.printing.specs.Listing.{Bytes, listing}
use Rattle.printing.proofs.Accepts.{listings-apart}
use Rattle.printing.proofs.Rounds.{text-again, table-again}
use Rattle.std.specs.Prelude.{Result, Ok}
use Rattle.listing.specs.declared.reading.ReadError.{ReadError}
use Rattle.listing.specs.declared.writing.WriteError.{WriteError}
use Rattle.listing.specs.Calls.{filled, wrote, ReadCall, listed, unlisted, write_call, read_says, write_says}
use Rattle.listing.proofs.Told.{read_call-one}
use Rattle.listing.proofs.reading.read_table.Reads as read_table
use Rattle.listing.proofs.writing.write_table.Reads as write-table

-- what a call has written, if it has
pub wrote-whole : (ws room : List ℕ) (r : Told) → r ≡ wrote ws room → r.number ≡ 0 → take r.words r.buffer ≡ ws
wrote-whole ws room r e z = go (leb (length ws) (length room)) e
  where
    go : (b : Bool) → r ≡ select b (filled (length ws) (at_start ws room)) (refused_at 16 0 room) → take r.words r.buffer ≡ ws
    go true q = ap (λ (x : Told). take x.words x.buffer) q ∙ take-append_seam ws (drop (length ws) room)
    go false q = absurd (omega (arith, z, ap (λ (x : Told). x.number) q))

-- reading then writing gives the same bytes, if they have room
pub read-then-write : (text room back : List ℕ) (r : Told) → ReadCall text room r → r.number ≡ 0 → write_call (take r.words r.buffer) back ≡ wrote text back
unfolding write_call
read-then-write text room back r (listed d f e q) z =
    let again = text-again text d f e in
    ap (λ (t : List ℕ). write_call t back) (wrote-whole (packed d) room r q z)
    ∙ ap (λ (b : Bool). select b (wrote (listing (data_of (packed d))) back) (refused_at 2 0 back)) again.0
    ∙ ap (λ (x : Bytes). wrote x back) again.1
read-then-write text room back r (unlisted k b q) z = absurd (omega (arith, z, ap (λ (x : Told). x.number) q))

-- writing then reading gives the same rulesets and rules, packed, if they have room
pub write-then-read : (t text room : List ℕ) (w r : Told) → w ≡ write_call t text → w.number ≡ 0 → ReadCall (take w.words w.buffer) room r → r ≡ wrote (packed (data_of t)) room
unfolding write_call
write-then-read t text room w r e z c = go (table_fits t) refl e
  where
    go : (b : Bool) → table_fits t ≡ b → w ≡ select b (wrote (listing (data_of t)) text) (refused_at 2 0 text) → r ≡ wrote (packed (data_of t)) room
    go true fits q =
        read_call-one (listing (data_of t)) room r (wrote (packed (data_of t)) room)
        (subst (λ (x : Bytes). ReadCall x room r) (wrote-whole (listing (data_of t)) text w q z) c)
        (listed (data_of t) (table-again t fits).0 refl refl)
    go false fits q = absurd (omega (arith, z, ap (λ (x : Told). x.number) q))

-- only an accepted table is written
pub written-fits : (t room : List ℕ) (n : ℕ) (b : List ℕ) → filled n b ≡ write_call t room → table_fits t ≡ true
unfolding write_call
written-fits t room n b e = go (table_fits t) refl e
  where
    go : (q : Bool) → table_fits t ≡ q → filled n b ≡ select q (wrote (listing (data_of t)) room) (refused_at 2 0 room) → table_fits t ≡ true
    go true f h = f
    go false f h = let two : ◌≡◌ {A = ℕ} 0 2 = ap (λ (r : Told). r.number) h in absurd (omega (arith, two))

-- and its listing is what is written
written-listing : (t room : List ℕ) (n : ℕ) (b : List ℕ) → filled n b ≡ write_call t room → take n b ≡ listing (data_of t)
unfolding write_call
written-listing t room n b e =
    wrote-whole (listing (data_of t)) room (filled n b)
    (e ∙ ap (λ (q : Bool). select q (wrote (listing (data_of t)) room) (refused_at 2 0 room)) (written-fits t room n b e)) refl

-- ---- the calls themselves

pub text-survives : (κs a : _) (n : ℕ) (x : _) → read_table.Post κs a (Ok n) x → (λs b : _) (s : Result ℕ WriteError) (y : _) → write-table.Post λs b s y
    → b.0.now ≡ take n x.1.0.now → write_says s y.1.0.now ≡ wrote a.0.now b.1.0.now
text-survives κs a n x p λs b s y q e =
    q ∙ ap (λ (t : List ℕ). write_call t b.1.0.now) e ∙ read-then-write a.0.now a.1.0.now b.1.0.now (filled n x.1.0.now) p refl

pub table-survives : (κs a : _) (n : ℕ) (x : _) → write-table.Post κs a (Ok n) x → (λs b : _) (s : Result ℕ ReadError) (y : _) → read_table.Post λs b s y
    → b.0.now ≡ take n x.1.0.now → read_says s y.1.0.now ≡ wrote (packed (data_of a.0.now)) b.1.0.now
table-survives κs a n x p λs b s y q e =
    write-then-read a.0.now a.1.0.now b.1.0.now (filled n x.1.0.now) (read_says s y.1.0.now) p refl
    (subst (λ (t : List ℕ). ReadCall t b.1.0.now (read_says s y.1.0.now)) e q)

-- two tables that are written alike have the same rulesets and rules
pub texts-apart : (κs a : _) (n : ℕ) (x : _) → write-table.Post κs a (Ok n) x → (λs b : _) (m : ℕ) (y : _) → write-table.Post λs b (Ok m) y
    → take n x.1.0.now ≡ take m y.1.0.now → data_of a.0.now ≡ data_of b.0.now
texts-apart κs a n x p λs b m y q e =
    listings-apart (data_of a.0.now) (data_of b.0.now)
    (table-again a.0.now (written-fits a.0.now a.1.0.now n x.1.0.now p)).0
    (table-again b.0.now (written-fits b.0.now b.1.0.now m y.1.0.now q)).0
    (sym (written-listing a.0.now a.1.0.now n x.1.0.now p) ∙ e ∙ written-listing b.0.now b.1.0.now m y.1.0.now q)
