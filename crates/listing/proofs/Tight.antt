-- How tight the promises are: any two answers that a contract allows on the same arguments are equal, in what is returned and
-- in the lent memory at exit. Each law is stated over the contract itself, `Post`: reading's promise allows one thing to be
-- told, since two data never have the same listing and a text has one first bad line; writing's is an equation; and an
-- answer's case is known by its number and fields.
use mathlib.Core.Path.{◌≡◌, refl, sym, ap, ◌∙◌}
use mathlib.Core.List.{List}
use Prim.Native.Nat.{ℕ}
use lib.Dec.{eqb}
use Rattle.plain.specs.Choice.{select}
use Rattle.plain.specs.Told.{Told}
use Rattle.plain.proofs.Answers.{one_answer}
use Rattle.std.specs.Prelude.{Result, Ok, Err}
use Rattle.listing.specs.declared.reading.ReadError.{ReadError}
use Rattle.listing.specs.declared.reading.ReadError.TheVariants as reading
use Rattle.listing.specs.declared.writing.WriteError.{WriteError}
use Rattle.listing.specs.declared.writing.WriteError.TheVariants as writing
use Rattle.listing.specs.Calls.{read_says, write_says}
use Rattle.listing.proofs.Told.{read_call-one}
use Rattle.listing.proofs.reading.read_table.Reads as read_table
use Rattle.listing.proofs.writing.write_table.Reads as write-table

-- the case of a number and fields
read-case : Told → Result ℕ ReadError
read-case r = select (eqb r.number 0) (Ok r.words) (Err (select (eqb r.number 15) (reading.BadText r.place) reading.NoRoom))

read_same : (a c : Result ℕ ReadError) (b d : List ℕ) → read_says a b ≡ read_says c d → (a ≡ c) × (b ≡ d)
unfolding read-case
read_same a c b d e = (sym (back a b) ∙ ap read-case e ∙ back c d, sym (left a b) ∙ ap (λ (r : Told). r.buffer) e ∙ left c d)
  where
    back : (q : Result ℕ ReadError) (m : List ℕ) → read-case (read_says q m) ≡ q
    back (Ok n) m = refl
    back (Err (reading.BadText k)) m = refl
    back (Err reading.NoRoom) m = refl

    left : (q : Result ℕ ReadError) (m : List ℕ) → (read_says q m).buffer ≡ m
    left (Ok n) m = refl
    left (Err (reading.BadText k)) m = refl
    left (Err reading.NoRoom) m = refl

write-case : Told → Result ℕ WriteError
write-case r = select (eqb r.number 0) (Ok r.words) (Err (select (eqb r.number 2) writing.BadTable writing.NoRoom))

write_same : (a c : Result ℕ WriteError) (b d : List ℕ) → write_says a b ≡ write_says c d → (a ≡ c) × (b ≡ d)
unfolding write-case
write_same a c b d e = (sym (back a b) ∙ ap write-case e ∙ back c d, sym (left a b) ∙ ap (λ (r : Told). r.buffer) e ∙ left c d)
  where
    back : (q : Result ℕ WriteError) (m : List ℕ) → write-case (write_says q m) ≡ q
    back (Ok n) m = refl
    back (Err writing.BadTable) m = refl
    back (Err writing.NoRoom) m = refl

    left : (q : Result ℕ WriteError) (m : List ℕ) → (write_says q m).buffer ≡ m
    left (Ok n) m = refl
    left (Err writing.BadTable) m = refl
    left (Err writing.NoRoom) m = refl

pub read_table-tight : (κs a : _) (r s : Result ℕ ReadError) (x y : _) → read_table.Post κs a r x → read_table.Post κs a s y → (r ≡ s) × (x.1.0.now ≡ y.1.0.now)
read_table-tight κs a r s x y p q = read_same r s _ _ (read_call-one _ _ _ _ p q)

pub write_table-tight : (κs a : _) (r s : Result ℕ WriteError) (x y : _) → write-table.Post κs a r x → write-table.Post κs a s y → (r ≡ s) × (x.1.0.now ≡ y.1.0.now)
write_table-tight κs a r s x y p q = write_same r s _ _ (one_answer p q)
