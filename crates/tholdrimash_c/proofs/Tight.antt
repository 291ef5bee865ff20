-- How tight the promises of the exports are, as in `tholdrimash`: any two answers that a contract allows on the same arguments
-- are equal, in the C struct's fields and in what was lent, as it stands at exit. Each law is stated over the contract itself,
-- `Post`, whose first clause, `answers`, is an equation of all of them; reading's and filling's allow one thing to be told, as
-- `listing` and `expressions` prove.
use mathlib.Core.Path.{◌≡◌}
use mathlib.Core.List.{List}
use Prim.Native.Nat.{ℕ}
use Rattle.plain.proofs.Answers.{one_answer}
use Rattle.listing.proofs.Told.{read_call-one}
use Rattle.expressions.proofs.Called.{fill-call-one}
use Rattle.tholdrimash.specs.declared.TholdrimashAnswer.{TholdrimashAnswer}
use Rattle.tholdrimash.specs.declared.TholdrimashSelection.{TholdrimashSelection}
use Rattle.tholdrimash.specs.Interface.{told, told_whole, chose}
use Rattle.tholdrimash_c.proofs.tholdrimash_match.Reads as match
use Rattle.tholdrimash_c.proofs.tholdrimash_lookup.Reads as lookup
use Rattle.tholdrimash_c.proofs.tholdrimash_select.Reads as select
use Rattle.tholdrimash_c.proofs.tholdrimash_read_table.Reads as read_table
use Rattle.tholdrimash_c.proofs.tholdrimash_write_table.Reads as write-table
use Rattle.tholdrimash_c.proofs.tholdrimash_fill_sheet.Reads as fill-sheet
use Rattle.tholdrimash_c.proofs.tholdrimash_match_program.Reads as match-program
use Rattle.tholdrimash_c.proofs.tholdrimash_lookup_program.Reads as lookup-program

same-told : (r s : TholdrimashAnswer) (b c : List ℕ) → told r b ≡ told s c → (r ≡ s) × (b ≡ c)
same-told r s b c e = (λ i. record { number = (e i).number; visits = (e i).visits; words = (e i).words; place = (e i).place }, λ i. (e i).buffer)

same_whole : (r s : TholdrimashAnswer) (v w b c : List ℕ) → told_whole r v b ≡ told_whole s w c → (r ≡ s) × (v ≡ w) × (b ≡ c)
same_whole r s v w b c e = let (p, q) = same-told r s b c (λ i. (e i).told) in (p, (λ i. (e i).rows), q)

same-choice : (r s : TholdrimashSelection) (v w b c : List ℕ) → chose r v b ≡ chose s w c → (r ≡ s) × (v ≡ w) × (b ≡ c)
same-choice r s v w b c e = (λ i. record { number = (e i).number; count = (e i).count }, (λ i. (e i).words), λ i. (e i).buffer)

pub match-tight : (κs a : _) (r s : TholdrimashAnswer) (x y : _) → match.Post κs a r x → match.Post κs a s y → (r ≡ s) × (x.1.1.1.1.1.0.now ≡ y.1.1.1.1.1.0.now)
match-tight κs a r s x y p q = same-told r s _ _ (one_answer p.0 q.0)

pub lookup-tight : (κs a : _) (r s : TholdrimashAnswer) (x y : _) → lookup.Post κs a r x → lookup.Post κs a s y → (r ≡ s) × (x.1.1.1.1.1.0.now ≡ y.1.1.1.1.1.0.now)
lookup-tight κs a r s x y p q = same-told r s _ _ (one_answer p.0 q.0)

pub select-tight : (κs a : _) (r s : TholdrimashSelection) (x y : _) → select.Post κs a r x → select.Post κs a s y
    → (r ≡ s) × (x.0.now ≡ y.0.now) × (x.1.1.0.now ≡ y.1.1.0.now)
select-tight κs a r s x y p q = same-choice r s _ _ _ _ (one_answer p.0 q.0)

pub read_table-tight : (κs a : _) (r s : TholdrimashAnswer) (x y : _) → read_table.Post κs a r x → read_table.Post κs a s y → (r ≡ s) × (x.1.0.now ≡ y.1.0.now)
read_table-tight κs a r s x y p q = same-told r s _ _ (read_call-one _ _ _ _ p q)

pub write_table-tight : (κs a : _) (r s : TholdrimashAnswer) (x y : _) → write-table.Post κs a r x → write-table.Post κs a s y → (r ≡ s) × (x.1.0.now ≡ y.1.0.now)
write_table-tight κs a r s x y p q = same-told r s _ _ (one_answer p q)

pub fill_sheet-tight : (κs a : _) (r s : TholdrimashAnswer) (x y : _) → fill-sheet.Post κs a r x → fill-sheet.Post κs a s y → (r ≡ s) × (x.1.0.now ≡ y.1.0.now)
fill_sheet-tight κs a r s x y p q = same-told r s _ _ (fill-call-one _ _ _ _ p.0 q.0)

pub match_program-tight : (κs a : _) (r s : TholdrimashAnswer) (x y : _) → match-program.Post κs a r x → match-program.Post κs a s y
    → (r ≡ s) × (x.1.1.1.1.1.1.0.now ≡ y.1.1.1.1.1.1.0.now) × (x.1.1.1.1.1.1.1.0.now ≡ y.1.1.1.1.1.1.1.0.now)
match_program-tight κs a r s x y p q = same_whole r s _ _ _ _ (one_answer p.0 q.0)

pub lookup_program-tight : (κs a : _) (r s : TholdrimashAnswer) (x y : _) → lookup-program.Post κs a r x → lookup-program.Post κs a s y
    → (r ≡ s) × (x.1.1.1.1.1.1.0.now ≡ y.1.1.1.1.1.1.0.now) × (x.1.1.1.1.1.1.1.0.now ≡ y.1.1.1.1.1.1.1.0.now)
lookup_program-tight κs a r s x y p q = same_whole r s _ _ _ _ (one_answer p.0 q.0)
