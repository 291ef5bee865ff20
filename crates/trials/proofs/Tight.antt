-- How tight the promises are: any two answers that a contract allows on the same arguments are equal. A line's answer is known
-- by its number and fields.
use mathlib.Core.Path.{◌≡◌, refl, sym, ap, ◌∙◌}
use mathlib.Core.List.{List}
use Rattle.std.specs.Prelude.{Result, Ok, Err}
use Prim.Native.Nat.{ℕ}
use lib.Dec.{eqb}
use lib.ListN.{get_or}
use Rattle.plain.specs.Choice.{select}
use Rattle.plain.specs.Told.{Told}
use Rattle.plain.proofs.Answers.{one_answer}
use Rattle.trials.specs.declared.Matched.{Matched}
use Rattle.trials.specs.declared.Refused.{Refused}
use Rattle.trials.specs.declared.Refused.TheVariants.{NoMatch, BadTable, BadLine, BadSheet, BadBudget, BadBase, Spent, TooDeep, PoolFull, TooLong}
use Rattle.trials.specs.Told.{says}
use Rattle.leads.proofs.Tight.{led-same}
use Rattle.trials.proofs.lead_rules.Reads as lead-rules
use Rattle.trials.proofs.check.Reads as check
use Rattle.trials.proofs.read_line.Reads as read-line

-- the answer of a number and fields
case-of : Told → Result Matched Refused
case-of r =
    select (eqb r.number 0) (Ok (record { visits = r.visits; words = r.words }))
    (select (eqb r.number 1) (Err (NoMatch r.visits))
    (select (eqb r.number 2) (Err BadTable)
    (select (eqb r.number 3) (Err (BadLine r.place))
    (select (eqb r.number 4) (Err BadSheet)
    (select (eqb r.number 5) (Err BadBudget)
    (select (eqb r.number 19) (Err BadBase)
    (select (eqb r.number 6) (Err (Spent r.visits))
    (select (eqb r.number 7) (Err (TooDeep r.visits))
    (select (eqb r.number 8) (Err (PoolFull r.visits)) (Err (TooLong r.visits r.words)))))))))))

case-of-says : (a : Result Matched Refused) (b : List ℕ) → case-of (says a b) ≡ a
unfolding case-of
case-of-says (Ok m) b = refl
case-of-says (Err (NoMatch v)) b = refl
case-of-says (Err BadTable) b = refl
case-of-says (Err (BadLine p)) b = refl
case-of-says (Err BadSheet) b = refl
case-of-says (Err BadBudget) b = refl
case-of-says (Err BadBase) b = refl
case-of-says (Err (Spent v)) b = refl
case-of-says (Err (TooDeep v)) b = refl
case-of-says (Err (PoolFull v)) b = refl
case-of-says (Err (TooLong v w)) b = refl

pub buffer-of : (a : Result Matched Refused) (b : List ℕ) → (says a b).buffer ≡ b
buffer-of (Ok m) b = refl
buffer-of (Err (NoMatch v)) b = refl
buffer-of (Err BadTable) b = refl
buffer-of (Err (BadLine p)) b = refl
buffer-of (Err BadSheet) b = refl
buffer-of (Err BadBudget) b = refl
buffer-of (Err BadBase) b = refl
buffer-of (Err (Spent v)) b = refl
buffer-of (Err (TooDeep v)) b = refl
buffer-of (Err (PoolFull v)) b = refl
buffer-of (Err (TooLong v w)) b = refl

-- an answer and its buffer are known by what they say
pub same_answer : (a c : Result Matched Refused) (b d : List ℕ) → says a b ≡ says c d → (a ≡ c) × (b ≡ d)
same_answer a c b d e =
    (sym (case-of-says a b) ∙ ap case-of e ∙ case-of-says c d, sym (buffer-of a b) ∙ ap (λ (r : Told). r.buffer) e ∙ buffer-of c d)

pub lead_rules-tight : (κs a r s x y : _) → lead-rules.Post κs a r x → lead-rules.Post κs a s y → (i : ℕ) → ◌≡◌ {A = ℕ} (get_or x.1.1.1.1.1.0.now i 0) (get_or y.1.1.1.1.1.0.now i 0)
lead_rules-tight κs a r s x y = led-same

pub check-tight : (κs a : _) (r s : Result Unit Refused) (x y : _) → check.Post κs a r x → check.Post κs a s y → r ≡ s
check-tight κs a r s x y = one_answer

pub read_line-tight : (κs a : _) (r s : Result Matched Refused) (x y : _) → read-line.Post κs a r x → read-line.Post κs a s y → (r ≡ s) × (x.1.1.1.1.1.1.1.1.1.1.1.0.now ≡ y.1.1.1.1.1.1.1.1.1.1.1.0.now)
read_line-tight κs a r s x y p q = same_answer r s _ _ (one_answer p q)
