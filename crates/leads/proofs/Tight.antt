-- How tight the promises are: any two answers that a function's contract allows on the same arguments are equal. Each law is
-- stated over the contract itself, `Post`, so a weaker contract breaks it. Of leads that are laid every word is known: a rule of
-- the kind has its own, and every other word is as it was.
use mathlib.Core.Path.{◌≡◌, sym, ◌∙◌}
use mathlib.Core.Logic.{⊎_elim}
use mathlib.Core.List.{List}
use Prim.Native.Nat.{ℕ}
use lib.ListN.{get_or}
use Rattle.plain.proofs.Answers.{one_answer}
use Rattle.std.specs.Prelude.{Option}
use Rattle.leads.specs.Leads.{Led}
use Rattle.leads.proofs.prefix_key.Reads as prefix-key
use Rattle.leads.proofs.look_ahead.Reads as look-ahead
use Rattle.leads.proofs.failing_visits.Reads as failing-visits
use Rattle.leads.proofs.lead_listed.Reads as lead-listed
use Rattle.leads.proofs.lead_nested.Reads as lead-nested

pub prefix_key-tight : (κs a : _) (r s : ℕ) (x y : _) → prefix-key.Post κs a r x → prefix-key.Post κs a s y → r ≡ s
prefix_key-tight κs a r s x y p q = one_answer p.0 q.0

pub look_ahead-tight : (κs a : _) (r s : Option ℕ) (x y : _) → look-ahead.Post κs a r x → look-ahead.Post κs a s y → r ≡ s
look_ahead-tight κs a r s x y = one_answer

pub failing_visits-tight : (κs a : _) (r s : Option ℕ) (x y : _) → failing-visits.Post κs a r x → failing-visits.Post κs a s y → r ≡ s
failing_visits-tight κs a r s x y = one_answer

pub led-same : {t : List ℕ} {Of : ℕ → Type 0} {before a b : List ℕ} → Led t Of before a → Led t Of before b → (i : ℕ) → get_or a i 0 ≡ get_or b i 0
led-same x y i =
    ⊎_elim (λ o. x.here i o ∙ sym (y.here i o)) (λ e. ⊎_elim (λ o. x.here i o ∙ sym (y.here i o)) (λ f. e ∙ sym f) (y.others i)) (x.others i)

pub lead_listed-tight : (κs a r s x y : _) → lead-listed.Post κs a r x → lead-listed.Post κs a s y → (i : ℕ) → ◌≡◌ {A = ℕ} (get_or x.1.1.1.0.now i 0) (get_or y.1.1.1.0.now i 0)
lead_listed-tight κs a r s x y = led-same

pub lead_nested-tight : (κs a r s x y : _) → lead-nested.Post κs a r x → lead-nested.Post κs a s y → (i : ℕ) → ◌≡◌ {A = ℕ} (get_or x.1.1.0.now i 0) (get_or y.1.1.0.now i 0)
lead_nested-tight κs a r s x y = led-same
