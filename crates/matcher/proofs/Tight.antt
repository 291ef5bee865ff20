-- How tight the promises are: any two answers that a contract allows on the same arguments are equal, in what is returned and
-- in the buffer at exit. Each law is stated over the contract itself, `Post`: its first clause, `answers`, is an equation, and
-- an answer's case is known by its number and fields. So `readings`, `visits` and `agrees`, which say demand 3 of the same
-- answer, leave no more choice.
use mathlib.Core.Path.{◌≡◌}
use Rattle.plain.proofs.Answers.{one_answer}
use Rattle.std.specs.Prelude.{Result}
use Rattle.trials.specs.declared.Matched.{Matched}
use Rattle.trials.specs.declared.Refused.{Refused}
use Rattle.trials.proofs.Tight.{same_answer}
use Rattle.matcher.proofs.match_instr.Reads as match-instr
use Rattle.matcher.proofs.match_with_ruledef_map.Reads as match-with-ruledef-map

pub match_instr-tight : (κs a : _) (r s : Result Matched Refused) (x y : _) → match-instr.Post κs a r x → match-instr.Post κs a s y → (r ≡ s) × (x.1.1.1.1.1.0.now ≡ y.1.1.1.1.1.0.now)
match_instr-tight κs a r s x y p q = same_answer r s _ _ (one_answer p.0 q.0)

pub match_with_ruledef_map-tight : (κs a : _) (r s : Result Matched Refused) (x y : _) → match-with-ruledef-map.Post κs a r x → match-with-ruledef-map.Post κs a s y
    → (r ≡ s) × (x.1.1.1.1.1.0.now ≡ y.1.1.1.1.1.0.now)
match_with_ruledef_map-tight κs a r s x y p q = same_answer r s _ _ (one_answer p.0 q.0)
