-- How tight the promise is: of each rule that was prepared, any two calls that the contract allows leave the same place. It is
-- stated over the contract itself, `Post`.
use mathlib.Core.Path.{◌≡◌}
use Prim.Native.Nat.{ℕ, ◌<◌}
use lib.ListN.{length, get_or}
use Rattle.plain.proofs.Answers.{one_answer}
use Rattle.places.specs.declared.RulePlace.{RulePlace}
use Rattle.places.proofs.place_rules.Reads as place-rules

pub place_rules-tight : (κs a : _) (r s : _) (x y : _) → place-rules.Post κs a r x → place-rules.Post κs a s y → (j : ℕ) → j < length a.1.1.0.now →
    (other : RulePlace) → get_or x.1.1.1.0.now (get_or a.1.1.0.now j 0) other ≡ get_or y.1.1.1.0.now (get_or a.1.1.0.now j 0) other
place_rules-tight κs a r s x y p q j h other = one_answer ((p.each j h).is other) ((q.each j h).is other)
