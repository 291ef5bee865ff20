-- How tight the promises are: any two answers that a function's contract allows on the same arguments are equal. Each law is
-- stated over the contract itself, `Post`, so a weaker contract breaks it.
use mathlib.Core.Path.{◌≡◌}
use Rattle.plain.proofs.Answers.{one_answer}
use Rattle.answer.specs.declared.Measure.{Measure}
use Rattle.answer.proofs.measure_answer.Reads as measure-answer
use Rattle.answer.proofs.write_answer.Reads as write-answer

pub measure_answer-tight : (κs a : _) (r s : Measure) (x y : _) → measure-answer.Post κs a r x → measure-answer.Post κs a s y → r ≡ s
measure_answer-tight κs a r s x y = one_answer

-- the lent answer as it stands at exit
pub write_answer-tight : (κs a : _) (r s : _) (x y : _) → write-answer.Post κs a r x → write-answer.Post κs a s y → x.1.1.1.1.1.0.now ≡ y.1.1.1.1.1.0.now
write_answer-tight κs a r s x y = one_answer
