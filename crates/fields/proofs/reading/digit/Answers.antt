-- `fields::reading::digit` meets its contract.
use native.Mathlib.Omega.{arith}
use Rattle.fields.proofs.Scans.{digit-no, digit-yes}
use Rattle.fields.proofs.reading.digit.Goals as goal

pub returns-in-48-to-57 : goal.returns-in-48-to-57
returns-in-48-to-57 c = record { answers = digit-yes c.args.byte (omega arith) (omega arith) }

pub returns-in_default : goal.returns-in_default
returns-in_default c = record { answers = digit-no c.args.byte (λ x y. omega arith) }

pub returns-in_default-2 : goal.returns-in_default-2
returns-in_default-2 c = record { answers = digit-no c.args.byte (λ x y. omega arith) }
