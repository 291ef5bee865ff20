-- `fields::writing::put_number` meets its contract.
use mathlib.Core.Path.{sym, ap}
use native.Mathlib.Omega.{arith}
use lib.ListN.{length}
use Rattle.printing.specs.Listing.{decimal}
use mathlib.Core.List.{[], ◌∷◌}
use Rattle.printing.proofs.Decimals.{decimal-one, decimal-two}
use Rattle.fields.proofs.Laying.{laid_then, laid_as, ready-short}
use Rattle.fields.proofs.writing.put_number.Goals as goal

pub put-requires : goal.put-requires
put-requires c = ready-short (decimal c.args.number) (_ ∷ []) (omega (arith, ap length (decimal-one c.args.number (omega arith)))) c.requires.ready

pub returns-then-number-lt-TEN : goal.returns-then-number-lt-TEN
returns-then-number-lt-TEN c = record { answers = laid_as (sym (decimal-one c.args.number (omega arith))) c.put.ensures.answers }

pub put-to-requires : goal.put-to-requires
put-to-requires c = ready-short (decimal c.args.number) (_ ∷ []) (omega (arith, ap length (decimal-two c.args.number (omega arith) c.requires.number_bound))) c.requires.ready

pub put-requires-2 : goal.put-requires-2
put-requires-2 c = record { small = omega (arith, c.requires.ready.small, c.put-to.ensures.answers.to, ap length (decimal-two c.args.number (omega arith) c.requires.number_bound)) }

pub returns : goal.returns
returns c = record { answers = laid_as (sym (decimal-two c.args.number (omega arith) c.requires.number_bound)) (laid_then c.put-to.ensures.answers c.put-2.ensures.answers) }
