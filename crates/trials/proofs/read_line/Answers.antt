-- `trials::read_line` meets its contract.
use mathlib.Core.Path.{refl}
use native.Mathlib.Omega.{arith}
use Rattle.trials.proofs.Telling.{line-good, try-asked, listed_by, stopped-by, call-within, call-stopped, call-left, call-asked, call-told}
use Rattle.trials.proofs.read_line.Goals as goal

pub find_places-requires-clause-good_line : goal.find_places-requires-clause-good_line
find_places-requires-clause-good_line c = line-good c.requires.read_asked

pub try_rules-requires-clause-try_asked : goal.try_rules-requires-clause-try_asked
try_rules-requires-clause-try_asked c = try-asked c.requires.read_asked

pub try_rules-requires-clause-prepared : goal.try_rules-requires-clause-prepared
try_rules-requires-clause-prepared c = record { places = record { short = (line-good c.requires.read_asked).short; are = c.find_places.ensures.answers }; leads = c.requires.leads }

pub invariant_of-lent : goal.invariant_of-lent
invariant_of-lent c = record { bytes = λ i. omega (arith, c.type_inv.line i) }

pub overflow_sub-visits : goal.overflow_sub-visits
overflow_sub-visits c = call-within c.requires.read_asked c.in-Err.stop.why (stopped-by c.try_rules.ensures c.in-Err.is)

pub overflow_sub-visits-in-Ok : goal.overflow_sub-visits-in-Ok
overflow_sub-visits-in-Ok c = call-left c.requires.read_asked (listed_by c.try_rules.ensures c.in-Ok.is)

pub tell-requires : goal.tell-requires
tell-requires c = call-asked c.requires.read_asked (listed_by c.try_rules.ensures c.in-Ok.is) (omega (arith, c.try_rules.auto, c.requires.read_asked.sized))

pub returns-in-Err : goal.returns-in-Err
returns-in-Err c = record { answers = call-stopped c.requires.read_asked c.in-Err.stop.why (stopped-by c.try_rules.ensures c.in-Err.is) c.stopped.result _ _ refl c.stopped.ensures }

pub returns-in-Ok : goal.returns-in-Ok
returns-in-Ok c = record { answers = call-told c.requires.read_asked (listed_by c.try_rules.ensures c.in-Ok.is) _ _ _ refl c.tell.ensures }
