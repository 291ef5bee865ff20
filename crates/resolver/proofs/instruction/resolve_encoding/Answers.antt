-- `resolver::instruction::resolve_encoding` meets its contract: each answer is a law of proofs/Call.antt, cited with
-- what the passes found and the tests that led there.
use mathlib.Core.Path.{◌≡◌}
use mathlib.Core.Logic.{◌⊎◌, ⊎_elim}
use mathlib.Core.Bool.{Bool, true, false, ◌&&◌}
use mathlib.Core.List.{List, map}
use Prim.Native.Nat.{ℕ, ◌≤◌}
use native.Mathlib.Omega.{arith}
use borrow.Author.Tests.{lt-ltb, le-ltb}
use lib.Dec.{ltb}
use lib.ListN.{length}
use Rattle.plain.proofs.Tests.{and-false-left, and-false-right}
use Rattle.std.specs.Prelude.{Some}
use Rattle.resolver.specs.Outcome.{outcome_of}
use Rattle.resolver.specs.Passes.{Tallied, Smallest}
use Rattle.resolver.specs.declared.instruction.Least.{Least}
use Rattle.resolver.proofs.Call.{Found, none-bad, room_for, too_many, bad-word, none-resolved}
use Rattle.resolver.proofs.Call.{none-known, tie-on-last, no_room, chosen}
use Rattle.resolver.proofs.instruction.resolve_encoding.Goals as goal

-- past the third test some outcome is known, and the least size has been sought
found :
    {ws : List ℕ} {bad resolved known guesses : ℕ} {least : Least} → length ws ≤ 4096 →
    Tallied ws bad resolved known guesses → bad ≤ 0 → (resolved ≡ 0 → ⊥) → Smallest (map outcome_of ws) (Some least) → Found ws resolved guesses least
found few tally none some_resolved smallest =
    record { judged = none-bad few tally none; some_resolved = some_resolved; smallest = smallest }

-- past the tests for a tie there is none
no_tie : (last : Bool) (n : ℕ) → ((last ≡ true) × (n ≤ 1)) ⊎ (last ≡ false) → (last && ltb 1 n) ≡ false
no_tie last n = ⊎_elim (λ few. and-false-right last _ (le-ltb 1 n few.1)) (λ guessing. and-false-left last _ guessing)

pub returns-then-words-gt-MOST_WORDS-clause-answers : goal.returns-then-words-gt-MOST_WORDS-clause-answers
returns-then-words-gt-MOST_WORDS-clause-answers c = (too_many _ _ _ (omega arith)).0

pub returns-then-words-gt-MOST_WORDS-clause-last_pass : goal.returns-then-words-gt-MOST_WORDS-clause-last_pass
returns-then-words-gt-MOST_WORDS-clause-last_pass c = (too_many _ _ _ (omega arith)).1

pub returns-then-tally-gt0-clause-answers : goal.returns-then-tally-gt0-clause-answers
returns-then-tally-gt0-clause-answers c = (bad-word _ _ _ (omega arith) c.judge-tally.ensures.tally c.if-tally-gt0.true).0

pub returns-then-tally-gt0-clause-last_pass : goal.returns-then-tally-gt0-clause-last_pass
returns-then-tally-gt0-clause-last_pass c = (bad-word _ _ _ (omega arith) c.judge-tally.ensures.tally c.if-tally-gt0.true).1

pub returns-then-tally-eq0-clause-answers : goal.returns-then-tally-eq0-clause-answers
returns-then-tally-eq0-clause-answers c = (none-resolved _ _ _ (none-bad (omega arith) c.judge-tally.ensures.tally c.if-tally-gt0.false) c.if-tally-eq0.true).0

pub returns-then-tally-eq0-clause-last_pass : goal.returns-then-tally-eq0-clause-last_pass
returns-then-tally-eq0-clause-last_pass c = (none-resolved _ _ _ (none-bad (omega arith) c.judge-tally.ensures.tally c.if-tally-gt0.false) c.if-tally-eq0.true).1

pub returns-in_default-clause-answers : goal.returns-in_default-clause-answers
returns-in_default-clause-answers c = (none-known _ _ _ (none-bad (omega arith) c.judge-tally.ensures.tally c.if-tally-gt0.false) c.if-tally-eq0.false (rw c.in_default.is at c.smallest.ensures.least)).0

pub returns-in_default-clause-last_pass : goal.returns-in_default-clause-last_pass
returns-in_default-clause-last_pass c = (none-known _ _ _ (none-bad (omega arith) c.judge-tally.ensures.tally c.if-tally-gt0.false) c.if-tally-eq0.false (rw c.in_default.is at c.smallest.ensures.least)).1

pub smallest-requires-clause-good : goal.smallest-requires-clause-good
smallest-requires-clause-good c = (none-bad (omega arith) c.judge-tally.ensures.tally c.if-tally-gt0.false).good

pub smallest-requires-clause-known : goal.smallest-requires-clause-known
smallest-requires-clause-known c = c.judge-tally.ensures.tally.knowns

pub mark-requires-clause-good : goal.mark-requires-clause-good
mark-requires-clause-good c = (none-bad (omega arith) c.judge-tally.ensures.tally c.if-tally-gt0.false).good

pub returns-then-count-gt1-clause-answers : goal.returns-then-count-gt1-clause-answers
returns-then-count-gt1-clause-answers c = (tie-on-last _ _ _ (found (omega arith) c.judge-tally.ensures.tally c.if-tally-gt0.false c.if-tally-eq0.false (rw c.in-Some.is at c.smallest.ensures.least)) (cc) (lt-ltb _ _ c.if-count-gt1.true) c.mark.ensures.marked).0

pub returns-then-count-gt1-clause-last_pass : goal.returns-then-count-gt1-clause-last_pass
returns-then-count-gt1-clause-last_pass c = (tie-on-last _ _ _ (found (omega arith) c.judge-tally.ensures.tally c.if-tally-gt0.false c.if-tally-eq0.false (rw c.in-Some.is at c.smallest.ensures.least)) (cc) (lt-ltb _ _ c.if-count-gt1.true) c.mark.ensures.marked).1

pub returns-then-count-chosen-clause-answers : goal.returns-then-count-chosen-clause-answers
returns-then-count-chosen-clause-answers c = (no_room _ _ _ (found (omega arith) c.judge-tally.ensures.tally c.if-tally-gt0.false c.if-tally-eq0.false (rw c.in-Some.is at c.smallest.ensures.least)) (no_tie _ _ c.else-last.either) (omega arith)).0

pub returns-then-count-chosen-clause-last_pass : goal.returns-then-count-chosen-clause-last_pass
returns-then-count-chosen-clause-last_pass c = (no_room _ _ _ (found (omega arith) c.judge-tally.ensures.tally c.if-tally-gt0.false c.if-tally-eq0.false (rw c.in-Some.is at c.smallest.ensures.least)) (no_tie _ _ c.else-last.either) (omega arith)).1

pub write-requires-clause-room : goal.write-requires-clause-room
write-requires-clause-room c = room_for (found (omega arith) c.judge-tally.ensures.tally c.if-tally-gt0.false c.if-tally-eq0.false (rw c.in-Some.is at c.smallest.ensures.least)) c.if-count-chosen.false

pub mark-requires-2-clause-good : goal.mark-requires-2-clause-good
mark-requires-2-clause-good c = (none-bad (omega arith) c.judge-tally.ensures.tally c.if-tally-gt0.false).good

pub returns-clause-answers : goal.returns-clause-answers
returns-clause-answers c = (chosen _ _ _ (found (omega arith) c.judge-tally.ensures.tally c.if-tally-gt0.false c.if-tally-eq0.false (rw c.in-Some.is at c.smallest.ensures.least)) (no_tie _ _ c.else-last.either) c.if-count-chosen.false c.mark-2.ensures.marked c.write.ensures.written).0

pub returns-clause-last_pass : goal.returns-clause-last_pass
returns-clause-last_pass c = (chosen _ _ _ (found (omega arith) c.judge-tally.ensures.tally c.if-tally-gt0.false c.if-tally-eq0.false (rw c.in-Some.is at c.smallest.ensures.least)) (no_tie _ _ c.else-last.either) c.if-count-chosen.false c.mark-2.ensures.marked c.write.ensures.written).1
