use mathlib.Core.Path.{refl}
use Rattle.pool.proofs.Words.{taken-full, taken_next}
use Rattle.pool.proofs.Pool.complete.Goals as goal

-- src/lib.rt:134:13
pub returns-then-used-eq-ROOM : goal.returns-then-used-eq-ROOM
returns-then-used-eq-ROOM c = record { answers = taken-full _ _ _ c.if-used-eq-ROOM.true }

-- src/lib.rt:118:5
pub returns : goal.returns
returns c = record { answers = taken_next _ _ _ c.requires.store_len c.requires.used_le_room c.if-used-eq-ROOM.false c.requires.cases _ refl _ c.more.ensures }
