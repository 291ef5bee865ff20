use mathlib.Core.Path.{ap}
use Prim.Native.Nat.{◌+◌, ◌*◌}
use Rattle.pool.proofs.Words.{taken-full, taken_next}
use Rattle.pool.proofs.Pool.keep.Goals as goal

-- src/lib.rt:108:13
pub returns-then-used-eq-ROOM : goal.returns-then-used-eq-ROOM
returns-then-used-eq-ROOM c = record { answers = taken-full _ _ _ c.if-used-eq-ROOM.true }

-- src/lib.rt:100:5
pub returns : goal.returns
returns c = record {
  answers =
      taken_next _ _ _ c.requires.store_len c.requires.used_le_room c.if-used-eq-ROOM.false c.requires.argument_fits _
      (ap (λ k. 2 * (c.args.prev + 8192 * (c.args.argument.start + 128 * (c.args.argument.end + 128 * (c.args.count + 128 * k))))) c.code_of-code.ensures) _ c.more.ensures;
}
