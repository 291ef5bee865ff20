use mathlib.Core.Path.{sym, subst}
use Prim.Native.Nat.{◌+◌}
use lib.ListN.{set}
use Rattle.listing.proofs.Steps.{is_there, what_is}
use Rattle.listing.proofs.Flags.{TopsLeft, tops_first, top-ended, top-parted, tops_next}
use Rattle.listing.proofs.reading.lay_tops.Goals as goal

pub loop-set-init : goal.loop-set-init
loop-set-init c = tops_first c.args.text.now _ _ _ c.args.table.now c.requires.listed

pub unwrap-requires : goal.unwrap-requires
unwrap-requires c = is_there _ c.split_once.result (top-ended c.args.text.now _ _ _ c.requires.listed c.args.table.now c.loop-set.table c.loop-set.rest.now c.loop-set.set c.loop-set.invariant c.loop-set-test.true) c.split_once.ensures.answers

pub unwrap-requires-in-loop-set : goal.unwrap-requires-in-loop-set
unwrap-requires-in-loop-set c =
    is_there _ c.split_once-in-loop-set.result (top-parted c.args.text.now _ _ _ c.requires.listed c.args.table.now c.loop-set.table c.loop-set.rest.now c.loop-set.set c.loop-set.invariant c.loop-set-test.true _ _ (what_is _ _ c.split_once.result _ c.unwrap.ensures c.split_once.ensures.answers)) c.split_once-in-loop-set.ensures.answers

pub loop-set-preserved : goal.loop-set-preserved
loop-set-preserved c =
    subst (λ v. TopsLeft c.args.text.now c.args.table.now (set c.loop-set.table (3 + c.loop-set.set) v) c.unwrap.result.1.now (c.loop-set.set + 1)) (sym c.flag.ensures.answers)
    (tops_next c.args.text.now _ _ _ c.requires.listed c.args.table.now c.loop-set.table c.loop-set.rest.now c.loop-set.set c.loop-set.invariant c.loop-set-test.true _ _ (what_is _ _ c.split_once.result _ c.unwrap.ensures c.split_once.ensures.answers) _ _ (what_is _ _ c.split_once-in-loop-set.result _ c.unwrap-in-loop-set.ensures c.split_once-in-loop-set.ensures.answers))
