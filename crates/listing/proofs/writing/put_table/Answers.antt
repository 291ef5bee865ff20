-- `listing::writing::put_table` meets its contract: the rulesets' lines, then the rules'.
use Rattle.fields.proofs.Laying.{laid_then, laid_as, ready-front, ready-back}
use Rattle.listing.proofs.Writes.{table-text, text-ready}
use Rattle.listing.proofs.writing.put_table.Goals as goal

pub put_tops-to-requires-clause-ready : goal.put_tops-to-requires-clause-ready
put_tops-to-requires-clause-ready c = ready-front _ _ (text-ready c.args.table.now c.requires)

pub put_rules-requires-clause-ready : goal.put_rules-requires-clause-ready
put_rules-requires-clause-ready c = ready-back _ _ (text-ready c.args.table.now c.requires) c.put_tops-to.ensures.laid

pub returns : goal.returns
returns c = record { laid = laid_as (table-text c.args.table.now) (laid_then c.put_tops-to.ensures.laid c.put_rules.ensures.laid) }
