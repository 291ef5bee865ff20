-- What is laid is sorted where it stands.
use Rattle.prefix_order.proofs.Entries.{lay-asked, sorted_all}
use Rattle.prefix_order.proofs.order_rules.Goals as goal

pub lay_entries-requires : goal.lay_entries-requires
lay_entries-requires c = lay-asked c.requires

pub returns : goal.returns
returns c = record { answers = sorted_all c.requires c.lay_entries.ensures c.sort.ensures.answers }
