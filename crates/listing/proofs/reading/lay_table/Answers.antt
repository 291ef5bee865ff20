-- `listing::reading::lay_table` meets its contract: head, flags, records and parts.
use mathlib.Core.Path.{◌∙◌}
use native.Mathlib.Omega.{arith}
use Rattle.listing.specs.Packing.{listed_in}
use Rattle.listing.proofs.Lines.{listed_small}
use Rattle.listing.proofs.Records.{packed-laid, rules-of}
use Rattle.listing.proofs.reading.lay_table.Goals as goal

pub lay_three-requires-clause-first_bound : goal.lay_three-requires-clause-first_bound
lay_three-requires-clause-first_bound c = let z = listed_small c.args.text.now _ _ _ c.requires.listed in omega (arith, z)

pub lay_three-requires-clause-second_bound : goal.lay_three-requires-clause-second_bound
lay_three-requires-clause-second_bound c = let z = listed_small c.args.text.now _ _ _ c.requires.listed in omega (arith, z)

pub lay_three-requires-clause-third_bound : goal.lay_three-requires-clause-third_bound
lay_three-requires-clause-third_bound c = let z = listed_small c.args.text.now _ _ _ c.requires.listed in omega (arith, z)

pub lay_rules-requires-clause-listed : goal.lay_rules-requires-clause-listed
lay_rules-requires-clause-listed c = record { rules = (listed_in c.args.text.now).rules; sizes = rules-of c.args.text.now _ _ _ c.requires.listed; are = c.lay_tops-rules.ensures.rules }

pub returns : goal.returns
returns c = record {
  laid = c.lay_rules.ensures.laid _ (rules-of c.args.text.now _ _ _ c.requires.listed) c.lay_tops-rules.ensures.rules
      ∙ packed-laid c.args.text.now _ _ _ c.requires.listed c.args.table.now _ _ c.lay_three.ensures.laid c.lay_tops-rules.ensures.flags;
}
