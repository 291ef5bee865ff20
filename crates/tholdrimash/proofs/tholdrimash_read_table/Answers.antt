-- `tholdrimash_read_table` meets its contract: reading's answer, as the C struct's fields.
use Rattle.tholdrimash.proofs.Said.{call-of}
use Rattle.tholdrimash.proofs.tholdrimash_read_table.Goals as goal

pub returns : goal.returns
returns c = record { answers = call-of _ _ (c.into.ensures _) c.read_table.ensures.answers }
