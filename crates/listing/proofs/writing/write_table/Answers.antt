-- `listing::writing::write_table` meets its contract: 2, then 16, else the text.
use mathlib.Core.Path.{sym, ◌∙◌}
use native.Mathlib.Omega.{arith}
use Rattle.listing.proofs.Writes.{said-bad, said-short, said-whole, few_bytes}
use Rattle.listing.proofs.writing.write_table.Goals as goal

pub returns-then-not-check_table : goal.returns-then-not-check_table
returns-then-not-check_table c = record { answers = said-bad c.args.table.now c.args.text.now (sym c.check_table.ensures.answers ∙ c.if-not-check_table.true) }

pub returns-then-text-measure : goal.returns-then-text-measure
returns-then-text-measure c = record { answers = said-short c.args.table.now c.args.text.now _ (sym c.check_table.ensures.answers ∙ c.if-not-check_table.false) c.measure.ensures (omega arith) }

pub overflow_cast-result : goal.overflow_cast-result
overflow_cast-result c = omega (arith, few_bytes c.args.table.now c.args.text.now _ _ (sym c.check_table.ensures.answers ∙ c.if-not-check_table.false) c.put_table-bytes.ensures.laid)

pub returns : goal.returns
returns c = record { answers = said-whole c.args.table.now c.args.text.now _ _ _ (sym c.check_table.ensures.answers ∙ c.if-not-check_table.false) c.measure.ensures (omega arith) c.put_table-bytes.ensures.laid }
