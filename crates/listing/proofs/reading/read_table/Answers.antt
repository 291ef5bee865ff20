-- `listing::reading::read_table` meets its contract: 15, then 16, else the packed words.
use native.Mathlib.Omega.{arith}
use Rattle.std.proofs.lemmas.Result.{err_from_is_err_and}
use Rattle.listing.proofs.Lines.{listed_small}
use Rattle.listing.proofs.Told.{said-listed, said-bad, said-short, said-whole}
use Rattle.listing.proofs.reading.read_table.Goals as goal

pub overflow_add-words : goal.overflow_add-words
overflow_add-words c = omega (arith, listed_small c.args.text.now _ _ _ (said-listed c.args.text.now _ _ c.in_ok-sizes.was c.judge.ensures.says))

pub overflow_mul-words : goal.overflow_mul-words
overflow_mul-words c = omega (arith, listed_small c.args.text.now _ _ _ (said-listed c.args.text.now _ _ c.in_ok-sizes.was c.judge.ensures.says))

pub overflow_add-words-2 : goal.overflow_add-words-2
overflow_add-words-2 c = omega (arith, listed_small c.args.text.now _ _ _ (said-listed c.args.text.now _ _ c.in_ok-sizes.was c.judge.ensures.says))

pub overflow_add-words-3 : goal.overflow_add-words-3
overflow_add-words-3 c = omega (arith, listed_small c.args.text.now _ _ _ (said-listed c.args.text.now _ _ c.in_ok-sizes.was c.judge.ensures.says))

pub returns-then-table-words : goal.returns-then-table-words
returns-then-table-words c = record { answers = said-short c.args.text.now _ _ _ c.args.table.now (said-listed c.args.text.now _ _ c.in_ok-sizes.was c.judge.ensures.says) (omega arith) }

pub overflow_cast-result : goal.overflow_cast-result
overflow_cast-result c = omega (arith, listed_small c.args.text.now _ _ _ (said-listed c.args.text.now _ _ c.in_ok-sizes.was c.judge.ensures.says))

pub returns-in_err-sizes : goal.returns-in_err-sizes
returns-in_err-sizes c =
    let p = err_from_is_err_and c.from_residual.result c.from_residual.ensures.1 in
    record { answers = rw (p.1, p.2) (said-bad c.args.text.now c.args.table.now _ _ c.in_err-sizes.was c.judge.ensures.says) }

pub returns : goal.returns
returns c = record { answers = said-whole c.args.text.now _ _ _ c.args.table.now _ (said-listed c.args.text.now _ _ c.in_ok-sizes.was c.judge.ensures.says) (omega arith) c.lay_table.ensures.laid }
