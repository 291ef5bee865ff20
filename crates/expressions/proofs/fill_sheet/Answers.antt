-- `fill_sheet` meets its contract.
use mathlib.Core.Path.{refl}
use native.Mathlib.Omega.{arith}
use Rattle.std.proofs.lemmas.Result.{err_from_is_err_and}
use Rattle.line.proofs.Faults.{line-good, line-bad}
use Rattle.expressions.proofs.Called.{short, square, line_refused, room-refused, good-room, sheet-filled}
use Rattle.expressions.proofs.fill_sheet.Goals as goal

pub returns-in_err-check_line-clause-answers : goal.returns-in_err-check_line-clause-answers
returns-in_err-check_line-clause-answers c =
    let (error, is, gives) = err_from_is_err_and c.from_residual.result c.from_residual.ensures.1 in
    rw (is, gives) ((line_refused c.args.line.now c.args.sheet.now _ (line-bad c.args.line.now _ c.check_line.ensures.answers c.in_err-check_line.was)).0)

pub overflow_mul-words : goal.overflow_mul-words
overflow_mul-words c = omega (arith, square c.args.line.now c.args.sheet.now (line-good c.args.line.now _ c.check_line.ensures.answers c.in_ok-check_line.was))

pub overflow_mul-words-2 : goal.overflow_mul-words-2
overflow_mul-words-2 c = omega (arith, square c.args.line.now c.args.sheet.now (line-good c.args.line.now _ c.check_line.ensures.answers c.in_ok-check_line.was))

pub returns-then-sheet-words-clause-answers : goal.returns-then-sheet-words-clause-answers
returns-then-sheet-words-clause-answers c = let whole = room-refused c.args.line.now c.args.sheet.now (line-good c.args.line.now _ c.check_line.ensures.answers c.in_ok-check_line.was) c.if-sheet-words.true in whole.0

pub fill-requires-clause-line_len_bound : goal.fill-requires-clause-line_len_bound
fill-requires-clause-line_len_bound c = short c.args.line.now c.args.sheet.now (line-good c.args.line.now _ c.check_line.ensures.answers c.in_ok-check_line.was)

pub fill-requires-clause-line_value : goal.fill-requires-clause-line_value
fill-requires-clause-line_value c = good-room c.args.line.now c.args.sheet.now (line-good c.args.line.now _ c.check_line.ensures.answers c.in_ok-check_line.was) c.if-sheet-words.false

pub returns-clause-answers : goal.returns-clause-answers
returns-clause-answers c = let whole = sheet-filled c.args.line.now c.args.sheet.now (line-good c.args.line.now _ c.check_line.ensures.answers c.in_ok-check_line.was) c.fill.new.sheet _ refl (good-room c.args.line.now c.args.sheet.now (line-good c.args.line.now _ c.check_line.ensures.answers c.in_ok-check_line.was) c.if-sheet-words.false) c.fill.ensures in whole.0

pub returns-clause-fits : goal.returns-clause-fits
returns-clause-fits c = let whole = sheet-filled c.args.line.now c.args.sheet.now (line-good c.args.line.now _ c.check_line.ensures.answers c.in_ok-check_line.was) c.fill.new.sheet _ refl (good-room c.args.line.now c.args.sheet.now (line-good c.args.line.now _ c.check_line.ensures.answers c.in_ok-check_line.was) c.if-sheet-words.false) c.fill.ensures in whole.1
