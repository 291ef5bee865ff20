use Rattle.program.proofs.Rows.{matched_row, refused_row}
use Rattle.program.proofs.RowFromResultMatchedRefused.from.Goals as goal

pub returns-in-Ok : goal.returns-in-Ok
returns-in-Ok c = rw c.in-Ok.is (matched_row _)

pub returns-in-Err : goal.returns-in-Err
returns-in-Err c = rw c.in-Err.is (refused_row _ _ c.number_of.ensures)
