-- `tholdrimash_fill_sheet` meets its contract: filling's answer, as the C struct's fields.
use Rattle.tholdrimash.proofs.Said.{fills_of}
use Rattle.tholdrimash.proofs.tholdrimash_fill_sheet.Goals as goal

pub returns-clause-answers : goal.returns-clause-answers
returns-clause-answers c = fills_of _ _ (c.into.ensures _) c.fill_sheet.ensures.answers
