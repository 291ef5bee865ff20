use native.Mathlib.Omega.{arith}
use Rattle.token.proofs.Bytes.{class-whitespace, white-from}
use borrow.Author.Rules.{rules}
use Rattle.token.proofs.is_whitespace.Goals as goal

pub returns-then-b-ge-LAST_WHITESPACE : goal.returns-then-b-ge-LAST_WHITESPACE
returns-then-b-ge-LAST_WHITESPACE c = record { answers = white-from _ _ c.if-b-ge-LAST_WHITESPACE.true (omega arith) }

pub returns : goal.returns
returns c = record { answers = class-whitespace _ _ (search rules) c.class.ensures }
