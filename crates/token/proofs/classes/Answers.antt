-- The one test of the byte table: antt computes the class of every byte from the rule, and compares the list with the table.
use mathlib.Core.Path.{refl}
use Rattle.plain.specs.Lists.{range, listed}
use Rattle.token.specs.Token.{is_whitespace, lowered, class_kind, class_of}
use Rattle.token.proofs.classes.Goals as goal

pub returns : goal.returns
unfolding range listed class_of lowered class_kind is_whitespace
returns c = record { answers = refl }
