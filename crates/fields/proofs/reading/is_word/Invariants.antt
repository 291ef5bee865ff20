-- `fields::reading::is_word` meets its contract. The loop's invariant: what is left is the same exactly if all is.
use mathlib.Core.Path.{◌≡◌}
use lib.ListN.{drop}
use Rattle.printing.specs.Reading.{same}
use Rattle.fields.proofs.reading.is_word.Given as goal

abbrev pub invariant-loop-at : goal.invariant-loop-at
invariant-loop-at l = same (drop l.at l.field) (drop l.at l.word) ≡ same l.field l.word
