-- `fields::writing::put_word` meets its contract. The loop's invariant: what is left of the word is to be laid from here.
use lib.ListN.{drop}
use Rattle.fields.proofs.Laying.{Laying}
use Rattle.fields.proofs.writing.put_word.Given as goal

abbrev pub invariant-loop-byte : goal.invariant-loop-byte
invariant-loop-byte l = Laying l.initial.text l.at l.word l.text l.to (drop l.byte-index l.word)
