-- Three stores, one after another, are three words put into the answer.
use Rattle.plain.proofs.Buffers.{put_three}
use Rattle.words.proofs.write_words.Goals as goal

pub returns : goal.returns
returns c = put_three _ _ _ _ _ c.requires.at_in_bounds
