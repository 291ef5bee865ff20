-- The candidates, added one by one: after two there are at most two, so the third has room.
use mathlib.Core.Path.{◌∙◌}
use mathlib.Core.List.{[]}
use Rattle.lookahead.proofs.Stored.{read_whole, read-cut, held_none, room-two, room-three, ends_held}
use Rattle.lookahead.proofs.find_ends.Goals as goal

pub free-requires : goal.free-requires
free-requires c = record { place = read_whole [] c.args.line.now _ c.requires.line_value _ c.requires.cursor_le_limit c.requires.limit_in_bounds c.get_cursor_index-c.ensures.answers c.get_cursor_limit-l.ensures.answers }

pub free_to_cut-requires : goal.free_to_cut-requires
free_to_cut-requires c = read-cut _ c.args.line.now _ c.requires.line_value _ c.requires.cursor_le_limit c.requires.limit_in_bounds c.get_cursor_index-c.ensures.answers _ c.find_cut-cut.result c.find_cut-cut.ensures.answers

pub add_end-both-requires-clause-count_bound : goal.add_end-both-requires-clause-count_bound
add_end-both-requires-clause-count_bound c = room-two _ _ _ (c.add_end-whole.ensures [] held_none)

pub greedy-requires : goal.greedy-requires
greedy-requires c = record { place = read_whole [] c.args.line.now _ c.requires.line_value _ c.requires.cursor_le_limit c.requires.limit_in_bounds c.get_cursor_index-c.ensures.answers c.get_cursor_limit-l.ensures.answers }

pub add_end-requires-clause-count_bound : goal.add_end-requires-clause-count_bound
add_end-requires-clause-count_bound c = room-three _ _ _ _ (c.add_end-both.ensures _ (c.add_end-whole.ensures [] held_none))

pub returns : goal.returns
returns c = record { answers = c.add_end.ensures _ (c.add_end-both.ensures _ (c.add_end-whole.ensures [] held_none)) ∙ ends_held _ _ _ _ _ _ c.get_cursor_limit-l.ensures.answers c.get_cursor_index-c.ensures.answers _ c.free.result c.free_to_cut.result c.greedy.result c.find_cut-cut.result c.free.ensures.answers c.find_cut-cut.ensures.answers c.free_to_cut.ensures c.greedy.ensures.answers }
