-- Document 01's bench table: every case computed from the definitions, and all of them together. Order 4 made 13 whitespace,
-- so each stands with a tab and with a carriage return for a space too; order 6 gave a call a base, so the first stands at some.
use mathlib.Core.Path.{◌≡◌, refl}
use mathlib.Core.List.{[], ◌∷◌, flat_map}
use Rattle.plain.specs.Below.{every_below, sum_below, count_below}
use Rattle.plain.specs.Lists.{range, keep_if, some_of, count, listed}
use Rattle.token.specs.Token.{is_whitespace, lowered}
use Rattle.syntax.specs.Walker.{held, over, skipped, useful_from, useful, expect_char, gap}
use Rattle.syntax.specs.Cut.{is_wanted, is_stray, nesting, passed_to, taken_in, turn_of, searched, cut_from, cut}
use Rattle.line.specs.Line.{is_allowed, first_bad, ends_open, fault_at}
use Rattle.defs.specs.Table.{word_at, flag_at, field_at, part_word_at, part_of, rule_from, rule_words, rule_parts, in_range, sizes_fit, length_fits, flags_fit, ruleset_before, ruleset_fits, rulesets_fit, range_fits, ranges_fit, counts_fit, parameters_in, parameters_fit, is_part, parts_fit, table_fits}
use Rattle.defs.specs.Ruledef.{records_of, is_top, ruleset_of}
use Rattle.ruledef_map.specs.RuledefMap.{leading, rule_prefix, line_prefix, with_prefix, found_in}
use Rattle.extents.specs.Sheet.{sized, entry_at, entry_fits, fits_at, row_fits, half_fits, sheet_fits, readable, end_in}
use Rattle.readings.specs.Scene.{scene_of, based}
use Rattle.readings.specs.Plan.{run, ◌then◌, each, mapped}
use Rattle.readings.specs.Walk.{exactly, lookahead, cut_for, candidates, any_same, fresh, firsts, ends, limits, walk, ruleset_walk, under, trial, tries, top_pairs, scan}
use Rattle.readings.specs.Lookup.{lookup}
use Rattle.readings.specs.Answer.{exact_parts, greatest, greatest_count, best, all_words, words_of}
use Rattle.readings.specs.Call.{budget_fits, base_fits, call_with}
use Rattle.resolver.specs.Outcome.{of_kind, outcome_of, is_bad, outcomes_of, word_of, is_guess, is_resolved, is_known, size_of, as_guess}
use Rattle.resolver.specs.Selection.{marked, lesser, least_size, same_size, has_size, indices_of, choice_of, answer_on, answer_of, selected}
use Rattle.bench.specs.Cases.{cases, answers, at_ends, at_base, nines}

pub bench :
    (cases 32 ≡ answers) × (cases 9 ≡ answers) × (cases 13 ≡ answers)
    × (at_ends 13 ≡ (3 ∷ 0 ∷ 0 ∷ 3 ∷ nines) ∷ (3 ∷ 0 ∷ 0 ∷ 0 ∷ nines) ∷ (3 ∷ []) ∷ [])
    × (at_base 65532 ≡ 0 ∷ 15 ∷ 11 ∷ 0 ∷ 1 ∷ 4 ∷ 0 ∷ 1 ∷ 1 ∷ 1 ∷ 65536 ∷ 65537 ∷ 1 ∷ 0 ∷ 0 ∷ 9 ∷ [])
    × (at_base 4294967175 ≡ 0 ∷ 15 ∷ 11 ∷ 0 ∷ 1 ∷ 4 ∷ 0 ∷ 1 ∷ 1 ∷ 1 ∷ 4294967179 ∷ 4294967180 ∷ 1 ∷ 0 ∷ 0 ∷ 9 ∷ [])
    × (at_base 4294967176 ≡ 19 ∷ 0 ∷ 0 ∷ 0 ∷ nines)
unfolding cases at_ends at_base flat_map every_below sum_below count_below range keep_if some_of count listed is_whitespace lowered held over skipped useful_from useful gap is_wanted is_stray nesting passed_to taken_in turn_of searched cut_from cut is_allowed first_bad ends_open fault_at word_at flag_at field_at part_word_at part_of rule_from rule_words rule_parts in_range sizes_fit length_fits flags_fit ruleset_before ruleset_fits rulesets_fit range_fits ranges_fit counts_fit parameters_in parameters_fit is_part parts_fit table_fits records_of is_top ruleset_of leading rule_prefix line_prefix sized entry_at entry_fits fits_at row_fits half_fits sheet_fits readable end_in lookahead scene_of based run ◌then◌ each mapped exactly expect_char cut_for candidates any_same fresh firsts ends limits walk ruleset_walk under trial tries top_pairs scan with_prefix found_in lookup exact_parts greatest greatest_count best all_words words_of budget_fits base_fits call_with of_kind outcome_of is_bad outcomes_of word_of is_guess is_resolved is_known size_of as_guess marked lesser least_size same_size has_size indices_of choice_of answer_on answer_of selected
bench = (refl, refl, refl, refl, refl, refl, refl)
