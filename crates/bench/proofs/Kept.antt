-- The counts that the two logs' records have are those that the definitions say; so both logs are `Counted`.
use mathlib.Core.Path.{◌≡◌, refl}
use mathlib.Core.List.{[], ◌∷◌, map}
use Prim.Native.Nat.{ℕ, zero, suc, ◌<◌}
use native.Mathlib.Omega.{arith}
use lib.ListN.{length, get_or}
use Rattle.plain.specs.Lists.{range, keep_if, count}
use Rattle.plain.specs.Below.{every_below, sum_below, count_below}
use Rattle.defs.specs.Table.{word_at, flag_at, field_at, part_word_at, part_of, rule_from, rule_words, rule_parts}
use Rattle.defs.specs.Ruledef.{records_of, ruleset_of}
use Rattle.readings.specs.Scene.{Scene, scene_of}
use Rattle.readings.specs.Answer.{exact_parts}
use Rattle.pool.specs.Log.{count_in, nothing}
use Rattle.pool.specs.Meaning.{chain_at, tree_at, meaning}
use Rattle.pool.specs.Counted.{passed_with, so_far, CountedTo, first, after, CountOf, Counted}
use Rattle.bench.specs.Cases.{T}
use Rattle.bench.specs.Kept.{of_t, two_nested, of_two, kept}

pub kept-counts : kept ≡ map count_in of_t ∷ map count_in of_two ∷ []
unfolding kept range keep_if count every_below sum_below count_below word_at flag_at field_at part_word_at part_of rule_from rule_words rule_parts records_of ruleset_of scene_of exact_parts chain_at tree_at meaning passed_with so_far
kept-counts = refl

-- ---- table T

abbrev by_t : Scene
by_t = scene_of T [] []

expression-kept : CountedTo by_t 0 0 of_t 1
unfolding range keep_if count every_below sum_below count_below word_at flag_at field_at part_word_at part_of rule_from rule_words rule_parts records_of ruleset_of scene_of exact_parts chain_at meaning passed_with so_far
expression-kept = after {i = 0} (omega arith) refl refl refl first

nested-kept : CountedTo by_t 0 1 of_t 4
unfolding range keep_if count every_below sum_below count_below word_at flag_at field_at part_word_at part_of rule_from rule_words rule_parts records_of ruleset_of scene_of exact_parts chain_at tree_at meaning passed_with so_far
nested-kept = after {i = 3} (omega arith) refl refl refl first

each-of-t : (i : ℕ) → i < length of_t → CountOf by_t of_t i (get_or of_t i nothing)
unfolding range keep_if count every_below sum_below count_below word_at flag_at field_at part_word_at part_of rule_from rule_words rule_parts records_of ruleset_of scene_of exact_parts chain_at tree_at meaning
each-of-t zero h = (0, 0, expression-kept)
each-of-t (suc zero) h = (refl, expression-kept)
each-of-t (suc (suc zero)) h = (refl, first)
each-of-t (suc (suc (suc zero))) h = (0, 1, nested-kept)
each-of-t (suc (suc (suc (suc zero)))) h = (refl, nested-kept)
each-of-t (suc (suc (suc (suc (suc i))))) h = absurd (omega arith)

pub t-counted : Counted by_t of_t
t-counted = record { each = each-of-t }

-- ---- two nested ones

abbrev by_two : Scene
by_two = scene_of two_nested [] []

first-kept : CountedTo by_two 0 0 of_two 3
unfolding range keep_if count every_below sum_below count_below word_at flag_at field_at part_word_at part_of rule_from rule_words rule_parts records_of ruleset_of scene_of exact_parts chain_at tree_at meaning passed_with so_far
first-kept = after {i = 2} (omega arith) refl refl refl first

second-kept : CountedTo by_two 0 0 of_two 6
unfolding range keep_if count every_below sum_below count_below word_at flag_at field_at part_word_at part_of rule_from rule_words rule_parts records_of ruleset_of scene_of exact_parts chain_at tree_at meaning passed_with so_far
second-kept = after {i = 5} (omega arith) refl refl refl first-kept

each-of-two : (i : ℕ) → i < length of_two → CountOf by_two of_two i (get_or of_two i nothing)
unfolding range keep_if count every_below sum_below count_below word_at flag_at field_at part_word_at part_of rule_from rule_words rule_parts records_of ruleset_of scene_of exact_parts chain_at tree_at meaning
each-of-two zero h = (refl, first)
each-of-two (suc zero) h = (refl, first)
each-of-two (suc (suc zero)) h = (0, 0, first-kept)
each-of-two (suc (suc (suc zero))) h = (refl, first)
each-of-two (suc (suc (suc (suc zero)))) h = (refl, first)
each-of-two (suc (suc (suc (suc (suc zero))))) h = (0, 0, second-kept)
each-of-two (suc (suc (suc (suc (suc (suc zero)))))) h = (refl, second-kept)
each-of-two (suc (suc (suc (suc (suc (suc (suc i))))))) h = absurd (omega arith)

pub two-counted : Counted by_two of_two
two-counted = record { each = each-of-two }
