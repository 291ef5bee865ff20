-- `table_fits`, sentence by sentence: the first that fails decides. Each helper says what the steps so far have told.
use mathlib.Core.Path.{◌≡◌, sym, ◌∙◌}
use mathlib.Core.Bool.{Bool, true, false}
use mathlib.Core.List.{List}
use Prim.Native.Nat.{ℕ, ◌+◌, ◌*◌}
use lib.ListN.{length}
use Rattle.plain.proofs.Tests.{and-on, and-off}
use Rattle.defs.specs.Table.{rulesets_in, records_in, parts_in, in_range, sizes_fit, length_fits, table_fits}
use Rattle.defs.proofs.Fits.{Sizes, sizes-bound}
use Rattle.acceptance.proofs.Check.{sizes-are, length-fits, length-fails}
use Rattle.acceptance.proofs.check_table.Goals as goal

-- the sizes that were judged are the table's
module _ (t : List ℕ) (s r p : ℕ) (b : Bool) (sets : s ≡ rulesets_in t) (rules : r ≡ records_in t) (parts : p ≡ parts_in t) (sizes : b ≡ in_range s r p) where
  judged : (d : Bool) → b ≡ d → sizes_fit t ≡ d
  judged d e = sym (sizes ∙ sizes-are t s r p sets rules parts) ∙ e

  fitting : b ≡ true → length t ≡ 3 + s + 3 * r + p → (sizes_fit t ≡ true) × (length_fits t ≡ true)
  fitting e l = (judged true e, length-fits t s r p sets rules parts l)

sized : (s r p : ℕ) (b : Bool) → b ≡ in_range s r p → b ≡ true → Sizes s r p
sized s r p b e h = sizes-bound s r p (sym e ∙ h)

pub returns-then-not-sizes_fit : goal.returns-then-not-sizes_fit
unfolding table_fits
returns-then-not-sizes_fit c = record { answers = and-off _ (judged _ _ _ _ _ c.word_at-sets.ensures.answers c.word_at-rules.ensures.answers c.word_at-parts.ensures.answers c.sizes_fit.ensures false c.if-not-sizes_fit.true) }

pub returns-then-table-from : goal.returns-then-table-from
unfolding table_fits
returns-then-table-from c =
    record {
      answers =
          and-on (judged _ _ _ _ _ c.word_at-sets.ensures.answers c.word_at-rules.ensures.answers c.word_at-parts.ensures.answers c.sizes_fit.ensures true c.if-not-sizes_fit.false)
          (and-off _ (length-fails _ _ _ _ c.word_at-sets.ensures.answers c.word_at-rules.ensures.answers c.word_at-parts.ensures.answers c.if-table-from.true));
    }

pub flags_fit-requires-clause-sets_bound : goal.flags_fit-requires-clause-sets_bound
flags_fit-requires-clause-sets_bound c = (sized _ _ _ _ c.sizes_fit.ensures c.if-not-sizes_fit.false).sets

pub returns-then-not-flags_fit : goal.returns-then-not-flags_fit
unfolding table_fits
returns-then-not-flags_fit c =
    let fits = fitting _ _ _ _ _ c.word_at-sets.ensures.answers c.word_at-rules.ensures.answers c.word_at-parts.ensures.answers c.sizes_fit.ensures c.if-not-sizes_fit.false c.if-table-from.false in
    record { answers = and-on fits.0 (and-on fits.1 (and-off _ (sym c.flags_fit.ensures ∙ c.if-not-flags_fit.true))) }

pub rulesets_fit-requires-clause-rules_bound : goal.rulesets_fit-requires-clause-rules_bound
rulesets_fit-requires-clause-rules_bound c = (sized _ _ _ _ c.sizes_fit.ensures c.if-not-sizes_fit.false).rules

pub returns-then-not-rulesets_fit : goal.returns-then-not-rulesets_fit
unfolding table_fits
returns-then-not-rulesets_fit c =
    let fits = fitting _ _ _ _ _ c.word_at-sets.ensures.answers c.word_at-rules.ensures.answers c.word_at-parts.ensures.answers c.sizes_fit.ensures c.if-not-sizes_fit.false c.if-table-from.false in
    record { answers = and-on fits.0 (and-on fits.1 (and-on (sym c.flags_fit.ensures ∙ c.if-not-flags_fit.false) (and-off _ (sym c.rulesets_fit.ensures ∙ c.if-not-rulesets_fit.true)))) }

pub ranges_fit-requires-clause-rules_bound : goal.ranges_fit-requires-clause-rules_bound
ranges_fit-requires-clause-rules_bound c = (sized _ _ _ _ c.sizes_fit.ensures c.if-not-sizes_fit.false).rules

pub returns-then-not-ranges_fit : goal.returns-then-not-ranges_fit
unfolding table_fits
returns-then-not-ranges_fit c =
    let fits = fitting _ _ _ _ _ c.word_at-sets.ensures.answers c.word_at-rules.ensures.answers c.word_at-parts.ensures.answers c.sizes_fit.ensures c.if-not-sizes_fit.false c.if-table-from.false in
    record { answers = and-on fits.0 (and-on fits.1 (and-on (sym c.flags_fit.ensures ∙ c.if-not-flags_fit.false) (and-on (sym c.rulesets_fit.ensures ∙ c.if-not-rulesets_fit.false) (and-off _ (sym c.ranges_fit.ensures ∙ c.if-not-ranges_fit.true))))) }

pub parameters_fit-requires-clause-rules_bound : goal.parameters_fit-requires-clause-rules_bound
parameters_fit-requires-clause-rules_bound c = (sized _ _ _ _ c.sizes_fit.ensures c.if-not-sizes_fit.false).rules

pub returns-then-not-parameters_fit : goal.returns-then-not-parameters_fit
unfolding table_fits
returns-then-not-parameters_fit c =
    let fits = fitting _ _ _ _ _ c.word_at-sets.ensures.answers c.word_at-rules.ensures.answers c.word_at-parts.ensures.answers c.sizes_fit.ensures c.if-not-sizes_fit.false c.if-table-from.false in
    record { answers = and-on fits.0 (and-on fits.1 (and-on (sym c.flags_fit.ensures ∙ c.if-not-flags_fit.false) (and-on (sym c.rulesets_fit.ensures ∙ c.if-not-rulesets_fit.false) (and-on (sym c.ranges_fit.ensures ∙ c.if-not-ranges_fit.false) (and-off _ (sym c.parameters_fit.ensures ∙ c.if-not-parameters_fit.true)))))) }

pub parts_fit-requires-clause-sets_bound : goal.parts_fit-requires-clause-sets_bound
parts_fit-requires-clause-sets_bound c = (sized _ _ _ _ c.sizes_fit.ensures c.if-not-sizes_fit.false).sets

pub returns : goal.returns
unfolding table_fits
returns c =
    let fits = fitting _ _ _ _ _ c.word_at-sets.ensures.answers c.word_at-rules.ensures.answers c.word_at-parts.ensures.answers c.sizes_fit.ensures c.if-not-sizes_fit.false c.if-table-from.false in
    record { answers = and-on fits.0 (and-on fits.1 (and-on (sym c.flags_fit.ensures ∙ c.if-not-flags_fit.false) (and-on (sym c.rulesets_fit.ensures ∙ c.if-not-rulesets_fit.false) (and-on (sym c.ranges_fit.ensures ∙ c.if-not-ranges_fit.false) (and-on (sym c.parameters_fit.ensures ∙ c.if-not-parameters_fit.false) c.parts_fit.ensures))))) }
