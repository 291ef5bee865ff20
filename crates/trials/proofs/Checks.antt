-- The checks of a line: what each finds is what the whole call's definition tests after the table, in its order.
use mathlib.Core.Path.{◌≡◌, refl, sym, subst, ◌∙◌}
use mathlib.Core.Logic.{⊎_elim}
use mathlib.Core.Bool.{true, false}
use Rattle.std.specs.Prelude.{Option, None, Some, Result, Ok, Err}
use mathlib.Core.List.{List}
use Prim.Native.Nat.{ℕ, ◌≤◌, ◌<◌}
use native.Mathlib.Omega.{arith}
use lib.Dec.{leb}
use lib.ListN.{length}
use borrow.Author.Tests.{le-leb, lt-leb}
use Rattle.plain.proofs.Tests.{tested, and_both, and-false-left, and-false-right}
use Rattle.line.specs.Line.{fault_at}
use Rattle.extents.specs.Sheet.{sheet_fits}
use Rattle.readings.specs.Call.{budget_fits, base_fits}
use Rattle.readings.proofs.Calls.{bad-line, bad-sheet, bad-budget, bad-base}
use Rattle.defs.specs.Table.{table_fits}
use Rattle.trials.specs.declared.Refused.{Refused}
use Rattle.trials.specs.declared.Refused.TheVariants.{BadLine, BadSheet, BadBudget, BadBase}
use Rattle.trials.specs.Told.{says, listed_call, LineAccepted, checked_of}

-- ---- the checks, in their order

module _ (line sheet : List ℕ) (budget base : ℕ) where
  pub bytes-bad : (p : ℕ) → fault_at line ≡ Some p → Err (BadLine p) ≡ checked_of line sheet budget base
  unfolding checked_of
  bytes-bad p e = sym (rw (checked_of, e))

  module _ (bytes : fault_at line ≡ None) where
    pub extents-bad : sheet_fits sheet (length line) ≡ false → Err BadSheet ≡ checked_of line sheet budget base
    unfolding checked_of
    extents-bad e = sym (rw (checked_of, bytes, e))

    module _ (extents : sheet_fits sheet (length line) ≡ true) where
      refused : budget_fits budget ≡ false → Err BadBudget ≡ checked_of line sheet budget base
      unfolding checked_of
      refused e = sym (rw (checked_of, bytes, extents, e))

      pub budget-none : budget ≡ 0 → Err BadBudget ≡ checked_of line sheet budget base
      unfolding budget_fits
      budget-none e = refused (and-false-left (leb 1 budget) (leb budget 1000000) (lt-leb 1 budget (omega arith)))

      pub budget-great : 1000000 < budget → Err BadBudget ≡ checked_of line sheet budget base
      unfolding budget_fits
      budget-great h = refused (and-false-right (leb 1 budget) (leb budget 1000000) (lt-leb budget 1000000 h))

      module _ (visits : budget_fits budget ≡ true) where
        beyond : base_fits base ≡ false → Err BadBase ≡ checked_of line sheet budget base
        unfolding checked_of
        beyond e = sym (rw (checked_of, bytes, extents, visits, e))

        accepted : base_fits base ≡ true → Ok tt ≡ checked_of line sheet budget base
        unfolding checked_of
        accepted e = sym (rw (checked_of, bytes, extents, visits, e))

      module _ (ne : budget ≡ 0 → ⊥) (most : budget ≤ 1000000) where
        within : budget_fits budget ≡ true
        unfolding budget_fits
        within = and_both (leb 1 budget) (leb budget 1000000) (le-leb 1 budget (omega (arith, ne))) (le-leb budget 1000000 most)

        pub base-great : 4294967175 < base → Err BadBase ≡ checked_of line sheet budget base
        unfolding base_fits
        base-great h = beyond within (lt-leb base 4294967175 h)

        pub all-good : base ≤ 4294967175 → Ok tt ≡ checked_of line sheet budget base
        unfolding base_fits
        all-good h = accepted within (le-leb base 4294967175 h)

  -- ---- what they find

  -- the line's checks accept, or refuse with what the whole call tells, whichever rules of an accepted table it tries
  data CheckedAs : Result Unit Refused → Type 0 where
    accepts : LineAccepted line sheet budget base → CheckedAs (Ok tt)
    refuses : {a : Refused} → ((t : List ℕ) → table_fits t ≡ true → (rules : List (ℕ × ℕ)) (b : List ℕ) → says (Err a) b ≡ listed_call rules t line sheet budget base b) → CheckedAs (Err a)

  checked-as : CheckedAs (checked_of line sheet budget base)
  checked-as = by-line (fault_at line) refl
    where
      by-base : fault_at line ≡ None → sheet_fits sheet (length line) ≡ true → budget_fits budget ≡ true → CheckedAs (checked_of line sheet budget base)
      by-base f g h =
          ⊎_elim
          (λ e. subst CheckedAs (accepted f g h e) (accepts (record { bytes = f; extents = g; visits = h; origin = e })))
          (λ e. subst CheckedAs (beyond f g h e) (refuses (λ t table rules b. sym (bad-base (λ s. rules) t line sheet budget base b table f g h e))))
          (tested (base_fits base))

      by-budget : fault_at line ≡ None → sheet_fits sheet (length line) ≡ true → CheckedAs (checked_of line sheet budget base)
      by-budget f g =
          ⊎_elim
          (λ e. by-base f g e)
          (λ e. subst CheckedAs (refused f g e) (refuses (λ t table rules b. sym (bad-budget (λ s. rules) t line sheet budget base b table f g e))))
          (tested (budget_fits budget))

      by-sheet : fault_at line ≡ None → CheckedAs (checked_of line sheet budget base)
      by-sheet f =
          ⊎_elim
          (λ g. by-budget f g)
          (λ g. subst CheckedAs (extents-bad f g) (refuses (λ t table rules b. sym (bad-sheet (λ s. rules) t line sheet budget base b table f g))))
          (tested (sheet_fits sheet (length line)))

      by-line : (o : Option ℕ) → fault_at line ≡ o → CheckedAs (checked_of line sheet budget base)
      by-line None f = by-sheet f
      by-line (Some p) f = subst CheckedAs (bytes-bad p f) (refuses (λ t table rules b. sym (bad-line (λ s. rules) t line sheet budget base b p table f)))

  module _ {r : Result Unit Refused} (is : r ≡ checked_of line sheet budget base) where
    -- a refusal of the line's checks is the whole call's, for an accepted table
    pub refused-tells : {a : Refused} → r ≡ Err a → (t : List ℕ) → table_fits t ≡ true → (rules : List (ℕ × ℕ)) (b : List ℕ) → says (Err a) b ≡ listed_call rules t line sheet budget base b
    refused-tells e = go (subst CheckedAs (sym is ∙ e) checked-as)
      where
        go : {a : Refused} → CheckedAs (Err a) → (t : List ℕ) → table_fits t ≡ true → (rules : List (ℕ × ℕ)) (b : List ℕ) → says (Err a) b ≡ listed_call rules t line sheet budget base b
        go (refuses k) = k

    pub accepted-by : r ≡ Ok tt → LineAccepted line sheet budget base
    accepted-by e = go (subst CheckedAs (sym is ∙ e) checked-as)
      where
        go : CheckedAs (Ok tt) → LineAccepted line sheet budget base
        go (accepts a) = a
