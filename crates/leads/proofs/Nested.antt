-- The rules of no top ruleset, one ruleset after another: all rules of a ruleset are of its kind, so the first tells of them all.
use mathlib.Core.Path.{◌≡◌, sym, ap, subst, ◌∙◌}
use mathlib.Core.Logic.{◌⊎◌, inl, inr, ⊎_elim}
use mathlib.Core.Bool.{true, false}
use mathlib.Core.List.{List, []}
use Prim.Native.Nat.{ℕ, ◌+◌, ◌≤◌, ◌<◌}
use native.Mathlib.Decide.{dec_lt}
use native.Mathlib.Omega.{arith}
use lib.ListN.{length, get_or}
use Rattle.plain.proofs.Tests.{not-both}
use Rattle.plain.proofs.Lists.{listed-length, listed_at}
use Rattle.defs.specs.Table.{records_in, rulesets_in}
use Rattle.defs.specs.Ruledef.{is_top, is_top_rule, starts_of, begins_at}
use Rattle.defs.proofs.Starts.{begins-first, begins-within}
use Rattle.readings.proofs.Records.{begins-order, begins-last, set-of, few-sets, few-records}
use Rattle.leads.specs.Leads.{Led, Between, Nested, NestAsked}
use Rattle.leads.proofs.Laying.{led-none, led-as, led-then}

-- those before a place
abbrev pub NestedTo : List ℕ → ℕ → ℕ → Type 0
NestedTo t n i = (i < n) × (is_top_rule t i ≡ false)

module _ {t starts leads₀ : List ℕ} (asked : NestAsked t starts leads₀) where
  pub start_is : (s : ℕ) → s ≤ rulesets_in t → get_or starts s 0 ≡ begins_at t s
  unfolding starts_of
  start_is s h = ap (λ (l : List ℕ). get_or l s 0) asked.begins ∙ listed_at 33 (begins_at t) s (omega (arith, few-sets t [] [] asked.table))

  pub starts-long : (s : ℕ) → s ≤ rulesets_in t → s < length starts
  unfolding starts_of
  starts-long s h = omega (arith, ap length asked.begins, listed-length 33 (begins_at t), few-sets t [] [] asked.table)

  pub starts-few : (s : ℕ) → s ≤ rulesets_in t → (get_or starts s 0 ≤ records_in t) × (records_in t ≤ 512)
  starts-few s h = (omega (arith, start_is s h, begins-within t s), few-records t [] [] asked.table)

  pub sets-few : rulesets_in t ≤ 32
  sets-few = few-sets t [] [] asked.table

  pub nested-none : Led t (NestedTo t (get_or starts 0 0)) leads₀ leads₀
  nested-none = led-none leads₀ (λ i o. omega (arith, o.0, start_is 0 (omega arith), begins-first t))

  module _ {s : ℕ} {leads : List ℕ} (h : s < rulesets_in t) (before : Led t (NestedTo t (get_or starts s 0)) leads₀ leads) where
    ordered : get_or starts s 0 ≤ get_or starts (s + 1) 0
    ordered = omega (arith, start_is s (omega arith), start_is (s + 1) (omega arith), begins-order t [] [] asked.table s)

    -- a rule of the ruleset is a top rule if its first is
    module _ (some : get_or starts s 0 < get_or starts (s + 1) 0) where
      alike : (i : ℕ) → Between (get_or starts s 0) (get_or starts (s + 1) 0) i → is_top_rule t i ≡ is_top_rule t (get_or starts s 0)
      unfolding is_top_rule
      alike i (low, high) =
          ap (is_top t)
          (set-of t [] [] asked.table s i (omega (arith, start_is s (omega arith))) (omega (arith, start_is (s + 1) (omega arith)))
          ∙ sym (set-of t [] [] asked.table s (get_or starts s 0) (omega (arith, start_is s (omega arith))) (omega (arith, start_is (s + 1) (omega arith)))))

      pub nested-top : is_top_rule t (get_or starts s 0) ≡ true → Led t (NestedTo t (get_or starts (s + 1) 0)) leads₀ leads
      nested-top top = led-as before (λ i o. (under i o (dec_lt i (get_or starts s 0)), o.1)) (λ i o. (omega (arith, o.0, ordered), o.1))
        where
          under : (i : ℕ) → NestedTo t (get_or starts (s + 1) 0) i → Dec (i < get_or starts s 0) → i < get_or starts s 0
          under i o (yes l) = l
          under i o (no n) = absurd (not-both (alike i (omega (arith, n), o.0) ∙ top) o.1)

      pub nested-led : is_top_rule t (get_or starts s 0) ≡ false → {after : List ℕ} → Led t (Between (get_or starts s 0) (get_or starts (s + 1) 0)) leads after → Led t (NestedTo t (get_or starts (s + 1) 0)) leads₀ after
      nested-led nested more =
          led-as (led-then before more) (λ i o. split i o (dec_lt i (get_or starts s 0)))
          (λ i. ⊎_elim (λ o. (omega (arith, o.0, ordered), o.1)) (λ b. (b.1, alike i b ∙ nested)))
        where
          split : (i : ℕ) → NestedTo t (get_or starts (s + 1) 0) i → Dec (i < get_or starts s 0) → NestedTo t (get_or starts s 0) i ⊎ Between (get_or starts s 0) (get_or starts (s + 1) 0) i
          split i o (yes l) = inl (l, o.1)
          split i o (no n) = inr (omega (arith, n), o.0)

    pub nested-empty : get_or starts (s + 1) 0 ≤ get_or starts s 0 → Led t (NestedTo t (get_or starts (s + 1) 0)) leads₀ leads
    nested-empty few = let e : get_or starts s 0 ≡ get_or starts (s + 1) 0 = omega (arith, ordered) in subst (λ (n : ℕ). Led t (NestedTo t n) leads₀ leads) e before

  pub nested-all : {s : ℕ} {leads : List ℕ} → s ≡ rulesets_in t → Led t (NestedTo t (get_or starts s 0)) leads₀ leads → Led t (Nested t) leads₀ leads
  nested-all {s} {leads} e d = subst (λ (n : ℕ). Led t (NestedTo t n) leads₀ leads) (start_is s (omega (arith, e)) ∙ ap (begins_at t) e ∙ begins-last t [] [] asked.table) d
