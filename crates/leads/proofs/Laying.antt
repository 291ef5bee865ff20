-- Leads as they are laid: one rule's more, one kind of rules after another; and what is laid says no more than the rules do.
use mathlib.Core.Path.{◌≡◌, refl, sym, ap, subst, ◌∙◌}
use mathlib.Core.Logic.{◌⊎◌, inl, inr, ⊎_elim}
use mathlib.Core.List.{List}
use Prim.Native.Nat.{ℕ, ◌+◌, ◌≤◌, ◌<◌}
use native.Mathlib.Decide.{ℕ_discrete}
use native.Mathlib.Omega.{arith}
use lib.ListN.{length, get_or, set}
use lib.Seq.{get_or-set_same, get_or-set_other}
use Rattle.defs.specs.Table.{parts_between, rule_span}
use Rattle.std.specs.declared.ops.Range.{Range}
use Rattle.defs.proofs.Words.{parts_whole, parts_within}
use Rattle.ruledef_map.specs.RuledefMap.{rule_prefix}
use Rattle.places.specs.declared.RulePlace.{RulePlace}
use Rattle.places.specs.Places.{place_at}
use Rattle.leads.specs.Leads.{key_of, key_at, LeadOf, Leads, Led, Among, Between}

-- ---- a rule's number, by where its parts stand

pub span_key : (t : List ℕ) (i : ℕ) (parts : Range ℕ) {key : ℕ} → parts ≡ rule_span t i → key ≡ key_of (rule_prefix (parts_between t parts.start parts.end)) → key ≡ key_at t i
unfolding key_at
span_key t i parts span e = e ∙ ap (λ ps. key_of (rule_prefix ps)) (parts_whole t i parts span)

module _ (t : List ℕ) (i : ℕ) {place : RulePlace} (is : place ≡ place_at t i) where
  pub part_end : place.to ≤ length t
  unfolding place_at
  part_end = omega (arith, ap (λ (p : RulePlace). p.to) is, parts_within t i (rule_span t i) refl)

  pub placed-key : {key : ℕ} → key ≡ key_of (rule_prefix (parts_between t place.from place.to)) → key ≡ key_at t i
  unfolding place_at
  placed-key e = span_key t i (rule_span t i) refl (e ∙ ap (λ (p : RulePlace). key_of (rule_prefix (parts_between t p.from p.to))) is)

-- ---- laying

-- the first n rules of a list
abbrev pub AmongFirst : List ℕ → ℕ → ℕ → Type 0
AmongFirst rules n i = (j : ℕ) × (j < n) × (i ≡ get_or rules j 0)

module _ {t : List ℕ} where
  pub led-none : {Of : ℕ → Type 0} (l : List ℕ) → ((i : ℕ) → Of i → ⊥) → Led t Of l l
  led-none l none = record { here = λ i o. absurd (none i o); others = λ i. inr refl }

  -- the same rules in other words
  pub led-as : {Of As : ℕ → Type 0} {before after : List ℕ} → Led t Of before after → ((i : ℕ) → As i → Of i) → ((i : ℕ) → Of i → As i) → Led t As before after
  led-as d into from = record {
    here = λ i o. d.here i (into i o);
    others = λ i. ⊎_elim (λ o. inl (from i o)) (λ e. inr e) (d.others i);
  }

  -- these rules, and then those
  pub led-then : {Of As : ℕ → Type 0} {a b c : List ℕ} → Led t Of a b → Led t As b c → Led t (λ i. Of i ⊎ As i) a c
  led-then d e = record {
    here = λ i. ⊎_elim (λ o. ⊎_elim (λ p. e.here i p) (λ q. q ∙ d.here i o) (e.others i)) (λ p. e.here i p);
    others = λ i. ⊎_elim (λ p. inl (inr p)) (λ q. ⊎_elim (λ o. inl (inl o)) (λ r. inr (q ∙ r)) (d.others i)) (e.others i);
  }

  pub led-one : (l : List ℕ) (i : ℕ) {key : ℕ} → i < length l → key ≡ key_at t i → Led t (λ k. k ≡ i) l (set l i key)
  led-one l i {key} h is = record {
    here = λ k e. subst (λ (n : ℕ). get_or (set l i key) n 0 ≡ key_at t n) (sym e) (get_or-set_same l i key 0 h ∙ is);
    others = λ k. by k (ℕ_discrete k i);
  }
    where
      by : (k : ℕ) → Dec (k ≡ i) → (k ≡ i) ⊎ (get_or (set l i key) k 0 ≡ get_or l k 0)
      by k (yes e) = inl e
      by k (no ne) = inr (get_or-set_other l i k key 0 ne)

  -- ---- a list of rules, and a run of them

  pub among-more : (rules : List ℕ) {a b : List ℕ} {n key : ℕ} → Led t (AmongFirst rules n) a b → get_or rules n 0 < length b → key ≡ key_at t (get_or rules n 0) → Led t (AmongFirst rules (n + 1)) a (set b (get_or rules n 0) key)
  among-more rules {n = n} d h is =
      led-as (led-then d (led-one _ _ h is)) (λ i o. split i o (ℕ_discrete o.0 n))
      (λ i. ⊎_elim (λ o. (o.0, omega (arith, o.1), o.2)) (λ e. (n, omega arith, e)))
    where
      split : (i : ℕ) (o : AmongFirst rules (n + 1) i) → Dec (o.0 ≡ n) → AmongFirst rules n i ⊎ (i ≡ get_or rules n 0)
      split i (j, l, e) (yes q) = inr (subst (λ (k : ℕ). i ≡ get_or rules k 0) q e)
      split i (j, l, e) (no ne) = inl (j, omega (arith, ne), e)

  pub between_more : {a b : List ℕ} {from n key : ℕ} → Led t (Between from n) a b → from ≤ n → n < length b → key ≡ key_at t n → Led t (Between from (n + 1)) a (set b n key)
  between_more {from = from} {n = n} d low h is =
      led-as (led-then d (led-one _ _ h is)) (λ i o. split i o (ℕ_discrete i n))
      (λ i. ⊎_elim (λ o. (o.0, omega (arith, o.1))) (λ e. (omega (arith, e), omega (arith, e))))
    where
      split : (i : ℕ) → Between from (n + 1) i → Dec (i ≡ n) → Between from n i ⊎ (i ≡ n)
      split i o (yes q) = inr q
      split i o (no ne) = inl (o.0, omega (arith, o.1, ne))

  pub among-all : (rules : List ℕ) {a b : List ℕ} {i : ℕ} → Led t (AmongFirst rules i) a b → i ≡ length rules → Led t (Among rules) a b
  among-all rules {a} {b} d e = subst (λ (k : ℕ). Led t (AmongFirst rules k) a b) e d

  pub between-all : {a b : List ℕ} {from n to : ℕ} → Led t (Between from n) a b → n ≡ to → Led t (Between from to) a b
  between-all {a} {b} {from} d e = subst (λ (k : ℕ). Led t (Between from k) a b) e d

  -- ---- what says nothing, and what is laid on it

  pub leads-more : {Of : ℕ → Type 0} {a b : List ℕ} → Leads t a → Led t Of a b → length b ≡ length a → Leads t b
  leads-more {a = a} {b = b} l d e = record {
    sized = omega (arith, e, l.sized);
    each = λ i. ⊎_elim (λ o. inr (d.here i o)) (λ q. subst (LeadOf t i) (sym q) (l.each i)) (d.others i);
  }
