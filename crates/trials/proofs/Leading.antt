-- The leads that a call prepares: a scan's are those of nested rules and of the rules that it tries, a lookup's those of nested
-- rules. Laid on nothing, they say what the rules say.
use mathlib.Core.Path.{◌≡◌, sym, subst}
use mathlib.Core.Logic.{inl}
use mathlib.Core.List.{List}
use Prim.Native.Nat.{ℕ, ◌<◌}
use native.Mathlib.Omega.{arith}
use native.Mathlib.Decide.{dec_lt}
use lib.ListN.{length, get_or, replicate, length-replicate, get_or-replicate, get_or-eq_default}
use Rattle.places.specs.declared.RulePlace.{RulePlace}
use Rattle.places.specs.Places.{PlaceAsked, Placed}
use Rattle.leads.specs.Leads.{Leads, Led, Among, Nested, ListAsked, NestAsked}
use Rattle.leads.proofs.Laying.{led-then}
use Rattle.trials.specs.declared.Order.{Order}
use Rattle.trials.specs.declared.Order.TheVariants.{Scan, Lookup}
use Rattle.trials.specs.Orders.{LedFor, LeadAsked}

module _ {t starts rules leads : List ℕ} {places : List RulePlace} (asked : LeadAsked t starts places rules leads) where
  pub nest-asked : NestAsked t starts leads
  nest-asked = record { table = asked.table; begins = asked.begins; room = asked.room }

  pub list-asked : {leads' : List ℕ} → length leads' ≡ length leads → ListAsked t places rules leads'
  list-asked e = record { table = asked.table; below = asked.below; placed = asked.placed; room = omega (arith, e, asked.room) }

pub lead-asked : {t starts rules leads : List ℕ} {places₀ places : List RulePlace} → PlaceAsked t starts rules places₀ → Placed t places rules → length leads ≡ 512 → LeadAsked t starts places rules leads
lead-asked asked placed e = record { table = asked.table; begins = asked.begins; below = asked.below; placed = placed; room = e }

module _ {t a b : List ℕ} (rules : List ℕ) (nested : Led t (Nested t) a b) where
  pub led-scan : {order : Order} {c : List ℕ} → order ≡ Scan → Led t (Among rules) b c → Led t (LedFor order t rules) a c
  led-scan {c = c} e listed = subst (λ (o : Order). Led t (LedFor o t rules) a c) (sym e) (led-then nested listed)

  pub led-lookup : {order : Order} → order ≡ Lookup → Led t (LedFor order t rules) a b
  led-lookup e = subst (λ (o : Order). Led t (LedFor o t rules) a b) (sym e) nested

-- zeros say nothing
pub leads-none : (t : List ℕ) → Leads t (replicate 512 0)
leads-none t = record { sized = length-replicate {A = ℕ} 512 0; each = λ i. inl (by i (dec_lt i 512)) }
  where
    by : (i : ℕ) → Dec (i < 512) → ◌≡◌ {A = ℕ} (get_or (replicate 512 0) i 0) 0
    by i (yes l) = get_or-replicate {A = ℕ} 512 i 0 0 l
    by i (no n) = get_or-eq_default (replicate 512 0) 0 {n = i} (omega (arith, n, length-replicate {A = ℕ} 512 0))
