-- A rule's place: its fields fit 16 bits in an accepted table, and preparing one rule leaves every other as it was.
use mathlib.Core.Path.{◌≡◌, sym, ap, subst, ◌∙◌}
use mathlib.Core.Bool.{true}
use mathlib.Core.List.{List, []}
use Prim.Native.Nat.{ℕ, ◌+◌, ◌-◌, ◌≤◌, ◌<◌}
use native.Mathlib.Decide.{ℕ_discrete}
use native.Mathlib.Omega.{arith}
use lib.ListN.{length, get_or, set, length-set}
use lib.Seq.{get_or-set_same, get_or-set_other}
use borrow.Author.Tests.{eqb-true}
use Rattle.plain.proofs.Tests.{and_left, and_right}
use Rattle.plain.proofs.Lists.{listed-length, listed_at}
use Rattle.defs.specs.Table.{rulesets_in, records_in, parts_in, parts_from, ruleset_at, rule_span, table_fits, sizes_fit, length_fits}
use Rattle.defs.specs.Ruledef.{begins_at, starts_of}
use Rattle.std.specs.declared.ops.Range.{Range}
use Rattle.defs.proofs.Fits.{sizes-bound}
use Rattle.readings.proofs.Records.{pair-within, few-records, span-within}
use Rattle.places.specs.declared.RulePlace.{RulePlace}
use Rattle.places.specs.Places.{place_at, PlacedAt, Placed, PlaceAsked}

-- an accepted table has at most 9,763 words
pub table-short : (t : List ℕ) → table_fits t ≡ true → length t ≤ 9763
unfolding table_fits sizes_fit length_fits
table-short t ok =
    let sizes = sizes-bound (rulesets_in t) (records_in t) (parts_in t) (and_left (sizes_fit t) _ ok) in
    let long = eqb-true (length t) (parts_from t + parts_in t) (and_left (length_fits t) _ (and_right (sizes_fit t) _ ok)) in
    omega (arith, long, sizes.sets, sizes.rules, sizes.parts)

-- what the code leans on: a rule of an accepted table, its ruleset and its span
pub record Small (t starts : List ℕ) (i group : ℕ) (parts : Range ℕ) : Type 0 where
  pub rule : i < 512
  pub sets : group < 32
  pub there : group < length starts
  pub begins : get_or starts group 0 ≡ begins_at t group
  pub within : get_or starts group 0 ≤ i
  pub from : parts.start < 65536
  pub to : parts.end < 65536

module _ (t starts : List ℕ) (ok : table_fits t ≡ true) (begins : starts ≡ starts_of t) (i : ℕ) (known : i < records_in t)
    (group : ℕ) (group-is : group ≡ ruleset_at t i) (parts : Range ℕ) (span : parts ≡ rule_span t i) where
  start_is : group < 32 → get_or starts group 0 ≡ begins_at t group
  unfolding starts_of
  start_is h = ap (λ (l : List ℕ). get_or l group 0) begins ∙ listed_at 33 (begins_at t) group (omega arith)

  pub small : Small t starts i group parts
  unfolding starts_of
  small =
      let (a, b, c) = pair-within t [] [] ok i known in
      let sp = span-within t [] [] ok i known parts span in
      let few : group < 32 = omega (arith, group-is) in
      let before : begins_at t group ≤ i = subst (λ (g : ℕ). begins_at t g ≤ i) (sym group-is) a in
      record {
        rule = omega (arith, few-records t [] [] ok);
        sets = few;
        there = omega (arith, ap length begins ∙ listed-length 33 (begins_at t));
        begins = start_is few;
        within = omega (arith, start_is few);
        from = omega (arith, sp.ordered, sp.within, table-short t ok);
        to = omega (arith, sp.within, table-short t ok);
      }

  -- the fields that the code puts together are the rule's
  pub place-is : ◌≡◌ {A = RulePlace} (record { set = group; number = i - get_or starts group 0; from = parts.start; to = parts.end }) (place_at t i)
  unfolding place_at
  place-is =
      let number : i - get_or starts group 0 ≡ i - begins_at t (ruleset_at t i) = ap (λ (b : ℕ). i - b) (small.begins ∙ ap (begins_at t) group-is) in
      λ k. record { set = group-is k; number = number k; from = (span k).start; to = (span k).end }

-- the rules passed are prepared
pub record PlacedTo (t : List ℕ) (places : List RulePlace) (rules : List ℕ) (i : ℕ) : Type 0 where
  pub sized : length places ≡ 512
  pub each : (j : ℕ) → j < i → PlacedAt t places (get_or rules j 0)

module _ {t starts rules : List ℕ} {places₀ : List RulePlace} (asked : PlaceAsked t starts rules places₀) where
  pub placed-none : PlacedTo t places₀ rules 0
  placed-none = record { sized = asked.sized; each = λ j l. absurd (omega arith) }

  pub placed-room : (j : ℕ) → j < length rules → get_or rules j 0 < 512
  placed-room j l = omega (arith, asked.below j l, few-records t [] [] asked.table)

  module _ {places : List RulePlace} {i : ℕ} (before : PlacedTo t places rules i) where
    pub placed-turn : i < length rules → {place : RulePlace} → place ≡ place_at t (get_or rules i 0) → PlacedTo t (set places (get_or rules i 0) place) rules (i + 1)
    placed-turn h {place} is = record {
      sized = simp length-set before.sized;
      each = λ j l. record { is = λ other. by j l other (ℕ_discrete (get_or rules j 0) (get_or rules i 0)) (ℕ_discrete j i) };
    }
      where
        there : get_or rules i 0 < length places
        there = omega (arith, placed-room i h, before.sized)

        by :
            (j : ℕ) → j < i + 1 → (other : RulePlace) → Dec (get_or rules j 0 ≡ get_or rules i 0) → Dec (j ≡ i) →
            get_or (set places (get_or rules i 0) place) (get_or rules j 0) other ≡ place_at t (get_or rules j 0)
        by j l other (yes e) d = rw e (get_or-set_same places (get_or rules i 0) place other there ∙ is)
        by j l other (no n) (yes e) = absurd (n (ap (λ (k : ℕ). get_or rules k 0) e))
        by j l other (no n) (no d) =
            get_or-set_other places (get_or rules i 0) (get_or rules j 0) place other n ∙ (before.each j (omega (arith, d))).is other

    pub placed-all : length rules ≤ i → Placed t places rules
    placed-all h = record { sized = before.sized; each = λ j l. before.each j (omega arith) }
