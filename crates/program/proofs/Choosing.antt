-- The rules of a line, chosen from what was prepared: a scan's are the top rules, lookup's are found among them. Each was
-- prepared, since each is a top rule.
use mathlib.Core.Path.{◌≡◌, refl, sym, ap, subst, ◌∙◌}
use mathlib.Core.Bool.{Bool, true, false}
use mathlib.Core.Logic.{inl, inr}
use mathlib.Core.List.Memᴰ
use mathlib.Core.List.{List, [], ◌∷◌, flat_map, Memᴰ}
use Prim.Native.Nat.{ℕ, suc, ◌≤◌}
use lib.ListN.{length, get_or, take}
use Rattle.plain.specs.Lists.{range}
use Rattle.plain.proofs.Members.{kept-mem}
use Rattle.plain.proofs.Tests.{not-both}
use Rattle.defs.specs.Table.{rule_parts}
use Rattle.ruledef_map.specs.RuledefMap.{line_prefix, rule_prefix, same_bytes, top_rules, with_prefix, found_in, found_rules}
use Rattle.readings.specs.Plan.{room}
use Rattle.places.specs.declared.RulePlace.{RulePlace}
use Rattle.walk.proofs.Held.{member-at}
use Rattle.trials.specs.declared.Order.{Order}
use Rattle.trials.specs.declared.Order.TheVariants.{Scan, Lookup}
use Rattle.trials.specs.Told.{LineAccepted, ReadAsked}
use Rattle.trials.specs.Orders.{rules_of}
use Rattle.trials.proofs.Ordered.{chosen_by}
use Rattle.program.specs.Prepared.{Prepared, Ordered, ChosenFor}

-- ---- a rule that was chosen is a top rule

flat-mem : (f : ℕ → List ℕ) (xs : List ℕ) {y : ℕ} → Memᴰ y (flat_map f xs) → (x : ℕ) × Memᴰ y (f x)
unfolding flat_map
flat-mem f [] m = absurd (Memᴰ.not-nil m)
flat-mem f (x ∷ xs) m = elim (Memᴰ.append_cases (f x) m) [ inl i ↦ (x, i) | inr j ↦ flat-mem f xs j ]

found-top : (t p : List ℕ) {i : ℕ} → Memᴰ i (found_rules t p) → Memᴰ i (top_rules t)
unfolding found_in with_prefix
found-top t p m =
    let (j, n) = flat-mem (λ j. with_prefix (rule_parts t) (top_rules t) (take j p)) (range 0 (suc (length p))) m in
    (kept-mem (λ i. same_bytes (rule_prefix (rule_parts t i)) (take j p)) (top_rules t) n).0

chosen-top : (how : Order) (t line : List ℕ) {i : ℕ} → Memᴰ i (rules_of how t line) → Memᴰ i (top_rules t)
chosen-top Scan t line m = m
chosen-top Lookup t line m = found-top t (line_prefix line) m

-- ---- what reading the line asks

module _ {how : Order} {t line sheet starts order rules store : List ℕ} {places : List RulePlace} {tops count budget base : ℕ}
    (ready : Prepared t starts places) (lined : LineAccepted line sheet budget base) (chosen : ChosenFor how t line order rules tops count) (sized : length store ≡ room) where
  pub read_asked : ReadAsked t line sheet starts places store (take count rules) budget base
  read_asked = record {
    table = ready.table;
    lined = lined;
    begins = ready.begins;
    placed = record {
      sized = ready.sized;
      each = λ j h.
          ready.placed (get_or (take count rules) j 0)
          (chosen-top how t line (subst (Memᴰ (get_or (take count rules) j 0)) chosen.rules_are (member-at (take count rules) j h)));
    };
    chosen = chosen_by how t line sheet budget base [] ready.table (take count rules) chosen.rules_are;
    sized = sized;
  }

-- ---- choosing

pub orders-apart : Scan ≡ Lookup → ⊥
orders-apart e = not-both refl (sym (ap is_scan (sym e)))
  where
    is_scan : Order → Bool
    is_scan Scan = true
    is_scan Lookup = false

pub scan-chosen : {how : Order} {t line order rules : List ℕ} {tops : ℕ} → Ordered how t order rules tops → how ≡ Scan → ChosenFor how t line order rules tops tops
scan-chosen {how} {t} {line} {order} {rules} {tops} o e = record {
  rules_are = o.listed e ∙ ap (λ (h : Order). rules_of h t line) (sym e);
  few = o.few;
  again = o;
}

pub lookup-chosen : {how : Order} {t line order rules : List ℕ} {tops : ℕ} → Ordered how t order rules tops → how ≡ Lookup → {rules' : List ℕ} {count : ℕ}
    → take count rules' ≡ found_rules t (line_prefix line) → count ≤ 512 → length rules' ≡ length rules → ChosenFor how t line order rules' tops count
lookup-chosen {how} {t} {line} o e found few same = record {
  rules_are = found ∙ ap (λ (h : Order). rules_of h t line) (sym e);
  few = few;
  again = record { room = same ∙ o.room; long = o.long; few = o.few; listed = λ q. absurd (orders-apart (sym q ∙ e)); sorted = o.sorted };
}
