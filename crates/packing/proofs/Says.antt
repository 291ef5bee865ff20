-- The data of a table has its rulesets and rules, and packing keeps them.
use mathlib.Core.Path.{◌≡◌, refl, sym, ap, ap₂, ◌∙◌}
use mathlib.Core.Bool.{Bool, true, false}
use mathlib.Core.List.{List, [], ◌∷◌, map}
use Prim.Native.Nat.{ℕ, zero, suc, ◌<◌}
use native.Mathlib.Omega.{arith}
use lib.Dec.{eqb}
use lib.ListN.{length, get_or}
use Rattle.plain.specs.Choice.{select}
use Rattle.plain.specs.Lists.{range, keep_if, listed}
use Rattle.plain.proofs.Lists.{listed-length, listed_same, kept_same, range_length, range_at}
use Rattle.defs.specs.Table.{rulesets_in, records_in, ruleset_at, rule_parts, table_fits}
use Rattle.defs.specs.Ruledef.{Ruleset, is_top, ruleset_of, table_of}
use Rattle.defs.specs.Ruledef as Ruledef
use Rattle.defs.specs.declared.ruledef.Part.{Part}
use Rattle.packing.specs.Data.{Rule, Data, data_fits}
use Rattle.packing.specs.Packed.{packed, rule_at, data_of, rules_of, rulesets_of}
use Rattle.packing.proofs.Tables.{table-fits}
use Rattle.packing.proofs.Packs.{packed-says}

entry : (n : ℕ) (f : ℕ → Bool) (i : ℕ) → i < n → get_or (listed n f) i false ≡ f i
unfolding listed
entry n f i h = within (range 0 n) i (omega (arith, range_length 0 n)) ∙ ap f (range_at 0 n i 0 h ∙ omega arith)
  where
    within : (l : List ℕ) (k : ℕ) → k < length l → get_or (map f l) k false ≡ f (get_or l k 0)
    within [] k l = absurd (omega arith)
    within (x ∷ xs) zero l = refl
    within (x ∷ xs) (suc k) l = within xs k (omega arith)

kept : (t : List ℕ) (s : ℕ) (l : List ℕ) → map (λ (r : Rule). r.parts) (keep_if (λ (r : Rule). eqb r.set s) (map (rule_at t) l)) ≡ map (rule_parts t) (keep_if (λ i. eqb (ruleset_at t i) s) l)
unfolding keep_if rule_at
kept t s [] = refl
kept t s (x ∷ l) = go (eqb (ruleset_at t x) s) (kept t s l)
  where
    go : (b : Bool) → map (λ (r : Rule). r.parts) (keep_if (λ (r : Rule). eqb r.set s) (map (rule_at t) l)) ≡ map (rule_parts t) (keep_if (λ i. eqb (ruleset_at t i) s) l)
        → map (λ (r : Rule). r.parts) (select b (rule_at t x ∷ keep_if (λ (r : Rule). eqb r.set s) (map (rule_at t) l)) (keep_if (λ (r : Rule). eqb r.set s) (map (rule_at t) l)))
        ≡ map (rule_parts t) (select b (x ∷ keep_if (λ i. eqb (ruleset_at t i) s) l) (keep_if (λ i. eqb (ruleset_at t i) s) l))
    go true h = ap (λ (m : List (List Part)). rule_parts t x ∷ m) h
    go false h = h

-- the rules of any ruleset, and the top rulesets' numbers, are the data's
pub rules-of : (t : List ℕ) (r : ℕ) → (ruleset_of t r).rules ≡ rules_of r (data_of t).rules
unfolding data_of rules_of ruleset_of Ruledef.records_of listed
rules-of t r = sym (kept t r (range 0 (records_in t)))

pub tops-of : (t : List ℕ) → keep_if (is_top t) (range 0 (rulesets_in t)) ≡ keep_if (λ s. get_or (data_of t).tops s false) (range 0 (length (data_of t).tops))
unfolding data_of
tops-of t =
    kept_same (rulesets_in t) (is_top t) _ (λ s l. sym (entry (rulesets_in t) (is_top t) s l))
    ∙ ap (λ (n : ℕ). keep_if (λ s. get_or (data_of t).tops s false) (range 0 n)) (sym (listed-length (rulesets_in t) (is_top t)))

-- a table's rulesets and rules are its data's
pub table-says : (t : List ℕ) → rulesets_of (data_of t) ≡ table_of t
unfolding rulesets_of table_of data_of rules_of ruleset_of Ruledef.records_of listed
table-says t =
    ap (λ (n : ℕ). listed n (λ s. record { top = get_or (data_of t).tops s false; rules = rules_of s (data_of t).rules })) (listed-length (rulesets_in t) (is_top t))
    ∙ listed_same (rulesets_in t) _ (ruleset_of t) (λ s l. ap₂ ruled (entry (rulesets_in t) (is_top t) s l) (kept t s (range 0 (records_in t))))
  where
    ruled : Bool → List (List Part) → Ruleset
    ruled top rules = record { top = top; rules = rules }

-- data packed has the data's rulesets and rules; an accepted table packed anew has its own
pub packed-table : (d : Data) → data_fits d ≡ true → table_of (packed d) ≡ rulesets_of d
packed-table d f = sym (table-says (packed d)) ∙ ap rulesets_of (packed-says d.tops d.rules f)

pub packed-again : (t : List ℕ) → table_fits t ≡ true → table_of (packed (data_of t)) ≡ table_of t
packed-again t h = packed-table (data_of t) (table-fits t h) ∙ table-says t
