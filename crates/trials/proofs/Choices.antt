-- The rules that a call tries, as the prefix map lists them, are those of scan or lookup, and each is a rule of the table:
-- so they can be prepared, and tried.
use mathlib.Core.Path.{◌≡◌, sym, ap, subst, ◌∙◌}
use mathlib.Core.Bool.{true}
use mathlib.Core.List.{List, [], ◌++◌, map, Memᴰ}
use Prim.Native.Nat.{ℕ, ◌≤◌, ◌<◌}
use native.Mathlib.Omega.{arith}
use lib.ListN.{length, get_or, take, drop, length-take}
use lib.Seq.{take_at}
use Rattle.defs.specs.Table.{table_fits, records_in}
use Rattle.defs.specs.Ruledef.{starts_of}
use Rattle.ruledef_map.specs.RuledefMap.{line_prefix, held_prefix, prefix_bytes, top_rules, found_rules, put_rules}
use Rattle.ruledef_map.specs.declared.Prefix.{Prefix}
use Rattle.ruledef_map.proofs.Orders.{put_all}
use Rattle.readings.specs.Scene.{Scene, scene_of, based}
use Rattle.readings.specs.Walk.{top_pairs}
use Rattle.readings.specs.Lookup.{found_pairs}
use Rattle.readings.specs.Records.{pair_of}
use Rattle.readings.specs.Call.{call_with, scan_call, lookup_call}
use Rattle.readings.proofs.Records.{few-records, top-many, found-many, top_below, found_below, top-pairs, found-pairs}
use Rattle.places.specs.declared.RulePlace.{RulePlace}
use Rattle.places.specs.Places.{PlaceAsked}
use Rattle.walk.proofs.Held.{held-is, member-at}
use Rattle.trials.specs.Told.{listed_call, Chosen, all_tops, by_prefix}

-- ---- listed by the prefix map

put-taken : (t rules buffer b : List ℕ) (n : ℕ) → records_in t ≤ 512 → length buffer ≡ 512 → (b, n) ≡ put_rules t rules buffer → (take n b ≡ rules) × (n ≡ length rules)
put-taken t rules buffer b n few long e =
    let q : ◌≡◌ {A = List ℕ × ℕ} (b, n) (rules ++ drop (length rules) buffer, length rules) = e ∙ sym (put_all t rules buffer few (omega arith)) in
    let m : n ≡ length rules = ap (λ (x : List ℕ × ℕ). x.1) q in
    (ap (take n) (ap (λ (x : List ℕ × ℕ). x.0) q) ∙ take_at rules (drop (length rules) buffer) n (sym m), m)

prefix-few : (line : List ℕ) → length (line_prefix line) ≤ 4
unfolding line_prefix
prefix-few line = simp (line_prefix, length-take) (omega arith)

prefix-is : (line : List ℕ) (p : Prefix) → p ≡ held_prefix (line_prefix line) → prefix_bytes p ≡ line_prefix line
unfolding held_prefix
prefix-is line p e = ap prefix_bytes e ∙ held-is 4 (line_prefix line) (prefix-few line)

module _ (t line buffer b : List ℕ) (n : ℕ) (ok : table_fits t ≡ true) (long : length buffer ≡ 512) where
  pub tops-listed : (b, n) ≡ put_rules t (top_rules t) buffer → (take n b ≡ top_rules t) × (n ≤ 512)
  tops-listed q =
      let (i, j) = put-taken t (top_rules t) buffer b n (few-records t line [] ok) long q in
      (i, omega (arith, j, top-many t line [] ok))

  pub found-listed : (p : Prefix) → p ≡ held_prefix (line_prefix line) → (b, n) ≡ put_rules t (found_rules t (prefix_bytes p)) buffer
      → (take n b ≡ found_rules t (line_prefix line)) × (n ≤ 512)
  found-listed p is q =
      let (i, j) = put-taken t (found_rules t (prefix_bytes p)) buffer b n (few-records t line [] ok) long q in
      let k = ap (found_rules t) (prefix-is line p is) in
      (i ∙ k, omega (arith, j, ap length k, found-many t line [] ok (line_prefix line) (prefix-few line)))

-- ---- rules of the table

module _ (t line : List ℕ) (ok : table_fits t ≡ true) where
  chosen-below : {rules : List ℕ} {i : ℕ} → Chosen t line rules → Memᴰ i rules → i < records_in t
  chosen-below {rules} {i} (all_tops e) m = top_below t line [] ok (subst (Memᴰ i) e m)
  chosen-below {rules} {i} (by_prefix e) m = found_below t line [] ok (line_prefix line) (subst (Memᴰ i) e m)

  pub chosen_at : (rules : List ℕ) → Chosen t line rules → (i : ℕ) → i < length rules → get_or rules i 0 < records_in t
  chosen_at rules c i h = chosen-below c (member-at rules i h)

  pub chosen-places : (starts rules : List ℕ) (places : List RulePlace) → starts ≡ starts_of t → Chosen t line rules → length places ≡ 512 → PlaceAsked t starts rules places
  chosen-places starts rules places begins c sized = record { table = ok; begins = begins; below = chosen_at rules c; sized = sized }

  -- ---- the call that tries them is the scan's, or lookup's

  module _ (sheet : List ℕ) (budget base : ℕ) (rules b : List ℕ) where
    call-listed : (order : Scene → List (ℕ × ℕ)) → map (pair_of t) rules ≡ order (based base (scene_of t line sheet))
        → listed_call (map (pair_of t) rules) t line sheet budget base b ≡ call_with order t line sheet budget base b
    unfolding call_with
    call-listed order e = ap (λ (xs : List (ℕ × ℕ)). listed_call xs t line sheet budget base b) e

    pub tops-call : rules ≡ top_rules t → listed_call (map (pair_of t) rules) t line sheet budget base b ≡ scan_call t line sheet budget base b
    unfolding top_pairs based
    tops-call e = call-listed top_pairs (ap (map (pair_of t)) e ∙ sym (top-pairs t line sheet ok))

    pub found-call : rules ≡ found_rules t (line_prefix line) → listed_call (map (pair_of t) rules) t line sheet budget base b ≡ lookup_call t line sheet budget base b
    unfolding top_pairs scene_of based
    found-call e = call-listed (λ s. found_pairs s (line_prefix s.line)) (ap (map (pair_of t)) e ∙ sym (found-pairs t line sheet ok (line_prefix line)))
