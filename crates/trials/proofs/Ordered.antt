-- The whole call as scan or lookup, from its parts: the rules that its order lists, a bad table, a refusal of the line's
-- checks, or the line read by the rules listed.
use mathlib.Core.Path.{◌≡◌, sym, ap, ◌∙◌}
use mathlib.Core.Bool.{true, false}
use mathlib.Core.List.{List, map}
use Rattle.std.specs.Prelude.{Result, Err}
use Prim.Native.Nat.{ℕ, ◌≤◌}
use lib.ListN.{length, take}
use Rattle.plain.specs.Told.{Told}
use Rattle.defs.specs.Table.{table_fits}
use Rattle.ruledef_map.specs.RuledefMap.{line_prefix, held_prefix, prefix_bytes, top_rules, found_rules, put_rules}
use Rattle.ruledef_map.specs.declared.Prefix.{Prefix}
use Rattle.readings.specs.Scene.{Scene, Lawful, scene_of, based}
use Rattle.readings.specs.Records.{pair_of}
use Rattle.readings.specs.Call.{call_with}
use Rattle.readings.proofs.Calls.{bad-table}
use Rattle.readings.proofs.Bounds as Bounds
use Rattle.readings.proofs.Scan.{Enough, scan-enough}
use Rattle.readings.proofs.Lookups.{lookup-enough}
use Rattle.trials.specs.declared.Refused.{Refused}
use Rattle.trials.specs.declared.Refused.TheVariants.{BadTable}
use Rattle.trials.specs.declared.Order.{Order}
use Rattle.trials.specs.declared.Order.TheVariants.{Scan, Lookup}
use Rattle.trials.specs.Told.{says, listed_call, checked_of, Chosen, all_tops, by_prefix}
use Rattle.trials.specs.Orders.{order_of, rules_of}
use Rattle.trials.proofs.Checks.{refused-tells}
use Rattle.trials.proofs.Choices.{tops-listed, found-listed, tops-call, found-call}

-- ---- the rules listed, in the order that was asked for

module _ (t line buffer b : List ℕ) (n : ℕ) (how : Order) (ok : table_fits t ≡ true) (long : length buffer ≡ 512) where
  pub listed-scan : how ≡ Scan → (b, n) ≡ put_rules t (top_rules t) buffer → (take n b ≡ rules_of how t line) × (n ≤ 512)
  listed-scan e q = let (i, j) = tops-listed t line buffer b n ok long q in (i ∙ ap (λ (h : Order). rules_of h t line) (sym e), j)

  pub listed-lookup : how ≡ Lookup → (p : Prefix) → p ≡ held_prefix (line_prefix line) → (b, n) ≡ put_rules t (found_rules t (prefix_bytes p)) buffer → (take n b ≡ rules_of how t line) × (n ≤ 512)
  listed-lookup e p is q = let (i, j) = found-listed t line buffer b n ok long p is q in (i ∙ ap (λ (h : Order). rules_of h t line) (sym e), j)

-- ---- the whole call

module _ (how : Order) (t line sheet : List ℕ) (budget base : ℕ) (b : List ℕ) where
  pub table-refused : table_fits t ≡ false → says (Err BadTable) b ≡ call_with (order_of how) t line sheet budget base b
  table-refused e = sym (bad-table (order_of how) t line sheet budget base b e)

  module _ (ok : table_fits t ≡ true) where
    pub line_refused : {r : Result Unit Refused} {a : Refused} → r ≡ checked_of line sheet budget base → r ≡ Err a → says (Err a) b ≡ call_with (order_of how) t line sheet budget base b
    unfolding call_with
    line_refused c e = refused-tells line sheet budget base c e t ok (order_of how (based base (scene_of t line sheet))) b

    pub chosen_by : (rules : List ℕ) → rules ≡ rules_of how t line → Chosen t line rules
    chosen_by rules e = go how e
      where
        go : (h : Order) → rules ≡ rules_of h t line → Chosen t line rules
        go Scan q = all_tops q
        go Lookup q = by_prefix q

    pub line-told : (rules : List ℕ) (r : Told) → rules ≡ rules_of how t line → r ≡ listed_call (map (pair_of t) rules) t line sheet budget base b
        → r ≡ call_with (order_of how) t line sheet budget base b
    line-told rules r e q = q ∙ go how e
      where
        go : (h : Order) → rules ≡ rules_of h t line → listed_call (map (pair_of t) rules) t line sheet budget base b ≡ call_with (order_of h) t line sheet budget base b
        go Scan p = tops-call t line ok sheet budget base rules b p
        go Lookup p = found-call t line ok sheet budget base rules b p

  -- what a call tells of words fits 32 bits, 256 times over
  pub call-few : (call_with (order_of how) t line sheet budget base b).words ≤ 12589058
  call-few = Bounds.call-words (order_of how) (λ s law. enough how s law) t line sheet budget base b
    where
      enough : (h : Order) (s : Scene) → Lawful s → Enough s (order_of h s)
      enough Scan s law = scan-enough s law
      enough Lookup s law = lookup-enough s law
