-- The nested step's two loops over limits and rules. A ruleset's rules are records that stand together from where it begins,
-- so a rule's number in the loop is its number in the ruleset; and a walk one deeper leaves matches of that depth only.
use Rattle.std.specs.Prelude.{Option, Some, Result, Ok, Err}
use mathlib.Core.Path.{◌≡◌, sym, ap, subst, ◌∙◌}
use mathlib.Core.Bool.{Bool, true}
use mathlib.Core.List.{List, [], map, map-id, Memᴰ}
use Prim.Native.Nat.{ℕ, suc, ◌+◌, ◌-◌, ◌≤◌, ◌<◌}
use native.Mathlib.Omega.{arith}
use native.Mathlib.Numerals.{add-one}
use lib.ListN.{length, get_or, take}
use Rattle.plain.specs.Lists.{range}
use Rattle.plain.proofs.Lists.{range_length, range_at, listed-length, listed_at}
use Rattle.syntax.specs.Walker.{held, limited}
use Rattle.syntax.specs.declared.walker.Walker.{Walker}
use Rattle.syntax.proofs.Useful.{limit-set}
use Rattle.defs.specs.Table.{records_in, parts_between, rule_span, rule_parts}
use Rattle.defs.specs.Ruledef.{starts_of, begins_at}
use Rattle.std.specs.declared.ops.Range.{Range}
use Rattle.defs.specs.declared.ruledef.Part.{Part}
use Rattle.defs.proofs.Starts.{begins-within}
use Rattle.defs.proofs.Words.{parts_whole}
use Rattle.readings.specs.Scene.{Scene, scene_of}
use Rattle.readings.specs.Plan.{Plan, stop, run, each, mapped}
use Rattle.readings.specs.Walk.{Found, Match, named, walk, ruleset_walk, under, depths, limits}
use Rattle.readings.specs.Fail.{ahead, failing}
use Rattle.readings.proofs.Fails.{fails-done, fails-stop}
use Rattle.readings.proofs.Packed.{lawful}
use Rattle.readings.proofs.Records.{rules-range, rule-parts, begins-order, few-records, span-within}
use Rattle.ruledef_map.specs.RuledefMap.{rule_prefix}
use Rattle.leads.specs.Leads.{ahead_of, failing_of, Leads}
use Rattle.leads.proofs.Told.{told-some, lead-tells}
use Rattle.lookahead.specs.declared.Few.{Few}
use Rattle.lookahead.specs.Held.{held_limits}
use Rattle.lookahead.proofs.Choices.{limits-few, limits-within, sheet-free-limits}
use Rattle.pool.specs.declared.Pool.{Pool}
use Rattle.pool.specs.Log.{log_of}
use Rattle.pool.specs.Meaning.{chain_at, Stored}
use Rattle.pool.specs.Counted.{first, Counted}
use Rattle.pool.proofs.Passing.{so-start}
use Rattle.walk.specs.declared.Place.{Place}
use Rattle.walk.specs.declared.Stopped.{Stopped}
use Rattle.walk.specs.declared.Walked.{Walked}
use Rattle.walk.specs.declared.Refusal.TheVariants.{Spent}
use Rattle.walk.specs.Met.{finishes, parts_plan, rule_plan, deeper, ran, Ready, to_come, Stands, Made, number_of, Left}
use Rattle.walk.proofs.Outcomes.{mapped-done, mapped-stop}
use Rattle.walk.proofs.Held.{held-is, member-at}
use Rattle.walk.proofs.Logs.{made_none}
use Rattle.walk.proofs.Loops.{Did, did_none, index-end, index-more, index-stop}
use Rattle.walk.proofs.Turned.{reached, refused}

-- a match as it is
abbrev pub itself : Match → Match
itself x = x

-- one rule of a ruleset, one deeper
abbrev pub rule_from : List ℕ → List ℕ → List ℕ → ℕ → ℕ → Walker → ℕ → Plan (List Match)
rule_from t line sheet depth group w k =
    mapped (named group k) (walk (scene_of t line sheet) (under (scene_of t line sheet) (depths - (depth + 1))) (λ e. true) ((scene_of t line sheet).parts group k) w.limit w.cursor)

-- the loop over rules, and the loop over limits
abbrev pub RulesDid : List ℕ → List ℕ → List ℕ → ℕ → ℕ → Walker → ℕ → ℕ → ℕ → List ℕ → ℕ → ℕ → ℕ → List ℕ → Type 0
RulesDid t line sheet depth group w n v₀ u₀ store₀ i v u store =
    Did t (rule_from t line sheet depth group w) itself (depth + 1) (take i (range 0 n)) v₀ u₀ store₀ v u store

-- the limits that the code holds
module _ (t line sheet : List ℕ) (l c : ℕ) (ps : List Part) {ls : Few 2} (is : ls ≡ held_limits (limits (scene_of t line []) l c ps)) where
  abbrev xs : List ℕ
  xs = limits (scene_of t line sheet) l c ps

  listed-there : ls ≡ held_limits xs
  listed-there = is ∙ ap held_limits (sheet-free-limits t line [] sheet l c ps)

  few : length xs ≤ 2
  few = (limits-few (scene_of t line sheet) l c ps).1

  pub limits-held : take ls.count ls.places ≡ limits (scene_of t line sheet) l c ps
  unfolding held_limits
  limits-held = ap (λ (e : Few 2). take e.count e.places) listed-there ∙ held-is 2 xs few

  pub limits-two : (ls.count ≤ 2) × (length ls.places ≡ 2)
  unfolding held_limits
  limits-two = (omega (arith, ap (λ (e : Few 2). e.count) listed-there, few), ap (λ (e : Few 2). length e.places) listed-there ∙ listed-length 2 (λ j. get_or xs j 0))

abbrev pub under_limit : List ℕ → List ℕ → List ℕ → ℕ → ℕ → ℕ → ℕ → Plan (List Match)
under_limit t line sheet depth group c m = deeper t line sheet depth group m c

abbrev pub LimitsDid : List ℕ → List ℕ → List ℕ → ℕ → ℕ → ℕ → List ℕ → ℕ → ℕ → List ℕ → ℕ → ℕ → ℕ → List ℕ → Type 0
LimitsDid t line sheet depth group c ls v₀ u₀ store₀ i v u store =
    Did t (under_limit t line sheet depth group c) itself (depth + 1) (take i ls) v₀ u₀ store₀ v u store

finishes-inner : (n d : ℕ) → finishes n (d + 1) ≡ λ e. true
unfolding finishes
finishes-inner n d = ap (finishes n) (add-one d)

module _ {t line sheet starts store₀ : List ℕ} {place : Place} {w : Walker} {pool : Pool} (ready : Ready t line sheet starts store₀ place w pool)
    (group : ℕ) (fits : group < 32) (deep : place.depth < 16) where
  abbrev s : Scene
  s = scene_of t line sheet

  abbrev d : ℕ
  d = place.depth

  start-at : (r : ℕ) → r < 33 → get_or starts r 0 ≡ begins_at t r
  unfolding starts_of
  start-at r h = ap (λ (l : List ℕ). get_or l r 0) ready.begins ∙ listed_at 33 (begins_at t) r h

  pub starts-long : length starts ≡ 33
  unfolding starts_of
  starts-long = ap length ready.begins ∙ listed-length 33 (begins_at t)

  pub starts-ordered : get_or starts group 0 ≤ get_or starts (group + 1) 0
  starts-ordered = omega (arith, start-at group (omega arith), start-at (group + 1) (omega arith), begins-order t line sheet ready.table group)

  pub starts-few : get_or starts (group + 1) 0 ≤ 512
  starts-few = omega (arith, start-at (group + 1) (omega arith), begins-within t (group + 1), few-records t line sheet ready.table)

  -- ---- rules

  module _ (begin n : ℕ) (begin-is : begin ≡ get_or starts group 0) (n-is : n ≡ get_or starts (group + 1) 0 - begin) where
    begins : begin ≡ begins_at t group
    begins = begin-is ∙ start-at group (omega arith)

    many : n ≡ begins_at t (group + 1) - begins_at t group
    many = n-is ∙ omega (arith, begins, start-at (group + 1) (omega arith))

    module _ (k : ℕ) (h : k < n) where
      record-below : begin + k < records_in t
      record-below = omega (arith, begins, many, begins-within t (group + 1), begins-order t line sheet ready.table group)

      -- its place among the leads
      pub lead-there : begin + k < 512
      lead-there = omega (arith, record-below, few-records t line sheet ready.table)

      next-rule : k ≡ get_or (range 0 n) k 0
      next-rule = sym (range_at 0 n k 0 h ∙ omega arith)

      in-range : k < length (range 0 n)
      in-range = omega (arith, range_length 0 n)

      parts-named : rule_parts t (begin + k) ≡ s.parts group k
      parts-named = ap (λ (b : ℕ). rule_parts t (b + k)) begins ∙ sym (rule-parts t line sheet ready.table group k (omega (arith, many)))

      -- a rule that fails in its leading exact parts, told by its lead, is counted without a walk
      module _ (inner : Walker) (from : inner.cursor ≤ inner.limit) (within : inner.limit ≤ w.limit) {leads : List ℕ} (led : Leads t leads) (bytes : (i : ℕ) → get_or line i 0 < 256)
          (wanted : Bool) {a : Option ℕ} {fails : ℕ} (a-is : a ≡ ahead_of wanted line inner.limit inner.cursor) (fails-are : Some fails ≡ failing_of (get_or leads (begin + k) 0) a)
          {v₁ u₁ v u : ℕ} {store₁ store : List ℕ} (did : RulesDid t line sheet d group inner n v₁ u₁ store₁ k v u store) where
        fails-so : fails ≡ failing (rule_prefix (s.parts group k)) (ahead line inner.limit inner.cursor)
        fails-so =
            lead-tells t line ready.table bytes inner.limit inner.cursor (begin + k) record-below wanted (led.each (begin + k)) a-is fails-are
            ∙ ap (λ (ps : List Part). failing (rule_prefix ps) (ahead line inner.limit inner.cursor)) parts-named

        some : 0 < fails
        some = told-some _ a fails-are

        low : inner.limit ≤ length line
        low = omega (arith, ready.limit)

        pub rules-skip : fails ≤ v → RulesDid t line sheet d group inner n v₁ u₁ store₁ (k + 1) (v - fails) u store
        unfolding scene_of
        rules-skip enough =
            index-more (rule_from t line sheet d group inner) itself (d + 1) (range 0 n) k did in-range k 0 next-rule (v - fails) u store []
            (fails-done s (under s (depths - (d + 1))) (λ e. true) (s.parts group k) inner.limit inner.cursor low from fails fails-so some (named group k) v u enough)
            (made_none (d + 1) (log_of store u) did.stored.earlier) did.stored.sized did.counted

        pub rules-spent : v < fails → run (each (range 0 n) (rule_from t line sheet d group inner)) v₁ u₁ ≡ stop (number_of Spent) 0
        unfolding scene_of
        rules-spent few =
            index-stop (rule_from t line sheet d group inner) itself (d + 1) (range 0 n) k did in-range k 0 next-rule
            (fails-stop s (under s (depths - (d + 1))) (λ e. true) (s.parts group k) inner.limit inner.cursor low from fails fails-so some (named group k) v u few)

    module _ (k : ℕ) (h : k < n) (parts : Range ℕ) (span : parts ≡ rule_span t (begin + k)) (inner : Walker) (from : inner.cursor ≤ inner.limit) (within : inner.limit ≤ w.limit) where
      abbrev there : Place
      there = record { set = group; rule = k; at = parts.start; end = parts.end; depth = d + 1; args = 0 }

      pub rule-ready : (store : List ℕ) (has : Pool) → Stored store has.used → Counted (scene_of t [] []) (log_of store has.used) → Ready t line sheet starts store there inner has
      rule-ready store has st counts =
          let sp = span-within t line sheet ready.table (begin + k) (record-below k h) parts span in
          record {
            table = ready.table;
            extents = ready.extents;
            short = ready.short;
            begins = ready.begins;
            stored = st;
            counted = counts;
            sets = fits;
            rules = omega (arith, n-is, starts-few);
            parts = sp.from;
            ordered = sp.ordered;
            whole = sp.within;
            depth = omega arith;
            last = omega arith;
            cursor = from;
            limit = omega (arith, ready.limit);
            top = λ e. absurd (omega (arith, e));
          }

      parts_are : parts_between t parts.start parts.end ≡ s.parts group k
      parts_are =
          parts_whole t (begin + k) parts span ∙ parts-named k h

      -- a rule begins with no argument, and no count
      pub rule-stands : (store : List ℕ) (u : ℕ) {n : ℕ} → n ≡ 0 → Stands t store u there n (to_come t there) inner.cursor
      unfolding chain_at scene_of
      rule-stands store u z = record { own = first; so_far = so-start (scene_of t [] []) (sym parts_are) z; small = omega arith }

      plan-is : rule_plan t line sheet (d + 1) parts.start parts.end inner.limit inner.cursor
          ≡ walk s (under s (depths - (d + 1))) (λ e. true) (s.parts group k) inner.limit inner.cursor
      unfolding rule_plan parts_plan
      plan-is =
          ap (λ (f : ℕ → Bool). walk s (under s (depths - (d + 1))) f (parts_between t parts.start parts.end) inner.limit inner.cursor) (finishes-inner (length line) d)
          ∙ ap (λ (ps : List Part). walk s (under s (depths - (d + 1))) (λ e. true) ps inner.limit inner.cursor) parts_are

      module _ {v₁ u₁ v u : ℕ} {store₁ store : List ℕ} (did : RulesDid t line sheet d group inner n v₁ u₁ store₁ k v u store)
          {r : Result Walked Stopped} {has : Pool} (used : has.used ≡ u) {store'' : List ℕ}
          (m : Left t (ran (rule_plan t line sheet (d + 1) parts.start parts.end inner.limit inner.cursor) v has) there (log_of store has.used) store'' r) where
        ran-is : ran (rule_plan t line sheet (d + 1) parts.start parts.end inner.limit inner.cursor) v has
            ≡ run (walk s (under s (depths - (d + 1))) (λ e. true) (s.parts group k) inner.limit inner.cursor) v u
        ran-is = ap (λ (p : Plan (List Found)). run p v has.used) plan-is ∙ ap (run (walk s (under s (depths - (d + 1))) (λ e. true) (s.parts group k) inner.limit inner.cursor) v) used

        pub rules-again : {x : Walked} → r ≡ Ok x → length store'' ≡ 4096 → RulesDid t line sheet d group inner n v₁ u₁ store₁ (k + 1) x.left x.pool.used store''
        unfolding chain_at
        rules-again {x} e z =
            let y = reached m e in
            index-more (rule_from t line sheet d group inner) itself (d + 1) (range 0 n) k did (in-range k h) k 0 (next-rule k h) x.left x.pool.used store'' (map (named group k) y.founds)
            (mapped-done (named group k) (walk s (under s (depths - (d + 1))) (λ e. true) (s.parts group k) inner.limit inner.cursor) v u (sym ran-is ∙ y.done_with))
            (subst (λ (n : ℕ). Made (d + 1) (log_of store n) (log_of store'' x.pool.used) (map itself (map (named group k) y.founds))) used
            (subst (Made (d + 1) (log_of store has.used) (log_of store'' x.pool.used)) (sym (map-id (map (named group k) y.founds))) y.made))
            z y.counted

        pub rules-stop : {x : Stopped} → r ≡ Err x → run (each (range 0 n) (rule_from t line sheet d group inner)) v₁ u₁ ≡ stop (number_of x.why) x.left
        rules-stop e =
            index-stop (rule_from t line sheet d group inner) itself (d + 1) (range 0 n) k did (in-range k h) k 0 (next-rule k h)
            (mapped-stop (named group k) (walk s (under s (depths - (d + 1))) (λ e. true) (s.parts group k) inner.limit inner.cursor) v u (sym ran-is ∙ refused m e))

    -- a whole ruleset under a limit
    below-is : (inner : Walker) → under_limit t line sheet d group inner.cursor inner.limit ≡ each (range 0 n) (rule_from t line sheet d group inner)
    unfolding under ruleset_walk
    below-is inner =
        let e : depths - d ≡ suc (depths - (d + 1)) = omega arith in
        ap (λ (k : ℕ). under s k group inner.limit inner.cursor) e
        ∙ ap (λ (l : List ℕ). each l (rule_from t line sheet d group inner)) (rules-range t line sheet ready.table group ∙ ap (range 0) (sym many))

    -- ---- limits

    module _ (ls : List ℕ) (ls-are : ls ≡ limits (scene_of t line sheet) w.limit w.cursor (parts_between t place.at place.end)) where
      abbrev ys : List ℕ
      ys = limits s w.limit w.cursor (parts_between t place.at place.end)

      module _ (i : ℕ) (h : i < length ls) (m : ℕ) (is : m ≡ get_or ls i 0) where
        limit-within : (w.cursor ≤ m) × (m ≤ w.limit)
        limit-within =
            limits-within s (lawful t line sheet ready.extents) w.limit w.cursor (parts_between t place.at place.end) ready.cursor m
            (subst (λ (n : ℕ). Memᴰ n ys) (sym (is ∙ ap (λ (l : List ℕ). get_or l i 0) ls-are)) (member-at ys i (omega (arith, ap length ls-are))))

        -- the walker under that limit
        module _ (inner : Walker) (inner-is : inner ≡ limited line m (held line w)) where
          inner-there : inner ≡ record { cursor = w.cursor; limit = m }
          inner-there = inner-is ∙ limit-set line w m (ready.cursor, ready.limit) limit-within.0 (omega (arith, limit-within.1, ready.limit))

          pub inner-within : (inner.cursor ≤ inner.limit) × (inner.limit ≤ w.limit)
          inner-within = subst (λ (v : Walker). (v.cursor ≤ v.limit) × (v.limit ≤ w.limit)) (sym inner-there) limit-within

          whole_is : under_limit t line sheet d group w.cursor m ≡ each (range 0 n) (rule_from t line sheet d group inner)
          whole_is = ap (λ (v : Walker). under_limit t line sheet d group v.cursor v.limit) (sym inner-there) ∙ below-is inner

          module _ {v₁ u₁ v u : ℕ} {store₁ store : List ℕ} (did : LimitsDid t line sheet d group w.cursor ls v₁ u₁ store₁ i v u store) where
            pub limits-again : {k v' u' : ℕ} {store' : List ℕ} → RulesDid t line sheet d group inner n v u store k v' u' store' → n ≤ k
                → LimitsDid t line sheet d group w.cursor ls v₁ u₁ store₁ (i + 1) v' u' store'
            limits-again {k} {v'} {u'} {store'} rules z =
                let all = index-end (rule_from t line sheet d group inner) itself (d + 1) (range 0 n) k rules (omega (arith, range_length 0 n)) in
                index-more (under_limit t line sheet d group w.cursor) itself (d + 1) ls i did h m 0 is v' u' store' all.gave
                (ap (λ (p : Plan (List Match)). run p v u) whole_is ∙ all.done_with) all.made rules.stored.sized rules.counted

            pub limits-stop : {a l : ℕ} → run (each (range 0 n) (rule_from t line sheet d group inner)) v u ≡ stop a l
                → run (each ls (under_limit t line sheet d group w.cursor)) v₁ u₁ ≡ stop a l
            limits-stop e =
                index-stop (under_limit t line sheet d group w.cursor) itself (d + 1) ls i did h m 0 is
                (ap (λ (p : Plan (List Match)). run p v u) whole_is ∙ e)

    pub rules-start : (inner : Walker) (v u : ℕ) (store : List ℕ) → Stored store u → Counted (scene_of t [] []) (log_of store u) → RulesDid t line sheet d group inner n v u store 0 v u store
    rules-start inner v u store st counts = did_none t (rule_from t line sheet d group inner) itself (d + 1) v u store st counts

  pub limits-start : (ls : List ℕ) (v : ℕ) → LimitsDid t line sheet d group w.cursor ls v pool.used store₀ 0 v pool.used store₀
  limits-start ls v = did_none t (under_limit t line sheet d group w.cursor) itself (d + 1) v pool.used store₀ ready.stored ready.counted
