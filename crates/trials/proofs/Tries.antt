-- The rules that were chosen, each walked on the whole line at depth 0 from its prepared place. The pool is empty at the start, so the log is what the walks left, and its matches of depth 0 are those that the plan lists.
use mathlib.Core.Path.{◌≡◌, refl, sym, ap, ap₂, subst, ◌∙◌}
use mathlib.Core.Bool.{Bool}
use mathlib.Core.List.{List, [], ◌∷◌, ◌++◌, map, map-id}
use Rattle.std.specs.Prelude.{Option, Some, Result, Ok, Err}
use Prim.Native.Nat.{ℕ, ◌+◌, ◌-◌, ◌≤◌, ◌<◌}
use native.Mathlib.Omega.{arith}
use lib.Dec.{eqb}
use lib.ListN.{length, get_or, take}
use Rattle.syntax.specs.declared.walker.Walker.{Walker}
use Rattle.defs.specs.Table.{records_in, ruleset_at, parts_between, rule_span}
use Rattle.defs.specs.declared.ruledef.Part.{Part}
use Rattle.std.specs.declared.ops.Range.{Range}
use Rattle.defs.proofs.Words.{parts_whole}
use Rattle.line.proofs.Lines.{good-is}
use Rattle.readings.specs.Scene.{Scene, scene_of}
use Rattle.readings.specs.Tree.{node}
use Rattle.readings.specs.Plan.{Plan, give, done, run, each, ◌then◌}
use Rattle.readings.specs.Walk.{Found, Match, named, walk, under, depths, trial, tries}
use Rattle.readings.specs.Records.{pair_of}
use Rattle.readings.specs.Fail.{ahead, failing}
use Rattle.readings.proofs.Fails.{fails-done, fails-stop}
use Rattle.readings.proofs.Records.{pair_parts, pair-within, few-records, span-within}
use Rattle.pool.specs.declared.Pool.{Pool}
use Rattle.pool.specs.declared.Record.{Record}
use Rattle.pool.specs.Log.{log_of}
use Rattle.pool.specs.Meaning.{chain_at, Earlier, Stored}
use Rattle.pool.specs.Counted.{first, Counted}
use Rattle.pool.proofs.Words.{log-none}
use Rattle.pool.proofs.Meanings.{earlier-none}
use Rattle.pool.proofs.Counts.{counted_none}
use Rattle.pool.proofs.Passing.{so-start}
use Rattle.walk.specs.declared.Place.{Place}
use Rattle.walk.specs.declared.Stopped.{Stopped}
use Rattle.walk.specs.declared.Walked.{Walked}
use Rattle.walk.specs.declared.Refusal.TheVariants.{Spent}
use Rattle.walk.specs.Met.{finishes, parts_plan, rule_plan, ran, Ready, to_come, Stands, Made, whole_at, Left}
use Rattle.ruledef_map.specs.RuledefMap.{rule_prefix}
use Rattle.leads.specs.Leads.{ahead_of, failing_of, Leads}
use Rattle.leads.proofs.Told.{lead-tells, told-some}
use Rattle.places.specs.declared.RulePlace.{RulePlace}
use Rattle.places.specs.Places.{place_at, PlacedAt}
use Rattle.places.proofs.Words.{table-short}
use Rattle.trials.specs.Told.{TryAsked, Tried, listed, stopped}
use Rattle.walk.proofs.Outcomes.{mapped-done, mapped-stop}
use Rattle.walk.proofs.Logs.{made_none}
use Rattle.walk.proofs.Loops.{Did, did_none, index-end, index-more, index-stop}
use Rattle.walk.proofs.Turned.{reached, refused}
use Rattle.walk.proofs.Rules.{itself}

-- ---- each tried

-- one record's trial
abbrev pub trial_of : List ℕ → List ℕ → List ℕ → ℕ → Plan (List Match)
trial_of t line sheet i = trial (scene_of t line sheet) (pair_of t i)

abbrev pub TriesDid : List ℕ → List ℕ → List ℕ → List ℕ → ℕ → ℕ → List ℕ → ℕ → ℕ → ℕ → List ℕ → Type 0
TriesDid t line sheet rules v₀ u₀ store₀ i v u store = Did t (trial_of t line sheet) itself 0 (take i rules) v₀ u₀ store₀ v u store

tries-are : (t line sheet : List ℕ) (is : List ℕ) → tries (scene_of t line sheet) (map (pair_of t) is) ≡ each is (trial_of t line sheet)
unfolding tries each
tries-are t line sheet [] = refl
tries-are t line sheet (i ∷ is) = ap (λ (p : Plan (List Match)). trial_of t line sheet i then λ a. p then λ b. give (a ++ b)) (tries-are t line sheet is)

module _ {t line sheet starts store₀ rules : List ℕ} {places : List RulePlace} {visits : ℕ} (asked : TryAsked t line sheet starts places store₀ rules visits) where
  abbrev s : Scene
  s = scene_of t line sheet

  short : length line ≤ 120
  short = ((good-is line).0 asked.accepted.bytes).short

  pub tries-start : (pool : Pool) → pool.used ≡ 0 → TriesDid t line sheet rules visits pool.used store₀ 0 visits pool.used store₀
  tries-start pool e =
      did_none t (trial_of t line sheet) itself 0 visits pool.used store₀
      (record { sized = asked.sized; room = omega (arith, e); earlier = subst Earlier (sym (ap (log_of store₀) e ∙ log-none store₀)) earlier-none })
      (subst (Counted (scene_of t [] [])) (sym (ap (log_of store₀) e ∙ log-none store₀)) (counted_none (scene_of t [] [])))

  module _ (i : ℕ) {u₀ v u : ℕ} {store : List ℕ} (did : TriesDid t line sheet rules visits u₀ store₀ i v u store) where
    module _ (h : i < length rules) (rule : ℕ) (rule-is : rule ≡ get_or rules i 0) where
      known : rule < records_in t
      known = subst (λ (x : ℕ). x < records_in t) (sym rule-is) (asked.below i h)

      placed-here : PlacedAt t places rule
      placed-here = subst (PlacedAt t places) (sym rule-is) (asked.placed.each i h)

      -- its place, as the code reads it
      abbrev held : RulePlace
      held = get_or places rule (record { set = 0; number = 0; from = 0; to = 0 })

      held_is : held ≡ place_at t rule
      held_is = placed-here.is _

      -- where it stands
      pub words-there : (rule < 512) × (rule < length places)
      words-there = let few : rule < 512 = omega (arith, known, few-records t line sheet asked.accepted.table) in (few, omega (arith, few, asked.placed.sized))

      -- a rule that fails in its leading exact parts, told by its lead, is counted without a walk
      module _ {leads : List ℕ} (led : Leads t leads) (bytes : (j : ℕ) → get_or line j 0 < 256) (w : Walker) (start : w.cursor ≡ 0) (end_of_lem : w.limit ≡ length line)
          (wanted : Bool) {a : Option ℕ} {fails : ℕ} (a-is : a ≡ ahead_of wanted line w.limit w.cursor) (fails-are : Some fails ≡ failing_of (get_or leads rule 0) a) where
        some : 0 < fails
        some = told-some (get_or leads rule 0) a fails-are

        fails-so : fails ≡ failing (rule_prefix (s.parts (pair_of t rule).0 (pair_of t rule).1)) (ahead line (length line) 0)
        fails-so =
            lead-tells t line asked.accepted.table bytes (length line) 0 rule known wanted (led.each rule) (a-is ∙ ap₂ (ahead_of wanted line) end_of_lem start) fails-are
            ∙ ap (λ (ps : List Part). failing (rule_prefix ps) (ahead line (length line) 0)) (sym (pair_parts t line sheet asked.accepted.table rule known))

        pub tries-skip : fails ≤ v → TriesDid t line sheet rules visits u₀ store₀ (i + 1) (v - fails) u store
        unfolding trial scene_of
        tries-skip enough =
            index-more (trial_of t line sheet) itself 0 rules i did h rule 0 rule-is (v - fails) u store []
            (fails-done s (under s depths) (eqb (length line)) (s.parts (pair_of t rule).0 (pair_of t rule).1) (length line) 0 (omega arith) (omega arith) fails fails-so some (named (pair_of t rule).0 (pair_of t rule).1) v u enough)
            (made_none 0 (log_of store u) did.stored.earlier) did.stored.sized did.counted

        pub tries-spent : v < fails → u₀ ≡ 0 → Tried t (run (tries s (map (pair_of t) rules)) visits 0) store (Err (record { why = Spent; left = 0 }))
        unfolding trial scene_of
        tries-spent few z =
            stopped
            (ap (λ (p : Plan (List Match)). run p visits 0) (tries-are t line sheet rules) ∙ ap (run (each rules (trial_of t line sheet)) visits) (sym z)
            ∙ index-stop (trial_of t line sheet) itself 0 rules i did h rule 0 rule-is
            (fails-stop s (under s depths) (eqb (length line)) (s.parts (pair_of t rule).0 (pair_of t rule).1) (length line) 0 (omega arith) (omega arith) fails fails-so some (named (pair_of t rule).0 (pair_of t rule).1) v u few))

      in-ruleset : ruleset_at t rule < 32
      in-ruleset = (pair-within t line sheet asked.accepted.table rule known).2

      number_small : (pair_of t rule).1 < 512
      unfolding pair_of
      number_small = omega (arith, words-there.0)

      set_is : held.set ≡ ruleset_at t rule
      unfolding place_at
      set_is = ap (λ (p : RulePlace). p.set) held_is

      group_of : held.set ≡ (pair_of t rule).0
      unfolding pair_of
      group_of = set_is

      number_is : held.number ≡ (pair_of t rule).1
      unfolding pair_of place_at
      number_is = ap (λ (p : RulePlace). p.number) held_is

      parts : Range ℕ
      parts = record { start = held.from; end = held.to }

      span : parts ≡ rule_span t rule
      unfolding parts place_at
      span = λ k. record { start = (held_is k).from; end = (held_is k).to }

      pub fields-small : (held.set < 32) × (held.number < 512) × (held.from < 65536) × (held.to < 65536)
      unfolding parts
      fields-small =
          let sp = span-within t line sheet asked.accepted.table rule known parts span in
          let short = table-short t asked.accepted.table in
          (omega (arith, set_is, in-ruleset), omega (arith, number_is, number_small), omega (arith, sp.ordered, sp.within, short), omega (arith, sp.within, short))

      module _ (w : Walker) (start : w.cursor ≡ 0) (end_of_lem : w.limit ≡ length line) where
        abbrev there : Place
        there = record {
          set = held.set;
          rule = held.number;
          at = held.from;
          end = held.to;
          depth = 0;
          args = 0;
        }

        pub try-ready : (has : Pool) → has.used ≡ u → Ready t line sheet starts store there w has
        unfolding parts
        try-ready has e =
            let sp = span-within t line sheet asked.accepted.table rule known parts span in
            record {
              table = asked.accepted.table;
              extents = asked.accepted.extents;
              short = short;
              begins = asked.begins;
              stored = subst (Stored store) (sym e) did.stored;
              counted = subst (λ (n : ℕ). Counted (scene_of t [] []) (log_of store n)) (sym e) did.counted;
              sets = omega (arith, set_is, in-ruleset);
              rules = omega (arith, number_is, number_small);
              parts = sp.from;
              ordered = sp.ordered;
              whole = sp.within;
              depth = omega arith;
              last = omega arith;
              cursor = omega (arith, start);
              limit = omega (arith, end_of_lem);
              top = λ e. end_of_lem;
            }

        parts_are : parts_between t held.from held.to ≡ s.parts (pair_of t rule).0 (pair_of t rule).1
        unfolding parts
        parts_are = parts_whole t rule parts span ∙ sym (pair_parts t line sheet asked.accepted.table rule known)

        -- a top rule begins with no argument, and no count
        pub try-stands : (u : ℕ) {n : ℕ} → n ≡ 0 → Stands t store u there n (to_come t there) w.cursor
        unfolding chain_at scene_of
        try-stands u z = record {
          own = first;
          so_far = so-start (scene_of t [] []) (ap₂ (λ (a b : ℕ). (scene_of t [] []).parts a b) group_of number_is ∙ sym parts_are) z;
          small = omega arith;
        }

        abbrev walked : Plan (List Found)
        walked = walk s (under s depths) (eqb (length line)) (s.parts (pair_of t rule).0 (pair_of t rule).1) (length line) 0

        abbrev planned : Plan (List Found)
        planned = rule_plan t line sheet 0 held.from held.to w.limit w.cursor

        plan-is : planned ≡ walked
        unfolding rule_plan parts_plan finishes
        plan-is =
            ap (λ (ps : List Part). walk s (under s depths) (eqb (length line)) ps w.limit w.cursor) parts_are
            ∙ ap (λ (l : ℕ). walk s (under s depths) (eqb (length line)) (s.parts (pair_of t rule).0 (pair_of t rule).1) l w.cursor) end_of_lem
            ∙ ap (λ (c : ℕ). walk s (under s depths) (eqb (length line)) (s.parts (pair_of t rule).0 (pair_of t rule).1) (length line) c) start

        module _ {has : Pool} (used : has.used ≡ u) {r : Result Walked Stopped} {store'' : List ℕ}
            (m : Left t (ran planned v has) there (log_of store has.used) store'' r) where
          ran-is : ran planned v has ≡ run walked v u
          ran-is = ap (λ (p : Plan (List Found)). run p v has.used) plan-is ∙ ap (run walked v) used

          named-is : (x : Found) → whole_at there (log_of store has.used) x ≡ named (pair_of t rule).0 (pair_of t rule).1 x
          unfolding chain_at
          named-is x = λ k. (node (group_of k) (number_is k) x.0, x.1)

          all_named : (xs : List Found) → map (whole_at there (log_of store has.used)) xs ≡ map (named (pair_of t rule).0 (pair_of t rule).1) xs
          all_named [] = refl
          all_named (x ∷ xs) = λ k. named-is x k ∷ all_named xs k

          pub tries-again : {now : Walked} → r ≡ Ok now → length store'' ≡ 4096 → TriesDid t line sheet rules visits u₀ store₀ (i + 1) now.left now.pool.used store''
          unfolding trial scene_of
          tries-again {now} e z =
              let x = reached m e in
              let found = map (named (pair_of t rule).0 (pair_of t rule).1) x.founds in
              index-more (trial_of t line sheet) itself 0 rules i did h rule 0 rule-is now.left now.pool.used store'' found
              (mapped-done (named (pair_of t rule).0 (pair_of t rule).1) walked v u (sym ran-is ∙ x.done_with))
              (subst (λ (n : ℕ). Made 0 (log_of store n) (log_of store'' now.pool.used) (map itself found)) used
              (subst (Made 0 (log_of store has.used) (log_of store'' now.pool.used)) (all_named x.founds ∙ sym (map-id found)) x.made))
              z x.counted

          pub tries-stop : {stop : Stopped} → r ≡ Err stop → u₀ ≡ 0 → Tried t (run (tries s (map (pair_of t) rules)) visits 0) store'' (Err stop)
          unfolding trial scene_of
          tries-stop e z =
              stopped
              (ap (λ (p : Plan (List Match)). run p visits 0) (tries-are t line sheet rules) ∙ ap (run (each rules (trial_of t line sheet)) visits) (sym z)
              ∙ index-stop (trial_of t line sheet) itself 0 rules i did h rule 0 rule-is
              (mapped-stop (named (pair_of t rule).0 (pair_of t rule).1) walked v u (sym ran-is ∙ refused m e)))

    pub tries-end : length rules ≤ i → u₀ ≡ 0 → (w : Walked) → w.left ≡ v → w.pool.used ≡ u → Tried t (run (tries s (map (pair_of t) rules)) visits 0) store (Ok w)
    tries-end h z w k e =
        let all = index-end (trial_of t line sheet) itself 0 rules i did h in
        listed
        (record {
          matches = all.gave;
          done_with = ap (λ (p : Plan (List Match)). run p visits 0) (tries-are t line sheet rules) ∙ ap (run (each rules (trial_of t line sheet)) visits) (sym z)
              ∙ all.done_with ∙ ap₂ (λ (m n : ℕ). done m n all.gave) (sym k) (sym e);
          made = subst (λ (n : ℕ). Made 0 [] (log_of store n) all.gave) (sym e)
              (subst (λ (l : List Record). Made 0 l (log_of store u) all.gave) (ap (log_of store₀) z ∙ log-none store₀)
              (subst (Made 0 (log_of store₀ u₀) (log_of store u)) (map-id all.gave) all.made));
          counted = subst (λ (n : ℕ). Counted (scene_of t [] []) (log_of store n)) (sym e) all.counted;
          room = omega (arith, e, all.stored.room);
        })
