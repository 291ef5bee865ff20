-- The rule walk at each kind of part: what the plan says there, and where the code's moves lead. A loop over parts that keeps
-- no record has as its invariant that the plan from here, with the visits left, comes to what it comes to from the start.
use mathlib.Core.Path.{◌≡◌, refl, sym, ap, subst, ◌∙◌}
use mathlib.Core.Bool.{Bool, true, false, ◌&&◌}
use Rattle.std.specs.Prelude.{Option, None, Some, Result, Ok, Err}
use mathlib.Core.List.{List, [], ◌∷◌}
use Prim.Native.Nat.{ℕ, ◌+◌, ◌-◌, ◌≤◌, ◌<◌}
use native.Mathlib.Omega.{arith}
use lib.Dec.{ltb}
use lib.ListN.{length}
use borrow.Author.Tests.{ltb-true}
use Rattle.plain.specs.Choice.{select}
use Rattle.plain.proofs.Tests.{and_left}
use Rattle.token.specs.Token.{same_letter}
use Rattle.syntax.specs.Walker.{byte_at, held, useful, step_says, expect_char, expect_whitespace}
use Rattle.syntax.specs.declared.walker.Walker.{Walker}
use Rattle.syntax.specs.declared.walker.Step.{Step}
use Rattle.syntax.specs.declared.walker.Step.TheVariants.{Past, Stayed}
use Rattle.syntax.proofs.Useful.{held-within, held_same, useful-is}
use Rattle.defs.specs.Table.{word_at, part_of, parts_between}
use Rattle.defs.specs.declared.ruledef.Part.{Part}
use Rattle.defs.specs.declared.ruledef.Part.TheVariants.{Exact, Whitespace, Expression, Nested}
use Rattle.defs.proofs.Words.{parts_none, parts_next}
use Rattle.readings.specs.Scene.{Scene, scene_of, walker_at}
use Rattle.readings.specs.Plan.{Outcome, done, stop, run, when, after}
use Rattle.readings.specs.Walk.{Found, went_to, exactly, walk, is_gap}
use Rattle.readings.proofs.Records.{nested-few}
use Rattle.pool.specs.declared.Pool.{Pool}
use Rattle.pool.specs.declared.Record.{Record}
use Rattle.pool.specs.Log.{log_of}
use Rattle.pool.specs.Meaning.{Stored}
use Rattle.pool.specs.Counted.{Counted}
use Rattle.pool.proofs.Passing.{so-exact, so-whitespace, so-end}
use Rattle.walk.specs.declared.Place.{Place}
use Rattle.walk.specs.declared.Stopped.{Stopped}
use Rattle.walk.specs.declared.Walked.{Walked}
use Rattle.walk.specs.declared.Refusal.TheVariants.{Spent}
use Rattle.walk.specs.Met.{finish_plan, parts_plan, rule_plan, expr_plan, expr_turn, nested_plan, nest_turn, ran, Ready, Stands, to_come, Ended, Left, went, halted, past_at}
use Rattle.walk.proofs.Outcomes.{visit-none, visit-more}
use Rattle.walk.proofs.Logs.{made_none}
use Rattle.walk.proofs.Turned.{left-same, left-past}

-- ---- what asking for a byte or for whitespace found

module _ (t line sheet : List ℕ) (l c : ℕ) where
  abbrev s : Scene
  s = scene_of t line sheet

  abbrev w : Walker
  w = walker_at line l c

  module _ (x : ℕ) (step : Step) (says : step_says step ≡ expect_char line x w) where
    pub exact_past : (next : Walker) → step ≡ Past next → exactly s l c x ≡ Some next.cursor
    unfolding exactly scene_of
    exact_past next e = ap went_to (sym says ∙ ap step_says e)

    pub exact-stayed : {back : Walker} → step ≡ Stayed back → exactly s l c x ≡ None
    unfolding exactly scene_of
    exact-stayed e = ap went_to (sym says ∙ ap step_says e)

    test : Bool
    test = ltb (useful line w) w.limit && same_letter (byte_at line (useful line w)) x

    -- the walker past the byte stands further on and below the limit, which stays
    pub exact-within : (next : Walker) → step ≡ Past next → c ≤ l → l ≤ length line → (c < next.cursor) × (next.cursor ≤ l) × (next.limit ≡ l)
    unfolding expect_char test held
    exact-within next e on h = go test refl (sym (ap step_says e) ∙ says)
      where
        go : (b : Bool) → test ≡ b → ◌≡◌ {A = Bool × Walker} (true, next) (select b (true, record { cursor = useful line w + 1; limit = w.limit }) (false, w))
            → (c < next.cursor) × (next.cursor ≤ l) × (next.limit ≡ l)
        go true i q =
            let further = (useful-is line w (held-within line (record { cursor = c; limit = l }))).from in
            let below = ltb-true (useful line w) w.limit (and_left (ltb (useful line w) w.limit) _ i) in
            let n : next.cursor ≡ useful line w + 1 = ap (λ (y : Bool × Walker). y.1.cursor) q in
            let k : next.limit ≡ w.limit = ap (λ (y : Bool × Walker). y.1.limit) q in
            (omega arith, omega arith, omega arith)
        go false i q = let z : true ≡ false = ap (λ (y : Bool × Walker). y.0) q in let k : ◌≡◌ {A = ℕ} 0 1 = cc in absurd (omega arith)

  module _ (step : Step) (says : step_says step ≡ expect_whitespace line w) where
    pub gap-past : {next : Walker} → step ≡ Past next → is_gap s l c ≡ true
    unfolding scene_of
    gap-past e = sym (ap (λ (y : Bool × Walker). y.0) (sym (ap step_says e) ∙ says))

    -- it consumes nothing, and the limit stays
    pub gap-stays : (next : Walker) → step ≡ Past next → c ≤ l → l ≤ length line → next ≡ record { cursor = c; limit = l }
    gap-stays next e h k = ap (λ (y : Bool × Walker). y.1) (sym (ap step_says e) ∙ says) ∙ held_same line (record { cursor = c; limit = l }) (h, k)

    pub gap-stayed : {back : Walker} → step ≡ Stayed back → is_gap s l c ≡ false
    unfolding scene_of
    gap-stayed e = sym (ap (λ (y : Bool × Walker). y.0) (sym (ap step_says e) ∙ says))

-- ---- the plan at a part, and its run

-- the part at a place, and those after it
opened : (t : List ℕ) (at to : ℕ) → at < to → to ≤ length t → (part : Part) → part ≡ part_of (word_at t at) → {p : Part} → part ≡ p
    → parts_between t at to ≡ p ∷ parts_between t (at + 1) to
opened t at to h k part is e = parts_next t at to k h ∙ ap (λ (q : Part). q ∷ parts_between t (at + 1) to) (sym is ∙ e)

module _ (t line sheet : List ℕ) (depth at to l c left u : ℕ) where
  -- what the plan from here comes to
  abbrev pub from : Outcome (List Found)
  from = run (rule_plan t line sheet depth at to l c) left u

  pub none_left : left ≡ 0 → to ≤ length t → from ≡ stop 6 0
  unfolding rule_plan parts_plan walk
  none_left e h = go (parts_between t at to)
    where
      go : (ps : List Part) → run (parts_plan t line sheet depth ps l c) left u ≡ stop 6 0
      go [] = visit-none _ left u e
      go (Exact x ∷ ps) = visit-none _ left u e
      go (Whitespace ∷ ps) = visit-none _ left u e
      go (Expression ∷ ps) = visit-none _ left u e
      go (Nested r ∷ ps) = visit-none _ left u e

  module _ (more : left ≡ 0 → ⊥) where
    pub at-end : to ≤ length t → to ≤ at → from ≡ run (finish_plan (length line) depth c) (left - 1) u
    unfolding rule_plan parts_plan walk finish_plan
    at-end k h = ap (λ (ps : List Part). run (parts_plan t line sheet depth ps l c) left u) (parts_none t at to k h) ∙ visit-more _ left u more

    module _ (h : at < to) (k : to ≤ length t) (part : Part) (is : part ≡ part_of (word_at t at)) where
      pub at_exact : {x : ℕ} → part ≡ Exact x → from ≡ run (after (exactly (scene_of t line sheet) l c x) (λ d. rule_plan t line sheet depth (at + 1) to l d)) (left - 1) u
      unfolding rule_plan parts_plan walk
      at_exact e = ap (λ (ps : List Part). run (parts_plan t line sheet depth ps l c) left u) (opened t at to h k part is e) ∙ visit-more _ left u more

      pub at-whitespace : part ≡ Whitespace → from ≡ run (when (is_gap (scene_of t line sheet) l c) (rule_plan t line sheet depth (at + 1) to l c)) (left - 1) u
      unfolding rule_plan parts_plan walk
      at-whitespace e = ap (λ (ps : List Part). run (parts_plan t line sheet depth ps l c) left u) (opened t at to h k part is e) ∙ visit-more _ left u more

      pub at-expression : part ≡ Expression → from ≡ run (expr_plan t line sheet depth (at + 1) to l c) (left - 1) u
      unfolding rule_plan parts_plan walk expr_plan expr_turn
      at-expression e = ap (λ (ps : List Part). run (parts_plan t line sheet depth ps l c) left u) (opened t at to h k part is e) ∙ visit-more _ left u more

      pub at_nested : {r : ℕ} → part ≡ Nested r → from ≡ run (nested_plan t line sheet depth r (at + 1) to l c) (left - 1) u
      unfolding rule_plan parts_plan walk nested_plan nest_turn
      at_nested e = ap (λ (ps : List Part). run (parts_plan t line sheet depth ps l c) left u) (opened t at to h k part is e) ∙ visit-more _ left u more

      pub past-exact : {x d : ℕ} → part ≡ Exact x → exactly (scene_of t line sheet) l c x ≡ Some d → from ≡ run (rule_plan t line sheet depth (at + 1) to l d) (left - 1) u
      past-exact e q = at_exact e ∙ ap (λ (o : Option ℕ). run (after o (λ d. rule_plan t line sheet depth (at + 1) to l d)) (left - 1) u) q

      pub no-exact : {x : ℕ} → part ≡ Exact x → exactly (scene_of t line sheet) l c x ≡ None → from ≡ done (left - 1) u []
      unfolding run
      no-exact e q = at_exact e ∙ ap (λ (o : Option ℕ). run (after o (λ d. rule_plan t line sheet depth (at + 1) to l d)) (left - 1) u) q

      pub past-whitespace : part ≡ Whitespace → is_gap (scene_of t line sheet) l c ≡ true → from ≡ run (rule_plan t line sheet depth (at + 1) to l c) (left - 1) u
      past-whitespace e q = at-whitespace e ∙ ap (λ (b : Bool). run (when b (rule_plan t line sheet depth (at + 1) to l c)) (left - 1) u) q

      pub no-whitespace : part ≡ Whitespace → is_gap (scene_of t line sheet) l c ≡ false → from ≡ done (left - 1) u []
      unfolding run
      no-whitespace e q = at-whitespace e ∙ ap (λ (b : Bool). run (when b (rule_plan t line sheet depth (at + 1) to l c)) (left - 1) u) q

-- ---- a walk that finds nothing, or is out of visits

pub left-nothing : {t : List ℕ} {o : Outcome (List Found)} {left : ℕ} (place : Place) (pool : Pool) (store : List ℕ) → Stored store pool.used
    → Counted (scene_of t [] []) (log_of store pool.used) → o ≡ done left pool.used [] → Left t o place (log_of store pool.used) store (Ok (record { left = left; pool = pool }))
left-nothing place pool store s counts e =
    went (record { founds = []; done_with = e; made = made_none place.depth (log_of store pool.used) s.earlier; counted = counts })

-- ---- the loop over parts

pub record Along (t line sheet : List ℕ) (place : Place) (w : Walker) (to u : ℕ) (store₀ : List ℕ) (left₀ at₀ : ℕ) (store : List ℕ) (left at count : ℕ) (here : Walker) : Type 0 where
  pub same : store ≡ store₀
  pub falls : left ≤ left₀
  pub later : at₀ ≤ at
  pub within : at ≤ to
  pub inside : here.cursor ≤ w.limit
  pub under : here.limit ≡ w.limit
  pub stands : Stands t store₀ u place count (parts_between t at to) here.cursor
  pub comes : from t line sheet place.depth at₀ to w.limit w.cursor left₀ u ≡ from t line sheet place.depth at to w.limit here.cursor left u

-- the same count by another name
pub along-by : {t line sheet : List ℕ} {place : Place} {w : Walker} {to u : ℕ} {store₀ : List ℕ} {left₀ at₀ : ℕ} {store : List ℕ} {left at count more : ℕ} {here : Walker} → count ≡ more
    → Along t line sheet place w to u store₀ left₀ at₀ store left at count here → Along t line sheet place w to u store₀ left₀ at₀ store left at more here
along-by {t} {line} {sheet} {place} {w} {to} {u} {store₀} {left₀} {at₀} {store} {left} {at} {here = here} e a =
    subst (λ (n : ℕ). Along t line sheet place w to u store₀ left₀ at₀ store left at n here) e a

module _ {t line sheet starts store₀ : List ℕ} {place : Place} {w : Walker} {pool : Pool} (ready : Ready t line sheet starts store₀ place w pool) (visits : ℕ) where
  pub along-start : {count : ℕ} → Stands t store₀ pool.used place count (to_come t place) w.cursor
      → Along t line sheet place w place.end pool.used store₀ visits place.at store₀ visits place.at count w
  along-start standing = record {
    same = refl;
    falls = omega arith;
    later = omega arith;
    within = ready.ordered;
    inside = ready.cursor;
    under = refl;
    stands = standing;
    comes = refl;
  }

  module _ {store : List ℕ} {left at count : ℕ} {here : Walker} (along : Along t line sheet place w place.end pool.used store₀ visits place.at store left at count here) where
    abbrev c : ℕ
    c = here.cursor

    -- the walker has kept its limit
    same-walker : here ≡ record { cursor = c; limit = w.limit }
    same-walker = λ i. record { cursor = c; limit = along.under i }

    abbrev planned : Outcome (List Found)
    planned = ran (rule_plan t line sheet place.depth place.at place.end w.limit w.cursor) visits pool

    abbrev log : List Record
    log = log_of store₀ pool.used

    pub along-stored : Stored store pool.used
    along-stored = subst (λ (x : List ℕ). Stored x pool.used) (sym along.same) ready.stored

    along-counted : Counted (scene_of t [] []) (log_of store pool.used)
    along-counted = subst (λ (x : List ℕ). Counted (scene_of t [] []) (log_of x pool.used)) (sym along.same) ready.counted

    -- where the match stands, in the store as it is
    standing : {rest : List Part} → parts_between t at place.end ≡ rest → Stands t store pool.used place count rest c
    standing {rest} e =
        subst (λ (x : List ℕ). Stands t x pool.used place count rest c) (sym along.same)
        (subst (λ (ps : List Part). Stands t store₀ pool.used place count ps c) e along.stands)

    -- the count is at most the cursor, so it fits
    pub along-small : count < 128
    along-small = omega (arith, along.stands.small, along.inside, ready.limit, ready.short)

    -- what a step's call left, with the log as it was
    pub along-left : {o : Outcome (List Found)} {store' : List ℕ} {r : Result Walked Stopped} → planned ≡ o → Left t o place (log_of store pool.used) store' r → Left t planned place log store' r
    along-left {store' = store'} {r = r} e m =
        subst (λ (x : List ℕ). Left t planned place (log_of x pool.used) store' r) along.same (left-same (sym e) m)

    pub along-spent : left ≡ 0 → Left t planned place log store (Err (record { why = Spent; left = 0 }))
    along-spent e = halted (along.comes ∙ none_left t line sheet place.depth at place.end w.limit c left pool.used e ready.whole)

    -- what the end of the pattern asks
    pub along-ended : at ≡ place.end → Ended t store pool.used place count
    along-ended e =
        let x = standing (ap (λ (n : ℕ). parts_between t n place.end) e ∙ parts_none t place.end place.end ready.whole (omega arith)) in
        record { counted = along-counted; own = x.own; whole = so-end (scene_of t [] []) x.so_far }

    module _ (more : left ≡ 0 → ⊥) where
      pub along-end : at ≡ place.end → {store' : List ℕ} {r : Result Walked Stopped} → Left t (ran (finish_plan (length line) place.depth c) (left - 1) pool) place (log_of store pool.used) store' r
          → Left t planned place log store' r
      along-end e m = along-left (along.comes ∙ at-end t line sheet place.depth at place.end w.limit c left pool.used more ready.whole (omega arith)) m

      module _ (on : at ≡ place.end → ⊥) (part : Part) (is : part ≡ part_of (word_at t at)) where
        before : at < place.end
        before = omega (arith, along.within, on)

        nothing : from t line sheet place.depth at place.end w.limit c left pool.used ≡ done (left - 1) pool.used [] → Left t planned place log store (Ok (record { left = left - 1; pool = pool }))
        nothing e = along-left refl (left-nothing place pool store along-stored along-counted (along.comes ∙ e))

        moved : (next : Walker) (n : ℕ) → (next.cursor ≤ w.limit) × (next.limit ≡ w.limit) → Stands t store₀ pool.used place n (parts_between t (at + 1) place.end) next.cursor
            → from t line sheet place.depth at place.end w.limit c left pool.used ≡ from t line sheet place.depth (at + 1) place.end w.limit next.cursor (left - 1) pool.used
            → Along t line sheet place w place.end pool.used store₀ visits place.at store (left - 1) (at + 1) n next
        moved next n h there e = record {
          same = along.same;
          falls = omega (arith, along.falls);
          later = omega (arith, along.later);
          within = omega (arith, before);
          inside = h.0;
          under = h.1;
          stands = there;
          comes = along.comes ∙ e;
        }

        module _ {x : ℕ} (exact : part ≡ Exact x) (step : Step) (says : step_says step ≡ expect_char line x (held line here)) where
          says_there : step_says step ≡ expect_char line x (walker_at line w.limit c)
          says_there = says ∙ ap (λ (v : Walker). expect_char line x (held line v)) same-walker

          exact-stands : {d : ℕ} → c < d → Stands t store₀ pool.used place (count + 1) (parts_between t (at + 1) place.end) d
          exact-stands h =
              let so : Stands t store₀ pool.used place count (Exact x ∷ parts_between t (at + 1) place.end) c = subst (λ (ps : List Part). Stands t store₀ pool.used place count ps c)
              (opened t at place.end before ready.whole part is exact) along.stands in
              record { own = so.own; so_far = so-exact (scene_of t [] []) so.so_far; small = omega (arith, so.small) }

          pub along-exact : {next : Walker} → step ≡ Past next → Along t line sheet place w place.end pool.used store₀ visits place.at store (left - 1) (at + 1) (count + 1) next
          along-exact {next} e =
              let (further, low, same) = exact-within t line sheet w.limit c x step says_there next e along.inside ready.limit in
              moved next (count + 1) (low, same) (exact-stands further)
              (past-exact t line sheet place.depth at place.end w.limit c left pool.used more before ready.whole part is exact
              (exact_past t line sheet w.limit c x step says_there next e))

          pub along-no-exact : {back : Walker} → step ≡ Stayed back → Left t planned place log store (Ok (record { left = left - 1; pool = pool }))
          along-no-exact e =
              nothing
              (no-exact t line sheet place.depth at place.end w.limit c left pool.used more before ready.whole part is exact
              (exact-stayed t line sheet w.limit c x step says_there e))

        module _ (space : part ≡ Whitespace) (step : Step) (says : step_says step ≡ expect_whitespace line (held line here)) where
          space-there : step_says step ≡ expect_whitespace line (walker_at line w.limit c)
          space-there = says ∙ ap (λ (v : Walker). expect_whitespace line (held line v)) same-walker

          space-stands : Stands t store₀ pool.used place count (parts_between t (at + 1) place.end) c
          space-stands =
              let so : Stands t store₀ pool.used place count (Whitespace ∷ parts_between t (at + 1) place.end) c = subst (λ (ps : List Part). Stands t store₀ pool.used place count ps c)
              (opened t at place.end before ready.whole part is space) along.stands in
              record { own = so.own; so_far = so-whitespace (scene_of t [] []) so.so_far; small = so.small }

          pub along-whitespace : {next : Walker} → step ≡ Past next → Along t line sheet place w place.end pool.used store₀ visits place.at store (left - 1) (at + 1) count next
          along-whitespace {next} e =
              subst (Along t line sheet place w place.end pool.used store₀ visits place.at store (left - 1) (at + 1) count)
              (sym (gap-stays t line sheet w.limit c step space-there next e along.inside ready.limit))
              (moved (record { cursor = c; limit = w.limit }) count (along.inside, refl) space-stands
              (past-whitespace t line sheet place.depth at place.end w.limit c left pool.used more before ready.whole part is space
              (gap-past t line sheet w.limit c step space-there e)))

          pub along-no-whitespace : {back : Walker} → step ≡ Stayed back → Left t planned place log store (Ok (record { left = left - 1; pool = pool }))
          along-no-whitespace e =
              nothing
              (no-whitespace t line sheet place.depth at place.end w.limit c left pool.used more before ready.whole part is space
              (gap-stayed t line sheet w.limit c step space-there e))

        -- what the two steps ask
        pub step-ready : {rest : Place} → rest ≡ past_at place (at + 1) → Ready t line sheet starts store rest here pool
        step-ready {rest} e = subst (λ (q : Place). Ready t line sheet starts store q here pool) (sym e)
            (record {
              table = ready.table;
              extents = ready.extents;
              short = ready.short;
              begins = ready.begins;
              stored = along-stored;
              counted = along-counted;
              sets = ready.sets;
              rules = ready.rules;
              parts = omega (arith, ready.parts, along.later);
              ordered = omega (arith, before);
              whole = ready.whole;
              depth = ready.depth;
              last = ready.last;
              cursor = omega (arith, along.inside, along.under);
              limit = omega (arith, ready.limit, along.under);
              top = λ z. along.under ∙ ready.top z;
            })

        -- and where its match stands there
        pub step-stands : {p : Part} → part ≡ p → {rest : Place} → rest ≡ past_at place (at + 1) → Stands t store pool.used rest count (p ∷ to_come t rest) c
        step-stands {p} e {rest} q =
            subst (λ (r : Place). Stands t store pool.used r count (p ∷ to_come t r) c) (sym q)
            (let x = standing (opened t at place.end before ready.whole part is e) in record { own = x.own; so_far = x.so_far; small = x.small })

        pub ruleset-few : {r : ℕ} → part ≡ Nested r → r < 32
        ruleset-few {r} e = nested-few t line sheet ready.table at r (omega (arith, ready.parts, along.later)) (omega (arith, before, ready.whole)) (sym is ∙ e)

        pub along-expression : part ≡ Expression → {rest : Place} → rest ≡ past_at place (at + 1) → {store' : List ℕ} {r : Result Walked Stopped}
            → Left t (ran (expr_plan t line sheet rest.depth rest.at rest.end here.limit c) (left - 1) pool) rest (log_of store pool.used) store' r
            → Left t planned place log store' r
        along-expression e {rest} q {store'} {r} m =
            along-left (along.comes ∙ at-expression t line sheet place.depth at place.end w.limit c left pool.used more before ready.whole part is e)
            (left-past (subst (λ (p : Place). Left t (ran (expr_plan t line sheet p.depth p.at p.end w.limit c) (left - 1) pool) p (log_of store pool.used) store' r) q
            (subst (λ (l : ℕ). Left t (ran (expr_plan t line sheet rest.depth rest.at rest.end l c) (left - 1) pool) rest (log_of store pool.used) store' r) along.under m)))

        pub along-nested : {group : ℕ} → part ≡ Nested group → {rest : Place} → rest ≡ past_at place (at + 1) → {store' : List ℕ} {r : Result Walked Stopped}
            → Left t (ran (nested_plan t line sheet rest.depth group rest.at rest.end here.limit c) (left - 1) pool) rest (log_of store pool.used) store' r
            → Left t planned place log store' r
        along-nested {group} e {rest} q {store'} {r} m =
            along-left (along.comes ∙ at_nested t line sheet place.depth at place.end w.limit c left pool.used more before ready.whole part is e)
            (left-past (subst (λ (p : Place). Left t (ran (nested_plan t line sheet p.depth group p.at p.end w.limit c) (left - 1) pool) p (log_of store pool.used) store' r) q
            (subst (λ (l : ℕ). Left t (ran (nested_plan t line sheet rest.depth group rest.at rest.end l c) (left - 1) pool) rest (log_of store pool.used) store' r) along.under m)))
