-- The expression step's loop over candidate ends. The loop knows the useful place and the ends, as the code holds them; with
-- these its turns are the plan's.
use Rattle.std.specs.Prelude.{Result, Ok, Err}
use mathlib.Core.Path.{◌≡◌, refl, sym, ap, subst, ◌∙◌}
use mathlib.Core.List.{List, [], ◌∷◌, ◌++◌, map, Memᴰ}
use Prim.Native.Nat.{ℕ, ◌+◌, ◌≤◌, ◌<◌, min}
use native.Mathlib.Omega.{arith}
use lib.ListN.{length, get_or, take}
use Rattle.plain.proofs.Lists.{listed-length}
use Rattle.syntax.specs.Walker.{held, moved_to, useful}
use Rattle.syntax.proofs.Useful.{index-set}
use Rattle.syntax.specs.declared.walker.Walker.{Walker}
use Rattle.defs.specs.Table.{parts_between}
use Rattle.defs.specs.declared.ruledef.Part.{Part}
use Rattle.readings.specs.Scene.{Scene, scene_of}
use Rattle.readings.specs.Plan.{Plan, done, stop, run, each}
use Rattle.readings.specs.Walk.{Found, ends}
use Rattle.readings.proofs.Leaves.{alone}
use Rattle.readings.proofs.Packed.{lawful}
use Rattle.lookahead.specs.declared.Few.{Few}
use Rattle.lookahead.specs.Held.{held_ends}
use Rattle.lookahead.proofs.Choices.{ends-few, ends-within}
use Rattle.pool.specs.declared.ArgumentKind.TheVariants.{Expr}
use Rattle.pool.specs.declared.Argument.{Argument}
use Rattle.pool.specs.declared.Pool.{Pool}
use Rattle.pool.specs.declared.Record.{Record}
use Rattle.pool.specs.declared.Record.TheVariants.{Kept}
use Rattle.pool.specs.Log.{log_of, ArgumentFits, Added}
use Rattle.pool.specs.Meaning.{Stored, entries}
use Rattle.pool.specs.Counted.{Counted}
use Rattle.walk.specs.declared.Place.{Place}
use Rattle.walk.specs.declared.Stopped.{Stopped}
use Rattle.walk.specs.declared.Walked.{Walked}
use Rattle.walk.specs.declared.Refusal.TheVariants.{Full}
use Rattle.walk.specs.Met.{rule_plan, expr_plan, expr_turn, ran, Ready, to_come, from_expr, Stands, Made, whole_at, Left, went, halted, after_arg}
use Rattle.walk.proofs.Held.{held-is, member-at}
use Rattle.walk.proofs.Turns.{turn, turn-full, turn-stored}
use Rattle.walk.proofs.Loops.{Did, did_none, did-same, did-longer, index-end, index-stop, next-taken}
use Rattle.walk.proofs.Turned.{turned, turn-refused}
use Rattle.walk.proofs.Standing.{stands-later, adds_of, kept-stands, kept-counted}

-- an expression's argument
abbrev pub expr_arg : ℕ → ℕ → Argument
expr_arg start e = record { start = start; end = e; kind = Expr }

-- one candidate end's turn
abbrev pub expr_from : List ℕ → List ℕ → List ℕ → Place → ℕ → ℕ → ℕ → Plan (List Found)
expr_from t line sheet place l g e = turn [] (expr_arg (min e g) e) (rule_plan t line sheet place.depth place.at place.end l e)

-- the ends that the code holds
module _ (s : Scene) (l c : ℕ) (ps : List Part) {es : Few 3} (is : es ≡ held_ends (ends s l c ps)) where
  few : length (ends s l c ps) ≤ 3
  few = ends-few s l c ps

  pub ends-held : take es.count es.places ≡ ends s l c ps
  unfolding held_ends
  ends-held = ap (λ (e : Few 3). take e.count e.places) is ∙ held-is 3 (ends s l c ps) few

  pub ends-three : (es.count ≤ 3) × (length es.places ≡ 3)
  unfolding held_ends
  ends-three = (omega (arith, ap (λ (e : Few 3). e.count) is, few), ap (λ (e : Few 3). length e.places) is ∙ listed-length 3 (λ j. get_or (ends s l c ps) j 0))

-- the loop's invariant
abbrev pub ExprDid : List ℕ → List ℕ → List ℕ → Place → ℕ → ℕ → List ℕ → ℕ → ℕ → List ℕ → ℕ → ℕ → ℕ → List ℕ → Type 0
ExprDid t line sheet place l g es v₀ u₀ store₀ i v u store =
    Did t (expr_from t line sheet place l g) (whole_at place (log_of store₀ u₀)) place.depth (take i es) v₀ u₀ store₀ v u store

-- where a move to an end below the limit leads
pub moved-there : {t line sheet starts store₀ : List ℕ} {place : Place} {w : Walker} {pool : Pool} → Ready t line sheet starts store₀ place w pool
    → (e : ℕ) → e ≤ w.limit → moved_to line e (held line w) ≡ record { cursor = e; limit = w.limit }
moved-there {line = line} {w = w} r e h = index-set line w e (r.cursor, r.limit) h

-- what the next walk asks, of a walker that was moved to an end below the limit
pub ready-after : {t line sheet starts store₀ : List ℕ} {place : Place} {w : Walker} {pool : Pool} → Ready t line sheet starts store₀ place w pool
    → (store : List ℕ) (more : Pool) (e : ℕ) {next : Place} → next ≡ after_arg place more.used → e ≤ w.limit → Stored store more.used
    → Counted (scene_of t [] []) (log_of store more.used) → {moved : Walker} → moved ≡ moved_to line e (held line w) → Ready t line sheet starts store next moved more
ready-after {t} {line} {sheet} {starts} {w = w} r store more e {next = next} n h s counts is =
    subst (λ (v : Walker). Ready t line sheet starts store next v more) (sym (is ∙ moved-there r e h))
    (subst (λ (q : Place). Ready t line sheet starts store q (record { cursor = e; limit = w.limit }) more) (sym n) (record {
      table = r.table;
      extents = r.extents;
      short = r.short;
      begins = r.begins;
      stored = s;
      counted = counts;
      sets = r.sets;
      rules = r.rules;
      parts = r.parts;
      ordered = r.ordered;
      whole = r.whole;
      depth = r.depth;
      last = omega arith;
      cursor = h;
      limit = r.limit;
      top = r.top;
    }))

-- where the match stands at the next place
pub stands_after : {t line sheet starts store₀ : List ℕ} {place : Place} {w : Walker} {pool : Pool} → Ready t line sheet starts store₀ place w pool
    → {store : List ℕ} {more : Pool} {e n : ℕ} {next : Place} → next ≡ after_arg place more.used → e ≤ w.limit → {moved : Walker} → moved ≡ moved_to line e (held line w)
    → Stands t store more.used (after_arg place more.used) n (to_come t place) e → Stands t store more.used next n (to_come t next) moved.cursor
stands_after {t} r {store} {more} {e} {n} {next} next-is h is x =
    subst (λ (v : Walker). Stands t store more.used next n (to_come t next) v.cursor) (sym (is ∙ moved-there r e h))
    (subst (λ (q : Place). Stands t store more.used q n (to_come t q) e) (sym next-is) x)

-- what a walk from the next place left
pub left-after-arg : (t line sheet : List ℕ) (place : Place) (more : Pool) (l e v : ℕ) {log : List Record} {store : List ℕ} {r : Result Walked Stopped} {next : Place} → next ≡ after_arg place more.used
    → {moved : Walker} → moved ≡ record { cursor = e; limit = l } → Left t (ran (rule_plan t line sheet next.depth next.at next.end moved.limit moved.cursor) v more) next log store r
    → Left t (ran (rule_plan t line sheet place.depth place.at place.end l e) v more) (after_arg place more.used) log store r
left-after-arg t line sheet place more l e v {log = log} {store = store} {r = r} {next = next} n is m =
    subst (λ (q : Place). Left t (ran (rule_plan t line sheet q.depth q.at q.end l e) v more) q log store r) n
    (subst (λ (w : Walker). Left t (ran (rule_plan t line sheet next.depth next.at next.end w.limit w.cursor) v more) next log store r) is m)

module _ {t line sheet starts store₀ : List ℕ} {place : Place} {w : Walker} {pool : Pool} (ready : Ready t line sheet starts store₀ place w pool) (visits : ℕ)
    (g : ℕ) (g-is : g ≡ useful line (held line w)) (es : List ℕ) (es-are : es ≡ ends (scene_of t line sheet) w.limit w.cursor (parts_between t place.at place.end)) where
  abbrev s : Scene
  s = scene_of t line sheet

  abbrev xs : List ℕ
  xs = ends s w.limit w.cursor (parts_between t place.at place.end)

  -- the plan with what the loop knows
  plan-is : ran (expr_plan t line sheet place.depth place.at place.end w.limit w.cursor) visits pool
      ≡ run (each es (expr_from t line sheet place w.limit g)) visits pool.used
  unfolding expr_plan expr_turn rule_plan scene_of
  plan-is =
      ap (λ (at : ℕ → ℕ). run (each xs (λ e. turn [] (expr_arg (at (min e (useful line (held line w)))) (at e)) (rule_plan t line sheet place.depth place.at place.end w.limit e))) visits pool.used) alone
      ∙ ap (λ (h : ℕ). run (each xs (expr_from t line sheet place w.limit h)) visits pool.used) (sym g-is)
      ∙ ap (λ (l : List ℕ). run (each l (expr_from t line sheet place w.limit g)) visits pool.used) (sym es-are)

  pub expr-start : ExprDid t line sheet place w.limit g es visits pool.used store₀ 0 visits pool.used store₀
  expr-start = did_none t (expr_from t line sheet place w.limit g) (whole_at place (log_of store₀ pool.used)) place.depth visits pool.used store₀ ready.stored ready.counted

  module _ {i v u : ℕ} {store : List ℕ} (did : ExprDid t line sheet place w.limit g es visits pool.used store₀ i v u store) where
    pub expr-end : (has : Pool) → has.used ≡ u → length es ≤ i
        → Left t (ran (expr_plan t line sheet place.depth place.at place.end w.limit w.cursor) visits pool) place (log_of store₀ pool.used) store (Ok (record { left = v; pool = has }))
    expr-end has e h =
        let all = index-end (expr_from t line sheet place w.limit g) (whole_at place (log_of store₀ pool.used)) place.depth es i did h in
        went
        (record {
          founds = all.gave;
          done_with = plan-is ∙ all.done_with ∙ ap (λ (n : ℕ). done v n all.gave) (sym e);
          made = subst (λ (n : ℕ). Made place.depth (log_of store₀ pool.used) (log_of store n) (map (whole_at place (log_of store₀ pool.used)) all.gave)) (sym e) all.made;
          counted = subst (λ (n : ℕ). Counted (scene_of t [] []) (log_of store n)) (sym e) all.counted;
        })

    module _ (h : i < length es) (e : ℕ) (is : e ≡ get_or es i 0) where
      pub expr-within : (w.cursor ≤ e) × (e ≤ w.limit)
      expr-within =
          ends-within s (lawful t line sheet ready.extents) w.limit w.cursor (parts_between t place.at place.end) ready.cursor e
          (subst (λ (n : ℕ). Memᴰ n xs) (sym (is ∙ ap (λ (l : List ℕ). get_or l i 0) es-are)) (member-at xs i (omega (arith, ap length es-are))))

      pub expr-fits : {st n : ℕ} → st ≡ min e g → n ≤ w.cursor → ArgumentFits (expr_arg st e) place.args n
      expr-fits st-is small = record {
        start = omega (arith, expr-within.1, ready.limit, ready.short, st-is);
        end = omega (arith, expr-within.1, ready.limit, ready.short);
        before = omega (arith, ready.last, ready.stored.room);
        inner = omega arith;
        counts = omega (arith, small, ready.cursor, ready.limit, ready.short);
      }

      stops : {n l : ℕ} → run (expr_from t line sheet place w.limit g e) v u ≡ stop n l → ran (expr_plan t line sheet place.depth place.at place.end w.limit w.cursor) visits pool ≡ stop n l
      stops q = plan-is ∙ index-stop (expr_from t line sheet place w.limit g) (whole_at place (log_of store₀ pool.used)) place.depth es i did h e 0 is q

      pub expr-full : (store' : List ℕ) → u ≡ 4096
          → Left t (ran (expr_plan t line sheet place.depth place.at place.end w.limit w.cursor) visits pool) place (log_of store₀ pool.used) store' (Err (record { why = Full; left = v }))
      expr-full store' q = halted (stops (turn-full [] (expr_arg (min e g) e) (rule_plan t line sheet place.depth place.at place.end w.limit e) v u q))

      module _ (st : ℕ) (st-is : st ≡ min e g) {n : ℕ} (store' : List ℕ) (more : Pool) (added : Added u store store' (Kept (expr_arg st e) place.args n) more) where
        same_turn : expr_from t line sheet place w.limit g e ≡ turn (entries store u) (expr_arg st e) (rule_plan t line sheet place.depth place.at place.end w.limit e)
        same_turn = ap (λ (n : ℕ). turn [] (expr_arg n e) (rule_plan t line sheet place.depth place.at place.end w.limit e)) (sym st-is)

        module _ (standing : Stands t store₀ pool.used place n (from_expr t place) w.cursor) where
          -- the match as it stands in the store of this turn
          here : Stands t store u place n (from_expr t place) w.cursor
          here = stands-later did.made.new did.made.grown standing

          sum : n ≡ n + adds_of (scene_of t [] []) (entries store u) Expr
          sum = omega arith

          pub expr-stands : {next : Place} → next ≡ after_arg place more.used → {moved : Walker} → moved ≡ moved_to line e (held line w)
              → Stands t store' more.used next n (to_come t next) moved.cursor
          expr-stands next-is moved-is =
              stands_after ready next-is expr-within.1 moved-is
              (kept-stands did.stored did.counted here (expr_arg st e) refl added sum (omega (arith, standing.small, expr-within.0)))

          pub expr-counted : Counted (scene_of t [] []) (log_of store' more.used)
          expr-counted = kept-counted did.stored did.counted here (expr_arg st e) refl added sum

        pub expr-ready : {next : Place} → next ≡ after_arg place more.used → length store' ≡ 4096 → Counted (scene_of t [] []) (log_of store' more.used)
            → {moved : Walker} → moved ≡ moved_to line e (held line w) → Ready t line sheet starts store' next moved more
        expr-ready next z counts =
            ready-after ready store' more e next expr-within.1
            (turn-stored place (expr_arg st e) n (rule_plan t line sheet place.depth place.at place.end w.limit e) v u store store' more did.stored
            (omega (arith, ready.last, did-longer did ready.stored)) tt added z) counts

        module _ {next : Place} (next-is : next ≡ after_arg place more.used) {moved : Walker} (moved-is : moved ≡ moved_to line e (held line w)) {r : Result Walked Stopped} {store'' : List ℕ}
            (m : Left t (ran (rule_plan t line sheet next.depth next.at next.end moved.limit moved.cursor) v more) next (log_of store' more.used) store'' r) where
          from-there : Left t (ran (rule_plan t line sheet place.depth place.at place.end w.limit e) v more) (after_arg place more.used) (log_of store' more.used) store'' r
          from-there = left-after-arg t line sheet place more w.limit e v next-is (moved-is ∙ moved-there ready e expr-within.1) m

          pub expr-again : {x : Walked} → r ≡ Ok x → length store'' ≡ 4096 → ExprDid t line sheet place w.limit g es visits pool.used store₀ (i + 1) x.left x.pool.used store''
          expr-again x z =
              did-same (ap (λ (n : ℕ). take i es ++ (n ∷ [])) is ∙ sym (next-taken es 0 i h))
              (turned (expr_from t line sheet place w.limit g) place did ready.stored ready.last (expr_arg st e) n
              (rule_plan t line sheet place.depth place.at place.end w.limit e) e same_turn store' more tt added from-there x z)

          pub expr-halt : {x : Stopped} → r ≡ Err x
              → Left t (ran (expr_plan t line sheet place.depth place.at place.end w.limit w.cursor) visits pool) place (log_of store₀ pool.used) store'' (Err x)
          expr-halt x =
              halted
              (stops
              (turn-refused (expr_from t line sheet place w.limit g) place did ready.stored ready.last (expr_arg st e) n
              (rule_plan t line sheet place.depth place.at place.end w.limit e) e same_turn store' more tt added from-there x))
