-- The nested step's last loop, over the records that its passes made, and the step as a whole. The matches of depth one more
-- among those records are what the passes found, in order; of those that are the same the first goes on.
use Rattle.std.specs.Prelude.{Option, Some, None, Result, Ok, Err}
use mathlib.Core.Path.{◌≡◌, refl, sym, ap, subst, ◌∙◌}
use mathlib.Core.Bool.{Bool, true, false, not, ◌&&◌}
use mathlib.Core.List.Memᴰ
use mathlib.Core.List.{List, [], ◌∷◌, ◌++◌, map, map-id, append_assoc, append-nil, Memᴰ}
use Prim.Native.Nat.{ℕ, zero, suc, ◌+◌, ◌-◌, ◌≤◌, ◌<◌, min}
use native.Mathlib.Omega.{arith}
use native.Mathlib.Numerals.{add-one}
use lib.Dec.{eqb}
use lib.ListN.{length, get_or, take, drop, get_or-append}
use lib.Seq.{slice, slice_empty, take-suc, take_all, take-append-le, drop-append-le, drop-append_seam, length-take-le}
use Rattle.plain.specs.Choice.{select}
use Rattle.syntax.specs.Walker.{held, moved_to, useful}
use Rattle.syntax.specs.declared.walker.Walker.{Walker}
use Rattle.defs.specs.Table.{parts_between}
use Rattle.defs.specs.declared.ruledef.Part.{Part}
use Rattle.readings.specs.Tree.{Tree, nest}
use Rattle.readings.specs.Scene.{scene_of}
use Rattle.readings.specs.Answer.{exact_count}
use Rattle.readings.specs.Plan.{Plan, keep, Outcome, done, stop, run, ◌then◌, each, mapped}
use Rattle.readings.specs.Walk.{Found, Match, under, depths, limits, firsts, fresh, unless, any_same, same_match}
use Rattle.readings.proofs.Leaves.{alone}
use Rattle.readings.proofs.Packed.{lawful, count-free}
use Rattle.readings.proofs.Plans.{each-source}
use Rattle.readings.proofs.Runs.{run-done}
use Rattle.readings.proofs.Firsts.{firsts-mem}
use Rattle.readings.proofs.Walks.{under-lists}
use Rattle.readings.proofs.Spans.{from-within, from-few}
use Rattle.lookahead.proofs.Choices.{limits-within}
use Rattle.pool.specs.declared.ArgumentKind.TheVariants.{Nested}
use Rattle.pool.specs.declared.Argument.{Argument}
use Rattle.pool.specs.declared.Pool.{Pool}
use Rattle.pool.specs.declared.Record.{Record}
use Rattle.pool.specs.declared.Record.TheVariants.{Kept}
use Rattle.pool.specs.Log.{decode, log_of, count_in, ArgumentFits, Added}
use Rattle.pool.specs.Meaning.{none, Entry, argued, completed, tree_at, meaning, meanings, gathered, Stored, entries}
use Rattle.pool.specs.Counted.{Counted}
use Rattle.plain.proofs.Options.{none-ne-some, some-ne-none, some_inj}
use Rattle.pool.proofs.Words.{log-length}
use Rattle.pool.proofs.Counts.{count-read}
use Rattle.pool.proofs.Gathers.{entries-length}
use Rattle.pool.proofs.Meanings.{meanings-more, gathered-append, tree-stays}
use Rattle.walk.specs.declared.Place.{Place}
use Rattle.walk.specs.declared.Inner.{Inner}
use Rattle.walk.specs.declared.Stopped.{Stopped}
use Rattle.walk.specs.declared.Walked.{Walked}
use Rattle.walk.specs.declared.Refusal.{Refusal}
use Rattle.walk.specs.declared.Refusal.TheVariants.{Deep}
use Rattle.walk.specs.Met.{rule_plan, nested_plan, nest_turn, ran, Ready, to_come, from_nest, Stands, Made, whole_at, number_of, Left, went, halted, after_arg, made, fresh_of, InnerOf, new_match, no_match}
use Rattle.walk.proofs.Outcomes.{then-done, then-stop}
use Rattle.walk.proofs.Logs.{made-join, made-deeper}
use Rattle.walk.proofs.Turns.{turn, turn-full, turn-stored}
use Rattle.walk.proofs.Loops.{Did, did_none, did-same, did-stop, did-longer, index-end}
use Rattle.walk.proofs.Turned.{turned, turn-refused, whole-stays}
use Rattle.walk.proofs.Standing.{stands-later, ruleset_in, adds_of, parameter_of, kept-stands, kept-counted}
use Rattle.walk.proofs.Exprs.{moved-there, ready-after, stands_after, left-after-arg}
use Rattle.walk.proofs.Rules.{itself, under_limit, LimitsDid}

-- ---- one entry more

fresh-append : {A : Type 0} (same : A → A → Bool) (seen xs ys : List A) → fresh same seen (xs ++ ys) ≡ fresh same seen xs ++ fresh same (seen ++ xs) ys
unfolding fresh
fresh-append same seen [] ys = ap (λ l. fresh same l ys) (sym (append-nil seen))
fresh-append {A} same seen (x ∷ xs) ys =
    go (any_same same seen x)
    (fresh-append same (seen ++ (x ∷ [])) xs ys ∙ ap (λ (l : List A). fresh same (seen ++ (x ∷ [])) xs ++ fresh same l ys) (append_assoc seen (x ∷ []) xs))
  where
    go : (b : Bool) → fresh same (seen ++ (x ∷ [])) (xs ++ ys) ≡ fresh same (seen ++ (x ∷ [])) xs ++ fresh same (seen ++ (x ∷ xs)) ys
        → unless b x (fresh same (seen ++ (x ∷ [])) (xs ++ ys)) ≡ unless b x (fresh same (seen ++ (x ∷ [])) xs) ++ fresh same (seen ++ (x ∷ xs)) ys
    go true rest = rest
    go false rest = ap (λ (l : List A). x ∷ l) rest

unless_not : (b : Bool) (i : Match) → unless b i [] ≡ select (not b) (i ∷ []) []
unless_not true i = refl
unless_not false i = refl

fresh-one : (d : ℕ) (seen : List Match) (x : Entry) → fresh same_match seen (gathered d (x ∷ [])) ≡ fresh_of d seen x
unfolding fresh gathered
fresh-one d seen (argued c) = refl
fresh-one d seen (completed n t e) = go (eqb n d)
  where
    go : (a : Bool) → fresh same_match seen (select a ((t, e) ∷ []) []) ≡ select (a && not (any_same same_match seen (t, e))) ((t, e) ∷ []) []
    go false = refl
    go true = unless_not (any_same same_match seen (t, e)) (t, e)

module _ (es : List Entry) (d first m : ℕ) (low : first ≤ m) (h : m < length es) where
  made-next : made es first (m + 1) ≡ made es first m ++ (get_or es m (argued none) ∷ [])
  made-next =
      ap (λ (n : ℕ). slice first n es) (add-one m) ∙ ap (drop first) (take-suc es m (argued none) h)
      ∙ drop-append-le first (take m es) (get_or es m (argued none) ∷ []) (omega (arith, length-take-le m es (omega arith)))

  firsts-next : firsts same_match (gathered d (made es first (m + 1))) ≡ firsts same_match (gathered d (made es first m)) ++ fresh_of d (gathered d (made es first m)) (get_or es m (argued none))
  unfolding firsts
  firsts-next =
      ap (λ (l : List Entry). firsts same_match (gathered d l)) made-next
      ∙ ap (firsts same_match) (gathered-append d (made es first m) (get_or es m (argued none) ∷ []))
      ∙ fresh-append same_match [] (gathered d (made es first m)) (gathered d (get_or es m (argued none) ∷ []))
      ∙ ap (λ (l : List Match). firsts same_match (gathered d (made es first m)) ++ l) (fresh-one d (gathered d (made es first m)) (get_or es m (argued none)))

-- ---- entries that were there

module _ (es more : List Entry) (first m : ℕ) (h : m < length es) where
  made-stays : made (es ++ more) first m ≡ made es first m
  made-stays = ap (drop first) (take-append-le m es more (omega arith))

  fresh-stays : (d : ℕ) → fresh_of d (gathered d (made (es ++ more) first m)) (get_or (es ++ more) m (argued none)) ≡ fresh_of d (gathered d (made es first m)) (get_or es m (argued none))
  fresh-stays d =
      ap (λ (l : List Entry). fresh_of d (gathered d l) (get_or (es ++ more) m (argued none))) made-stays
      ∙ ap (fresh_of d (gathered d (made es first m))) (get_or-append es more (argued none) m h)

-- ---- the loop

-- a nested match's argument, by its record number
abbrev pub nest_arg : ℕ → ℕ → ℕ → Argument
nest_arg start e m = record { start = start; end = e; kind = Nested m }

abbrev add_nest_at : ℕ → Match → Found → Found
add_nest_at g i x = (nest (min i.1 g) i.1 i.0 x.0, x.1)

-- one inner match's turn
abbrev pub nest_from : List ℕ → List ℕ → List ℕ → Place → ℕ → ℕ → Match → Plan (List Found)
nest_from t line sheet place l g i = keep (mapped (add_nest_at g i) (rule_plan t line sheet place.depth place.at place.end l i.1))

-- the inner matches among the entries from `first` on and before m, equal ones once
abbrev pub inners_of : List ℕ → ℕ → ℕ → ℕ → ℕ → List Match
inners_of store u d first m = firsts same_match (gathered (d + 1) (made (entries store u) first m))

-- those before a number are the first of them all
inners-later : (store : List ℕ) (u : ℕ) → Stored store u → (d first k j : ℕ) → j + k ≡ u → first ≤ j → (post : List Match) × (inners_of store u d first u ≡ inners_of store u d first j ++ post)
inners-later store u st d first zero j q b =
    let e : u ≡ j = omega arith in
    ([], ap (inners_of store u d first) e ∙ sym (append-nil (inners_of store u d first j)))
inners-later store u st d first (suc k) j q b =
    let (post, i) = inners-later store u st d first k (j + 1) (omega arith) (omega arith) in
    let y = fresh_of (d + 1) (gathered (d + 1) (made (entries store u) first j)) (get_or (entries store u) j (argued none)) in (
      y ++ post,
      i ∙ ap (λ (l : List Match). l ++ post) (firsts-next (entries store u) (d + 1) first j b (omega (arith, entries-length store u st)))
          ∙ append_assoc (inners_of store u d first j) y post,
    )

pub record NestDid (t line sheet : List ℕ) (place : Place) (l g first v₀ u₀ : ℕ) (store₀ : List ℕ) (m v u : ℕ) (store : List ℕ) : Type 0 where
  pub low : first ≤ m
  pub high : m ≤ u₀
  pub start : Stored store₀ u₀
  pub did : Did t (nest_from t line sheet place l g) (whole_at place (log_of store₀ u₀)) place.depth (inners_of store₀ u₀ place.depth first m) v₀ u₀ store₀ v u store

module _ {t line sheet starts store₀ : List ℕ} {place : Place} {w : Walker} {pool : Pool} (ready : Ready t line sheet starts store₀ place w pool) (deep : place.depth < 16) (g : ℕ) where
  abbrev d : ℕ
  d = place.depth

  abbrev f : Match → Plan (List Found)
  f = nest_from t line sheet place w.limit g

  pub nest-start : {v u : ℕ} {store : List ℕ} → Stored store u → Counted (scene_of t [] []) (log_of store u) → pool.used ≤ u → NestDid t line sheet place w.limit g pool.used v u store pool.used v u store
  unfolding firsts fresh gathered
  nest-start {v} {u} {store} st counts h = record {
    low = omega arith;
    high = h;
    start = st;
    did = did-same (ap (λ (l : List Entry). firsts same_match (gathered (d + 1) l)) (sym (slice_empty pool.used (entries store u))))
        (did_none t f (whole_at place (log_of store u)) d v u store st counts);
  }

  module _ {v₁ u₁ m v u : ℕ} {store₁ store : List ℕ} (n : NestDid t line sheet place w.limit g pool.used v₁ u₁ store₁ m v u store) (h : m < u₁) where
    es₁ : List Entry
    es₁ = entries store₁ u₁

    later : List Entry
    later = meaning (meanings (log_of store₁ u₁)) n.did.made.new

    grown : entries store u ≡ es₁ ++ later
    unfolding es₁ later
    grown = ap meanings n.did.made.grown ∙ meanings-more (log_of store₁ u₁) n.did.made.new

    long : length es₁ ≡ u₁
    unfolding es₁
    long = entries-length store₁ u₁ n.start

    pub nest-used : u₁ ≤ u
    nest-used = did-longer n.did n.start

    fresh-is : fresh_of (d + 1) (gathered (d + 1) (made (entries store u) pool.used m)) (get_or (entries store u) m (argued none))
        ≡ fresh_of (d + 1) (gathered (d + 1) (made es₁ pool.used m)) (get_or es₁ m (argued none))
    fresh-is =
        ap (λ (es : List Entry). fresh_of (d + 1) (gathered (d + 1) (made es pool.used m)) (get_or es m (argued none))) grown
        ∙ fresh-stays es₁ later pool.used m (omega (arith, long)) (d + 1)

    tree_is : tree_at (entries store u) m ≡ tree_at es₁ m
    tree_is = ap (λ (es : List Entry). tree_at es m) grown ∙ tree-stays es₁ later m (omega (arith, long))

    next : inners_of store₁ u₁ d pool.used (m + 1) ≡ inners_of store₁ u₁ d pool.used m ++ fresh_of (d + 1) (gathered (d + 1) (made es₁ pool.used m)) (get_or es₁ m (argued none))
    unfolding es₁
    next = firsts-next es₁ (d + 1) pool.used m n.low (omega (arith, long))

    module _ (found : Option Inner) (inner : InnerOf (d + 1) (entries store u) pool.used m (decode (get_or store m 0)) found) where
      pub nest-skip : found ≡ None → NestDid t line sheet place w.limit g pool.used v₁ u₁ store₁ (m + 1) v u store
      nest-skip e = record {
        low = omega (arith, n.low);
        high = omega arith;
        start = n.start;
        did = did-same (sym (next ∙ ap (λ (l : List Match). inners_of store₁ u₁ d pool.used m ++ l) (sym fresh-is ∙ nothing found inner e) ∙ append-nil (inners_of store₁ u₁ d pool.used m))) n.did;
      }
        where
          nothing : (found : Option Inner) → InnerOf (d + 1) (entries store u) pool.used m (decode (get_or store m 0)) found → found ≡ None
              → fresh_of (d + 1) (gathered (d + 1) (made (entries store u) pool.used m)) (get_or (entries store u) m (argued none)) ≡ []
          nothing _ (no_match q) e = q
          nothing _ (new_match b _ q) e = absurd (some-ne-none _ e)

      module _ (e k : ℕ) (is : found ≡ Some (record { end = e; count = k })) where
        pub nest-small : e < 128
        nest-small = go found inner is
          where
            go : (found : Option Inner) → InnerOf (d + 1) (entries store u) pool.used m (decode (get_or store m 0)) found → found ≡ Some (record { end = e; count = k }) → e < 128
            go _ (new_match {e = c} b _ q) i = let z : c ≡ e = ap (λ (x : Inner). x.end) (some_inj i) in omega arith
            go _ (no_match q) i = absurd (none-ne-some _ i)

        -- its record has its own count
        pub inner-counts : k ≡ exact_count (scene_of t [] []) (tree_at (entries store u) m)
        inner-counts = go found inner is
          where
            go : (found : Option Inner) → InnerOf (d + 1) (entries store u) pool.used m (decode (get_or store m 0)) found → found ≡ Some (record { end = e; count = k }) → k ≡ exact_count (scene_of t [] []) (tree_at (entries store u) m)
            go _ (new_match {e = c} b q _) i =
                let z : count_in (decode (get_or store m 0)) ≡ k = ap (λ (x : Inner). x.count) (some_inj i) in
                sym z ∙ count-read (scene_of t [] []) store u n.did.stored n.did.counted m (omega (arith, nest-used)) refl q
            go _ (no_match q) i = absurd (none-ne-some _ i)

        -- the same in the store before the loop
        pub inner-counts-first : k ≡ exact_count (scene_of t [] []) (tree_at (entries store₁ u₁) m)
        unfolding es₁
        inner-counts-first = inner-counts ∙ ap (exact_count (scene_of t [] [])) tree_is

        new-here : fresh_of (d + 1) (gathered (d + 1) (made es₁ pool.used m)) (get_or es₁ m (argued none)) ≡ (tree_at es₁ m, e) ∷ []
        new-here = sym fresh-is ∙ go found inner is
          where
            go : (found : Option Inner) → InnerOf (d + 1) (entries store u) pool.used m (decode (get_or store m 0)) found → found ≡ Some (record { end = e; count = k })
                → fresh_of (d + 1) (gathered (d + 1) (made (entries store u) pool.used m)) (get_or (entries store u) m (argued none)) ≡ (tree_at es₁ m, e) ∷ []
            go _ (new_match {e = c} b _ q) i = let z : c ≡ e = ap (λ (x : Inner). x.end) (some_inj i) in q ∙ ap (λ (t : Tree). (t, c) ∷ []) tree_is ∙ ap (λ (n : ℕ). (tree_at es₁ m, n) ∷ []) z
            go _ (no_match q) i = absurd (none-ne-some _ i)

        pub nest-fits : {st c : ℕ} → st ≡ min e g → c ≤ e → ArgumentFits (nest_arg st e m) place.args c
        nest-fits st-is small = record {
          start = omega (arith, nest-small, st-is);
          end = nest-small;
          before = omega (arith, ready.last, ready.stored.room);
          inner = omega (arith, n.start.room);
          counts = omega (arith, nest-small);
        }

        abbrev p : Plan (List Found)
        p = rule_plan t line sheet d place.at place.end w.limit e

        same_turn : {st : ℕ} → st ≡ min e g → f (tree_at es₁ m, e) ≡ turn (entries store u) (nest_arg st e m) p
        same_turn st-is = ap (λ (t : Tree). f (t, e)) (sym tree_is) ∙ ap (λ (n : ℕ). turn (entries store u) (nest_arg n e m) p) (sym st-is)

        few : place.args ≤ u₁
        few = omega (arith, ready.last, n.low, n.high)

        -- the turn's member stands in the whole list
        split : (post : List Match) × (inners_of store₁ u₁ d pool.used u₁ ≡ inners_of store₁ u₁ d pool.used m ++ ((tree_at es₁ m, e) ∷ post))
        split =
            let (post, i) = inners-later store₁ u₁ n.start d pool.used (u₁ - (m + 1)) (m + 1) (omega arith) (omega (arith, n.low)) in (
              post,
              i ∙ ap (λ (l : List Match). l ++ post) (next ∙ ap (λ (l : List Match). inners_of store₁ u₁ d pool.used m ++ l) new-here)
                  ∙ append_assoc (inners_of store₁ u₁ d pool.used m) ((tree_at es₁ m, e) ∷ []) post,
            )

        pub nest-member : Memᴰ (tree_at (entries store₁ u₁) m, e) (inners_of store₁ u₁ d pool.used u₁)
        unfolding es₁
        nest-member = let (post, i) = split in rw i (Memᴰ.append_right (inners_of store₁ u₁ d pool.used m) (Memᴰ.head refl))

        stops : {a b : ℕ} → run (f (tree_at es₁ m, e)) v u ≡ stop a b → run (each (inners_of store₁ u₁ d pool.used u₁) f) v₁ u₁ ≡ stop a b
        stops q =
            let (post, i) = split in
            ap (λ (l : List Match). run (each l f) v₁ u₁) i ∙ did-stop t f (whole_at place (log_of store₁ u₁)) d n.did (tree_at es₁ m, e) post q

        pub nest-full : u ≡ 4096 → run (each (inners_of store₁ u₁ d pool.used u₁) f) v₁ u₁ ≡ stop 8 v
        nest-full q = stops (ap (λ (k : Plan (List Found)). run k v u) (same_turn refl) ∙ turn-full (entries store u) (nest_arg (min e g) e m) p v u q)

        module _ (st : ℕ) (st-is : st ≡ min e g) {c : ℕ} (store' : List ℕ) (more : Pool) (added : Added u store store' (Kept (nest_arg st e m) place.args c) more) where
          inner-before : m < u
          inner-before = omega (arith, nest-used)

          module _ {group b : ℕ} (standing : Stands t store₀ pool.used place b (from_nest t group place) w.cursor) (c-is : c ≡ b + k) (of : ruleset_in (tree_at (entries store₁ u₁) m) ≡ group) (new : List Record) (since : log_of store₁ u₁ ≡ log_of store₀ pool.used ++ new) where
            -- the match as it stands in the store of this turn
            here : Stands t store u place b (from_nest t group place) w.cursor
            here = stands-later n.did.made.new n.did.made.grown (stands-later new since standing)

            sum : c ≡ b + adds_of (scene_of t [] []) (entries store u) (Nested m)
            sum = c-is ∙ ap (λ (j : ℕ). b + j) inner-counts

            its : ◌≡◌ {A = Part} (Part.Nested group) (parameter_of (entries store u) (Nested m))
            unfolding es₁
            its = ap Part.Nested (sym of ∙ ap ruleset_in (sym tree_is))

            pub nest-stands : {next : Place} → next ≡ after_arg place more.used → e ≤ w.limit → c ≤ e → {moved : Walker} → moved ≡ moved_to line e (held line w)
                → Stands t store' more.used next c (to_come t next) moved.cursor
            nest-stands next-is low small moved-is =
                stands_after ready next-is low moved-is (kept-stands n.did.stored n.did.counted here (nest_arg st e m) its added sum small)

            pub nest-counted : Counted (scene_of t [] []) (log_of store' more.used)
            nest-counted = kept-counted n.did.stored n.did.counted here (nest_arg st e m) its added sum

          pub nest-ready : {next : Place} → next ≡ after_arg place more.used → e ≤ w.limit → length store' ≡ 4096 → Counted (scene_of t [] []) (log_of store' more.used) → {moved : Walker} → moved ≡ moved_to line e (held line w) → Ready t line sheet starts store' next moved more
          nest-ready next b z counts =
              ready-after ready store' more e next b
              (turn-stored place (nest_arg st e m) c p v u store store' more n.did.stored (omega (arith, few, nest-used)) inner-before added z) counts

          module _ {next_place : Place} (next-is : next_place ≡ after_arg place more.used) (b : e ≤ w.limit) {moved : Walker} (moved-is : moved ≡ moved_to line e (held line w)) {r : Result Walked Stopped} {store'' : List ℕ}
              (got : Left t (ran (rule_plan t line sheet next_place.depth next_place.at next_place.end moved.limit moved.cursor) v more) next_place (log_of store' more.used) store'' r) where
            from-there : Left t (ran p v more) (after_arg place more.used) (log_of store' more.used) store'' r
            from-there = left-after-arg t line sheet place more w.limit e v next-is (moved-is ∙ moved-there ready e b) got

            pub nest-again : {y : Walked} → r ≡ Ok y → length store'' ≡ 4096 → NestDid t line sheet place w.limit g pool.used v₁ u₁ store₁ (m + 1) y.left y.pool.used store''
            nest-again x z = record {
              low = omega (arith, n.low);
              high = omega arith;
              start = n.start;
              did = did-same (sym (next ∙ ap (λ (l : List Match). inners_of store₁ u₁ d pool.used m ++ l) new-here))
                  (turned f place n.did n.start few (nest_arg st e m) c p (tree_at es₁ m, e) (same_turn st-is) store' more inner-before added from-there x z);
            }

            pub nest-halt : {y : Stopped} → r ≡ Err y → run (each (inners_of store₁ u₁ d pool.used u₁) f) v₁ u₁ ≡ stop (number_of y.why) y.left
            nest-halt x = stops (turn-refused f place n.did n.start few (nest_arg st e m) c p (tree_at es₁ m, e) (same_turn st-is) store' more inner-before added from-there x)

-- ---- the whole step

module _ {t line sheet starts store₀ : List ℕ} {place : Place} {w : Walker} {pool : Pool} (ready : Ready t line sheet starts store₀ place w pool) (group visits : ℕ) where
  abbrev planned : Outcome (List Found)
  planned = ran (nested_plan t line sheet place.depth group place.at place.end w.limit w.cursor) visits pool

  pub nested-deep : 16 ≤ place.depth → (store : List ℕ) → Left t planned place (log_of store₀ pool.used) store (Err (record { why = Deep; left = visits }))
  unfolding nested_plan under run each limits ◌then◌
  nested-deep h store =
      let e : depths - place.depth ≡ 0 = omega arith in
      halted (ap (λ (k : ℕ). run (each (limits (scene_of t line sheet) w.limit w.cursor (parts_between t place.at place.end)) (λ m. under (scene_of t line sheet) k group m w.cursor) then λ is.
      each (firsts same_match is) (nest_turn t line sheet place.depth (parts_between t place.at place.end) w.limit w.cursor)) visits pool.used) e)

  module _ (fits : group < 32) (deep : place.depth < 16) (begin count : ℕ) (begin-is : begin ≡ get_or starts group 0) (count-is : count ≡ get_or starts (group + 1) 0 - begin)
      (g : ℕ) (g-is : g ≡ useful line (held line w)) (ls : List ℕ) (ls-are : ls ≡ limits (scene_of t line sheet) w.limit w.cursor (parts_between t place.at place.end)) where
    abbrev k : ℕ
    k = place.depth

    abbrev passes : Plan (List Match)
    passes = each (limits (scene_of t line sheet) w.limit w.cursor (parts_between t place.at place.end)) (under_limit t line sheet k group w.cursor)

    abbrev goes_on : List Match → Plan (List Found)
    goes_on is = each (firsts same_match is) (nest_from t line sheet place w.limit g)

    plan-is : planned ≡ run (passes then goes_on) visits pool.used
    unfolding nested_plan nest_turn rule_plan scene_of
    plan-is =
        ap (λ (at : ℕ → ℕ). run (passes then λ is. each (firsts same_match is) (λ i. keep (mapped (λ x. (nest (at (min i.1 (useful line (held line w)))) (at i.1) i.0 x.0, x.1)) (rule_plan t line sheet k place.at place.end w.limit i.1)))) visits pool.used) alone
        ∙ ap (λ (h : ℕ). run (passes then λ is. each (firsts same_match is) (nest_from t line sheet place w.limit h)) visits pool.used) (sym g-is)

    -- a pass was refused
    pub nested-stop : (store : List ℕ) {why : Refusal} {l : ℕ} → run (each ls (under_limit t line sheet k group w.cursor)) visits pool.used ≡ stop (number_of why) l
        → Left t planned place (log_of store₀ pool.used) store (Err (record { why = why; left = l }))
    nested-stop store e =
        halted (plan-is ∙ then-stop goes_on passes visits pool.used (sym (ap (λ (l : List ℕ). run (each l (under_limit t line sheet k group w.cursor)) visits pool.used) ls-are) ∙ e))

    module _ {i v₁ u₁ : ℕ} {store₁ : List ℕ} (first-loop : LimitsDid t line sheet k group w.cursor ls visits pool.used store₀ i v₁ u₁ store₁) (over : length ls ≤ i) where
      all : Did t (under_limit t line sheet k group w.cursor) itself (k + 1) ls visits pool.used store₀ v₁ u₁ store₁
      all = index-end (under_limit t line sheet k group w.cursor) itself (k + 1) ls i first-loop over

      passed : run passes visits pool.used ≡ done v₁ u₁ all.gave
      passed = sym (ap (λ (l : List ℕ). run (each l (under_limit t line sheet k group w.cursor)) visits pool.used) ls-are) ∙ all.done_with

      pub nested-grown : pool.used ≤ u₁
      nested-grown = did-longer all ready.stored

      -- the records made are the matches found
      inners_all : inners_of store₁ u₁ k pool.used u₁ ≡ firsts same_match all.gave
      inners_all =
          ap (λ (l : List Entry). firsts same_match (gathered (k + 1) l)) (ap (drop pool.used) (take_all u₁ (entries store₁ u₁) (omega (arith, entries-length store₁ u₁ all.stored))) ∙ ap (drop pool.used) there
          ∙ ap (λ (n : ℕ). drop n (meanings (log_of store₀ pool.used) ++ meaning (meanings (log_of store₀ pool.used)) all.made.new)) (sym (entries-length store₀ pool.used ready.stored))
          ∙ drop-append_seam (meanings (log_of store₀ pool.used)) (meaning (meanings (log_of store₀ pool.used)) all.made.new))
          ∙ ap (firsts same_match) (all.made.found ∙ map-id all.gave)
        where
          there : entries store₁ u₁ ≡ meanings (log_of store₀ pool.used) ++ meaning (meanings (log_of store₀ pool.used)) all.made.new
          there = ap meanings all.made.grown ∙ meanings-more (log_of store₀ pool.used) all.made.new

      -- the log has only grown
      pub nested-since : (new : List Record) × (log_of store₁ u₁ ≡ log_of store₀ pool.used ++ new)
      nested-since = (all.made.new, all.made.grown)

      -- an inner match is of the ruleset, ends within the limit, and has passed a byte for each exact part that it counts
      pub nested-within : {i : Match} → Memᴰ i (inners_of store₁ u₁ k pool.used u₁)
          → (i.1 ≤ w.limit) × (exact_count (scene_of t [] []) i.0 + w.cursor ≤ i.1) × (ruleset_in i.0 ≡ group)
      unfolding scene_of
      nested-within {i} j =
          let law = lawful t line sheet ready.extents in
          let (m, jm, ri, h, n) = each-source (under_limit t line sheet k group w.cursor) (limits (scene_of t line sheet) w.limit w.cursor (parts_between t place.at place.end))
          (run-done passes visits pool.used passed).0 (firsts-mem same_match all.gave (rw inners_all at j)) in
          let (_, _, q, _, u) = (under-lists (scene_of t line sheet) law (depths - k)).sound group m w.cursor h n in
          let (a, b) = limits-within (scene_of t line sheet) law w.limit w.cursor (parts_between t place.at place.end) ready.cursor m jm in
          (omega (arith, from-within (scene_of t line sheet) law a (in-line m b) u), omega (arith, from-few (scene_of t line sheet) law a (in-line m b) u, ap (exact_count (scene_of t line sheet)) q, count-free t line sheet i.0), ap ruleset_in q)
        where
          in-line : (m : ℕ) → m ≤ w.limit → m ≤ length (scene_of t line sheet).line
          in-line m h = omega (arith, ready.limit)

      -- so the count with it is at most where it ended
      pub nested-below : {u : Tree} {e j c : ℕ} → Memᴰ (u, e) (inners_of store₁ u₁ k pool.used u₁) → j ≡ exact_count (scene_of t [] []) u
          → c ≤ w.cursor → (c + j ≤ e) × (e ≤ 120)
      nested-below i counts small = let (a, b, _) = nested-within i in (omega arith, omega (arith, ready.limit, ready.short))

      onward : planned ≡ run (each (inners_of store₁ u₁ k pool.used u₁) (nest_from t line sheet place w.limit g)) v₁ u₁
      onward = plan-is ∙ then-done goes_on passes visits pool.used passed ∙ ap (λ (l : List Match). run (each l (nest_from t line sheet place w.limit g)) v₁ u₁) (sym inners_all)

      -- a turn was refused
      pub nested-halt : (store : List ℕ) {why : Refusal} {l : ℕ} → run (each (inners_of store₁ u₁ k pool.used u₁) (nest_from t line sheet place w.limit g)) v₁ u₁ ≡ stop (number_of why) l
          → Left t planned place (log_of store₀ pool.used) store (Err (record { why = why; left = l }))
      nested-halt store e = halted (onward ∙ e)

      pub nested-done : {m v : ℕ} {store : List ℕ} (has : Pool) → NestDid t line sheet place w.limit g pool.used v₁ u₁ store₁ m v has.used store → u₁ ≤ m
          → Left t planned place (log_of store₀ pool.used) store (Ok (record { left = v; pool = has }))
      nested-done {m} {v} {store} has n h =
          let q : m ≡ u₁ = omega (arith, n.high) in
          let last : Did t (nest_from t line sheet place w.limit g) (whole_at place (log_of store₁ u₁)) k (inners_of store₁ u₁ k pool.used u₁) v₁ u₁ store₁ v has.used store
          = did-same (ap (inners_of store₁ u₁ k pool.used) q) n.did in
          went
          (record {
            founds = last.gave;
            done_with = onward ∙ last.done_with;
            made = subst (λ (f' : Found → Match). Made k (log_of store₀ pool.used) (log_of store has.used) (map f' last.gave))
                (whole-stays place all.made (omega (arith, ready.last, log-length store₀ pool.used (omega (arith, ready.stored.sized, ready.stored.room)))))
                (made-join (made-deeper all.made) last.made);
            counted = last.counted;
          })
