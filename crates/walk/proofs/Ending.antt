-- The end of a pattern: a match is completed, unless a top rule ends short of the line's end or the pool is full.
use Rattle.std.specs.Prelude.{Ok, Err}
use mathlib.Core.Path.{◌≡◌, refl, sym, ap, subst, ◌∙◌}
use mathlib.Core.Bool.{true, false}
use mathlib.Core.List.{List, [], ◌∷◌, ◌++◌}
use Prim.Native.Nat.{ℕ, zero, suc, ◌≤◌, ◌<◌, min}
use native.Mathlib.Decide.{dec_lt}
use native.Mathlib.Omega.{arith}
use lib.ListN.{length}
use borrow.Author.Tests.{eq-eqb, ne_eqb, le-leb, lt-leb}
use Rattle.std.proofs.lemmas.Bool.{false≢true}
use Rattle.syntax.specs.Walker.{held, over}
use Rattle.syntax.specs.declared.walker.Walker.{Walker}
use Rattle.readings.specs.Tree.{end}
use Rattle.readings.specs.Scene.{scene_of}
use Rattle.readings.specs.Plan.{give, keep, Outcome, done, run}
use Rattle.readings.specs.Walk.{Found}
use Rattle.pool.specs.declared.Pool.{Pool}
use Rattle.pool.specs.declared.Record.{Record}
use Rattle.pool.specs.declared.Record.TheVariants.{Completed}
use Rattle.pool.specs.Log.{log_of, Added}
use Rattle.pool.specs.Meaning.{Stored}
use Rattle.pool.specs.Counted.{Counted}
use Rattle.pool.proofs.Words.{log-length}
use Rattle.pool.proofs.Counts.{match-counted}
use Rattle.walk.specs.declared.Place.{Place}
use Rattle.walk.specs.declared.Refusal.TheVariants.{Full}
use Rattle.walk.specs.Met.{finishes, finish_plan, ran, Ended, Left, went, halted}
use Rattle.walk.proofs.Outcomes.{keep-full, keep-more}
use Rattle.walk.proofs.Logs.{made_none, made-match}

-- a walker that sees the whole line is over exactly at the line's end
module _ (line : List ℕ) (w : Walker) (h : w.cursor ≤ w.limit) (top : w.limit ≡ length line) where
  pub not-over : over (held line w) ≡ false → w.cursor ≡ length line → ⊥
  unfolding over held
  not-over e q = false≢true (sym e ∙ le-leb (min w.limit (length line)) (min w.cursor (min w.limit (length line))) (omega arith))

  pub is-over : over (held line w) ≡ true → w.cursor ≡ length line
  unfolding over held
  is-over e = go (dec_lt (min w.cursor (min w.limit (length line))) (min w.limit (length line)))
    where
      go : Dec (min w.cursor (min w.limit (length line)) < min w.limit (length line)) → w.cursor ≡ length line
      go (yes l) = absurd (false≢true (sym (lt-leb (min w.limit (length line)) (min w.cursor (min w.limit (length line))) l) ∙ e))
      go (no l) = omega (arith, l)

module _ (n c : ℕ) (depth : ℕ) where
  ends-short : depth ≡ 0 → (c ≡ n → ⊥) → finishes n depth c ≡ false
  unfolding finishes
  ends-short e h = ap (λ (d : ℕ). finishes n d c) e ∙ ne_eqb n c (λ q. h (sym q))

  ends-well : (depth ≡ 0 → c ≡ n) → finishes n depth c ≡ true
  unfolding finishes
  ends-well h = go depth h
    where
      go : (d : ℕ) → (d ≡ 0 → c ≡ n) → finishes n d c ≡ true
      go zero h = eq-eqb n c (sym (h refl))
      go (suc d) h = refl

module _ (n c left : ℕ) (place : Place) (count : ℕ) (pool : Pool) (store : List ℕ) (stored : Stored store pool.used) where
  abbrev log : List Record
  log = log_of store pool.used

  abbrev planned : Outcome (List Found)
  planned = ran (finish_plan n place.depth c) left pool

  nothing-found : place.depth ≡ 0 → (c ≡ n → ⊥) → planned ≡ done left pool.used []
  unfolding finish_plan run
  nothing-found e h = rw (finish_plan, ends-short n c place.depth e h)

  pub finish-short : place.depth ≡ 0 → (c ≡ n → ⊥) → (t : List ℕ) → Ended t store pool.used place count → Left t planned place log store (Ok (record { left = left; pool = pool }))
  finish-short e h t ended = went (record {
    founds = [];
    done_with = nothing-found e h;
    made = made_none place.depth log stored.earlier;
    counted = ended.counted;
  })

  completes : (place.depth ≡ 0 → c ≡ n) → planned ≡ run (keep (give ((end, c) ∷ []))) left pool.used
  unfolding finish_plan
  completes h = rw (finish_plan, ends-well n c place.depth h)

  pub finish-full : (store' : List ℕ) → (place.depth ≡ 0 → c ≡ n) → pool.used ≡ 4096 → (t : List ℕ) → Ended t store pool.used place count → Left t planned place log store' (Err (record { why = Full; left = left }))
  finish-full store' h e t ended = halted (completes h ∙ keep-full (give ((end, c) ∷ [])) left pool.used e)

  pub finish-kept : (store' : List ℕ) (more : Pool) → (place.depth ≡ 0 → c ≡ n) → place.args ≤ pool.used
      → Added pool.used store store' (Completed place.depth place.set place.rule place.args c count) more
      → (t : List ℕ) → Ended t store pool.used place count → Left t planned place log store' (Ok (record { left = left; pool = more }))
  unfolding run
  finish-kept store' more h few a t ended = went (record {
    founds = (end, c) ∷ [];
    done_with = completes h ∙ keep-more (give ((end, c) ∷ [])) left pool.used a.room ∙ ap (λ (u : ℕ). done left u ((end, c) ∷ [])) (sym a.counted);
    made = made-match place.depth log (log_of store' more.used) stored.earlier place.set place.rule place.args c count
        grown
        (omega (arith, few, log-length store pool.used (omega (arith, stored.sized, stored.room))));
    counted = subst (Counted (scene_of t [] [])) (sym grown) (match-counted (scene_of t [] []) log ended.counted place.depth c ended.own ended.whole);
  })
    where
      grown : log_of store' more.used ≡ log ++ (Completed place.depth place.set place.rule place.args c count ∷ [])
      grown = ap (log_of store') a.counted ∙ a.grown
