-- A turn of a loop over arguments, as a member passed: what it keeps and finds stands after what was there at the loop's
-- start, from whose chain the matches are read.
use Rattle.std.specs.Prelude.{Result, Ok, Err}
use mathlib.Core.Path.{◌≡◌, ap, subst, ◌∙◌}
use mathlib.Core.List.{List, [], ◌∷◌, ◌++◌, map}
use Prim.Native.Nat.{ℕ, ◌≤◌}
use native.Mathlib.Omega.{arith}
use lib.ListN.{length}
use Rattle.readings.specs.Tree.{node}
use Rattle.readings.specs.Plan.{Plan, Outcome, stop, run}
use Rattle.readings.specs.Walk.{Found, Match}
use Rattle.pool.specs.declared.Argument.{Argument}
use Rattle.pool.specs.declared.Pool.{Pool}
use Rattle.pool.specs.declared.Record.{Record}
use Rattle.pool.specs.declared.Record.TheVariants.{Kept}
use Rattle.pool.specs.Log.{log_of, Added}
use Rattle.pool.specs.Meaning.{Chain, unwind, chain_at, meanings, InnerEarlier, Stored, entries}
use Rattle.pool.proofs.Words.{log-length}
use Rattle.pool.proofs.Meanings.{chain-later}
use Rattle.walk.specs.declared.Place.{Place}
use Rattle.walk.specs.declared.Stopped.{Stopped}
use Rattle.walk.specs.declared.Walked.{Walked}
use Rattle.walk.specs.Met.{ran, Made, whole_at, number_of, Reached, Left, went, halted, after_arg, past_at}
use Rattle.walk.proofs.Turns.{turn, onto, turn-done, turn-made, turn-stop}
use Rattle.walk.proofs.Loops.{Did, did_more, did-longer}

-- ---- what a walk left, taken apart

pub reached : {t : List ℕ} {o : Outcome (List Found)} {place : Place} {log : List Record} {store : List ℕ} {r : Result Walked Stopped} {w : Walked}
    → Left t o place log store r → r ≡ Ok w → Reached t w.left w.pool o place log store
reached {t} {o} {place} {log} {store} m e = go (subst (Left t o place log store) e m)
  where
    go : {w : Walked} → Left t o place log store (Ok w) → Reached t w.left w.pool o place log store
    go (went x) = x

pub refused : {t : List ℕ} {o : Outcome (List Found)} {place : Place} {log : List Record} {store : List ℕ} {r : Result Walked Stopped} {s : Stopped}
    → Left t o place log store r → r ≡ Err s → o ≡ stop (number_of s.why) s.left
refused {t} {o} {place} {log} {store} m e = go (subst (Left t o place log store) e m)
  where
    go : {s : Stopped} → Left t o place log store (Err s) → o ≡ stop (number_of s.why) s.left
    go (halted x) = x

-- another plan that comes to the same
pub left-same : {t : List ℕ} {o o' : Outcome (List Found)} {place : Place} {log : List Record} {store : List ℕ} {r : Result Walked Stopped} → o ≡ o' → Left t o place log store r → Left t o' place log store r
left-same {t = t} {place = place} {log = log} {store = store} {r = r} e m = subst (λ x. Left t x place log store r) e m

-- another place in the same pattern
pub left-past : {t : List ℕ} {o : Outcome (List Found)} {place : Place} {n : ℕ} {log : List Record} {store : List ℕ} {r : Result Walked Stopped} → Left t o (past_at place n) log store r → Left t o place log store r
left-past (went x) = went (record { founds = x.founds; done_with = x.done_with; made = x.made; counted = x.counted })
left-past (halted e) = halted e

-- ---- the chain that there was

pub whole-stays : {d : ℕ} {log log' : List Record} {ms : List Match} (place : Place) → Made d log log' ms → place.args ≤ length log → whole_at place log' ≡ whole_at place log
whole-stays {log = log} {log' = log'} place m h =
    ap (λ (c : Chain). λ (x : Found). (node place.set place.rule (unwind c x.0), x.1))
    (ap (λ (l : List Record). chain_at (meanings l) place.args) m.grown ∙ chain-later log m.new place.args h)

-- ---- a turn

module _ {t : List ℕ} {A : Type 0} (f : A → Plan (List Found)) (place : Place) {ys : List A} {v₀ u₀ v u : ℕ} {store₀ store : List ℕ}
    (did : Did t f (whole_at place (log_of store₀ u₀)) place.depth ys v₀ u₀ store₀ v u store)
    (stored₀ : Stored store₀ u₀) (few : place.args ≤ u₀)
    (arg : Argument) (n : ℕ) (p : Plan (List Found)) (y : A) (same : f y ≡ turn (entries store u) arg p)
    (store' : List ℕ) (more : Pool) (inner : InnerEarlier u arg.kind) (added : Added u store store' (Kept arg place.args n) more)
    {r : Result Walked Stopped} {store'' : List ℕ} (m : Left t (ran p v more) (after_arg place more.used) (log_of store' more.used) store'' r) where
  many₀ : length (log_of store₀ u₀) ≡ u₀
  many₀ = log-length store₀ u₀ (omega (arith, stored₀.sized, stored₀.room))

  longer : u₀ ≤ u
  longer = did-longer did stored₀

  pub turned : {w : Walked} → r ≡ Ok w → length store'' ≡ 4096 → Did t f (whole_at place (log_of store₀ u₀)) place.depth (ys ++ (y ∷ [])) v₀ u₀ store₀ w.left w.pool.used store''
  turned {w} e s =
      let x = reached m e in
      did_more t f (whole_at place (log_of store₀ u₀)) place.depth did y w.left w.pool.used store'' (map (onto (entries store u) arg) x.founds)
      (ap (λ (k : Plan (List Found)). run k v u) same ∙ turn-done place arg n p v u store store' more did.stored (omega (arith, longer)) inner added x)
      (subst (λ (g : Found → Match). Made place.depth (log_of store u) (log_of store'' w.pool.used) (map g (map (onto (entries store u) arg) x.founds)))
      (whole-stays place did.made (omega (arith, many₀)))
      (turn-made place arg n p v u store store' more did.stored (omega (arith, longer)) inner added x))
      s x.counted

  pub turn-refused : {s : Stopped} → r ≡ Err s → run (f y) v u ≡ stop (number_of s.why) s.left
  turn-refused e = ap (λ (k : Plan (List Found)). run k v u) same ∙ turn-stop place arg n p v u store store' more did.stored (omega (arith, longer)) inner added (refused m e)
