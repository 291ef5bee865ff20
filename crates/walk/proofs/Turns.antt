-- A turn of a step: an argument is kept, and the rule walk goes on after it. What it leaves are the matches that the walk
-- finds, with that argument in front: the argument's record is the last of the chain from which the walk goes on.
use mathlib.Core.Path.{◌≡◌, refl, sym, ap, subst, ◌∙◌}
use mathlib.Core.List.{List, [], ◌∷◌, map}
use Prim.Native.Nat.{ℕ, ◌≤◌}
use native.Mathlib.Omega.{arith}
use lib.ListN.{length}
use Rattle.readings.specs.Tree.{node, Args, expr, nest}
use Rattle.readings.specs.Plan.{Plan, keep, done, stop, run, mapped}
use Rattle.readings.specs.Walk.{Found}
use Rattle.pool.specs.declared.ArgumentKind.{ArgumentKind}
use Rattle.pool.specs.declared.ArgumentKind.TheVariants.{Expr, Nested}
use Rattle.pool.specs.declared.Argument.{Argument}
use Rattle.pool.specs.declared.Pool.{Pool}
use Rattle.pool.specs.declared.Record.{Record}
use Rattle.pool.specs.declared.Record.TheVariants.{Kept}
use Rattle.pool.specs.Log.{log_of, Added}
use Rattle.pool.specs.Meaning.{Chain, Entry, unwind, chain_at, tree_at, linked, InnerEarlier, Stored, entries}
use Rattle.pool.proofs.Words.{log-length}
use Rattle.pool.proofs.Meanings.{kept-grown, kept-chain}
use Rattle.walk.specs.declared.Place.{Place}
use Rattle.walk.specs.Met.{ran, Made, whole_at, Reached, after_arg}
use Rattle.walk.proofs.Outcomes.{keep-full, keep-more, mapped-done, mapped-stop}
use Rattle.walk.proofs.Logs.{made-argument, made-join}

-- an argument in front of those found
abbrev onto_args : List Entry → ℕ → ℕ → ArgumentKind → Args → Args
onto_args es x y Expr a = expr x y a
onto_args es x y (Nested m) a = nest x y (tree_at es m) a

abbrev pub onto : List Entry → Argument → Found → Found
onto es a x = (onto_args es a.start a.end a.kind x.0, x.1)

unwound : (es : List Entry) (c : Chain) (x y : ℕ) (k : ArgumentKind) (a : Args) → unwind (linked es c x y k) a ≡ unwind c (onto_args es x y k a)
unwound es c x y Expr a = refl
unwound es c x y (Nested m) a = refl

map-map : {A B C : Type 0} (f : B → C) (g : A → B) (h : A → C) → ((x : A) → h x ≡ f (g x)) → (xs : List A) → map h xs ≡ map f (map g xs)
map-map f g h e [] = refl
map-map f g h e (x ∷ xs) = λ i. e x i ∷ map-map f g h e xs i

-- a turn's plan
abbrev pub turn : List Entry → Argument → Plan (List Found) → Plan (List Found)
turn es a p = keep (mapped (onto es a) p)

pub turn-full : (es : List Entry) (a : Argument) (p : Plan (List Found)) (left u : ℕ) → u ≡ 4096 → run (turn es a p) left u ≡ stop 8 left
turn-full es a p left u e = keep-full (mapped (onto es a) p) left u e

module _ (place : Place) (arg : Argument) (n : ℕ) (p : Plan (List Found)) (left u : ℕ) (store store' : List ℕ) (more : Pool)
    (stored : Stored store u) (few : place.args ≤ u) (inner : InnerEarlier u arg.kind) (added : Added u store store' (Kept arg place.args n) more) where
  abbrev log : List Record
  log = log_of store u

  abbrev log' : List Record
  log' = log_of store' more.used

  abbrev es : List Entry
  es = entries store u

  many : length log ≡ u
  many = log-length store u (omega (arith, stored.sized, stored.room))

  kept : (d : ℕ) → Made d log log' []
  kept d = made-argument d log log' stored.earlier arg place.args n (kept-grown stored added) (omega (arith, many, few), subst (λ (n : ℕ). InnerEarlier n arg.kind) (sym many) inner)

  pub turn-stored : length store' ≡ 4096 → Stored store' more.used
  turn-stored s = record {
    sized = s;
    room = omega (arith, added.counted, added.room);
    earlier = (kept 0).earlier;
  }

  whole_is : (x : Found) → whole_at (after_arg place more.used) log' x ≡ whole_at place log (onto es arg x)
  whole_is x = ap (λ (c : Chain). (node place.set place.rule (unwind c x.0), x.1)) (kept-chain stored added)
      ∙ ap (λ (a : Args). (node place.set place.rule a, x.1)) (unwound es (chain_at es place.args) arg.start arg.end arg.kind x.0)

  pub turn-stop : {n l : ℕ} → ran p left more ≡ stop n l → run (turn es arg p) left u ≡ stop n l
  turn-stop e = keep-more (mapped (onto es arg) p) left u added.room ∙ ap (run (mapped (onto es arg) p) left) (sym added.counted) ∙ mapped-stop (onto es arg) p left more.used e

  module _ {t : List ℕ} {l : ℕ} {q : Pool} {store'' : List ℕ} (r : Reached t l q (ran p left more) (after_arg place more.used) log' store'') where
    pub turn-done : run (turn es arg p) left u ≡ done l q.used (map (onto es arg) r.founds)
    turn-done = keep-more (mapped (onto es arg) p) left u added.room ∙ ap (run (mapped (onto es arg) p) left) (sym added.counted) ∙ mapped-done (onto es arg) p left more.used r.done_with

    pub turn-made : Made place.depth log (log_of store'' q.used) (map (whole_at place log) (map (onto es arg) r.founds))
    turn-made =
        subst (Made place.depth log (log_of store'' q.used)) (map-map (whole_at place log) (onto es arg) (whole_at (after_arg place more.used) log') whole_is r.founds)
        (made-join (kept place.depth) r.made)
