-- A loop over a list, a plan for each member: its invariant says that the plans of the members passed, run from the loop's
-- start, gave what the log gained since. A turn adds a member; a refusal in a turn refuses the whole.
use mathlib.Core.Path.{◌≡◌, sym, ap, subst, ◌∙◌}
use mathlib.Core.List.{List, [], ◌∷◌, ◌++◌, map, map-append}
use Prim.Native.Nat.{ℕ, suc, ◌+◌, ◌≤◌, ◌<◌}
use native.Mathlib.Omega.{arith}
use native.Mathlib.Numerals.{add-one}
use lib.ListN.{length, get_or, take, drop, take-append-drop}
use lib.Seq.{take_all, take-suc, drop-cons}
use Rattle.readings.specs.Scene.{scene_of}
use Rattle.readings.specs.Plan.{Plan, done, stop, run, each}
use Rattle.readings.specs.Walk.{Match}
use Rattle.readings.proofs.Runs.{run-done, run_room}
use Rattle.pool.specs.Log.{log_of}
use Rattle.pool.specs.Meaning.{Stored}
use Rattle.pool.specs.Counted.{Counted}
use Rattle.walk.specs.Met.{Made}
use Rattle.walk.proofs.Outcomes.{each_none, each_more, each-stop}
use Rattle.walk.proofs.Logs.{made_none, made-join}

pub record Did (t : List ℕ) {A B : Type 0} (f : A → Plan (List B)) (g : B → Match) (d : ℕ) (xs : List A) (v₀ u₀ : ℕ) (store₀ : List ℕ) (v u : ℕ) (store : List ℕ) : Type 0 where
  pub gave : List B
  pub done_with : run (each xs f) v₀ u₀ ≡ done v u gave
  pub made : Made d (log_of store₀ u₀) (log_of store u) (map g gave)
  pub falls : v ≤ v₀
  pub stored : Stored store u
  pub counted : Counted (scene_of t [] []) (log_of store u)

-- what a run that is not refused leaves
pub left_after : {A : Type 0} (p : Plan A) (v u : ℕ) {w x : ℕ} {a : A} → run p v u ≡ done w x a → u ≤ 4096 → (w ≤ v) × (x ≤ 4096)
left_after p v u e h =
    let (_, i, j) = run-done p v u e in
    (omega arith, omega (arith, run_room p v u e h))

module _ (t : List ℕ) {A B : Type 0} (f : A → Plan (List B)) (g : B → Match) (d : ℕ) where
  pub did_none : (v u : ℕ) (store : List ℕ) → Stored store u → Counted (scene_of t [] []) (log_of store u) → Did t f g d [] v u store v u store
  did_none v u store s counts = record {
    gave = [];
    done_with = each_none f v u;
    made = made_none d (log_of store u) s.earlier;
    falls = omega arith;
    stored = s;
    counted = counts;
  }

  module _ {xs : List A} {v₀ u₀ v u : ℕ} {store₀ store : List ℕ} (did : Did t f g d xs v₀ u₀ store₀ v u store) where
    pub did_more : (y : A) (v' u' : ℕ) (store' : List ℕ) (bs : List B) → run (f y) v u ≡ done v' u' bs → Made d (log_of store u) (log_of store' u') (map g bs)
        → length store' ≡ 4096 → Counted (scene_of t [] []) (log_of store' u') → Did t f g d (xs ++ (y ∷ [])) v₀ u₀ store₀ v' u' store'
    did_more y v' u' store' bs e m s counts =
        let (i, j) = left_after (f y) v u e did.stored.room in
        record {
          gave = did.gave ++ bs;
          done_with = each_more f xs y v₀ u₀ did.done_with e;
          made = subst (Made d (log_of store₀ u₀) (log_of store' u')) (sym (map-append g did.gave bs)) (made-join did.made m);
          falls = omega (arith, did.falls);
          stored = record { sized = s; room = j; earlier = m.earlier };
          counted = counts;
        }

    pub did-stop : (y : A) (post : List A) {n l : ℕ} → run (f y) v u ≡ stop n l → run (each (xs ++ (y ∷ post)) f) v₀ u₀ ≡ stop n l
    did-stop y post e = each-stop f xs y post v₀ u₀ did.done_with e

-- the pool only grows
pub did-longer : {t : List ℕ} {A B : Type 0} {f : A → Plan (List B)} {g : B → Match} {d : ℕ} {xs : List A} {v₀ u₀ v u : ℕ} {store₀ store : List ℕ}
    → Did t f g d xs v₀ u₀ store₀ v u store → Stored store₀ u₀ → u₀ ≤ u
did-longer {f = f} {xs = xs} {v₀ = v₀} {u₀ = u₀} did s = let (_, _, j) = run-done (each xs f) v₀ u₀ did.done_with in omega arith

-- a loop over the same members by another name
pub did-same : {t : List ℕ} {A B : Type 0} {f : A → Plan (List B)} {g : B → Match} {d : ℕ} {xs ys : List A} {v₀ u₀ v u : ℕ} {store₀ store : List ℕ}
    → xs ≡ ys → Did t f g d xs v₀ u₀ store₀ v u store → Did t f g d ys v₀ u₀ store₀ v u store
did-same {t = t} {f = f} {g = g} {d = d} {v₀ = v₀} {u₀ = u₀} {v = v} {u = u} {store₀ = store₀} {store = store} e did =
    subst (λ zs. Did t f g d zs v₀ u₀ store₀ v u store) e did

-- ---- a loop by index

module _ {A : Type 0} (xs : List A) (d : A) (i : ℕ) (h : i < length xs) where
  pub next-taken : take (i + 1) xs ≡ take i xs ++ (get_or xs i d ∷ [])
  next-taken = ap (λ (n : ℕ). take n xs) (add-one i) ∙ take-suc xs i d h

  split_at : xs ≡ take i xs ++ (get_or xs i d ∷ drop (suc i) xs)
  split_at = sym (take-append-drop i xs) ∙ ap (λ (l : List A). take i xs ++ l) (drop-cons xs i d h)

module _ {t : List ℕ} {A B : Type 0} (f : A → Plan (List B)) (g : B → Match) (d : ℕ) (xs : List A) (i : ℕ) {v₀ u₀ v u : ℕ} {store₀ store : List ℕ}
    (did : Did t f g d (take i xs) v₀ u₀ store₀ v u store) where
  pub index-end : length xs ≤ i → Did t f g d xs v₀ u₀ store₀ v u store
  index-end h = did-same (take_all i xs h) did

  module _ (h : i < length xs) (y x : A) (is : y ≡ get_or xs i x) where
    pub index-more : (v' u' : ℕ) (store' : List ℕ) (bs : List B) → run (f y) v u ≡ done v' u' bs → Made d (log_of store u) (log_of store' u') (map g bs)
        → length store' ≡ 4096 → Counted (scene_of t [] []) (log_of store' u') → Did t f g d (take (i + 1) xs) v₀ u₀ store₀ v' u' store'
    index-more v' u' store' bs e m s counts =
        did-same (ap (λ (z : A). take i xs ++ (z ∷ [])) is ∙ sym (next-taken xs x i h)) (did_more t f g d did y v' u' store' bs e m s counts)

    pub index-stop : {n l : ℕ} → run (f y) v u ≡ stop n l → run (each xs f) v₀ u₀ ≡ stop n l
    index-stop e =
        ap (λ (l : List A). run (each l f) v₀ u₀) (split_at xs x i h ∙ ap (λ (z : A). take i xs ++ (z ∷ drop (suc i) xs)) (sym is))
        ∙ did-stop t f g d did y (drop (suc i) xs) e
