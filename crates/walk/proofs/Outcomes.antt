-- A plan run step by step, as code goes through it: one plan after another, and a plan for each member of a list of which
-- the first members are done. Each law has what the code knows as its premises.
use mathlib.Core.Path.{◌≡◌, refl, sym, ap, ◌∙◌}
use mathlib.Core.Bool.{Bool, true, false}
use mathlib.Core.List.{List, [], ◌∷◌, ◌++◌, map, append_assoc, append-nil}
use Prim.Native.Nat.{ℕ, zero, suc, ◌+◌, ◌-◌, ◌<◌}
use native.Mathlib.Omega.{arith}
use lib.Dec.{ltb}
use borrow.Author.Tests.{lt-ltb, le-ltb}
use Rattle.readings.specs.Plan.{Plan, give, visit, keep, deep, Outcome, done, stop, room, pooled, run, ◌then◌, each, mapped}
use Rattle.readings.proofs.Runs.{mapped_end, run-mapped}

-- ---- one step

module _ {A : Type 0} (p : Plan A) (v u : ℕ) where
  pub visit-none : v ≡ 0 → run (visit p) v u ≡ stop 6 0
  unfolding run
  visit-none e = rw e

  pub visit-more : (v ≡ 0 → ⊥) → run (visit p) v u ≡ run p (v - 1) u
  unfolding run
  visit-more h = go v h
    where
      go : (v : ℕ) → (v ≡ 0 → ⊥) → run (visit p) v u ≡ run p (v - 1) u
      go zero h = absurd (h refl)
      go (suc w) h = ap (λ (n : ℕ). run p n u) (omega arith)

  pub keep-full : u ≡ room → run (keep p) v u ≡ stop 8 v
  unfolding run
  keep-full e = rw (run, le-ltb u room (omega arith))

  pub keep-more : u < room → run (keep p) v u ≡ run p v (u + 1)
  unfolding run
  keep-more h =
      let e : suc u ≡ u + 1 = omega arith in
      rw (run, lt-ltb u room h, e)

-- ---- one plan after another

module _ {A B : Type 0} (f : A → Plan B) where
  pub then-done : (p : Plan A) (v u : ℕ) {w x : ℕ} {a : A} → run p v u ≡ done w x a → run (p then f) v u ≡ run (f a) w x
  unfolding run ◌then◌
  then-done (give y) v u h = cc
  then-done (visit p) zero u h = let z : ◌≡◌ {A = ℕ} 0 1 = cc in absurd (omega arith)
  then-done (visit p) (suc v) u h = then-done p v u h
  then-done (keep p) v u {w} {x} {a} h = go (ltb u room) h (λ k. then-done p v (suc u) k)
    where
      go : (b : Bool) → pooled b v (run p v (suc u)) ≡ done w x a → (run p v (suc u) ≡ done w x a → run (p then f) v (suc u) ≡ run (f a) w x)
          → pooled b v (run (p then f) v (suc u)) ≡ run (f a) w x
      go true e k = k e
      go false e k = let z : ◌≡◌ {A = ℕ} 0 1 = cc in absurd (omega arith)
  then-done deep v u h = let z : ◌≡◌ {A = ℕ} 0 1 = cc in absurd (omega arith)

  pub then-stop : (p : Plan A) (v u : ℕ) {n w : ℕ} → run p v u ≡ stop n w → run (p then f) v u ≡ stop n w
  unfolding run ◌then◌
  then-stop (give y) v u h = let z : ◌≡◌ {A = ℕ} 0 1 = cc in absurd (omega arith)
  then-stop (visit p) zero u h = cc
  then-stop (visit p) (suc v) u h = then-stop p v u h
  then-stop (keep p) v u {n} {w} h = go (ltb u room) h (λ k. then-stop p v (suc u) k)
    where
      go : (b : Bool) → pooled b v (run p v (suc u)) ≡ stop n w → (run p v (suc u) ≡ stop n w → run (p then f) v (suc u) ≡ stop n w)
          → pooled b v (run (p then f) v (suc u)) ≡ stop n w
      go true e k = k e
      go false e k = cc
  then-stop deep v u h = cc

-- ---- each answer changed

module _ {A B : Type 0} (f : A → B) (p : Plan (List A)) (v u : ℕ) where
  pub mapped-done : {w x : ℕ} {gs : List A} → run p v u ≡ done w x gs → run (mapped f p) v u ≡ done w x (map f gs)
  mapped-done h = run-mapped f p v u ∙ ap (mapped_end f) h

  pub mapped-stop : {n w : ℕ} → run p v u ≡ stop n w → run (mapped f p) v u ≡ stop n w
  mapped-stop h = run-mapped f p v u ∙ ap (mapped_end f) h

-- ---- a plan for each member, of which the first are done

module _ {A B : Type 0} (f : A → Plan (List B)) where
  pub each_none : (v u : ℕ) → run (each [] f) v u ≡ done v u []
  unfolding each run
  each_none v u = refl

  joins : (bs : List B) (xs : List A) (v u : ℕ) {w x : ℕ} {cs : List B} → run (each xs f) v u ≡ done w x cs → run (each xs f then λ b. give (bs ++ b)) v u ≡ done w x (bs ++ cs)
  unfolding run
  joins bs xs v u h = then-done (λ b. give (bs ++ b)) (each xs f) v u h

  each-head : (x : A) (xs : List A) (v u : ℕ) {w y : ℕ} {bs : List B} → run (f x) v u ≡ done w y bs → run (each (x ∷ xs) f) v u ≡ run (each xs f then λ b. give (bs ++ b)) w y
  unfolding each
  each-head x xs v u h = then-done (λ a. each xs f then λ b. give (a ++ b)) (f x) v u h

  each-one : (y : A) (v u : ℕ) {w x : ℕ} {bs : List B} → run (f y) v u ≡ done w x bs → run (each (y ∷ []) f) v u ≡ done w x bs
  each-one y v u {w} {x} {bs} h = each-head y [] v u h ∙ joins bs [] w x (each_none w x) ∙ ap (done w x) (append-nil bs)

  -- the head of what a run over x ∷ xs did
  each-split : (x : A) (xs : List A) (v u : ℕ) (o : Outcome (List B)) → run (f x) v u ≡ o → {w y : ℕ} {cs : List B} → run (each (x ∷ xs) f) v u ≡ done w y cs
      → (w₁ y₁ : ℕ) × (gs bs : List B) × (run (f x) v u ≡ done w₁ y₁ gs) × (run (each xs f) w₁ y₁ ≡ done w y bs) × (cs ≡ gs ++ bs)
  unfolding each run
  each-split x xs v u (stop n m) e h =
      let s = then-stop (λ a. each xs f then λ b. give (a ++ b)) (f x) v u e in
      let z : ◌≡◌ {A = ℕ} 0 1 = cc in
      absurd (omega arith)
  each-split x xs v u (done w₁ y₁ gs) e {w} {y} {cs} h = go (run (each xs f) w₁ y₁) refl
    where
      rest : run (each xs f then λ b. give (gs ++ b)) w₁ y₁ ≡ done w y cs
      rest = sym (then-done (λ a. each xs f then λ b. give (a ++ b)) (f x) v u e) ∙ h

      go : (o : Outcome (List B)) → run (each xs f) w₁ y₁ ≡ o
          → (w₁ y₁ : ℕ) × (gs bs : List B) × (run (f x) v u ≡ done w₁ y₁ gs) × (run (each xs f) w₁ y₁ ≡ done w y bs) × (cs ≡ gs ++ bs)
      go (stop n m) k =
          let s = then-stop (λ b. give (gs ++ b)) (each xs f) w₁ y₁ k in
          let r = rest in
          let z : ◌≡◌ {A = ℕ} 0 1 = cc in
          absurd (omega arith)
      go (done w₂ y₂ bs) k =
          let q : done w₂ y₂ (gs ++ bs) ≡ done w y cs = sym (then-done (λ b. give (gs ++ b)) (each xs f) w₁ y₁ k) ∙ rest in
          let p₁ : w₂ ≡ w = cc in
          let p₂ : y₂ ≡ y = cc in
          let p₃ : gs ++ bs ≡ cs = cc in
          (w₁, y₁, gs, bs, e, k ∙ ap (λ (n : ℕ). done n y₂ bs) p₁ ∙ ap (λ (n : ℕ). done w n bs) p₂, sym p₃)

  -- one member more
  pub each_more : (pre : List A) (y : A) (v u : ℕ) {w x w' x' : ℕ} {gs bs : List B} → run (each pre f) v u ≡ done w x gs → run (f y) w x ≡ done w' x' bs
      → run (each (pre ++ (y ∷ [])) f) v u ≡ done w' x' (gs ++ bs)
  each_more [] y v u {w} {x} {w'} {x'} {gs} {bs} h k =
      let e = sym (each_none v u) ∙ h in
      let p₁ : v ≡ w = cc in
      let p₂ : u ≡ x = cc in
      let p₃ : gs ≡ [] = cc in
      ap (λ (n : ℕ). run (each (y ∷ []) f) n u) p₁ ∙ ap (λ (n : ℕ). run (each (y ∷ []) f) w n) p₂ ∙ each-one y w x k
      ∙ ap (λ (l : List B). done w' x' (l ++ bs)) (sym p₃)
  each_more (z ∷ pre) y v u {w} {x} {w'} {x'} {gs} {bs} h k =
      let (w₁, y₁, a₁, a₂, i, j, e) = each-split z pre v u (run (f z) v u) refl h in
      each-head z (pre ++ (y ∷ [])) v u i ∙ joins a₁ (pre ++ (y ∷ [])) w₁ y₁ (each_more pre y w₁ y₁ j k)
      ∙ ap (done w' x') (sym (append_assoc a₁ a₂ bs) ∙ ap (λ (l : List B). l ++ bs) (sym e))

  -- a member that is refused
  pub each-stop : (pre : List A) (y : A) (post : List A) (v u : ℕ) {w x n m : ℕ} {gs : List B} → run (each pre f) v u ≡ done w x gs → run (f y) w x ≡ stop n m
      → run (each (pre ++ (y ∷ post)) f) v u ≡ stop n m
  unfolding each
  each-stop [] y post v u {w} {x} h k =
      let e = sym (each_none v u) ∙ h in
      let p₁ : v ≡ w = cc in
      let p₂ : u ≡ x = cc in
      ap (λ (n : ℕ). run (each (y ∷ post) f) n u) p₁ ∙ ap (λ (n : ℕ). run (each (y ∷ post) f) w n) p₂
      ∙ then-stop (λ a. each post f then λ b. give (a ++ b)) (f y) w x k
  each-stop (z ∷ pre) y post v u h k =
      let (w₁, y₁, a₁, a₂, i, j, e) = each-split z pre v u (run (f z) v u) refl h in
      each-head z (pre ++ (y ∷ post)) v u i ∙ then-stop (λ b. give (a₁ ++ b)) (each (pre ++ (y ∷ post)) f) w₁ y₁ (each-stop pre y post w₁ y₁ j k)
