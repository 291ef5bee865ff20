-- What a walk has found against what it took: a record for each match it lists, at least as many records as any of its
-- trees has, and no tree deeper than the depths it was given.
use mathlib.Core.Path.{◌≡◌, refl, sym, ap, ◌∙◌}
use mathlib.Core.Logic.{inl, inr}
use mathlib.Core.Bool.{Bool, true, false}
use Rattle.std.specs.Prelude.{Option, None, Some}
use Rattle.plain.proofs.Options.{none-ne-some}
use mathlib.Core.List.Memᴰ
use mathlib.Core.List.{List, [], ◌∷◌, ◌++◌, map, Memᴰ}
use Prim.Native.Nat.{ℕ, zero, suc, ◌+◌, ◌≤◌}
use native.Mathlib.Omega.{arith}
use lib.Dec.{eqb}
use lib.ListN.{length, length-append, length-map}
use Rattle.defs.specs.declared.ruledef.Part.{Part}
use Rattle.defs.specs.declared.ruledef.Part.TheVariants.{Exact, Whitespace, Expression, Nested}
use Rattle.readings.specs.Tree.{end}
use Rattle.readings.specs.Scene.{Scene}
use Rattle.readings.specs.Plan.{Plan, give, keep, records, Gives, ◌then◌, each, when, after, mapped}
use Rattle.readings.specs.Walk.{Found, Match, Below, exactly, is_gap, ends, limits, firsts, same_match, add_expr, add_nest, named, walk, ruleset_walk, under, trial, tries, depths}
use Rattle.readings.specs.Measure.{tree_records, arg_records, tree_depth, arg_depth}
use Rattle.readings.proofs.Firsts.{firsts-mem}
use Rattle.readings.proofs.Plans.{got, then-gives, each-parts, each-source, mapped-parts, mapped-source, when-source, after-source}
use Rattle.readings.proofs.Runs.{then-cost, each-cost, total}

-- ---- plans

total-has : {A : Type 0} (f : A → ℕ) (xs : List A) {x : A} → Memᴰ x xs → f x ≤ total f xs
total-has f [] m = absurd (Memᴰ.not-nil m)
total-has f (y ∷ xs) m = elim (Memᴰ.cases_cons m) [ inl e ↦ rw e (omega arith) | inr n ↦ omega (arith, total-has f xs n) ]

-- a record at least for each answer
abbrev Paid : {B : Type 0} → Plan (List B) → Type 0
Paid p = (rs : List _) → Gives p rs → length rs ≤ records p

module _ {A B : Type 0} where
  -- each member's records are among those of all
  each-records : (f : A → Plan (List B)) (xs : List A) {rs : List B} {x : A} → Gives (each xs f) rs → Memᴰ x xs → records (f x) ≤ records (each xs f)
  each-records f xs h m = omega (arith, (each-cost f xs h).1, total-has (λ x. records (f x)) xs m)

  mapped-records : (f : A → B) (p : Plan (List A)) {rs : List B} → Gives (mapped f p) rs → records (mapped f p) ≡ records p
  unfolding mapped
  mapped-records f p h = let (xs, g, e) = mapped-parts f p h in omega (arith, (then-cost p (λ xs. give (map f xs)) g).1)

  each-paid : (f : A → Plan (List B)) (xs : List A) → ((x : A) → Paid (f x)) → Paid (each xs f)
  unfolding each ◌then◌
  each-paid f [] k rs h = rw (← got h) (omega arith)
  each-paid f (x ∷ xs) k rs h =
      let (a, b, p, q, e) = each-parts f x xs h in
      let c = (then-cost (f x) (λ a. each xs f then λ b. give (a ++ b)) p).1 in
      let d = (then-cost (each xs f) (λ b. give (a ++ b)) q).1 in
      rw (← e) (omega (arith, length-append a b, k x a p, each-paid f xs k b q))

  -- what a member measures beside all answers, up to some slack
  each-stored : (size : B → ℕ) (slack : ℕ) (f : A → Plan (List B)) (xs : List A) → ((x : A) → Paid (f x))
      → ((x : A) (r : List B) (z : B) → Memᴰ x xs → Gives (f x) r → Memᴰ z r → size z + length r ≤ records (f x) + slack)
      → (rs : List B) (z : B) → Gives (each xs f) rs → Memᴰ z rs → size z + length rs ≤ records (each xs f) + slack
  unfolding each ◌then◌
  each-stored size slack f [] paid stored rs z h m = absurd (Memᴰ.not-nil (rw (← got h) at m))
  each-stored size slack f (x ∷ xs) paid stored rs z h m =
      let (a, b, p, q, e) = each-parts f x xs h in
      let c = (then-cost (f x) (λ a. each xs f then λ b. give (a ++ b)) p).1 in
      let d = (then-cost (each xs f) (λ b. give (a ++ b)) q).1 in
      elim (Memᴰ.append_cases a (rw (← e) at m)) [
        | inl i ↦ rw (← e) (omega (arith, length-append a b, stored x a z (Memᴰ.head refl) p i, each-paid f xs paid b q, c, d))
        | inr j ↦
            rw (← e)
            (omega (arith, length-append a b, paid x a p, each-stored size slack f xs paid (λ y r w i. stored y r w (Memᴰ.tail i)) b z q j, c, d))
      ]

  mapped-length : (f : A → B) (p : Plan (List A)) {rs : List B} {xs : List A} → Gives (mapped f p) rs → Gives p xs → length rs ≡ length xs
  mapped-length f p h g =
      let (ys, k, e) = mapped-parts f p h in
      ap length (sym e) ∙ length-map ys f ∙ ap length (got (sym k ∙ g))

  mapped-paid : (f : A → B) (p : Plan (List A)) → Paid p → Paid (mapped f p)
  mapped-paid f p k rs h =
      let (xs, g, e) = mapped-parts f p h in
      rw (← e) (omega (arith, length-map xs f, k xs g, mapped-records f p h))

  after-paid : (o : Option A) (f : A → Plan (List B)) → ((x : A) → Paid (f x)) → Paid (after o f)
  after-paid None f k rs h = rw (← got h) (omega arith)
  after-paid (Some x) f k rs h = k x rs h

when-paid : {B : Type 0} (t : Bool) (p : Plan (List B)) → Paid p → Paid (when t p)
when-paid true p k rs h = k rs h
when-paid false p k rs h = rw (← got h) (omega arith)

-- ---- the walk lists no more than it took records

module _ (s : Scene) (below : Below) (fin : ℕ → Bool) where
  walk-paid : (ps : List Part) (l c : ℕ) → Paid (walk s below fin ps l c)
  unfolding walk
  walk-paid [] l c rs h = when-paid (fin c) (keep (give ((end, c) ∷ []))) (λ rs h. rw (← got h) (omega arith)) rs h
  walk-paid (Exact x ∷ ps) l c rs h = after-paid (exactly s l c x) (λ d. walk s below fin ps l d) (λ d. walk-paid ps l d) rs h
  walk-paid (Whitespace ∷ ps) l c rs h = when-paid (is_gap s l c) (walk s below fin ps l c) (walk-paid ps l c) rs h
  walk-paid (Expression ∷ ps) l c rs h = each-paid _ (ends s l c ps) (λ e rs h. omega (arith, mapped-paid (add_expr s l c e) (walk s below fin ps l e) (walk-paid ps l e) rs h)) rs h
  walk-paid (Nested r ∷ ps) l c rs h =
      let (is, gi, h₁) = then-gives _ (each (limits s l c ps) (λ m. below r m c)) h in
      let t = (then-cost (each (limits s l c ps) (λ m. below r m c)) (λ is. each (firsts same_match is) (λ i. keep (mapped (add_nest s l c i) (walk s below fin ps l i.1)))) gi).1 in
      let k = each-paid (λ i. keep (mapped (add_nest s l c i) (walk s below fin ps l i.1))) (firsts same_match is)
      (λ i rs h. omega (arith, mapped-paid (add_nest s l c i) (walk s below fin ps l i.1) (walk-paid ps l i.1) rs h)) rs h₁ in
      omega (arith, t, k)

-- ---- a walk took the records of each of its trees, and one for each other match that it lists

-- what is found below took the records of each tree
abbrev Stored : Below → Type 0
Stored below = (r m c : ℕ) (is : List Match) (i : Match) → Gives (below r m c) is → Memᴰ i is → tree_records i.0 ≤ records (below r m c)

abbrev found_records : Found → ℕ
found_records x = arg_records x.0

module _ (s : Scene) (below : Below) (ok : Stored below) (fin : ℕ → Bool) where
  walk-stored : (ps : List Part) (l c : ℕ) (rs : List Found) (x : Found) → Gives (walk s below fin ps l c) rs → Memᴰ x rs
      → found_records x + length rs ≤ records (walk s below fin ps l c)
  unfolding walk
  walk-stored [] l c rs x h m =
      let (t, g) = when-source (fin c) _ h m in
      let q : x ≡ (end, c) = Memᴰ.eq_of_singleton (rw (← got g) at m) in
      rw (q, t, ← got g) (omega arith)
  walk-stored (Exact y ∷ ps) l c rs x h m =
      let (d, q, g) = after-source _ (exactly s l c y) h m in
      rw q (walk-stored ps l d rs x g m)
  walk-stored (Whitespace ∷ ps) l c rs x h m =
      let (t, g) = when-source (is_gap s l c) _ h m in
      rw t (walk-stored ps l c rs x g m)
  walk-stored (Expression ∷ ps) l c rs x h m =
      omega (
        arith,
        each-stored found_records 0 (λ e. keep (mapped (add_expr s l c e) (walk s below fin ps l e))) (ends s l c ps)
            (λ e rs h. omega (arith, mapped-paid (add_expr s l c e) (walk s below fin ps l e) (walk-paid s below fin ps l e) rs h))
            (λ e r z _ g n.
            let (xs, g₁, y, k, q) = mapped-source (add_expr s l c e) (walk s below fin ps l e) g n in
            rw (← q)
            (omega
            (arith, mapped-length (add_expr s l c e) (walk s below fin ps l e) g g₁, mapped-records (add_expr s l c e) (walk s below fin ps l e) g, walk-stored ps l e xs y g₁ k)))
            rs x h m,
      )
  walk-stored (Nested r ∷ ps) l c rs x h m =
      let (is, gi, h₁) = then-gives _ (each (limits s l c ps) (λ m. below r m c)) h in
      let t = (then-cost (each (limits s l c ps) (λ m. below r m c)) (λ is. each (firsts same_match is) (λ i. keep (mapped (add_nest s l c i) (walk s below fin ps l i.1)))) gi).1 in
      omega (
        arith,
        t,
        each-stored found_records (records (each (limits s l c ps) (λ m. below r m c))) (λ i. keep (mapped (add_nest s l c i) (walk s below fin ps l i.1))) (firsts same_match is)
            (λ i rs h. omega (arith, mapped-paid (add_nest s l c i) (walk s below fin ps l i.1) (walk-paid s below fin ps l i.1) rs h))
            (λ i rr z j g n.
            let (xs, g₁, y, k, q) = mapped-source (add_nest s l c i) (walk s below fin ps l i.1) g n in
            let (lm, jm, ri, g₂, ni) = each-source (λ m. below r m c) (limits s l c ps) gi (firsts-mem same_match is j) in
            rw (← q)
            (omega (
              arith,
              ok r lm c ri i g₂ ni,
              each-records (λ m. below r m c) (limits s l c ps) gi jm,
              mapped-length (add_nest s l c i) (walk s below fin ps l i.1) g g₁,
              mapped-records (add_nest s l c i) (walk s below fin ps l i.1) g,
              walk-stored ps l i.1 xs y g₁ k,
            )))
            rs x h₁ m,
      )

pub some-length : {A : Type 0} {xs : List A} {x : A} → Memᴰ x xs → 1 ≤ length xs
some-length (Memᴰ.head e) = omega arith
some-length (Memᴰ.tail m) = omega arith

-- ---- and lists none that is deeper than it may go

abbrev Shallow : ℕ → Below → Type 0
Shallow d below = (r m c : ℕ) (is : List Match) (i : Match) → Gives (below r m c) is → Memᴰ i is → suc (tree_depth i.0) ≤ d

module _ (s : Scene) (d : ℕ) (below : Below) (ok : Shallow d below) (fin : ℕ → Bool) where
  walk-shallow : (ps : List Part) (l c : ℕ) {rs : List Found} {x : Found} → Gives (walk s below fin ps l c) rs → Memᴰ x rs → arg_depth x.0 ≤ d
  unfolding walk
  walk-shallow [] l c {rs} {x} h m =
      let (t, g) = when-source (fin c) _ h m in
      let q : x ≡ (end, c) = Memᴰ.eq_of_singleton (rw (← got g) at m) in
      rw q (omega arith)
  walk-shallow (Exact y ∷ ps) l c h m = let (d, q, g) = after-source _ (exactly s l c y) h m in walk-shallow ps l d g m
  walk-shallow (Whitespace ∷ ps) l c h m = walk-shallow ps l c (when-source (is_gap s l c) _ h m).1 m
  walk-shallow (Expression ∷ ps) l c h m =
      let (e, i, r, g, n) = each-source _ (ends s l c ps) h m in
      let (xs, g₁, y, k, q) = mapped-source (add_expr s l c e) (walk s below fin ps l e) g n in
      rw (← q) (walk-shallow ps l e g₁ k)
  walk-shallow (Nested r ∷ ps) l c h m =
      let (is, gi, h₁) = then-gives _ (each (limits s l c ps) (λ m. below r m c)) h in
      let (i, j, rr, g, n) = each-source _ (firsts same_match is) h₁ m in
      let (xs, g₁, y, k, q) = mapped-source (add_nest s l c i) (walk s below fin ps l i.1) g n in
      let (lm, jm, ri, g₂, ni) = each-source (λ m. below r m c) (limits s l c ps) gi (firsts-mem same_match is j) in
      rw (← q) (omega (arith, ok r lm c ri i g₂ ni, walk-shallow ps l i.1 g₁ k))

-- ---- rulesets, at every depth

module _ (s : Scene) where
  ruleset-stored : (below : Below) → Stored below → Stored (ruleset_walk s below)
  unfolding ruleset_walk
  ruleset-stored below ok r m c is z g n =
      let (k, i, rs, h, n₁) = each-source _ (s.rules r) g n in
      let (xs, h₁, x, j, q) = mapped-source (named r k) (walk s below (λ e. true) (s.parts r k) m c) h n₁ in
      rw (← q)
      (omega (
        arith,
        each-records _ (s.rules r) g i,
        mapped-records (named r k) (walk s below (λ e. true) (s.parts r k) m c) h,
        walk-stored s below ok (λ e. true) (s.parts r k) m c xs x h₁ j,
        some-length j,
      ))

  under-stored : (d : ℕ) → Stored (under s d)
  unfolding under
  under-stored zero r m c is z g n = absurd (none-ne-some _ g)
  under-stored (suc d) r m c is z g n = ruleset-stored (under s d) (under-stored d) r m c is z g n

  ruleset-shallow : (d : ℕ) (below : Below) → Shallow d below → Shallow (suc d) (ruleset_walk s below)
  unfolding ruleset_walk
  ruleset-shallow d below ok r m c is z g n =
      let (k, i, rs, h, n₁) = each-source _ (s.rules r) g n in
      let (xs, h₁, x, j, q) = mapped-source (named r k) (walk s below (λ e. true) (s.parts r k) m c) h n₁ in
      rw (← q) (omega (arith, walk-shallow s d below ok (λ e. true) (s.parts r k) m c h₁ j))

  under-shallow : (d : ℕ) → Shallow d (under s d)
  unfolding under
  under-shallow zero r m c is z g n = absurd (none-ne-some _ g)
  under-shallow (suc d) r m c is z g n = ruleset-shallow d (under s d) (under-shallow d) r m c is z g n

-- ---- the top rules

module _ (s : Scene) (xs : List (ℕ × ℕ)) {is : List Match} (g : Gives (tries s xs) is) where
  pub tries-paid : length is ≤ records (tries s xs)
  unfolding tries trial
  tries-paid = each-paid (trial s) xs (λ x. mapped-paid (named x.0 x.1) _ (walk-paid s (under s depths) (eqb (length s.line)) (s.parts x.0 x.1) (length s.line) 0)) is g

  -- the records of any one tree, and one for each other match
  pub tries-stored : {i : Match} → Memᴰ i is → tree_records i.0 + length is ≤ records (tries s xs) + 1
  unfolding tries trial
  tries-stored {i} m =
      each-stored (λ z. tree_records z.0) 1 (trial s) xs
      (λ x. mapped-paid (named x.0 x.1) _ (walk-paid s (under s depths) (eqb (length s.line)) (s.parts x.0 x.1) (length s.line) 0))
      (λ x r z _ h n.
      let (ys, h₁, y, k, q) = mapped-source (named x.0 x.1) _ h n in
      rw (← q)
      (omega (
        arith,
        mapped-length (named x.0 x.1) _ h h₁,
        mapped-records (named x.0 x.1) _ h,
        walk-stored s (under s depths) (under-stored s depths) (eqb (length s.line)) (s.parts x.0 x.1) (length s.line) 0 ys y h₁ k,
      )))
      is i g m

  pub tries-shallow : {i : Match} → Memᴰ i is → tree_depth i.0 ≤ depths
  unfolding tries trial
  tries-shallow m =
      let (x, j, rs, h, n) = each-source (trial s) xs g m in
      let (ys, h₁, y, k, q) = mapped-source (named x.0 x.1) _ h n in
      rw (← q) (walk-shallow s depths (under s depths) (under-shallow s depths) (eqb (length s.line)) (s.parts x.0 x.1) (length s.line) 0 h₁ k)
