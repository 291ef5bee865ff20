-- The walk lists every reading, each once, and nothing else. Soundness and each-once go by recursion on the parts,
-- completeness on the derivation; what carries it is that equal inner trees end at the same cursor, so that to count
-- equal matches once loses nothing.
use mathlib.Core.Path.{◌≡◌, refl, sym, ◌∙◌, subst, ap}
use mathlib.Core.Bool.{Bool, true, false}
use Rattle.plain.proofs.Options.{some_inj, none-ne-some}
use mathlib.Core.List.Memᴰ
use mathlib.Core.List.{List, [], ◌∷◌, map, Memᴰ}
use Prim.Native.Nat.{ℕ, zero, suc, ◌+◌, ◌-◌}
use native.Mathlib.Omega.{arith}
use lib.Dec.{eqb}
use lib.ListN.{length}
use borrow.Author.Tests.{eqb-true, eq-eqb}
use Rattle.plain.specs.Lists.{Apart}
use Rattle.plain.proofs.Members.{apart-map}
use Rattle.defs.specs.declared.ruledef.Part.{Part}
use Rattle.defs.specs.declared.ruledef.Part.TheVariants.{Exact, Whitespace, Expression, Nested}
use Rattle.readings.specs.Tree.{Tree, node, Args, end, expr, nest}
use Rattle.readings.specs.Scene.{Scene, Lawful}
use Rattle.readings.specs.Reading.{Span, Exactly-at, From, finish, exact, whitespace, expression, nested}
use Rattle.readings.specs.Plan.{give, Gives, each}
use Rattle.readings.specs.Walk.{Found, Match, Below, exactly, is_gap, ends, limits, firsts, same_match, add_expr, add_nest, named, walk, ruleset_walk, under, trial, top_pairs, depths}
use Rattle.readings.proofs.Leaves.{exactly-declared, exactly-found, gap-declared, gap-found, span-declared, span-found, limit-declared, limit-found, same-useful}
use Rattle.readings.proofs.Candidates.{end-declared, end-listed, ends-apart}
use Rattle.readings.proofs.Trees.{same-tree, differ}
use Rattle.readings.proofs.Firsts.{firsts-mem, firsts-has, firsts-once}
use Rattle.readings.proofs.Plans.{then-gives, each-source, each-has, each-once, mapped-source, mapped-has, mapped-once, when-source, when_true, when-once, after-source, after-some, after-once, joined}

abbrev pub tree : Match → Tree
tree i = i.0

abbrev args : Found → Args
args x = x.0

alike : (i j : Match) → same_match i j ≡ true → tree i ≡ tree j
alike i j = same-tree i.0 j.0

unlike : (i j : Match) → same_match i j ≡ false → tree i ≡ tree j → ⊥
unlike i j = differ i.0 j.0

-- ---- a rule's arguments say where it ends, whatever the limit

same-past : (s : Scene) (l m c x d e : ℕ) → Exactly-at s l c x d → Exactly-at s m c x e → d ≡ e
same-past s l m c x d e p q =
    p.past ∙ ap (λ (n : ℕ). n + 1) (same-useful s l m c p.place q.place p.useful p.below q.useful q.below) ∙ sym q.past

-- what a nested argument leaves: its span's end, and the parts from there on
abbrev AfterNested : Scene → ℕ → List Part → ℕ → ℕ → Args → Type 0
AfterNested s l ps c e end = ⊥
AfterNested s l ps c e (expr f g a) = ⊥
AfterNested s l ps c e (nest f g t a) = (d : ℕ) × Span s l c d f g × From s l ps d a e

after_nested : {s : Scene} {l c e r : ℕ} {ps : List Part} {a : Args} → From s l (Nested r ∷ ps) c a e → AfterNested s l ps c e a
after_nested (nested {d = d} p k t i u) = (d, i, u)

pub same-end : {s : Scene} {l m c e f : ℕ} {ps : List Part} {a : Args} → From s l ps c a e → From s m ps c a f → e ≡ f
same-end finish finish = refl
same-end {s} {l} {m} {c} (exact {d = d} {x = x} p u) (exact {d = d'} q v) = same-end u (rw (← same-past s l m c x d d' p q) at v)
same-end (whitespace p u) (whitespace q v) = same-end u v
same-end {s} (expression {d = d} p i u) (expression {d = d'} q j v) =
    let there : d ≡ d' = omega (arith, i.stops, j.stops) in
    same-end u (rw (← there) at v)
same-end {s} (nested {d = d} p k t i u) q =
    let (d', j, v) = after_nested q in
    let there : d ≡ d' = omega (arith, i.stops, j.stops) in
    same-end u (rw (← there) at v)

-- ---- what a walk of rulesets lists is what the rules permit

pub record Lists (s : Scene) (below : Below) : Type 0 where
  pub sound : (r m c : ℕ) {is : List Match} {i : Match} → Gives (below r m c) is → Memᴰ i is
      → (k : ℕ) × (b : Args) × (i.0 ≡ node r k b) × Memᴰ k (s.rules r) × From s m (s.parts r k) c b i.1
  pub complete : (r m c : ℕ) {is : List Match} {k e : ℕ} {b : Args} → Gives (below r m c) is → Memᴰ k (s.rules r)
      → From s m (s.parts r k) c b e → Memᴰ (node r k b, e) is

module _ (s : Scene) (law : Lawful s) (below : Below) (ok : Lists s below) (fin : ℕ → Bool) where
  pub walk-sound : (ps : List Part) (l c : ℕ) {rs : List Found} {x : Found} → Gives (walk s below fin ps l c) rs → Memᴰ x rs
      → From s l ps c x.0 x.1 × (fin x.1 ≡ true)
  unfolding walk
  walk-sound [] l c {rs} {x} h m =
      let (t, g) = when-source (fin c) _ h m in
      let q : x ≡ (end, c) = Memᴰ.eq_of_singleton (rw (← some_inj g) at m) in
      rw q (finish, t)
  walk-sound (Exact y ∷ ps) l c h m =
      let (d, q, g) = after-source _ (exactly s l c y) h m in
      let (w, f) = walk-sound ps l d g m in
      (exact (exactly-declared s l c y d q) w, f)
  walk-sound (Whitespace ∷ ps) l c h m =
      let (t, g) = when-source (is_gap s l c) _ h m in
      let (w, f) = walk-sound ps l c g m in
      (whitespace (gap-declared s l c t) w, f)
  walk-sound (Expression ∷ ps) l c h m =
      let (e, i, r, g, n) = each-source _ (ends s l c ps) h m in
      let (xs, g₁, y, k, q) = mapped-source (add_expr s l c e) (walk s below fin ps l e) g n in
      let (w, f) = walk-sound ps l e g₁ k in
      rw (← q) (expression (end-declared s law l c ps i) (span-declared s l c e) w, f)
  walk-sound (Nested r ∷ ps) l c h m =
      let (is, gi, h₁) = then-gives _ (each (limits s l c ps) (λ m. below r m c)) h in
      let (i, j, rr, g, n) = each-source _ (firsts same_match is) h₁ m in
      let (xs, g₁, y, k, q) = mapped-source (add_nest s l c i) (walk s below fin ps l i.1) g n in
      let (lm, jm, ri, g₂, ni) = each-source (λ m. below r m c) (limits s l c ps) gi (firsts-mem same_match is j) in
      let (kk, b, et, mk, fr) = ok.sound r lm c g₂ ni in
      let (w, f) = walk-sound ps l i.1 g₁ k in
      rw (← q, et) (nested (limit-declared s l c law ps lm jm) mk fr (span-declared s l c i.1) w, f)

  inner-end : (r l c : ℕ) (ps : List Part) {is : List Match} (i j : Match) → Gives (each (limits s l c ps) (λ m. below r m c)) is
      → Memᴰ i is → Memᴰ j is → i.0 ≡ j.0 → i.1 ≡ j.1
  inner-end r l c ps i j g m n e =
      let (l₁, _, r₁, g₁, m₁) = each-source (λ m. below r m c) (limits s l c ps) g m in
      let (l₂, _, r₂, g₂, n₂) = each-source (λ m. below r m c) (limits s l c ps) g n in
      let (k, a, t, _, u) = ok.sound r l₁ c g₁ m₁ in
      let (k', a', t', _, v) = ok.sound r l₂ c g₂ n₂ in
      let pk : k' ≡ k = cc in
      let pa : a' ≡ a = cc in
      same-end u (rw (pk, pa) at v)

  -- so to count equal matches once loses none
  kept : (r l c : ℕ) (ps : List Part) {is : List Match} {i : Match} → Gives (each (limits s l c ps) (λ m. below r m c)) is
      → Memᴰ i is → Memᴰ i (firsts same_match is)
  kept r l c ps {is} {i} g m =
      let (z, j, e) = firsts-has same_match tree alike unlike is m in
      let q : z.1 ≡ i.1 = inner-end r l c ps z i g (firsts-mem same_match is j) m e in
      let p : i ≡ z = λ k. (sym e k, sym q k) in
      Memᴰ.cast p j

  pub walk-complete : {l c e : ℕ} {ps : List Part} {a : Args} {rs : List Found} → From s l ps c a e → fin e ≡ true
      → Gives (walk s below fin ps l c) rs → Memᴰ (a, e) rs
  unfolding walk
  walk-complete {c = c} finish f h = rw (← some_inj (when_true (fin c) _ f h)) (Memᴰ.head refl)
  walk-complete {l} {c} (exact {d = d} {x = x} p w) f h = walk-complete w f (after-some _ _ (exactly-found s l c x d p) h)
  walk-complete {l} {c} (whitespace p w) f h = walk-complete w f (when_true _ _ (gap-found s l c p) h)
  walk-complete {l} {c} {e} (expression {d = d} {f = b} {g = z} {ps = ps} {a = a} i q w) f h =
      rw (span-found s l c d b z q, q.stops)
      (each-has _ (ends s l c ps) h (end-listed s law l c ps i)
      (λ r g. mapped-has (add_expr s l c d) (walk s below fin ps l d) g (λ xs g₁. walk-complete w f g₁)))
  walk-complete {l} {c} {e} (nested {m = m} {d = d} {f = b'} {g = z} {r = r} {k = k} {ps = ps} {a = a} {b = b} im ik v q w) f h =
      let (is, gi, h₁) = then-gives _ (each (limits s l c ps) (λ m. below r m c)) h in
      rw (span-found s l c d b' z q, q.stops)
      (each-has _ (firsts same_match is) h₁
      (kept r l c ps gi (each-has (λ m. below r m c) (limits s l c ps) gi (limit-found s l c law ps m im) (λ ri g. ok.complete r _ c g ik v)))
      (λ rr g. mapped-has (add_nest s l c (node r k b, d)) (walk s below fin ps l d) g (λ xs g₁. walk-complete w f g₁)))

-- ---- each once: the first argument tells the candidate or the inner match that it came from

abbrev first_end : Args → ℕ
first_end end = 0
first_end (expr x y a) = y
first_end (nest x y t a) = y

abbrev first_tree : Args → Tree
first_tree end = node 0 0 end
first_tree (expr x y a) = node 0 0 end
first_tree (nest x y t a) = t

abbrev rest : Args → Args
rest end = end
rest (expr x y a) = a
rest (nest x y t a) = a

module _ (s : Scene) (law : Lawful s) (below : Below) (fin : ℕ → Bool) where
  walk-once : (ps : List Part) (l c : ℕ) {rs : List Found} → Gives (walk s below fin ps l c) rs → Apart args rs
  unfolding walk
  walk-once [] l c h = when-once args (fin c) _ h (λ g. rw (← some_inj g) ((λ y m. absurd (Memᴰ.not-nil m)), tt))
  walk-once (Exact y ∷ ps) l c h = after-once _ args (exactly s l c y) h (λ d g. walk-once ps l d g)
  walk-once (Whitespace ∷ ps) l c h = when-once args (is_gap s l c) _ h (λ g. walk-once ps l c g)
  walk-once (Expression ∷ ps) l c h =
      each-once _ (λ (e : ℕ). e) args (λ (a : Args). first_end a - s.base) (ends s l c ps)
      (λ e r z _ g m.
      let (xs, _, y, _, q) = mapped-source (add_expr s l c e) (walk s below fin ps l e) g m in
      let back : s.base + e - s.base ≡ e = omega arith in
      ap (λ (x : Found). first_end x.0 - s.base) (sym q) ∙ back)
      h (ends-apart s law l c ps)
      (λ e r g. mapped-once (add_expr s l c e) (walk s below fin ps l e) g args args (λ x y q. ap rest q) (λ xs g₁. walk-once ps l e g₁))
  walk-once (Nested r ∷ ps) l c h =
      let (is, _, h₁) = then-gives _ (each (limits s l c ps) (λ m. below r m c)) h in
      each-once _ tree args first_tree (firsts same_match is)
      (λ i r z _ g m.
      let (xs, _, y, _, q) = mapped-source (add_nest s l c i) (walk s below fin ps l i.1) g m in
      ap (λ (x : Found). first_tree x.0) (sym q))
      h₁ (firsts-once same_match tree alike unlike is)
      (λ i r g. mapped-once (add_nest s l c i) (walk s below fin ps l i.1) g args args (λ x y q. ap rest q) (λ xs g₁. walk-once ps l i.1 g₁))

-- ---- rulesets, at every depth

module _ (s : Scene) (law : Lawful s) where
  ruleset-lists : (below : Below) → Lists s below → Lists s (ruleset_walk s below)
  unfolding ruleset_walk
  ruleset-lists below ok = record {
    sound = λ r m c g n.
        let (k, i, rs, h, n₁) = each-source _ (s.rules r) g n in
        let (xs, h₁, x, j, q) = mapped-source (named r k) (walk s below (λ e. true) (s.parts r k) m c) h n₁ in
        let (w, f) = walk-sound s law below ok (λ e. true) (s.parts r k) m c h₁ j in
        (k, x.0, ap tree (sym q), i, subst (λ (e : ℕ). From s m (s.parts r k) c x.0 e) (ap (λ (y : Match). y.1) q) w);
    complete = λ r m c {is} {k} {e} {b} g i w.
        each-has _ (s.rules r) g i
        (λ rs h. mapped-has (named r k) (walk s below (λ e. true) (s.parts r k) m c) h (λ xs h₁. walk-complete s law below ok (λ e. true) w refl h₁));
  }

  pub under-lists : (d : ℕ) → Lists s (under s d)
  unfolding under
  under-lists zero = record {
    sound = λ r m c g n. absurd (none-ne-some _ g);
    complete = λ r m c g i w. absurd (none-ne-some _ g);
  }
  under-lists (suc d) = ruleset-lists (under s d) (under-lists d)

-- ---- one top rule

abbrev pub number_of : Tree → ℕ × ℕ
number_of (node r k a) = (r, k)

abbrev args_of : Tree → Args
args_of (node r k a) = a

module _ (s : Scene) (law : Lawful s) (x : ℕ × ℕ) {is : List Match} (g : Gives (trial s x) is) where
  abbrev n : ℕ
  n = length s.line

  pub trial-sound : {i : Match} → Memᴰ i is → (a : Args) × (i.0 ≡ node x.0 x.1 a) × From s n (s.parts x.0 x.1) 0 a n
  unfolding trial
  trial-sound {i} m =
      let (xs, h, y, j, q) = mapped-source (named x.0 x.1) (walk s (under s depths) (eqb n) (s.parts x.0 x.1) n 0) g m in
      let (w, f) = walk-sound s law (under s depths) (under-lists s law depths) (eqb n) (s.parts x.0 x.1) n 0 h j in
      (y.0, ap tree (sym q), subst (λ (e : ℕ). From s n (s.parts x.0 x.1) 0 y.0 e) (sym (eqb-true n y.1 f)) w)

  pub trial-complete : {a : Args} → From s n (s.parts x.0 x.1) 0 a n → Memᴰ (node x.0 x.1 a, n) is
  unfolding trial
  trial-complete w =
      mapped-has (named x.0 x.1) (walk s (under s depths) (eqb n) (s.parts x.0 x.1) n 0) g
      (λ xs h. walk-complete s law (under s depths) (under-lists s law depths) (eqb n) w (eq-eqb n n refl) h)

  pub trial-once : Apart tree is
  unfolding trial
  trial-once =
      mapped-once (named x.0 x.1) (walk s (under s depths) (eqb n) (s.parts x.0 x.1) n 0) g args tree (λ x y q. ap args_of q)
      (λ xs h. walk-once s law (under s depths) (eqb n) (s.parts x.0 x.1) n 0 h)

-- ---- the top rules

module _ (s : Scene) where
  pairs : ℕ → List (ℕ × ℕ)
  pairs r = map (λ k. (r, k)) (s.rules r)

  pub top-mem : {x : ℕ × ℕ} → Memᴰ x (top_pairs s) → Memᴰ x.0 s.tops × Memᴰ x.1 (s.rules x.0)
  unfolding top_pairs pairs
  top-mem {x} m =
      let (r, i, xs, g, n) = each-source (λ r. give (pairs r)) s.tops (joined pairs s.tops) m in
      let (k, j, q) = Memᴰ.of_map {B = ℕ × ℕ} (λ k. (r, k)) (s.rules r) (rw (← some_inj g) at n) in
      subst (λ (y : ℕ × ℕ). Memᴰ y.0 s.tops × Memᴰ y.1 (s.rules y.0)) q (i, j)

  pub top-has : {r k : ℕ} → Memᴰ r s.tops → Memᴰ k (s.rules r) → Memᴰ (r, k) (top_pairs s)
  unfolding top_pairs pairs
  top-has {r} {k} i j =
      each-has (λ r. give (pairs r)) s.tops (joined pairs s.tops) i
      (λ xs g. rw (← some_inj g) (Memᴰ.map {B = ℕ × ℕ} (λ k. (r, k)) j))

  pub top-once : Lawful s → Apart (λ (x : ℕ × ℕ). x) (top_pairs s)
  unfolding top_pairs pairs
  top-once law =
      each-once (λ r. give (pairs r)) (λ (r : ℕ). r) (λ (x : ℕ × ℕ). x) (λ (x : ℕ × ℕ). x.0) s.tops
      (λ r xs z _ g n.
      let (k, j, q) = Memᴰ.of_map {B = ℕ × ℕ} (λ k. (r, k)) (s.rules r) (rw (← some_inj g) at n) in
      ap (λ (x : ℕ × ℕ). x.0) (sym q))
      (joined pairs s.tops) law.tops_apart
      (λ r xs g. rw (← some_inj g) (apart-map (λ (k : ℕ). k) (λ (x : ℕ × ℕ). x) (λ k. (r, k)) (λ x y q. ap (λ (x : ℕ × ℕ). x.1) q) (s.rules r) (law.rules_apart r)))
