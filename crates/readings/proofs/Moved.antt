-- A base moves every start and end, and nothing else. Under another base the walk does the same steps and finds the same
-- matches, each moved by the difference: equal matches are equal wherever the line begins, so the same ones are dropped.
use mathlib.Core.Path.{◌≡◌, refl, sym, ap, ap₂, ◌∙◌}
use mathlib.Core.Bool.{Bool, true, false, ◌&&◌, ◌||◌}
use Rattle.std.specs.Prelude.{Option, None, Some}
use mathlib.Core.List.{List, [], ◌∷◌, ◌++◌, map, map-append}
use Prim.Native.Nat.{ℕ, zero, suc, ◌+◌}
use native.Mathlib.Nat.{add_assoc, add-zero}
use native.Mathlib.Decide.{ℕ_discrete}
use native.Mathlib.Omega.{arith}
use lib.Dec.{eqb}
use lib.ListN.{length, length-append}
use borrow.Author.Tests.{eq-eqb, ne_eqb}
use Rattle.plain.specs.Lists.{keep_if}
use Rattle.defs.specs.declared.ruledef.Part.{Part}
use Rattle.defs.specs.declared.ruledef.Part.TheVariants.{Exact, Whitespace, Expression, Nested}
use Rattle.readings.specs.Tree.{Tree, node, Args, end, expr, nest, same_tree, same_args, moved, moved_args}
use Rattle.readings.specs.Scene.{Scene, scene_of, based}
use Rattle.readings.specs.Plan.{Plan, give, visit, keep, run, ◌then◌, each, when, after, mapped}
use Rattle.readings.specs.Walk.{Found, Match, Below, exactly, is_gap, lookahead, cut_by, cut_for, list_of, free_under, candidates, unless, any_same, fresh, firsts, same_end, ends, limits, same_match, start, add_expr, add_nest, named, walk, ruleset_walk, under, depths, trial, tries}
use Rattle.readings.specs.Answer.{exact_parts, exact_count, nested_count, greatest, greatest_count, best, arg_count, tree_words, arg_words, all_words, words_of, answer_words}
use Rattle.readings.specs.Call.{tree}
use Rattle.readings.proofs.Trees.{same-tree, tree-same}
use Rattle.readings.proofs.Runs.{mapped_end, run-mapped}
use Rattle.readings.proofs.Records.{kept_map}
use Rattle.readings.proofs.Mapped.{mapped-then, then-mapped, mapped-each, mapped-when, mapped-after, mapped-mapped, each_map, each_same}

-- ---- equal trees are equal wherever they begin

module _ (d : ℕ) where
  eqb-moved : (x y : ℕ) → eqb (d + x) (d + y) ≡ eqb x y
  eqb-moved x y = go (ℕ_discrete x y)
    where
      go : Dec (x ≡ y) → eqb (d + x) (d + y) ≡ eqb x y
      go (yes e) = eq-eqb (d + x) (d + y) (ap (λ (n : ℕ). d + n) e) ∙ sym (eq-eqb x y e)
      go (no h) = ne_eqb (d + x) (d + y) (λ e. h (omega (arith, e))) ∙ sym (ne_eqb x y h)

  mutual
    pub same-moved : (t u : Tree) → same_tree (moved d t) (moved d u) ≡ same_tree t u
    same-moved (node r k a) (node s j b) = ap (λ (x : Bool). eqb r s && eqb k j && x) (same-moved-args a b)

    same-moved-args : (a b : Args) → same_args (moved_args d a) (moved_args d b) ≡ same_args a b
    same-moved-args end end = refl
    same-moved-args end (expr x y b) = refl
    same-moved-args end (nest x y u b) = refl
    same-moved-args (expr x y a) end = refl
    same-moved-args (expr x y a) (expr z w b) = rw (eqb-moved x z, eqb-moved y w, same-moved-args a b) refl
    same-moved-args (expr x y a) (nest z w u b) = refl
    same-moved-args (nest x y t a) end = refl
    same-moved-args (nest x y t a) (expr z w b) = refl
    same-moved-args (nest x y t a) (nest z w u b) = rw (eqb-moved x z, eqb-moved y w, same-moved t u, same-moved-args a b) refl

-- so trees that are one when moved are one
pub moved-one : (d : ℕ) (t u : Tree) → moved d t ≡ moved d u → t ≡ u
moved-one d t u e = same-tree t u (sym (same-moved d t u) ∙ ap (λ (v : Tree). same_tree (moved d t) v) (sym e) ∙ tree-same (moved d t))

-- ---- of those that are the same the first stays, before and after

module _ {A B : Type 0} (f : A → B) (same : A → A → Bool) (same' : B → B → Bool) (alike : (x y : A) → same' (f x) (f y) ≡ same x y) where
  any-moved : (xs : List A) (y : A) → any_same same' (map f xs) (f y) ≡ any_same same xs y
  unfolding any_same
  any-moved [] y = refl
  any-moved (x ∷ xs) y = ap₂ (λ (p q : Bool). p || q) (alike x y) (any-moved xs y)

  fresh-moved : (seen xs : List A) → fresh same' (map f seen) (map f xs) ≡ map f (fresh same seen xs)
  unfolding fresh
  fresh-moved seen [] = refl
  fresh-moved seen (x ∷ xs) =
      ap₂ (λ (t : Bool) (l : List B). unless t (f x) l) (any-moved seen x)
      (ap (λ (l : List B). fresh same' l (map f xs)) (sym (map-append f seen (x ∷ []))) ∙ fresh-moved (seen ++ (x ∷ [])) xs)
      ∙ go (any_same same seen x) (fresh same (seen ++ (x ∷ [])) xs)
    where
      go : (t : Bool) (l : List A) → unless t (f x) (map f l) ≡ map f (unless t x l)
      go true l = refl
      go false l = refl

  firsts-moved : (xs : List A) → firsts same' (map f xs) ≡ map f (firsts same xs)
  unfolding firsts
  firsts-moved xs = fresh-moved [] xs

-- ---- the walk

abbrev pub moved_found : ℕ → Found → Found
moved_found d x = (moved_args d x.0, x.1)

abbrev pub moved_match : ℕ → Match → Match
moved_match d i = (moved d i.0, i.1)

-- one base is d further on than the other
module _ (s : Scene) (d b : ℕ) where
  abbrev here : Scene
  here = based b s

  abbrev there : Scene
  there = based (d + b) s

  -- no step sees the base
  cut-there : (l c : ℕ) (o : Option ℕ) → cut_by there l c o ≡ cut_by here l c o
  unfolding based
  cut-there l c None = refl
  cut-there l c (Some x) = refl

  ends_there : (l c : ℕ) (ps : List Part) → ends there l c ps ≡ ends here l c ps
  unfolding based ends candidates cut_for
  ends_there l c ps =
      ap (λ (o : Option ℕ). firsts (same_end s.line l) (list_of (s.free c l) ++ (list_of (free_under s.free c o) ++ list_of (s.greedy c l)))) (cut-there l c (lookahead ps))

  limits-there : (l c : ℕ) (ps : List Part) → limits there l c ps ≡ limits here l c ps
  unfolding limits cut_for
  limits-there l c ps = ap (λ (o : Option ℕ). l ∷ list_of o) (cut-there l c (lookahead ps))

  expr-moved : (l c e : ℕ) (x : Found) → add_expr there l c e (moved_found d x) ≡ moved_found d (add_expr here l c e x)
  unfolding based
  expr-moved l c e x = ap₂ (λ (f g : ℕ). (expr f g (moved_args d x.0), x.1)) (add_assoc d b (start here l c e)) (add_assoc d b e)

  nest-moved : (l c : ℕ) (i : Match) (x : Found) → add_nest there l c (moved_match d i) (moved_found d x) ≡ moved_found d (add_nest here l c i x)
  unfolding based
  nest-moved l c i x = ap₂ (λ (f g : ℕ). (nest f g (moved d i.0) (moved_args d x.0), x.1)) (add_assoc d b (start here l c i.1)) (add_assoc d b i.1)

  -- rulesets whose matches are moved
  abbrev Moves : Below → Below → Type 0
  Moves below below' = (r l c : ℕ) → below' r l c ≡ mapped (moved_match d) (below r l c)

  module _ (below below' : Below) (moves : Moves below below') (fin : ℕ → Bool) where
    -- one argument kept, and what is found after it
    kept-moved : (add add' : Found → Found) → ((x : Found) → add' (moved_found d x) ≡ moved_found d (add x)) → (p p' : Plan (List Found)) → p' ≡ mapped (moved_found d) p
        → keep (mapped add' p') ≡ mapped (moved_found d) (keep (mapped add p))
    unfolding mapped ◌then◌
    kept-moved add add' same p p' e =
        ap keep
        (ap (mapped add') e ∙ mapped-mapped add' (moved_found d) p
        ∙ ap (λ (g : Found → Found). mapped g p) (λ i x. same x i)
        ∙ sym (mapped-mapped (moved_found d) add p))

    walk-moved : (ps : List Part) (l c : ℕ) → walk there below' fin ps l c ≡ mapped (moved_found d) (walk here below fin ps l c)
    unfolding walk based mapped ◌then◌ exactly
    walk-moved [] l c = ap visit (go (fin c))
      where
        go : (t : Bool) → when t (keep (give ((end, c) ∷ []))) ≡ mapped (moved_found d) (when t (keep (give ((end, c) ∷ []))))
        go true = refl
        go false = refl
    walk-moved (Exact x ∷ ps) l c =
        ap visit
        (ap (λ (k : ℕ → Plan (List Found)). after (exactly here l c x) k) (λ i e. walk-moved ps l e i)
        ∙ sym (mapped-after (moved_found d) (exactly here l c x) (λ e. walk here below fin ps l e)))
    walk-moved (Whitespace ∷ ps) l c =
        ap visit (ap (when (is_gap here l c)) (walk-moved ps l c) ∙ sym (mapped-when (moved_found d) (is_gap here l c) (walk here below fin ps l c)))
    walk-moved (Expression ∷ ps) l c =
        ap visit
        (ap (λ (es : List ℕ). each es (λ e. keep (mapped (add_expr there l c e) (walk there below' fin ps l e)))) (ends_there l c ps)
        ∙ each_same (ends here l c ps) _ _ (λ e. kept-moved (add_expr here l c e) (add_expr there l c e) (expr-moved l c e) (walk here below fin ps l e) _ (walk-moved ps l e))
        ∙ sym (mapped-each (moved_found d) (ends here l c ps) (λ e. keep (mapped (add_expr here l c e) (walk here below fin ps l e)))))
    walk-moved (Nested r ∷ ps) l c =
        ap visit
        (ap (λ (p : Plan (List Match)). p then after-all')
        (ap (λ (ls : List ℕ). each ls (λ m. below' r m c)) (limits-there l c ps) ∙ each_same (limits here l c ps) _ _ (λ m. moves r m c) ∙ sym (mapped-each (moved_match d) (limits here l c ps) (λ m. below r m c)))
        ∙ mapped-then (moved_match d) inners after-all'
        ∙ ap (λ (k : List Match → Plan (List Found)). inners then k) (λ i is. all_moved (λ e. walk-moved ps l e) is i)
        ∙ sym (then-mapped (moved_found d) inners after-all))
      where
        inners : Plan (List Match)
        inners = each (limits here l c ps) (λ m. below r m c)

        after-all : List Match → Plan (List Found)
        after-all is = each (firsts same_match is) (λ i. keep (mapped (add_nest here l c i) (walk here below fin ps l i.1)))

        after-all' : List Match → Plan (List Found)
        after-all' is = each (firsts same_match is) (λ i. keep (mapped (add_nest there l c i) (walk there below' fin ps l i.1)))

        all_moved : ((e : ℕ) → walk there below' fin ps l e ≡ mapped (moved_found d) (walk here below fin ps l e)) → (is : List Match) → after-all' (map (moved_match d) is) ≡ mapped (moved_found d) (after-all is)
        all_moved later is =
            ap (λ (js : List Match). each js (λ i. keep (mapped (add_nest there l c i) (walk there below' fin ps l i.1))))
            (firsts-moved (moved_match d) same_match same_match (λ i j. same-moved d i.0 j.0) is)
            ∙ each_map (moved_match d) (firsts same_match is) _
            ∙ each_same (firsts same_match is) _ _ (λ i. kept-moved (add_nest here l c i) (add_nest there l c (moved_match d i)) (nest-moved l c i) (walk here below fin ps l i.1) _ (later i.1))
            ∙ sym (mapped-each (moved_found d) (firsts same_match is) (λ i. keep (mapped (add_nest here l c i) (walk here below fin ps l i.1))))

  -- a rule's match is that of its arguments
  named-moved : (r k : ℕ) (p p' : Plan (List Found)) → p' ≡ mapped (moved_found d) p → mapped (named r k) p' ≡ mapped (moved_match d) (mapped (named r k) p)
  named-moved r k p p' e = ap (mapped (named r k)) e ∙ mapped-mapped (named r k) (moved_found d) p ∙ sym (mapped-mapped (moved_match d) (named r k) p)

  ruleset-moved : (below below' : Below) → Moves below below' → Moves (ruleset_walk here below) (ruleset_walk there below')
  unfolding ruleset_walk based
  ruleset-moved below below' moves r l c =
      each_same (s.rules r) _ _ (λ k. named-moved r k _ _ (walk-moved below below' moves (λ e. true) (s.parts r k) l c))
      ∙ sym (mapped-each (moved_match d) (s.rules r) (λ k. mapped (named r k) (walk here below (λ e. true) (s.parts r k) l c)))

  under_moved : (depth : ℕ) → Moves (under here depth) (under there depth)
  unfolding under mapped ◌then◌
  under_moved zero r l c = refl
  under_moved (suc depth) r l c = ruleset-moved (under here depth) (under there depth) (under_moved depth) r l c

  -- the trial of any rules: the same visits and records, and every match moved
  pub tries-moved : (xs : List (ℕ × ℕ)) → tries there xs ≡ mapped (moved_match d) (tries here xs)
  unfolding tries trial based
  tries-moved xs =
      each_same xs _ _ (λ x. named-moved x.0 x.1 _ _
      (walk-moved (under here depths) (under there depths) (under_moved depths) (eqb (length s.line)) (s.parts x.0 x.1) (length s.line) 0))
      ∙ sym (mapped-each (moved_match d) xs (trial here))

  -- so a run is refused alike, or tells the moved matches with the same visits and records
  pub run_moved : (xs : List (ℕ × ℕ)) (v u : ℕ) → run (tries there xs) v u ≡ mapped_end (moved_match d) (run (tries here xs) v u)
  run_moved xs v u = ap (λ (p : Plan (List Match)). run p v u) (tries-moved xs) ∙ run-mapped (moved_match d) (tries here xs) v u

-- from the line alone
pub run-based : (t line sheet : List ℕ) (b : ℕ) (xs : List (ℕ × ℕ)) (v u : ℕ)
    → run (tries (based b (scene_of t line sheet)) xs) v u ≡ mapped_end (moved_match b) (run (tries (scene_of t line sheet) xs) v u)
unfolding scene_of based
run-based t line sheet b xs v u =
    ap (λ (n : ℕ). run (tries (based n (scene_of t line sheet)) xs) v u) (sym (add-zero b)) ∙ run_moved (scene_of t line sheet) b 0 xs v u

pub trees-moved : (d : ℕ) (ms : List Match) → map tree (map (moved_match d) ms) ≡ map (moved d) (map tree ms)
trees-moved d [] = refl
trees-moved d (m ∷ ms) = ap (λ (l : List Tree). moved d m.0 ∷ l) (trees-moved d ms)

-- ---- what a moved tree keeps: its count, and how many words it has

mutual
  pub count-moved : (s : Scene) (d : ℕ) (t : Tree) → exact_count s (moved d t) ≡ exact_count s t
  count-moved s d (node r k a) = ap (λ (n : ℕ). exact_parts (s.parts r k) + n) (nested-moved s d a)

  nested-moved : (s : Scene) (d : ℕ) (a : Args) → nested_count s (moved_args d a) ≡ nested_count s a
  nested-moved s d end = refl
  nested-moved s d (expr x y a) = nested-moved s d a
  nested-moved s d (nest x y t a) = ap₂ (λ (m n : ℕ). m + n) (count-moved s d t) (nested-moved s d a)

pub args-moved : (d : ℕ) (a : Args) → arg_count (moved_args d a) ≡ arg_count a
args-moved d end = refl
args-moved d (expr x y a) = ap suc (args-moved d a)
args-moved d (nest x y t a) = ap suc (args-moved d a)

mutual
  pub length_moved : (d : ℕ) (t : Tree) → length (tree_words (moved d t)) ≡ length (tree_words t)
  length_moved d (node r k a) = omega (arith, length-moved-args d a)

  pub length-moved-args : (d : ℕ) (a : Args) → length (arg_words (moved_args d a)) ≡ length (arg_words a)
  length-moved-args d end = refl
  length-moved-args d (expr x y a) = omega (arith, length-moved-args d a)
  length-moved-args d (nest x y t a) =
      omega (
        arith,
        length-append (tree_words (moved d t)) (arg_words (moved_args d a)),
        length-append (tree_words t) (arg_words a),
        length_moved d t,
        length-moved-args d a,
      )

module _ (s : Scene) (d : ℕ) where
  counts-moved : (ts : List Tree) → map (exact_count s) (map (moved d) ts) ≡ map (exact_count s) ts
  counts-moved [] = refl
  counts-moved (t ∷ ts) = ap₂ (λ (n : ℕ) (l : List ℕ). n ∷ l) (count-moved s d t) (counts-moved ts)

  pub greatest-moved : (ts : List Tree) → greatest_count s (map (moved d) ts) ≡ greatest_count s ts
  unfolding greatest_count
  greatest-moved ts = ap greatest (counts-moved ts)

  -- the same matches have the greatest count
  pub best-moved : (ts : List Tree) → best s (map (moved d) ts) ≡ map (moved d) (best s ts)
  unfolding best
  best-moved ts =
      kept_map (λ t. eqb (exact_count s t) (greatest_count s (map (moved d) ts))) (λ t. eqb (exact_count s t) (greatest_count s ts)) (moved d) ts
      (λ t m. ap₂ eqb (count-moved s d t) (greatest-moved ts))

  pub all_moved : (ts : List Tree) → length (all_words (map (moved d) ts)) ≡ length (all_words ts)
  unfolding all_words
  all_moved [] = refl
  all_moved (t ∷ ts) =
      omega (arith, length-append (tree_words (moved d t)) (all_words (map (moved d) ts)), length-append (tree_words t) (all_words ts), length_moved d t, all_moved ts)

  -- and need as many words
  pub words-moved : (ts : List Tree) → answer_words s (map (moved d) ts) ≡ words_of (greatest_count s ts) (map (moved d) (best s ts))
  words-moved ts = ap₂ words_of (greatest-moved ts) (best-moved ts)

  pub many-moved : (ts : List Tree) → length (answer_words s (map (moved d) ts)) ≡ length (answer_words s ts)
  unfolding words_of
  many-moved ts = omega (arith, ap length (words-moved ts), all_moved (best s ts))

-- ---- counts see a scene by its rules' parts alone

module _ (s s' : Scene) (parts : s.parts ≡ s'.parts) where
  mutual
    pub count_by : (t : Tree) → exact_count s t ≡ exact_count s' t
    count_by (node r k a) = ap₂ (λ (f : ℕ → ℕ → List Part) (n : ℕ). exact_parts (f r k) + n) parts (nested-by a)

    nested-by : (a : Args) → nested_count s a ≡ nested_count s' a
    nested-by end = refl
    nested-by (expr x y a) = nested-by a
    nested-by (nest x y t a) = ap₂ (λ (m n : ℕ). m + n) (count_by t) (nested-by a)

  pub words-by : (ts : List Tree) → answer_words s ts ≡ answer_words s' ts
  unfolding greatest_count best
  words-by ts = ap (λ (count : Tree → ℕ). words_of (greatest (map count ts)) (keep_if (λ t. eqb (count t) (greatest (map count ts))) ts)) (λ i t. count_by t i)
