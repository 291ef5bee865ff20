-- The walk, from the Rust's functions and in their order, depth first: rule walk, expression step, nested step. It is
-- structural: the rule walk recurses on the remaining parts, the nested step takes the walk below it as a parameter, and
-- `under` recurses on the depths that are left.
-- In words: docs/MANUAL.md, 5.
use Rattle.std.specs.Prelude.{Bool, true, false, ◌||◌, ℕ, zero, suc, ◌+◌, min, eqb, length, Option, None, Some}
use mathlib.Core.List.{List, [], ◌∷◌, ◌++◌, map, flat_map}
use Rattle.syntax.specs.Walker.{useful, expect_char, gap}
use Rattle.syntax.specs.declared.walker.Walker.{Walker}
use Rattle.defs.specs.declared.ruledef.Part.{Part}
use Rattle.defs.specs.declared.ruledef.Part.TheVariants.{Exact, Whitespace, Expression, Nested}
use Rattle.readings.specs.Tree.{Tree, node, Args, end, expr, nest, same_tree}
use Rattle.readings.specs.Scene.{Scene, walker_at}
use Rattle.readings.specs.Plan.{Plan, give, visit, keep, deep, ◌then◌, each, when, after, mapped}

-- the arguments from a place in a pattern on, with the cursor where it ended; a match with that cursor
abbrev pub Found : Type 0
Found = Args × ℕ

abbrev pub Match : Type 0
Match = Tree × ℕ

abbrev pub useful_at : Scene → ℕ → ℕ → ℕ
useful_at s l c = useful s.line (walker_at s.line l c)

-- the cursor of a walker that went past a byte
abbrev pub went_to : Bool × Walker → Option ℕ
went_to (true, w) = Some w.cursor
went_to (false, w) = None

-- the cursor past an exact part's byte
unfoldable pub exactly : Scene → ℕ → ℕ → ℕ → Option ℕ
exactly s l c x = went_to (expect_char s.line x (walker_at s.line l c))

abbrev pub is_gap : Scene → ℕ → ℕ → Bool
is_gap s l c = gap s.line (walker_at s.line l c)

-- the lookahead character of a parameter that these parts follow
unfoldable pub lookahead : List Part → Option ℕ
lookahead [] = None
lookahead (Exact x ∷ ps) = Some x
lookahead (Whitespace ∷ ps) = lookahead ps
lookahead (Expression ∷ ps) = None
lookahead (Nested r ∷ ps) = None

abbrev pub cut_by : Scene → ℕ → ℕ → Option ℕ → Option ℕ
cut_by s l c None = None
cut_by s l c (Some x) = s.cut x l c

-- the cut of a parameter that the parts ps follow
unfoldable pub cut_for : Scene → ℕ → ℕ → List Part → Option ℕ
cut_for s l c ps = cut_by s l c (lookahead ps)

abbrev pub list_of : Option ℕ → List ℕ
list_of None = []
list_of (Some x) = x ∷ []

-- free(c, cut), if there is a cut
abbrev pub free_under : (ℕ → ℕ → Option ℕ) → ℕ → Option ℕ → Option ℕ
free_under free c None = None
free_under free c (Some m) = free c m

-- parse with and without lookahead, then the greedy decimal
unfoldable pub candidates : Scene → ℕ → ℕ → List Part → List ℕ
candidates s l c ps = list_of (s.free c l) ++ (list_of (free_under s.free c (cut_for s l c ps)) ++ list_of (s.greedy c l))

abbrev pub unless : {A : Type 0} → Bool → A → List A → List A
unless true x xs = xs
unless false x xs = x ∷ xs

unfoldable pub any_same : {A : Type 0} → (A → A → Bool) → List A → A → Bool
any_same same [] y = false
any_same same (x ∷ xs) y = same x y || any_same same xs y

-- those that are the same as none before them, those seen before the list included
unfoldable pub fresh : {A : Type 0} → (A → A → Bool) → List A → List A → List A
fresh same seen [] = []
fresh same seen (x ∷ xs) = unless (any_same same seen x) x (fresh same (seen ++ (x ∷ [])) xs)

-- the Rust's `remove_duplicates`: of those that are the same the first stays
unfoldable pub firsts : {A : Type 0} → (A → A → Bool) → List A → List A
firsts same xs = fresh same [] xs

-- two ends have the same useful place under l
abbrev pub same_end : List ℕ → ℕ → ℕ → ℕ → Bool
same_end line l d e = eqb (useful line (walker_at line l d)) (useful line (walker_at line l e))

unfoldable pub ends : Scene → ℕ → ℕ → List Part → List ℕ
ends s l c ps = firsts (same_end s.line l) (candidates s l c ps)

-- the limits under which a nested step tries its ruleset
unfoldable pub limits : Scene → ℕ → ℕ → List Part → List ℕ
limits s l c ps = l ∷ list_of (cut_for s l c ps)

abbrev pub same_match : Match → Match → Bool
same_match i j = same_tree i.0 j.0

-- an argument's start in the line; in the tree start and end stand as base plus offset
abbrev pub start : Scene → ℕ → ℕ → ℕ → ℕ
start s l c e = min e (useful_at s l c)

abbrev pub add_expr : Scene → ℕ → ℕ → ℕ → Found → Found
add_expr s l c e x = (expr (s.base + start s l c e) (s.base + e) x.0, x.1)

abbrev pub add_nest : Scene → ℕ → ℕ → Match → Found → Found
add_nest s l c i x = (nest (s.base + start s l c i.1) (s.base + i.1) i.0 x.0, x.1)

abbrev pub named : ℕ → ℕ → Found → Match
named r k x = (node r k x.0, x.1)

-- a ruleset, a limit and a cursor to what the ruleset's rules find
abbrev pub Below : Type 0
Below = ℕ → ℕ → ℕ → Plan (List Match)

-- the rule walk, from a place in a pattern: its parts from there on, the limit, the cursor. `fin` says whether the
-- pattern's end counts.
unfoldable pub walk : Scene → Below → (ℕ → Bool) → List Part → ℕ → ℕ → Plan (List Found)
walk s below fin [] l c = visit (when (fin c) (keep (give ((end, c) ∷ []))))
walk s below fin (Exact x ∷ ps) l c = visit (after (exactly s l c x) (λ d. walk s below fin ps l d))
walk s below fin (Whitespace ∷ ps) l c = visit (when (is_gap s l c) (walk s below fin ps l c))
walk s below fin (Expression ∷ ps) l c =
    visit (each (ends s l c ps) (λ e. keep (mapped (add_expr s l c e) (walk s below fin ps l e))))
walk s below fin (Nested r ∷ ps) l c =
    visit
    (each (limits s l c ps) (λ m. below r m c) then λ is.
    each (firsts same_match is) (λ i. keep (mapped (add_nest s l c i) (walk s below fin ps l i.1))))

-- every rule of a ruleset
unfoldable pub ruleset_walk : Scene → Below → Below
ruleset_walk s below r l c = each (s.rules r) (λ k. mapped (named r k) (walk s below (λ e. true) (s.parts r k) l c))

-- nested rulesets with so many depths left; a step past the last is refused even if its ruleset is empty
unfoldable pub under : Scene → ℕ → Below
under s zero = λ r l c. deep
under s (suc d) = ruleset_walk s (under s d)

-- depth is 0 for a top rule and may reach 16
abbrev pub depths : ℕ
depths = 16

-- one top rule, which must end at the line's end
unfoldable pub trial : Scene → ℕ × ℕ → Plan (List Match)
trial s x =
    mapped (named x.0 x.1)
    (walk s (under s depths) (eqb (length s.line)) (s.parts x.0 x.1) (length s.line) 0)

unfoldable pub tries : Scene → List (ℕ × ℕ) → Plan (List Match)
tries s xs = each xs (trial s)

-- full scan takes top rulesets and rules in order
unfoldable pub top_pairs : Scene → List (ℕ × ℕ)
top_pairs s = flat_map (λ r. map (λ k. (r, k)) (s.rules r)) s.tops

unfoldable pub scan : Scene → Plan (List Match)
scan s = tries s (top_pairs s)
