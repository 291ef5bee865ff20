-- A rule's match so far stays what it is as the log grows, and goes on after an argument: its record has the count so far, which
-- is the count before it and, if it is nested, that of its match.
use mathlib.Core.Path.{◌≡◌, refl, sym, ap, subst, ◌∙◌}
use mathlib.Core.Bool.{true}
use mathlib.Core.List.{List, [], ◌∷◌, ◌++◌}
use Prim.Native.Nat.{ℕ, suc, ◌+◌, ◌≤◌}
use lib.ListN.{length, get_or}
use Rattle.plain.specs.Lists.{keep_if}
use Rattle.defs.specs.Table.{is_parameter}
use Rattle.defs.specs.declared.ruledef.Part.{Part}
use Rattle.defs.specs.declared.ruledef.Part.TheVariants.{Whitespace, Expression}
use Rattle.readings.specs.Tree.{Tree, node, end}
use Rattle.readings.specs.Scene.{Scene, scene_of}
use Rattle.readings.specs.Answer.{exact_count, nested_count}
use Rattle.pool.specs.declared.ArgumentKind.{ArgumentKind}
use Rattle.pool.specs.declared.ArgumentKind.TheVariants.{Expr, Nested}
use Rattle.pool.specs.declared.Argument.{Argument}
use Rattle.pool.specs.declared.Pool.{Pool}
use Rattle.pool.specs.declared.Record.{Record}
use Rattle.pool.specs.declared.Record.TheVariants.{Kept}
use Rattle.pool.specs.Log.{log_of, Added}
use Rattle.pool.specs.Meaning.{Chain, then_nest, Entry, unwind, chain_at, tree_at, linked, meanings, Stored, entries}
use Rattle.pool.specs.Counted.{arguments_in, so_far, TakesLast, CountedTo, Counted, Underway}
use Rattle.pool.proofs.Meanings.{chain-later, kept-grown, kept-number, kept-chain}
use Rattle.pool.proofs.Counts.{counted-within, counted-stays, argument-own, argument-counted}
use Rattle.pool.proofs.Passing.{expr-adds, nest-adds, so-kept, so-recorded, so-next}
use Rattle.walk.specs.declared.Place.{Place}
use Rattle.walk.specs.Met.{Stands, after_arg}

-- ---- a log that grows

pub stands-later : {t store store' : List ℕ} {u u' : ℕ} {place : Place} {n : ℕ} {rest : List Part} {c : ℕ} (new : List Record) → log_of store' u' ≡ log_of store u ++ new
    → Stands t store u place n rest c → Stands t store' u' place n rest c
stands-later {t} {store} {store'} {u} {u'} {place} {n} {rest} new grown x =
    let s : Scene = scene_of t [] [] in
    record {
      own = subst (λ (l : List Record). CountedTo s place.set place.rule l place.args) (sym grown) (counted-stays s (log_of store u) new x.own);
      so_far = subst (λ (d : Chain). Underway s place.set place.rule rest d n)
          (sym (ap (λ (l : List Record). chain_at (meanings l) place.args) grown ∙ chain-later (log_of store u) new place.args (counted-within s (log_of store u) x.own))) x.so_far;
      small = x.small;
    }

-- ---- one argument more

-- a match's ruleset
abbrev pub ruleset_in : Tree → ℕ
ruleset_in (node r k a) = r

-- what an argument adds to the count of its match
abbrev pub adds_of : Scene → List Entry → ArgumentKind → ℕ
adds_of s es Expr = 0
adds_of s es (Nested m) = exact_count s (tree_at es m)

-- the parameter whose argument it is
abbrev pub parameter_of : List Entry → ArgumentKind → Part
parameter_of es Expr = Expression
parameter_of es (Nested m) = Part.Nested (ruleset_in (tree_at es m))

is-parameter : (es : List Entry) (k : ArgumentKind) → is_parameter (parameter_of es k) ≡ true
is-parameter es Expr = refl
is-parameter es (Nested m) = refl

module _ (es : List Entry) (c : Chain) (x y : ℕ) where
  linked-longer : (k : ArgumentKind) → arguments_in (linked es c x y k) ≡ suc (arguments_in c)
  linked-longer Expr = refl
  linked-longer (Nested m) = refl

  linked-adds : (s : Scene) (k : ArgumentKind) → nested_count s (unwind (linked es c x y k) end) ≡ nested_count s (unwind c end) + adds_of s es k
  linked-adds s Expr = expr-adds s c x y
  linked-adds s (Nested m) = nest-adds s c x y (tree_at es m)

  linked-takes : (ps : List Part) (k : ArgumentKind) → get_or (keep_if is_parameter ps) (arguments_in c) Whitespace ≡ parameter_of es k → TakesLast ps (linked es c x y k)
  linked-takes ps Expr e = e
  linked-takes ps (Nested m) e = go (tree_at es m) e
    where
      go : (u : Tree) → get_or (keep_if is_parameter ps) (arguments_in c) Whitespace ≡ Part.Nested (ruleset_in u) → TakesLast ps (then_nest c x y u)
      go (node r k a) q = q

module _ {t : List ℕ} {place : Place} {part : Part} {rest : List Part} {u n n' c : ℕ} {store store' : List ℕ} {more : Pool}
    (stored : Stored store u) (counted : Counted (scene_of t [] []) (log_of store u)) (stands : Stands t store u place n (part ∷ rest) c)
    (arg : Argument) (its : part ≡ parameter_of (entries store u) arg.kind) (added : Added u store store' (Kept arg place.args n') more) (sum : n' ≡ n + adds_of (scene_of t [] []) (entries store u) arg.kind) where
  abbrev s : Scene
  s = scene_of t [] []

  abbrev log : List Record
  log = log_of store u

  abbrev before : Chain
  before = chain_at (entries store u) place.args

  abbrev chain : Chain
  chain = linked (entries store u) before arg.start arg.end arg.kind

  takes : is_parameter part ≡ true
  takes = ap is_parameter its ∙ is-parameter (entries store u) arg.kind

  longer : arguments_in chain ≡ suc (arguments_in before)
  longer = linked-longer (entries store u) before arg.start arg.end arg.kind

  adds : nested_count s (unwind chain end) ≡ nested_count s (unwind before end) + adds_of s (entries store u) arg.kind
  adds = linked-adds (entries store u) before arg.start arg.end s arg.kind

  recorded : n' ≡ so_far s place.set place.rule chain
  recorded = so-recorded s takes stands.so_far chain longer (adds_of s (entries store u) arg.kind) adds sum

  given : TakesLast (s.parts place.set place.rule) chain
  given = linked-takes (entries store u) before arg.start arg.end (s.parts place.set place.rule) arg.kind (so-next s takes stands.so_far ∙ its)

  own : CountedTo s place.set place.rule (log ++ (Kept arg place.args n' ∷ [])) (suc (length log))
  own = argument-own s log arg stands.own given recorded

  pub kept-counted : Counted s (log_of store' more.used)
  kept-counted = subst (Counted s) (sym (kept-grown stored added)) (argument-counted s log counted arg place.args n' own)

  pub kept-stands : {e : ℕ} → n' ≤ e → Stands t store' more.used (after_arg place more.used) n' rest e
  kept-stands small = record {
    own = subst (λ (l : List Record). CountedTo s place.set place.rule l more.used) (sym (kept-grown stored added))
        (subst (CountedTo s place.set place.rule (log ++ (Kept arg place.args n' ∷ []))) (kept-number stored added) own);
    so_far = subst (λ (d : Chain). Underway s place.set place.rule rest d n') (sym (kept-chain stored added))
        (so-kept s takes stands.so_far chain longer (adds_of s (entries store u) arg.kind) adds sum);
    small = small;
  }
