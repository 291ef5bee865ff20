-- A log that grows, seen from a depth: what one walk leaves after another, an argument, a match, and a deeper walk, which
-- leaves nothing at this depth.
use mathlib.Core.Path.{◌≡◌, refl, sym, ap, subst, ◌∙◌}
use mathlib.Core.List.{List, [], ◌∷◌, ◌++◌, append_assoc, append-nil}
use Prim.Native.Nat.{ℕ, ◌+◌, ◌≤◌}
use native.Mathlib.Omega.{arith}
use lib.ListN.{length}
use borrow.Author.Tests.{eq-eqb, ne_eqb}
use Rattle.readings.specs.Tree.{node, end}
use Rattle.readings.specs.Walk.{Match}
use Rattle.pool.specs.declared.Argument.{Argument}
use Rattle.pool.specs.declared.Record.{Record}
use Rattle.pool.specs.declared.Record.TheVariants.{Kept, Completed}
use Rattle.pool.specs.Meaning.{Entry, unwind, chain_at, meaning, meanings, gathered, Links, Earlier}
use Rattle.pool.proofs.Meanings.{meaning-append, meanings-more, gathered-append, earlier_more}
use Rattle.walk.specs.Met.{Made}

pub made_none : (d : ℕ) (log : List Record) → Earlier log → Made d log log []
unfolding meaning gathered
made_none d log e = record {
  new = [];
  grown = sym (append-nil log);
  found = refl;
  shallow = λ n h. refl;
  earlier = e;
}

pub made-join : {d : ℕ} {log log' log'' : List Record} {ms ns : List Match} → Made d log log' ms → Made d log' log'' ns → Made d log log'' (ms ++ ns)
made-join {d} {log} {log'} {log''} {ms} {ns} a b = record {
  new = a.new ++ b.new;
  grown = b.grown ∙ ap (λ (l : List Record). l ++ b.new) a.grown ∙ append_assoc log a.new b.new;
  found = both d ∙ ap (λ (l : List Match). l ++ gathered d (meaning (meanings log') b.new)) a.found ∙ ap (λ (l : List Match). ms ++ l) b.found;
  shallow = λ n h. both n ∙ ap (λ (l : List Match). l ++ gathered n (meaning (meanings log') b.new)) (a.shallow n h) ∙ b.shallow n h;
  earlier = b.earlier;
}
  where
    there : meanings log ++ meaning (meanings log) a.new ≡ meanings log'
    there = sym (meanings-more log a.new) ∙ ap meanings (sym a.grown)

    both : (n : ℕ) → gathered n (meaning (meanings log) (a.new ++ b.new)) ≡ gathered n (meaning (meanings log) a.new) ++ gathered n (meaning (meanings log') b.new)
    both n =
        ap (gathered n) (meaning-append (meanings log) a.new b.new) ∙ gathered-append n (meaning (meanings log) a.new) (meaning (meanings log ++ meaning (meanings log) a.new) b.new)
        ∙ ap (λ (es : List Entry). gathered n (meaning (meanings log) a.new) ++ gathered n (meaning es b.new)) there

-- a deeper walk leaves no match here
pub made-deeper : {d : ℕ} {log log' : List Record} {ms : List Match} → Made (d + 1) log log' ms → Made d log log' []
made-deeper {d} a = record {
  new = a.new;
  grown = a.grown;
  found = a.shallow d (omega arith);
  shallow = λ n h. a.shallow n (omega arith);
  earlier = a.earlier;
}

module _ (d : ℕ) (log log' : List Record) (e : Earlier log) where
  pub made-argument : (a : Argument) (p n : ℕ) → log' ≡ log ++ (Kept a p n ∷ []) → Links (length log) (Kept a p n) → Made d log log' []
  unfolding meaning gathered
  made-argument a p n g l = record {
    new = Kept a p n ∷ [];
    grown = g;
    found = refl;
    shallow = λ n h. refl;
    earlier = subst Earlier (sym g) (earlier_more log (Kept a p n) e l);
  }

  pub made-match : (r k a c m : ℕ) → log' ≡ log ++ (Completed d r k a c m ∷ []) → a ≤ length log → Made d log log' ((node r k (unwind (chain_at (meanings log) a) end), c) ∷ [])
  unfolding meaning gathered
  made-match r k a c m g l = record {
    new = Completed d r k a c m ∷ [];
    grown = g;
    found = rw (gathered, eq-eqb d d refl);
    shallow = λ n h. rw (gathered, ne_eqb d n (λ q. omega arith));
    earlier = subst Earlier (sym g) (earlier_more log (Completed d r k a c m) e l);
  }
