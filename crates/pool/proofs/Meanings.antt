-- Reading a log that grows. What a record means is fixed by the records before it: so it stays as the log grows, and if all
-- links are to earlier records, each record means what its links say in the whole log (`entry_at`).
use Rattle.std.specs.Prelude.{Some, None}
use mathlib.Core.Path.{◌≡◌, refl, sym, ap, subst, ◌∙◌}
use mathlib.Core.Bool.{Bool, true, false}
use mathlib.Core.Logic.{⊎_elim}
use mathlib.Core.List.{List, [], ◌∷◌, ◌++◌, append_assoc, append-nil}
use Prim.Native.Nat.{ℕ, zero, suc, ◌+◌, ◌≤◌, ◌<◌}
use native.Mathlib.Omega.{arith}
use native.Mathlib.Nat.{eq-or-lt_of_le, le_of_suc-le-suc}
use lib.Dec.{eqb}
use lib.ListN.{length, get_or, length-append, get_or-append}
use lib.Seq.{get_or_at}
use Rattle.plain.specs.Choice.{select}
use Rattle.readings.specs.Walk.{Match}
use Rattle.pool.specs.declared.ArgumentKind.{ArgumentKind}
use Rattle.pool.specs.declared.ArgumentKind.TheVariants.{Expr, Nested}
use Rattle.pool.specs.declared.Argument.{Argument}
use Rattle.pool.specs.declared.Record.{Record}
use Rattle.pool.specs.declared.Record.TheVariants.{Kept, Completed}
use Rattle.pool.specs.declared.Pool.{Pool}
use Rattle.pool.specs.Log.{decode, log_of, nothing, Added, ArgumentDigits, MatchFits, Digits}
use Rattle.pool.specs.Meaning.{Chain, Entry, argued, completed, chain_at, tree_at, linked, entry_of, meaning, meanings, gathered_of, gathered, InnerEarlier, Links, Earlier, Stored, entries, head_of, HeadAt, last_of, last_in, LastAt, chain_in, tree_in}
use Rattle.pool.proofs.Words.{log-length, log-at}

-- ---- one list of records after another

pub meaning-append : (es : List Entry) (xs ys : List Record) → meaning es (xs ++ ys) ≡ meaning es xs ++ meaning (es ++ meaning es xs) ys
unfolding meaning
meaning-append es [] ys = ap (λ (l : List Entry). meaning l ys) (sym (append-nil es))
meaning-append es (x ∷ xs) ys =
    ap (λ (l : List Entry). entry_of es x ∷ l)
    (meaning-append (es ++ (entry_of es x ∷ [])) xs ys
    ∙ ap (λ (l : List Entry). meaning (es ++ (entry_of es x ∷ [])) xs ++ meaning l ys) (append_assoc es (entry_of es x ∷ []) (meaning (es ++ (entry_of es x ∷ [])) xs)))

pub meanings-more : (log new : List Record) → meanings (log ++ new) ≡ meanings log ++ meaning (meanings log) new
meanings-more log new = meaning-append [] log new

pub meaning-length : (es : List Entry) (xs : List Record) → length (meaning es xs) ≡ length xs
unfolding meaning
meaning-length es [] = refl
meaning-length es (x ∷ xs) = ap suc (meaning-length (es ++ (entry_of es x ∷ [])) xs)

gathered-over : (d : ℕ) (x : Entry) (ms ns : List Match) → gathered_of d x (ms ++ ns) ≡ gathered_of d x ms ++ ns
gathered-over d (argued c) ms ns = refl
gathered-over d (completed n t e) ms ns = go (eqb n d)
  where
    go : (b : Bool) → select b ((t, e) ∷ (ms ++ ns)) (ms ++ ns) ≡ select b ((t, e) ∷ ms) ms ++ ns
    go true = refl
    go false = refl

pub gathered-append : (d : ℕ) (xs ys : List Entry) → gathered d (xs ++ ys) ≡ gathered d xs ++ gathered d ys
unfolding gathered
gathered-append d [] ys = refl
gathered-append d (x ∷ xs) ys = ap (gathered_of d x) (gathered-append d xs ys) ∙ gathered-over d x (gathered d xs) (gathered d ys)

-- ---- what a number stands for stays

pub chain-stays : (es more : List Entry) (n : ℕ) → n ≤ length es → chain_at (es ++ more) n ≡ chain_at es n
unfolding chain_at
chain-stays es more zero h = refl
chain-stays es more (suc i) h = rw (get_or-append es more (argued Chain.none) i (omega arith))

pub tree-stays : (es more : List Entry) (m : ℕ) → m < length es → tree_at (es ++ more) m ≡ tree_at es m
unfolding tree_at
tree-stays es more m h = rw (get_or-append es more (argued Chain.none) m h)

linked-stays : (es more : List Entry) (c : Chain) (x y : ℕ) (k : ArgumentKind) → InnerEarlier (length es) k → linked (es ++ more) c x y k ≡ linked es c x y k
linked-stays es more c x y Expr h = refl
linked-stays es more c x y (Nested m) h = rw (tree-stays es more m h)

pub entry-stays : (es more : List Entry) (x : Record) → Links (length es) x → entry_of (es ++ more) x ≡ entry_of es x
entry-stays es more (Kept a p n) (h, k) =
    ap (λ (c : Chain). argued (linked (es ++ more) c a.start a.end a.kind)) (chain-stays es more p h)
    ∙ ap argued (linked-stays es more (chain_at es p) a.start a.end a.kind k)
entry-stays es more (Completed d r k a e n) h = rw (chain-stays es more a h)

pub chain-later : (log new : List Record) (n : ℕ) → n ≤ length log → chain_at (meanings (log ++ new)) n ≡ chain_at (meanings log) n
chain-later log new n h =
    ap (λ (es : List Entry). chain_at es n) (meanings-more log new) ∙ chain-stays (meanings log) (meaning (meanings log) new) n (omega (arith, meaning-length [] log))

-- the arguments up to the one kept last
pub chain-kept : (log : List Record) (a : Argument) (p n : ℕ)
    → chain_at (meanings (log ++ (Kept a p n ∷ []))) (suc (length log)) ≡ linked (meanings log) (chain_at (meanings log) p) a.start a.end a.kind
unfolding chain_at meaning
chain-kept log a p n =
    ap (λ (es : List Entry). chain_at es (suc (length log))) (meanings-more log (Kept a p n ∷ []))
    ∙ ap chain_in (get_or_at (meanings log) (entry_of (meanings log) (Kept a p n)) [] (argued Chain.none) (length log) (meaning-length [] log))

-- an argument's record is taken: the log, its number from 1, and the chain up to it
module _ {u : ℕ} {store store' : List ℕ} {a : Argument} {p n : ℕ} {more : Pool} (stored : Stored store u) (added : Added u store store' (Kept a p n) more) where
  pub kept-grown : log_of store' more.used ≡ log_of store u ++ (Kept a p n ∷ [])
  kept-grown = ap (log_of store') added.counted ∙ added.grown

  pub kept-number : suc (length (log_of store u)) ≡ more.used
  kept-number = omega (arith, added.counted, log-length store u (omega (arith, stored.sized, stored.room)))

  pub kept-chain : chain_at (entries store' more.used) more.used ≡ linked (entries store u) (chain_at (entries store u) p) a.start a.end a.kind
  kept-chain =
      ap (λ (l : List Record). chain_at (meanings l) more.used) kept-grown ∙ ap (chain_at (meanings (log_of store u ++ (Kept a p n ∷ [])))) (sym kept-number)
      ∙ chain-kept (log_of store u) a p n

-- ---- links to earlier records

pub earlier-none : Earlier []
earlier-none = record { links = λ i h. absurd (omega arith) }

pub earlier_more : (log : List Record) (x : Record) → Earlier log → Links (length log) x → Earlier (log ++ (x ∷ []))
earlier_more log x h l = record { links = λ i lt. go i lt }
  where
    go : (i : ℕ) → i < length (log ++ (x ∷ [])) → Links i (get_or (log ++ (x ∷ [])) i nothing)
    go i lt =
        ⊎_elim
        (λ e. subst (λ (j : ℕ). Links j (get_or (log ++ (x ∷ [])) j nothing)) (sym e) (subst (Links (length log)) (sym (get_or_at log x [] nothing (length log) refl)) l))
        (λ s. subst (Links i) (sym (get_or-append log (x ∷ []) nothing i s)) (h.links i s))
        (eq-or-lt_of_le (le_of_suc-le-suc (omega (arith, length-append log (x ∷ [])))))

-- the entry at a number, through the entries before it
entry-from : (es : List Entry) (xs : List Record) (i : ℕ) → i < length xs
    → ((j : ℕ) → j < length xs → Links (length es + j) (get_or xs j nothing))
    → get_or (meaning es xs) i (argued Chain.none) ≡ entry_of (es ++ meaning es xs) (get_or xs i nothing)
unfolding meaning
entry-from es [] i h l = absurd (omega arith)
entry-from es (x ∷ xs) zero h l =
    sym (entry-stays es (entry_of es x ∷ meaning (es ++ (entry_of es x ∷ [])) xs) x (subst (λ (n : ℕ). Links n x) (omega arith) (l 0 (omega arith))))
entry-from es (x ∷ xs) (suc i) h l =
    entry-from (es ++ (entry_of es x ∷ [])) xs i (omega arith)
    (λ j k. subst (λ (n : ℕ). Links n (get_or xs j nothing)) (omega (arith, length-append es (entry_of es x ∷ []))) (l (suc j) (omega arith)))
    ∙ ap (λ (es' : List Entry). entry_of es' (get_or xs i nothing)) (append_assoc es (entry_of es x ∷ []) (meaning (es ++ (entry_of es x ∷ [])) xs))

pub entry_at : (log : List Record) (m : ℕ) → Earlier log → m < length log
    → get_or (meanings log) m (argued Chain.none) ≡ entry_of (meanings log) (get_or log m nothing)
entry_at log m e h = entry-from [] log m h (λ j k. subst (λ (n : ℕ). Links n (get_or log j nothing)) (omega arith) (e.links j k))

-- ---- what reading the store finds

module _ (store : List ℕ) (used : ℕ) (stored : Stored store used) (i : ℕ) (h : i < used) {x : Record} (is : x ≡ decode (get_or store i 0)) (digits : Digits x) where
  abbrev es : List Entry
  es = entries store used

  known : get_or (log_of store used) i nothing ≡ x
  known = log-at store used i h ∙ sym is

  many : length (log_of store used) ≡ used
  many = log-length store used (omega (arith, stored.sized, stored.room))

  below : i < length (log_of store used)
  below = omega (arith, many)

  pub entry_read : get_or es i (argued Chain.none) ≡ entry_of es x
  entry_read = entry_at (log_of store used) i stored.earlier below ∙ ap (entry_of es) known

  pub links-read : Links i x
  links-read = subst (Links i) known (stored.earlier.links i below)

  pub head-kept : {a : Argument} {p c : ℕ} → x ≡ Kept a p c → HeadAt store used i (record { set = 0; rule = 0; args = 0 })
  unfolding tree_at chain_at
  head-kept y = record {
    is = ap head_of (sym y ∙ is);
    heads = record {
      means = ap tree_in (entry_read ∙ ap (entry_of es) y);
      earlier = omega arith;
      sets = omega arith;
      rules = omega arith;
    };
  }

  pub head-completed : {d r k a e c : ℕ} → x ≡ Completed d r k a e c → HeadAt store used i (record { set = r; rule = k; args = a })
  unfolding tree_at
  head-completed {d} {r} {k} {a} {e} {c} y =
      let f : MatchFits d r k a e c = subst Digits y digits in
      record {
        is = ap head_of (sym y ∙ is);
        heads = record {
          means = ap tree_in (entry_read ∙ ap (entry_of es) y);
          earlier = subst (Links i) y links-read;
          sets = f.sets;
          rules = f.rules;
        };
      }

  module _ (n : ℕ) (next : n ≡ suc i) where
    pub last-kept : {a : Argument} {p c : ℕ} → x ≡ Kept a p c → LastAt store used n (Some (a, p))
    unfolding chain_at last_in
    last-kept {a} {p} {c} y =
        let f : ArgumentDigits a p c = subst Digits y digits in
        let (l, k) = subst (Links i) y links-read in
        record {
          is = ap last_of (sym y ∙ is) ∙ sym (ap (last_in store) next);
          lasts = record {
            means = ap (chain_at es) next ∙ ap chain_in (entry_read ∙ ap (entry_of es) y);
            before = record {
              earlier = omega (arith, next);
              inner = inner-later a.kind k;
              start = f.start;
              end = f.end;
            };
          };
        }
      where
        inner-later : (k : ArgumentKind) → InnerEarlier i k → InnerEarlier n k
        inner-later Expr l = tt
        inner-later (Nested m) l = omega (arith, next)

    pub last-completed : {d r k a e c : ℕ} → x ≡ Completed d r k a e c → LastAt store used n None
    unfolding chain_at last_in
    last-completed y = record {
      is = ap last_of (sym y ∙ is) ∙ sym (ap (last_in store) next);
      lasts = record { means = ap (chain_at es) next ∙ ap chain_in (entry_read ∙ ap (entry_of es) y); before = tt };
    }

pub last_none : (store : List ℕ) (used n : ℕ) → n ≡ 0 → LastAt store used n None
unfolding chain_at last_in
last_none store used n z = record {
  is = sym (ap (last_in store) z);
  lasts = record { means = ap (chain_at (entries store used)) z; before = tt };
}
