-- The counts of a log that grows: those of the records that were there stay, and one record more is counted if its own is.
use Rattle.std.specs.Prelude.{Some}
use mathlib.Core.Path.{◌≡◌, refl, sym, ap, subst, ◌∙◌}
use mathlib.Core.Logic.{⊎_elim}
use mathlib.Core.List.{List, [], ◌∷◌, ◌++◌}
use Prim.Native.Nat.{ℕ, suc, ◌≤◌, ◌<◌}
use native.Mathlib.Omega.{arith}
use native.Mathlib.Nat.{eq-or-lt_of_le, le_of_suc-le-suc}
use lib.ListN.{length, get_or, length-append, get_or-append}
use lib.Seq.{get_or_at}
use Rattle.readings.specs.Tree.{node, end}
use Rattle.readings.specs.Scene.{Scene}
use Rattle.readings.specs.Answer.{exact_count}
use Rattle.pool.specs.declared.Argument.{Argument}
use Rattle.pool.specs.declared.Record.{Record}
use Rattle.pool.specs.declared.Record.TheVariants.{Kept, Completed}
use Rattle.pool.specs.Log.{decode, log_of, count_in, depth_in, Digits, nothing}
use Rattle.pool.specs.Meaning.{Chain, none, Entry, argued, unwind, chain_at, tree_at, tree_in, linked, entry_of, meanings, Stored, entries}
use Rattle.pool.specs.Counted.{so_far, TakesLast, CountedTo, first, after, CountOf, Counted}
use Rattle.plain.proofs.Options.{none-ne-some}
use Rattle.pool.proofs.Words.{log-length, log-at, digits}
use Rattle.pool.proofs.Meanings.{chain-later, chain-kept, entry_read}

module _ (s : Scene) where
  -- ---- the records that were there

  module _ (log : List Record) where
    pub counted-within : {r k n : ℕ} → CountedTo s r k log n → n ≤ length log
    counted-within first = omega arith
    counted-within (after h e t c rest) = omega arith

    module _ (new : List Record) where
      pub counted-stays : {r k n : ℕ} → CountedTo s r k log n → CountedTo s r k (log ++ new) n
      counted-stays first = first
      counted-stays {r} {k} (after {i = i} h e t c rest) =
          after {i = i} (omega (arith, length-append log new)) (get_or-append log new nothing i h ∙ e)
          (subst (TakesLast (s.parts r k)) (sym (chain-later log new _ (omega arith))) t)
          (c ∙ ap (so_far s r k) (sym (chain-later log new _ (omega arith)))) (counted-stays rest)

      count-stays : (i : ℕ) (x : Record) → CountOf s log i x → CountOf s (log ++ new) i x
      count-stays i (Kept a p n) (r, k, c) = (r, k, counted-stays c)
      count-stays i (Completed d r k a e n) (q, c) =
          (q ∙ ap (λ (x : Chain). exact_count s (node r k (unwind x end))) (sym (chain-later log new a (counted-within c))), counted-stays c)

  -- an argument of a rule's match, after those before it
  pub argument-own : (log : List Record) {r k : ℕ} (a : Argument) {p n : ℕ} → CountedTo s r k log p
      → TakesLast (s.parts r k) (linked (meanings log) (chain_at (meanings log) p) a.start a.end a.kind)
      → n ≡ so_far s r k (linked (meanings log) (chain_at (meanings log) p) a.start a.end a.kind)
      → CountedTo s r k (log ++ (Kept a p n ∷ [])) (suc (length log))
  argument-own log {r} {k} a {p} {n} before takes is =
      let same = sym (chain-kept log a p n) in
      after {i = length log} (omega (arith, length-append log (Kept a p n ∷ []))) (get_or_at log (Kept a p n) [] nothing (length log) refl)
      (subst (TakesLast (s.parts r k)) same takes) (is ∙ ap (so_far s r k) same) (counted-stays log (Kept a p n ∷ []) before)

  -- ---- one record more

  pub counted_none : Counted s []
  counted_none = record { each = λ i h. absurd (omega arith) }

  module _ (log : List Record) (counted : Counted s log) where
    more : (x : Record) → CountOf s (log ++ (x ∷ [])) (length log) x → Counted s (log ++ (x ∷ []))
    more x own = record { each = go }
      where
        go : (i : ℕ) → i < length (log ++ (x ∷ [])) → CountOf s (log ++ (x ∷ [])) i (get_or (log ++ (x ∷ [])) i nothing)
        go i lt =
            ⊎_elim
            (λ e. subst (λ (j : ℕ). CountOf s (log ++ (x ∷ [])) j (get_or (log ++ (x ∷ [])) j nothing)) (sym e)
            (subst (CountOf s (log ++ (x ∷ [])) (length log)) (sym (get_or_at log x [] nothing (length log) refl)) own))
            (λ h. subst (CountOf s (log ++ (x ∷ [])) i) (sym (get_or-append log (x ∷ []) nothing i h)) (count-stays log (x ∷ []) i (get_or log i nothing) (counted.each i h)))
            (eq-or-lt_of_le (le_of_suc-le-suc (omega (arith, length-append log (x ∷ [])))))

    pub argument-counted : {r k : ℕ} (a : Argument) (p n : ℕ) → CountedTo s r k (log ++ (Kept a p n ∷ [])) (suc (length log)) → Counted s (log ++ (Kept a p n ∷ []))
    argument-counted {r} {k} a p n own = more (Kept a p n) (r, k, own)

    pub match-counted : (d e : ℕ) {r k a n : ℕ} → CountedTo s r k log a → n ≡ exact_count s (node r k (unwind (chain_at (meanings log) a) end))
        → Counted s (log ++ (Completed d r k a e n ∷ []))
    match-counted d e {r} {k} {a} {n} before is =
        more (Completed d r k a e n)
        (is ∙ ap (λ (x : Chain). exact_count s (node r k (unwind x end))) (sym (chain-later log (Completed d r k a e n ∷ []) a (counted-within log before))), counted-stays log (Completed d r k a e n ∷ []) before)

  -- ---- the count of a match, read from its record

  module _ (store : List ℕ) (used : ℕ) (stored : Stored store used) (counted : Counted s (log_of store used)) (m : ℕ) (below : m < used) where
    pub count-read : {x : Record} → x ≡ decode (get_or store m 0) → {d : ℕ} → depth_in x ≡ Some d → count_in x ≡ exact_count s (tree_at (entries store used) m)
    unfolding tree_at
    count-read {x} is match = go x refl
      where
        known : get_or (log_of store used) m nothing ≡ x
        known = log-at store used m below ∙ sym is

        own : CountOf s (log_of store used) m x
        own = subst (CountOf s (log_of store used) m) known (counted.each m (omega (arith, log-length store used (omega (arith, stored.sized, stored.room)))))

        read : get_or (entries store used) m (argued none) ≡ entry_of (entries store used) x
        read = entry_read store used stored m below is (subst Digits (sym is) (digits (get_or store m 0)))

        go : (y : Record) → x ≡ y → count_in x ≡ exact_count s (tree_in (get_or (entries store used) m (argued none)))
        go (Kept a p n) e = absurd (none-ne-some _ (sym (ap depth_in e) ∙ match))
        go (Completed d r k a c n) e = ap count_in e ∙ (subst (CountOf s (log_of store used) m) e own).0 ∙ ap (λ (z : Entry). exact_count s (tree_in z)) (sym (read ∙ ap (entry_of (entries store used)) e))

  -- ---- no choice is left

  -- of a rule's match so far, the arguments kept determine the count of the last one's record
  pub argument-tight : {log log' : List Record} {r k i j : ℕ} {a b : Argument} {p q n m : ℕ} → CountedTo s r k log (suc i) → CountedTo s r k log' (suc j)
      → get_or log i nothing ≡ Kept a p n → get_or log' j nothing ≡ Kept b q m → chain_at (meanings log) (suc i) ≡ chain_at (meanings log') (suc j) → n ≡ m
  argument-tight {r = r} {k = k} (after _ e _ c _) (after _ f _ d _) x y same =
      ap count_in (sym x ∙ e) ∙ c ∙ ap (so_far s r k) same ∙ sym (ap count_in (sym y ∙ f) ∙ d)

  -- of a match, its rule and arguments that of its own
  pub match-tight : {log log' : List Record} → Counted s log → Counted s log' → {i j : ℕ} → i < length log → j < length log' → {d d' r k a b e e' n m : ℕ}
      → get_or log i nothing ≡ Completed d r k a e n → get_or log' j nothing ≡ Completed d' r k b e' m → chain_at (meanings log) a ≡ chain_at (meanings log') b → n ≡ m
  match-tight {log} {log'} x y {i} {j} h g {r = r} {k = k} p q same =
      (subst (CountOf s log i) p (x.each i h)).0 ∙ ap (λ (c : Chain). exact_count s (node r k (unwind c end))) same ∙ sym (subst (CountOf s log' j) q (y.each j g)).0
