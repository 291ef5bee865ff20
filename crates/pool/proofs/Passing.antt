-- A match of a rule so far, part by part: an exact part adds one to its count, an argument what its nested match counts, and at
-- the pattern's end the count is the match's own.
use mathlib.Core.Path.{◌≡◌, refl, sym, ap, ◌∙◌}
use mathlib.Core.Bool.{true}
use mathlib.Core.List.{List, [], ◌∷◌, ◌++◌, append_assoc, append-nil}
use Prim.Native.Nat.{ℕ, suc, ◌+◌}
use native.Mathlib.Omega.{arith}
use lib.ListN.{get_or}
use Rattle.plain.specs.Lists.{keep_if, count}
use Rattle.plain.proofs.Lists.{count-append}
use Rattle.defs.specs.Table.{is_parameter}
use Rattle.defs.specs.declared.ruledef.Part.{Part}
use Rattle.defs.specs.declared.ruledef.Part.TheVariants.{Exact, Whitespace, Expression, Nested}
use Rattle.readings.specs.Tree.{Tree, node, Args, end, expr, nest}
use Rattle.readings.specs.Scene.{Scene}
use Rattle.readings.specs.Answer.{is_exact, exact_parts, exact_count, nested_count}
use Rattle.pool.specs.Meaning.{Chain, none, then_expr, then_nest, unwind}
use Rattle.pool.specs.Counted.{passed_with, arguments_in, so_far, Underway}

passed_none : (ps : List Part) → passed_with ps 0 ≡ []
unfolding passed_with
passed_none [] = refl
passed_none (p ∷ ps) = refl

-- the parts up to the parameter that comes next
passed-next : (b : List Part) (p : Part) (rest : List Part) → is_parameter p ≡ true → passed_with (b ++ (p ∷ rest)) (suc (count is_parameter b)) ≡ b ++ (p ∷ [])
unfolding passed_with count
passed-next [] (Exact x) rest e = let z : ◌≡◌ {A = ℕ} 0 1 = cc in absurd (omega arith)
passed-next [] Whitespace rest e = let z : ◌≡◌ {A = ℕ} 0 1 = cc in absurd (omega arith)
passed-next [] Expression rest e = ap (λ (l : List Part). Expression ∷ l) (passed_none rest)
passed-next [] (Nested r) rest e = ap (λ (l : List Part). Nested r ∷ l) (passed_none rest)
passed-next (Exact x ∷ b) p rest e = ap (λ (l : List Part). Exact x ∷ l) (passed-next b p rest e)
passed-next (Whitespace ∷ b) p rest e = ap (λ (l : List Part). Whitespace ∷ l) (passed-next b p rest e)
passed-next (Expression ∷ b) p rest e = ap (λ (l : List Part). Expression ∷ l) (passed-next b p rest e)
passed-next (Nested r ∷ b) p rest e = ap (λ (l : List Part). Nested r ∷ l) (passed-next b p rest e)

-- the parameter that comes next, by how many there are before it
parameter-next : (b : List Part) (p : Part) (rest : List Part) → is_parameter p ≡ true → get_or (keep_if is_parameter (b ++ (p ∷ rest))) (count is_parameter b) Whitespace ≡ p
unfolding keep_if count
parameter-next [] p rest e = rw e
parameter-next (Exact x ∷ b) p rest e = parameter-next b p rest e
parameter-next (Whitespace ∷ b) p rest e = parameter-next b p rest e
parameter-next (Expression ∷ b) p rest e = parameter-next b p rest e
parameter-next (Nested r ∷ b) p rest e = parameter-next b p rest e

-- a parameter is no exact part
not-exact : (p : Part) → is_parameter p ≡ true → exact_parts (p ∷ []) ≡ 0
unfolding exact_parts count
not-exact (Exact x) e = let z : ◌≡◌ {A = ℕ} 0 1 = cc in absurd (omega arith)
not-exact Whitespace e = refl
not-exact Expression e = refl
not-exact (Nested r) e = refl

one-parameter : (p : Part) → is_parameter p ≡ true → count is_parameter (p ∷ []) ≡ 1
unfolding count
one-parameter p e = rw e

exact-append : (xs ys : List Part) → exact_parts (xs ++ ys) ≡ exact_parts xs + exact_parts ys
unfolding exact_parts
exact-append xs ys = count-append is_exact xs ys

module _ (s : Scene) where
  -- the counts of arguments one after another
  unwound : (c : Chain) (a : Args) → nested_count s (unwind c a) ≡ nested_count s (unwind c end) + nested_count s a
  unwound none a = omega arith
  unwound (then_expr c x y) a = omega (arith, unwound c (expr x y a), unwound c (expr x y end))
  unwound (then_nest c x y t) a = omega (arith, unwound c (nest x y t a), unwound c (nest x y t end))

  pub expr-adds : (c : Chain) (x y : ℕ) → nested_count s (unwind (then_expr c x y) end) ≡ nested_count s (unwind c end) + 0
  expr-adds c x y = unwound c (expr x y end)

  pub nest-adds : (c : Chain) (x y : ℕ) (t : Tree) → nested_count s (unwind (then_nest c x y t) end) ≡ nested_count s (unwind c end) + exact_count s t
  nest-adds c x y t = omega (arith, unwound c (nest x y t end))

  module _ {r k : ℕ} where
    pub so-start : {rest : List Part} {n : ℕ} → s.parts r k ≡ rest → n ≡ 0 → Underway s r k rest none n
    unfolding exact_parts count
    so-start e z = record { passed = []; pattern = e; given = refl; counts = omega arith }

    module _ {rest : List Part} {c : Chain} {n : ℕ} where
      -- a part is passed, and with it so many arguments are kept and so much is counted
      module _ (p : Part) (h : Underway s r k (p ∷ rest) c n) (d : Chain) (m : ℕ) where
        passing : arguments_in d ≡ arguments_in c + count is_parameter (p ∷ []) → nested_count s (unwind d end) ≡ nested_count s (unwind c end) + m
            → {n' : ℕ} → n' ≡ n + exact_parts (p ∷ []) + m → Underway s r k rest d n'
        passing longer adds sum = record {
          passed = h.passed ++ (p ∷ []);
          pattern = h.pattern ∙ sym (append_assoc h.passed (p ∷ []) rest);
          given = omega (arith, count-append is_parameter h.passed (p ∷ []), h.given, longer);
          counts = omega (arith, exact-append h.passed (p ∷ []), h.counts, adds, sum);
        }

      pub so-exact : {x : ℕ} → Underway s r k (Exact x ∷ rest) c n → Underway s r k rest c (n + 1)
      unfolding exact_parts count
      so-exact {x} h = passing (Exact x) h c 0 (omega arith) (omega arith) (omega arith)

      pub so-whitespace : Underway s r k (Whitespace ∷ rest) c n → Underway s r k rest c n
      unfolding exact_parts count
      so-whitespace h = passing Whitespace h c 0 (omega arith) (omega arith) (omega arith)

      -- an argument is kept at the parameter that comes next
      module _ {p : Part} (takes : is_parameter p ≡ true) (h : Underway s r k (p ∷ rest) c n) (d : Chain) (longer : arguments_in d ≡ suc (arguments_in c))
          (m : ℕ) (adds : nested_count s (unwind d end) ≡ nested_count s (unwind c end) + m) {n' : ℕ} (sum : n' ≡ n + m) where
        pub so-kept : Underway s r k rest d n'
        so-kept = passing p h d m (omega (arith, longer, one-parameter p takes)) adds (omega (arith, sum, not-exact p takes))

        -- its record has the count so far
        pub so-recorded : n' ≡ so_far s r k d
        unfolding so_far
        so-recorded =
            let passed : passed_with (s.parts r k) (arguments_in d) ≡ h.passed ++ (p ∷ []) = ap (passed_with (s.parts r k)) (longer ∙ ap suc (sym h.given))
            ∙ ap (λ (ps : List Part). passed_with ps (suc (count is_parameter h.passed))) h.pattern ∙ passed-next h.passed p rest takes in
            omega (arith, ap exact_parts passed, exact-append h.passed (p ∷ []), not-exact p takes, h.counts, adds, sum)

      -- the parameter that comes next is the one after those of the arguments kept
      pub so-next : {p : Part} → is_parameter p ≡ true → Underway s r k (p ∷ rest) c n → get_or (keep_if is_parameter (s.parts r k)) (arguments_in c) Whitespace ≡ p
      so-next {p} takes h =
          ap (λ (i : ℕ). get_or (keep_if is_parameter (s.parts r k)) i Whitespace) (sym h.given)
          ∙ ap (λ (ps : List Part). get_or (keep_if is_parameter ps) (count is_parameter h.passed) Whitespace) h.pattern ∙ parameter-next h.passed p rest takes

    pub so-end : {c : Chain} {n : ℕ} → Underway s r k [] c n → n ≡ exact_count s (node r k (unwind c end))
    so-end {c} h = h.counts ∙ ap (λ (ps : List Part). exact_parts ps + nested_count s (unwind c end)) (sym (h.pattern ∙ append-nil h.passed))
