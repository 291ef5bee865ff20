-- A record written is the record read: each digit of a word comes out by one division by a numeral.
use Rattle.std.specs.Prelude.{Some, None}
use mathlib.Core.Path.{◌≡◌, refl, sym, ap, ◌∙◌}
use mathlib.Core.Bool.{Bool, true, false}
use mathlib.Core.List.{List, [], ◌∷◌, ◌++◌, map, map-append}
use Prim.Native.Nat.{ℕ, ◌+◌, ◌*◌, ◌/◌, ◌%◌, ◌≤◌, ◌<◌}
use native.Mathlib.Omega.{arith}
use native.Mathlib.Numerals.{add-one}
use lib.ListN.{length, take, set, get_or, length-map, length-take, get_or-map}
use lib.Seq.{take-suc-set, get_or-take}
use lib.Dec.{eqb}
use borrow.Author.Tests.{eq-eqb, ne_eqb}
use Rattle.plain.specs.Choice.{select}
use Rattle.pool.specs.declared.ArgumentKind.{ArgumentKind}
use Rattle.pool.specs.declared.ArgumentKind.TheVariants.{Expr, Nested}
use Rattle.pool.specs.declared.Argument.{Argument}
use Rattle.pool.specs.declared.Record.{Record}
use Rattle.pool.specs.declared.Record.TheVariants.{Kept, Completed}
use Rattle.pool.specs.declared.Pool.{Pool}
use Rattle.pool.specs.Log.{code_of, kind_of, argument_of, match_of, decode, log_of, ArgumentFits, MatchFits, Fits, encode, taken, TakenBy, Digits, nothing}

-- ---- kinds

kind-code : (k : ArgumentKind) → kind_of (code_of k) ≡ k
unfolding kind_of
kind-code Expr = refl
kind-code (Nested m) = rw add-one

-- ---- words

pub is-argument : (w : ℕ) → w % 2 ≡ 0 → argument_of (w / 2) ≡ decode w
unfolding decode
is-argument w t = rw (decode, eq-eqb _ _ t)

pub is-match : (w : ℕ) → (w % 2 ≡ 0 → ⊥) → match_of (w / 2) ≡ decode w
unfolding decode
is-match w t = rw (decode, ne_eqb _ _ t)

digits-argument : (x y z v prev n k : ℕ) (a : Argument) → x % 8192 ≡ prev → x / 8192 ≡ y → y % 128 ≡ a.start → y / 128 ≡ z → z % 128 ≡ a.end → z / 128 ≡ v → v % 128 ≡ n → v / 128 ≡ k
    → k ≡ code_of a.kind → argument_of x ≡ Kept a prev n
unfolding argument_of
digits-argument x y z v prev n k a m2 d2 m3 d3 m4 d4 m5 d5 e = simp (argument_of, m2, d2, m3, d3, m4, d4, m5, d5, e, kind-code)

decode-argument : (a : Argument) (prev n k : ℕ) → k ≡ code_of a.kind → ArgumentFits a prev n
    → decode (2 * (prev + 8192 * (a.start + 128 * (a.end + 128 * (n + 128 * k))))) ≡ Kept a prev n
decode-argument a prev n k e f =
    let v = n + 128 * k in
    let z = a.end + 128 * v in
    let y = a.start + 128 * z in
    let x = prev + 8192 * y in
    let d : 2 * x / 2 ≡ x = omega arith in
    sym (is-argument (2 * x) (omega arith)) ∙ ap argument_of d
    ∙ digits-argument x y z v prev n k a (omega (arith, f.before)) (omega (arith, f.before)) (omega (arith, f.start)) (omega (arith, f.start))
    (omega (arith, f.end)) (omega (arith, f.end)) (omega (arith, f.counts)) (omega (arith, f.counts)) e

decode-match : (depth group rule args end n : ℕ) → MatchFits depth group rule args end n
    → decode (1 + 2 * (depth + 32 * (group + 32 * (rule + 512 * (args + 8192 * (n + 128 * end)))))) ≡ Completed depth group rule args end n
unfolding match_of
decode-match depth group rule args end n f =
    let u = n + 128 * end in
    let z = args + 8192 * u in
    let y = rule + 512 * z in
    let v = group + 32 * y in
    let x = depth + 32 * v in
    let t : ((1 + 2 * x) % 2 ≡ 0 → ⊥) = omega arith in
    let d1 : (1 + 2 * x) / 2 ≡ x = omega arith in
    let m2 : x % 32 ≡ depth = omega (arith, f.depths) in
    let d2 : x / 32 ≡ v = omega (arith, f.depths) in
    let m5 : v % 32 ≡ group = omega (arith, f.sets) in
    let d5 : v / 32 ≡ y = omega (arith, f.sets) in
    let m3 : y % 512 ≡ rule = omega (arith, f.rules) in
    let d3 : y / 512 ≡ z = omega (arith, f.rules) in
    let m4 : z % 8192 ≡ args = omega (arith, f.last) in
    let d4 : z / 8192 ≡ u = omega (arith, f.last) in
    let m7 : u % 128 ≡ n = omega (arith, f.counts) in
    let d7 : u / 128 ≡ end = omega (arith, f.counts) in
    let m6 : end % 128 ≡ end = omega (arith, f.place) in
    sym (is-match (1 + 2 * x) t) ∙ simp (match_of, d1, m2, d2, m5, d5, m3, d3, m4, d4, m7, d7, m6)

-- whatever the word, its digits are below their numbers
pub digits : (w : ℕ) → Digits (decode w)
unfolding decode argument_of match_of
digits w = go (eqb (w % 2) 0)
  where
    go : (b : Bool) → Digits (select b (argument_of (w / 2)) (match_of (w / 2)))
    go true = record { start = omega arith; end = omega arith; before = omega arith; counts = omega arith }
    go false = record { depths = omega arith; sets = omega arith; rules = omega arith; last = omega arith; place = omega arith; counts = omega arith }

-- ---- the log

pub log-length : (store : List ℕ) (used : ℕ) → used ≤ length store → length (log_of store used) ≡ used
unfolding log_of
log-length store used h = simp (log_of, length-map, length-take) (omega arith)

log-more : (store : List ℕ) (used w : ℕ) → used < length store → log_of (set store used w) (used + 1) ≡ log_of store used ++ (decode w ∷ [])
unfolding log_of
log-more store used w h = simp (log_of, add-one, take-suc-set store used w h, map-append)

decode-0 : decode 0 ≡ nothing
unfolding decode argument_of kind_of
decode-0 = refl

pub log-at : (store : List ℕ) (used i : ℕ) → i < used → get_or (log_of store used) i nothing ≡ decode (get_or store i 0)
unfolding log_of
log-at store used i h =
    ap (get_or (map decode (take used store)) i) (sym decode-0) ∙ get_or-map decode (take used store) i 0
    ∙ ap decode (get_or-take used store i 0 h)

pub log-none : (store : List ℕ) → log_of store 0 ≡ []
unfolding log_of
log-none store = refl

-- ---- a record taken

-- what fits a word is what it was
decoded : (x : Record) → Fits x → decode (encode x) ≡ x
decoded (Kept a p n) f = decode-argument a p n (code_of a.kind) refl f
decoded (Completed d r k a e n) f = decode-match d r k a e n f

module _ (store : List ℕ) (used : ℕ) (x : Record) where
  pub taken-full : used ≡ 4096 → TakenBy used store store x None
  unfolding taken
  taken-full e = record { is = rw (taken, eq-eqb used 4096 e); log = e }

  pub taken_next : length store ≡ 4096 → used ≤ 4096 → (used ≡ 4096 → ⊥) → Fits x → (w : ℕ) → w ≡ encode x → (p : Pool) → p ≡ record { used = used + 1 }
      → TakenBy used store (set store used w) x (Some p)
  unfolding taken
  taken_next sized few more f w e p next = record {
    is = rw (taken, ne_eqb used 4096 more, e, next);
    log = record {
      room = omega (arith, more);
      counted = ap (λ (q : Pool). q.used) next;
      grown = log-more store used w (omega (arith, more)) ∙ ap (λ (y : Record). log_of store used ++ (y ∷ [])) (ap decode e ∙ decoded x f);
    };
  }
