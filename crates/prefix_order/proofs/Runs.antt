-- A run of ordered entries. Bisection brackets its first place, since an entry settles all on one side of it; from there on the
-- entries of a key come first, and after the first of another key there is none, so that what a loop takes up to there is all
-- that the test keeps of the whole order.
use mathlib.Core.Path.{◌≡◌, refl, sym, ap, subst, ◌∙◌}
use mathlib.Core.Bool.{Bool, true, false}
use mathlib.Core.List.{List, [], ◌∷◌, ◌++◌, map, map-append, append-nil}
use Prim.Native.Nat.{ℕ, suc, ◌+◌, ◌-◌, ◌*◌, ◌/◌, ◌%◌, ◌≤◌, ◌<◌}
use native.Mathlib.Decide.{dec_le}
use native.Mathlib.Numerals.{add-one}
use native.Mathlib.Omega.{arith}
use lib.Dec.{eqb, ltb}
use lib.ListN.{length, get_or, take, drop, set, length-append, length-take, length-drop, length-set, take-append-drop}
use lib.Seq.{take_all, take-suc, get_or-take, get_or-drop, set_split, append_snoc}
use borrow.Author.Tests.{eq-eqb, ne_eqb, ltb-true, ltb-false}
use Rattle.std.specs.List.Sorted.{IsPartitionedBy, IsPartitionPoint}
use Rattle.std.proofs.lemmas.List.Sorted.{IsPartitionedBy-ltb, IsNonDecreasingBy-drop, IsNonDecreasingBy-from_default}
use Rattle.plain.specs.Buffers.{put_after}
use Rattle.plain.specs.Lists.{keep_if}
use Rattle.plain.proofs.Buffers.{put-none, put-end, put-more}
use Rattle.plain.proofs.Lists.{keep_if-append}
use Rattle.sorting.specs.Ascending.{in_order}
use Rattle.sorting.proofs.Insertions.{order-at}
use Rattle.prefix_order.specs.PrefixOrder.{rules_with, Passed, FirstFrom, RunAsked, RunLeft}

-- ---- bisection

-- the place sought is from `low` to `high`
pub record Bracket (es : List ℕ) (bound low high : ℕ) : Type 0 where
  pub ordered : low ≤ high
  pub within : high ≤ length es
  pub below : (k : ℕ) → k < low → get_or es k 0 < bound
  pub from : (k : ℕ) → high ≤ k → k < length es → bound ≤ get_or es k 0

pub bracket-none : {es : List ℕ} {bound from count : ℕ} → length es ≡ count → Passed es bound from → Bracket es bound from count
bracket-none long passed = record {
  ordered = omega (arith, passed.within);
  within = omega arith;
  below = passed.below;
  from = λ k l m. absurd (omega arith);
}

module _ {es : List ℕ} {bound low high : ℕ} (before : Bracket es bound low high) where
  module _ {middle : ℕ} (sorted : in_order es ≡ true) (l : low ≤ middle) (h : middle < high) where
    pub bracket-up : get_or es middle 0 < bound → Bracket es bound (middle + 1) high
    bracket-up less = record {
      ordered = omega arith;
      within = before.within;
      below = λ k m. omega (arith, order-at es sorted k middle (omega arith) (omega (arith, before.within)));
      from = before.from;
    }

    pub bracket-down : bound ≤ get_or es middle 0 → Bracket es bound low middle
    bracket-down more = record {
      ordered = l;
      within = omega (arith, before.within);
      below = before.below;
      from = λ k m n. omega (arith, order-at es sorted middle k m n);
    }

  pub bracket-met : high ≤ low → FirstFrom es bound low
  bracket-met met = record {
    passed = record { within = omega (arith, before.ordered, before.within); below = before.below };
    from = λ k m n. before.from k (omega arith) n;
  }

-- ordered entries are parted by a bound, from any place on
pub order-parted : (es : List ℕ) (bound from : ℕ) {xs : List ℕ} → xs ≡ drop from es → in_order es ≡ true → IsPartitionedBy (λ e. ltb e bound) xs
order-parted es bound from is sorted =
    subst (IsPartitionedBy (λ e. ltb e bound)) (sym is)
    (IsPartitionedBy-ltb (λ e. e) (drop from es) bound
    (IsNonDecreasingBy-drop (λ e. e) from es (IsNonDecreasingBy-from_default (λ e. e) es 0 (λ i j l h. order-at es sorted i j l h))))

parted-after :
    {es : List ℕ} {bound from r : ℕ} → in_order es ≡ true → from < length es → get_or es from 0 < bound → r ≤ length (drop (from + 1) es) →
    IsPartitionPoint (λ e. ltb e bound ≡ true) (λ e. ltb e bound ≡ false) (drop (from + 1) es) r → FirstFrom es bound (from + 1 + r)
parted-after {es} {bound} {from} {r} sorted h less few (before, after) = record {
  passed = record { within = omega (arith, length-drop (from + 1) es); below = λ k l. under k l (dec_le k from) };
  from = λ k l m.
      let at : from + 1 + (k - (from + 1)) ≡ k = omega arith in
      let there = ltb-false _ _ (after (k - (from + 1)) 0 (omega arith) (omega (arith, length-drop (from + 1) es))) in
      omega (arith, there, get_or-drop (from + 1) es (k - (from + 1)) 0, ap (λ (n : ℕ). get_or es n 0) at);
}
  where
    under : (k : ℕ) → k < from + 1 + r → Dec (k ≤ from) → get_or es k 0 < bound
    under k l (yes q) = omega (arith, order-at es sorted k from q h)
    under k l (no n) =
        let at : from + 1 + (k - (from + 1)) ≡ k = omega (arith, n) in
        let there = ltb-true _ _ (before (k - (from + 1)) 0 (omega arith) (omega (arith, n))) in
        omega (arith, there, get_or-drop (from + 1) es (k - (from + 1)) 0, ap (λ (i : ℕ). get_or es i 0) at)

-- where they part is the first place, after one that is below the bound
pub first-parted :
    {es xs : List ℕ} {bound from r : ℕ} → xs ≡ drop (from + 1) es → in_order es ≡ true → from < length es → get_or es from 0 < bound →
    r ≤ length xs → IsPartitionPoint (λ e. ltb e bound ≡ true) (λ e. ltb e bound ≡ false) xs r → FirstFrom es bound (from + 1 + r)
first-parted {bound = bound} {r = r} is sorted h less few point =
    parted-after sorted h less (omega (arith, few, ap length is))
    (subst (λ (l : List ℕ). IsPartitionPoint (λ e. ltb e bound ≡ true) (λ e. ltb e bound ≡ false) l r) is point)

-- ---- a run

-- a number put at the end of what is written
pub put_one : (at x : ℕ) (buffer : List ℕ) → at < length buffer → (set buffer at x, at + 1) ≡ put_after at (x ∷ []) buffer
put_one at x buffer l =
    ap (λ (b : List ℕ). (b, at + 1))
    (set_split buffer at x l
    ∙ ap (λ (n : ℕ). take at buffer ++ (x ∷ drop n buffer)) (sym (add-one at))
    ∙ sym (append_snoc (take at buffer) x (drop (at + 1) buffer)))

module _ (key : ℕ) where
  abbrev is_of : ℕ → Bool
  is_of e = eqb (e / 512) key

  with_append : (xs ys : List ℕ) → rules_with key (xs ++ ys) ≡ rules_with key xs ++ rules_with key ys
  unfolding rules_with
  with_append xs ys = ap (map (λ e. e % 512)) (keep_if-append is_of xs ys) ∙ map-append (λ e. e % 512) (keep_if is_of xs) (keep_if is_of ys)

  with-one : (e : ℕ) → e / 512 ≡ key → rules_with key (e ∷ []) ≡ e % 512 ∷ []
  unfolding rules_with keep_if
  with-one e is = rw (eq-eqb (e / 512) key is)

  -- entries of other keys give nothing
  with_none : (xs : List ℕ) → ((k : ℕ) → k < length xs → get_or xs k 0 / 512 ≡ key → ⊥) → rules_with key xs ≡ []
  unfolding rules_with keep_if
  with_none [] h = refl
  with_none (x ∷ xs) h =
      rw (ne_eqb (x / 512) key (h 0 (omega arith))) (with_none xs (λ k l. h (suc k) (omega arith)))

  module _ (es : List ℕ) where
    with-more : (at : ℕ) → at < length es → get_or es at 0 / 512 ≡ key → rules_with key (take (at + 1) es) ≡ rules_with key (take at es) ++ (get_or es at 0 % 512 ∷ [])
    with-more at l is =
        rw (add-one, take-suc es at 0 l)
        (with_append (take at es) (get_or es at 0 ∷ []) ∙ ap (λ (r : List ℕ). rules_with key (take at es) ++ r) (with-one (get_or es at 0) is))

    with_part : (at : ℕ) → length (rules_with key (take at es)) ≤ length (rules_with key es)
    with_part at =
        omega (arith, length-append (rules_with key (take at es)) (rules_with key (drop at es)), ap length (sym (with_append (take at es) (drop at es)) ∙ ap (rules_with key) (take-append-drop at es)))

  -- the entries before `at` are done, of which none is of a greater key, and from there on none is of a lesser one
  pub record Running (es buffer : List ℕ) (from at found : ℕ) (now : List ℕ) : Type 0 where
    pub within : at ≤ length es
    pub earlier : (k : ℕ) → k < at → get_or es k 0 < (key + 1) * 512
    pub later : (k : ℕ) → at ≤ k → k < length es → key * 512 ≤ get_or es k 0
    pub long : length now ≡ length buffer
    pub written : (now, found) ≡ put_after from (rules_with key (take at es)) buffer

  module _ (es buffer : List ℕ) (from : ℕ) where
    pub running_none : {at : ℕ} → FirstFrom es (key * 512) at → Running es buffer from at from buffer
    running_none {at} first = record {
      within = first.passed.within;
      earlier = λ k l. omega (arith, first.passed.below k l);
      later = first.from;
      long = refl;
      written =
          put-none from buffer
          ∙ ap (λ (r : List ℕ). put_after from r buffer) (sym (with_none (take at es) (λ k l is. omega (arith, first.passed.below k (omega (arith, length-take at es)), get_or-take at es k 0 (omega (arith, length-take at es))))));
    }

    module _ {begin at found : ℕ} {now : List ℕ} (asked : RunAsked es buffer key begin from) (before : Running es buffer from at found now) where
      found-is : found ≡ from + length (rules_with key (take at es))
      found-is = put-end from (rules_with key (take at es)) buffer before.written

      running-passed : Passed es ((key + 1) * 512) at
      running-passed = record { within = before.within; below = before.earlier }

      -- an entry of the key is written, for which there is room
      module _ {entry : ℕ} (more : at < length es) (read : entry ≡ get_or es at 0) where
        pub running-room : entry / 512 ≡ key → found < length now
        running-room is =
            omega (arith, found-is, before.long, asked.room, with_part es (at + 1), ap length (with-more es at more (ap (λ (e : ℕ). e / 512) (sym read) ∙ is)), length-append (rules_with key (take at es)) (get_or es at 0 % 512 ∷ []))

        pub running-turn : entry / 512 ≡ key → Running es buffer from (at + 1) (found + 1) (set now found (entry % 512))
        running-turn is = record {
          within = omega arith;
          earlier = λ k l. omega (arith, order-at es asked.ordered k at (omega arith) more);
          later = λ k l. before.later k (omega arith);
          long = simp length-set before.long;
          written =
              put-more from (rules_with key (take at es)) (entry % 512 ∷ []) buffer (omega (arith, asked.room, with_part es at)) before.written (put_one found (entry % 512) now (running-room is))
              ∙ ap (λ (r : List ℕ). put_after from r buffer)
              (sym (with-more es at more (ap (λ (e : ℕ). e / 512) (sym read) ∙ is) ∙ ap (λ (e : ℕ). rules_with key (take at es) ++ (e % 512 ∷ [])) (sym read)));
        }

        -- one of another key ends the run
        pub running-past : (entry / 512 ≡ key → ⊥) → RunLeft es buffer key from at found now
        running-past other = record {
          written =
              before.written
              ∙ ap (λ (r : List ℕ). put_after from r buffer)
              (sym (append-nil (rules_with key (take at es)))
              ∙ ap (λ (r : List ℕ). rules_with key (take at es) ++ r) (sym (with_none (drop at es) none-later))
              ∙ sym (with_append (take at es) (drop at es))
              ∙ ap (rules_with key) (take-append-drop at es));
          passed = running-passed;
        }
          where
            none-later : (k : ℕ) → k < length (drop at es) → get_or (drop at es) k 0 / 512 ≡ key → ⊥
            none-later k l is =
                let here : at + k < length es = omega (arith, length-drop at es) in
                let high : entry / 512 < key → ⊥ = λ less. omega (arith, before.later at (omega arith) more) in
                other (omega (arith, before.later at (omega arith) more, order-at es asked.ordered at (at + k) (omega arith) here, get_or-drop at es k 0))

      pub running-all : length es ≤ at → RunLeft es buffer key from at found now
      running-all end = record {
        written = before.written ∙ ap (λ (l : List ℕ). put_after from (rules_with key l) buffer) (take_all at es end);
        passed = running-passed;
      }

      -- and the end is where it ended
      pub running-end : length es ≤ at → RunLeft es buffer key from (length es) found now
      running-end end =
          let whole : at ≡ length es = omega (arith, before.within) in
          subst (λ (n : ℕ). RunLeft es buffer key from n found now) whole (running-all end)
