-- The parts of a rule's fields counted, and one more rule within the limits by the counts so far.
use mathlib.Core.Path.{◌≡◌, refl, sym, ap, ap₂, ◌∙◌}
use mathlib.Core.Logic.{◌⊎◌, inl, inr}
use mathlib.Core.Bool.{Bool, true, false, ◌&&◌}
use mathlib.Core.List.{List, [], ◌∷◌, ◌++◌}
use Rattle.std.specs.Prelude.{Option, None, Some}
use Prim.Native.Nat.{ℕ, suc, ◌+◌, ◌≤◌, ◌<◌}
use native.Mathlib.Decide.{dec_le}
use native.Mathlib.Omega.{arith}
use lib.Dec.{leb, ltb}
use lib.ListN.{length, length-append}
use borrow.Author.Tests.{leb-true, le-leb, lt-leb, lt-ltb, le-ltb}
use Rattle.plain.specs.Choice.{select}
use Rattle.plain.specs.Lists.{count, every}
use Rattle.plain.proofs.Options.{some-ne-none, some_inj}
use Rattle.plain.proofs.Tests.{tested, and_left, and_right, and_both, and-false-left, and-false-right}
use Rattle.plain.proofs.Every.{every-both}
use Rattle.defs.specs.Table.{is_parameter}
use Rattle.defs.specs.declared.ruledef.Part.{Part}
use Rattle.defs.specs.declared.ruledef.Part.TheVariants.{Exact, Whitespace, Expression, Nested}
use Rattle.packing.specs.Data.{Rule, is_part_of, word_of, rule_fits, ascend, last_of, parts_of, data_fits, data_from}
use Rattle.packing.proofs.Limits.{fits_all, all-fits, parts_of-append}
use Rattle.packing.proofs.Tables.{ascend-more}
use Rattle.printing.specs.Listing.{Bytes}
use Rattle.printing.specs.Reading.{part_in, parts_in, both}
use Rattle.fields.specs.Said.{said_word, word_in}
use Rattle.listing.specs.Judging.{parts_said}

-- ---- the count, turn by turn

-- what is counted with the fields that are left, k parts and p parameters before them
abbrev pub then_count : Option ℕ → (ℕ → Option ℕ) → Option ℕ
then_count None go = None
then_count (Some w) go = go w

unfoldable pub count_from : ℕ → ℕ → ℕ → List Bytes → Option ℕ
count_from s k p [] = select (leb p 8) (Some k) None
count_from s k p (f ∷ fs) =
    then_count (said_word s f) (λ w. select (leb 64 k) None (count_from s (k + 1) (p + select (ltb 256 w) 1 0) fs))

module _ (s k p : ℕ) (f : Bytes) (fs : List Bytes) where
  pub count-no-part : None ≡ said_word s f → None ≡ count_from s k p (f ∷ fs)
  unfolding count_from
  count-no-part is = ap (λ (o : Option ℕ). then_count o (λ w. select (leb 64 k) None (count_from s (k + 1) (p + select (ltb 256 w) 1 0) fs))) is

  module _ (w : ℕ) (is : Some w ≡ said_word s f) where
    next-is : count_from s k p (f ∷ fs) ≡ select (leb 64 k) None (count_from s (k + 1) (p + select (ltb 256 w) 1 0) fs)
    unfolding count_from
    next-is = sym (ap (λ (o : Option ℕ). then_count o (λ v. select (leb 64 k) None (count_from s (k + 1) (p + select (ltb 256 v) 1 0) fs))) is)

    pub count-many : 64 ≤ k → None ≡ count_from s k p (f ∷ fs)
    count-many l = sym (next-is ∙ ap (λ (b : Bool). select b None (count_from s (k + 1) (p + select (ltb 256 w) 1 0) fs)) (le-leb 64 k l))

    few-is : k < 64 → count_from s k p (f ∷ fs) ≡ count_from s (k + 1) (p + select (ltb 256 w) 1 0) fs
    few-is l = next-is ∙ ap (λ (b : Bool). select b None (count_from s (k + 1) (p + select (ltb 256 w) 1 0) fs)) (lt-leb 64 k l)

    pub count-parameter : k < 64 → 256 < w → count_from s (k + 1) (p + 1) fs ≡ count_from s k p (f ∷ fs)
    count-parameter l h = sym (few-is l ∙ ap (λ (b : Bool). count_from s (k + 1) (p + select b 1 0) fs) (lt-ltb 256 w h))

    pub count-other : k < 64 → w ≤ 256 → count_from s (k + 1) p fs ≡ count_from s k p (f ∷ fs)
    count-other l h =
        let same : p + 0 ≡ p = omega arith in
        sym (few-is l ∙ ap (λ (b : Bool). count_from s (k + 1) (p + select b 1 0) fs) (le-ltb 256 w h) ∙ ap (λ (q : ℕ). count_from s (k + 1) q fs) same)

pub count-few : (s k p : ℕ) → p ≤ 8 → Some k ≡ count_from s k p []
unfolding count_from
count-few s k p h = sym (ap (λ (b : Bool). select b (Some k) None) (le-leb p 8 h))

pub count-over : (s k p : ℕ) → 8 < p → None ≡ count_from s k p []
unfolding count_from
count-over s k p h = sym (ap (λ (b : Bool). select b (Some k) None) (lt-leb p 8 h))

-- ---- what a count says of the parts

-- the parts that are left within the limits for one rule, k parts and p parameters before them
within : ℕ → ℕ → ℕ → List Part → Bool
within s k p ps = leb (k + length ps) 64 && (leb (p + count is_parameter ps) 8 && every (is_part_of s) ps)

said_from : ℕ → ℕ → ℕ → Option (List Part) → Option ℕ
said_from s k p None = None
said_from s k p (Some ps) = select (within s k p ps) (Some (k + length ps)) None

-- a part within the limits is a parameter exactly if its word is one's
large : (s : ℕ) (q : Part) → is_part_of s q ≡ true → ltb 256 (word_of q) ≡ is_parameter q
large s (Exact b) h =
    let low : b ≤ 126 = leb-true b 126 (and_right (leb 33 b) _ (and_left (leb 33 b && leb b 126) _ h)) in le-ltb 256 b (omega arith)
large s Whitespace h = refl
large s Expression h = refl
large s (Nested r) h = lt-ltb 256 (512 + r) (omega arith)

module _ (s k p : ℕ) (q : Part) (ps : List Part) where
  one_more : count is_parameter (q ∷ ps) ≡ select (is_parameter q) 1 0 + count is_parameter ps
  unfolding count
  one_more = go (is_parameter q)
    where
      go : (b : Bool) → select b (suc (count is_parameter ps)) (count is_parameter ps) ≡ select b 1 0 + count is_parameter ps
      go true = omega arith
      go false = omega arith

  within-bad : is_part_of s q ≡ false → within s k p (q ∷ ps) ≡ false
  unfolding within every
  within-bad h = and-false-right _ _ (and-false-right _ _ (and-false-left (is_part_of s q) _ h))

  within-many : 64 ≤ k → within s k p (q ∷ ps) ≡ false
  unfolding within
  within-many h = and-false-left _ _ (lt-leb (k + length (q ∷ ps)) 64 (omega arith))

  within-more : is_part_of s q ≡ true → within s (k + 1) (p + select (is_parameter q) 1 0) ps ≡ within s k p (q ∷ ps)
  unfolding within every
  within-more h =
      let parts : k + 1 + length ps ≡ k + length (q ∷ ps) = omega arith in
      let parameters : p + select (is_parameter q) 1 0 + count is_parameter ps ≡ p + count is_parameter (q ∷ ps) = omega (arith, one_more) in
      ap₂ (λ (i j : ℕ). leb i 64 && (leb j 8 && every (is_part_of s) ps)) parts parameters
      ∙ ap (λ (b : Bool). leb (k + length (q ∷ ps)) 64 && (leb (p + count is_parameter (q ∷ ps)) 8 && (b && every (is_part_of s) ps))) (sym h)

  said-none : within s k p (q ∷ ps) ≡ false → said_from s k p (Some (q ∷ ps)) ≡ None
  unfolding said_from
  said-none h = ap (λ (b : Bool). select b (Some (k + length (q ∷ ps))) None) h

  said_more : is_part_of s q ≡ true → said_from s (k + 1) (p + select (is_parameter q) 1 0) (Some ps) ≡ said_from s k p (Some (q ∷ ps))
  unfolding said_from
  said_more h =
      let parts : k + 1 + length ps ≡ k + length (q ∷ ps) = omega arith in
      ap₂ (λ (b : Bool) (n : ℕ). select b (Some n) None) (within-more h) parts

counted : (s : ℕ) (fs : List Bytes) (k p : ℕ) → k ≤ 64 → count_from s k p fs ≡ said_from s k p (parts_in fs)
unfolding count_from parts_in said_from within count every
counted s [] k p h =
    let parts : k + 0 ≡ k = omega arith in
    let parameters : p + 0 ≡ p = omega arith in
    sym (ap₂ (λ (b c : Bool). select (b && (c && true)) (Some (k + 0)) None) (le-leb (k + 0) 64 (omega arith)) (ap (λ (q : ℕ). leb q 8) parameters)
    ∙ ap₂ (λ (b : Bool) (n : ℕ). select b (Some n) None) (and-true (leb p 8)) parts)
  where
    and-true : (b : Bool) → (b && true) ≡ b
    and-true true = refl
    and-true false = refl
counted s (f ∷ fs) k p h = go (part_in f) (λ q l. counted s fs (k + 1) q l) (parts_in fs) refl
  where
    go : (o : Option Part) → ((q : ℕ) → k + 1 ≤ 64 → count_from s (k + 1) q fs ≡ said_from s (k + 1) q (parts_in fs)) → (os : Option (List Part)) → parts_in fs ≡ os
        → then_count (word_in s o) (λ w. select (leb 64 k) None (count_from s (k + 1) (p + select (ltb 256 w) 1 0) fs)) ≡ said_from s k p (both ◌∷◌ o os)
    go None ih os e = refl
    go (Some q) ih os e = by (is_part_of s q) refl
      where
        rest : ℕ → Option ℕ
        rest w = select (leb 64 k) None (count_from s (k + 1) (p + select (ltb 256 w) 1 0) fs)

        by : (b : Bool) → is_part_of s q ≡ b → then_count (select b (Some (word_of q)) None) (λ w. select (leb 64 k) None (count_from s (k + 1) (p + select (ltb 256 w) 1 0) fs)) ≡ said_from s k p (both ◌∷◌ (Some q) os)
        by false bad = none os
          where
            none : (os : Option (List Part)) → None ≡ said_from s k p (both ◌∷◌ (Some q) os)
            none None = refl
            none (Some ps) = sym (said-none s k p q ps (within-bad s k p q ps bad))
        by true ok = at (dec_le 64 k)
          where
            at : Dec (64 ≤ k) → select (leb 64 k) None (count_from s (k + 1) (p + select (ltb 256 (word_of q)) 1 0) fs) ≡ said_from s k p (both ◌∷◌ (Some q) os)
            at (yes l) = ap (λ (b : Bool). select b None (count_from s (k + 1) (p + select (ltb 256 (word_of q)) 1 0) fs)) (le-leb 64 k l) ∙ none os
              where
                none : (os : Option (List Part)) → None ≡ said_from s k p (both ◌∷◌ (Some q) os)
                none None = refl
                none (Some ps) = sym (said-none s k p q ps (within-many s k p q ps l))
            at (no l) =
                ap₂ (λ (b c : Bool). select b None (count_from s (k + 1) (p + select c 1 0) fs)) (lt-leb 64 k (omega (arith, l))) (large s q ok)
                ∙ ih (p + select (is_parameter q) 1 0) (omega (arith, l)) ∙ ap (said_from s (k + 1) (p + select (is_parameter q) 1 0)) e ∙ some os
              where
                some : (os : Option (List Part)) → said_from s (k + 1) (p + select (is_parameter q) 1 0) os ≡ said_from s k p (both ◌∷◌ (Some q) os)
                some None = refl
                some (Some ps) = said_more s k p q ps ok

-- from the start, it is how many parts the fields say
pub count-is : (s : ℕ) (fs : List Bytes) → count_from s 0 0 fs ≡ parts_said s (parts_in fs)
unfolding said_from within
count-is s fs = counted s fs 0 0 (omega arith) ∙ go (parts_in fs)
  where
    go : (o : Option (List Part)) → said_from s 0 0 o ≡ parts_said s o
    go None = refl
    go (Some ps) =
        let parts : 0 + length ps ≡ length ps = omega arith in
        let parameters : 0 + count is_parameter ps ≡ count is_parameter ps = omega arith in
        ap₂ (λ (i j : ℕ). select (leb i 64 && (leb j 8 && every (is_part_of s) ps)) (Some i) None) parts parameters

-- what a count says of them
pub record Said (s k : ℕ) (o : Option (List Part)) : Type 0 where
  pub all : List Part
  pub is : o ≡ Some all
  pub size : k ≡ length all
  pub short : length all ≤ 64
  pub few : count is_parameter all ≤ 8
  pub each : every (is_part_of s) all ≡ true

pub said-parts : (s k : ℕ) (o : Option (List Part)) → Some k ≡ parts_said s o → Said s k o
said-parts s k None e = absurd (some-ne-none _ e)
said-parts s k (Some ps) e = go (tested (leb (length ps) 64 && (leb (count is_parameter ps) 8 && every (is_part_of s) ps)))
  where
    go : ((leb (length ps) 64 && (leb (count is_parameter ps) 8 && every (is_part_of s) ps)) ≡ true)
        ⊎ ((leb (length ps) 64 && (leb (count is_parameter ps) 8 && every (is_part_of s) ps)) ≡ false) → Said s k (Some ps)
    go (inr h) = absurd (some-ne-none _ (e ∙ ap (λ (b : Bool). select b (Some (length ps)) None) h))
    go (inl h) =
        let rest = and_right (leb (length ps) 64) _ h in
        record {
          all = ps;
          is = refl;
          size = some_inj (e ∙ ap (λ (b : Bool). select b (Some (length ps)) None) h);
          short = leb-true (length ps) 64 (and_left (leb (length ps) 64) _ h);
          few = leb-true (count is_parameter ps) 8 (and_left (leb (count is_parameter ps) 8) _ rest);
          each = and_right (leb (count is_parameter ps) 8) _ rest;
        }

pub parts-said : (s : ℕ) (ps : List Part) → length ps ≤ 64 → count is_parameter ps ≤ 8 → every (is_part_of s) ps ≡ true → parts_said s (Some ps) ≡ Some (length ps)
parts-said s ps a b c = ap (λ (t : Bool). select t (Some (length ps)) None) (and_both _ _ (le-leb (length ps) 64 a) (and_both _ _ (le-leb (count is_parameter ps) 8 b) c))

-- ---- one more rule within the limits, by the counts so far

pub rule-more : (ts : List Bool) (xs : List Rule) (r : Rule) → data_fits (data_from ts xs) ≡ true
    → length xs < 512 → parts_of xs + length r.parts ≤ 8192 → last_of 0 xs ≤ r.set → rule_fits (length ts) r ≡ true
    → data_fits (data_from ts (xs ++ (r ∷ []))) ≡ true
unfolding parts_of every
rule-more ts xs r h few parts order fits =
    let f = fits_all ts xs h in
    all-fits ts (xs ++ (r ∷ []))
    (record {
      sizes = omega (arith, f.sizes, length-append xs (r ∷ []), parts_of-append xs (r ∷ []));
      order = ascend-more 0 xs r ∙ and_both _ _ f.order (le-leb (last_of 0 xs) r.set order);
      each = every-both (rule_fits (length ts)) xs (r ∷ []) ∙ and_both _ _ f.each (and_both (rule_fits (length ts) r) true fits refl);
    })

pub record More (ts : List Bool) (xs : List Rule) (r : Rule) : Type 0 where
  pub few : length xs < 512
  pub parts : parts_of xs + length r.parts ≤ 8192
  pub order : last_of 0 xs ≤ r.set
  pub fits : rule_fits (length ts) r ≡ true

pub more-rule : (ts : List Bool) (xs : List Rule) (r : Rule) → data_fits (data_from ts (xs ++ (r ∷ []))) ≡ true → More ts xs r
unfolding parts_of every
more-rule ts xs r h =
    let f = fits_all ts (xs ++ (r ∷ [])) h in
    record {
      few = omega (arith, f.sizes, length-append xs (r ∷ []));
      parts = omega (arith, f.sizes, parts_of-append xs (r ∷ []));
      order = leb-true (last_of 0 xs) r.set (and_right (ascend 0 xs) _ (sym (ascend-more 0 xs r) ∙ f.order));
      fits = and_left (rule_fits (length ts) r) true (and_right (every (rule_fits (length ts)) xs) _ (sym (every-both (rule_fits (length ts)) xs (r ∷ [])) ∙ f.each));
    }
