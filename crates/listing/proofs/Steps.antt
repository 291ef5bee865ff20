-- One more line, by the counts so far: when it is read, and what there is with it.
use mathlib.Core.Path.{◌≡◌, refl, sym, ap, ap₂, ◌∙◌, subst}
use mathlib.Core.Logic.{◌⊎◌, inl, inr}
use mathlib.Core.Bool.{Bool, true, false, ◌&&◌}
use mathlib.Core.List.{List, [], ◌∷◌, ◌++◌}
use Rattle.std.specs.Prelude.{Option, None, Some, MatchOption}
use Rattle.std.specs.Option.{is_some, IsSome}
use Prim.Native.Nat.{ℕ, suc, ◌+◌, ◌≤◌, ◌<◌}
use native.Mathlib.Omega.{arith}
use lib.Dec.{leb, ltb}
use lib.ListN.{length, length-append}
use borrow.Author.Tests.{leb-true, ltb-true, le-leb, lt-ltb}
use Rattle.plain.specs.Choice.{select}
use Rattle.plain.specs.Lists.{count, every}
use Rattle.plain.proofs.Options.{none-ne-some, some-ne-none, some_inj}
use Rattle.plain.proofs.Tests.{tested, not-both, and_left, and_right, and_both}
use Rattle.defs.specs.Table.{is_parameter}
use Rattle.defs.specs.declared.ruledef.Part.{Part}
use Rattle.packing.specs.Data.{Rule, Data, is_part_of, rule_fits, ascend, parts_of, data_fits, data_from, rule}
use Rattle.packing.proofs.Limits.{fits_all, all-fits, parts_of-append}
use Rattle.packing.proofs.Tables.{last_of-more}
use Rattle.printing.specs.Listing.{lines_of, Bytes, top_word, nested_word, ruleset_word, rule_word}
use Rattle.printing.specs.Reading.{Read, same, pieces, number_of, parts_in, both, top_in, rule_in, checked, with_top, with_rule, add_top, add_rule, read_fields, read_line, good, bad, read_from, nothing, read}
use Rattle.printing.specs.FirstBad.{lacks}
use Rattle.printing.proofs.Pieces.{piece-last, pieces-some}
use Rattle.printing.proofs.Accepts.{checked-is, read_next, line-added, lines-many}
use Rattle.printing.proofs.Refuses.{stops}
use Rattle.fields.specs.Said.{Cut, low_number}
use Rattle.fields.proofs.Scans.{cut-pieces}
use Rattle.listing.specs.declared.judging.Sizes.{Sizes}
use Rattle.listing.specs.Judging.{parts_said, Counted, LineSays}
use Rattle.listing.proofs.Counts.{Said, said-parts, parts-said, rule-more, More, more-rule}

-- nothing, or something
none_or : {A : Type 0} (o : Option A) → ((a : A) → o ≡ Some a → ⊥) → o ≡ None
none_or None h = refl
none_or (Some a) h = absurd (h a refl)

checked-some : (d : Data) → data_fits d ≡ true → checked d ≡ Some d
checked-some d h = ap (λ (b : Bool). select b (Some d) None) h

module _ (d : Data) (s r p l : ℕ) (c : Counted d s r p l) where
  pub counted-small : (s ≤ 32) × (r ≤ 512) × (p ≤ 8192)
  unfolding parts_of
  counted-small = go c.reached
    where
      go : (d ≡ nothing) ⊎ (data_fits d ≡ true) → (s ≤ 32) × (r ≤ 512) × (p ≤ 8192)
      go (inl e) = (
        omega (arith, c.sets, ap (λ (x : Data). length x.tops) e),
        omega (arith, c.rules, ap (λ (x : Data). length x.rules) e),
        omega (arith, c.parts, ap (λ (x : Data). parts_of x.rules) e),
      )
      go (inr f) = let z = (fits_all d.tops d.rules f).sizes in (omega (arith, c.sets, z), omega (arith, c.rules, z), omega (arith, c.parts, z))

  -- ---- a ruleset

  pub top-after : (o : Option Bool) → 0 < r → add_top d d.rules o ≡ None
  top-after o h = go d.rules c.rules
    where
      go : (rs : List Rule) → r ≡ length rs → add_top d rs o ≡ None
      go [] e = absurd (omega arith)
      go (x ∷ rs) e = refl

  no-rules : r ≤ 0 → d.rules ≡ []
  no-rules h = go d.rules c.rules
    where
      go : (rs : List Rule) → r ≡ length rs → rs ≡ []
      go [] e = refl
      go (x ∷ rs) e = absurd (omega arith)

  pub top-full : (o : Option Bool) → r ≤ 0 → s ≡ 32 → add_top d d.rules o ≡ None
  top-full o h f = ap (λ (rs : List Rule). add_top d rs o) (no-rules h) ∙ go o
    where
      go : (o : Option Bool) → add_top d [] o ≡ None
      go None = refl
      go (Some top) = none_or (checked (with_top d top)) (λ e k. let q = checked-is (with_top d top) e k in
          let z = (fits_all (d.tops ++ (top ∷ [])) d.rules (ap data_fits q.0 ∙ q.1)).sizes in omega (arith, z, c.sets, length-append d.tops (top ∷ [])))

  pub top-neither : (o : Option Bool) → o ≡ None → add_top d d.rules o ≡ None
  top-neither o e = ap (add_top d d.rules) e ∙ go d.rules
    where
      go : (rs : List Rule) → add_top d rs None ≡ None
      go [] = refl
      go (x ∷ rs) = refl

  pub top-more : (o : Option Bool) (top : Bool) → o ≡ Some top → r ≤ 0 → (s ≡ 32 → ⊥)
      → (e : Data) × (add_top d d.rules o ≡ Some e) × Counted e (s + 1) 0 0 0
  unfolding parts_of ascend every
  top-more o top q h n = (
    data_from (d.tops ++ (top ∷ [])) [],
    ap₂ (add_top d) (no-rules h) q ∙ ap (λ (rs : List Rule). checked (data_from (d.tops ++ (top ∷ [])) rs)) (no-rules h) ∙ checked-some _ fits,
    record { reached = inr fits; sets = omega (arith, c.sets, length-append d.tops (top ∷ [])); rules = refl; parts = refl; last = refl },
  )
    where
      fits : data_fits (data_from (d.tops ++ (top ∷ [])) []) ≡ true
      fits = all-fits (d.tops ++ (top ∷ [])) [] (record { sizes = omega (arith, counted-small.0, c.sets, n, length-append d.tops (top ∷ [])); order = refl; each = refl })

  -- ---- a rule

  module _ (f : Bytes) (fs : List Bytes) where
    -- what a rule has that is added
    pub record Facts (m : ℕ) (ps : List Part) : Type 0 where
      pub below : m < s
      pub order : l ≤ m
      pub more : r < 512
      pub room : p + length ps ≤ 8192
      pub short : length ps ≤ 64
      pub few : count is_parameter ps ≤ 8
      pub each : every (is_part_of s) ps ≡ true

    facts-of : (m : ℕ) (ps : List Part) (e : Data) → checked (with_rule d (rule m ps)) ≡ Some e → Facts m ps
    unfolding rule_fits
    facts-of m ps e h =
        record {
          below = under;
          order = omega (arith, c.last, more.order);
          more = omega (arith, c.rules, more.few);
          room = omega (arith, c.parts, more.parts);
          short = leb-true (length ps) 64 (and_left (leb (length ps) 64) _ (and_right (ltb m s) _ fits));
          few = leb-true (count is_parameter ps) 8 (and_left (leb (count is_parameter ps) 8) _ rest);
          each = and_right (leb (count is_parameter ps) 8) _ rest;
        }
      where
        q : (with_rule d (rule m ps) ≡ e) × (data_fits e ≡ true)
        q = checked-is (with_rule d (rule m ps)) e h

        more : More d.tops d.rules (rule m ps)
        more = more-rule d.tops d.rules (rule m ps) (ap data_fits q.0 ∙ q.1)

        fits : rule_fits s (rule m ps) ≡ true
        fits = ap (λ (x : ℕ). rule_fits x (rule m ps)) c.sets ∙ more.fits

        under : m < s
        under = ltb-true m s (and_left (ltb m s) _ fits)

        rest : (leb (count is_parameter ps) 8 && every (is_part_of s) ps) ≡ true
        rest = and_right (leb (length ps) 64) _ (and_right (ltb m s) _ fits)

    rule-none : ((m : ℕ) (ps : List Part) → number_of f ≡ Some m → parts_in fs ≡ Some ps → Facts m ps → ⊥) → add_rule d (rule_in (f ∷ fs)) ≡ None
    rule-none h = go (number_of f) (parts_in fs) refl refl
      where
        go : (o : Option ℕ) (os : Option (List Part)) → number_of f ≡ o → parts_in fs ≡ os → add_rule d (both rule o os) ≡ None
        go None os a b = refl
        go (Some m) None a b = refl
        go (Some m) (Some ps) a b = none_or (checked (with_rule d (rule m ps))) (λ e z. h m ps a b (facts-of m ps e z))

    -- a number below so many rulesets is told as it is
    low-is : (m : ℕ) → m < s → low_number (Some m) ≡ Some m
    low-is m h = ap (λ (b : Bool). select b (Some m) None) (lt-ltb m 100 (omega (arith, h, counted-small.0)))

    pub rule-unnumbered : None ≡ low_number (number_of f) → add_rule d (rule_in (f ∷ fs)) ≡ None
    rule-unnumbered e = rule-none (λ m ps a b t. none-ne-some _ (e ∙ ap low_number a ∙ low-is m t.below))

    pub rule-unsaid : None ≡ parts_said s (parts_in fs) → add_rule d (rule_in (f ∷ fs)) ≡ None
    rule-unsaid e = rule-none (λ m ps a b t. none-ne-some _ (e ∙ ap (parts_said s) b ∙ parts-said s ps t.short t.few t.each))

    module _ (n : ℕ) (low : Some n ≡ low_number (number_of f)) where
      number-is : (m : ℕ) → number_of f ≡ Some m → m < s → n ≡ m
      number-is m a h = some_inj (low ∙ ap low_number a ∙ low-is m h)

      -- a ruleset that is none or went before, or a rule too many
      pub rule-out : (n < s → l ≤ n → r < 512 → ⊥) → add_rule d (rule_in (f ∷ fs)) ≡ None
      rule-out h = rule-none (λ m ps a b t. let is = number-is m a t.below in h (omega (arith, is, t.below)) (omega (arith, is, t.order)) t.more)

      module _ (k : ℕ) (many : Some k ≡ parts_said s (parts_in fs)) where
        pub rule-roomless : 8192 < p + k → add_rule d (rule_in (f ∷ fs)) ≡ None
        rule-roomless h = rule-none (λ m ps a b t. let z = some_inj (many ∙ ap (parts_said s) b ∙ parts-said s ps t.short t.few t.each) in omega (arith, z, t.room))

        pub rule-some : n < s → l ≤ n → r < 512 → p + k ≤ 8192 → (e : Data) × (add_rule d (rule_in (f ∷ fs)) ≡ Some e) × Counted e s (r + 1) (p + k) n
        unfolding rule_fits parts_of
        rule-some below order more room = go (number_of f) low c.reached
          where
            z : Said s k (parts_in fs)
            z = said-parts s k (parts_in fs) many

            go : (o : Option ℕ) → Some n ≡ low_number o → (d ≡ nothing) ⊎ (data_fits d ≡ true)
                → (e : Data) × (add_rule d (both rule o (parts_in fs)) ≡ Some e) × Counted e s (r + 1) (p + k) n
            go None a w = absurd (some-ne-none _ a)
            go (Some m) a (inl w) = absurd (omega (arith, below, c.sets, ap (λ (x : Data). length x.tops) w))
            go (Some m) a (inr w) = (
              with_rule d (rule m z.all),
              ap (λ (os : Option (List Part)). add_rule d (both rule (Some m) os)) z.is ∙ checked-some _ fits,
              record {
                reached = inr fits;
                sets = c.sets;
                rules = omega (arith, c.rules, length-append d.rules (rule m z.all ∷ []));
                parts = omega (arith, c.parts, z.size, parts_of-append d.rules (rule m z.all ∷ []));
                last = number ∙ sym (last_of-more 0 d.rules (rule m z.all));
              },
            )
              where
                number : n ≡ m
                number = by (ltb m 100) a
                  where
                    by : (b : Bool) → Some n ≡ select b (Some m) None → n ≡ m
                    by true j = some_inj j
                    by false j = absurd (some-ne-none _ j)

                good : rule_fits s (rule m z.all) ≡ true
                good = and_both _ _ (lt-ltb m s (omega (arith, number, below)))
                    (and_both _ _ (le-leb (length z.all) 64 z.short) (and_both _ _ (le-leb (count is_parameter z.all) 8 z.few) z.each))

                fits : data_fits (with_rule d (rule m z.all)) ≡ true
                fits = rule-more d.tops d.rules (rule m z.all) w (omega (arith, c.rules, more)) (omega (arith, c.parts, z.size, room)) (omega (arith, c.last, number, order))
                    (ap (λ (x : ℕ). rule_fits x (rule m z.all)) (sym c.sets) ∙ good)

-- ---- a ruleset's field

pub top-field : (x : Bytes) → same x top_word ≡ true → top_in (x ∷ []) ≡ Some true
top-field x h = ap (λ (b : Bool). select b (Some true) (select (same x nested_word) (Some false) None)) h

pub nested-field : (x : Bytes) → same x top_word ≡ false → same x nested_word ≡ true → top_in (x ∷ []) ≡ Some false
nested-field x p q = ap₂ (λ (b e : Bool). select b (Some true) (select e (Some false) None)) p q

pub no_field : (x : Bytes) → same x top_word ≡ false → same x nested_word ≡ false → top_in (x ∷ []) ≡ None
no_field x p q = ap₂ (λ (b e : Bool). select b (Some true) (select e (Some false) None)) p q

-- ---- a line's fields

module _ (d : Data) (line w : Bytes) (fs : List Bytes) (is : pieces 9 line ≡ w ∷ fs) where
  cut-is : read_line d line ≡ read_fields d (w ∷ fs)
  unfolding read_line
  cut-is = ap (read_fields d) is

  pub line-top : same w ruleset_word ≡ true → add_top d d.rules (top_in fs) ≡ read_line d line
  line-top h = sym (cut-is ∙ ap (λ (b : Bool). select b (add_top d d.rules (top_in fs)) (select (same w rule_word) (add_rule d (rule_in fs)) None)) h)

  pub line-rule : same w ruleset_word ≡ false → same w rule_word ≡ true → add_rule d (rule_in fs) ≡ read_line d line
  line-rule u h = sym (cut-is ∙ ap₂ (λ (b e : Bool). select b (add_top d d.rules (top_in fs)) (select e (add_rule d (rule_in fs)) None)) u h)

  pub line_other : same w ruleset_word ≡ false → same w rule_word ≡ false → read_line d line ≡ None
  line_other u h = cut-is ∙ ap₂ (λ (b e : Bool). select b (add_top d d.rules (top_in fs)) (select e (add_rule d (rule_in fs)) None)) u h

-- no field is left after one that is not there
pub none-left : {T A : Type 0} (P : T → Type 0) (r : Option T) → is_some r ≡ false → MatchOption r A P → A
none-left P None e h = h
none-left P (Some x) e h = absurd (not-both refl e)

-- what is there, and what it is
pub is_there : {T A : Type 0} (P : T → Type 0) (r : Option T) → (A → ⊥) → MatchOption r A P → IsSome r
is_there P None n h = absurd (n h)
is_there P (Some x) n h = refl

pub what_is : {T : Type 0} (A : Type 0) (P : T → Type 0) (r : Option T) (x : T) → r ≡ Some x → MatchOption r A P → P x
what_is {T} A P r x e h = subst (λ (o : Option T). MatchOption o A P) e h

pub lone_field : {fs gs : List Bytes} {x : Bytes} → fs ≡ x ∷ gs → gs ≡ [] → fs ≡ x ∷ []
lone_field {fs} {gs} {x} e h = e ∙ ap (λ (l : List Bytes). x ∷ l) h

-- what is said of a rule's fields
pub rule-as : (d : Data) {fs : List Bytes} {f : Bytes} {gs : List Bytes} → fs ≡ f ∷ gs → add_rule d (rule_in fs) ≡ add_rule d (rule_in (f ∷ gs))
rule-as d e = ap (λ (l : List Bytes). add_rule d (rule_in l)) e

pub says-as : {o u : Option Data} (r : Option Sizes) → o ≡ u → LineSays o r → LineSays u r
says-as {o} {u} r e h = subst (λ (x : Option Data). LineSays x r) e h

-- ---- the whole text, from a line's first byte on

-- the bytes that are left are read as the whole text is; each line before is a ruleset or a rule
pub record From (t rest : Bytes) (s r p l : ℕ) : Type 0 where
  pub so_far : Data
  pub counted : Counted so_far s r p l
  pub same_read : read_from (s + r) so_far (pieces 10 rest) ≡ read t

pub from_start : (t : Bytes) → From t t 0 0 0 0
unfolding read parts_of
from_start t = record { so_far = nothing; counted = record { reached = inl refl; sets = refl; rules = refl; parts = refl; last = refl }; same_read = refl }

-- one line more, one ruleset or rule more
lines_more : (d e : Data) (line : Bytes) → read_line d line ≡ Some e → length e.tops + length e.rules ≡ suc (length d.tops + length d.rules)
lines_more d e line h =
    omega (arith, ap length (line-added d e line h).lines, length-append (lines_of d) (line ∷ []), lines-many d, lines-many e)

module _ (t rest : Bytes) (s r p l : ℕ) (h : From t rest s r p l) where
  pub few-sizes : (s ≤ 32) × (r ≤ 512) × (p ≤ 8192)
  few-sizes = counted-small h.so_far s r p l h.counted

  few-lines : s + r ≤ 544
  few-lines = omega (arith, few-sizes)

  -- no line end is left: the end is wrong
  pub from-unended : lacks 10 rest ≡ true → 0 < length rest → (read t ≡ bad (s + r)) × (s + r ≤ 544)
  unfolding read_from same
  from-unended lack low = (
    sym h.same_read
        ∙ ap (read_from (s + r) h.so_far) (piece-last 10 rest lack)
        ∙ ap (λ (b : Bool). select (b && data_fits h.so_far) (good h.so_far) (bad (s + r))) (some_byte rest low),
    few-lines,
  )
    where
      some_byte : (x : Bytes) → 0 < length x → same x [] ≡ false
      some_byte [] k = absurd (omega arith)
      some_byte (b ∷ x) k = refl

  module _ (line after : Bytes) (c : Cut rest 10 line after) where
    pub from-bad : read_line h.so_far line ≡ None → (read t ≡ bad (s + r)) × (s + r ≤ 544)
    from-bad q = (
      sym h.same_read ∙ ap (read_from (s + r) h.so_far) (cut-pieces 10 rest line after c)
          ∙ stops (s + r) h.so_far line (pieces 10 after) (pieces-some 10 after) q,
      few-lines,
    )

    pub from_next : (s' r' p' l' : ℕ) → (e : Data) × (read_line h.so_far line ≡ Some e) × Counted e s' r' p' l' → From t after s' r' p' l'
    from_next s' r' p' l' z =
        let c₀ = h.counted in
        let d = z.2 in
        let next : s' + r' ≡ suc (s + r) = omega (arith, lines_more h.so_far z.0 line z.1, c₀.sets, c₀.rules, d.sets, d.rules) in
        record {
          so_far = z.0;
          counted = d;
          same_read =
              ap (λ (n : ℕ). read_from n z.0 (pieces 10 after)) next
              ∙ sym (read_next (s + r) h.so_far z.0 line (pieces 10 after) (pieces-some 10 after) z.1)
              ∙ ap (read_from (s + r) h.so_far) (sym (cut-pieces 10 rest line after c)) ∙ h.same_read;
        }

  last-piece : length rest ≡ 0 → read_from (s + r) h.so_far ([] ∷ []) ≡ read t
  unfolding pieces
  last-piece e = go rest e h.same_read
    where
      go : (x : Bytes) → length x ≡ 0 → read_from (s + r) h.so_far (pieces 10 x) ≡ read t → read_from (s + r) h.so_far ([] ∷ []) ≡ read t
      go [] e k = k
      go (b ∷ x) e k = absurd (omega arith)

  pub from-none : length rest ≡ 0 → s ≡ 0 → (read t ≡ bad (s + r)) × (s + r ≤ 544)
  unfolding read_from same
  from-none e z = (sym (last-piece e) ∙ go (tested (data_fits h.so_far)), few-lines)
    where
      go : (data_fits h.so_far ≡ true) ⊎ (data_fits h.so_far ≡ false) → read_from (s + r) h.so_far ([] ∷ []) ≡ bad (s + r)
      go (inl f) = absurd (omega (arith, z, h.counted.sets, (fits_all h.so_far.tops h.so_far.rules f).sizes))
      go (inr f) = ap (λ (b : Bool). select b (good h.so_far) (bad (s + r))) f

  pub from-good : length rest ≡ 0 → (s ≡ 0 → ⊥) → (e : Data) × (read t ≡ good e) × Counted e s r p l
  unfolding read_from same
  from-good e n = (h.so_far, sym (last-piece e) ∙ go h.counted.reached, h.counted)
    where
      go : (h.so_far ≡ nothing) ⊎ (data_fits h.so_far ≡ true) → read_from (s + r) h.so_far ([] ∷ []) ≡ good h.so_far
      go (inl x) = absurd (n (h.counted.sets ∙ ap (λ (y : Data). length y.tops) x))
      go (inr f) = ap (λ (b : Bool). select b (good h.so_far) (bad (s + r))) f

-- a line by the number that is told of it
pub bad-at : {x : Read} {k n : ℕ} → k ≡ n → (x ≡ bad n) × (n ≤ 544) → (x ≡ bad k) × (k ≤ 544)
bad-at {x} {k} {n} e h = (h.0 ∙ ap bad (sym e), omega (arith, e, h.1))

-- an answer on a line, case by case
pub says-bad : (o : Option Data) (r : Option Sizes) → r ≡ None → LineSays o r → o ≡ None
says-bad o r e h = subst (LineSays o) e h

pub says-fits : (o : Option Data) (r : Option Sizes) (z : Sizes) → r ≡ Some z → LineSays o r → (e : Data) × (o ≡ Some e) × Counted e z.sets z.rules z.parts z.last
says-fits o r z e h = subst (LineSays o) e h
