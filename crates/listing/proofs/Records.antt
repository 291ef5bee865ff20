-- Records and parts, line by line. Records are laid from the front, part words behind them all: each run grows by its own, and
-- stores that lie apart may change places, so with head and flags they are the packed words in the end.
use mathlib.Core.Path.{◌≡◌, refl, sym, ap, ap₂, ◌∙◌, subst}
use mathlib.Core.Bool.{Bool, true}
use mathlib.Core.List.{List, [], ◌∷◌, ◌++◌, map, flat_map, append-nil, append_assoc}
use Rattle.std.specs.Prelude.{Option, None, Some, MatchOption}
use Rattle.std.specs.Option.{IsSome}
use Prim.Native.Nat.{ℕ, ◌+◌, ◌*◌, ◌-◌, ◌≤◌, ◌<◌}
use native.Mathlib.Omega.{arith}
use lib.Dec.{leb, ltb}
use lib.ListN.{length, length-append, length-map}
use lib.Seq.{sets, length-sets}
use borrow.Author.Tests.{ltb-true, leb-true}
use Rattle.plain.specs.Lists.{count, every}
use Rattle.plain.proofs.Options.{some_inj}
use Rattle.plain.proofs.Tests.{and_left, and_right}
use Rattle.plain.proofs.Every.{every-last}
use Rattle.plain.proofs.Sets.{sets-append, sets-apart}
use Rattle.defs.specs.Table.{is_parameter}
use Rattle.packing.specs.Data.{Rule, Data, word_of, is_part_of, rule_fits, parts_of}
use Rattle.packing.specs.Packed.{flag_of, words_of, records_of, packed}
use Rattle.packing.proofs.Limits.{parts_of-append}
use Rattle.packing.proofs.Packs.{records-append, records-length, words_append, words-length}
use Rattle.printing.specs.Listing.{Bytes, rule_word, decimal, part_field, rule_line}
use Rattle.printing.specs.Reading.{pieces, number_of}
use Rattle.printing.specs.FirstBad.{lacks}
use Rattle.fields.specs.Laid.{Laid}
use Rattle.fields.specs.Said.{Cut, low_number}
use Rattle.listing.specs.Packing.{listed_in, Listed, LinesAre, Rules, AllSaid, words_said, parts_place, words_for, with_rules}
use Rattle.listing.proofs.Lines.{listed-fits, listed_small, lines-end, line-is, lines-after, rule-pieces, rule-number, all-said, said-words}

-- the first i rules are laid, records and parts, and the lines of the others follow
pub record RulesLeft (rs : List Rule) (s r : ℕ) (table₀ table : List ℕ) (rest : Bytes) (i part : ℕ) : Type 0 where
  pub done : List Rule
  pub left : List Rule
  pub all : done ++ left ≡ rs
  pub many : i ≡ length done
  pub part_at : part ≡ parts_place s r + parts_of done
  pub words : table ≡ with_rules table₀ s r done
  pub lines : LinesAre rest (map rule_line left)

pub rules-first : (rs : List Rule) (s r : ℕ) (table : List ℕ) (rest : Bytes) → LinesAre rest (map rule_line rs) → RulesLeft rs s r table table rest 0 (parts_place s r)
unfolding records_of flat_map parts_of
rules-first rs s r table rest h =
    record { done = []; left = rs; all = refl; many = refl; part_at = omega arith; words = refl; lines = h }

-- the listed data's rules
pub rules-of : (t : Bytes) (s r p : ℕ) → Listed t s r p → Rules s r p (listed_in t).rules
rules-of t s r p h = record {
  few = listed_small t s r p h;
  many = h.rules;
  parts = h.parts;
  each = ap (λ (m : ℕ). every (rule_fits m) (listed_in t).rules) h.tops ∙ (listed-fits t s r p h).each;
}

module _ (rs : List Rule) (s r p : ℕ) (h : Rules s r p rs) (table₀ table : List ℕ) (rest : Bytes) (i part : ℕ) (l : RulesLeft rs s r table₀ table rest i part) where
  pub rules-long : length table ≡ length table₀
  rules-long =
      ap length l.words ∙ length-sets (sets table₀ (3 + s) (records_of 0 l.done)) (parts_place s r) (flat_map words_of l.done)
      ∙ length-sets table₀ (3 + s) (records_of 0 l.done)

  many : length l.done + length l.left ≡ r
  many = omega (arith, h.many, ap length l.all, length-append l.done l.left)

  pub rules-over : r ≤ i → table ≡ with_rules table₀ s r rs
  rules-over over = go l.left refl
    where
      go : (left : List Rule) → left ≡ l.left → table ≡ with_rules table₀ s r rs
      go [] e = l.words ∙ ap (with_rules table₀ s r) (sym (append-nil l.done) ∙ ap (λ (xs : List Rule). l.done ++ xs) e ∙ l.all)
      go (x ∷ xs) e = absurd (omega (arith, over, l.many, many, ap length e))

  -- the next rule
  pub record NextRule : Type 0 where
    pub it : Rule
    pub others : List Rule
    pub is : l.left ≡ it ∷ others

  pub next-rule : i < r → NextRule
  next-rule more = go l.left refl
    where
      go : (left : List Rule) → left ≡ l.left → NextRule
      go [] e = absurd (omega (arith, more, l.many, many, ap length e))
      go (x ∷ xs) e = record { it = x; others = xs; is = sym e }

  module _ (more : i < r) where
    pub n : NextRule
    n = next-rule more

    parts-before : parts_of l.done + (length n.it.parts + parts_of n.others) ≡ p
    unfolding parts_of
    parts-before =
        omega (arith, h.parts, ap parts_of l.all, parts_of-append l.done l.left, ap parts_of n.is)

    lines-are : LinesAre rest (rule_line n.it ∷ map rule_line n.others)
    lines-are = subst (λ (xs : List Rule). LinesAre rest (map rule_line xs)) n.is l.lines

    fits : rule_fits s n.it ≡ true
    unfolding every
    fits =
        and_left (rule_fits s n.it) _
        (every-last (rule_fits s) l.done (n.it ∷ n.others)
        (ap (every (rule_fits s)) (ap (λ (xs : List Rule). l.done ++ xs) (sym n.is) ∙ l.all) ∙ h.each))

    low : n.it.set < 32
    unfolding rule_fits
    low = omega (arith, ltb-true n.it.set s (and_left (ltb n.it.set s) _ fits), h.few)

    short : length n.it.parts ≤ 64
    unfolding rule_fits
    short = leb-true (length n.it.parts) 64 (and_left (leb (length n.it.parts) 64) _ (and_right (ltb n.it.set s) _ fits))

    each : every (is_part_of s) n.it.parts ≡ true
    unfolding rule_fits
    each =
        and_right (leb (count is_parameter n.it.parts) 8) _
        (and_right (leb (length n.it.parts) 64) _ (and_right (ltb n.it.set s) _ fits))

    pub rule-ended : lacks 10 rest ≡ true → ⊥
    rule-ended lack = lines-end rest _ _ lines-are lack

    module _ (line after : Bytes) (c : Cut rest 10 line after) where
      line-pieces : pieces 9 line ≡ rule_word ∷ decimal n.it.set ∷ map part_field n.it.parts
      line-pieces = ap (pieces 9) (line-is rest line after _ _ lines-are c) ∙ rule-pieces s n.it each

      -- the fields of the line that are left after its word
      pub second-is : {T : Type 0} (v : T → Bytes) (o : Option T) (fs₀ fs₁ : List Bytes) → fs₀ ≡ pieces 9 line
          → MatchOption o ((fs₀ ≡ []) × (fs₁ ≡ [])) (λ x. fs₀ ≡ v x ∷ fs₁) → fs₁ ≡ decimal n.it.set ∷ map part_field n.it.parts
      second-is v None fs₀ fs₁ e f = absurd (omega (arith, ap length (sym f.0 ∙ e ∙ line-pieces)))
      second-is v (Some x) fs₀ fs₁ e f = let z : v x ∷ fs₁ ≡ rule_word ∷ decimal n.it.set ∷ map part_field n.it.parts = sym f ∙ e ∙ line-pieces in cc

      pub second-there : (fs₁ fs₂ : List Bytes) → fs₁ ≡ decimal n.it.set ∷ map part_field n.it.parts → (fs₁ ≡ []) × (fs₂ ≡ []) → ⊥
      second-there fs₁ fs₂ e f = omega (arith, ap length (sym f.0 ∙ e))

      module _ (fs₁ fs₂ : List Bytes) (x : Bytes) (second : fs₁ ≡ decimal n.it.set ∷ map part_field n.it.parts) (taken : fs₁ ≡ x ∷ fs₂) where
        both-are : x ∷ fs₂ ≡ decimal n.it.set ∷ map part_field n.it.parts
        both-are = sym taken ∙ second

        field-is : x ≡ decimal n.it.set
        field-is = let e = both-are in cc

        fields : fs₂ ≡ map part_field n.it.parts
        fields = let e = both-are in cc

        numbered : low_number (number_of x) ≡ Some n.it.set
        numbered = ap (λ (y : Bytes). low_number (number_of y)) field-is ∙ rule-number n.it.set (omega (arith, low))

        pub rule-numbered : (o : Option ℕ) → o ≡ low_number (number_of x) → IsSome o
        rule-numbered o e = subst IsSome (sym (e ∙ numbered)) refl

        pub parts-said : AllSaid s fs₂
        parts-said = subst (AllSaid s) (sym fields) (all-said s n.it.parts each)

        pub parts-room : words_for s r p ≤ length table₀ → part + length fs₂ ≤ length table
        parts-room room =
            omega (arith, room, l.part_at, rules-long, parts-before, ap length fields, length-map n.it.parts part_field)

        said : words_said s fs₂ ≡ words_of n.it
        said = ap (words_said s) fields ∙ said-words s n.it.parts each

        -- after the part words
        module _ (next : ℕ) (after' : List ℕ) (laid : Laid table part (words_said s fs₂) after' next) where
          next-is : next ≡ part + length n.it.parts
          next-is = omega (arith, laid.to, ap length said, length-map n.it.parts word_of)

          pub parts-forward : (parts_place s r ≤ part) × (part ≤ next)
          parts-forward = (omega (arith, l.part_at), omega (arith, next-is))

          after-long : length after' ≡ length table₀
          after-long = ap length laid.left ∙ length-sets table part (words_said s fs₂) ∙ rules-long

          module _ (m : ℕ) (number : Some m ≡ low_number (number_of x)) where
            set_is : m ≡ n.it.set
            set_is = some_inj (number ∙ numbered)

            pub row_room : words_for s r p ≤ length table₀ → (3 + s + 3 * i + 3 ≤ length after') × (m < 65536) × (part - parts_place s r < 65536) × (next - part < 65536)
            row_room room = (
              omega (arith, room, more, after-long),
              omega (arith, set_is, low),
              omega (arith, l.part_at, parts-before, h.few),
              omega (arith, next-is, short),
            )

            pub rules-next : RulesLeft rs s r table₀ (sets after' (3 + s + 3 * i) (m ∷ (part - parts_place s r) ∷ (next - part) ∷ [])) after (i + 1) next
            unfolding parts_of records_of flat_map
            rules-next =
                record {
                  done = l.done ++ (n.it ∷ []);
                  left = n.others;
                  all = append_assoc l.done (n.it ∷ []) n.others ∙ ap (λ (xs : List Rule). l.done ++ xs) (sym n.is) ∙ l.all;
                  many = omega (arith, l.many, length-append l.done (n.it ∷ []));
                  part_at = omega (arith, l.part_at, next-is, one_more, parts_of-append l.done (n.it ∷ []));
                  words = laid-words;
                  lines = lines-after rest line after _ _ lines-are c;
                }
              where
                one_more : parts_of (n.it ∷ []) ≡ length n.it.parts
                one_more = omega arith

                place : ℕ
                place = 3 + s + 3 * i

                front : List ℕ
                front = sets table₀ (3 + s) (records_of 0 l.done)

                triple : List ℕ
                triple = m ∷ (part - parts_place s r) ∷ (next - part) ∷ []

                -- the part words grow by the rule's own
                grown : after' ≡ sets front (parts_place s r) (flat_map words_of l.done ++ words_of n.it)
                grown =
                    laid.left
                    ∙ ap (sets table part) said
                    ∙ ap₂ (λ (b : List ℕ) (i : ℕ). sets b i (words_of n.it)) l.words (l.part_at ∙ ap (λ (i : ℕ). parts_place s r + i) (sym (words-length l.done)))
                    ∙ sym (sets-append front (parts_place s r) (flat_map words_of l.done) (words_of n.it))

                -- its record goes before them, at the end of the records
                recorded : sets front place triple ≡ sets table₀ (3 + s) (records_of 0 (l.done ++ (n.it ∷ [])))
                recorded = ap₂ (sets front) here this ∙ sym (sets-append table₀ (3 + s) (records_of 0 l.done) (records_of (0 + parts_of l.done) (n.it ∷ []))) ∙ ap (sets table₀ (3 + s)) (sym (records-append 0 l.done (n.it ∷ [])))
                  where
                    here : place ≡ 3 + s + length (records_of 0 l.done)
                    here = omega (arith, l.many, records-length 0 l.done)

                    begins : part - parts_place s r ≡ 0 + parts_of l.done
                    begins = omega (arith, l.part_at)

                    third : next - part ≡ length n.it.parts
                    third = omega (arith, next-is)

                    this : triple ≡ records_of (0 + parts_of l.done) (n.it ∷ [])
                    this = ap₂ (λ (i j : ℕ). i ∷ j ∷ (next - part) ∷ []) set_is begins ∙ ap (λ (j : ℕ). n.it.set ∷ (0 + parts_of l.done) ∷ j ∷ []) third

                together : flat_map words_of l.done ++ words_of n.it ≡ flat_map words_of (l.done ++ (n.it ∷ []))
                together =
                    ap (λ (w : List ℕ). flat_map words_of l.done ++ w) (sym (append-nil (words_of n.it))) ∙ sym (words_append l.done (n.it ∷ []))

                laid-words : sets after' place triple ≡ with_rules table₀ s r (l.done ++ (n.it ∷ []))
                laid-words =
                    ap (λ (b : List ℕ). sets b place triple) grown
                    ∙ sym (sets-apart front place triple (parts_place s r) (flat_map words_of l.done ++ words_of n.it) (omega (arith, more)))
                    ∙ ap₂ (λ (b w : List ℕ). sets b (parts_place s r) w) recorded together

-- ---- all of it

-- what is laid takes no room away
pub head-room : (s r p n : ℕ) (table head : List ℕ) → head ≡ sets table 0 (s ∷ r ∷ p ∷ []) → n ≤ length table → n ≤ length head
head-room s r p n table head e h = omega (arith, h, ap length e, length-sets table 0 (s ∷ r ∷ p ∷ []))

pub flags-room : (us : List Bool) (n : ℕ) (head flags : List ℕ) → flags ≡ sets head 3 (map flag_of us) → n ≤ length head → n ≤ length flags
flags-room us n head flags e h = omega (arith, h, ap length e, length-sets head 3 (map flag_of us))

-- head, flags, records and parts, one after another, are the packed words
pub packed-laid : (t : Bytes) (s r p : ℕ) → Listed t s r p → (table head flags : List ℕ) → head ≡ sets table 0 (s ∷ r ∷ p ∷ []) → flags ≡ sets head 3 (map flag_of (listed_in t).tops)
    → with_rules flags s r (listed_in t).rules ≡ sets table 0 (packed (listed_in t))
unfolding packed
packed-laid t s r p h table head flags e f = ap (λ (b : List ℕ). with_rules b s r d.rules) (f ∙ ap (λ (b : List ℕ). sets b 3 fs) e) ∙ go
  where
    d : Data
    d = listed_in t

    fs : List ℕ
    fs = map flag_of d.tops

    rs : List ℕ
    rs = records_of 0 d.rules

    ws : List ℕ
    ws = flat_map words_of d.rules

    top : List ℕ
    top = s ∷ r ∷ p ∷ []

    flags-end : 3 + s ≡ 3 + length fs
    flags-end = omega (arith, h.tops, length-map d.tops flag_of)

    records-end : parts_place s r ≡ 3 + length fs + length rs
    records-end = omega (arith, h.tops, h.rules, length-map d.tops flag_of, records-length 0 d.rules)

    sizes : top ≡ length d.tops ∷ length d.rules ∷ parts_of d.rules ∷ []
    sizes = ap₂ (λ (i j : ℕ). i ∷ j ∷ p ∷ []) h.tops h.rules ∙ ap (λ (k : ℕ). length d.tops ∷ length d.rules ∷ k ∷ []) h.parts

    go : sets (sets (sets (sets table 0 top) 3 fs) (3 + s) rs) (parts_place s r) ws ≡ sets table 0 ((length d.tops ∷ length d.rules ∷ parts_of d.rules ∷ []) ++ (fs ++ (rs ++ ws)))
    go =
        ap₂ (λ (i j : ℕ). sets (sets (sets (sets table 0 top) 3 fs) i rs) j ws) flags-end records-end
        ∙ sym (sets-append (sets (sets table 0 top) 3 fs) (3 + length fs) rs ws)
        ∙ sym (sets-append (sets table 0 top) 3 fs (rs ++ ws))
        ∙ ap (λ (x : List ℕ). sets table 0 (x ++ (fs ++ (rs ++ ws)))) sizes
