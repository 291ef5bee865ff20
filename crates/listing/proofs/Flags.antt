-- The flags, line by line: the rulesets laid so far, and the lines of the others.
use mathlib.Core.Path.{◌≡◌, refl, sym, ap, ap₂, ◌∙◌, subst}
use mathlib.Core.Bool.{Bool, true}
use mathlib.Core.List.{List, [], ◌∷◌, ◌++◌, map, append-nil, append_assoc}
use Prim.Native.Nat.{ℕ, ◌+◌, ◌≤◌, ◌<◌}
use native.Mathlib.Omega.{arith}
use lib.ListN.{length, set, length-append, length-map}
use lib.Seq.{sets, length-sets}
use Rattle.plain.proofs.Sets.{sets-append}
use Rattle.packing.specs.Packed.{flag_of}
use Rattle.printing.specs.Listing.{Bytes, top_word, top_line, rule_line, lines_of}
use Rattle.printing.specs.Reading.{same}
use Rattle.printing.specs.FirstBad.{lacks}
use Rattle.fields.specs.Said.{Cut}
use Rattle.listing.specs.Packing.{listed_in, Listed, LinesAre}
use Rattle.listing.proofs.Lines.{lines-all, lines-end, line-is, lines-after, top-tab, top-flag}

-- the first i rulesets are laid, and the lines of the others follow
pub record TopsLeft (t : Bytes) (table₀ table : List ℕ) (rest : Bytes) (i : ℕ) : Type 0 where
  pub done : List Bool
  pub left : List Bool
  pub all : done ++ left ≡ (listed_in t).tops
  pub many : i ≡ length done
  pub words : table ≡ sets table₀ 3 (map flag_of done)
  pub lines : LinesAre rest (map top_line left ++ map rule_line (listed_in t).rules)

pub tops_first : (t : Bytes) (s r p : ℕ) (table : List ℕ) → Listed t s r p → TopsLeft t table table t 0
unfolding lines_of
tops_first t s r p table h =
    record { done = []; left = (listed_in t).tops; all = refl; many = refl; words = refl; lines = lines-all t (listed_in t) h.whole }

module _ (t : Bytes) (s r p : ℕ) (h : Listed t s r p) (table₀ table : List ℕ) (rest : Bytes) (i : ℕ) (l : TopsLeft t table₀ table rest i) where
  pub tops-long : length table ≡ length table₀
  tops-long = ap length l.words ∙ length-sets table₀ 3 (map flag_of l.done)

  pub tops-over : s ≤ i → (table ≡ sets table₀ 3 (map flag_of (listed_in t).tops)) × LinesAre rest (map rule_line (listed_in t).rules)
  tops-over over = go l.left refl
    where
      go : (left : List Bool) → left ≡ l.left → (table ≡ sets table₀ 3 (map flag_of (listed_in t).tops)) × LinesAre rest (map rule_line (listed_in t).rules)
      go [] e = (
        l.words ∙ ap (λ (us : List Bool). sets table₀ 3 (map flag_of us)) (sym (append-nil l.done) ∙ ap (λ (us : List Bool). l.done ++ us) e ∙ l.all),
        subst (λ (us : List Bool). LinesAre rest (map top_line us ++ map rule_line (listed_in t).rules)) (sym e) l.lines,
      )
      go (u ∷ us) e = absurd (omega (arith, over, h.tops, l.many, ap length l.all, length-append l.done l.left, ap length e))

  -- the next ruleset
  record NextTop : Type 0 where
    pub it : Bool
    pub others : List Bool
    pub is : l.left ≡ it ∷ others

  next-top : i < s → NextTop
  next-top more = go l.left refl
    where
      go : (left : List Bool) → left ≡ l.left → NextTop
      go [] e = absurd (omega (arith, more, h.tops, l.many, ap length l.all, length-append l.done l.left, ap length e))
      go (u ∷ us) e = record { it = u; others = us; is = sym e }

  module _ (more : i < s) where
    n : NextTop
    n = next-top more

    lines-are : LinesAre rest (top_line n.it ∷ (map top_line n.others ++ map rule_line (listed_in t).rules))
    lines-are = subst (λ (us : List Bool). LinesAre rest (map top_line us ++ map rule_line (listed_in t).rules)) n.is l.lines

    pub top-ended : lacks 10 rest ≡ true → ⊥
    top-ended lack = lines-end rest _ _ lines-are lack

    module _ (line after : Bytes) (c : Cut rest 10 line after) where
      line-top : line ≡ top_line n.it
      line-top = line-is rest line after _ _ lines-are c

      pub top-parted : lacks 9 line ≡ true → ⊥
      top-parted lack = top-tab n.it line-top lack

      pub tops_next : (word field : Bytes) → Cut line 9 word field → TopsLeft t table₀ (set table (3 + i) (flag_of (same field top_word))) after (i + 1)
      tops_next word field g =
          record {
            done = l.done ++ (n.it ∷ []);
            left = n.others;
            all = append_assoc l.done (n.it ∷ []) n.others ∙ ap (λ (us : List Bool). l.done ++ us) (sym n.is) ∙ l.all;
            many = omega (arith, l.many, length-append l.done (n.it ∷ []));
            words =
                ap₂ (λ (b : List ℕ) (v : ℕ). set b (3 + i) v) l.words (top-flag n.it line word field line-top g)
                ∙ ap (λ (k : ℕ). set (sets table₀ 3 (map flag_of l.done)) k (flag_of n.it)) place
                ∙ sym (sets-append table₀ 3 (map flag_of l.done) (flag_of n.it ∷ []))
                ∙ ap (sets table₀ 3) (sym (flags-more l.done));
            lines = lines-after rest line after _ _ lines-are c;
          }
        where
          place : 3 + i ≡ 3 + length (map flag_of l.done)
          place = omega (arith, l.many, length-map l.done flag_of)

          flags-more : (us : List Bool) → map flag_of (us ++ (n.it ∷ [])) ≡ map flag_of us ++ (flag_of n.it ∷ [])
          flags-more [] = refl
          flags-more (u ∷ us) = ap (λ (w : List ℕ). flag_of u ∷ w) (flags-more us)
