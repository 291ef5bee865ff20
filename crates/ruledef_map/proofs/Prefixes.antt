-- Prefixes: the line's, as the code gathers it, and a rule's, as the code compares it.
use mathlib.Core.Path.{◌≡◌, refl, sym, ap, ap₂, ◌∙◌}
use mathlib.Core.Bool.{Bool, true, false, ◌&&◌}
use mathlib.Core.List.{List, [], ◌∷◌, ◌++◌, map, map-append, append-nil}
use Prim.Native.Nat.{ℕ, zero, suc, ◌+◌, ◌-◌, ◌≤◌, ◌<◌}
use native.Mathlib.Nat.{zero-add, add-zero}
use native.Mathlib.Numerals.{add-one}
use native.Mathlib.Omega.{arith}
use lib.ListN.{length, get_or, take, drop, set, length-append, length-take, take-append-drop, drop_of_length-le}
use lib.Seq.{take-nil, take-suc, take_all, take_at, drop-cons, get_or_at, get_or-take}
use lib.Dec.{eqb}
use borrow.Author.Tests.{eq-eqb, ne_eqb}
use Rattle.plain.specs.Choice.{select}
use Rattle.plain.specs.Lists.{range, keep_if, listed}
use Rattle.plain.proofs.Lists.{keep_if-append, listed-set}
use Rattle.token.specs.Token.{lowered}
use Rattle.token.specs.Token.{is_solid}
use Rattle.defs.specs.Table.{word_at, part_of, parts_between}
use Rattle.ruledef_map.specs.RuledefMap.{leading, rule_prefix, line_prefix, held_prefix, prefix_bytes, same_bytes, prefix_length}
use Rattle.defs.specs.declared.ruledef.Part.{Part}
use Rattle.defs.specs.declared.ruledef.Part.TheVariants.{Exact}
use Rattle.ruledef_map.specs.declared.Prefix.{Prefix}
use Rattle.defs.proofs.Words.{parts_none, met}

-- ---- the line's prefix

-- the bytes of the line that count
abbrev solids : List ℕ → List ℕ
solids line = map lowered (keep_if is_solid line)

solids-append : (xs ys : List ℕ) → solids (xs ++ ys) ≡ solids xs ++ solids ys
solids-append xs ys = ap (map lowered) (keep_if-append is_solid xs ys) ∙ map-append lowered (keep_if is_solid xs) (keep_if is_solid ys)

-- those passed before a place
unfoldable pub passed_bytes : List ℕ → ℕ → List ℕ
passed_bytes line at = solids (take at line)

-- what the code holds there
pub record Gathered (line : List ℕ) (at : ℕ) (bytes : List ℕ) (count : ℕ) : Type 0 where
  pub held : bytes ≡ listed 4 (λ j. get_or (passed_bytes line at) j 0)
  pub many : count ≡ length (passed_bytes line at)
  pub few : count ≤ 4

pub gathered_none : (line : List ℕ) → Gathered line 0 (0 ∷ 0 ∷ 0 ∷ 0 ∷ []) 0
unfolding passed_bytes listed range keep_if
gathered_none line = record { held = refl; many = refl; few = omega arith }

module _ (line : List ℕ) (at : ℕ) (inside : at < length line) where
  passed-more : passed_bytes line (at + 1) ≡ passed_bytes line at ++ solids (get_or line at 0 ∷ [])
  unfolding passed_bytes
  passed-more =
      ap (λ (n : ℕ). solids (take n line)) (add-one at)
      ∙ ap solids (take-suc line at 0 inside)
      ∙ solids-append (take at line) (get_or line at 0 ∷ [])

  module _ (bytes : List ℕ) (count b : ℕ) (is : b ≡ get_or line at 0) (g : Gathered line at bytes count) where
    -- a byte of whitespace changes nothing
    pub gathered-space : is_solid b ≡ false → Gathered line (at + 1) bytes count
    unfolding keep_if
    gathered-space e = record {
      held = g.held ∙ ap (λ (l : List ℕ). listed 4 (λ j. get_or l j 0)) (sym same);
      many = g.many ∙ ap length (sym same);
      few = g.few;
    }
      where
        same : passed_bytes line (at + 1) ≡ passed_bytes line at
        same =
            passed-more
            ∙ ap (λ (t : Bool). passed_bytes line at ++ map lowered (select t (get_or line at 0 ∷ []) [])) (ap is_solid (sym is) ∙ e)
            ∙ append-nil (passed_bytes line at)

    -- any other is taken in, lowered
    pub gathered-solid : (v : ℕ) → is_solid b ≡ true → v ≡ lowered b → count < 4 → Gathered line (at + 1) (set bytes count v) (count + 1)
    unfolding keep_if
    gathered-solid v e low h = record {
      held = ap (λ (l : List ℕ). set l count v) g.held ∙ listed-set 4 (λ j. get_or (passed_bytes line at) j 0) (λ j. get_or (passed_bytes line (at + 1)) j 0) count v h here other;
      many = ap (λ (n : ℕ). n + 1) g.many ∙ sym (ap length grown ∙ length-append (passed_bytes line at) (v ∷ []));
      few = omega arith;
    }
      where
        grown : passed_bytes line (at + 1) ≡ passed_bytes line at ++ (v ∷ [])
        grown =
            passed-more
            ∙ ap (λ (t : Bool). passed_bytes line at ++ map lowered (select t (get_or line at 0 ∷ []) [])) (ap is_solid (sym is) ∙ e)
            ∙ ap (λ (n : ℕ). passed_bytes line at ++ (n ∷ [])) (ap lowered (sym is) ∙ sym low)

        here : get_or (passed_bytes line (at + 1)) count 0 ≡ v
        here = ap (λ (l : List ℕ). get_or l count 0) grown ∙ get_or_at (passed_bytes line at) v [] 0 count (sym g.many)

        other : (i : ℕ) → i < 4 → (i ≡ count → ⊥) → get_or (passed_bytes line (at + 1)) i 0 ≡ get_or (passed_bytes line at) i 0
        other i l d = ap (λ (x : List ℕ). get_or x i 0) grown ∙ elsewhere (passed_bytes line at) i (λ q. d (q ∙ sym g.many))
          where
            elsewhere : (xs : List ℕ) (k : ℕ) → (k ≡ length xs → ⊥) → get_or (xs ++ (v ∷ [])) k 0 ≡ get_or xs k 0
            elsewhere [] zero n = absurd (n refl)
            elsewhere [] (suc k) n = refl
            elsewhere (x ∷ xs) zero n = refl
            elsewhere (x ∷ xs) (suc k) n = elsewhere xs k (λ q. n (ap suc q))

-- four bytes are the prefix, and so are fewer at the line's end
module _ (line : List ℕ) (at : ℕ) (bytes : List ℕ) (count : ℕ) (g : Gathered line at bytes count) where
  held-is : passed_bytes line at ≡ line_prefix line → ◌≡◌ {A = Prefix} (record { bytes = bytes; count = count }) (held_prefix (line_prefix line))
  unfolding held_prefix
  held-is e = λ i. record {
    bytes = (g.held ∙ ap (λ (l : List ℕ). listed 4 (λ j. get_or l j 0)) e) i;
    count = (g.many ∙ ap length e) i;
  }

  pub prefix-full : 4 ≤ count → ◌≡◌ {A = Prefix} (record { bytes = bytes; count = count }) (held_prefix (line_prefix line))
  unfolding line_prefix passed_bytes
  prefix-full h =
      held-is
      (sym
      (ap (λ (l : List ℕ). take 4 (solids l)) (sym (take-append-drop at line))
      ∙ ap (take 4) (solids-append (take at line) (drop at line))
      ∙ take_at (solids (take at line)) (solids (drop at line)) 4 (omega (arith, g.many, g.few))))

  pub prefix-end : length line ≤ at → ◌≡◌ {A = Prefix} (record { bytes = bytes; count = count }) (held_prefix (line_prefix line))
  unfolding line_prefix passed_bytes
  prefix-end h =
      held-is
      (sym (take_all 4 (solids (take at line)) (omega (arith, g.many, g.few)))
      ∙ ap (λ (l : List ℕ). take 4 (solids l)) (take_all at line h))

-- ---- a rule's prefix against the line's

-- of bytes q, all of which the bytes r are to begin with, k more were found equal before
abbrev compared : List ℕ → List ℕ → ℕ → ℕ
compared q r k = select (same_bytes q (take (length q) r)) (k + length q) 5

-- what is left to compare of a rule's parts, with j bytes found equal
unfoldable pub continued : List Part → List ℕ → ℕ → ℕ
continued ps p j = compared (take (4 - j) (leading ps)) (drop j p) j

pub continued-whole : (ps : List Part) (p : List ℕ) → continued ps p 0 ≡ prefix_length ps p
unfolding continued prefix_length rule_prefix
continued-whole ps p = ap (λ (n : ℕ). select (same_bytes (take 4 (leading ps)) (take (length (take 4 (leading ps))) p)) n 5) (zero-add (length (take 4 (leading ps))))

module _ (p : List ℕ) (j : ℕ) where
  -- no exact part comes next, or four bytes are found already
  pub continued-stop : (ps : List Part) → leading ps ≡ [] → j ≡ continued ps p j
  unfolding continued
  continued-stop ps e = sym (ap (λ (l : List ℕ). compared l (drop j p) j) (ap (take (4 - j)) e ∙ take-nil (4 - j)) ∙ add-zero j)

  pub continued-full : (ps : List Part) → 4 ≤ j → j ≡ continued ps p j
  unfolding continued
  continued-full ps h =
      let none : 4 - j ≡ 0 = omega arith in
      sym (ap (λ (n : ℕ). compared (take n (leading ps)) (drop j p) j) none ∙ add-zero j)

  module _ (b : ℕ) (ps : List Part) (h : j < 4) where
    one_more : take (4 - j) (leading (Exact b ∷ ps)) ≡ lowered b ∷ take (4 - (j + 1)) (leading ps)
    unfolding leading
    one_more = let n : 4 - j ≡ suc (4 - (j + 1)) = omega arith in ap (λ (n : ℕ). take n (lowered b ∷ leading ps)) n

    -- the line's prefix ends here
    pub continued-short : length p ≤ j → 5 ≡ continued (Exact b ∷ ps) p j
    unfolding continued
    continued-short k = sym (ap₂ (λ (q r : List ℕ). compared q r j) one_more (drop_of_length-le p {i = j} k))

    module _ (k : j < length p) where
      judged : (t : Bool) → eqb (lowered b) (get_or p j 0) ≡ t
          → continued (Exact b ∷ ps) p j
          ≡ select (t && same_bytes (take (4 - (j + 1)) (leading ps)) (take (length (take (4 - (j + 1)) (leading ps))) (drop (suc j) p))) (j + suc (length (take (4 - (j + 1)) (leading ps)))) 5
      unfolding continued
      judged t e =
          ap₂ (λ (q r : List ℕ). compared q r j) one_more (drop-cons p j 0 k)
          ∙ ap (λ (x : Bool). select (x && same_bytes (take (4 - (j + 1)) (leading ps)) (take (length (take (4 - (j + 1)) (leading ps))) (drop (suc j) p))) (j + suc (length (take (4 - (j + 1)) (leading ps)))) 5) e

      -- the line's next byte is another
      pub continued-other : (lowered b ≡ get_or p j 0 → ⊥) → 5 ≡ continued (Exact b ∷ ps) p j
      continued-other n = sym (judged false (ne_eqb (lowered b) (get_or p j 0) n))

      -- or the same
      pub continued-next : lowered b ≡ get_or p j 0 → continued ps p (j + 1) ≡ continued (Exact b ∷ ps) p j
      unfolding continued
      continued-next e =
          sym
          (judged true (eq-eqb (lowered b) (get_or p j 0) e)
          ∙ ap₂ (λ (m n : ℕ). select (same_bytes (take (4 - (j + 1)) (leading ps)) (take (length (take (4 - (j + 1)) (leading ps))) (drop m p))) n 5) (sym (add-one j)) (omega arith))

-- the parts of the table, as the loop meets them
module _ (t : List ℕ) (at end : ℕ) (fits : end ≤ length t) (below : at < end) (q : Part) (is : q ≡ part_of (word_at t at)) where
  pub met-stop : ((ps : List Part) → leading (q ∷ ps) ≡ []) → (p : List ℕ) (j : ℕ) → j ≡ continued (parts_between t at end) p j
  met-stop none p j = continued-stop p j (parts_between t at end) (ap leading (met t at end fits below q is) ∙ none (parts_between t (at + 1) end))

pub ended-stop : (t : List ℕ) (at end : ℕ) → end ≤ length t → end ≤ at → (p : List ℕ) (j : ℕ) → j ≡ continued (parts_between t at end) p j
unfolding leading
ended-stop t at end fits h p j = continued-stop p j (parts_between t at end) (ap leading (parts_none t at end fits h))

-- an exact part, against the prefix that the code holds
module _ (t : List ℕ) (at end : ℕ) (fits : end ≤ length t) (below : at < end) (b : ℕ) (is : Exact b ≡ part_of (word_at t at)) (p : Prefix) (j : ℕ) (h : j < 4) where
  left : List Part
  left = parts_between t (at + 1) end

  pub met-short : p.count ≤ j → 5 ≡ continued (parts_between t at end) (prefix_bytes p) j
  unfolding left
  met-short k =
      continued-short (prefix_bytes p) j b left h (omega (arith, length-take p.count p.bytes))
      ∙ ap (λ (ps : List Part). continued ps (prefix_bytes p) j) (sym (met t at end fits below (Exact b) is))

  module _ (k : j < p.count) (l : j < length p.bytes) (v : ℕ) (low : v ≡ lowered b) where
    inside : j < length (prefix_bytes p)
    inside = omega (arith, length-take p.count p.bytes)

    byte-is : get_or (prefix_bytes p) j 0 ≡ get_or p.bytes j 0
    byte-is = get_or-take p.count p.bytes j 0 k

    pub met-other : (v ≡ get_or p.bytes j 0 → ⊥) → 5 ≡ continued (parts_between t at end) (prefix_bytes p) j
    unfolding left
    met-other n =
        continued-other (prefix_bytes p) j b left h inside (λ e. n (low ∙ e ∙ byte-is))
        ∙ ap (λ (ps : List Part). continued ps (prefix_bytes p) j) (sym (met t at end fits below (Exact b) is))

    pub met-same : v ≡ get_or p.bytes j 0 → continued (parts_between t (at + 1) end) (prefix_bytes p) (j + 1) ≡ continued (parts_between t at end) (prefix_bytes p) j
    unfolding left
    met-same e =
        continued-next (prefix_bytes p) j b left h inside (sym low ∙ e ∙ sym byte-is)
        ∙ ap (λ (ps : List Part). continued ps (prefix_bytes p) j) (sym (met t at end fits below (Exact b) is))
