-- A judged text's lines, found again: where a line ends, and what its fields say of the ruleset or rule that it lists.
use mathlib.Core.Path.{◌≡◌, refl, sym, ap, ap₂, ◌∙◌}
use mathlib.Core.Bool.{Bool, true, false}
use mathlib.Core.List.{List, [], ◌∷◌, ◌++◌, map, flat_map, append-nil}
use Rattle.std.specs.Prelude.{Option, None, Some}
use Prim.Native.Nat.{ℕ, ◌≤◌, ◌<◌}
use native.Mathlib.Omega.{arith}
use lib.ListN.{length, length-append}
use borrow.Author.Tests.{lt-ltb}
use Rattle.plain.specs.Choice.{select}
use Rattle.plain.specs.Lists.{every}
use Rattle.plain.proofs.Tests.{and_left, and_right}
use Rattle.defs.specs.declared.ruledef.Part.{Part}
use Rattle.packing.specs.Data.{Rule, Data, word_of, is_part_of}
use Rattle.packing.specs.Packed.{flag_of}
use Rattle.packing.proofs.Limits.{Fits, fits_all}
use Rattle.printing.specs.Listing.{Bytes, ruleset_word, rule_word, top_word, decimal, part_field, top_field, top_line, rule_line, parted, lines_of, listing}
use Rattle.printing.specs.Reading.{same, pieces, number_of, good, read}
use Rattle.printing.specs.FirstBad.{lacks}
use Rattle.printing.proofs.Pieces.{piece-last, pieces-parted, parted-pieces, pieces-ended}
use Rattle.printing.proofs.Decimals.{number-decimal}
use Rattle.printing.proofs.Fields.{part-read, top-lacks, rule-lacks}
use Rattle.printing.proofs.Accepts.{lines-lack, read-good}
use Rattle.fields.specs.Said.{Cut, low_number, word_in, said_word}
use Rattle.fields.proofs.Scans.{cut-pieces}
use Rattle.listing.specs.Packing.{listed_in, Listed, LinesAre, AllSaid, word_or_none, words_said}

-- the limits of the data that a text lists
pub listed-fits : (t : Bytes) (s r p : ℕ) → Listed t s r p → Fits (listed_in t).tops (listed_in t).rules
listed-fits t s r p h = fits_all (listed_in t).tops (listed_in t).rules (read-good t (listed_in t) h.whole).1

-- S, R and P are small
pub listed_small : (t : Bytes) (s r p : ℕ) → Listed t s r p → (s ≤ 32) × (r ≤ 512) × (p ≤ 8192)
listed_small t s r p h =
    let z = (listed-fits t s r p h).sizes in
    (omega (arith, h.tops, z), omega (arith, h.rules, z), omega (arith, h.parts, z))

-- all lines stand from the start on
pub lines-all : (t : Bytes) (d : Data) → read t ≡ good d → LinesAre t (lines_of d)
unfolding listing pieces
lines-all t d h =
    let r = read-good t d h in
    ap (pieces 10) (sym r.0 ∙ sym (append-nil (listing d))) ∙ pieces-ended (lines_of d) [] (lines-lack d r.1)

-- a line is there, and the others stand after it
pub lines-end : (rest x : Bytes) (ls : List Bytes) → LinesAre rest (x ∷ ls) → lacks 10 rest ≡ true → ⊥
lines-end rest x ls h lack = omega (arith, ap length (sym (piece-last 10 rest lack) ∙ h), length-append ls ([] ∷ []))

module _ (rest line after x : Bytes) (ls : List Bytes) (h : LinesAre rest (x ∷ ls)) (c : Cut rest 10 line after) where
  cut-is : line ∷ pieces 10 after ≡ x ∷ (ls ++ ([] ∷ []))
  cut-is = sym (cut-pieces 10 rest line after c) ∙ h

  pub line-is : line ≡ x
  line-is = let e = cut-is in cc

  pub lines-after : LinesAre after ls
  lines-after = let e = cut-is in cc

-- ---- the fields of a ruleset's line

module _ (u : Bool) where
  top-pieces : pieces 9 (top_line u) ≡ ruleset_word ∷ top_field u ∷ []
  top-pieces = pieces-parted 9 ruleset_word (top_field u ∷ []) (top-lacks 9 (omega arith) u)

  pub top-tab : {line : Bytes} → line ≡ top_line u → lacks 9 line ≡ true → ⊥
  top-tab {line} e lack = omega (arith, ap length (sym (piece-last 9 line lack) ∙ ap (pieces 9) e ∙ top-pieces))

  pub top-flag : (line x field : Bytes) → line ≡ top_line u → Cut line 9 x field → flag_of (same field top_word) ≡ flag_of u
  unfolding parted same
  top-flag line x field e c =
      ap (λ (y : Bytes). flag_of (same y top_word)) (sym (parted-pieces 9 field) ∙ ap (parted 9) rest) ∙ kind u
    where
      rest : pieces 9 field ≡ top_field u ∷ []
      rest = let z : x ∷ pieces 9 field ≡ ruleset_word ∷ top_field u ∷ [] = sym (cut-pieces 9 line x field c) ∙ ap (pieces 9) e ∙ top-pieces in cc

      kind : (v : Bool) → flag_of (same (top_field v) top_word) ≡ flag_of v
      kind true = refl
      kind false = refl

-- ---- the fields of a rule's line

pub rule-pieces : (s : ℕ) (r : Rule) → every (is_part_of s) r.parts ≡ true → pieces 9 (rule_line r) ≡ rule_word ∷ decimal r.set ∷ map part_field r.parts
rule-pieces s r each = pieces-parted 9 rule_word (decimal r.set ∷ map part_field r.parts) (rule-lacks 9 (omega arith) s r each)

pub rule-number : (n : ℕ) → n < 100 → low_number (number_of (decimal n)) ≡ Some n
rule-number n low = ap low_number (number-decimal n) ∙ ap (λ (b : Bool). select b (Some n) None) (lt-ltb n 100 low)

-- what is said of printed parts are their words
said-part : (s : ℕ) (p : Part) → is_part_of s p ≡ true → said_word s (part_field p) ≡ Some (word_of p)
said-part s p h = ap (word_in s) (part-read p) ∙ ap (λ (b : Bool). select b (Some (word_of p)) None) h

pub all-said : (s : ℕ) (ps : List Part) → every (is_part_of s) ps ≡ true → AllSaid s (map part_field ps)
unfolding every
all-said s [] h = tt
all-said s (p ∷ ps) h = ((word_of p, said-part s p (and_left (is_part_of s p) _ h)), all-said s ps (and_right (is_part_of s p) _ h))

pub said-words : (s : ℕ) (ps : List Part) → every (is_part_of s) ps ≡ true → words_said s (map part_field ps) ≡ map word_of ps
unfolding every words_said flat_map
said-words s [] h = refl
said-words s (p ∷ ps) h =
    ap₂ (λ (o : Option ℕ) (ws : List ℕ). word_or_none o ++ ws) (said-part s p (and_left (is_part_of s p) _ h)) (said-words s ps (and_right (is_part_of s p) _ h))
