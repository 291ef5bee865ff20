-- What a listing's fields say: what is left of a line, low numbers, the words of parts.
use Rattle.std.specs.Prelude.{◌≡◌, true, ◌&&◌, List, [], ◌∷◌, ◌++◌, ℕ, ◌-◌, leb, ltb, Option, None, Some}
use Rattle.std.specs.Borrow.{Bor}
use Rattle.plain.specs.Choice.{select}
use Rattle.defs.specs.declared.ruledef.Part.{Part}
use Rattle.packing.specs.Data.{word_of, is_part_of}
use Rattle.printing.specs.Listing.{Bytes}
use Rattle.printing.specs.Reading.{pieces, part_in}
use Rattle.printing.specs.FirstBad.{lacks}
use Rattle.fields.specs.declared.reading.Fields.{Fields}

-- bytes cut at the first that is a byte
pub record Cut (text : Bytes) (byte : ℕ) (before after : Bytes) : Type 0 where
  pub lacking : lacks byte before ≡ true
  pub is : text ≡ before ++ (byte ∷ after)

-- the fields that are left: those of the bytes that are left, if any are
abbrev pub left_of : Option (Bor Bytes) → List Bytes
left_of None = []
left_of (Some rest) = pieces 9 rest.now

abbrev pub fields_left : Fields → List Bytes
fields_left f = left_of f.rest

-- a number below 100
abbrev pub low_number : Option ℕ → Option ℕ
low_number None = None
low_number (Some n) = select (ltb n 100) (Some n) None

-- a digit's value
unfoldable pub digit_of : ℕ → Option ℕ
digit_of b = select (leb 48 b && leb b 57) (Some (b - 48)) None

-- the word of a part within the limits
abbrev pub word_in : ℕ → Option Part → Option ℕ
word_in s None = None
word_in s (Some p) = select (is_part_of s p) (Some (word_of p)) None

-- the word that a field says
abbrev pub said_word : ℕ → Bytes → Option ℕ
said_word s f = word_in s (part_in f)
