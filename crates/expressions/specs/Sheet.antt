-- The sheet of a line: its free ends and its greedy ends, declared and computed.
use Rattle.std.specs.Prelude.{◌≡◌, true, List, ℕ, ◌+◌, ◌-◌, ◌*◌, ◌/◌, ◌%◌, ◌≤◌, ◌<◌, ltb, length, Option, None, Some}
use Rattle.plain.specs.Choice.{select}
use Rattle.plain.specs.Lists.{listed}
use Rattle.extents.specs.declared.Half.{Half}
use Rattle.extents.specs.declared.Half.TheVariants.{Free, Greedy}
use Rattle.extents.specs.Sheet.{sized, entry_at}
use Rattle.expressions.specs.Grammar.{Digits, Expr, GreatestEnd}
use Rattle.expressions.specs.Ends.{free, greedy}

-- ---- declared

-- what ends in each half: an expression on its last token; a nonempty run of digits after whitespace
abbrev pub EndIn : Half → List ℕ → ℕ → ℕ → Type 0
EndIn Free line c e = Expr line c e
EndIn Greedy line c e = Digits line c e

-- an entry's byte, for start c and limit l: the greatest end within the limit, or 255 if there is none
pub data EntryIs (End : ℕ → Type 0) (l : ℕ) : ℕ → Type 0 where
  at_end : {e : ℕ} → GreatestEnd End l e → EntryIs End l e
  no_end : ((e : ℕ) → End e → e ≤ l → ⊥) → EntryIs End l 255

-- Entries whose start lies above their limit are 255.
pub record SheetIs (line sheet : List ℕ) : Type 0 where
  pub size : sized sheet (length line) ≡ true
  pub entries : (half : Half) (c l : ℕ) → c ≤ l → l ≤ length line → EntryIs (EndIn half line c) l (entry_at sheet (length line) half c l)
  pub above : (half : Half) (c l : ℕ) → l < c → c ≤ length line → entry_at sheet (length line) half c l ≡ 255

-- ---- computed

-- the end of a half
abbrev pub end_for : List ℕ → Half → ℕ → ℕ → Option ℕ
end_for line Free c l = free line c l
end_for line Greedy c l = greedy line c l

-- an entry's byte: 255 for none
abbrev pub byte_of : Option ℕ → ℕ
byte_of None = 255
byte_of (Some e) = e

-- an entry
unfoldable pub entry_for : List ℕ → Half → ℕ → ℕ → ℕ
entry_for line half c l = select (ltb l c) 255 (byte_of (end_for line half c l))

-- the byte at place i of a half: its start and its limit are i by n + 1, and what is left
unfoldable pub in_half : List ℕ → Half → ℕ → ℕ
in_half line half i = entry_for line half (i / (length line + 1)) (i % (length line + 1))

-- the byte at place i of the sheet
unfoldable pub sheet_byte : List ℕ → ℕ → ℕ
sheet_byte line i =
    select (ltb i ((length line + 1) * (length line + 1)))
    (in_half line Free i)
    (in_half line Greedy (i - (length line + 1) * (length line + 1)))

-- the sheet of a line
unfoldable pub sheet_of : List ℕ → List ℕ
sheet_of line = listed (2 * ((length line + 1) * (length line + 1))) (sheet_byte line)
