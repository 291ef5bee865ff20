-- The cut: where the line is limited for a parameter that a lookahead character follows.
-- In words: docs/MANUAL.md, 3.4.
use Rattle.std.specs.Prelude.{◌≡◌, Bool, true, false, ◌&&◌, ◌||◌, List, [], ◌∷◌, ℕ, suc, ◌+◌, ◌-◌, ◌≤◌, ◌<◌, eqb, Option, None, Some}
use Rattle.std.proofs.Math.Seq.{slice}
use Rattle.plain.specs.Choice.{select}
use Rattle.plain.specs.Lists.{some_of, count}
use Rattle.token.specs.Token.{is_solid, same_letter}
use Rattle.syntax.specs.Walker.{byte_at}
use Rattle.syntax.specs.declared.walker.Walker.{Walker}
use Rattle.syntax.specs.declared.walker.Search.{Search}
use Rattle.syntax.specs.declared.walker.Turn.{Turn}

-- the byte is the wanted one, case ignored, after some non-whitespace byte has passed and with both nestings at zero
unfoldable pub is_wanted : ℕ → ℕ → Search → Bool
is_wanted x b s = s.seen && eqb s.parens 0 && eqb s.braces 0 && same_letter b x

-- the byte is a closer whose own nesting is zero
unfoldable pub is_stray : ℕ → Search → Bool
is_stray b s = eqb b 41 && eqb s.parens 0 || eqb b 125 && eqb s.braces 0

-- Declared: what has passed from place c to before place i, by counting. Nesting is counted apart for ( ) and { }.
unfoldable pub nesting : ℕ → ℕ → List ℕ → ℕ
nesting o e bs = count (λ b. eqb b o) bs - count (λ b. eqb b e) bs

unfoldable pub passed_to : List ℕ → ℕ → ℕ → Search
passed_to line c i = record {
  seen = some_of is_solid (slice c i line);
  parens = nesting 40 41 (slice c i line);
  braces = nesting 123 125 (slice c i line);
}

-- The cut, as document 01 says it: the first place from the cursor to the limit that holds the wanted byte, with no
-- stray closer before it. The test of the byte itself comes before the nesting rules for it.
pub record CutAt (line : List ℕ) (x : ℕ) (w : Walker) (p : ℕ) : Type 0 where
  pub from : w.cursor ≤ p
  pub below : p < w.limit
  pub here : is_wanted x (byte_at line p) (passed_to line w.cursor p) ≡ true
  pub first : (i : ℕ) → w.cursor ≤ i → i < p → is_wanted x (byte_at line i) (passed_to line w.cursor i) ≡ false
  pub unended : (i : ℕ) → w.cursor ≤ i → i < p → is_stray (byte_at line i) (passed_to line w.cursor i) ≡ false

-- there is a cut at this place, or none at all
abbrev pub Cuts : List ℕ → ℕ → Walker → Option ℕ → Type 0
Cuts line x w (Some p) = CutAt line x w p
Cuts line x w None = (p : ℕ) → CutAt line x w p → ⊥

-- Scanned, as the Rust does it: a byte that was neither wanted nor stray is taken in
unfoldable pub taken_in : ℕ → Search → Search
taken_in b s = record {
  seen = s.seen || is_solid b;
  parens = select (eqb b 40) (s.parens + 1) (select (eqb b 41) (s.parens - 1) s.parens);
  braces = select (eqb b 123) (s.braces + 1) (select (eqb b 125) (s.braces - 1) s.braces);
}

unfoldable pub turn_of : ℕ → ℕ → Search → Turn
turn_of x b s = select (is_wanted x b s) Turn.Cut (select (is_stray b s) Turn.Stray (Turn.On (taken_in b s)))

abbrev pub follow : Turn → ℕ → (Search → Option ℕ) → Option ℕ
follow Turn.Cut i go = Some i
follow Turn.Stray i go = None
follow (Turn.On s) i go = go s

-- the search through bytes that stand from place i on
unfoldable pub searched : ℕ → List ℕ → ℕ → Search → Option ℕ
searched x [] i s = None
searched x (b ∷ bs) i s = follow (turn_of x b s) i (λ t. searched x bs (suc i) t)

abbrev pub fresh : Search
fresh = record { seen = false; parens = 0; braces = 0 }

unfoldable pub cut_from : List ℕ → ℕ → ℕ → ℕ → Search → Option ℕ
cut_from line x i l s = searched x (slice i l line) i s

unfoldable pub cut : List ℕ → ℕ → Walker → Option ℕ
cut line x w = cut_from line x w.cursor w.limit fresh
