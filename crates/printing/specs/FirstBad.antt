-- The first bad line of a text that is no listing, said apart from any reader.
-- In words: docs/MANUAL.md, 10.2.
use Rattle.std.specs.Prelude.{◌≡◌, Bool, true, not, List, [], ◌∷◌, ◌++◌, ℕ, eqb, length}
use Rattle.plain.specs.Lists.{every}
use Rattle.packing.specs.Data.{Data, data_fits}
use Rattle.printing.specs.Listing.{Bytes, ended, listing}

-- a byte stands nowhere in them
unfoldable pub lacks : ℕ → Bytes → Bool
lacks c bs = every (λ b. not (eqb b c)) bs

-- text that begins some listing of data within the limits
pub record Begins (text : Bytes) : Type 0 where
  pub whole : Data
  pub fits : data_fits whole ≡ true
  pub after : Bytes
  pub begins : listing whole ≡ text ++ after

-- counted from 0
pub data FirstBad (text : Bytes) : ℕ → Type 0 where
  -- the lines before it begin some listing, with it none
  bad_line : (lines : List Bytes) (line rest : Bytes) → every (lacks 10) (lines ++ (line ∷ [])) ≡ true → text ≡ ended (lines ++ (line ∷ [])) ++ rest
      → Begins (ended lines) → (Begins (ended (lines ++ (line ∷ []))) → ⊥) → FirstBad text (length lines)
  -- only the end is wrong: all ended lines begin some listing
  bad_end : (lines : List Bytes) (rest : Bytes) → every (lacks 10) lines ≡ true → lacks 10 rest ≡ true → text ≡ ended lines ++ rest
      → Begins (ended lines) → ((d : Data) → data_fits d ≡ true → listing d ≡ text → ⊥) → FirstBad text (length lines)
