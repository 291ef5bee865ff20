-- The line's places as they are worked out, from its end to its beginning. Where the loop stands, the entries from there on are
-- the useful places, and each entry before holds its own place. The end's useful place and those past it are their own, and so is
-- that of a place which holds no whitespace: there nothing is put. Whitespace has the useful place of the place after it.
use mathlib.Core.Path.{◌≡◌, sym, ap, ◌∙◌, subst}
use mathlib.Core.Bool.{true, false}
use mathlib.Core.List.{List}
use Prim.Native.Nat.{ℕ, ◌+◌, ◌-◌, ◌≤◌, ◌<◌}
use native.Mathlib.Decide.{ℕ_discrete}
use native.Mathlib.Omega.{arith}
use lib.ListN.{length, get_or, drop, set, length-set, drop_of_length-le}
use lib.Seq.{take-length, get_or-set_same, get_or-set_other}
use Rattle.plain.proofs.Lists.{as-listed}
use Rattle.token.specs.Token.{is_whitespace}
use Rattle.syntax.specs.Walker.{byte_at, skipped, useful_from}
use Rattle.syntax.proofs.Useful.{useful-here, useful-later}
use Rattle.extents.specs.Held.{HeldPlaces}
use Rattle.useful.specs.Useful.{useful_places}

pub record Filled (line places : List ℕ) (at : ℕ) : Type 0 where
  pub below : at ≤ length line
  pub sized : length places ≡ 121
  pub each : (c : ℕ) → at ≤ c → c < 121 → get_or places c 0 ≡ useful_from line c (length line)
  pub own : (c : ℕ) → c < at → get_or places c 0 ≡ c

-- from the line's end on a place is its own useful place
past-own : (line : List ℕ) (c : ℕ) → length line ≤ c → useful_from line c (length line) ≡ c
unfolding useful_from skipped
past-own line c h =
    ap (λ (bs : List ℕ). skipped (drop c bs) c) (take-length line) ∙ ap (λ (bs : List ℕ). skipped bs c) (drop_of_length-le line h)

module _ (line : List ℕ) (short : length line ≤ 120) where
  pub filled-end : (places : List ℕ) → HeldPlaces places → Filled line places (length line)
  filled-end places h = record {
    below = omega arith;
    sized = h.many;
    each = λ c l m. h.each c m ∙ sym (past-own line c l);
    own = λ c l. h.each c (omega arith);
  }

  module _ (places : List ℕ) (at : ℕ) (f : Filled line places at) (some : 0 < at) where
    -- the entry of the place before, whatever is put there, if that is its useful place
    stored : (v : ℕ) → v ≡ useful_from line (at - 1) (length line) → Filled line (set places (at - 1) v) (at - 1)
    stored v is = record {
      below = omega (arith, f.below);
      sized = length-set places (at - 1) v ∙ f.sized;
      each = λ c l m. by c l m (ℕ_discrete c (at - 1));
      own = λ c l. get_or-set_other places (at - 1) c v 0 (λ e. omega arith) ∙ f.own c (omega arith);
    }
      where
        by : (c : ℕ) → at - 1 ≤ c → c < 121 → Dec (c ≡ at - 1) → get_or (set places (at - 1) v) c 0 ≡ useful_from line c (length line)
        by c l m (yes e) =
            subst (λ (d : ℕ). get_or (set places (at - 1) v) d 0 ≡ useful_from line d (length line)) (sym e)
            (get_or-set_same places (at - 1) v 0 (omega (arith, f.sized)) ∙ is)
        by c l m (no d) = get_or-set_other places (at - 1) c v 0 d ∙ f.each c (omega (arith, d)) m

    pub filled-white : is_whitespace (byte_at line (at - 1)) ≡ true → Filled line (set places (at - 1) (get_or places (at - 1 + 1) 0)) (at - 1)
    filled-white white =
        let after : at ≡ at - 1 + 1 = omega arith in
        stored _
        (ap (λ (c : ℕ). get_or places c 0) (sym after) ∙ f.each at (omega arith) (omega (arith, f.below)) ∙ ap (λ (c : ℕ). useful_from line c (length line)) after
        ∙ useful-later line (length line) (omega arith) (at - 1) (omega (arith, f.below)) white)

    pub filled-solid : is_whitespace (byte_at line (at - 1)) ≡ false → Filled line places (at - 1)
    filled-solid solid = record {
      below = omega (arith, f.below);
      sized = f.sized;
      each = λ c l m. by c l m (ℕ_discrete c (at - 1));
      own = λ c l. f.own c (omega arith);
    }
      where
        by : (c : ℕ) → at - 1 ≤ c → c < 121 → Dec (c ≡ at - 1) → get_or places c 0 ≡ useful_from line c (length line)
        by c l m (yes e) =
            subst (λ (d : ℕ). get_or places d 0 ≡ useful_from line d (length line)) (sym e)
            (f.own (at - 1) (omega arith) ∙ sym (useful-here line (length line) (omega arith) (at - 1) (omega (arith, f.below)) solid))
        by c l m (no d) = f.each c (omega (arith, d)) m

  -- at the line's beginning all are filled
  pub filled-all : (places : List ℕ) (at : ℕ) → Filled line places at → at ≤ 0 → places ≡ useful_places line
  unfolding useful_places
  filled-all places at f h = as-listed 121 _ places f.sized (λ c l. f.each c (omega arith) l)
