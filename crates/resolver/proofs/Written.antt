-- A loop that writes the indices of a size at a buffer's start: at each turn the buffer has the indices passed, and
-- the rest is as it was.
use mathlib.Core.Path.{◌≡◌, refl, sym, ap, ◌∙◌}
use mathlib.Core.Bool.{Bool, true, false}
use mathlib.Core.List.{List, [], ◌∷◌, ◌++◌, map, append_assoc}
use Rattle.std.specs.Prelude.{Option}
use Prim.Native.Nat.{ℕ, ◌+◌, ◌≤◌, ◌<◌}
use native.Mathlib.Numerals.{add-one}
use native.Mathlib.Omega.{arith}
use lib.ListN.{length, get_or, set, length-append, length-set, length-map, get_or-map}
use lib.Seq.{drop-cons, set_at}
use Rattle.plain.specs.Buffers.{at_start}
use Rattle.plain.specs.Lists.{range, keep_if}
use Rattle.resolver.specs.Outcome.{of_kind, outcome_of}
use Rattle.resolver.specs.Outcome.Outcome.{unresolved}
use Rattle.resolver.specs.Selection.{has_size, indices_of}
use Rattle.plain.proofs.Kept.{kept, kept_in, kept_out, kept-grows}

-- one index more at the end of those written
write-next :
    (buffer indices : List ℕ) (v : ℕ) → length indices < length buffer →
    set (at_start indices buffer) (length indices) v ≡ at_start (indices ++ (v ∷ [])) buffer
write-next buffer indices v room =
    rw (drop-cons buffer (length indices) 0 room, length-append)
    (set_at indices _ _ v (length indices) refl ∙ rw (append_assoc, add-one))

-- the outcome of the word at an index
outcome-at : (ws : List ℕ) (i : ℕ) → get_or (map outcome_of ws) i unresolved ≡ outcome_of (get_or ws i 0)
unfolding outcome_of of_kind
outcome-at ws i = get_or-map outcome_of ws i 0

-- the indices below n of the words that have a size
abbrev pub indices_below : List ℕ → Option ℕ → ℕ → List ℕ
indices_below ws size n = kept (λ i. has_size size (get_or (map outcome_of ws) i unresolved)) n

-- i words are passed, and the next index goes to a place of the buffer, which has room for every index
pub record Writing (ws : List ℕ) (size : Option ℕ) (buffer : List ℕ) (i place : ℕ) (now : List ℕ) : Type 0 where
  pub within : i ≤ length ws
  pub room : length (indices_of size (map outcome_of ws)) ≤ length buffer
  pub long : length now ≡ length buffer
  pub place_is : place ≡ length (indices_below ws size i)
  pub now_is : now ≡ at_start (indices_below ws size i) buffer

pub none_written :
    (ws : List ℕ) (size : Option ℕ) (buffer : List ℕ) → length (indices_of size (map outcome_of ws)) ≤ length buffer →
    Writing ws size buffer 0 0 buffer
unfolding range keep_if
none_written ws size buffer room =
    record { within = omega arith; room = room; long = refl; place_is = refl; now_is = refl }

module _ (ws : List ℕ) (size : Option ℕ) where
  all-indices : indices_below ws size (length ws) ≡ indices_of size (map outcome_of ws)
  unfolding indices_of
  all-indices = rw (length-map ws outcome_of)

  -- no more indices are passed than there are
  indices-most : (n : ℕ) → n ≤ length ws → length (indices_below ws size n) ≤ length (indices_of size (map outcome_of ws))
  indices-most n within =
      rw all-indices at (kept-grows (λ k. has_size size (get_or (map outcome_of ws) k unresolved)) n (length ws) within)

module _
    {ws : List ℕ} {size : Option ℕ} {buffer : List ℕ} {i place : ℕ} {now : List ℕ}
    (before : Writing ws size buffer i place now) where
  -- after the last turn every index is written
  pub all-written : length ws ≤ i → now ≡ at_start (indices_of size (map outcome_of ws)) buffer
  all-written past =
      let end : i ≡ length ws = omega (arith, before.within) in
      before.now_is
      ∙ ap (λ (n : ℕ). at_start (indices_below ws size n) buffer) end
      ∙ ap (λ (is : List ℕ). at_start is buffer) (all-indices ws size)

  module _ (more : i < length ws) {test : Bool} (answer : test ≡ has_size size (outcome_of (get_or ws i 0))) where
    at-index : has_size size (get_or (map outcome_of ws) i unresolved) ≡ test
    at-index = ap (has_size size) (outcome-at ws i) ∙ sym answer

    -- the next word has another size
    pub not_written : test ≡ false → Writing ws size buffer (i + 1) place now
    not_written out =
        let same : indices_below ws size (i + 1) ≡ indices_below ws size i = rw add-one (kept_out _ i (at-index ∙ out)) in
        record {
          within = omega arith;
          room = before.room;
          long = before.long;
          place_is = rw same before.place_is;
          now_is = rw same before.now_is;
        }

    module _ (chosen : test ≡ true) where
      one_more : indices_below ws size (i + 1) ≡ indices_below ws size i ++ (i ∷ [])
      one_more = rw add-one (kept_in _ i (at-index ∙ chosen))

      more-length : length (indices_below ws size (i + 1)) ≡ place + 1
      more-length = rw (one_more, length-append, before.place_is)

      -- it has this size: there is a place for its index
      pub has-place : place < length now
      has-place = omega (arith, before.long, before.room, more-length, indices-most ws size (i + 1) (omega arith))

      -- its index is written there
      pub one_written : Writing ws size buffer (i + 1) (place + 1) (set now place i)
      one_written =
          record {
            within = omega arith;
            room = before.room;
            long = length-set now place i ∙ before.long;
            place_is = sym more-length;
            now_is =
                rw (one_more, before.now_is, before.place_is)
                (write-next buffer (indices_below ws size i) i (omega (arith, has-place, before.long, before.place_is)));
          }
