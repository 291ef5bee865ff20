-- The trees written one after another. After the records so far the buffer has the words of those of their matches that
-- have the greatest count; the words of all of them fit, so those of the next one do.
use Rattle.std.specs.Prelude.{Some}
use mathlib.Core.Path.{◌≡◌, refl, sym, ap, ◌∙◌}
use mathlib.Core.List.{List, [], ◌∷◌, ◌++◌, map, map-append}
use Prim.Native.Nat.{ℕ, ◌+◌, ◌≤◌, ◌<◌}
use native.Mathlib.Nat.{zero-add}
use native.Mathlib.Omega.{arith}
use lib.ListN.{length, get_or, drop, set, length-append, length-map}
use lib.Seq.{sets-eq}
use Rattle.plain.specs.Lists.{keep_if}
use Rattle.plain.specs.Buffers.{put_after}
use Rattle.readings.specs.Tree.{Tree, moved}
use Rattle.readings.specs.Scene.{Scene, scene_of}
use Rattle.readings.specs.Answer.{exact_count, greatest_count, best, tree_words, all_words, words_of, answer_words}
use Rattle.readings.proofs.Moved.{length_moved, all_moved, words-moved}
use Rattle.pool.specs.Log.{decode, depth_in}
use Rattle.pool.specs.Meaning.{tree_at, Stored, entries}
use Rattle.plain.proofs.Buffers.{put-none, put-end, put-more}
use Rattle.answer.specs.declared.Measure.{Measure}
use Rattle.answer.specs.Measured.{trees_in, trees_to, measured}
use Rattle.plain.specs.Buffers.{at_start}
use Rattle.answer.proofs.Tops.{none_yet, the_rest, all-passed, none_here, one-here}
use Rattle.answer.proofs.Greatest.{with_count, with_count-append, kept, dropped, words_append, words_more}

-- ---- the head, and the trees after it

module _ (t : List ℕ) (ts : List Tree) {m : Measure} (is : m ≡ measured t ts) where
  abbrev scene : Scene
  scene = scene_of t [] []

  counts : m.greatest ≡ greatest_count scene ts
  unfolding measured
  counts = ap (λ (x : Measure). x.greatest) is

  trees : with_count scene m.greatest ts ≡ best scene ts
  unfolding best
  trees = ap (λ (k : ℕ). with_count scene k ts) counts

  module _ (base : ℕ) where
    -- the words of the matches kept, moved by the base
    abbrev kept_words : List ℕ
    kept_words = all_words (map (moved base) (with_count scene m.greatest ts))

    pub two-more : 2 + length kept_words ≡ m.words
    unfolding measured words_of
    two-more =
        omega (
          arith,
          ap (λ (us : List Tree). length (all_words (map (moved base) us))) trees,
          all_moved scene base (best scene ts),
          ap (λ (x : Measure). x.words) is,
        )

    pub room-for-all : {n : ℕ} → m.words ≤ n → 2 + length kept_words ≤ n
    room-for-all h = omega (arith, two-more)

    together : (m.matches ∷ m.greatest ∷ []) ++ kept_words ≡ answer_words scene (map (moved base) ts)
    unfolding measured words_of
    together =
        rw (trees, counts) (ap (λ (x : Measure). x.matches ∷ greatest_count scene ts ∷ all_words (map (moved base) (best scene ts))) is)
        ∙ ap (λ (n : ℕ). n ∷ greatest_count scene ts ∷ all_words (map (moved base) (best scene ts))) (sym (length-map (best scene ts) (moved base)))
        ∙ sym (words-moved scene base ts)

    pub answered : (buffer : List ℕ) → m.words ≤ length buffer → {answer : List ℕ} {at : ℕ}
        → (answer, at) ≡ put_after 2 kept_words (set (set buffer 0 m.matches) 1 m.greatest)
        → answer ≡ at_start (answer_words scene (map (moved base) ts)) buffer
    answered buffer room p =
        let head : (set (set buffer 0 m.matches) 1 m.greatest, 2) ≡ put_after 0 (m.matches ∷ m.greatest ∷ []) buffer =
        ap (λ (l : List ℕ). (l, 2)) (sets-eq (m.matches ∷ m.greatest ∷ []) buffer 0 (omega (arith, two-more))) in
        let whole = put-more 0 (m.matches ∷ m.greatest ∷ []) kept_words buffer (omega (arith, two-more)) head p in
        ap (λ (x : List ℕ × ℕ). x.0) whole
        ∙ ap (λ (ws : List ℕ). ws ++ drop (0 + length ws) buffer) together
        ∙ ap (λ (k : ℕ). answer_words scene (map (moved base) ts) ++ drop k buffer) (zero-add (length (answer_words scene (map (moved base) ts))))

-- ---- the trees

module _ (t store : List ℕ) (used n base : ℕ) where
  abbrev s : Scene
  s = scene_of t [] []

  -- the words of the matches with a count, among some matches, moved by the base
  abbrev words : List Tree → List ℕ
  words ts = all_words (map (moved base) (with_count s n ts))

  words-two : (ts us : List Tree) → all_words (map (moved base) (ts ++ us)) ≡ all_words (map (moved base) ts) ++ all_words (map (moved base) us)
  words-two ts us = ap all_words (map-append (moved base) ts us) ∙ words_append (map (moved base) ts) (map (moved base) us)

  -- the words so far are in the buffer from a place on, where there is room for all
  pub record Writing (buffer : List ℕ) (from i : ℕ) (answer : List ℕ) (at : ℕ) : Type 0 where
    pub within : i ≤ used
    pub room : from + length (words (trees_in store used)) ≤ length buffer
    pub long : length answer ≡ length buffer
    pub put : (answer, at) ≡ put_after from (words (trees_to store used i)) buffer

  module _ {buffer : List ℕ} {from : ℕ} where
    pub none_written : from + length (words (trees_in store used)) ≤ length buffer → Writing buffer from 0 buffer from
    unfolding keep_if all_words
    none_written h = record {
      within = omega arith;
      room = h;
      long = refl;
      put = put-none from buffer ∙ ap (λ (ts : List Tree). put_after from (words ts) buffer) (sym (none_yet store used));
    }

    module _ (stored : Stored store used) {i : ℕ} {answer : List ℕ} {at : ℕ} (w : Writing buffer from i answer at) where
      pub all-written : used ≤ i → (answer, at) ≡ put_after from (words (trees_in store used)) buffer
      all-written h = w.put ∙ ap (λ (ts : List Tree). put_after from (words ts) buffer) (all-passed store used stored i h)

      module _ (h : i < used) where
        pub none_more : (depth_in (decode (get_or store i 0)) ≡ Some 0 → ⊥) → Writing buffer from (i + 1) answer at
        none_more ne = record {
          within = omega arith;
          room = w.room;
          long = w.long;
          put = w.put ∙ ap (λ (ts : List Tree). put_after from (words ts) buffer) (sym (none_here store used stored i h ne));
        }

        module _ (top : depth_in (decode (get_or store i 0)) ≡ Some 0) where
          pub not_written : (exact_count s (tree_at (entries store used) i) ≡ n → ⊥) → Writing buffer from (i + 1) answer at
          not_written ne =
              let same : with_count s n (trees_to store used (i + 1)) ≡ with_count s n (trees_to store used i) =
              ap (with_count s n) (one-here store used stored i h top) ∙ dropped s n (trees_to store used i) (tree_at (entries store used) i) ne in
              record {
                within = omega arith;
                room = w.room;
                long = w.long;
                put = w.put ∙ ap (λ (ts : List Tree). put_after from (all_words (map (moved base) ts)) buffer) (sym same);
              }

          module _ (e : exact_count s (tree_at (entries store used) i) ≡ n) where
            abbrev own_words : List ℕ
            own_words = tree_words (moved base (tree_at (entries store used) i))

            grown : words (trees_to store used (i + 1)) ≡ words (trees_to store used i) ++ own_words
            grown =
                ap words (one-here store used stored i h top)
                ∙ ap (λ (ts : List Tree). all_words (map (moved base) ts)) (kept s n (trees_to store used i) (tree_at (entries store used) i) e)
                ∙ ap all_words (map-append (moved base) (with_count s n (trees_to store used i)) (tree_at (entries store used) i ∷ []))
                ∙ words_more (map (moved base) (with_count s n (trees_to store used i))) (moved base (tree_at (entries store used) i))

            fits : from + (length (words (trees_to store used i)) + length own_words) ≤ length buffer
            fits =
                let (rest, q) = the_rest store used (i + 1) in
                let r = w.room in
                omega (
                  arith,
                  ap (λ (ts : List Tree). length (words ts)) q,
                  ap (λ (ts : List Tree). length (all_words (map (moved base) ts))) (with_count-append s n (trees_to store used (i + 1)) rest),
                  ap length (words-two (with_count s n (trees_to store used (i + 1))) (with_count s n rest)),
                  length-append (words (trees_to store used (i + 1))) (words rest),
                  ap length grown,
                  length-append (words (trees_to store used i)) own_words,
                )

            pub has_room : at + length (tree_words (tree_at (entries store used) i)) ≤ length answer
            has_room = omega (arith, fits, length_moved base (tree_at (entries store used) i), put-end from (words (trees_to store used i)) buffer w.put, w.long)

            pub one_written : {answer' : List ℕ} {at' : ℕ} → length answer' ≡ length answer
                → (answer', at') ≡ put_after at own_words answer → Writing buffer from (i + 1) answer' at'
            one_written l p = record {
              within = omega arith;
              room = w.room;
              long = l ∙ w.long;
              put =
                  put-more from (words (trees_to store used i)) own_words buffer (omega (arith, fits)) w.put p
                  ∙ ap (λ (ws : List ℕ). put_after from ws buffer) (sym grown);
            }
