-- Lines one after another, cut in two: the first lines run as by themselves, the others on the room that these leave, their
-- rows moved on by the words used before. And where there is room, what room there is does not matter.
use mathlib.Core.Path.{◌≡◌, refl, sym, ap, ap₂, ◌∙◌}
use mathlib.Core.List.{List, [], ◌∷◌, ◌++◌, append_assoc}
use Prim.Native.Nat.{ℕ, ◌+◌, ◌≤◌}
use native.Mathlib.Omega.{arith}
use lib.ListN.{length, take, drop, length-append, length-drop}
use lib.Seq.{take_at, drop_at, drop-drop, length-take-le}
use Rattle.plain.specs.Told.{Told}
use Rattle.lines.specs.Lines.{Line}
use Rattle.runs.specs.Program.{Ran, taken, line_then, run_lines}
use Rattle.runs.specs.Joined.{moved_rows, NoneTooLong}
use Rattle.runs.proofs.Shapes.{Shape, shape-keeps, shape-room, shape-words, same_taken}

module _ (call : Line → List ℕ → Told) where
  -- the room after a line
  abbrev after : Line → List ℕ → List ℕ
  after x room = drop (taken (call x room)) (call x room).buffer

  -- ---- rows moved on

  pub lines-moved : (xs : List Line) (k used : ℕ) (room : List ℕ)
      → run_lines call xs (k + used) room
      ≡ record { rows = moved_rows k (run_lines call xs used room).rows; words = k + (run_lines call xs used room).words; answers = (run_lines call xs used room).answers }
  unfolding run_lines moved_rows
  lines-moved [] k used room = refl
  lines-moved (x ∷ xs) k used room =
      let sum : k + used + taken (call x room) ≡ k + (used + taken (call x room)) = omega arith in
      ap (line_then (call x room) (k + used)) (ap (λ (n : ℕ). run_lines call xs n (after x room)) sum ∙ lines-moved xs k (used + taken (call x room)) (after x room))

  -- ---- cut in two

  -- what lines write, and the room that they leave
  wrote : List Line → List ℕ → List ℕ
  wrote [] room = []
  wrote (x ∷ xs) room = take (taken (call x room)) (call x room).buffer ++ wrote xs (after x room)

  left : List Line → List ℕ → List ℕ
  left [] room = room
  left (x ∷ xs) room = left xs (after x room)

  module _ (shape : (x : Line) → Shape (call x)) where
    line_wrote : (x : Line) (room : List ℕ) → length (take (taken (call x room)) (call x room).buffer) ≡ taken (call x room)
    line_wrote x room = let kept = shape-keeps (shape x) room in length-take-le (taken (call x room)) (call x room).buffer (omega (arith, kept.long, kept.fits))

    run-words : (xs : List Line) (used : ℕ) (room : List ℕ) → (run_lines call xs used room).words ≡ used + length (wrote xs room)
    unfolding run_lines wrote
    run-words [] used room = omega arith
    run-words (x ∷ xs) used room =
        run-words xs (used + taken (call x room)) (after x room)
        ∙ omega (arith, length-append (take (taken (call x room)) (call x room).buffer) (wrote xs (after x room)), line_wrote x room)

    run-answers : (xs : List Line) (used : ℕ) (room : List ℕ) → (run_lines call xs used room).answers ≡ wrote xs room ++ left xs room
    unfolding run_lines wrote left
    run-answers [] used room = refl
    run-answers (x ∷ xs) used room =
        ap (λ (l : List ℕ). take (taken (call x room)) (call x room).buffer ++ l) (run-answers xs (used + taken (call x room)) (after x room))
        ∙ sym (append_assoc (take (taken (call x room)) (call x room).buffer) (wrote xs (after x room)) (left xs (after x room)))

    cut : (xs ys : List Line) (used : ℕ) (room : List ℕ)
        → run_lines call (xs ++ ys) used room
        ≡ record {
          rows = (run_lines call xs used room).rows ++ (run_lines call ys (run_lines call xs used room).words (left xs room)).rows;
          words = (run_lines call ys (run_lines call xs used room).words (left xs room)).words;
          answers = wrote xs room ++ (run_lines call ys (run_lines call xs used room).words (left xs room)).answers;
        }
    unfolding run_lines wrote left
    cut [] ys used room = refl
    cut (x ∷ xs) ys used room =
        ap (line_then (call x room) used) (cut xs ys (used + taken (call x room)) (after x room))
        ∙ ap (λ (l : List ℕ). record {
          rows = (call x room).number ∷ used ∷ ((run_lines call xs (used + taken (call x room)) (after x room)).rows ++ (run_lines call ys (run_lines call xs (used + taken (call x room)) (after x room)).words (left xs (after x room))).rows);
          words = (run_lines call ys (run_lines call xs (used + taken (call x room)) (after x room)).words (left xs (after x room))).words;
          answers = l;
        }) (sym (append_assoc (take (taken (call x room)) (call x room).buffer) (wrote xs (after x room)) _))

    module _ (xs : List Line) (room : List ℕ) where
      words-wrote : (run_lines call xs 0 room).words ≡ length (wrote xs room)
      words-wrote = run-words xs 0 room ∙ omega arith

      wrote-is : wrote xs room ≡ take (run_lines call xs 0 room).words (run_lines call xs 0 room).answers
      wrote-is = sym (ap (take (run_lines call xs 0 room).words) (run-answers xs 0 room) ∙ take_at (wrote xs room) (left xs room) (run_lines call xs 0 room).words (sym words-wrote))

      left_is : left xs room ≡ drop (run_lines call xs 0 room).words (run_lines call xs 0 room).answers
      left_is = sym (ap (drop (run_lines call xs 0 room).words) (run-answers xs 0 room) ∙ drop_at (wrote xs room) (left xs room) (run_lines call xs 0 room).words (sym words-wrote))

    -- the first lines' rows, then the others', moved on by the first's words, on the room that the first leave
    module _ (xs ys : List Line) (room : List ℕ) where
      abbrev first : Ran
      first = run_lines call xs 0 room

      abbrev second : Ran
      second = run_lines call ys 0 (drop first.words first.answers)

      pub lines-joined : run_lines call (xs ++ ys) 0 room
          ≡ record { rows = first.rows ++ moved_rows first.words second.rows; words = first.words + second.words; answers = take first.words first.answers ++ second.answers }
      lines-joined =
          cut xs ys 0 room
          ∙ ap (λ (r : Ran). record { rows = first.rows ++ r.rows; words = r.words; answers = wrote xs room ++ r.answers })
          (ap (λ (l : List ℕ). run_lines call ys first.words l) (left_is xs room)
          ∙ ap (λ (n : ℕ). run_lines call ys n (drop first.words first.answers)) from-none
          ∙ lines-moved ys first.words 0 (drop first.words first.answers))
          ∙ ap (λ (l : List ℕ). record { rows = first.rows ++ moved_rows first.words second.rows; words = first.words + second.words; answers = l ++ second.answers }) (wrote-is xs room)
        where
          from-none : first.words ≡ first.words + 0
          from-none = omega arith

    -- ---- room

    -- what is behind the words written stays as it was
    left-rest : (xs : List Line) (room : List ℕ) → left xs room ≡ drop (length (wrote xs room)) room
    unfolding wrote left
    left-rest [] room = refl
    left-rest (x ∷ xs) room =
        let kept = shape-keeps (shape x) room in
        left-rest xs (after x room) ∙ ap (drop (length (wrote xs (after x room)))) kept.rest
        ∙ drop-drop (length (wrote xs (after x room))) (taken (call x room)) room
        ∙ ap (λ (n : ℕ). drop n room) (long x xs room)
      where
        long : (x : Line) (xs : List Line) (room : List ℕ) → taken (call x room) + length (wrote xs (after x room)) ≡ length (take (taken (call x room)) (call x room).buffer ++ wrote xs (after x room))
        long x xs room = omega (arith, length-append (take (taken (call x room)) (call x room).buffer) (wrote xs (after x room)), line_wrote x room)

    -- so the answers behind the words used are unchanged
    pub lines_rest : (xs : List Line) (room : List ℕ) → drop (run_lines call xs 0 room).words (run_lines call xs 0 room).answers ≡ drop (run_lines call xs 0 room).words room
    lines_rest xs room = sym (left_is xs room) ∙ left-rest xs room ∙ ap (λ (n : ℕ). drop n room) (sym (words-wrote xs room))

    -- lines of which none lacks room are told the same wherever there is room for what they take
    roomy : (ys : List Line) (used : ℕ) (a b : List ℕ) → NoneTooLong (run_lines call ys used a).rows → length (wrote ys a) ≤ length b
        → ((run_lines call ys used a).rows ≡ (run_lines call ys used b).rows) × (wrote ys a ≡ wrote ys b)
    unfolding run_lines wrote
    roomy [] used a b none h = (refl, refl)
    roomy (y ∷ ys) used a b none h =
        let size = length-append (take (taken (call y a)) (call y a).buffer) (wrote ys (after y a)) in
        let fits : taken (call y a) ≤ length b = omega (arith, size, line_wrote y a) in
        let (n, w) = shape-room (shape y) a b none.0 fits in
        let same = same_taken (call y a) (call y b) n w in
        let kept = shape-keeps (shape y) b in
        let room : length (wrote ys (after y a)) ≤ length (after y b)
        = omega (arith, size, line_wrote y a, length-drop (taken (call y b)) (call y b).buffer, kept.long, kept.fits, same) in
        let (rs, ws) = roomy ys (used + taken (call y a)) (after y a) (after y b) none.1 room in (
          ap₂ (λ (k : ℕ) (l : List ℕ). k ∷ used ∷ l) n (rs ∙ ap (λ (k : ℕ). (run_lines call ys (used + k) (after y b)).rows) same),
          ap₂ ◌++◌ (shape-words (shape y) a b none.0 fits) ws,
        )

    -- so the others' rows are those that they have by themselves, on any buffer on which none lacks room, and all words stand
    -- one after another
    module _ (xs ys : List Line) (room own : List ℕ) where
      abbrev alone : Ran
      alone = run_lines call ys 0 own

      pub lines-roomy : NoneTooLong alone.rows → (run_lines call xs 0 room).words + alone.words ≤ length room
          → run_lines call (xs ++ ys) 0 room
          ≡ record {
            rows = (run_lines call xs 0 room).rows ++ moved_rows (run_lines call xs 0 room).words alone.rows;
            words = (run_lines call xs 0 room).words + alone.words;
            answers = take (run_lines call xs 0 room).words (run_lines call xs 0 room).answers ++ (take alone.words alone.answers ++ drop ((run_lines call xs 0 room).words + alone.words) room);
          }
      lines-roomy none h =
          lines-joined xs ys room
          ∙ λ i. record {
            rows = (run_lines call xs 0 room).rows ++ moved_rows (run_lines call xs 0 room).words (sym same.0 i);
            words = (run_lines call xs 0 room).words + words i;
            answers = take (run_lines call xs 0 room).words (run_lines call xs 0 room).answers ++ answers i;
          }
        where
          rest : List ℕ
          rest = drop (run_lines call xs 0 room).words (run_lines call xs 0 room).answers

          rest-is : rest ≡ drop (run_lines call xs 0 room).words room
          rest-is = lines_rest xs room

          fits : length (wrote ys own) ≤ length rest
          fits = omega (arith, words-wrote ys own, ap length rest-is, length-drop (run_lines call xs 0 room).words room)

          same : (alone.rows ≡ (run_lines call ys 0 rest).rows) × (wrote ys own ≡ wrote ys rest)
          same = roomy ys 0 own rest none fits

          words : (run_lines call ys 0 rest).words ≡ alone.words
          words = words-wrote ys rest ∙ ap length (sym same.1) ∙ sym (words-wrote ys own)

          answers : (run_lines call ys 0 rest).answers ≡ take alone.words alone.answers ++ drop ((run_lines call xs 0 room).words + alone.words) room
          answers =
              run-answers ys 0 rest
              ∙ ap₂ ◌++◌ (sym same.1 ∙ wrote-is ys own)
              (left-rest ys rest ∙ ap₂ drop (ap length (sym same.1) ∙ sym (words-wrote ys own)) rest-is ∙ drop-drop alone.words (run_lines call xs 0 room).words room)
