-- The lines, one after another: at each turn what was done, followed by what is left to do, is what the whole program does. A
-- line's part of text, sheets, budgets and bases is the first of what is left of them; its answer stands in the room left, behind the
-- words used before it.
use mathlib.Core.Path.{◌≡◌, refl, sym, ap, ap₂, subst, ◌∙◌}
use mathlib.Core.Bool.{Bool, true, false, ◌&&◌}
use mathlib.Core.List.{List, [], ◌∷◌, ◌++◌, append_assoc, append-nil}
use Prim.Native.Nat.{ℕ, zero, suc, ◌+◌, ◌*◌, ◌-◌, ◌≤◌, ◌<◌}
use native.Mathlib.Nat.{zero-add, add-zero, suc-add}
use native.Mathlib.Numerals.{add-one}
use native.Mathlib.Omega.{arith}
use lib.Dec.{leb, eqb}
use lib.ListN.{length, get_or, take, drop, set, length-set, length-append, length-drop, drop_of_length-le, take-append-drop}
use lib.Seq.{slice, drop-cons, take-nil, take_all, take-suc, take-set-le, get_or-set_same, get_or-set_other, get_or-drop, length-take-le, take-append-add, drop-append-add, drop-drop}
use borrow.Author.Tests.{leb-true}
use Rattle.plain.specs.Choice.{select}
use Rattle.plain.specs.Told.{Told}
use Rattle.plain.proofs.Tests.{and_left, and_right}
use Rattle.lines.specs.Lines.{Line, sheet_size, lines_from, lines_of, ends_fit, sheets_size, program_fits}
use Rattle.lines.proofs.Measured.{fitting}
use Rattle.readings.specs.Plan.{room}
use Rattle.runs.specs.Program.{Ran, taken, run_lines, line_call}
use Rattle.readings.specs.Call.{call_with}
use Rattle.runs.specs.Demand.{Kept}
use Rattle.runs.proofs.Shapes.{Shape, call_shape, shape-keeps}
use Rattle.std.specs.Prelude.{Result}
use Rattle.trials.specs.declared.Matched.{Matched}
use Rattle.trials.specs.declared.Refused.{Refused}
use Rattle.trials.specs.declared.Order.{Order}
use Rattle.trials.specs.Told.{says}
use Rattle.trials.specs.Orders.{order_of}
use Rattle.trials.proofs.Tight.{buffer-of}
use Rattle.trials.proofs.Ordered.{call-few}
use Rattle.program.specs.declared.Row.{Row}
use Rattle.program.specs.Says.{RowOf}
use Rattle.program.specs.Prepared.{Ordered}

-- a line takes no more words than it tells
taken-few : (r : Told) → r.words ≤ 12589058 → taken r ≤ 12589058
unfolding taken
taken-few r h = go (eqb r.number 0)
  where
    go : (b : Bool) → select b r.words 0 ≤ 12589058
    go true = h
    go false = omega arith

-- the start of what is left is a part of the whole
take-of-drop : (m n : ℕ) (l : List ℕ) → take n (drop m l) ≡ slice m (m + n) l
take-of-drop zero n l = ap (λ (k : ℕ). take k l) (sym (zero-add n))
take-of-drop (suc m) n [] = take-nil n ∙ sym (ap (drop (suc m)) (take-nil (suc m + n)))
take-of-drop (suc m) n (x ∷ xs) = take-of-drop m n xs ∙ ap (λ (k : ℕ). slice (suc m) k (x ∷ xs)) (sym (suc-add m n))

get_d-of-drop : (i : ℕ) (l : List ℕ) → get_or (drop i l) 0 0 ≡ get_or l i 0
get_d-of-drop i l = get_or-drop i l 0 0 ∙ ap (λ (k : ℕ). get_or l k 0) (add-zero i)

-- a part of a slice, as it is lent
abbrev part : ℕ → ℕ → List ℕ → List ℕ
part a e l = take (e - a) (drop a l)

part-is : (a e : ℕ) (l : List ℕ) → a ≤ e → part a e l ≡ slice a e l
part-is a e l h = let whole : a + (e - a) ≡ e = omega arith in take-of-drop a (e - a) l ∙ ap (λ (k : ℕ). slice a k l) whole

-- rows and answers before what is left
abbrev pub behind : List ℕ → List ℕ → Ran → Ran
behind rows answers ran = record { rows = rows ++ ran.rows; words = ran.words; answers = answers ++ ran.answers }

module _ (call : Line → List ℕ → Told) (text ends sheets budgets bases : List ℕ) where
  -- the loop stands before line i, which begins at `from`; its sheet stands at `sheet`; so many words are used
  pub record Running (answers₀ : List ℕ) (from sheet used i : ℕ) (rows answers : List ℕ) : Type 0 where
    pub within : i ≤ length ends
    pub fit : ends_fit from (drop i ends) (length text) ≡ true
    pub size : length sheets ≡ sheet + sheets_size from (drop i ends)
    pub few : used ≤ 12589058 * i
    pub room : used ≤ length answers
    pub whole : run_lines call (lines_of text ends sheets budgets bases) 0 answers₀
        ≡ behind (take (2 * i) rows) (take used answers) (run_lines call (lines_from from text (drop i ends) (drop sheet sheets) (drop i budgets) (drop i bases)) used (drop used answers))

  pub running_none : (rows answers : List ℕ) → ends_fit 0 ends (length text) ≡ true → length sheets ≡ sheets_size 0 ends → Running answers 0 0 0 0 rows answers
  running_none rows answers fit size = record {
    within = omega arith;
    fit = fit;
    size = size ∙ omega arith;
    few = omega arith;
    room = omega arith;
    whole = refl;
  }

  module _ {answers₀ : List ℕ} {from sheet used i : ℕ} {rows answers : List ℕ} (run : Running answers₀ from sheet used i rows answers) where
    module _ (more : i < length ends) (end : ℕ) (is : end ≡ get_or ends i 0) where
      next : drop i ends ≡ end ∷ drop (i + 1) ends
      next = drop-cons ends i 0 more ∙ ap (λ (e : ℕ). e ∷ drop (suc i) ends) (sym is) ∙ ap (λ (k : ℕ). end ∷ drop k ends) (sym (add-one i))

      fits-here : (leb from end && (leb end (length text) && ends_fit end (drop (i + 1) ends) (length text))) ≡ true
      unfolding ends_fit
      fits-here = sym (ap (λ (es : List ℕ). ends_fit from es (length text)) next) ∙ run.fit

      pub ends-after : from ≤ end
      ends-after = leb-true from end (and_left (leb from end) _ fits-here)

      pub ends-within : end ≤ length text
      ends-within = leb-true end (length text) (and_left (leb end (length text)) _ (and_right (leb from end) _ fits-here))

      size-here : length sheets ≡ sheet + (sheet_size (end - from) + sheets_size end (drop (i + 1) ends))
      unfolding sheets_size
      size-here = run.size ∙ ap (λ (es : List ℕ). sheet + sheets_size from es) next

      module _ (size : ℕ) (size_is : size ≡ sheet_size (end - from)) where
        pub sheet-within : sheet + size ≤ length sheets
        sheet-within = omega (arith, size-here, size_is)

        -- the line, as it is lent, is the first that is left
        abbrev pub line_here : Line
        line_here = record { bytes = slice from end text; sheet = slice sheet (sheet + size) sheets; budget = get_or budgets i 0; base = get_or bases i 0 }

        line-is : lines_from from text (drop i ends) (drop sheet sheets) (drop i budgets) (drop i bases)
            ≡ line_here ∷ lines_from end text (drop (i + 1) ends) (drop (sheet + size) sheets) (drop (i + 1) budgets) (drop (i + 1) bases)
        unfolding lines_from
        line-is = ap (λ (es : List ℕ). lines_from from text es (drop sheet sheets) (drop i budgets) (drop i bases)) next ∙ λ k. here k ∷ rest k
          where
            sheet-is : take (sheet_size (end - from)) (drop sheet sheets) ≡ slice sheet (sheet + size) sheets
            sheet-is = ap (λ (n : ℕ). take n (drop sheet sheets)) (sym size_is) ∙ take-of-drop sheet size sheets

            here : record { bytes = slice from end text; sheet = take (sheet_size (end - from)) (drop sheet sheets); budget = get_or (drop i budgets) 0 0; base = get_or (drop i bases) 0 0 } ≡ line_here
            here = λ k. record { bytes = slice from end text; sheet = sheet-is k; budget = get_d-of-drop i budgets k; base = get_d-of-drop i bases k }

            sheets-rest : drop (sheet_size (end - from)) (drop sheet sheets) ≡ drop (sheet + size) sheets
            sheets-rest = drop-drop (sheet_size (end - from)) sheet sheets ∙ ap (λ (n : ℕ). drop (sheet + n) sheets) (sym size_is)

            rest : lines_from end text (drop (i + 1) ends) (drop (sheet_size (end - from)) (drop sheet sheets)) (drop 1 (drop i budgets)) (drop 1 (drop i bases))
                ≡ lines_from end text (drop (i + 1) ends) (drop (sheet + size) sheets) (drop (i + 1) budgets) (drop (i + 1) bases)
            rest = λ k. lines_from end text (drop (i + 1) ends) (sheets-rest k) (drop-drop 1 i budgets k) (drop-drop 1 i bases k)

        -- ---- the line told

        module _ (shape : Shape (call line_here)) (got : Result Matched Refused) (buffer : List ℕ) (told : says got buffer ≡ call line_here (drop used answers)) where
          buffer-is : (call line_here (drop used answers)).buffer ≡ buffer
          buffer-is = sym (ap (λ (r : Told). r.buffer) told) ∙ buffer-of got buffer

          kept : Kept (drop used answers) (call line_here (drop used answers))
          kept = shape-keeps shape (drop used answers)

          module _ (n w : ℕ) (number : n ≡ (says got buffer).number) (words : w ≡ taken (says got buffer)) where
            w-is : w ≡ taken (call line_here (drop used answers))
            w-is = words ∙ ap taken told

            module _ (rows' answers' : List ℕ) (rows_are : rows' ≡ set (set rows (2 * i) n) (2 * i + 1) used) (answers-are : answers' ≡ take used answers ++ buffer) (fit : 2 * i + 1 < length rows) where
              front : length (take used answers) ≡ used
              front = length-take-le used answers run.room

              taken_here : take (used + w) answers' ≡ take used answers ++ take w buffer
              taken_here = ap₂ (λ (m : ℕ) (l : List ℕ). take m l) (ap (λ (m : ℕ). m + w) (sym front)) answers-are ∙ take-append-add (take used answers) buffer w

              left_here : drop (used + w) answers' ≡ drop w buffer
              left_here = ap₂ (λ (m : ℕ) (l : List ℕ). drop m l) (ap (λ (m : ℕ). m + w) (sym front)) answers-are ∙ drop-append-add (take used answers) buffer w

              rows_more : take (2 * (i + 1)) rows' ≡ take (2 * i) rows ++ (n ∷ used ∷ [])
              rows_more =
                  ap₂ take double rows_are
                  ∙ take-suc after (suc (2 * i)) 0 (omega (arith, length-set rows (2 * i) n, length-set (set rows (2 * i) n) (2 * i + 1) used))
                  ∙ ap₂ (λ (a b : List ℕ). a ++ b) first (ap (λ (x : ℕ). x ∷ []) last) ∙ append_assoc (take (2 * i) rows) (n ∷ []) (used ∷ [])
                where
                  after : List ℕ
                  after = set (set rows (2 * i) n) (2 * i + 1) used

                  double : 2 * (i + 1) ≡ suc (suc (2 * i))
                  double = omega arith

                  last : get_or after (suc (2 * i)) 0 ≡ used
                  last = ap (λ (k : ℕ). get_or after k 0) (sym (add-one (2 * i))) ∙ get_or-set_same (set rows (2 * i) n) (2 * i + 1) used 0 (omega (arith, length-set rows (2 * i) n))

                  here : get_or after (2 * i) 0 ≡ n
                  here = get_or-set_other (set rows (2 * i) n) (2 * i + 1) (2 * i) used 0 (λ e. omega arith) ∙ get_or-set_same rows (2 * i) n 0 (omega arith)

                  before : take (2 * i) after ≡ take (2 * i) rows
                  before = take-set-le (2 * i) (set rows (2 * i) n) (2 * i + 1) used (omega arith) ∙ take-set-le (2 * i) rows (2 * i) n (omega arith)

                  first : take (suc (2 * i)) after ≡ take (2 * i) rows ++ (n ∷ [])
                  first =
                      take-suc after (2 * i) 0 (omega (arith, length-set rows (2 * i) n, length-set (set rows (2 * i) n) (2 * i + 1) used))
                      ∙ ap₂ (λ (a : List ℕ) (x : ℕ). a ++ (x ∷ [])) before here

              abbrev rest : List Line
              rest = lines_from end text (drop (i + 1) ends) (drop (sheet + size) sheets) (drop (i + 1) budgets) (drop (i + 1) bases)

              -- the line here
              abbrev r : Told
              r = call line_here (drop used answers)

              ran : run_lines call rest (used + taken r) (drop (taken r) r.buffer) ≡ run_lines call rest (used + w) (drop (used + w) answers')
              ran = ap₂ (λ (m : ℕ) (l : List ℕ). run_lines call rest (used + m) (drop m l)) (sym w-is) buffer-is ∙ ap (run_lines call rest (used + w)) (sym left_here)

              rows-turned : take (2 * i) rows ++ (r.number ∷ used ∷ (run_lines call rest (used + taken r) (drop (taken r) r.buffer)).rows)
                  ≡ take (2 * (i + 1)) rows' ++ (run_lines call rest (used + w) (drop (used + w) answers')).rows
              rows-turned =
                  ap₂ (λ (m : ℕ) (x : Ran). take (2 * i) rows ++ (m ∷ used ∷ x.rows)) (sym (number ∙ ap (λ (x : Told). x.number) told)) ran
                  ∙ sym (append_assoc (take (2 * i) rows) (n ∷ used ∷ []) (run_lines call rest (used + w) (drop (used + w) answers')).rows)
                  ∙ ap (λ (l : List ℕ). l ++ (run_lines call rest (used + w) (drop (used + w) answers')).rows) (sym rows_more)

              answers-turned : take used answers ++ (take (taken r) r.buffer ++ (run_lines call rest (used + taken r) (drop (taken r) r.buffer)).answers)
                  ≡ take (used + w) answers' ++ (run_lines call rest (used + w) (drop (used + w) answers')).answers
              answers-turned =
                  ap₂ (λ (l : List ℕ) (x : Ran). take used answers ++ (l ++ x.answers)) (ap₂ take (sym w-is) buffer-is) ran
                  ∙ sym (append_assoc (take used answers) (take w buffer) (run_lines call rest (used + w) (drop (used + w) answers')).answers)
                  ∙ ap (λ (l : List ℕ). l ++ (run_lines call rest (used + w) (drop (used + w) answers')).answers) (sym taken_here)

              pub running_more : (says got buffer).words ≤ 12589058 → Running answers₀ end (sheet + size) (used + w) (i + 1) rows' answers'
              unfolding run_lines taken
              running_more bound = record {
                within = omega arith;
                fit = and_right (leb end (length text)) _ (and_right (leb from end) _ fits-here);
                size = size-here ∙ omega (arith, size_is);
                few = omega (arith, run.few, words-few);
                room = omega (arith, ap length answers-are ∙ length-append (take used answers) buffer, front, ap length (sym buffer-is), kept.long, kept.fits, w-is);
                whole = run.whole ∙ ap (λ (ls : List Line). behind (take (2 * i) rows) (take used answers) (run_lines call ls used (drop used answers))) line-is
                    ∙ λ k. record { rows = rows-turned k; words = (ran k).words; answers = answers-turned k };
              }
                where
                  words-few : w ≤ 12589058
                  words-few = subst (λ (m : ℕ). m ≤ 12589058) (sym words) (taken-few (says got buffer) bound)

    -- after the last line nothing is left
    pub running-all : length ends ≤ i → length rows ≡ 2 * length ends
        → record { rows = rows; words = used; answers = answers } ≡ run_lines call (lines_of text ends sheets budgets bases) 0 answers₀
    unfolding lines_from run_lines
    running-all h long =
        sym
        (run.whole
        ∙ ap (λ (es : List ℕ). behind (take (2 * i) rows) (take used answers) (run_lines call (lines_from from text es (drop sheet sheets) (drop i budgets) (drop i bases)) used (drop used answers))) (drop_of_length-le ends h)
        ∙ λ k. record { rows = all-rows k; words = used; answers = take-append-drop used answers k })
      where
        all-rows : take (2 * i) rows ++ [] ≡ rows
        all-rows = append-nil (take (2 * i) rows) ∙ take_all (2 * i) rows (omega arith)

-- ---- the loop as the code has it

-- what a turn begins with: the lines so far, what was prepared, and the lengths of store and rows
pub record Turn (how : Order) (t text ends sheets budgets bases order answers₀ : List ℕ) (tops from sheet used i : ℕ) (rules store rows answers : List ℕ) : Type 0 where
  pub running : Running (line_call (order_of how) t) text ends sheets budgets bases answers₀ from sheet used i rows answers
  pub ordered : Ordered how t order rules tops
  pub stored : length store ≡ room
  pub long : length rows ≡ 2 * length ends
  pub lent : length budgets ≡ length ends
  pub placed : length bases ≡ length ends
  pub few : length ends ≤ 256
  pub whole : length answers ≡ length answers₀

module _ {how : Order} {t text ends sheets budgets bases order answers : List ℕ} {tops : ℕ} {rules store rows : List ℕ} where
  pub turn-first : program_fits (length text) ends (length sheets) (length budgets) (length bases) (length rows) ≡ true → Ordered how t order rules tops → length store ≡ room
      → Turn how t text ends sheets budgets bases order answers tops 0 0 0 0 rules store rows answers
  turn-first ok o e =
      let l = fitting (length text) ends (length sheets) (length budgets) (length bases) (length rows) ok in
      record {
        running = running_none (line_call (order_of how) t) text ends sheets budgets bases rows answers l.fit l.size;
        ordered = o;
        stored = e;
        long = l.two_each;
        lent = l.one_each;
        placed = l.base_each;
        few = l.few;
        whole = refl;
      }

module _ {how : Order} {t text ends sheets budgets bases order answers₀ : List ℕ} {tops from sheet used i : ℕ} {rules store rows answers : List ℕ}
    (turn : Turn how t text ends sheets budgets bases order answers₀ tops from sheet used i rules store rows answers) (more : i < length ends) where
  -- a row's two places, and what it holds, are small: the words used before a line fit 32 bits
  pub row_within : 2 * i + 1 < length rows
  row_within = omega (arith, turn.long)

  pub used-small : used ≤ 3222798848
  used-small = omega (arith, turn.running.few, turn.few)

  module _ (end : ℕ) (is : end ≡ get_or ends i 0) (size : ℕ) (size_is : size ≡ sheet_size (end - from)) (got : Result Matched Refused) (buffer : List ℕ)
      (lent : says got buffer ≡ call_with (order_of how) t (part from end text) (part sheet (sheet + size) sheets) (get_or budgets i 0) (get_or bases i 0) (part used (length answers) answers)) (row : Row) (row_is : RowOf got row) where
    abbrev line : List ℕ
    line = slice from end text

    abbrev extents : List ℕ
    extents = slice sheet (sheet + size) sheets

    -- the parts lent are those of the definition
    told : says got buffer ≡ call_with (order_of how) t line extents (get_or budgets i 0) (get_or bases i 0) (drop used answers)
    told = lent ∙ λ k. call_with (order_of how) t (bytes k) (sheets-are k) (get_or budgets i 0) (get_or bases i 0) (room-is k)
      where
        bytes : part from end text ≡ line
        bytes = part-is from end text (ends-after (line_call (order_of how) t) text ends sheets budgets bases turn.running more end is)

        sheets-are : part sheet (sheet + size) sheets ≡ extents
        sheets-are = part-is sheet (sheet + size) sheets (omega arith)

        room-is : part used (length answers) answers ≡ drop used answers
        room-is = take_all (length answers - used) (drop used answers) (omega (arith, length-drop used answers))

    said-few : (says got buffer).words ≤ 12589058
    said-few = subst (λ (r : Told). r.words ≤ 12589058) (sym told) (call-few how t line extents (get_or budgets i 0) (get_or bases i 0) (drop used answers))

    pub words_small : row.words ≤ 12589058
    words_small = subst (λ (n : ℕ). n ≤ 12589058) (sym (row_is.words buffer)) (taken-few (says got buffer) said-few)

    pub turn_more : (rules' store' answers' : List ℕ) → Ordered how t order rules' tops → length store' ≡ length store → answers' ≡ take used answers ++ (buffer ++ drop (length answers - used) (drop used answers))
        → Turn how t text ends sheets budgets bases order answers₀ tops end (sheet + size) (used + row.words) (i + 1) rules' store' (set (set rows (2 * i) row.number) (2 * i + 1) used) answers'
    turn_more rules' store' answers' o same e = record {
      running = running_more (line_call (order_of how) t) text ends sheets budgets bases turn.running more end is size size_is
          (call_shape (order_of how) t line extents (get_or budgets i 0) (get_or bases i 0)) got buffer told row.number row.words (row_is.number buffer) (row_is.words buffer)
          (set (set rows (2 * i) row.number) (2 * i + 1) used) answers' refl behind-used row_within said-few;
      ordered = o;
      stored = same ∙ turn.stored;
      long = length-set (set rows (2 * i) row.number) (2 * i + 1) used ∙ length-set rows (2 * i) row.number ∙ turn.long;
      lent = turn.lent;
      placed = turn.placed;
      few = turn.few;
      whole = omega (arith, turn.whole, turn.running.room, ap length behind-used ∙ length-append (take used answers) buffer, length-take-le used answers turn.running.room, buffer-long, length-drop used answers);
    }
      where
        nothing-behind : length (drop used answers) ≤ length answers - used
        nothing-behind = omega (arith, length-drop used answers)

        behind-used : answers' ≡ take used answers ++ buffer
        behind-used = e ∙ ap (λ (l : List ℕ). take used answers ++ l) (ap (λ (l : List ℕ). buffer ++ l) (drop_of_length-le (drop used answers) nothing-behind) ∙ append-nil buffer)

        buffer-long : length buffer ≡ length (drop used answers)
        buffer-long = ap length (sym (buffer-of got buffer) ∙ ap (λ (r : Told). r.buffer) told) ∙ (shape-keeps (call_shape (order_of how) t line extents (get_or budgets i 0) (get_or bases i 0)) (drop used answers)).long

pub used-few : {how : Order} {t text ends sheets budgets bases order answers₀ : List ℕ} {tops from sheet used i : ℕ} {rules store rows answers : List ℕ}
    → Turn how t text ends sheets budgets bases order answers₀ tops from sheet used i rules store rows answers → used ≤ 3222798848
used-few turn = omega (arith, turn.running.few, turn.running.within, turn.few)

pub rows-first : (text ends sheets budgets bases rows : List ℕ) → program_fits (length text) ends (length sheets) (length budgets) (length bases) (length rows) ≡ true → length rows ≡ 2 * length ends
rows-first text ends sheets budgets bases rows ok = (fitting (length text) ends (length sheets) (length budgets) (length bases) (length rows) ok).two_each
