-- Programs joined, and the program of one line. A line's bytes, sheet, budget and base are read from its own part of what is lent, so
-- the lines of two programs joined are the lines of the one and then of the other.
use mathlib.Core.Path.{◌≡◌, refl, sym, ap, ap₂, subst, ◌∙◌}
use mathlib.Core.Bool.{true, ◌&&◌}
use mathlib.Core.List.{List, [], ◌∷◌, ◌++◌, map}
use Prim.Native.Nat.{ℕ, ◌+◌, ◌-◌, ◌≤◌}
use native.Mathlib.Omega.{arith}
use lib.Dec.{leb}
use lib.ListN.{length, get_or, take, drop, length-drop, take-append-drop}
use lib.Seq.{slice, take_all, take-append-le, drop-append-le, take-append-add, drop-append-add}
use borrow.Author.Tests.{leb-true}
use Rattle.plain.specs.Told.{Told}
use Rattle.plain.proofs.Tests.{and_left, and_right}
use Rattle.defs.specs.Table.{table_fits}
use Rattle.readings.specs.Scene.{Scene}
use Rattle.readings.specs.Call.{call_with}
use Rattle.lines.specs.Lines.{Line, sheet_size, lines_from, lines_of, ends_fit, sheets_size, program_fits}
use Rattle.runs.specs.Program.{taken, run_lines, line_call, ProgramTold, ran_whole, program_with}
use Rattle.runs.specs.Joined.{moved_rows, NoneTooLong, last_end}
use Rattle.lines.proofs.Measured.{fitting}
use Rattle.runs.proofs.Shapes.{line-shape}
use Rattle.runs.proofs.Joined.{lines_rest, lines-roomy}
use Rattle.runs.proofs.Wholes.{ran-whole}

-- a part behind a beginning
slice-behind : (pre text : List ℕ) (from end : ℕ) → slice (length pre + from) (length pre + end) (pre ++ text) ≡ slice from end text
slice-behind pre text from end = ap (drop (length pre + from)) (take-append-add pre text end) ∙ drop-append-add pre (take end text) from

-- ---- the lines of joined programs

module _ (more moreSheets moreBudgets moreBases : List ℕ) (fs : List ℕ) where
  lines-first : (from : ℕ) (text es sheets budgets bases : List ℕ) → ends_fit from es (length text) ≡ true → length sheets ≡ sheets_size from es → length budgets ≡ length es → length bases ≡ length es
      → lines_from from (text ++ more) (es ++ fs) (sheets ++ moreSheets) (budgets ++ moreBudgets) (bases ++ moreBases)
      ≡ lines_from from text es sheets budgets bases ++ lines_from (last_end from es) (text ++ more) fs moreSheets moreBudgets moreBases
  unfolding lines_from ends_fit sheets_size last_end
  lines-first from text [] [] [] [] fit s b c = refl
  lines-first from text [] (x ∷ sheets) budgets bases fit s b c = absurd (omega arith)
  lines-first from text [] [] (x ∷ budgets) bases fit s b c = absurd (omega arith)
  lines-first from text [] [] [] (x ∷ bases) fit s b c = absurd (omega arith)
  lines-first from text (e ∷ es) sheets [] bases fit s b c = absurd (omega arith)
  lines-first from text (e ∷ es) sheets (v ∷ budgets) [] fit s b c = absurd (omega arith)
  lines-first from text (e ∷ es) sheets (v ∷ budgets) (u ∷ bases) fit s b c =
      let rest = and_right (leb from e) (leb e (length text) && ends_fit e es (length text)) fit in
      let within = leb-true e (length text) (and_left (leb e (length text)) (ends_fit e es (length text)) rest) in
      let size : sheet_size (e - from) ≤ length sheets = omega arith in
      λ i. record { bytes = drop from (take-append-le e text more within i); sheet = take-append-le (sheet_size (e - from)) sheets moreSheets size i; budget = v; base = u }
      ∷ (ap (λ (l : List ℕ). lines_from e (text ++ more) (es ++ fs) l (budgets ++ moreBudgets) (bases ++ moreBases)) (drop-append-le (sheet_size (e - from)) sheets moreSheets size)
      ∙ lines-first e text es (drop (sheet_size (e - from)) sheets) budgets bases (and_right (leb e (length text)) (ends_fit e es (length text)) rest)
      (omega (arith, length-drop (sheet_size (e - from)) sheets)) (omega arith) (omega arith)) i

lines-behind : (pre text : List ℕ) (from : ℕ) (es sheets budgets bases : List ℕ)
    → lines_from (length pre + from) (pre ++ text) (map (λ e. length pre + e) es) sheets budgets bases ≡ lines_from from text es sheets budgets bases
unfolding lines_from
lines-behind pre text from [] sheets budgets bases = refl
lines-behind pre text from (e ∷ es) sheets budgets bases =
    let same : (length pre + e) - (length pre + from) ≡ e - from = omega arith in
    λ i. record { bytes = slice-behind pre text from e i; sheet = take (sheet_size (same i)) sheets; budget = get_or budgets 0 0; base = get_or bases 0 0 }
    ∷ (ap (λ (n : ℕ). lines_from (length pre + e) (pre ++ text) (map (λ e. length pre + e) es) (drop (sheet_size n) sheets) (drop 1 budgets) (drop 1 bases)) same
    ∙ lines-behind pre text e es (drop (sheet_size (e - from)) sheets) (drop 1 budgets) (drop 1 bases)) i

module _ (text ends sheets budgets bases : List ℕ) (text' ends' sheets' budgets' bases' : List ℕ) where
  -- the second text stands behind the first, which its last line ends
  abbrev pub joined_ends : List ℕ
  joined_ends = ends ++ map (λ e. length text + e) ends'

  pub joined-lines : (rows : List ℕ) → program_fits (length text) ends (length sheets) (length budgets) (length bases) (length rows) ≡ true → last_end 0 ends ≡ length text
      → lines_of (text ++ text') joined_ends (sheets ++ sheets') (budgets ++ budgets') (bases ++ bases') ≡ lines_of text ends sheets budgets bases ++ lines_of text' ends' sheets' budgets' bases'
  joined-lines rows ok whole =
      let l = fitting (length text) ends (length sheets) (length budgets) (length bases) (length rows) ok in
      let from : last_end 0 ends ≡ length text + 0 = whole ∙ omega arith in
      lines-first text' sheets' budgets' bases' (map (λ e. length text + e) ends') 0 text ends sheets budgets bases l.fit l.size l.one_each l.base_each
      ∙ ap (λ (ls : List Line). lines_of text ends sheets budgets bases ++ ls)
      (ap (λ (n : ℕ). lines_from n (text ++ text') (map (λ e. length text + e) ends') sheets' budgets' bases') from ∙ lines-behind text text' 0 ends' sheets' budgets' bases')

  module _ (order : Scene → List (ℕ × ℕ)) (t rows rows' rows'' answers own : List ℕ) where
    abbrev first : ProgramTold
    first = program_with order t text ends sheets budgets bases rows answers

    abbrev second : ProgramTold
    second = program_with order t text' ends' sheets' budgets' bases' rows' own

    abbrev joined : ProgramTold
    joined = program_with order t (text ++ text') joined_ends (sheets ++ sheets') (budgets ++ budgets') (bases ++ bases') rows'' answers

    -- Two programs, neither refused, and joined not refused, the first's text all lines: if no line of the second lacks room by
    -- itself, and there is room for the words of both, the joined program has the first's rows and the second's, moved on by
    -- the first's words, and the words of the first and then of the second.
    pub programs-joined : table_fits t ≡ true
        → program_fits (length text) ends (length sheets) (length budgets) (length bases) (length rows) ≡ true
        → program_fits (length text') ends' (length sheets') (length budgets') (length bases') (length rows') ≡ true
        → program_fits (length (text ++ text')) joined_ends (length (sheets ++ sheets')) (length (budgets ++ budgets')) (length (bases ++ bases')) (length rows'') ≡ true
        → last_end 0 ends ≡ length text → NoneTooLong second.rows → first.told.words + second.told.words ≤ length answers
        → joined
        ≡ ran_whole
        (record {
          rows = first.rows ++ moved_rows first.told.words second.rows;
          words = first.told.words + second.told.words;
          answers = take first.told.words first.told.buffer ++ (take second.told.words second.told.buffer ++ drop (first.told.words + second.told.words) answers);
        })
    programs-joined ok fit fit' fit'' whole none room =
        let a = ran-whole order t text ends sheets budgets bases rows answers ok fit in
        let b = ran-whole order t text' ends' sheets' budgets' bases' rows' own ok fit' in
        let c = ran-whole order t (text ++ text') joined_ends (sheets ++ sheets') (budgets ++ budgets') (bases ++ bases') rows'' answers ok fit'' in
        c
        ∙ ap (λ (ls : List Line). ran_whole (run_lines (line_call order t) ls 0 answers)) (joined-lines rows fit whole)
        ∙ ap ran_whole
        (lines-roomy (line_call order t) (line-shape order t) (lines_of text ends sheets budgets bases) (lines_of text' ends' sheets' budgets' bases') answers own
        (subst (λ (r : ProgramTold). NoneTooLong r.rows) b none)
        (subst (λ (n : ℕ). n ≤ length answers) (ap₂ (λ (r s : ProgramTold). r.told.words + s.told.words) a b) room))
        ∙ ap₂ (λ (r s : ProgramTold). ran_whole
        (record {
          rows = r.rows ++ moved_rows r.told.words s.rows;
          words = r.told.words + s.told.words;
          answers = take r.told.words r.told.buffer ++ (take s.told.words s.told.buffer ++ drop (r.told.words + s.told.words) answers);
        })) (sym a) (sym b)

-- ---- what a program leaves unchanged

-- the answers behind the words used
pub program-rest : (order : Scene → List (ℕ × ℕ)) (t text ends sheets budgets bases answers : List ℕ)
    → drop (run_lines (line_call order t) (lines_of text ends sheets budgets bases) 0 answers).words (run_lines (line_call order t) (lines_of text ends sheets budgets bases) 0 answers).answers
    ≡ drop (run_lines (line_call order t) (lines_of text ends sheets budgets bases) 0 answers).words answers
program-rest order t text ends sheets budgets bases answers = lines_rest (line_call order t) (line-shape order t) (lines_of text ends sheets budgets bases) answers

-- ---- one line

module _ (order : Scene → List (ℕ × ℕ)) (t line sheet : List ℕ) (budget base : ℕ) (rows answers : List ℕ) where
  abbrev single : Told
  single = call_with order t line sheet budget base answers

  -- the single call is the program of one line: its row has the call's number and 0, it uses the words that the call wrote,
  -- and the answers are the call's
  pub program-of-one : table_fits t ≡ true
      → program_fits (length line) (length line ∷ []) (length sheet) 1 1 (length rows) ≡ true
      → program_with order t line (length line ∷ []) sheet (budget ∷ []) (base ∷ []) rows answers
      ≡ ran_whole (record { rows = single.number ∷ 0 ∷ []; words = taken single; answers = single.buffer })
  unfolding lines_from run_lines sheets_size
  program-of-one ok fit =
      let l = fitting (length line) (length line ∷ []) (length sheet) 1 1 (length rows) fit in
      let size : sheet_size (length line - 0) ≡ length sheet = omega (arith, l.size) in
      let bytes : slice 0 (length line) line ≡ line = take_all (length line) line (omega arith) in
      let sheets : take (sheet_size (length line - 0)) sheet ≡ sheet = take_all (sheet_size (length line - 0)) sheet (omega arith) in
      ran-whole order t line (length line ∷ []) sheet (budget ∷ []) (base ∷ []) rows answers ok fit
      ∙ ap (λ (x : Line). ran_whole (run_lines (line_call order t) (x ∷ []) 0 answers)) (λ i. record { bytes = bytes i; sheet = sheets i; budget = budget; base = base })
      ∙ λ i. ran_whole (record { rows = single.number ∷ 0 ∷ []; words = none_before i; answers = whole i })
    where
      none_before : 0 + taken single ≡ taken single
      none_before = omega arith

      whole : take (taken single) single.buffer ++ drop (taken single) single.buffer ≡ single.buffer
      whole = take-append-drop (taken single) single.buffer
