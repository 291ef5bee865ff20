-- Document 01's twelve bench cases, as calls of the definitions, and what it answers. Each gives a list of numbers, so that
-- all stand in one table.
use Rattle.std.specs.Prelude.{true, false, List, [], ◌∷◌, ◌++◌, ℕ, length, replicate, set, Option, None, Some}
use Rattle.plain.specs.Told.{Told}
use Rattle.syntax.specs.Cut.{cut}
use Rattle.ruledef_map.specs.RuledefMap.{line_prefix, rule_prefix}
use Rattle.defs.specs.declared.ruledef.Part.TheVariants.{Exact, Whitespace}
use Rattle.readings.specs.Scene.{walker_at}
use Rattle.readings.specs.Call.{scan_call, lookup_call}
use Rattle.resolver.specs.Selection.{Selected, selected}

-- a table of one top ruleset with one rule
abbrev pub one_rule : List ℕ → List ℕ
one_rule ps = 1 ∷ 1 ∷ length ps ∷ 0 ∷ 0 ∷ 0 ∷ length ps ∷ ps

-- a line of n bytes has 2(n+1)² ends; all are 255 but those set
abbrev pub no_ends : ℕ → List ℕ
no_ends entries = replicate entries 255

-- what a call tells: number, visits, words, place, buffer
abbrev pub shown : Told → List ℕ
shown r = r.number ∷ r.visits ∷ r.words ∷ r.place ∷ r.buffer

abbrev pub nines : List ℕ
nines = replicate 12 9

-- number, count, words, buffer
abbrev pub settled : Selected → List ℕ
settled r = r.number ∷ r.count ∷ (r.words ++ r.buffer)

-- the cut for a character in a line, from its start; no number if there is none
abbrev pub placed : Option ℕ → List ℕ
placed None = []
placed (Some p) = p ∷ []

abbrev pub cut_in : ℕ → List ℕ → List ℕ
cut_in x line = placed (cut line x (walker_at line (length line) 0))

-- table T, a sheet with free(3, 5) = 5, and the line `mov p`, with this byte where the space is
abbrev pub T : List ℕ
T =
    2 ∷ 4 ∷ 12 ∷ 0 ∷ 1 ∷ 0 ∷ 0 ∷ 5 ∷ 0 ∷ 5 ∷ 5 ∷ 1 ∷ 10 ∷ 1 ∷ 1 ∷ 11 ∷ 1
    ∷ 109 ∷ 111 ∷ 118 ∷ 256 ∷ 257 ∷ 109 ∷ 111 ∷ 118 ∷ 256 ∷ 513 ∷ 112 ∷ 113 ∷ []

abbrev pub free35 : List ℕ
free35 = set (no_ends 72) 23 5

abbrev pub mov_p : ℕ → List ℕ
mov_p w = 109 ∷ 111 ∷ 118 ∷ w ∷ 112 ∷ []

-- a rule on a line without expressions
abbrev pub tried : List ℕ → List ℕ → ℕ → List ℕ
tried ps line entries = shown (scan_call (one_rule ps) line (no_ends entries) 1000000 0 nines)

-- the cases, with this byte wherever document 01 has a space: any whitespace does
unfoldable pub cases : ℕ → List (List ℕ)
cases w =
    -- 1, by scan and by lookup
    shown (scan_call T (mov_p w) free35 1000000 0 nines)
    ∷ shown (lookup_call T (mov_p w) free35 1000000 0 nines)
    -- 2
    ∷ shown (scan_call T (mov_p w) free35 14 0 nines)
    ∷ shown (scan_call T (mov_p w) free35 15 0 nines)
    -- 3: `a+b`, `+a+b`, `(a+b)+c`
    ∷ cut_in 43 (97 ∷ 43 ∷ 98 ∷ [])
    ∷ cut_in 43 (43 ∷ 97 ∷ 43 ∷ 98 ∷ [])
    ∷ cut_in 43 (40 ∷ 97 ∷ 43 ∷ 98 ∷ 41 ∷ 43 ∷ 99 ∷ [])
    -- 4: `a)+b`, `(})+`
    ∷ cut_in 43 (97 ∷ 41 ∷ 43 ∷ 98 ∷ [])
    ∷ cut_in 43 (40 ∷ 125 ∷ 41 ∷ 43 ∷ [])
    -- 5: `a)+b`, `(a))`, `((`
    ∷ cut_in 41 (97 ∷ 41 ∷ 43 ∷ 98 ∷ [])
    ∷ cut_in 41 (40 ∷ 97 ∷ 41 ∷ 41 ∷ [])
    ∷ cut_in 40 (40 ∷ 40 ∷ [])
    -- 6: `  MoV p`, and `mov` then whitespace
    ∷ line_prefix (w ∷ w ∷ 77 ∷ 111 ∷ 86 ∷ w ∷ 112 ∷ [])
    ∷ rule_prefix (Exact 109 ∷ Exact 111 ∷ Exact 118 ∷ Whitespace ∷ [])
    -- 7: `nop`, whitespace, on `nop`
    ∷ tried (110 ∷ 111 ∷ 112 ∷ 256 ∷ []) (110 ∷ 111 ∷ 112 ∷ []) 32
    -- 8: `a`, whitespace, `x` and `a`, `x`, on `ax` and `a x`
    ∷ tried (97 ∷ 256 ∷ 120 ∷ []) (97 ∷ 120 ∷ []) 18
    ∷ tried (97 ∷ 256 ∷ 120 ∷ []) (97 ∷ w ∷ 120 ∷ []) 32
    ∷ tried (97 ∷ 120 ∷ []) (97 ∷ 120 ∷ []) 18
    ∷ tried (97 ∷ 120 ∷ []) (97 ∷ w ∷ 120 ∷ []) 32
    -- 9: an expression, `+`, `c` on `ab +c`, with free(0, 5) = 2 and free(0, 3) = 3
    ∷ shown (scan_call (one_rule (257 ∷ 43 ∷ 99 ∷ [])) (97 ∷ 98 ∷ w ∷ 43 ∷ 99 ∷ []) (set (set (no_ends 72) 5 2) 3 3) 1000000 0 nines)
    -- 10: a rule with no parts on an empty line
    ∷ tried [] [] 2
    -- 11
    ∷ settled (selected (134 ∷ 71 ∷ []) true (9 ∷ 9 ∷ 9 ∷ []))
    ∷ settled (selected (134 ∷ 71 ∷ []) false (9 ∷ 9 ∷ 9 ∷ []))
    -- 12: the last pass, and a guessing pass
    ∷ settled (selected (134 ∷ 70 ∷ 70 ∷ []) true (9 ∷ 9 ∷ 9 ∷ []))
    ∷ settled (selected (134 ∷ 70 ∷ 70 ∷ []) false (9 ∷ 9 ∷ 9 ∷ []))
    ∷ []

-- what document 01 says of each
abbrev pub answers : List (List ℕ)
answers =
    (0 ∷ 15 ∷ 11 ∷ 0 ∷ 1 ∷ 4 ∷ 0 ∷ 1 ∷ 1 ∷ 1 ∷ 4 ∷ 5 ∷ 1 ∷ 0 ∷ 0 ∷ 9 ∷ [])
    ∷ (0 ∷ 15 ∷ 11 ∷ 0 ∷ 1 ∷ 4 ∷ 0 ∷ 1 ∷ 1 ∷ 1 ∷ 4 ∷ 5 ∷ 1 ∷ 0 ∷ 0 ∷ 9 ∷ [])
    ∷ (6 ∷ 14 ∷ 0 ∷ 0 ∷ 9 ∷ 9 ∷ 9 ∷ 9 ∷ 9 ∷ 9 ∷ 9 ∷ 9 ∷ 9 ∷ 9 ∷ 9 ∷ 9 ∷ [])
    ∷ (0 ∷ 15 ∷ 11 ∷ 0 ∷ 1 ∷ 4 ∷ 0 ∷ 1 ∷ 1 ∷ 1 ∷ 4 ∷ 5 ∷ 1 ∷ 0 ∷ 0 ∷ 9 ∷ [])
    ∷ (1 ∷ [])
    ∷ (2 ∷ [])
    ∷ (5 ∷ [])
    ∷ ([])
    ∷ ([])
    ∷ (1 ∷ [])
    ∷ (3 ∷ [])
    ∷ ([])
    ∷ (109 ∷ 111 ∷ 118 ∷ 112 ∷ [])
    ∷ (109 ∷ 111 ∷ 118 ∷ [])
    ∷ (0 ∷ 5 ∷ 5 ∷ 0 ∷ 1 ∷ 3 ∷ 0 ∷ 0 ∷ 0 ∷ 9 ∷ 9 ∷ 9 ∷ 9 ∷ 9 ∷ 9 ∷ 9 ∷ [])
    ∷ (1 ∷ 2 ∷ 0 ∷ 0 ∷ 9 ∷ 9 ∷ 9 ∷ 9 ∷ 9 ∷ 9 ∷ 9 ∷ 9 ∷ 9 ∷ 9 ∷ 9 ∷ 9 ∷ [])
    ∷ (0 ∷ 4 ∷ 5 ∷ 0 ∷ 1 ∷ 2 ∷ 0 ∷ 0 ∷ 0 ∷ 9 ∷ 9 ∷ 9 ∷ 9 ∷ 9 ∷ 9 ∷ 9 ∷ [])
    ∷ (0 ∷ 3 ∷ 5 ∷ 0 ∷ 1 ∷ 2 ∷ 0 ∷ 0 ∷ 0 ∷ 9 ∷ 9 ∷ 9 ∷ 9 ∷ 9 ∷ 9 ∷ 9 ∷ [])
    ∷ (0 ∷ 3 ∷ 5 ∷ 0 ∷ 1 ∷ 2 ∷ 0 ∷ 0 ∷ 0 ∷ 9 ∷ 9 ∷ 9 ∷ 9 ∷ 9 ∷ 9 ∷ 9 ∷ [])
    ∷ (0 ∷ 4 ∷ 8 ∷ 0 ∷ 1 ∷ 2 ∷ 0 ∷ 0 ∷ 1 ∷ 0 ∷ 0 ∷ 2 ∷ 9 ∷ 9 ∷ 9 ∷ 9 ∷ [])
    ∷ (0 ∷ 1 ∷ 5 ∷ 0 ∷ 1 ∷ 0 ∷ 0 ∷ 0 ∷ 0 ∷ 9 ∷ 9 ∷ 9 ∷ 9 ∷ 9 ∷ 9 ∷ 9 ∷ [])
    ∷ (0 ∷ 1 ∷ 135 ∷ 71 ∷ 1 ∷ 9 ∷ 9 ∷ [])
    ∷ (0 ∷ 1 ∷ 135 ∷ 71 ∷ 1 ∷ 9 ∷ 9 ∷ [])
    ∷ (13 ∷ 2 ∷ 134 ∷ 70 ∷ 70 ∷ 9 ∷ 9 ∷ 9 ∷ [])
    ∷ (0 ∷ 2 ∷ 134 ∷ 70 ∷ 70 ∷ 1 ∷ 2 ∷ 9 ∷ [])
    ∷ []

-- This byte at a line's ends: last, alone, and before `-1-2`, which is cut for `-`.
unfoldable pub at_ends : ℕ → List (List ℕ)
at_ends w =
    shown (scan_call T (109 ∷ 111 ∷ 118 ∷ w ∷ []) free35 1000000 0 nines)
    ∷ shown (scan_call T (w ∷ []) free35 1000000 0 nines)
    ∷ cut_in 45 (w ∷ 45 ∷ 49 ∷ 45 ∷ 50 ∷ [])
    ∷ []

-- Case 1 of a line that begins at this base: start and end are moved, and nothing else.
unfoldable pub at_base : ℕ → List ℕ
at_base base = shown (scan_call T (mov_p 32) free35 1000000 base nines)
