-- Reading a listing, line by line: the data, or the first bad line's number. No promise names it: it is proved to undo printing,
-- and to stop at the first bad line, and the code is proved to follow it.
use Rattle.std.specs.Prelude.{◌≡◌, ◌⊎◌, Bool, true, false, ◌&&◌, List, [], ◌∷◌, ◌++◌, ℕ, suc, ◌+◌, ◌*◌, ◌-◌, eqb, Option, None, Some}
use Rattle.plain.specs.Choice.{select}
use Rattle.defs.specs.declared.ruledef.Part.{Part}
use Rattle.defs.specs.declared.ruledef.Part.TheVariants.{Exact, Whitespace, Expression, Nested}
use Rattle.packing.specs.Data.{Rule, Data, data_fits, rule}
use Rattle.printing.specs.Listing.{Bytes, ruleset_word, rule_word, top_word, nested_word, ws_word, expr_word, sub_word, decimal}

-- compared byte for byte
unfoldable pub same : Bytes → Bytes → Bool
same [] [] = true
same [] (y ∷ ys) = false
same (x ∷ xs) [] = false
same (x ∷ xs) (y ∷ ys) = eqb x y && same xs ys

-- bytes cut at each byte c: one piece more than there are such bytes
abbrev pub onto : ℕ → List Bytes → List Bytes
onto b [] = (b ∷ []) ∷ []
onto b (x ∷ xs) = (b ∷ x) ∷ xs

unfoldable pub pieces : ℕ → Bytes → List Bytes
pieces c [] = [] ∷ []
pieces c (b ∷ bs) = select (eqb b c) ([] ∷ pieces c bs) (onto b (pieces c bs))

-- the number whose decimal this is
unfoldable pub value_from : ℕ → Bytes → ℕ
value_from n [] = n
value_from n (b ∷ bs) = value_from (10 * n + (b - 48)) bs

abbrev pub value : Bytes → ℕ
value bs = value_from 0 bs

unfoldable pub number_of : Bytes → Option ℕ
number_of bs = select (same bs (decimal (value bs))) (Some (value bs)) None

-- what a field says of a part
abbrev pub nested_in : Option ℕ → Option Part
nested_in None = None
nested_in (Some r) = Some (Nested r)

abbrev pub other_part : Bytes → Option Part
other_part [] = None
other_part (b ∷ []) = Some (Exact b)
other_part (b ∷ (c ∷ [])) = None
other_part (b ∷ (c ∷ (e ∷ bs))) = select (same (b ∷ c ∷ e ∷ []) sub_word) (nested_in (number_of bs)) None

unfoldable pub part_in : Bytes → Option Part
part_in f = select (same f ws_word) (Some Whitespace) (select (same f expr_word) (Some Expression) (other_part f))

abbrev pub both : {A B C : Type 0} → (A → B → C) → Option A → Option B → Option C
both f None o = None
both f (Some a) None = None
both f (Some a) (Some b) = Some (f a b)

unfoldable pub parts_in : List Bytes → Option (List Part)
parts_in [] = Some []
parts_in (f ∷ fs) = both ◌∷◌ (part_in f) (parts_in fs)

abbrev pub top_in : List Bytes → Option Bool
top_in [] = None
top_in (f ∷ []) = select (same f top_word) (Some true) (select (same f nested_word) (Some false) None)
top_in (f ∷ (g ∷ fs)) = None

-- data with one more ruleset (none comes after a rule), or rule, if that is within the limits
abbrev pub checked : Data → Option Data
checked d = select (data_fits d) (Some d) None

abbrev pub with_top : Data → Bool → Data
with_top d top = record { tops = d.tops ++ (top ∷ []); rules = d.rules }

abbrev pub with_rule : Data → Rule → Data
with_rule d r = record { tops = d.tops; rules = d.rules ++ (r ∷ []) }

abbrev pub add_top : Data → List Rule → Option Bool → Option Data
add_top d [] None = None
add_top d [] (Some top) = checked (with_top d top)
add_top d (r ∷ rs) o = None

abbrev pub add_rule : Data → Option Rule → Option Data
add_rule d None = None
add_rule d (Some r) = checked (with_rule d r)

-- one more line, by its fields
abbrev pub rule_in : List Bytes → Option Rule
rule_in [] = None
rule_in (f ∷ fs) = both rule (number_of f) (parts_in fs)

abbrev pub read_fields : Data → List Bytes → Option Data
read_fields d [] = None
read_fields d (w ∷ fs) =
    select (same w ruleset_word) (add_top d d.rules (top_in fs)) (select (same w rule_word) (add_rule d (rule_in fs)) None)

unfoldable pub read_line : Data → Bytes → Option Data
read_line d line = read_fields d (pieces 9 line)

-- the data, or the first bad line
pub data Read : Type 0 where
  good : Data → Read
  bad : ℕ → Read

abbrev pub next : ℕ → Option Data → (Data → Read) → Read
next k None go = bad k
next k (Some d) go = go d

-- from line k on; the last piece follows the last ended line, and is empty
unfoldable pub read_from : ℕ → Data → List Bytes → Read
read_from k d [] = bad k
read_from k d (end ∷ []) = select (same end [] && data_fits d) (good d) (bad k)
read_from k d (line ∷ (more ∷ lines)) = next k (read_line d line) (λ e. read_from (suc k) e (more ∷ lines))

abbrev pub nothing : Data
nothing = record { tops = []; rules = [] }

-- data to which lines are read: none yet, or within the limits
abbrev pub Reached : Data → Type 0
Reached d = (d ≡ nothing) ⊎ (data_fits d ≡ true)

unfoldable pub read : Bytes → Read
read text = read_from 0 nothing (pieces 10 text)
