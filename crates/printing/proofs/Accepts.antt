-- Reading undoes listing: it accepts exactly the listings of data within the limits, gives that data, and else the first
-- bad line.
use mathlib.Core.Path.{◌≡◌, refl, sym, ap, ap₂, ◌∙◌, subst}
use mathlib.Core.Bool.{Bool, true, false, ◌&&◌}
use mathlib.Core.List.{List, [], ◌∷◌, ◌++◌, map, append-nil, append_assoc}
use Rattle.std.specs.Prelude.{Option, None, Some}
use Prim.Native.Nat.{ℕ, suc, ◌+◌, ◌<◌}
use native.Mathlib.Omega.{arith}
use lib.Dec.{leb, ltb}
use lib.ListN.{length, length-append, length-map}
use Rattle.plain.specs.Choice.{select}
use Rattle.plain.specs.Lists.{count, every}
use Rattle.plain.proofs.Tests.{and_left, and_right, and_both}
use Rattle.plain.proofs.Every.{every_append, every-last}
use Rattle.defs.specs.Table.{is_parameter}
use Rattle.packing.specs.Data.{Rule, Data, is_part_of, rule_fits, data_fits, data_from}
use Rattle.packing.proofs.Limits.{fits_all, fits-rules, fits-tops}
use Rattle.printing.specs.Listing.{Bytes, ruleset_word, rule_word, top_fields, rule_fields, parted, ended, top_line, rule_line, lines_of, listing}
use Rattle.printing.specs.Reading.{same, pieces, top_in, rule_in, checked, with_top, with_rule, add_top, add_rule, read_fields, read_line, good, bad, next, read_from, nothing, read}
use Rattle.printing.specs.FirstBad.{lacks}
use Rattle.printing.proofs.Pieces.{same_true, pieces-parted, parted-pieces, pieces-ended, parted-ended}
use Rattle.printing.proofs.Fields.{rule-read, rule-is, top_read, top-is, rule-lacks, top-lacks, line-lacks}

-- ---- one line

-- the parts of a rule within the limits
rule-parts : (s : ℕ) (r : Rule) → rule_fits s r ≡ true → every (is_part_of s) r.parts ≡ true
unfolding rule_fits
rule-parts s r h =
    and_right (leb (count is_parameter r.parts) 8) _ (and_right (leb (length r.parts) 64) _ (and_right (ltb r.set s) _ h))

last-parts : (ts : List Bool) (xs : List Rule) (r : Rule) → data_fits (data_from ts (xs ++ (r ∷ []))) ≡ true → every (is_part_of (length ts)) r.parts ≡ true
unfolding every
last-parts ts xs r h =
    rule-parts (length ts) r (and_left (rule_fits (length ts) r) true (every-last (rule_fits (length ts)) xs (r ∷ []) (fits_all ts (xs ++ (r ∷ [])) h).each))

line-rule : (ts : List Bool) (xs : List Rule) (r : Rule) → data_fits (data_from ts (xs ++ (r ∷ []))) ≡ true
    → read_line (data_from ts xs) (rule_line r) ≡ Some (data_from ts (xs ++ (r ∷ [])))
unfolding read_line same
line-rule ts xs r h =
    ap (read_fields (data_from ts xs)) (pieces-parted 9 rule_word _ (rule-lacks 9 (omega arith) (length ts) r (last-parts ts xs r h)))
    ∙ ap (add_rule (data_from ts xs)) (rule-read r)
    ∙ ap (λ (t : Bool). select t (Some (data_from ts (xs ++ (r ∷ [])))) None) h

line-top : (ts : List Bool) (top : Bool) → data_fits (data_from (ts ++ (top ∷ [])) []) ≡ true
    → read_line (data_from ts []) (top_line top) ≡ Some (data_from (ts ++ (top ∷ [])) [])
unfolding read_line same
line-top ts top h =
    ap (read_fields (data_from ts [])) (pieces-parted 9 ruleset_word _ (top-lacks 9 (omega arith) top))
    ∙ ap (add_top (data_from ts []) []) (top_read top)
    ∙ ap (λ (t : Bool). select t (Some (data_from (ts ++ (top ∷ [])) [])) None) h

-- ---- a listing's lines, before more

pub read_next : (k : ℕ) (d e : Data) (line : Bytes) (ls : List Bytes) → 0 < length ls → read_line d line ≡ Some e → read_from k d (line ∷ ls) ≡ read_from (suc k) e ls
unfolding read_from
read_next k d e line [] h q = absurd (omega arith)
read_next k d e line (x ∷ ls) h q = ap (λ (o : Option Data). next k o (λ f. read_from (suc k) f (x ∷ ls))) q

some_more : (xs ls : List Bytes) → 0 < length ls → 0 < length (xs ++ ls)
some_more xs ls h = omega (arith, length-append xs ls)

read-rules : (ts : List Bool) (ys : List Rule) (xs : List Rule) (k : ℕ) (ls : List Bytes) → 0 < length ls → data_fits (data_from ts (xs ++ ys)) ≡ true
    → read_from k (data_from ts xs) (map rule_line ys ++ ls) ≡ read_from (k + length ys) (data_from ts (xs ++ ys)) ls
read-rules ts [] xs k ls h f =
    let n : k ≡ k + 0 = omega arith in
    ap₂ (λ (m : ℕ) (l : List Rule). read_from m (data_from ts l) ls) n (sym (append-nil xs))
read-rules ts (y ∷ ys) xs k ls h f =
    let n : suc k + length ys ≡ k + suc (length ys) = omega arith in
    let joined = append_assoc xs (y ∷ []) ys in
    let whole : data_fits (data_from ts ((xs ++ (y ∷ [])) ++ ys)) ≡ true = ap (λ (l : List Rule). data_fits (data_from ts l)) joined ∙ f in
    read_next k (data_from ts xs) (data_from ts (xs ++ (y ∷ []))) (rule_line y) (map rule_line ys ++ ls) (some_more (map rule_line ys) ls h)
    (line-rule ts xs y (fits-rules ts (xs ++ (y ∷ [])) ys whole))
    ∙ read-rules ts ys (xs ++ (y ∷ [])) (suc k) ls h whole
    ∙ ap₂ (λ (m : ℕ) (l : List Rule). read_from m (data_from ts l) ls) n joined

read-tops : (rs : List Rule) (us : List Bool) (ts : List Bool) (k : ℕ) (ls : List Bytes) → 0 < length ls → data_fits (data_from (ts ++ us) rs) ≡ true
    → read_from k (data_from ts []) (map top_line us ++ ls) ≡ read_from (k + length us) (data_from (ts ++ us) []) ls
read-tops rs [] ts k ls h f =
    let n : k ≡ k + 0 = omega arith in
    ap₂ (λ (m : ℕ) (l : List Bool). read_from m (data_from l []) ls) n (sym (append-nil ts))
read-tops rs (u ∷ us) ts k ls h f =
    let n : suc k + length us ≡ k + suc (length us) = omega arith in
    let joined = append_assoc ts (u ∷ []) us in
    let whole : data_fits (data_from ((ts ++ (u ∷ [])) ++ us) rs) ≡ true = ap (λ (l : List Bool). data_fits (data_from l rs)) joined ∙ f in
    read_next k (data_from ts []) (data_from (ts ++ (u ∷ [])) []) (top_line u) (map top_line us ++ ls) (some_more (map top_line us) ls h)
    (line-top ts u (fits-tops (ts ++ (u ∷ [])) us rs (omega (arith, length-append ts (u ∷ []))) whole))
    ∙ read-tops rs us (ts ++ (u ∷ [])) (suc k) ls h whole
    ∙ ap₂ (λ (m : ℕ) (l : List Bool). read_from m (data_from l []) ls) n joined

-- a listing has a line for each ruleset and each rule
pub lines-many : (d : Data) → length (lines_of d) ≡ length d.tops + length d.rules
unfolding lines_of
lines-many d = omega (arith, length-append (map top_line d.tops) (map rule_line d.rules), length-map d.tops top_line, length-map d.rules rule_line)

-- the lines of data within the limits are read to that data
pub read-lines : (d : Data) (ls : List Bytes) → 0 < length ls → data_fits d ≡ true → read_from 0 nothing (lines_of d ++ ls) ≡ read_from (length (lines_of d)) d ls
unfolding lines_of
read-lines d ls h f =
    let n : length d.tops + length d.rules ≡ length (lines_of d) = sym (lines-many d) in
    ap (read_from 0 nothing) (append_assoc (map top_line d.tops) (map rule_line d.rules) ls)
    ∙ read-tops d.rules d.tops [] 0 (map rule_line d.rules ++ ls) (some_more (map rule_line d.rules) ls h) f
    ∙ read-rules d.tops d.rules [] (0 + length d.tops) ls h f
    ∙ ap (λ (m : ℕ). read_from m d ls) (omega (arith, n))

-- no line of data within the limits has a line end
tops-lack : (ts : List Bool) → every (lacks 10) (map top_line ts) ≡ true
unfolding every
tops-lack [] = refl
tops-lack (t ∷ ts) = and_both (lacks 10 (top_line t)) _ (line-lacks (top_fields t) (top-lacks 10 (omega arith) t)) (tops-lack ts)

rules-lack : (s : ℕ) (rs : List Rule) → every (rule_fits s) rs ≡ true → every (lacks 10) (map rule_line rs) ≡ true
unfolding every
rules-lack s [] h = refl
rules-lack s (r ∷ rs) h =
    and_both (lacks 10 (rule_line r)) _ (line-lacks (rule_fields r) (rule-lacks 10 (omega arith) s r (rule-parts s r (and_left (rule_fits s r) _ h))))
    (rules-lack s rs (and_right (rule_fits s r) _ h))

pub lines-lack : (d : Data) → data_fits d ≡ true → every (lacks 10) (lines_of d) ≡ true
unfolding lines_of
lines-lack d f =
    every_append (lacks 10) (map top_line d.tops) (map rule_line d.rules) (tops-lack d.tops)
    (rules-lack (length d.tops) d.rules (fits_all d.tops d.rules f).each)

-- ---- accepted: a listing of data within the limits, read to that data

read-end : (k : ℕ) (d : Data) → data_fits d ≡ true → read_from k d ([] ∷ []) ≡ good d
unfolding read_from same
read-end k d f = ap (λ (t : Bool). select t (good d) (bad k)) f

pub read-listing : (d : Data) → data_fits d ≡ true → read (listing d) ≡ good d
unfolding read listing pieces
read-listing d f =
    ap (λ (t : Bytes). read_from 0 nothing (pieces 10 t)) (sym (append-nil (ended (lines_of d))))
    ∙ ap (read_from 0 nothing) (pieces-ended (lines_of d) [] (lines-lack d f))
    ∙ read-lines d ([] ∷ []) (omega arith) f
    ∙ read-end (length (lines_of d)) d f

-- two different data have different listings
pub listings-apart : (d e : Data) → data_fits d ≡ true → data_fits e ≡ true → listing d ≡ listing e → d ≡ e
listings-apart d e f g h = let q : good d ≡ good e = sym (read-listing d f) ∙ ap read h ∙ read-listing e g in cc

-- ---- one line read: its data's lines are the lines so far and that line

no-some : {A B : Type 0} {a : A} → None ≡ Some a → B
no-some {A} {B} {a} h = let z : ◌≡◌ {A = ℕ} 0 1 = cc in absurd (omega arith)

pub checked-is : (d e : Data) → checked d ≡ Some e → (d ≡ e) × (data_fits e ≡ true)
checked-is d e h = go (data_fits d) refl h
  where
    go : (t : Bool) → data_fits d ≡ t → select t (Some d) None ≡ Some e → (d ≡ e) × (data_fits e ≡ true)
    go true f q = let is : d ≡ e = cc in (is, ap data_fits (sym is) ∙ f)
    go false f q = no-some q

-- what reading one more line gives
pub record Added (d : Data) (line : Bytes) (e : Data) : Type 0 where
  pub lines : lines_of e ≡ lines_of d ++ (line ∷ [])
  pub fits : data_fits e ≡ true

map-append : {A B : Type 0} (f : A → B) (xs ys : List A) → map f (xs ++ ys) ≡ map f xs ++ map f ys
map-append f [] ys = refl
map-append f (x ∷ xs) ys = ap (λ (l : List _). f x ∷ l) (map-append f xs ys)

added-rule : (d e : Data) (fs : List Bytes) (o : Option Rule) → rule_in fs ≡ o → add_rule d o ≡ Some e → Added d (parted 9 (rule_word ∷ fs)) e
unfolding lines_of
added-rule d e fs None q h = no-some h
added-rule d e fs (Some r) q h =
    let c = checked-is (with_rule d r) e h in
    record {
      lines =
          ap lines_of (sym c.0)
          ∙ ap (λ (l : List Bytes). map top_line d.tops ++ l) (map-append rule_line d.rules (r ∷ []))
          ∙ sym (append_assoc (map top_line d.tops) (map rule_line d.rules) (rule_line r ∷ []))
          ∙ ap (λ (l : List Bytes). lines_of d ++ (parted 9 l ∷ [])) (sym (rule-is fs r q));
      fits = c.1;
    }

added-top : (d e : Data) (fs : List Bytes) (rs : List Rule) (o : Option Bool) → d.rules ≡ rs → top_in fs ≡ o → add_top d rs o ≡ Some e
    → Added d (parted 9 (ruleset_word ∷ fs)) e
unfolding lines_of
added-top d e fs [] None n q h = no-some h
added-top d e fs [] (Some top) n q h =
    let c = checked-is (with_top d top) e h in
    record {
      lines =
          ap lines_of (sym c.0)
          ∙ ap (λ (l : List Rule). map top_line (d.tops ++ (top ∷ [])) ++ map rule_line l) n
          ∙ append-nil (map top_line (d.tops ++ (top ∷ [])))
          ∙ map-append top_line d.tops (top ∷ [])
          ∙ ap (λ (l : List Bytes). l ++ (top_line top ∷ [])) (sym (append-nil (map top_line d.tops)))
          ∙ ap₂ (λ (l : List Rule) (m : List Bytes). (map top_line d.tops ++ map rule_line l) ++ (parted 9 m ∷ [])) (sym n) (sym (top-is fs top q));
      fits = c.1;
    }
added-top d e fs (r ∷ rs) o n q h = no-some h

added-fields : (d e : Data) (fs : List Bytes) → read_fields d fs ≡ Some e → Added d (parted 9 fs) e
added-fields d e [] h = no-some h
added-fields d e (w ∷ fs) h = go (same w ruleset_word) (same w rule_word) refl refl h
  where
    go : (t u : Bool) → same w ruleset_word ≡ t → same w rule_word ≡ u
        → select t (add_top d d.rules (top_in fs)) (select u (add_rule d (rule_in fs)) None) ≡ Some e → Added d (parted 9 (w ∷ fs)) e
    go true u p q k = subst (λ (x : Bytes). Added d (parted 9 (x ∷ fs)) e) (sym (same_true w ruleset_word p)) (added-top d e fs d.rules (top_in fs) refl refl k)
    go false true p q k = subst (λ (x : Bytes). Added d (parted 9 (x ∷ fs)) e) (sym (same_true w rule_word q)) (added-rule d e fs (rule_in fs) refl k)
    go false false p q k = no-some k

pub line-added : (d e : Data) (line : Bytes) → read_line d line ≡ Some e → Added d line e
unfolding read_line
line-added d e line h = subst (λ (x : Bytes). Added d x e) (parted-pieces 9 line) (added-fields d e (pieces 9 line) h)

-- ---- what is accepted is a listing of data within the limits

pub good-bad : {A : Type 0} {d : Data} {k : ℕ} → bad k ≡ good d → A
good-bad {A} {d} {k} h = let z : ◌≡◌ {A = ℕ} 0 1 = cc in absurd (omega arith)

lines-good : (ls : List Bytes) (k : ℕ) (d e : Data) → read_from k d ls ≡ good e → (lines_of d ++ ls ≡ lines_of e ++ ([] ∷ [])) × (data_fits e ≡ true)
unfolding read_from
lines-good [] k d e h = good-bad h
lines-good (x ∷ []) k d e h = go (same x [] && data_fits d) refl h
  where
    go : (t : Bool) → (same x [] && data_fits d) ≡ t → select t (good d) (bad k) ≡ good e → (lines_of d ++ (x ∷ []) ≡ lines_of e ++ ([] ∷ [])) × (data_fits e ≡ true)
    go true q g =
        let is : d ≡ e = cc in
        (ap₂ (λ (y : Data) (l : Bytes). lines_of y ++ (l ∷ [])) is (same_true x [] (and_left (same x []) _ q)), ap data_fits (sym is) ∙ and_right (same x []) _ q)
    go false q g = good-bad g
lines-good (x ∷ (y ∷ ls)) k d e h = go (read_line d x) refl h (λ f g. lines-good (y ∷ ls) (suc k) f e g)
  where
    go : (o : Option Data) → read_line d x ≡ o → next k o (λ f. read_from (suc k) f (y ∷ ls)) ≡ good e
        → ((f : Data) → read_from (suc k) f (y ∷ ls) ≡ good e → (lines_of f ++ (y ∷ ls) ≡ lines_of e ++ ([] ∷ [])) × (data_fits e ≡ true))
        → (lines_of d ++ (x ∷ (y ∷ ls)) ≡ lines_of e ++ ([] ∷ [])) × (data_fits e ≡ true)
    go None q g ih = good-bad g
    go (Some f) q g ih =
        let r = ih f g in
        (sym (append_assoc (lines_of d) (x ∷ []) (y ∷ ls)) ∙ ap (λ (l : List Bytes). l ++ (y ∷ ls)) (sym (line-added d f x q).lines) ∙ r.0, r.1)

pub read-good : (text : Bytes) (d : Data) → read text ≡ good d → (listing d ≡ text) × (data_fits d ≡ true)
unfolding read listing lines_of parted
read-good text d h =
    let r = lines-good (pieces 10 text) 0 nothing d h in
    (sym (sym (parted-pieces 10 text) ∙ ap (parted 10) r.0 ∙ parted-ended (lines_of d) [] [] ∙ append-nil (ended (lines_of d))), r.1)
