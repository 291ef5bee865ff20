-- Fields: what is read of a printed field is what was printed, and what is read was printed so. No field of data within
-- the limits has a tab or a line end.
use mathlib.Core.Path.{◌≡◌, refl, sym, ap, ap₂, ◌∙◌}
use mathlib.Core.Bool.{Bool, true, false, not, ◌&&◌}
use mathlib.Core.List.{List, [], ◌∷◌, ◌++◌, map}
use Rattle.std.specs.Prelude.{Option, None, Some}
use Prim.Native.Nat.{ℕ, ◌≤◌, ◌<◌}
use native.Mathlib.Omega.{arith}
use lib.Dec.{eqb, leb}
use borrow.Author.Tests.{leb-true, ne_eqb}
use Rattle.plain.specs.Choice.{select}
use Rattle.plain.specs.Lists.{every}
use Rattle.plain.proofs.Tests.{and_left, and_right, and_both, and-false-right}
use Rattle.defs.specs.declared.ruledef.Part.{Part}
use Rattle.defs.specs.declared.ruledef.Part.TheVariants.{Exact, Whitespace, Expression, Nested}
use Rattle.packing.specs.Data.{Rule, is_part_of, rule}
use Rattle.printing.specs.Listing.{Bytes, ruleset_word, rule_word, top_word, nested_word, ws_word, expr_word, sub_word, decimal, part_field, top_field, top_fields, rule_fields, parted}
use Rattle.printing.specs.Reading.{same, number_of, nested_in, other_part, part_in, both, parts_in, top_in, rule_in}
use Rattle.printing.specs.FirstBad.{lacks}
use Rattle.printing.proofs.Pieces.{same_true, lacks-append}
use Rattle.printing.proofs.Decimals.{number-decimal, number_is, decimal-lacks}

-- nothing is something
no-some : {A B : Type 0} {a : A} → None ≡ Some a → B
no-some {A} {B} {a} h = let z : ◌≡◌ {A = ℕ} 0 1 = cc in absurd (omega arith)

-- ---- parts

pub part-read : (p : Part) → part_in (part_field p) ≡ Some p
unfolding part_in same
part-read (Exact b) =
    ap (λ (t : Bool). select t (Some Whitespace) (select (eqb b 101 && false) (Some Expression) (Some (Exact b)))) (and-false-right (eqb b 119) false refl)
    ∙ ap (λ (t : Bool). select t (Some Expression) (Some (Exact b))) (and-false-right (eqb b 101) false refl)
part-read Whitespace = refl
part-read Expression = refl
part-read (Nested r) = ap nested_in (number-decimal r)

nested_is : (x : Bytes) (o : Option ℕ) (p : Part) → number_of x ≡ o → nested_in o ≡ Some p → sub_word ++ x ≡ part_field p
nested_is x None p e h = no-some h
nested_is x (Some r) p e h =
    let q : p ≡ Nested r = cc in
    ap (λ (l : Bytes). sub_word ++ l) (number_is x r e) ∙ ap part_field (sym q)

other-is : (f : Bytes) (p : Part) → other_part f ≡ Some p → f ≡ part_field p
other-is [] p h = no-some h
other-is (b ∷ []) p h = let q : Exact b ≡ p = cc in ap part_field q
other-is (b ∷ (c ∷ [])) p h = no-some h
other-is (b ∷ (c ∷ (e ∷ x))) p h = go (same (b ∷ c ∷ e ∷ []) sub_word) refl h
  where
    go : (t : Bool) → same (b ∷ c ∷ e ∷ []) sub_word ≡ t → select t (nested_in (number_of x)) None ≡ Some p → b ∷ c ∷ e ∷ x ≡ part_field p
    go true q k = ap (λ (l : Bytes). l ++ x) (same_true (b ∷ c ∷ e ∷ []) sub_word q) ∙ nested_is x (number_of x) p refl k
    go false q k = no-some k

part-is : (f : Bytes) (p : Part) → part_in f ≡ Some p → f ≡ part_field p
unfolding part_in
part-is f p h = go (same f ws_word) (same f expr_word) refl refl h
  where
    go : (t u : Bool) → same f ws_word ≡ t → same f expr_word ≡ u → select t (Some Whitespace) (select u (Some Expression) (other_part f)) ≡ Some p → f ≡ part_field p
    go true u e k q = let is : Whitespace ≡ p = cc in same_true f ws_word e ∙ ap part_field is
    go false true e k q = let is : Expression ≡ p = cc in same_true f expr_word k ∙ ap part_field is
    go false false e k q = other-is f p q

parts-read : (ps : List Part) → parts_in (map part_field ps) ≡ Some ps
unfolding parts_in
parts-read [] = refl
parts-read (p ∷ ps) = ap₂ (both ◌∷◌) (part-read p) (parts-read ps)

parts_is : (fs : List Bytes) (ps : List Part) → parts_in fs ≡ Some ps → fs ≡ map part_field ps
unfolding parts_in
parts_is [] ps h = let q : [] ≡ ps = cc in ap (map part_field) q
parts_is (f ∷ fs) ps h = go (part_in f) (parts_in fs) refl refl h (λ qs e. parts_is fs qs e)
  where
    go : (o : Option Part) (os : Option (List Part)) → part_in f ≡ o → parts_in fs ≡ os → both ◌∷◌ o os ≡ Some ps
        → ((qs : List Part) → parts_in fs ≡ Some qs → fs ≡ map part_field qs) → f ∷ fs ≡ map part_field ps
    go None os e k q ih = no-some q
    go (Some p) None e k q ih = no-some q
    go (Some p) (Some qs) e k q ih = let is : p ∷ qs ≡ ps = cc in ap₂ ◌∷◌ (part-is f p e) (ih qs k) ∙ ap (map part_field) is

-- ---- rules and rulesets

pub rule-read : (r : Rule) → rule_in (decimal r.set ∷ map part_field r.parts) ≡ Some r
rule-read r = ap₂ (both rule) (number-decimal r.set) (parts-read r.parts)

pub rule-is : (fs : List Bytes) (r : Rule) → rule_in fs ≡ Some r → rule_word ∷ fs ≡ rule_fields r
rule-is [] r h = no-some h
rule-is (f ∷ fs) r h = go (number_of f) (parts_in fs) refl refl h
  where
    go : (o : Option ℕ) (os : Option (List Part)) → number_of f ≡ o → parts_in fs ≡ os → both rule o os ≡ Some r → rule_word ∷ f ∷ fs ≡ rule_fields r
    go None os e k q = no-some q
    go (Some n) None e k q = no-some q
    go (Some n) (Some ps) e k q =
        let is : rule n ps ≡ r = cc in
        ap₂ (λ (x : Bytes) (xs : List Bytes). rule_word ∷ x ∷ xs) (number_is f n e) (parts_is fs ps k) ∙ ap rule_fields is

pub top_read : (top : Bool) → top_in (top_field top ∷ []) ≡ Some top
unfolding same
top_read true = refl
top_read false = refl

pub top-is : (fs : List Bytes) (top : Bool) → top_in fs ≡ Some top → ruleset_word ∷ fs ≡ top_fields top
top-is [] top h = no-some h
top-is (f ∷ []) top h = go (same f top_word) (same f nested_word) refl refl h
  where
    go : (t u : Bool) → same f top_word ≡ t → same f nested_word ≡ u → select t (Some true) (select u (Some false) None) ≡ Some top
        → ruleset_word ∷ f ∷ [] ≡ top_fields top
    go true u e k q = let is : true ≡ top = cc in ap (λ (x : Bytes). ruleset_word ∷ x ∷ []) (same_true f top_word e) ∙ ap top_fields is
    go false true e k q = let is : false ≡ top = cc in ap (λ (x : Bytes). ruleset_word ∷ x ∷ []) (same_true f nested_word k) ∙ ap top_fields is
    go false false e k q = no-some q
top-is (f ∷ (g ∷ fs)) top h = no-some h

-- ---- what fields lack

module _ (c : ℕ) (low : c < 33) where
  lacks-above : (x : Bytes) → every (leb 33) x ≡ true → lacks c x ≡ true
  unfolding lacks every
  lacks-above [] h = refl
  lacks-above (b ∷ x) h =
      let far : 33 ≤ b = leb-true 33 b (and_left (leb 33 b) _ h) in
      and_both _ _ (ap not (ne_eqb b c (λ e. omega arith))) (lacks-above x (and_right (leb 33 b) _ h))

  part-lacks : (s : ℕ) (p : Part) → is_part_of s p ≡ true → lacks c (part_field p) ≡ true
  unfolding every
  part-lacks s (Exact b) h = lacks-above (b ∷ []) (and_both (leb 33 b) true (and_left (leb 33 b) (leb b 126) (and_left (leb 33 b && leb b 126) _ h)) refl)
  part-lacks s Whitespace h = lacks-above ws_word refl
  part-lacks s Expression h = lacks-above expr_word refl
  part-lacks s (Nested r) h = lacks-append c sub_word (decimal r) (lacks-above sub_word refl) (decimal-lacks c r (omega arith))

  parts-lack : (s : ℕ) (ps : List Part) → every (is_part_of s) ps ≡ true → every (lacks c) (map part_field ps) ≡ true
  unfolding every
  parts-lack s [] h = refl
  parts-lack s (p ∷ ps) h = and_both _ _ (part-lacks s p (and_left _ _ h)) (parts-lack s ps (and_right (is_part_of s p) _ h))

  pub rule-lacks : (s : ℕ) (r : Rule) → every (is_part_of s) r.parts ≡ true → every (lacks c) (rule_fields r) ≡ true
  unfolding every
  rule-lacks s r h =
      and_both _ _ (lacks-above rule_word refl) (and_both _ _ (decimal-lacks c r.set (omega arith)) (parts-lack s r.parts h))

  pub top-lacks : (top : Bool) → every (lacks c) (top_fields top) ≡ true
  unfolding every
  top-lacks true = and_both _ _ (lacks-above ruleset_word refl) (and_both _ _ (lacks-above top_word refl) refl)
  top-lacks false = and_both _ _ (lacks-above ruleset_word refl) (and_both _ _ (lacks-above nested_word refl) refl)

-- a line without line ends
pub line-lacks : (xs : List Bytes) → every (lacks 10) xs ≡ true → lacks 10 (parted 9 xs) ≡ true
unfolding every parted lacks
line-lacks [] h = refl
line-lacks (x ∷ []) h = and_left _ _ h
line-lacks (x ∷ (y ∷ xs)) h = lacks-append 10 x (9 ∷ parted 9 (y ∷ xs)) (and_left _ _ h) (line-lacks (y ∷ xs) (and_right (lacks 10 x) _ h))
