-- Lists of ends and limits as the code holds them: a list of at most so many is read back from its count and its places,
-- and one more stands at the place that the count names.
use mathlib.Core.Path.{◌≡◌, refl, sym, ap, ◌∙◌}
use mathlib.Core.Bool.{Bool, true, false, ◌||◌}
use mathlib.Core.List.{List, [], ◌∷◌, ◌++◌, append-nil}
use Rattle.std.specs.Prelude.{Option, None, Some}
use Rattle.plain.proofs.Options.{none-ne-some}
use Prim.Native.Nat.{ℕ, zero, suc, ◌+◌, ◌≤◌, ◌<◌, min}
use native.Mathlib.Omega.{arith}
use Rattle.std.specs.List.{list_any}
use lib.ListN.{length, get_or, take, set, length-take, length-append}
use lib.Seq.{ext_get_or, get_or_at, get_or-take}
use Rattle.plain.specs.Lists.{range, listed}
use Rattle.plain.proofs.Lists.{listed-length, listed_at, listed-set}
use Rattle.plain.proofs.Tests.{and_left}
use Rattle.syntax.specs.Walker.{held, moved_to}
use Rattle.syntax.specs.declared.walker.Walker.{Walker}
use Rattle.syntax.proofs.Useful.{InLine, held-is-within}
use Rattle.defs.specs.declared.ruledef.Part.{Part}
use Rattle.extents.specs.Sheet.{sized, sheet_fits, ReadAt, free_end, greedy_end}
use Rattle.readings.specs.Scene.{Scene, walker_at, scene_of}
use Rattle.readings.proofs.Packed.{lawful}
use Rattle.readings.specs.Walk.{lookahead, cut_by, cut_for, list_of, unless, any_same, same_end, free_under, ends, limits}
use Rattle.lookahead.specs.Held.{held_ends, held_limits, added}
use Rattle.lookahead.specs.declared.Few.{Few}
use Rattle.lookahead.proofs.Added.{added-few}
use Rattle.lookahead.proofs.Choices.{sheet-free, ends-added}

-- ---- a list at its places

module _ (n : ℕ) (es : List ℕ) where
  read_back : length es ≤ n → take (length es) (listed n (λ j. get_or es j 0)) ≡ es
  read_back h =
      ext_get_or 0 (take (length es) (listed n (λ j. get_or es j 0))) es long
      (λ i l. get_or-take (length es) (listed n (λ j. get_or es j 0)) i 0 (omega (arith, long)) ∙ listed_at n (λ j. get_or es j 0) i (omega (arith, long)))
    where
      long : length (take (length es) (listed n (λ j. get_or es j 0))) ≡ length es
      long = omega (arith, length-take (length es) (listed n (λ j. get_or es j 0)), listed-length n (λ j. get_or es j 0))

  one_more : (x : ℕ) → length es < n → set (listed n (λ j. get_or es j 0)) (length es) x ≡ listed n (λ j. get_or (es ++ (x ∷ [])) j 0)
  one_more x h =
      listed-set n (λ j. get_or es j 0) (λ j. get_or (es ++ (x ∷ [])) j 0) (length es) x h (get_or_at es x [] 0 (length es) refl)
      (λ i l d. elsewhere es i d)
    where
      elsewhere : (xs : List ℕ) (k : ℕ) → (k ≡ length xs → ⊥) → get_or (xs ++ (x ∷ [])) k 0 ≡ get_or xs k 0
      elsewhere [] zero d = absurd (d refl)
      elsewhere [] (suc k) d = refl
      elsewhere (y ∷ xs) zero d = refl
      elsewhere (y ∷ xs) (suc k) d = elsewhere xs k (λ q. d (ap suc q))

-- ---- the search for a duplicate

-- a walker moved to an end is within its line, and is the one at that end under the same limit
pub moved-within : (line : List ℕ) (w there : Walker) (end : ℕ) → there ≡ moved_to line end (held line w) → InLine line there
unfolding moved_to
moved-within line w there end = held-is-within line _ there

pub moved-held : (line : List ℕ) (w there : Walker) (end : ℕ) → there ≡ moved_to line end (held line w) → held line there ≡ walker_at line w.limit end
unfolding moved_to held
moved-held line w there end is = ap (held line) is ∙ same
  where
    same : held line (held line (record { cursor = end; limit = min w.limit (length line) })) ≡ held line (record { cursor = end; limit = w.limit })
    same =
        let n = length line in
        let l : min (min (min w.limit n) n) n ≡ min w.limit n = omega arith in
        let c : min (min end (min (min w.limit n) n)) (min (min (min w.limit n) n) n) ≡ min end (min w.limit n) = omega arith in
        λ i. record { cursor = c i; limit = l i }

-- std's word for it
any-listed : (same : ℕ → ℕ → Bool) (xs : List ℕ) (y : ℕ) → list_any (λ x. same x y) xs ≡ any_same same xs y
unfolding any_same
any-listed same [] y = refl
any-listed same (x ∷ xs) y = ap (λ (b : Bool). same x y || b) (any-listed same xs y)

-- ---- one candidate more

module _ (same : ℕ → ℕ → Bool) (es : List ℕ) (x : Few 3) (is : x ≡ held_ends es) (few : x.count < 3) where
  many : x.count ≡ length es
  unfolding held_ends
  many = ap (λ (y : Few 3). y.count) is

  stored : x.places ≡ listed 3 (λ j. get_or es j 0)
  unfolding held_ends
  stored = ap (λ (y : Few 3). y.places) is

  listed-ends : take x.count x.places ≡ es
  unfolding held_ends
  listed-ends = ap (λ (y : Few 3). take y.count y.places) is ∙ read_back 3 es (omega (arith, many))

  module _ (o : Option ℕ) where
    pub add_none : o ≡ None → x ≡ held_ends (added same es o)
    unfolding added
    add_none h = is ∙ ap (λ (y : Option ℕ). held_ends (added same es y)) (sym h)

    module _ (e : ℕ) (b : Bool) (ends_at : o ≡ Some e) (told : b ≡ list_any (λ d. same d e) (take x.count x.places)) where
      judged : (u : Bool) → b ≡ u → added same es o ≡ es ++ unless u e []
      unfolding added
      judged u h =
          ap (λ (y : Option ℕ). added same es y) ends_at
          ∙ ap (λ (v : Bool). es ++ unless v e [])
          (ap (λ (l : List ℕ). any_same same l e) (sym listed-ends) ∙ sym (any-listed same (take x.count x.places) e) ∙ sym told ∙ h)

      -- a duplicate is left out
      pub add_same : b ≡ true → x ≡ held_ends (added same es o)
      add_same h = is ∙ ap held_ends (sym (judged true h ∙ append-nil es))

      -- any other is the last
      pub add-new : b ≡ false → ◌≡◌ {A = Few 3} (record { count = x.count + 1; places = set x.places x.count e }) (held_ends (added same es o))
      unfolding held_ends
      add-new h = (λ i. record { count = counted i; places = placed i }) ∙ ap held_ends (sym (judged false h))
        where
          counted : x.count + 1 ≡ length (es ++ (e ∷ []))
          counted = omega (arith, many, length-append es (e ∷ []))

          placed : set x.places x.count e ≡ listed 3 (λ j. get_or (es ++ (e ∷ [])) j 0)
          placed =
              ap (λ (l : List ℕ). set l x.count e) stored
              ∙ ap (λ (n : ℕ). set (listed 3 (λ j. get_or es j 0)) n e) many
              ∙ one_more 3 es e (omega (arith, many))

-- ---- the cut, and the free end under it

module _ (s : Scene) (l c : ℕ) (ps : List Part) (x : Option ℕ) (is : x ≡ lookahead ps) where
  pub cut_of : (y : Option ℕ) → x ≡ y → cut_by s l c y ≡ cut_for s l c ps
  unfolding cut_for
  cut_of y e = ap (cut_by s l c) (sym e ∙ is)

-- what is read of a good sheet by a walker that stands within the line: the entry under its limit, and the one under its cut
module _ (t line sheet : List ℕ) (good : sheet_fits sheet (length line) ≡ true) (w : Walker) (order : w.cursor ≤ w.limit) (limit : w.limit ≤ length line) {c : ℕ} (cursor-is : c ≡ w.cursor) where
  long-enough : sized sheet (length line) ≡ true
  unfolding sheet_fits
  long-enough = and_left (sized sheet (length line)) _ good

  pub read_whole : {l : ℕ} → l ≡ w.limit → ReadAt sheet (length line) c l
  read_whole limit_is = record { size = long-enough; order = omega (arith, order); limit = omega (arith, limit) }

  cut-between : (m : ℕ) (o : Option ℕ) → cut_by (scene_of t line sheet) w.limit w.cursor o ≡ Some m → (w.cursor ≤ m) × (m ≤ w.limit)
  cut-between m None e = absurd (none-ne-some m e)
  cut-between m (Some x) e = (lawful t line sheet good).cut_within x w.limit w.cursor m order e

  pub read-cut :
      (ps : List Part) (cut : Option ℕ) → cut ≡ cut_for (scene_of t line []) w.limit w.cursor ps →
      (m : ℕ) → cut ≡ Some m → ReadAt sheet (length line) c m
  unfolding cut_for
  read-cut ps cut at m e =
      let between = cut-between m (lookahead ps) (sym (sheet-free t line [] sheet w.limit w.cursor ps) ∙ sym at ∙ e) in
      record { size = long-enough; order = omega (arith, between); limit = omega (arith, between, limit) }

-- ---- the ends

pub held_none : ◌≡◌ {A = Few 3} (record { count = 0; places = 0 ∷ 0 ∷ 0 ∷ [] }) (held_ends [])
unfolding held_ends listed range
held_none = refl

-- after one candidate there is room for two more, and after two for one
module _ (same : ℕ → ℕ → Bool) (a : Option ℕ) (x : Few 3) where
  pub room-two : x ≡ held_ends (added same [] a) → x.count < 3
  unfolding held_ends
  room-two is = omega (arith, ap (λ (y : Few 3). y.count) is, added-few same [] a)

  pub room-three : (b : Option ℕ) → x ≡ held_ends (added same (added same [] a) b) → x.count < 3
  unfolding held_ends
  room-three b is = omega (arith, ap (λ (y : Few 3). y.count) is, added-few same [] a, added-few same (added same [] a) b)

module _ (t line sheet : List ℕ) (w : Walker) (l c : ℕ) (limit_is : l ≡ w.limit) (cursor-is : c ≡ w.cursor) (ps : List Part) (a b g : Option ℕ) (cut : Option ℕ)
    (first : a ≡ free_end sheet (length line) c l)
    (at : cut ≡ cut_for (scene_of t line []) w.limit w.cursor ps)
    (second : b ≡ free_under (free_end sheet (length line)) c cut)
    (third : g ≡ greedy_end sheet (length line) c l) where
  abbrev same : ℕ → ℕ → Bool
  same = same_end line w.limit

  first-is : a ≡ free_end sheet (length line) w.cursor w.limit
  first-is = cc

  second_is : b ≡ free_under (free_end sheet (length line)) w.cursor (cut_for (scene_of t line sheet) w.limit w.cursor ps)
  second_is =
      second ∙ ap (λ (n : ℕ). free_under (free_end sheet (length line)) n cut) cursor-is
      ∙ ap (free_under (free_end sheet (length line)) w.cursor) (at ∙ sheet-free t line [] sheet w.limit w.cursor ps)

  third-is : g ≡ greedy_end sheet (length line) w.cursor w.limit
  third-is = cc

  pub ends_held : held_ends (added same (added same (added same [] a) b) g) ≡ held_ends (ends (scene_of t line sheet) w.limit w.cursor ps)
  unfolding scene_of
  ends_held = cc (first-is, second_is, third-is, ends-added (scene_of t line sheet) w.limit w.cursor ps)

-- ---- the limits

module _ (s : Scene) (l c : ℕ) (ps : List Part) (cut : Option ℕ) (at : cut ≡ cut_for s l c ps) where
  told : (o : Option ℕ) → cut ≡ o → held_limits (l ∷ list_of o) ≡ held_limits (limits s l c ps)
  unfolding limits
  told o is = ap (λ (x : Option ℕ). held_limits (l ∷ list_of x)) (sym is ∙ at)

  module _ (k : ℕ) (limit_is : k ≡ l) where
    pub limits-cut : (m : ℕ) → cut ≡ Some m → ◌≡◌ {A = Few 2} (record { count = 2; places = k ∷ m ∷ [] }) (held_limits (limits s l c ps))
    unfolding held_limits listed range
    limits-cut m is = ap (λ (n : ℕ). record { count = 2; places = n ∷ m ∷ [] }) limit_is ∙ told (Some m) is

    pub limits-whole : cut ≡ None → ◌≡◌ {A = Few 2} (record { count = 1; places = k ∷ 0 ∷ [] }) (held_limits (limits s l c ps))
    unfolding held_limits listed range
    limits-whole is = ap (λ (n : ℕ). record { count = 1; places = n ∷ 0 ∷ [] }) limit_is ∙ told None is
