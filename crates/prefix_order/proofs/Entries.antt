-- The order's entries. Each is laid from the words that stand for its rule; and of the whole order, the entries of a prefix's
-- key are the rules that have that prefix, in table order: the test changes places with the sort, within one key an entry grows
-- with its rule's place, and a key tells its prefix.
use mathlib.Core.Path.{◌≡◌, refl, sym, ap, ap₂, ◌∙◌}
use mathlib.Core.Bool.{Bool, true, false}
use mathlib.Core.List.{List, [], ◌∷◌, ◌++◌, map, Memᴰ}
use Prim.Native.Nat.{ℕ, zero, suc, ◌+◌, ◌*◌, ◌/◌, ◌%◌, ◌≤◌, ◌<◌}
use native.Mathlib.Numerals.{add-one}
use native.Mathlib.Omega.{arith}
use lib.Dec.{eqb, leb}
use lib.ListN.{length, get_or, take, set}
use lib.Seq.{take_all, take-suc-set}
use borrow.Author.Tests.{leb-true, le-leb}
use Rattle.plain.specs.Choice.{select}
use Rattle.plain.specs.Lists.{range, keep_if, every}
use Rattle.plain.proofs.Passed.{map_more}
use Rattle.plain.proofs.Members.{range-from, kept-mem}
use Rattle.defs.specs.Table.{table_fits, records_in, rule_parts}
use Rattle.ruledef_map.specs.RuledefMap.{rule_prefix, top_rules, with_prefix, same_bytes}
use Rattle.sorting.specs.Ascending.{ascending, in_order}
use Rattle.ruledef_map.proofs.Orders.{same-eq}
use Rattle.readings.proofs.Records.{kept_map, top_below, few-records}
use Rattle.sorting.proofs.Insertions.{every-none, every-cons, every-head, every-tail, ascending-ordered, kept-ascending, order-none, order-cons, order-head, order-tail, every-kept}
use Rattle.sorting.proofs.Members.{member-at}
use Rattle.leads.specs.Leads.{key_of, key_at}
use Rattle.places.specs.declared.RulePlace.{RulePlace}
use Rattle.prefix_order.specs.PrefixOrder.{entry_of, entries, rules_with, LayAsked, OrderAsked}
use Rattle.leads.proofs.Keys.{is_byte, same_key}
use Rattle.leads.proofs.Bytes.{rule-bytes, rule-short}

-- ---- laying them

module _ (t : List ℕ) where
  -- the entries of the rules passed are laid
  pub record Laying (rules order : List ℕ) (i : ℕ) : Type 0 where
    pub laid : take i order ≡ map (entry_of t) (take i rules)

  pub laying-none : (rules order : List ℕ) → Laying rules order 0
  laying-none rules order = record { laid = refl }

  module _ {rules order : List ℕ} {i : ℕ} (before : Laying rules order i) where
    pub laying-turn : {entry : ℕ} → i < length rules → i < length order → entry ≡ entry_of t (get_or rules i 0) → Laying rules (set order i entry) (i + 1)
    laying-turn {entry} k l is = record {
      laid =
          rw (map_more (entry_of t) rules i 0 k, add-one, take-suc-set order i entry l)
          (ap₂ (λ (f : List ℕ) (e : ℕ). f ++ (e ∷ [])) before.laid is);
    }

    pub laying-all : length rules ≤ i → length order ≡ length rules → order ≡ map (entry_of t) rules
    laying-all h e = sym (take_all i order (omega (arith, e))) ∙ before.laid ∙ ap (map (entry_of t)) (take_all i rules h)

  pub entry-is : (i : ℕ) {key : ℕ} → key ≡ key_at t i → key * 512 + i ≡ entry_of t i
  unfolding entry_of key_at
  entry-is i e = ap (λ (k : ℕ). k * 512 + i) e

-- ---- sorting them

module _ {t rules order spare : List ℕ} {places : List RulePlace} (asked : OrderAsked t places rules order spare) where
  pub lay-asked : LayAsked t places rules order
  lay-asked = record {
    small = λ j l.
        let at : get_or (top_rules t) j 0 ≡ get_or rules j 0 = ap (λ (k : List ℕ). get_or k j 0) (sym asked.top) in
        omega (arith, at, top_below t [] [] asked.table (member-at (top_rules t) j (omega (arith, ap length asked.top))), few-records t [] [] asked.table);
    placed = asked.placed;
    room = asked.room;
  }

  -- the entries that were laid, sorted where they stand
  pub sorted_all : {laid sorted : List ℕ} → laid ≡ map (entry_of t) rules → sorted ≡ ascending laid → sorted ≡ entries t
  unfolding entries
  sorted_all e is = is ∙ ap ascending (e ∙ ap (map (entry_of t)) asked.top)

-- ---- the entries of a key

module _ {A B : Type 0} where
  -- images that are the same of every member
  map_on : (f g : A → B) (xs : List A) → ((x : A) → Memᴰ x xs → f x ≡ g x) → map f xs ≡ map g xs
  map_on f g [] e = refl
  map_on f g (x ∷ xs) e =
      ap₂ (λ (a : B) (l : List B). a ∷ l) (e x (Memᴰ.head refl)) (map_on f g xs (λ y m. e y (Memᴰ.tail m)))

map_same : (f : ℕ → ℕ) (xs : List ℕ) → ((x : ℕ) → Memᴰ x xs → f x ≡ x) → map f xs ≡ xs
map_same f [] e = refl
map_same f (x ∷ xs) e =
    ap₂ (λ (a : ℕ) (l : List ℕ). a ∷ l) (e x (Memᴰ.head refl)) (map_same f xs (λ y m. e y (Memᴰ.tail m)))

map-map : (f g : ℕ → ℕ) (xs : List ℕ) → map f (map g xs) ≡ map (λ x. f (g x)) xs
map-map f g [] = refl
map-map f g (x ∷ xs) = ap (λ (l : List ℕ). f (g x) ∷ l) (map-map f g xs)

-- ---- what is in order

every-on : (f : ℕ → Bool) (xs : List ℕ) → ((x : ℕ) → Memᴰ x xs → f x ≡ true) → every f xs ≡ true
every-on f [] h = every-none f
every-on f (x ∷ xs) h =
    every-cons f xs (h x (Memᴰ.head refl)) (every-on f xs (λ y m. h y (Memᴰ.tail m)))

range-order : (a n : ℕ) → in_order (range a n) ≡ true
unfolding range
range-order a zero = order-none
range-order a (suc n) =
    order-cons a (range (suc a) n)
    (every-on (leb a) (range (suc a) n) (λ y m. le-leb a y (omega (arith, range-from (suc a) n m))))
    (range-order (suc a) n)

kept-order : (f : ℕ → Bool) (xs : List ℕ) → in_order xs ≡ true → in_order (keep_if f xs) ≡ true
unfolding keep_if
kept-order f [] h = h
kept-order f (x ∷ xs) h = go (f x) (kept-order f xs (order-tail x xs h))
  where
    go : (b : Bool) → in_order (keep_if f xs) ≡ true → in_order (select b (x ∷ keep_if f xs) (keep_if f xs)) ≡ true
    go true k = order-cons x (keep_if f xs) (every-kept f (leb x) xs (order-head x xs h)) k
    go false k = k

-- numbers that are moved by as much stay in order
moved_order : (d : ℕ) (xs : List ℕ) → in_order xs ≡ true → in_order (map (λ x. d + x) xs) ≡ true
moved_order d [] h = h
moved_order d (x ∷ xs) h =
    order-cons (d + x) (map (λ y. d + y) xs) (above xs (order-head x xs h)) (moved_order d xs (order-tail x xs h))
  where
    above : (ys : List ℕ) → every (leb x) ys ≡ true → every (leb (d + x)) (map (λ y. d + y) ys) ≡ true
    above [] k = every-none (leb (d + x))
    above (y ∷ ys) k =
        every-cons (leb (d + x)) (map (λ z. d + z) ys)
        (le-leb (d + x) (d + y) (omega (arith, leb-true x y (every-head (leb x) y ys k))))
        (above ys (every-tail (leb x) y ys k))

module _ (t : List ℕ) (ok : table_fits t ≡ true) where
  pub small_top : {i : ℕ} → Memᴰ i (top_rules t) → i < 512
  small_top m = omega (arith, top_below t [] [] ok m, few-records t [] [] ok)

  -- an entry tells its rule's key and place
  pub entry_key : (i : ℕ) → i < 512 → entry_of t i / 512 ≡ key_of (rule_prefix (rule_parts t i))
  unfolding entry_of
  entry_key i l = omega arith

  pub entry_place : (i : ℕ) → i < 512 → entry_of t i % 512 ≡ i
  unfolding entry_of
  entry_place i l = omega arith

  module _ (q : List ℕ) (bytes : every is_byte q ≡ true) (short : length q ≤ 4) where
    tells : (i : ℕ) → Memᴰ i (top_rules t) → eqb (entry_of t i / 512) (key_of q) ≡ same_bytes (rule_prefix (rule_parts t i)) q
    tells i m =
        ap (λ (k : ℕ). eqb k (key_of q)) (entry_key i (small_top m))
        ∙ same_key (rule_prefix (rule_parts t i)) q (rule-bytes t ok i (top_below t [] [] ok m)) bytes (rule-short t i) short

    -- the rules that have the prefix
    those : List ℕ
    those = with_prefix (rule_parts t) (top_rules t) q

    those-top : {i : ℕ} → Memᴰ i those → Memᴰ i (top_rules t)
    unfolding those with_prefix
    those-top m = (kept-mem (λ i. same_bytes (rule_prefix (rule_parts t i)) q) (top_rules t) m).0

    those-entry : (i : ℕ) → Memᴰ i those → entry_of t i ≡ key_of q * 512 + i
    unfolding those with_prefix entry_of
    those-entry i m =
        let is = same-eq (rule_prefix (rule_parts t i)) q (kept-mem (λ j. same_bytes (rule_prefix (rule_parts t j)) q) (top_rules t) m).1 in
        ap (λ (p : List ℕ). key_of p * 512 + i) is

    those-ordered : in_order those ≡ true
    unfolding those with_prefix top_rules
    those-ordered = kept-order _ _ (kept-order _ _ (range-order 0 (records_in t)))

    -- in the order they are a run, in table order
    pub entries_with : rules_with (key_of q) (entries t) ≡ with_prefix (rule_parts t) (top_rules t) q
    unfolding rules_with entries those with_prefix
    entries_with =
        ap (map (λ e. e % 512))
        (kept-ascending (λ e. eqb (e / 512) (key_of q)) (map (entry_of t) (top_rules t))
        ∙ ap ascending (kept_map (λ e. eqb (e / 512) (key_of q)) (λ i. same_bytes (rule_prefix (rule_parts t i)) q) (entry_of t) (top_rules t) tells)
        ∙ ascending-ordered (map (entry_of t) those) (ap in_order (map_on (entry_of t) (λ i. key_of q * 512 + i) those those-entry) ∙ moved_order (key_of q * 512) those those-ordered))
        ∙ map-map (λ e. e % 512) (entry_of t) those
        ∙ map_same (λ i. entry_of t i % 512) those (λ i m. entry_place i (small_top (those-top m)))
