-- The table prepared for all lines: every top rule is listed, so every top rule has its place; for lookup they are put in prefix
-- order besides.
use mathlib.Core.Path.{◌≡◌, sym, subst, ◌∙◌}
use mathlib.Core.Bool.{true}
use mathlib.Core.Logic.{inl, inr}
use mathlib.Core.List.Memᴰ
use mathlib.Core.List.{List, [], ◌∷◌, ◌++◌, Memᴰ}
use Prim.Native.Nat.{ℕ, suc, ◌≤◌, ◌<◌}
use native.Mathlib.Omega.{arith}
use lib.ListN.{length, get_or, take, drop, length-append, length-drop}
use lib.Seq.{take_at, length-take-le}
use Rattle.defs.specs.Table.{table_fits}
use Rattle.defs.specs.Ruledef.{starts_of}
use Rattle.ruledef_map.specs.RuledefMap.{top_rules}
use Rattle.places.specs.declared.RulePlace.{RulePlace}
use Rattle.places.specs.Places.{PlacedAt, Placed, PlaceAsked}
use Rattle.prefix_order.specs.PrefixOrder.{entries, OrderAsked}
use Rattle.trials.specs.declared.Order.{Order}
use Rattle.trials.specs.declared.Order.TheVariants.{Scan}
use Rattle.trials.specs.Told.{all_tops}
use Rattle.trials.proofs.Choices.{chosen-places}
use Rattle.program.specs.Prepared.{Prepared, Ready}
use Rattle.program.proofs.Choosing.{orders-apart}

index_of : (xs : List ℕ) {i : ℕ} → Memᴰ i xs → (j : ℕ) × (j < length xs) × (get_or xs j 0 ≡ i)
index_of [] m = absurd (Memᴰ.not-nil m)
index_of (x ∷ xs) {i} m = elim (Memᴰ.cases_cons m) [ inl e ↦ (0, omega arith, sym e) | inr k ↦ (let (j, h, e) = index_of xs k in (suc j, omega arith, e)) ]

-- ---- the steps of preparing

module _ (t starts rules : List ℕ) (n : ℕ) (ok : table_fits t ≡ true) (begins : starts ≡ starts_of t) (tops : take n rules ≡ top_rules t) (few : n ≤ 512) (long : length rules ≡ 512) where
  fits : n ≤ length rules
  fits = omega (arith, long)

  long_first : length (take n rules) ≡ n
  long_first = length-take-le n rules fits

  pub place-asked : (places : List RulePlace) → length places ≡ 512 → PlaceAsked t starts (take n rules) places
  place-asked places sized = chosen-places t [] ok starts (take n rules) places begins (all_tops tops) sized

  module _ (places : List RulePlace) (placed : Placed t places (take n rules)) where
    pub order-asked : (order spare : List ℕ) → length order ≡ n → length spare ≡ 512 → OrderAsked t places (take n rules) order spare
    order-asked order spare room aside = record { table = ok; top = tops; placed = placed; room = omega (arith, room, long_first); aside = omega (arith, room, aside, few) }

    prepared : Prepared t starts places
    prepared = record {
      table = ok;
      begins = begins;
      sized = placed.sized;
      placed = λ i m. let (j, h, e) = index_of (take n rules) (subst (Memᴰ i) (sym tops) m) in subst (PlacedAt t places) e (placed.each j h);
    }

    module _ (how : Order) (order : List ℕ) (room : length order ≡ 512) where
      pub scan-ready : how ≡ Scan → Ready how t starts places order rules n
      scan-ready e = record {
        prepared = prepared;
        ordered = record { room = long; long = room; few = few; listed = λ _. tops; sorted = λ q. absurd (orders-apart (sym e ∙ q)) };
      }

      -- the entries stand at the order's start
      pub lookup-ready : (sorted : List ℕ) → length sorted ≡ n → sorted ≡ entries t → Ready how t starts places (sorted ++ drop n order) rules n
      lookup-ready sorted many e = record {
        prepared = prepared;
        ordered = record {
          room = long;
          long = omega (arith, length-append sorted (drop n order), length-drop n order, many, room, few);
          few = few;
          listed = λ _. tops;
          sorted = λ _. take_at sorted (drop n order) n many ∙ e;
        };
      }
