-- What the answer of a plan made of others comes from: every member has a source, and every source's members are there.
use mathlib.Core.Path.{◌≡◌, refl, sym, ◌∙◌, ap}
use mathlib.Core.Logic.{inl, inr}
use mathlib.Core.Bool.{Bool, true, false}
use Rattle.std.specs.Prelude.{Option, None, Some}
use Rattle.plain.proofs.Options.{none-ne-some, some_inj}
use mathlib.Core.List.Memᴰ
use mathlib.Core.List.{List, [], ◌∷◌, ◌++◌, map, flat_map, Memᴰ}
use Rattle.plain.specs.Lists.{Apart}
use Rattle.plain.proofs.Members.{apart-append, apart-map}
use Rattle.readings.specs.Plan.{Plan, give, visit, keep, deep, value, Gives, ◌then◌, each, when, after, mapped}

pub got : {A : Type 0} {a b : A} → Some a ≡ Some b → a ≡ b
got = some_inj

nothing : {A : Type 0} {rs : List A} {z : A} → Some [] ≡ Some rs → Memᴰ z rs → ⊥
nothing h m = Memᴰ.not-nil (rw (← got h) at m)

-- ---- one plan after another

module _ {A B : Type 0} (f : A → Plan B) {b : B} where
  pub then-gives : (p : Plan A) → Gives (p then f) b → (a : A) × Gives p a × Gives (f a) b
  unfolding ◌then◌
  then-gives (give a) h = (a, refl, h)
  then-gives (visit p) h = then-gives p h
  then-gives (keep p) h = then-gives p h
  then-gives deep h = absurd (none-ne-some b h)

pub then-value : {A B : Type 0} (p : Plan A) (f : A → Plan B) {a : A} {o : Option B} → Gives p a → value (f a) ≡ o → value (p then f) ≡ o
unfolding ◌then◌
then-value (give x) f h e = rw (got h) e
then-value (visit p) f h e = then-value p f h e
then-value (keep p) f h e = then-value p f h e
then-value deep f {a} h e = absurd (none-ne-some a h)

-- ---- a plan for each member

module _ {A B : Type 0} (f : A → Plan (List B)) where
  pub each-parts : (x : A) (xs : List A) {rs : List B} → Gives (each (x ∷ xs) f) rs
      → (a b : List B) × Gives (f x) a × Gives (each xs f) b × (a ++ b ≡ rs)
  unfolding each ◌then◌
  each-parts x xs h =
      let (a, p, h₁) = then-gives _ (f x) h in
      let (b, q, e) = then-gives _ (each xs f) h₁ in
      (a, b, p, q, got e)

  pub each-source : (xs : List A) {rs : List B} {z : B} → Gives (each xs f) rs → Memᴰ z rs
      → (x : A) × Memᴰ x xs × (r : List B) × Gives (f x) r × Memᴰ z r
  unfolding each ◌then◌
  each-source [] h m = absurd (nothing h m)
  each-source (x ∷ xs) h m =
      let (a, b, p, q, e) = each-parts x xs h in
      elim (Memᴰ.append_cases a (rw (← e) at m)) [
        | inl i ↦ (x, Memᴰ.head refl, a, p, i)
        | inr j ↦ let (y, n, r, g, k) = each-source xs q j in (y, Memᴰ.tail n, r, g, k)
      ]

  pub each-has : (xs : List A) {rs : List B} {x : A} {z : B} → Gives (each xs f) rs → Memᴰ x xs
      → ((r : List B) → Gives (f x) r → Memᴰ z r) → Memᴰ z rs
  unfolding each ◌then◌
  each-has [] h m g = absurd (Memᴰ.not-nil m)
  each-has (y ∷ xs) h m g =
      let (a, b, p, q, e) = each-parts y xs h in
      rw (← e)
      (elim (Memᴰ.cases_cons m) [
        | inl i ↦ Memᴰ.append_left b (g a (rw i p))
        | inr j ↦ Memᴰ.append_right a (each-has xs q j g)
      ])

  -- each once, if a member tells its source
  module _ {K L : Type 0} (ka : A → K) (kb : B → L) (own : L → K) where
    pub each-once : (xs : List A) {rs : List B}
        → ((x : A) (r : List B) (z : B) → Memᴰ x xs → Gives (f x) r → Memᴰ z r → own (kb z) ≡ ka x)
        → Gives (each xs f) rs → Apart ka xs → ((x : A) (r : List B) → Gives (f x) r → Apart kb r) → Apart kb rs
    unfolding each ◌then◌
    each-once [] tells h u g = rw (← got h) tt
    each-once (x ∷ xs) tells h u g =
        let (a, b, p, q, e) = each-parts x xs h in
        rw (← e)
        (apart-append kb a (g x a p) (each-once xs (λ y r z i. tells y r z (Memᴰ.tail i)) q u.1 g)
        (λ y z m n k.
        let (w, i, r, t, j) = each-source xs q n in
        u.0 w i (sym (tells x a y (Memᴰ.head refl) p m) ∙ ap own k ∙ tells w r z (Memᴰ.tail i) t j)))

-- ---- each answer changed

module _ {A B : Type 0} (f : A → B) (p : Plan (List A)) {rs : List B} (h : Gives (mapped f p) rs) where
  pub mapped-parts : (xs : List A) × Gives p xs × (map f xs ≡ rs)
  unfolding mapped ◌then◌
  mapped-parts = let (xs, g, e) = then-gives _ p h in (xs, g, got e)

  pub mapped-source : {z : B} → Memᴰ z rs → (xs : List A) × Gives p xs × (x : A) × Memᴰ x xs × (f x ≡ z)
  mapped-source m =
      let (xs, g, e) = mapped-parts in
      let (x, n, q) = Memᴰ.of_map f xs (rw (← e) at m) in
      (xs, g, x, n, q)

  pub mapped-has : {x : A} → ((xs : List A) → Gives p xs → Memᴰ x xs) → Memᴰ (f x) rs
  mapped-has k = let (xs, g, e) = mapped-parts in rw (← e) (Memᴰ.map f (k xs g))

  pub mapped-once : {K L : Type 0} (ka : A → K) (kb : B → L) → ((x y : A) → kb (f x) ≡ kb (f y) → ka x ≡ ka y)
      → ((xs : List A) → Gives p xs → Apart ka xs) → Apart kb rs
  mapped-once ka kb tells k = let (xs, g, e) = mapped-parts in rw (← e) (apart-map ka kb f tells xs (k xs g))

-- ---- a plan if something holds

module _ {B : Type 0} where
  pub when-source : (t : Bool) (p : Plan (List B)) {rs : List B} {z : B} → Gives (when t p) rs → Memᴰ z rs → (t ≡ true) × Gives p rs
  when-source true p h m = (refl, h)
  when-source false p h m = absurd (nothing h m)

  pub when_true : (t : Bool) (p : Plan (List B)) {rs : List B} → t ≡ true → Gives (when t p) rs → Gives p rs
  when_true t p e h = rw e at h

  pub when-once : {K : Type 0} (key : B → K) (t : Bool) (p : Plan (List B)) {rs : List B} → Gives (when t p) rs
      → (Gives p rs → Apart key rs) → Apart key rs
  when-once key true p h k = k h
  when-once key false p h k = rw (← got h) tt

  module _ {A : Type 0} (f : A → Plan (List B)) where
    pub after-source : (o : Option A) {rs : List B} {z : B} → Gives (after o f) rs → Memᴰ z rs → (x : A) × (o ≡ Some x) × Gives (f x) rs
    after-source None h m = absurd (nothing h m)
    after-source (Some x) h m = (x, refl, h)

    pub after-some : (o : Option A) {x : A} {rs : List B} → o ≡ Some x → Gives (after o f) rs → Gives (f x) rs
    after-some o e h = rw e at h

    pub after-once : {K : Type 0} (key : B → K) (o : Option A) {rs : List B} → Gives (after o f) rs
        → ((x : A) → Gives (f x) rs → Apart key rs) → Apart key rs
    after-once key None h k = rw (← got h) tt
    after-once key (Some x) h k = k x h

-- lists joined are the answer of plans that do nothing
pub joined : {A B : Type 0} (f : A → List B) (xs : List A) → Gives (each xs (λ x. give (f x))) (flat_map f xs)
unfolding each ◌then◌ flat_map
joined f [] = refl
joined f (x ∷ xs) = then-value (each xs (λ x. give (f x))) (λ b. give (f x ++ b)) (joined f xs) refl
