-- Changing every answer of a plan goes through the steps that the plan is made of.
use mathlib.Core.Path.{◌≡◌, refl, sym, ap, ◌∙◌}
use mathlib.Core.Bool.{Bool, true, false}
use Rattle.std.specs.Prelude.{Option, None, Some}
use mathlib.Core.List.{List, [], ◌∷◌, ◌++◌, map, map-append}
use Rattle.readings.specs.Plan.{Plan, give, visit, keep, deep, ◌then◌, each, when, after, mapped}

then-assoc : {A B C : Type 0} (p : Plan A) (f : A → Plan B) (g : B → Plan C) → p then f then g ≡ p then λ a. f a then g
unfolding ◌then◌
then-assoc (give a) f g = refl
then-assoc (visit p) f g = ap visit (then-assoc p f g)
then-assoc (keep p) f g = ap keep (then-assoc p f g)
then-assoc deep f g = refl

-- what comes next, under another name
next-same : {A B : Type 0} (p : Plan A) (f g : A → Plan B) → ((a : A) → f a ≡ g a) → p then f ≡ p then g
next-same {A} {B} p f g e = ap (λ (k : A → Plan B). p then k) (λ i a. e a i)

module _ {A B : Type 0} (f : A → B) where
  pub mapped-then : {C : Type 0} (p : Plan (List A)) (g : List B → Plan C) → mapped f p then g ≡ p then λ xs. g (map f xs)
  unfolding mapped ◌then◌
  mapped-then p g = then-assoc p (λ xs. give (map f xs)) g

  pub then-mapped : {C : Type 0} (p : Plan C) (g : C → Plan (List A)) → mapped f (p then g) ≡ p then λ c. mapped f (g c)
  unfolding mapped
  then-mapped p g = then-assoc p g (λ xs. give (map f xs))

  pub mapped-each : {C : Type 0} (xs : List C) (g : C → Plan (List A)) → mapped f (each xs g) ≡ each xs (λ x. mapped f (g x))
  unfolding each mapped ◌then◌
  mapped-each [] g = refl
  mapped-each {C} (x ∷ xs) g =
      then-mapped (g x) (λ a. each xs g then λ b. give (a ++ b))
      ∙ next-same (g x) _ (λ a. each xs (λ y. mapped f (g y)) then λ b. give (map f a ++ b)) (one (mapped-each xs g))
      ∙ sym (mapped-then (g x) (λ a. each xs (λ y. mapped f (g y)) then λ b. give (a ++ b)))
    where
      one : mapped f (each xs g) ≡ each xs (λ y. mapped f (g y)) → (a : List A) → mapped f (each xs g then λ b. give (a ++ b)) ≡ each xs (λ y. mapped f (g y)) then λ b. give (map f a ++ b)
      one rest a =
          then-mapped (each xs g) (λ b. give (a ++ b))
          ∙ next-same (each xs g) _ (λ b. give (map f a ++ map f b)) (λ b. ap give (map-append f a b))
          ∙ sym (mapped-then (each xs g) (λ b. give (map f a ++ b)))
          ∙ ap (λ (p : Plan (List B)). p then λ b. give (map f a ++ b)) rest

  pub mapped-when : (t : Bool) (p : Plan (List A)) → mapped f (when t p) ≡ when t (mapped f p)
  unfolding mapped ◌then◌
  mapped-when true p = refl
  mapped-when false p = refl

  pub mapped-after : {C : Type 0} (o : Option C) (g : C → Plan (List A)) → mapped f (after o g) ≡ after o (λ x. mapped f (g x))
  unfolding mapped ◌then◌
  mapped-after None g = refl
  mapped-after (Some x) g = refl

-- changed twice
pub mapped-mapped : {A B C : Type 0} (f : B → C) (g : A → B) (p : Plan (List A)) → mapped f (mapped g p) ≡ mapped (λ x. f (g x)) p
unfolding mapped ◌then◌
mapped-mapped {A} {B} {C} f g p = then-mapped f p (λ xs. give (map g xs)) ∙ next-same p _ (λ xs. give (map (λ x. f (g x)) xs)) (λ xs. ap give (twice xs))
  where
    twice : (xs : List A) → map f (map g xs) ≡ map (λ x. f (g x)) xs
    twice [] = refl
    twice (x ∷ xs) = ap (λ (l : List C). f (g x) ∷ l) (twice xs)

-- members changed before
pub each_map : {A B C : Type 0} (g : A → B) (xs : List A) (f : B → Plan (List C)) → each (map g xs) f ≡ each xs (λ x. f (g x))
unfolding each
each_map g [] f = refl
each_map {C = C} g (x ∷ xs) f = next-same (f (g x)) _ _ (λ a. ap (λ (p : Plan (List C)). p then λ b. give (a ++ b)) (each_map g xs f))

pub each_same : {A B : Type 0} (xs : List A) (f g : A → Plan (List B)) → ((x : A) → f x ≡ g x) → each xs f ≡ each xs g
each_same {A} {B} xs f g e = ap (λ (h : A → Plan (List B)). each xs h) (λ i x. e x i)
