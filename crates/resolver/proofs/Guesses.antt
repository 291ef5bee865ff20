-- The guess bits. Each thing that the choice looks at is the same of an outcome and of that outcome as a guess, so the
-- choice does not depend on them, and marks leave it as it was.
use mathlib.Core.Path.{◌≡◌, refl, sym, ap, ap₂, ◌∙◌}
use mathlib.Core.Logic.{◌⊎◌, inl, inr}
use mathlib.Core.Bool.{Bool, true, false}
use mathlib.Core.List.{List, [], ◌∷◌, map}
use Rattle.std.specs.Prelude.{Some}
use Prim.Native.Nat.{ℕ}
use lib.ListN.{length, get_or, length-map, get_or-map}
use Rattle.plain.specs.Choice.{select}
use Rattle.plain.specs.Lists.{some_of, count}
use Rattle.plain.proofs.Lists.{kept_same}
use Rattle.plain.proofs.Tests.{tested}
use Rattle.resolver.specs.Outcome.{Outcome, outcomes_of, is_guess, is_resolved, is_known, size_of, as_guess}
use Rattle.resolver.specs.Outcome.Outcome.{unresolved, failed, unknown, sized}
use Rattle.resolver.specs.Selection.{marked, least_size, lesser, same_size, has_size, indices_of, choice_of, selected}
use Rattle.resolver.proofs.Cases.{SameChoice, which, told_by, left_by, in-case, same_case, same-told}

-- an outcome as a guess: what is looked at, and what is not
pub record AsGuess (o : Outcome) : Type 0 where
  pub same_resolved : is_resolved (as_guess o) ≡ is_resolved o
  pub same_known : is_known (as_guess o) ≡ is_known o
  pub same_size : size_of (as_guess o) ≡ size_of o
  pub once : as_guess (as_guess o) ≡ as_guess o

pub as-guess : (o : Outcome) → AsGuess o
unfolding as_guess is_resolved is_known size_of
as-guess unresolved =
    record { same_resolved = refl; same_known = refl; same_size = refl; once = refl }
as-guess (failed guess) =
    record { same_resolved = refl; same_known = refl; same_size = refl; once = refl }
as-guess (unknown guess) =
    record { same_resolved = refl; same_known = refl; same_size = refl; once = refl }
as-guess (sized guess size) =
    record { same_resolved = refl; same_known = refl; same_size = refl; once = refl }

-- a count by a test that does not look at the guess bit
count-as :
    (f : Outcome → Bool) → ((o : Outcome) → f (as_guess o) ≡ f o) → (os : List Outcome) →
    count f (map as_guess os) ≡ count f os
unfolding count
count-as f same [] = refl
count-as f same (o ∷ os) = rw (same o, count-as f same os)

least-as : (os : List Outcome) → least_size (map as_guess os) ≡ least_size os
unfolding least_size
least-as [] = refl
least-as (o ∷ os) = ap₂ lesser (as-guess o).same_size (least-as os)

size-at-as : (os : List Outcome) (i : ℕ) → size_of (get_or (map as_guess os) i unresolved) ≡ size_of (get_or os i unresolved)
unfolding as_guess
size-at-as os i = ap size_of (get_or-map as_guess os i unresolved) ∙ (as-guess (get_or os i unresolved)).same_size

choice-as : (os : List Outcome) → choice_of (map as_guess os) ≡ choice_of os
unfolding choice_of indices_of has_size
choice-as os =
    rw (length-map os as_guess)
    (kept_same (length os) _ _ (λ i l. ap₂ same_size (least-as os) (size-at-as os i)))

as-choice : (os : List Outcome) → SameChoice (map as_guess os) os
as-choice os =
    record {
      resolved = count-as is_resolved (λ o. (as-guess o).same_resolved) os;
      known = count-as is_known (λ o. (as-guess o).same_known) os;
      choices = choice-as os;
    }

-- outcomes that differ at most in their guess bits have the same choice
same-choice : (os ps : List Outcome) → map as_guess os ≡ map as_guess ps → SameChoice os ps
same-choice os ps same =
    record {
      resolved = sym (as-choice os).resolved ∙ ap (count is_resolved) same ∙ (as-choice ps).resolved;
      known = sym (as-choice os).known ∙ ap (count is_known) same ∙ (as-choice ps).known;
      choices = sym (as-choice os).choices ∙ ap choice_of same ∙ (as-choice ps).choices;
    }

-- so calls on them return the same and leave the same buffer
pub guess-free :
    (ws vs : List ℕ) (os ps : List Outcome) (last : Bool) (buffer : List ℕ) →
    outcomes_of ws ≡ Some os → outcomes_of vs ≡ Some ps → map as_guess os ≡ map as_guess ps →
    (told_by (selected ws last buffer) ≡ told_by (selected vs last buffer))
    × (left_by (selected ws last buffer) ≡ left_by (selected vs last buffer))
guess-free ws vs os ps last buffer ok-os ok-ps but-guesses =
    let same = same-choice os ps but-guesses in
    let c = which last buffer os in
    rw (in-case ws last buffer os ok-os c, in-case vs last buffer ps ok-ps (same_case same c)) (same-told same ws vs c)

-- marks leave the choice
pub marked-choice : (os : List Outcome) → SameChoice (marked os) os
unfolding marked
marked-choice os = go (some_of is_guess os)
  where
    go : (b : Bool) → SameChoice (select b (map as_guess os) os) os
    go true = as-choice os
    go false = record { resolved = refl; known = refl; choices = refl }

all_once : (os : List Outcome) → map as_guess (map as_guess os) ≡ map as_guess os
all_once [] = refl
all_once (o ∷ os) = ap₂ ◌∷◌ (as-guess o).once (all_once os)

either_same : {A : Type 0} (b : Bool) {x y : A} → x ≡ y → select b x y ≡ y
either_same true e = e
either_same false e = refl

-- marking twice is marking once
pub marked-twice : (os : List Outcome) → marked (marked os) ≡ marked os
unfolding marked
marked-twice os = go (tested (some_of is_guess os))
  where
    go : (some_of is_guess os ≡ true) ⊎ (some_of is_guess os ≡ false) → marked (marked os) ≡ marked os
    go (inl guess) = rw guess (either_same (some_of is_guess (map as_guess os)) (all_once os))
    go (inr none_of) = rw (none_of, none_of)
