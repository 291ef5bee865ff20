-- What a walk does, in order: visits, pool records, and how it ends. `run` counts them against the visits left and the
-- pool's room, and is the only place where numbers 6, 7 and 8 arise.
-- In words: docs/MANUAL.md, 5.
use Rattle.std.specs.Prelude.{◌≡◌, Bool, true, false, List, [], ◌∷◌, ◌++◌, map, ℕ, zero, suc, ltb, Option, None, Some}

pub data Plan (A : Type 0) : Type 0 where
  -- done, with this answer
  give : A → Plan A
  -- an arrival at a place in a pattern, counted before the part's work
  visit : Plan A → Plan A
  -- a record for an argument kept or a match completed
  keep : Plan A → Plan A
  -- a nested step would enter depth 17
  deep : Plan A

pub data Outcome (A : Type 0) : Type 0 where
  -- visits left, records used, answer
  done : ℕ → ℕ → A → Outcome A
  -- number 6, 7 or 8, visits left
  stop : ℕ → ℕ → Outcome A

-- 4,096 records in a call
abbrev pub room : ℕ
room = 4096

abbrev pub pooled : {A : Type 0} → Bool → ℕ → Outcome A → Outcome A
pooled true v r = r
pooled false v r = stop 8 v

-- the plan, with visits left and records used
unfoldable pub run : {A : Type 0} → Plan A → ℕ → ℕ → Outcome A
run (give a) v u = done v u a
run (visit p) zero u = stop 6 zero
run (visit p) (suc v) u = run p v u
run (keep p) v u = pooled (ltb u room) v (run p v (suc u))
run deep v u = stop 7 v

-- a plan's own cost, whatever is left
abbrev pub visits : {A : Type 0} → Plan A → ℕ
visits (give a) = 0
visits (visit p) = suc (visits p)
visits (keep p) = visits p
visits deep = 0

abbrev pub records : {A : Type 0} → Plan A → ℕ
records (give a) = 0
records (visit p) = records p
records (keep p) = suc (records p)
records deep = 0

-- a plan's answer, whatever it costs; none if it goes too deep
abbrev pub value : {A : Type 0} → Plan A → Option A
value (give x) = Some x
value (visit p) = value p
value (keep p) = value p
value deep = None

abbrev pub Gives : {A : Type 0} → Plan A → A → Type 0
Gives p a = value p ≡ Some a

-- one plan after another
infixl 60 ◌then◌
unfoldable pub ◌then◌ : {A B : Type 0} → Plan A → (A → Plan B) → Plan B
give a then f = f a
visit p then f = visit (p then f)
keep p then f = keep (p then f)
deep then f = deep

-- a plan for each member, the answers joined
unfoldable pub each : {A B : Type 0} → List A → (A → Plan (List B)) → Plan (List B)
each [] f = give []
each (x ∷ xs) f = f x then λ a. each xs f then λ b. give (a ++ b)

-- a plan if the test holds, else nothing found
abbrev pub when : {B : Type 0} → Bool → Plan (List B) → Plan (List B)
when true p = p
when false p = give []

-- a plan for what there is, else nothing found
abbrev pub after : {A B : Type 0} → Option A → (A → Plan (List B)) → Plan (List B)
after None f = give []
after (Some x) f = f x

-- each answer changed by a function
unfoldable pub mapped : {A B : Type 0} → (A → B) → Plan (List A) → Plan (List B)
mapped f p = p then λ xs. give (map f xs)
