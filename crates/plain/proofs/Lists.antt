-- Laws of ranges and of the members that a test keeps. Each goes by induction on the list or on the range's length.
use mathlib.Core.Path.{◌≡◌, refl, sym, ap, ap₂, ◌∙◌}
use mathlib.Core.Bool.{Bool, true, false, ◌&&◌, ◌||◌}
use mathlib.Core.List.{List, [], ◌∷◌, ◌++◌, map, flat_map, append-nil, append_assoc}
use Prim.Native.Nat.{ℕ, zero, suc, ◌+◌, ◌≤◌, ◌<◌}
use native.Mathlib.Nat.{add-zero, zero-add, add-suc, suc-add}
use native.Mathlib.Numerals.{add-one}
use native.Mathlib.Decide.{ℕ_discrete}
use native.Mathlib.Omega.{arith}
use lib.ListN.{length, get_or, set, length-map, length-set, length-append}
use lib.Seq.{ext_get_or, get_or-set_same, get_or-set_other}
use Rattle.plain.specs.Choice.{select}
use Rattle.plain.specs.Below.{count_below}
use Rattle.plain.specs.Lists.{range, keep_if, some_of, count, listed}

pub range_length : (a n : ℕ) → length (range a n) ≡ n
unfolding range
range_length a zero = refl
range_length a (suc n) = ap suc (range_length (suc a) n)

pub range_at : (a n i d : ℕ) → i < n → get_or (range a n) i d ≡ a + i
unfolding range
range_at a zero i d h = absurd (omega arith)
range_at a (suc n) zero d h = sym (add-zero a)
range_at a (suc n) (suc i) d h = range_at (suc a) n i d (omega arith) ∙ suc-add a i ∙ sym (add-suc a i)

-- one number more at the end
pub range-more : (a n : ℕ) → range a (suc n) ≡ range a n ++ ((a + n) ∷ [])
unfolding range
range-more a zero = ap (λ (k : ℕ). k ∷ []) (sym (add-zero a))
range-more a (suc n) =
    ap (λ (l : List ℕ). a ∷ l)
    (range-more (suc a) n ∙ ap (λ (k : ℕ). range (suc a) n ++ (k ∷ [])) (suc-add a n ∙ sym (add-suc a n)))

module _ {A : Type 0} (f : A → Bool) where
  pub keep_if-append : (xs ys : List A) → keep_if f (xs ++ ys) ≡ keep_if f xs ++ keep_if f ys
  unfolding keep_if
  keep_if-append [] ys = refl
  keep_if-append (x ∷ xs) ys = go (f x) (keep_if-append xs ys)
    where
      go : (b : Bool) → keep_if f (xs ++ ys) ≡ keep_if f xs ++ keep_if f ys
          → select b (x ∷ keep_if f (xs ++ ys)) (keep_if f (xs ++ ys)) ≡ select b (x ∷ keep_if f xs) (keep_if f xs) ++ keep_if f ys
      go true h = ap (λ (l : List A). x ∷ l) h
      go false h = h

  pub some-of-append : (xs ys : List A) → some_of f (xs ++ ys) ≡ (some_of f xs || some_of f ys)
  unfolding some_of
  some-of-append [] ys = refl
  some-of-append (x ∷ xs) ys = go (f x) (some-of-append xs ys)
    where
      go : (b : Bool) → some_of f (xs ++ ys) ≡ (some_of f xs || some_of f ys)
          → (b || some_of f (xs ++ ys)) ≡ (b || some_of f xs || some_of f ys)
      go true h = refl
      go false h = h

  pub count_most : (xs : List A) → count f xs ≤ length xs
  unfolding count
  count_most [] = omega arith
  count_most (x ∷ xs) = go (f x) (count_most xs)
    where
      go : (b : Bool) → count f xs ≤ length xs → select b (suc (count f xs)) (count f xs) ≤ suc (length xs)
      go true h = omega arith
      go false h = omega arith

  pub count-append : (xs ys : List A) → count f (xs ++ ys) ≡ count f xs + count f ys
  unfolding count
  count-append [] ys = omega arith
  count-append (x ∷ xs) ys = go (f x) (count-append xs ys)
    where
      go : (b : Bool) → count f (xs ++ ys) ≡ count f xs + count f ys
          → select b (suc (count f (xs ++ ys))) (count f (xs ++ ys)) ≡ select b (suc (count f xs)) (count f xs) + count f ys
      go true h = omega arith
      go false h = h

module _ {A : Type 0} where
  pub listed-length : (n : ℕ) (f : ℕ → A) → length (listed n f) ≡ n
  unfolding listed
  listed-length n f = length-map (range 0 n) f ∙ range_length 0 n

  pub listed_same : (n : ℕ) (f g : ℕ → A) → ((i : ℕ) → i < n → f i ≡ g i) → listed n f ≡ listed n g
  unfolding listed range
  listed_same n f g h = from 0 n (λ i l. h i (omega arith))
    where
      from : (a k : ℕ) → ((i : ℕ) → i < a + k → f i ≡ g i) → map f (range a k) ≡ map g (range a k)
      from a zero e = refl
      from a (suc k) e = ap₂ ◌∷◌ (e a (omega arith)) (from (suc a) k (λ i l. e i (omega arith)))

pub listed_at : (n : ℕ) (f : ℕ → ℕ) (i : ℕ) → i < n → get_or (listed n f) i 0 ≡ f i
unfolding listed
listed_at n f i h = within (range 0 n) i (omega (arith, range_length 0 n)) ∙ ap f (range_at 0 n i 0 h ∙ zero-add i)
  where
    within : (l : List ℕ) (k : ℕ) → k < length l → get_or (map f l) k 0 ≡ f (get_or l k 0)
    within [] k l = absurd (omega arith)
    within (x ∷ xs) zero l = refl
    within (x ∷ xs) (suc k) l = within xs k (omega arith)

-- an entry of a list that is known to be one
pub listed-read : (n : ℕ) (f : ℕ → ℕ) (l : List ℕ) → l ≡ listed n f → (i : ℕ) → i < n → get_or l i 0 ≡ f i
listed-read n f l e i h = ap (λ (m : List ℕ). get_or m i 0) e ∙ listed_at n f i h

-- a list by its entries
pub as-listed : (n : ℕ) (f : ℕ → ℕ) (xs : List ℕ) → length xs ≡ n → ((i : ℕ) → i < n → get_or xs i 0 ≡ f i) → xs ≡ listed n f
as-listed n f xs e h =
    ext_get_or 0 xs (listed n f) (e ∙ sym (listed-length n f)) (λ i l. h i (omega arith) ∙ sym (listed_at n f i (omega arith)))

-- one entry replaced
pub listed-set : (n : ℕ) (f g : ℕ → ℕ) (k v : ℕ) → k < n → g k ≡ v → ((i : ℕ) → i < n → (i ≡ k → ⊥) → g i ≡ f i) → set (listed n f) k v ≡ listed n g
listed-set n f g k v h e same =
    ext_get_or 0 (set (listed n f) k v) (listed n g) (length-set (listed n f) k v ∙ listed-length n f ∙ sym (listed-length n g))
    (λ i l. at i (omega (arith, l, length-set (listed n f) k v, listed-length n f)) (ℕ_discrete i k))
  where
    at : (i : ℕ) → i < n → Dec (i ≡ k) → get_or (set (listed n f) k v) i 0 ≡ get_or (listed n g) i 0
    at i l (yes q) =
        ap (λ (m : ℕ). get_or (set (listed n f) k v) m 0) q ∙ get_or-set_same (listed n f) k v 0 (omega (arith, listed-length n f)) ∙ sym e
        ∙ sym (listed_at n g k h) ∙ ap (λ (m : ℕ). get_or (listed n g) m 0) (sym q)
    at i l (no d) = get_or-set_other (listed n f) k i v 0 d ∙ listed_at n f i l ∙ sym (same i l d) ∙ sym (listed_at n g i l)

-- how many numbers below n a test keeps
pub kept-length : (n : ℕ) (f : ℕ → Bool) → length (keep_if f (range 0 n)) ≡ count_below n f
unfolding count_below keep_if range
kept-length zero f = refl
kept-length (suc n) f =
    ap (λ (l : List ℕ). length (keep_if f l)) (range-more 0 n)
    ∙ ap length (keep_if-append f (range 0 n) ((0 + n) ∷ []))
    ∙ length-append (keep_if f (range 0 n)) (keep_if f ((0 + n) ∷ []))
    ∙ ap₂ ◌+◌ (kept-length n f) (ap (λ (m : ℕ). length (keep_if f (m ∷ []))) (zero-add n) ∙ one (f n))
  where
    one : (b : Bool) → length (select b (n ∷ []) []) ≡ select b 1 0
    one true = refl
    one false = refl

-- the numbers kept, one more tried
pub kept_more : (n : ℕ) (f : ℕ → Bool) → keep_if f (range 0 (n + 1)) ≡ keep_if f (range 0 n) ++ select (f n) (n ∷ []) []
unfolding keep_if
kept_more n f =
    ap (λ (m : ℕ). keep_if f (range 0 m)) (add-one n)
    ∙ ap (keep_if f) (range-more 0 n)
    ∙ keep_if-append f (range 0 n) ((0 + n) ∷ [])
    ∙ ap (λ (m : ℕ). keep_if f (range 0 n) ++ keep_if f (m ∷ [])) (zero-add n)

pub kept_same : (n : ℕ) (f g : ℕ → Bool) → ((i : ℕ) → i < n → f i ≡ g i) → keep_if f (range 0 n) ≡ keep_if g (range 0 n)
unfolding keep_if range
kept_same n f g h = from 0 n (λ i l. h i (omega arith))
  where
    from : (a k : ℕ) → ((i : ℕ) → i < a + k → f i ≡ g i) → keep_if f (range a k) ≡ keep_if g (range a k)
    from a zero e = refl
    from a (suc k) e = ap₂ (λ (t : Bool) (l : List ℕ). select t (a ∷ l) l) (e a (omega arith)) (from (suc a) k (λ i l. e i (omega arith)))

pub kept-none : (n : ℕ) (f : ℕ → Bool) → ((i : ℕ) → i < n → f i ≡ false) → keep_if f (range 0 n) ≡ []
unfolding keep_if
kept-none n f h = kept_same n f (λ i. false) h ∙ nothing (range 0 n)
  where
    nothing : (l : List ℕ) → keep_if (λ i. false) l ≡ []
    nothing [] = refl
    nothing (x ∷ l) = nothing l

-- a list for each number, joined: one number more, and as many as give something
module _ {A : Type 0} (f : ℕ → List A) where
  flat_append : (xs ys : List ℕ) → flat_map f (xs ++ ys) ≡ flat_map f xs ++ flat_map f ys
  unfolding flat_map
  flat_append [] ys = refl
  flat_append (x ∷ xs) ys = ap (λ (l : List A). f x ++ l) (flat_append xs ys) ∙ sym (append_assoc (f x) (flat_map f xs) (flat_map f ys))

  pub flat-more : (n : ℕ) → flat_map f (range 0 (n + 1)) ≡ flat_map f (range 0 n) ++ f n
  unfolding flat_map
  flat-more n =
      ap (λ (m : ℕ). flat_map f (range 0 m)) (add-one n)
      ∙ ap (flat_map f) (range-more 0 n)
      ∙ flat_append (range 0 n) ((0 + n) ∷ [])
      ∙ ap (λ (l : List A). flat_map f (range 0 n) ++ l) (append-nil (f (0 + n)) ∙ ap f (zero-add n))

pub flat-same : {A : Type 0} (f g : ℕ → List A) (n : ℕ) → ((i : ℕ) → i < n → f i ≡ g i) → flat_map f (range 0 n) ≡ flat_map g (range 0 n)
unfolding flat_map range
flat-same {A} f g n h = from 0 n (λ i l. h i (omega arith))
  where
    from : (a k : ℕ) → ((i : ℕ) → i < a + k → f i ≡ g i) → flat_map f (range a k) ≡ flat_map g (range a k)
    from a zero e = refl
    from a (suc k) e = ap₂ (λ (x y : List A). x ++ y) (e a (omega arith)) (from (suc a) k (λ i l. e i (omega arith)))

pub flat-fewer : {A : Type 0} (f : ℕ → List A) (m k : ℕ) → ((i : ℕ) → m ≤ i → i < m + k → f i ≡ []) → flat_map f (range 0 (m + k)) ≡ flat_map f (range 0 m)
flat-fewer {A} f m zero h = ap (λ (n : ℕ). flat_map f (range 0 n)) (add-zero m)
flat-fewer {A} f m (suc k) h =
    ap (λ (n : ℕ). flat_map f (range 0 n)) (add-suc m k ∙ sym (add-one (m + k)))
    ∙ flat-more f (m + k)
    ∙ ap (λ (l : List A). flat_map f (range 0 (m + k)) ++ l) (h (m + k) (omega arith) (omega arith))
    ∙ append-nil (flat_map f (range 0 (m + k)))
    ∙ flat-fewer f m k (λ i a b. h i a (omega arith))

-- what one test keeps of what another kept, both keep
pub kept-both : {A : Type 0} (f g : A → Bool) (xs : List A) → keep_if g (keep_if f xs) ≡ keep_if (λ x. f x && g x) xs
unfolding keep_if
kept-both f g [] = refl
kept-both {A} f g (x ∷ xs) = go (f x) (kept-both f g xs)
  where
    go : (b : Bool) → keep_if g (keep_if f xs) ≡ keep_if (λ y. f y && g y) xs
        → keep_if g (select b (x ∷ keep_if f xs) (keep_if f xs)) ≡ select (b && g x) (x ∷ keep_if (λ y. f y && g y) xs) (keep_if (λ y. f y && g y) xs)
    go true e = ap (λ (l : List A). select (g x) (x ∷ l) l) e
    go false e = e

pub listed_more : {A : Type 0} (n : ℕ) (f : ℕ → A) → listed (suc n) f ≡ listed n f ++ (f n ∷ [])
unfolding listed
listed_more n f = ap (map f) (range-more 0 n) ∙ joined (range 0 n) (0 + n) ∙ ap (λ (m : ℕ). map f (range 0 n) ++ (f m ∷ [])) (omega arith)
  where
    joined : (xs : List ℕ) (m : ℕ) → map f (xs ++ (m ∷ [])) ≡ map f xs ++ (f m ∷ [])
    joined [] m = refl
    joined (x ∷ xs) m = ap (λ (l : List _). f x ∷ l) (joined xs m)

-- a list at a place

pub record Split {A : Type 0} (l : List A) (i : ℕ) : Type 0 where
  pub before : List A
  pub it : A
  pub after : List A
  pub is : l ≡ before ++ (it ∷ after)
  pub size : length before ≡ i

pub split-of : {A : Type 0} (l : List A) (i : ℕ) → i < length l → Split l i
split-of [] i h = absurd (omega arith)
split-of (x ∷ l) zero h = record { before = []; it = x; after = l; is = refl; size = refl }
split-of (x ∷ l) (suc i) h =
    let s = split-of l i (omega arith) in
    record { before = x ∷ s.before; it = s.it; after = s.after; is = ap (λ (m : List _). x ∷ m) s.is; size = ap suc s.size }

-- a list is what its entries say
pub listed-is : {A : Type 0} (l : List A) (f : ℕ → A) → ((xs : List A) (x : A) (ys : List A) → l ≡ xs ++ (x ∷ ys) → f (length xs) ≡ x) → listed (length l) f ≡ l
unfolding listed range
listed-is {A} l f h = from l [] 0 refl h
  where
    from : (ys xs : List A) (k : ℕ) → length xs ≡ k → ((as' : List A) (x : A) (bs : List A) → xs ++ ys ≡ as' ++ (x ∷ bs) → f (length as') ≡ x)
        → map f (range k (length ys)) ≡ ys
    from [] xs k e g = refl
    from (y ∷ ys) xs k e g =
        ap₂ ◌∷◌ (ap f (sym e) ∙ g xs y ys refl)
        (from ys (xs ++ (y ∷ [])) (suc k) (omega (arith, length-append xs (y ∷ []))) (λ p x q c. g p x q (sym (append_assoc xs (y ∷ []) ys) ∙ c)))
