-- A scan that is not refused lists every reading, each once, and nothing else. So do the tries of other rules, if none is
-- left out that has a reading; and tries of fewer rules cost no more.
use mathlib.Core.Path.{◌≡◌, sym, ◌∙◌, subst, ap}
use mathlib.Core.List.Memᴰ
use mathlib.Core.List.{List, map, Memᴰ}
use Prim.Native.Nat.{ℕ, ◌+◌, ◌-◌, ◌≤◌}
use native.Mathlib.Omega.{arith}
use lib.ListN.{length}
use Rattle.plain.specs.Lists.{Apart}
use Rattle.plain.proofs.Members.{apart-map}
use Rattle.readings.specs.Tree.{Tree, Args}
use Rattle.readings.specs.Scene.{Scene, Lawful}
use Rattle.readings.specs.Plan.{Gives, done, run, visits, records}
use Rattle.readings.specs.Walk.{Match, trial, tries, top_pairs, scan}
use Rattle.readings.specs.Reading.{From, Reading, reading, Readings}
use Rattle.readings.proofs.Plans.{each-source, each-has, each-once}
use Rattle.readings.proofs.Runs.{run-done, run_room, run-enough, each-cost, each_gave, each-gives, total-fewer}
use Rattle.readings.proofs.Walks.{tree, number_of, trial-sound, trial-complete, trial-once, top-mem, top-has, top-once}

-- rules to try: each once, all of them top rules, and none left out that has a reading
pub record Enough (s : Scene) (xs : List (ℕ × ℕ)) : Type 0 where
  pub once : Apart (λ (x : ℕ × ℕ). x) xs
  pub top : (x : ℕ × ℕ) → Memᴰ x xs → Memᴰ x (top_pairs s)
  pub all : (r k : ℕ) (a : Args) → Memᴰ r s.tops → Memᴰ k (s.rules r)
      → From s (length s.line) (s.parts r k) 0 a (length s.line) → Memᴰ (r, k) xs

module _ (s : Scene) (law : Lawful s) (xs : List (ℕ × ℕ)) (enough : Enough s xs) where
  tried : {is : List Match} {t : Tree} → Gives (tries s xs) is → Reading s t → Memᴰ t (map tree is)
  unfolding tries
  tried g (reading {r} {k} {a} i j w) = Memᴰ.map tree (each-has (trial s) xs g (enough.all r k a i j w) (λ rs h. trial-complete s law (r, k) h w))

  pub tries-readings : {is : List Match} → Gives (tries s xs) is → Readings s (map tree is)
  unfolding tries
  tries-readings {is} g = record {
    only = λ m.
        let (i, n, q) = Memᴰ.of_map tree is m in
        let (x, j, rs, h, k) = each-source (trial s) xs g n in
        let (a, e, w) = trial-sound s law x h k in
        let (jr, jk) = top-mem s (enough.top x j) in
        subst (Reading s) (sym e ∙ q) (reading jr jk w);
    every = λ r. tried g r;
    once = apart-map tree (λ (t : Tree). t) tree (λ x y q. q) is
        (each-once (trial s) (λ (x : ℕ × ℕ). x) tree number_of xs
        (λ x rs i _ h m. let (a, e, w) = trial-sound s law x h m in ap number_of e)
        g enough.once (λ x rs h. trial-once s law x h));
  }

pub scan-enough : (s : Scene) → Lawful s → Enough s (top_pairs s)
scan-enough s law = record { once = top-once s law; top = λ x m. m; all = λ r k a i j w. top-has s i j }

pub scan-readings : (s : Scene) → Lawful s → (v : ℕ) {w u : ℕ} {is : List Match} → run (scan s) v 0 ≡ done w u is → Readings s (map tree is)
unfolding scan
scan-readings s law v h = tries-readings s law (top_pairs s) (scan-enough s law) (run-done (scan s) v 0 h).0

-- other rules: not refused if the scan is not, and with no fewer visits left
pub tries-done : (s : Scene) (xs : List (ℕ × ℕ)) → Apart (λ (x : ℕ × ℕ). x) xs → ((x : ℕ × ℕ) → Memᴰ x xs → Memᴰ x (top_pairs s))
    → (v : ℕ) {w u : ℕ} {is : List Match} → run (scan s) v 0 ≡ done w u is
    → (w' u' : ℕ) × (js : List Match) × (run (tries s xs) v 0 ≡ done w' u' js) × (w ≤ w')
unfolding scan tries
tries-done s xs once top v {w} {u} {is} e =
    let (g, i, j) = run-done (scan s) v 0 e in
    let r = run_room (scan s) v 0 e (omega arith) in
    let (js, g') = each-gives (trial s) xs (λ x m. each_gave (trial s) (top_pairs s) g (top x m)) in
    let (c, d) = each-cost (trial s) (top_pairs s) g in
    let (c', d') = each-cost (trial s) xs g' in
    let p = total-fewer (λ x. visits (trial s x)) xs (top_pairs s) once top in
    let q = total-fewer (λ x. records (trial s x)) xs (top_pairs s) once top in (
      v - visits (tries s xs),
      records (tries s xs) + 0,
      js,
      run-enough (tries s xs) v (v - visits (tries s xs)) 0 g' (omega arith) (omega arith),
      omega arith,
    )
