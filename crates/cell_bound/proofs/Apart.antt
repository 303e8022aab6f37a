-- points of a small simplex are near each other
use Rattle.std.proofs.Common.{◌≡◌, ℕ, zero, suc, ◌+◌, ◌*◌, ◌<◌, ◌≤◌, List, [], ◌∷◌, length, arith, refl, ap, sym, ◌∙◌, ◌≤ℤ◌, ℤ, pos, ◌+ℤ◌, ◌-ℤ◌, unsigned_abs}
use Rattle.std.proofs.lemmas.Int.{ints, int_min_is, int_max_is}
use Rattle.int_vectors.specs.Vectors.{Each, at, add, sub, at_place}
use Rattle.int_vectors.specs.Bounds.{size}
use Rattle.cayley.specs.Problems.{Point}
use Rattle.cayley.specs.Files.{FilePoint}
use Rattle.cayley.specs.Paths.{lower, least_coordinates, sum_of, simplex_edge}
use Rattle.start_system.proofs.Path.Reach.{Long, Inside}
use Rattle.cell_bound.specs.Ranges.{AreNear}
use Rattle.cell_bound.specs.Quiet.{IsNarrow}

-- ---- two points over one
size_sum : (u : List ℤ) → Each u (λ k. pos 0 ≤ℤ k) → pos (size u) ≡ sum_of u
size_sum [] h = refl
size_sum (x ∷ u) h = let r = size_sum u h.1 in let a = h.0 in omega (arith, ints, r, a)

pub apart : (x y m : List ℤ) → length x ≡ length m → length y ≡ length m → size (sub x y) ≤ size (sub x m) + size (sub y m)
apart [] [] [] p q = omega arith
apart [] [] (m ∷ ms) p q = absurd (omega (arith, p))
apart [] (y ∷ ys) [] p q = absurd (omega (arith, q))
apart [] (y ∷ ys) (m ∷ ms) p q = absurd (omega (arith, p))
apart (x ∷ xs) y [] p q = absurd (omega (arith, p))
apart (x ∷ xs) [] (m ∷ ms) p q = absurd (omega (arith, q))
apart (x ∷ xs) (y ∷ ys) (m ∷ ms) p q = let r = apart xs ys ms (omega (arith, p)) (omega (arith, q)) in omega (arith, ints, r)

-- in the simplex at m of the size d, with a small height that rises by 1 or rests
pub record IsSettled (n : ℕ) (m : List ℤ) (d : ℤ) (x : Point) : Type 0 where
  pub inside : Inside n m d x.coordinates
  pub base : unsigned_abs x.base ≤ 1000
  pub rests : pos 0 ≤ℤ x.speed
  pub rises : x.speed ≤ℤ pos 1

pub settled_near : (n : ℕ) (m : List ℤ) (d : ℤ) (a c : Point) → length m ≡ n → d ≤ℤ pos 18 → IsSettled n m d a → IsSettled n m d c → AreNear 36 2000 a c
settled_near n m d a c l b ha hc =
    let ia = ha.inside in
    let ic = hc.inside in
    let e = size_sum (sub a.coordinates m) ia.1 in
    let f = size_sum (sub c.coordinates m) ic.1 in
    let ta = ia.2 in
    let tc = ic.2 in
    let s = apart c.coordinates a.coordinates m (ic.0 ∙ sym l) (ia.0 ∙ sym l) in
    let ba = ha.base in
    let bc = hc.base in
    let ra = ha.rests in
    let rc = hc.rests in
    let ua = ha.rises in
    let uc = hc.rises in
    (omega (arith, ints, e, f, ta, tc, s, b), omega (arith, ints, ba, bc), omega (arith, ints, ra, rc, ua, uc))

-- ---- the reach of narrow points
-- no entry of x is more than 6 above that of m
abbrev IsLow : List ℤ → List ℤ → Type 0
IsLow [] [] = Unit {0}
IsLow [] (x ∷ xs) = ⊥
IsLow (m ∷ ms) [] = ⊥
IsLow (m ∷ ms) (x ∷ xs) = (x ≤ℤ (m +ℤ pos 6)) × IsLow ms xs

low_by : (m x : List ℤ) → length m ≡ length x → ((k : ℕ) → unsigned_abs (at x k -ℤ at m k) ≤ 6) → IsLow m x
low_by [] [] e h = tt
low_by [] (x ∷ xs) e h = absurd (omega (arith, e))
low_by (m ∷ ms) [] e h = absurd (omega (arith, e))
low_by (m ∷ ms) (x ∷ xs) e h = (let a = h 0 in omega (arith, ints, a), low_by ms xs (omega (arith, e)) (λ k. h (suc k)))

low_lower : (m l x : List ℤ) → IsLow m x → IsLow l x → IsLow (lower m l) x
low_lower [] l [] p q = tt
low_lower [] l (x ∷ xs) p q = absurd p
low_lower (m ∷ ms) l [] p q = absurd p
low_lower (m ∷ ms) [] (x ∷ xs) p q = absurd q
low_lower (m ∷ ms) (l ∷ ls) (x ∷ xs) p q = (let a = p.0 in let b = q.0 in let i = int_min_is m l in omega (arith, ints, a, b, i), low_lower ms ls xs p.1 q.1)

low_least : (points : List FilePoint) (x : List ℤ) → 1 ≤ length points → Each points (λ y. IsLow y.coordinates x) → IsLow (least_coordinates points) x
low_least [] x l h = absurd (omega (arith, l))
low_least (y ∷ []) x l h = h.0
low_least (y ∷ z ∷ points) x l h = low_lower y.coordinates (least_coordinates (z ∷ points)) x h.0 (low_least (z ∷ points) x (omega arith) h.1)

low_sum : (m x : List ℤ) → IsLow m x → sum_of (sub x m) ≤ℤ pos (6 * length m)
low_sum [] [] h = omega (arith, ints)
low_sum [] (x ∷ xs) h = absurd h
low_sum (m ∷ ms) [] h = absurd h
low_sum (m ∷ ms) (x ∷ xs) h = let r = low_sum ms xs h.1 in let a = h.0 in omega (arith, ints, r, a)

each_low : (n : ℕ) (x : List ℤ) (points : List FilePoint) → length x ≡ n → Long n points → Each points (λ y. (k : ℕ) → unsigned_abs (at x k -ℤ at y.coordinates k) ≤ 6) → Each points (λ y. IsLow y.coordinates x)
each_low n x [] l w h = tt
each_low n x (y ∷ points) l w h = (low_by y.coordinates x (w.0 ∙ sym l) h.0, each_low n x points l w.1 h.1)

reach_by : (m : List ℤ) (points : List FilePoint) (d : ℤ) → pos 1 ≤ℤ d → Each points (λ x. sum_of (sub x.coordinates m) ≤ℤ d) → simplex_edge m points ≤ℤ d
reach_by m [] d one h = one
reach_by m (x ∷ points) d one h =
    let r = reach_by m points d one h.1 in
    let a = h.0 in
    let i = int_max_is (sum_of (sub x.coordinates m)) (simplex_edge m points) in
    omega (arith, ints, r, a, i)

module _ (n : ℕ) (all : List FilePoint) (some : 1 ≤ length all) (long : Long n all) (small : n ≤ 3) (count : length (least_coordinates all) ≡ n) where
  sums : (points : List FilePoint) → Long n points → Each points (λ x. Each all (λ y. (k : ℕ) → unsigned_abs (at x.coordinates k -ℤ at y.coordinates k) ≤ 6))
      → Each points (λ x. sum_of (sub x.coordinates (least_coordinates all)) ≤ℤ pos 18)
  sums [] w h = tt
  sums (x ∷ points) w h =
      let r = low_sum (least_coordinates all) x.coordinates (low_least all x.coordinates some (each_low n x.coordinates all w.0 long h.0)) in
      (omega (arith, ints, r, count, small), sums points w.1 h.1)

  pub reach_small : IsNarrow all → simplex_edge (least_coordinates all) all ≤ℤ pos 18
  reach_small h = reach_by (least_coordinates all) all (pos 18) (omega (arith, ints)) (sums all long h)

-- ---- corners
pub inside_first : (m : List ℤ) (d : ℤ) → pos 0 ≤ℤ d → Inside (length m) m d m
inside_first m d p = (refl, zeros m, let e = none m in omega (arith, ints, p, e))
  where
    zeros : (m : List ℤ) → Each (sub m m) (λ k. pos 0 ≤ℤ k)
    zeros [] = tt
    zeros (x ∷ m) = (omega (arith, ints), zeros m)

    none : (m : List ℤ) → sum_of (sub m m) ≡ pos 0
    none [] = refl
    none (x ∷ m) = let r = none m in omega (arith, ints, r)

pub inside_direction : (m : List ℤ) (k : ℕ) (d : ℤ) → pos 0 ≤ℤ d → k < length m → Inside (length m) m d (add m (at_place k d))
inside_direction m k d p lt = (long m k lt, parts m k lt, let e = total m k lt in omega (arith, ints, e))
  where
    long : (m : List ℤ) (k : ℕ) → k < length m → length (add m (at_place k d)) ≡ length m
    long [] k lt = absurd (omega (arith, lt))
    long (x ∷ []) zero lt = refl
    long (x ∷ y ∷ m) zero lt = refl
    long (x ∷ m) (suc k) lt = ap suc (long m k (omega (arith, lt)))

    rest : (m : List ℤ) → Each (sub (add m []) m) (λ k. pos 0 ≤ℤ k)
    rest [] = tt
    rest (x ∷ []) = (omega (arith, ints), tt)
    rest (x ∷ y ∷ m) = (omega (arith, ints), rest (y ∷ m))

    rest_none : (m : List ℤ) → sum_of (sub (add m []) m) ≡ pos 0
    rest_none [] = refl
    rest_none (x ∷ []) = omega (arith, ints)
    rest_none (x ∷ y ∷ m) = let r = rest_none (y ∷ m) in omega (arith, ints, r)

    parts : (m : List ℤ) (k : ℕ) → k < length m → Each (sub (add m (at_place k d)) m) (λ k. pos 0 ≤ℤ k)
    parts [] k lt = absurd (omega (arith, lt))
    parts (x ∷ m) zero lt = (omega (arith, ints, p), rest m)
    parts (x ∷ m) (suc k) lt = (omega (arith, ints), parts m k (omega (arith, lt)))

    total : (m : List ℤ) (k : ℕ) → k < length m → sum_of (sub (add m (at_place k d)) m) ≡ d
    total [] k lt = absurd (omega (arith, lt))
    total (x ∷ m) zero lt = let r = rest_none m in omega (arith, ints, r)
    total (x ∷ m) (suc k) lt = let r = total m k (omega (arith, lt)) in omega (arith, ints, r)
