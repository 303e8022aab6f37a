-- the supports and pairs of a cell by their places, and a place as a spot
use Rattle.std.proofs.Common.{◌≡◌, ℕ, zero, suc, ◌≤◌, List, [], ◌∷◌, ◌++◌, length, arith, refl, ap}
use Rattle.int_vectors.specs.Vectors.{IsZero}
use Rattle.cayley.specs.Times.{Time}
use Rattle.cayley.specs.Problems.{Version, Point, Problem, point_at}
use Rattle.cayley.specs.Cells.{Cell, EachPair, IsFurther}
use Rattle.cayley.specs.Normals.{Normal, gap, IsNormal, NoneBelow}
use Rattle.cayley.specs.Dependencies.{pair_at, nth_support}
use Rattle.cayley.specs.Flips.{put_pair, IsOnlyLevel}
use Rattle.cayley.proofs.Flipping.OneSupport.{OneSupport, problem_of, with_pair, LevelPoint, NoneLevel, OnlyLevel}
use Rattle.cayley.proofs.Lists.Pairs.{pairs_long}

pub record AtPlace (p : Problem) (cell : Cell) (j : ℕ) : Type 0 where
  pub o : OneSupport
  pub x : ℕ × ℕ
  pub p_is : problem_of o ≡ p
  pub cell_is : with_pair o x ≡ cell
  pub j_is : length o.cb ≡ j

-- a place of a cell as a spot
pub at_place_of : (version : Version) (n : ℕ) (files : List ℕ) (supports : List (List Point)) (cell : Cell) (j : ℕ) → length supports ≡ length cell → suc j ≤ length cell
    → AtPlace (record { version = version; dimension = n; files = files; supports = supports }) cell j
at_place_of version n files supports [] j l b = absurd (omega arith)
at_place_of version n files [] (x ∷ cell) j l b = absurd (omega arith)
at_place_of version n files (s ∷ supports) (x ∷ cell) zero l b =
    record { o = record { version = version; n = n; files = files; sb = []; s = s; sa = supports; cb = []; ca = cell; long = refl }; x = x; p_is = refl; cell_is = refl; j_is = refl }
at_place_of version n files (s ∷ supports) (x ∷ cell) (suc j) l b =
    let q = at_place_of version n files supports cell j (omega arith) (omega arith) in
    record {
      o = record { version = version; n = n; files = files; sb = s ∷ q.o.sb; s = q.o.s; sa = q.o.sa; cb = x ∷ q.o.cb; ca = q.o.ca; long = ap suc q.o.long };
      x = q.x;
      p_is = ap (λ (r : Problem). more s r) q.p_is;
      cell_is = ap (λ l. x ∷ l) q.cell_is;
      j_is = ap suc q.j_is;
    }
  where
    more : List Point → Problem → Problem
    more s r = record { version = version; dimension = n; files = files; supports = s ∷ r.supports }

pub only_level_place : (supports : List (List Point)) (cell : Cell) (j c : ℕ) (t : Time) (v : Normal) → OnlyLevel supports cell j c t v → suc j ≤ length cell
only_level_place [] cell j c t v e = absurd e
only_level_place (s ∷ supports) [] j c t v e = absurd e
only_level_place (s ∷ supports) (x ∷ cell) zero c t v e = omega arith
only_level_place (s ∷ supports) (x ∷ cell) (suc j) c t v e = let h = only_level_place supports cell j c t v e.1 in omega (arith, h)

pub pair_at_spot : (cb ca : Cell) (x : ℕ × ℕ) → pair_at (cb ++ x ∷ ca) (length cb) ≡ x
pair_at_spot [] ca x = refl
pair_at_spot (y ∷ cb) ca x = pair_at_spot cb ca x

pub put_pair_spot : (cb ca : Cell) (x y : ℕ × ℕ) → put_pair (cb ++ x ∷ ca) (length cb) y ≡ cb ++ y ∷ ca
put_pair_spot [] ca x y = refl
put_pair_spot (z ∷ cb) ca x y = ap (λ l. z ∷ l) (put_pair_spot cb ca x y)

pub support_at_spot : (sb : List (List Point)) (s : List Point) (sa : List (List Point)) (cb : Cell) → length sb ≡ length cb → nth_support (sb ++ s ∷ sa) (length cb) ≡ s
support_at_spot [] s sa [] l = refl
support_at_spot [] s sa (x ∷ cb) l = absurd (omega arith)
support_at_spot (r ∷ sb) s sa [] l = absurd (omega arith)
support_at_spot (r ∷ sb) s sa (x ∷ cb) l = support_at_spot sb s sa cb (omega arith)

-- all pairs of one cell
each_place : (P Q : List Point → ℕ → ℕ → Type 0) (supports : List (List Point)) (cell : Cell) → EachPair supports cell P
    → ((j : ℕ) → suc j ≤ length cell → Q (nth_support supports j) (pair_at cell j).0 (pair_at cell j).1) → EachPair supports cell Q
each_place P Q [] [] e h = tt
each_place P Q [] (x ∷ cell) e h = e
each_place P Q (s ∷ supports) [] e h = e
each_place P Q (s ∷ supports) (x ∷ cell) e h = (h 0 (omega arith), each_place P Q supports cell e.1 (λ j l. h (suc j) (omega (arith, l))))

pub place_of : (P : List Point → ℕ → ℕ → Type 0) (supports : List (List Point)) (cell : Cell) → EachPair supports cell P → (j : ℕ) → suc j ≤ length cell → P (nth_support supports j) (pair_at cell j).0 (pair_at cell j).1
place_of P [] [] e j l = absurd (omega arith)
place_of P [] (x ∷ cell) e j l = absurd e
place_of P (s ∷ supports) [] e j l = absurd e
place_of P (s ∷ supports) (x ∷ cell) e zero l = e.0
place_of P (s ∷ supports) (x ∷ cell) e (suc j) l = place_of P supports cell e.1 j (omega (arith, l))

-- the further point c of support j is level
abbrev pub LevelAt : List (List Point) → Cell → ℕ → ℕ → Time → Normal → Type 0
LevelAt supports cell j c t v = (suc j ≤ length cell) × IsFurther (nth_support supports j) (pair_at cell j).0 (pair_at cell j).1 c
    × IsZero (gap t v (point_at (nth_support supports j) (pair_at cell j).0) (point_at (nth_support supports j) c))

-- the only level point
pub only_level : (t : Time) (v : Normal) (P : List Point → ℕ → ℕ → Type 0) (supports : List (List Point)) (cell : Cell) (j c : ℕ) → EachPair supports cell P → LevelAt supports cell j c t v
    → ((i f : ℕ) → LevelAt supports cell i f t v → (i ≡ j) × (f ≡ c)) → OnlyLevel supports cell j c t v
only_level t v P [] [] j c e l u = absurd (let h = l.0 in omega (arith, h))
only_level t v P [] (x ∷ cell) j c e l u = absurd e
only_level t v P (s ∷ supports) [] j c e l u = absurd e
only_level t v P (s ∷ supports) (x ∷ cell) zero c e l u =
    ((l.1, l.2, λ f i z. (u 0 f (omega arith, i, z)).1), each_place P (NoneLevel t v) supports cell e.1 (λ j b f i z. absurd (let h = (u (suc j) f (omega (arith, b), i, z)).0 in omega (arith, h))))
only_level t v P (s ∷ supports) (x ∷ cell) (suc j) c e l u = (
  (λ f i z. let h = (u 0 f (omega arith, i, z)).0 in omega (arith, h)),
  only_level t v P supports cell j c e.1 (let h = l.0 in (omega (arith, h), l.1, l.2)) (λ i f k. let h = k.0 in let q = u (suc i) f (omega (arith, h), k.1, k.2) in let g = q.0 in (omega (arith, g), q.1)),
)

-- a further point is of a support that has a pair
pub further_bound : (supports : List (List Point)) (cell : Cell) (j c : ℕ) → length supports ≡ length cell → IsFurther (nth_support supports j) (pair_at cell j).0 (pair_at cell j).1 c → suc j ≤ length cell
further_bound [] cell j c l f = absurd (let a = f.0 in let b = f.1 in omega (arith, a, b))
further_bound (s ∷ supports) [] j c l f = absurd (omega (arith, l))
further_bound (s ∷ supports) (x ∷ cell) zero c l f = omega arith
further_bound (s ∷ supports) (x ∷ cell) (suc j) c l f = let h = further_bound supports cell j c (omega (arith, l)) f in omega (arith, h)

-- one level point by places, and by recursion
pub only_by_places : (p : Problem) (cell : Cell) (t : Time) (v : Normal) (j c : ℕ) → IsNormal p cell t v → IsOnlyLevel p cell t v j c → OnlyLevel p.supports cell j c t v
only_by_places p cell t v j c n o =
    let l = pairs_long p.supports cell _ n.1 in
    only_level t v _ p.supports cell j c n.1 (further_bound p.supports cell j c l o.0.0, o.0.0, o.0.1) (λ i f h. o.1 i f (h.1, h.2))

record Parts (sb : List (List Point)) (s : List Point) (sa : List (List Point)) (cb : Cell) (x : ℕ × ℕ) (ca : Cell) (c : ℕ) (t : Time) (v : Normal) : Type 0 where
  further : IsFurther s x.0 x.1 c
  level : IsZero (gap t v (point_at s x.0) (point_at s c))
  only : (f : ℕ) → IsFurther s x.0 x.1 f → IsZero (gap t v (point_at s x.0) (point_at s f)) → f ≡ c
  left : EachPair sb cb (NoneLevel t v)
  right : EachPair sa ca (NoneLevel t v)

parts : (sb : List (List Point)) (s : List Point) (sa : List (List Point)) (cb : Cell) (x : ℕ × ℕ) (ca : Cell) (c : ℕ) (t : Time) (v : Normal) → length sb ≡ length cb → OnlyLevel (sb ++ s ∷ sa) (cb ++ x ∷ ca) (length cb) c t v → Parts sb s sa cb x ca c t v
parts [] s sa [] x ca c t v l e = record { further = e.0.0; level = e.0.1; only = e.0.2; left = tt; right = e.1 }
parts [] s sa (y ∷ cb) x ca c t v l e = absurd (omega arith)
parts (r ∷ sb) s sa [] x ca c t v l e = absurd (omega arith)
parts (r ∷ sb) s sa (y ∷ cb) x ca c t v l e =
    let q = parts sb s sa cb x ca c t v (omega arith) e.1 in
    record { further = q.further; level = q.level; only = q.only; left = (e.0, q.left); right = q.right }

-- the premises by place give those by spot
pub level_point_of : (o : OneSupport) (x : ℕ × ℕ) (c : ℕ) (t : Time) (v : Normal) → IsNormal (problem_of o) (with_pair o x) t v → OnlyLevel (problem_of o).supports (with_pair o x) (length o.cb) c t v → NoneBelow (problem_of o) (with_pair o x) t v → LevelPoint o x.0 x.1 c t
level_point_of o x c t v is only none =
    let e = parts o.sb o.s o.sa o.cb x o.ca c t v o.long only in
    record { further = e.further; v = v; normal = is; none_below = none; level = e.level; only = e.only; left = e.left; right = e.right }
