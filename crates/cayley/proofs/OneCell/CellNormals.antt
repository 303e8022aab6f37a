-- from the definitions on problems and cells to rows and differences of heights
use Rattle.std.specs.Prelude.{slice_index_or}
use Rattle.std.proofs.Common.{◌≡◌, ℕ, zero, suc, ◌-◌, ◌<◌, ◌≤◌, List, [], ◌∷◌, length, arith, refl, sym, ap, ◌∙◌}
use Rattle.std.proofs.Math.IntN.{ℤ, pos, neg_ℤ}
use Rattle.cayley.proofs.Algebra.Kernel.{Kills, Independent}
use Rattle.cayley.proofs.Algebra.RowNormals.{IsNormalFor, normal_exists, normal_unique}
use Rattle.int_vectors.specs.Vectors.{IsZero, scale, Each, dot, add, sub, entries_at}
use Rattle.int_vectors.proofs.Entries.{length-scale}
use Rattle.cayley.specs.Problems.{Point, origin, Problem, point_at, IsProblem}
use Rattle.cayley.specs.Times.{Time}
use Rattle.cayley.specs.Normals.{Normal, height, gap, IsNormal}
use Rattle.cayley.specs.Cells.{Cell, EachPair, IsOf, IsIndependent}
use Rattle.cayley.specs.Rows.{edges}

abbrev pub rises : Time → List (List Point) → Cell → List (List ℤ)
rises t [] cell = []
rises t (s ∷ supports) [] = []
rises t (s ∷ supports) (pair ∷ cell) = sub (height t (point_at s pair.1)) (height t (point_at s pair.0)) ∷ rises t supports cell

pub length-rises : (t : Time) (supports : List (List Point)) (cell : Cell) → length (edges supports cell) ≡ length (rises t supports cell)
length-rises t [] cell = refl
length-rises t (s ∷ supports) [] = refl
length-rises t (s ∷ supports) (pair ∷ cell) = ap suc (length-rises t supports cell)

pub length-edges : (supports : List (List Point)) (cell : Cell) (P : List Point → ℕ → ℕ → Type 0) → EachPair supports cell P → length (edges supports cell) ≡ length supports
length-edges [] [] P e = refl
length-edges [] (pair ∷ cell) P e = absurd e
length-edges (s ∷ supports) [] P e = absurd e
length-edges (s ∷ supports) (pair ∷ cell) P e = ap suc (length-edges supports cell P e.1)

pub same_long : (a b : List ℤ) (n : ℕ) → length a ≡ n → length b ≡ n → length (add a b) ≡ n
same_long [] b n p q = q
same_long (x ∷ a) [] n p q = p
same_long (x ∷ a) (y ∷ b) zero p q = absurd (omega arith)
same_long (x ∷ a) (y ∷ b) (suc n) p q = ap suc (same_long a b n (omega arith) (omega arith))

-- the point at a position of the support
long_point : (n : ℕ) (s : List Point) (k : ℕ) → 1 ≤ k → k ≤ length s → Each s (λ (x : Point). length x.coordinates ≡ n) → length (point_at s k).coordinates ≡ n
long_point n s k p q e = at_index n s (k - 1) (omega arith) e
  where
    at_index : (n : ℕ) (s : List Point) (i : ℕ) → i < length s → Each s (λ (x : Point). length x.coordinates ≡ n) → length (slice_index_or s i origin).coordinates ≡ n
    at_index n [] i l e = absurd (omega arith)
    at_index n (x ∷ s) zero l e = e.0
    at_index n (x ∷ s) (suc i) l e = at_index n s i (omega arith) e.1

pub long-edges : (n : ℕ) (supports : List (List Point)) (cell : Cell) → EachPair supports cell (λ s a b. (1 ≤ a) × (a < b) × (b ≤ length s)) → Each supports (λ s. Each s (λ (x : Point). length x.coordinates ≡ n)) → Each (edges supports cell) (λ r. length r ≡ n)
long-edges n [] cell of e = tt
long-edges n (s ∷ supports) [] of e = tt
long-edges n (s ∷ supports) (pair ∷ cell) of e = (
  same_long (point_at s pair.1).coordinates (scale (neg_ℤ (pos 1)) (point_at s pair.0).coordinates) n (long_point n s pair.1 (omega (arith, of.0.0, of.0.1)) of.0.2 e.0)
      (length-scale (neg_ℤ (pos 1)) (point_at s pair.0).coordinates ∙ long_point n s pair.0 of.0.0 (omega (arith, of.0.1, of.0.2)) e.0),
  long-edges n supports cell of.1 e.1,
)

pub kills_to : (supports : List (List Point)) (cell : Cell) (v : List ℤ) (P : List Point → ℕ → ℕ → Type 0) → EachPair supports cell P → Kills (edges supports cell) v
    → EachPair supports cell (λ s a b. dot (sub (point_at s b).coordinates (point_at s a).coordinates) v ≡ pos 0)
kills_to [] [] v P e k = tt
kills_to [] (pair ∷ cell) v P e k = e
kills_to (s ∷ supports) [] v P e k = e
kills_to (s ∷ supports) (pair ∷ cell) v P e k = (k.0, kills_to supports cell v P e.1 k.1)

pub normal_to : (t : Time) (supports : List (List Point)) (cell : Cell) (v : Normal) (P : List Point → ℕ → ℕ → Type 0) → EachPair supports cell P
    → IsNormalFor (edges supports cell) (rises t supports cell) t.over v.over v.entries
    → EachPair supports cell (λ s a b. IsZero (gap t v (point_at s a) (point_at s b)))
normal_to t [] [] v P e k = tt
normal_to t [] (pair ∷ cell) v P e k = e
normal_to t (s ∷ supports) [] v P e k = e
normal_to t (s ∷ supports) (pair ∷ cell) v P e k = (k.0, normal_to t supports cell v P e.1 k.1)

pub normal_from : (t : Time) (supports : List (List Point)) (cell : Cell) (v : Normal)
    → EachPair supports cell (λ s a b. IsZero (gap t v (point_at s a) (point_at s b)))
    → IsNormalFor (edges supports cell) (rises t supports cell) t.over v.over v.entries
normal_from t [] cell v k = tt
normal_from t (s ∷ supports) [] v k = tt
normal_from t (s ∷ supports) (pair ∷ cell) v k = (k.0, normal_from t supports cell v k.1)

module _ (p : Problem) (cell : Cell) (well : IsProblem p) (of : IsOf p cell) (ind : IsIndependent p cell) where
  pub rows_independent : Independent p.dimension (edges p.supports cell)
  rows_independent v l k = ind v l (kills_to p.supports cell v _ of k)

  pub long_rows : length (edges p.supports cell) ≡ p.dimension
  long_rows = length-edges p.supports cell _ of ∙ well.supports

  -- a normal
  pub a_normal : (t : Time) → (v : Normal) × IsNormal p cell t v
  a_normal t =
      let r = edges p.supports cell in
      let h = rises t p.supports cell in
      let n = normal_exists p.dimension r h t.over long_rows (sym (length-rises t p.supports cell) ∙ long_rows) (long-edges p.dimension p.supports cell of well.points) t.positive rows_independent in
      let v : Normal = record { entries = n.v; over = n.d; positive = n.positive } in
      (v, (n.long, normal_to t p.supports cell v _ of n.is))

  -- no other
  pub one_normal : (t : Time) (v w : Normal) → IsNormal p cell t v → IsNormal p cell t w → (e : ℕ) → IsZero (add (scale w.over (entries_at e v.entries)) (scale (neg_ℤ v.over) (entries_at e w.entries)))
  one_normal t v w iv iw e =
      let r = edges p.supports cell in
      let h = rises t p.supports cell in
      normal_unique p.dimension r h t.over v.over w.over v.entries w.entries t.positive (length-rises t p.supports cell) iv.0 iw.0 rows_independent
      (normal_from t p.supports cell v iv.1) (normal_from t p.supports cell w iw.1) e
