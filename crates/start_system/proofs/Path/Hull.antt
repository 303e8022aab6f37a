-- a file point lies in the hull of its support's corners
use Rattle.std.proofs.Common.{◌≡◌, ℕ, zero, suc, ◌+◌, ◌<◌, List, [], ◌∷◌, length, arith, refl, sym, ap, ap₂, ◌∙◌, ◌<ℤ◌}
use Rattle.std.proofs.lemmas.Int.{ints}
use Rattle.std.proofs.Math.IntN.{ℤ, pos, ◌+ℤ◌, ◌-ℤ◌, ◌*ℤ◌, neg_ℤ, *ℤ-zero}
use Rattle.int_vectors.specs.Vectors.{weigh, Each, dot, at, add, sub, scale, at_place}
use Rattle.int_vectors.proofs.Weighing.{weigh-lin}
use Rattle.wide_int.proofs.Ring.{as_D, Ds, same_D}
use Rattle.int_vectors.proofs.Entries.{length-scale}
use Rattle.cayley.specs.Problems.{Point, point_at}
use Rattle.cayley.specs.Paths.{sum_of}
use Rattle.cayley.proofs.Algebra.Kernel.{dot_comm, places, weigh_map, weigh-at, length-places}
use Rattle.cayley.proofs.Algebra.ScaledInverse.{dot-add}
use Rattle.cayley.proofs.OneCell.Neighbours.{dot-sub}
use Rattle.cayley.proofs.OneCell.CellNormals.{same_long}
use Rattle.start_system.proofs.Path.Shape.{InHull, each_places}
use Rattle.start_system.proofs.Path.Reach.{Inside}

weigh_one : {A : Type 0} (ys : List ℤ) (xs : List A) → length ys ≡ length xs → weigh ys xs (λ k. pos 1) ≡ sum_of ys
weigh_one [] xs e = refl
weigh_one (y ∷ ys) [] e = absurd (omega arith)
weigh_one (y ∷ ys) (x ∷ xs) e = let r = weigh_one ys xs (omega arith) in omega (arith, ints, r)

weigh_same_on : {A : Type 0} (cs : List ℤ) (xs : List A) (f g : A → ℤ) → Each xs (λ x. f x ≡ g x) → weigh cs xs f ≡ weigh cs xs g
weigh_same_on [] xs f g e = refl
weigh_same_on (c ∷ cs) [] f g e = refl
weigh_same_on (c ∷ cs) (x ∷ xs) f g e = ap₂ (λ p s. c *ℤ p +ℤ s) e.0 (weigh_same_on cs xs f g e.1)

dot_place : (w : List ℤ) (k : ℕ) (d : ℤ) → dot (at_place k d) w ≡ d *ℤ at w k
dot_place [] zero d = sym (*ℤ-zero d)
dot_place [] (suc k) d = sym (*ℤ-zero d)
dot_place (b ∷ w) zero d = omega (arith, ints)
dot_place (b ∷ w) (suc k) d = let r = dot_place w k d in omega (arith, ints, r)

pub dot_corner : (m : List ℤ) (k : ℕ) (d : ℤ) (w : List ℤ) → dot (add m (at_place k d)) w ≡ dot m w +ℤ d *ℤ at w k
dot_corner m k d w =
    dot_comm (add m (at_place k d)) w ∙ dot-add w m (at_place k d)
    ∙ ap₂ ◌+ℤ◌ (dot_comm w m) (dot_comm w (at_place k d) ∙ dot_place w k d)

pub hull_of : (n f c : ℕ) (s : List Point) (m : List ℤ) (d : ℤ) → pos 0 <ℤ d → Inside n m d (point_at s c).coordinates → length m ≡ n
    → (point_at s (suc f)).coordinates ≡ m → ((k : ℕ) → k < n → (point_at s (f + suc (suc k))).coordinates ≡ add m (at_place k d)) → InHull s f n c
hull_of n f c s m d pd inside lm at_first directions =
    let x = (point_at s c).coordinates in
    let y = sub x m in
    let total = sum_of y in
    let ly : length y ≡ n = same_long x (scale (neg_ℤ (pos 1)) m) n inside.0 (length-scale (neg_ℤ (pos 1)) m ∙ lm) in
    let one = weigh_one y (places n) (ly ∙ sym (length-places n)) in
    record {
      d = d;
      positive = pd;
      numbers = (d -ℤ total) ∷ y;
      whole = (let l = inside.2 in omega (arith, ints, l), inside.1);
      sum = let e = weigh_map y (λ k. f + suc (suc k)) (places n) (λ k. pos 1) in omega (arith, ints, e, one);
      is = λ w.
          let e = weigh_map y (λ k. f + suc (suc k)) (places n) (λ k. dot (point_at s k).coordinates w) in
          let g = weigh_same_on y (places n) (λ k. dot (point_at s (f + suc (suc k))).coordinates w) (λ k. dot m w *ℤ pos 1 +ℤ d *ℤ at w k)
          (each_places _ n (λ k l. ap (λ z. dot z w) (directions k l) ∙ dot_corner m k d w ∙ omega (arith, ints))) in
          let l = weigh-lin y (places n) (dot m w) d (λ k. pos 1) (at w) in
          let o = ap (λ z. dot m w *ℤ z) one in
          let i = ap (λ z. d *ℤ z) (weigh-at y n w ly ∙ dot_comm w y ∙ dot-sub x m w) in
          let h = ap (λ z. (d -ℤ total) *ℤ dot z w) at_first in
          let r = ring d total (dot m w) (dot x w) in
          omega (arith, ints, e, g, l, o, i, h, r);
    }
  where
    ring : (d t m x : ℤ) → (d -ℤ t) *ℤ m +ℤ (m *ℤ t +ℤ d *ℤ (x -ℤ m)) ≡ d *ℤ x
    ring d t m x = rw (as_D d, as_D t, as_D m, as_D x) (simp Ds (same_D _ _ _ _ (omega arith)))
