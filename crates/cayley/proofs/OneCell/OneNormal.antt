-- one normal, and what is seen at any normal
use Rattle.std.proofs.Common.{◌≡◌, List, [], ◌∷◌, length, map, arith, refl, sym, ap₂, ◌∙◌}
use Rattle.std.proofs.lemmas.Int.{ints}
use Rattle.std.proofs.Math.IntN.{ℤ, ◌*ℤ◌, neg_ℤ}
use Rattle.wide_int.proofs.Ring.{neg_mul_ℤ}
use Rattle.int_vectors.specs.Vectors.{IsZero, add, scale, at}
use Rattle.cayley.proofs.Order.Proportion.{in_proportion}
use Rattle.cayley.specs.Times.{Time}
use Rattle.cayley.specs.Problems.{Problem, IsProblem, point_at}
use Rattle.cayley.specs.Cells.{Cell, IsOf, IsIndependent}
use Rattle.cayley.specs.Normals.{Normal, gap, IsNormal, AllAbove, HasSameValues}
use Rattle.cayley.specs.Mixed.{IsAlive}
use Rattle.cayley.specs.Laws.{OneNormal, AliveByAnyNormal}
use Rattle.cayley.proofs.OneCell.CellNormals.{a_normal, one_normal}
use Rattle.cayley.proofs.OneCell.Gaps.{gap_two}
use Rattle.cayley.proofs.Algebra.Dependence.{length-map}
use Rattle.cayley.proofs.Lists.Pairs.{pairs_map}

-- a difference that is zero, of lists of one length
pub same_lists : (a b : ℤ) (xs ys : List ℤ) → length xs ≡ length ys → IsZero (add (scale a xs) (scale (neg_ℤ b) ys)) → scale a xs ≡ scale b ys
same_lists a b [] [] l z = refl
same_lists a b [] (y ∷ ys) l z = absurd (omega (arith, l))
same_lists a b (x ∷ xs) [] l z = absurd (omega (arith, l))
same_lists a b (x ∷ xs) (y ∷ ys) l z =
    let h : a *ℤ x ≡ b *ℤ y = (let e = z.0 in let n = neg_mul_ℤ b y in omega (arith, ints, e, n)) in
    ap₂ (λ u us. u ∷ us) h (same_lists a b xs ys (omega (arith, l)) z.1)

pub same_values : (p : Problem) (cell : Cell) (t : Time) (v w : Normal) → IsProblem p → IsOf p cell → IsIndependent p cell → IsNormal p cell t v → IsNormal p cell t w → HasSameValues v w
same_values p cell t v w well of ind n m e =
    same_lists w.over v.over (map (λ x. at x e) v.entries) (map (λ x. at x e) w.entries)
    (length-map (λ x. at x e) v.entries ∙ n.0 ∙ sym m.0 ∙ sym (length-map (λ x. at x e) w.entries))
    (one_normal p cell well of ind t v w n m e)

pub one_normal_law : OneNormal
one_normal_law p cell t well of ind = (a_normal p cell well of ind t, λ v w. same_values p cell t v w well of ind)

-- alive: all further points are above at every normal
pub all_above_any : (p : Problem) (cell : Cell) (t : Time) (v : Normal) → IsProblem p → IsNormal p cell t v → IsAlive p cell t → AllAbove p cell t v
all_above_any p cell t v well n h =
    pairs_map p.supports cell _ _ (λ s a b k c f. in_proportion (gap t h.2.0 (point_at s a) (point_at s c)) (gap t v (point_at s a) (point_at s c)) v.over h.2.0.over v.positive h.2.0.positive
    (λ e. gap_two p cell well h.0 h.1 t h.2.0 v h.2.1 n (point_at s a) (point_at s c) e) (k c f))
    h.2.2

pub alive_by_any_normal : AliveByAnyNormal
alive_by_any_normal p cell t v well of ind n = ((λ h. all_above_any p cell t v well n h), (λ h. (of, ind, (v, n, h))))
