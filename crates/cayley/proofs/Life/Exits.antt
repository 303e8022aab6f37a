-- a cell precedes only where it ends, and is preceded only where it begins; the children of a cell are found at its end
use Rattle.std.proofs.Common.{◌↔◌, ℕ, ◌<◌, ◌≤◌, List, [], ◌∷◌, length, arith, sym, subst, inl, inr}
use Rattle.std.specs.Prelude.{Contains}
use Rattle.cayley.proofs.Order.Proportion.{in_proportion}
use Rattle.cayley.proofs.OneCell.Neighbours.{level_pair, level_back}
use Rattle.cayley.proofs.OneCell.Gaps.{gap_two}
use Rattle.cayley.proofs.Order.Lines.{next, before_next, before_trans, Before}
use Rattle.cayley.proofs.Order.Times.{same_sym, same_before, time_cases}
use Rattle.cayley.proofs.Life.Decisions.{alive_before, alive_after}
use Rattle.cayley.proofs.Searching.Parents.{precedes_same}
use Rattle.cayley.proofs.Life.Ends.{ends_at_once, not_after}
use Rattle.int_vectors.specs.Vectors.{IsZero, IsPositive}
use Rattle.int_vectors.proofs.Entries.{not_zero}
use Rattle.cayley.specs.Times.{Time}
use Rattle.cayley.specs.Problems.{Point, Problem, point_at, IsProblem}
use Rattle.cayley.specs.Normals.{Normal, gap, IsNormal}
use Rattle.cayley.specs.Cells.{Cell, EachPair, IsOf, IsFurther, IsLess}
use Rattle.cayley.specs.Mixed.{IsAlive}
use Rattle.cayley.specs.Lives.{BeginsAt, AliveLate, EndsAt}
use Rattle.cayley.specs.Parents.{ShareOne, DifferInOne, Precedes, IsParent}
use Rattle.cayley.specs.Shares.{IsChildren}
use Rattle.cayley.proofs.Lists.Pairs.{pairs_map}

pub share_back : (x y : ℕ × ℕ) → ShareOne x y → ShareOne y x
share_back x y (inl h) = inl (sym h.0, λ e. h.1 (sym e))
share_back x y (inr (inl h)) = inr (inl (sym h.0, λ e. h.1 (sym e)))
share_back x y (inr (inr (inl h))) = inr (inr (inr (sym h)))
share_back x y (inr (inr (inr h))) = inr (inr (inl (sym h)))

pub differ_sym : (sigma tau : Cell) → DifferInOne sigma tau → DifferInOne tau sigma
differ_sym [] tau d = absurd d
differ_sym (x ∷ sigma) [] d = absurd d
differ_sym (x ∷ sigma) (y ∷ tau) (inl h) = inl (share_back x y h.0, sym h.1)
differ_sym (x ∷ sigma) (y ∷ tau) (inr h) = inr (sym h.0, differ_sym sigma tau h.1)

-- the new point of the other pair is a further point, and level
LevelFurther : List Point → ℕ × ℕ → Time → Normal → Type 0
LevelFurther s x t v = (c : ℕ) × IsFurther s x.0 x.1 c × IsZero (gap t v (point_at s x.0) (point_at s c))

one_level : (s : List Point) (x y : ℕ × ℕ) (t : Time) (v : Normal) → (1 ≤ x.0) × (x.0 < x.1) × (x.1 ≤ length s) → (1 ≤ y.0) × (y.0 < y.1) × (y.1 ≤ length s)
    → IsZero (gap t v (point_at s x.0) (point_at s x.1)) → IsZero (gap t v (point_at s y.0) (point_at s y.1)) → ShareOne x y → LevelFurther s x t v
unfolding LevelFurther
one_level s x y t v ox oy zx zy (inl h) =
    (y.1, (omega (arith, oy.0, oy.1), oy.2, (λ q. let e = h.0 in let o = oy.1 in omega arith), (λ q. h.1 (sym q))), subst (λ k. IsZero (gap t v (point_at s k) (point_at s y.1))) (sym h.0) zy)
one_level s x y t v ox oy zx zy (inr (inl h)) =
    let b : IsZero (gap t v (point_at s x.1) (point_at s y.0)) = subst (λ k. IsZero (gap t v (point_at s k) (point_at s y.0))) (sym h.0) (level_back t v (point_at s y.0) (point_at s y.1) zy) in
    let a = level_back t v (point_at s x.0) (point_at s x.1) zx in
    (y.0, (oy.0, omega (arith, oy.1, oy.2), (λ q. h.1 (sym q)), (λ q. let e = h.0 in let o = oy.1 in omega arith)), level_pair t v (point_at s x.1) (point_at s x.0) (point_at s y.0) a b)
one_level s x y t v ox oy zx zy (inr (inr (inl e))) =
    (y.0, (oy.0, omega (arith, oy.1, oy.2), (λ q. let o = oy.1 in omega arith), (λ q. let o = oy.1 in let i = ox.1 in omega arith)), subst (λ k. IsZero (gap t v (point_at s k) (point_at s y.0))) (sym e) (level_back t v (point_at s y.0) (point_at s y.1) zy))
one_level s x y t v ox oy zx zy (inr (inr (inr e))) =
    let b : IsZero (gap t v (point_at s x.1) (point_at s y.1)) = subst (λ k. IsZero (gap t v (point_at s k) (point_at s y.1))) (sym e) zy in
    let a = level_back t v (point_at s x.0) (point_at s x.1) zx in
    (y.1, (omega (arith, oy.0, oy.1), oy.2, (λ q. let o = oy.1 in let i = ox.1 in omega arith), (λ q. let o = oy.1 in omega arith)), level_pair t v (point_at s x.1) (point_at s x.0) (point_at s y.1) a b)

not_all_above : (supports : List (List Point)) (sigma tau : Cell) (t : Time) (v : Normal)
    → EachPair supports sigma (λ s a b. (1 ≤ a) × (a < b) × (b ≤ length s)) → EachPair supports tau (λ s a b. (1 ≤ a) × (a < b) × (b ≤ length s))
    → EachPair supports sigma (λ s a b. IsZero (gap t v (point_at s a) (point_at s b))) → EachPair supports tau (λ s a b. IsZero (gap t v (point_at s a) (point_at s b)))
    → DifferInOne sigma tau → ¬ (EachPair supports sigma (λ s a b. (c : ℕ) → IsFurther s a b c → IsPositive (gap t v (point_at s a) (point_at s c))))
unfolding LevelFurther
not_all_above supports [] tau t v os ot ns nt d h = d
not_all_above supports (x ∷ sigma) [] t v os ot ns nt d h = d
not_all_above [] (x ∷ sigma) (y ∷ tau) t v os ot ns nt d h = os
not_all_above (s ∷ supports) (x ∷ sigma) (y ∷ tau) t v os ot ns nt (inl d) h =
    let l = one_level s x y t v os.0 ot.0 ns.0 nt.0 d.0 in
    not_zero (gap t v (point_at s x.0) (point_at s l.0)) (h.0 l.0 l.1) l.2
not_all_above (s ∷ supports) (x ∷ sigma) (y ∷ tau) t v os ot ns nt (inr d) h = not_all_above supports sigma tau t v os.1 ot.1 ns.1 nt.1 d.1 h.1

-- two different cells with a normal in common: neither is alive there
meeting_dead : (p : Problem) (sigma tau : Cell) (t : Time) (v : Normal) → IsProblem p → IsOf p tau → DifferInOne sigma tau → IsNormal p sigma t v → IsNormal p tau t v → ¬ (IsAlive p sigma t)
meeting_dead p sigma tau t v well ot d ns nt a =
    not_all_above p.supports sigma tau t v a.0 ot ns.1 nt.1 d
    (pairs_map p.supports sigma _ _ (λ s i j k c f. in_proportion _ (gap t v (point_at s i) (point_at s c)) v.over a.2.0.over v.positive a.2.0.positive (λ e. gap_two p sigma well a.0 a.1 t a.2.0 v a.2.1 ns (point_at s i) (point_at s c) e) (k c f)) a.2.2)

pub precedes_ends : (p : Problem) (sigma tau : Cell) (t : Time) → IsProblem p → Precedes p sigma tau t → EndsAt p sigma t
precedes_ends p sigma tau t well h = (h.1, meeting_dead p sigma tau t h.3.0 well (alive_after p tau t h.2).1.0 h.0 h.3.1 h.3.2)

pub precedes_begins : (p : Problem) (sigma tau : Cell) (t : Time) → IsProblem p → Precedes p sigma tau t → BeginsAt p tau t
precedes_begins p sigma tau t well h = (h.2, meeting_dead p tau sigma t h.3.0 well (alive_before p sigma t h.1).1.0 (differ_sym sigma tau h.0) h.3.2 h.3.1)

-- ---- the children of a cell
abbrev pub IsChildAt : Problem → Cell → Time → Cell → Type 0
IsChildAt p sigma t tau = Precedes p sigma tau t × ((rho : Cell) → Precedes p rho tau t → ¬ (IsLess rho sigma))

pub child_at : (p : Problem) (sigma tau : Cell) (t : Time) → IsProblem p → EndsAt p sigma t → IsParent p sigma tau ↔ IsChildAt p sigma t tau
child_at p sigma tau t well e = (
  (λ h.
      let s = ends_at_once p sigma well h.0 t (precedes_ends p sigma tau h.0 well h.2) e in
      (precedes_same p sigma tau h.0 t s h.2, (λ rho q. h.3 rho (precedes_same p rho tau t h.0 (same_sym h.0 t s) q)))),
  (λ h. (t, precedes_begins p sigma tau t well h.0, h.0, h.1)),
)

pub later_both : (t u : Time) → (x : Time) × Before t x × Before u x
later_both t u =
    time_cases t u
    (λ b. (next u, before_trans t u (next u) b (inl (before_next u)), before_next u))
    (λ s. (next u, same_before u t (next u) (same_sym t u s) (before_next u), before_next u))
    (λ b. (next t, before_next t, before_trans u t (next t) b (inl (before_next t))))

-- a cell that is alive at all late times has no child
pub late_nowhere : (p : Problem) (sigma : Cell) (t : Time) → IsProblem p → AliveLate p sigma → ¬ (EndsAt p sigma t)
late_nowhere p sigma t well l e =
    let m = later_both l.0 t in
    not_after p sigma well t m.0 e m.2 (l.1 m.0 m.1)

pub late_childless : (p : Problem) (sigma tau : Cell) → IsProblem p → AliveLate p sigma → ¬ (IsParent p sigma tau)
late_childless p sigma tau well l h = late_nowhere p sigma h.0 well l (precedes_ends p sigma tau h.0 well h.2)

pub late_children : (p : Problem) (sigma : Cell) → IsProblem p → AliveLate p sigma → IsChildren p sigma []
late_children p sigma well l = (tt, (tt, (λ c. ((λ k. absurd (nothing_in c k)), (λ h. absurd (late_childless p sigma c well l h))))))
  where
    nothing_in : (c : Cell) → ¬ (Contains {X = Cell} [] c)
    nothing_in c k = let l = k.1 in omega arith
