-- the laws of exchange and of flips on any problem and cell, from the spot to the place
use Rattle.std.proofs.Common.{◌≡◌, ◌≢◌, ◌↔◌, ℕ, length, arith, sym, ap, subst, ◌∙◌, inl, inr, ◌<ℤ◌}
use Rattle.std.proofs.lemmas.Int.{ints}
use Rattle.std.proofs.Math.IntN.{pos}
use Rattle.cayley.proofs.Flipping.Exchange.{others_of, turn, exchange_independent, independent_turned_at}
use Rattle.cayley.proofs.Flipping.Places.{at_place_of, only_level_place, pair_at_spot, put_pair_spot, support_at_spot, level_point_of, further_bound, only_by_places}
use Rattle.cayley.proofs.Life.Levels.{before_none_below}
use Rattle.cayley.proofs.Flipping.FlipSpots.{successors_are, predecessors_are, crosses, successor_begins, parent_is}
use Rattle.cayley.proofs.Flipping.CellNumbers.{circuit_of_numbers}
use Rattle.cayley.specs.Problems.{Problem, point_at, IsProblem}
use Rattle.cayley.specs.Times.{Time}
use Rattle.cayley.specs.Normals.{Normal, IsNormal, NoneBelow}
use Rattle.cayley.specs.Cells.{Cell, IsOf, IsIndependent, IsFurther}
use Rattle.cayley.specs.Lives.{AliveJustBefore}
use Rattle.cayley.specs.Dependencies.{Numbers, IsDependencyWith, number_at, pair_at, IsFurtherAt, IsPositiveDependency, nth_support}
use Rattle.cayley.specs.Flips.{rising, put_pair, for_first, for_second, IsSuccessorAt, IsPredecessorAt, Flips}
use Rattle.cayley.proofs.Flipping.OneSupport.{OneSupport, problem_of, with_pair, OnlyLevel, IsSuccessor, IsPredecessor}
use Rattle.cayley.specs.Laws.{Exchange}
use Rattle.cayley.specs.FlipLaws.{FlipLaw}
use Rattle.cayley.proofs.Lists.Pairs.{pairs_long}
use Rattle.cayley.proofs.OneCell.CellRows.{InRange}

-- the two cells by place are those by spot
for_first_spot : (o : OneSupport) (x : ℕ × ℕ) (c : ℕ) → for_first (with_pair o x) (length o.cb) c ≡ with_pair o (rising x.1 c)
for_first_spot o x c = ap (λ i. put_pair (with_pair o x) (length o.cb) (rising i.1 c)) (pair_at_spot o.cb o.ca x) ∙ put_pair_spot o.cb o.ca x (rising x.1 c)

for_second_spot : (o : OneSupport) (x : ℕ × ℕ) (c : ℕ) → for_second (with_pair o x) (length o.cb) c ≡ with_pair o (rising x.0 c)
for_second_spot o x c = ap (λ i. put_pair (with_pair o x) (length o.cb) (rising i.0 c)) (pair_at_spot o.cb o.ca x) ∙ put_pair_spot o.cb o.ca x (rising x.0 c)

dependency_spot : (o : OneSupport) (x : ℕ × ℕ) (c : ℕ) (numbers : Numbers) → IsDependencyWith (problem_of o) (with_pair o x) (length o.cb) (point_at (nth_support (problem_of o).supports (length o.cb)) c) numbers
    → IsDependencyWith (problem_of o) (with_pair o x) (length o.cb) (point_at o.s c) numbers
dependency_spot o x c numbers = subst (λ s. IsDependencyWith (problem_of o) (with_pair o x) (length o.cb) (point_at s c) numbers) (support_at_spot o.sb o.s o.sa o.cb o.long)

-- exchange at a spot
exchange_spot : (o : OneSupport) (x : ℕ × ℕ) (c : ℕ) (numbers : Numbers) → IsProblem (problem_of o) → IsOf (problem_of o) (with_pair o x) → IsIndependent (problem_of o) (with_pair o x)
    → IsFurtherAt (problem_of o) (with_pair o x) (length o.cb) c → IsPositiveDependency (problem_of o) (with_pair o x) (length o.cb) c numbers
    → (IsIndependent (problem_of o) (for_first (with_pair o x) (length o.cb) c) ↔ ((number_at numbers.pairs (length o.cb)).0 ≢ pos 0))
    × (IsIndependent (problem_of o) (for_second (with_pair o x) (length o.cb) c) ↔ ((number_at numbers.pairs (length o.cb)).1 ≢ pos 0))
unfolding turn
exchange_spot o x c numbers well of ind further d =
    let q = circuit_of_numbers o x.0 x.1 c numbers d.1.0 (dependency_spot o x c numbers d.1.1) in
    let k = q.circuit in
    let f : IsFurther o.s x.0 x.1 c = subst (λ i. IsFurther o.s i.0 i.1 c) (pair_at_spot o.cb o.ca x) (subst (λ s. IsFurther s (pair_at (with_pair o x) (length o.cb)).0 (pair_at (with_pair o x) (length o.cb)).1 c) (support_at_spot o.sb o.s o.sa o.cb o.long) further) in
    let some : k.lz ≢ pos 0 = λ e. let h = d.0 in let i = q.z_is in omega (arith, ints, e, h, i) in
    let e = others_of InRange o x of in
    let one = exchange_independent o x.1 x.0 c (turn o x.0 x.1 c k) well InRange e (λ i. f.3 (sym i)) some (independent_turned_at o x.0 x.1 ind) in
    let two = exchange_independent o x.0 x.1 c k well InRange e (λ i. f.2 (sym i)) some ind in (
      ((λ h i. one.0 (subst (IsIndependent (problem_of o)) (for_first_spot o x c) h) (q.x_is ∙ i)), (λ h. subst (IsIndependent (problem_of o)) (sym (for_first_spot o x c)) (one.1 (λ i. h (sym q.x_is ∙ i))))),
      ((λ h i. two.0 (subst (IsIndependent (problem_of o)) (for_second_spot o x c) h) (q.y_is ∙ i)), (λ h. subst (IsIndependent (problem_of o)) (sym (for_second_spot o x c)) (two.1 (λ i. h (sym q.y_is ∙ i))))),
    )

-- the law of exchange
pub exchange_law : Exchange
exchange_law p cell j c numbers well of ind further d =
    let l = pairs_long p.supports cell InRange of in
    let q = at_place_of p.version p.dimension p.files p.supports cell j l (further_bound p.supports cell j c l further) in
    let S : Problem → Cell → ℕ → Type 0 = λ p cell j. IsProblem p → IsOf p cell → IsIndependent p cell → IsFurtherAt p cell j c → IsPositiveDependency p cell j c numbers
    → (IsIndependent p (for_first cell j c) ↔ ((number_at numbers.pairs j).0 ≢ pos 0)) × (IsIndependent p (for_second cell j c) ↔ ((number_at numbers.pairs j).1 ≢ pos 0)) in
    (subst (λ r. S r cell j) q.p_is (subst (λ l. S (problem_of q.o) l j) q.cell_is (subst (λ i. S (problem_of q.o) (with_pair q.o q.x) i) q.j_is (exchange_spot q.o q.x c numbers))))
    well of ind further d

-- the law of flips at a spot
flips_spot : (o : OneSupport) (x : ℕ × ℕ) (c : ℕ) (numbers : Numbers) (t : Time) (v : Normal) → IsProblem (problem_of o) → AliveJustBefore (problem_of o) (with_pair o x) t
    → IsNormal (problem_of o) (with_pair o x) t v → OnlyLevel (problem_of o).supports (with_pair o x) (length o.cb) c t v → NoneBelow (problem_of o) (with_pair o x) t v
    → IsPositiveDependency (problem_of o) (with_pair o x) (length o.cb) c numbers → Flips (problem_of o) (with_pair o x) (length o.cb) c (number_at numbers.pairs (length o.cb)) t
flips_spot o x c numbers t v well before is only none d =
    let q = circuit_of_numbers o x.0 x.1 c numbers d.1.0 (dependency_spot o x c numbers d.1.1) in
    let k = q.circuit in
    let l = level_point_of o x c t v is only none in
    let plus : pos 0 <ℤ k.lz = subst (λ i. pos 0 <ℤ i) (sym q.z_is) d.0 in
    let p = problem_of o in
    let cell = with_pair o x in
    let j = length o.cb in
    let m = number_at numbers.pairs j in
    let a = x.0 in
    let b = x.1 in
    let to : (tau : Cell) → IsSuccessorAt cell j c m tau → IsSuccessor o a b c k.lx k.ly tau = λ tau h. elim h [
      | inl i ↦ inl (i.0 ∙ for_second_spot o x c, subst (λ i. i <ℤ pos 0) (sym q.y_is) i.1)
      | inr i ↦ inr (i.0 ∙ for_first_spot o x c, subst (λ i. i <ℤ pos 0) (sym q.x_is) i.1)
    ] in
    let from : (tau : Cell) → IsSuccessor o a b c k.lx k.ly tau → IsSuccessorAt cell j c m tau = λ tau h. elim h [
      | inl i ↦ inl (i.0 ∙ sym (for_second_spot o x c), subst (λ i. i <ℤ pos 0) q.y_is i.1)
      | inr i ↦ inr (i.0 ∙ sym (for_first_spot o x c), subst (λ i. i <ℤ pos 0) q.x_is i.1)
    ] in
    let to_p : (rho : Cell) → IsPredecessorAt cell j c m rho → IsPredecessor o a b c k.lx k.ly rho = λ rho h. elim h [
      | inl i ↦ inl i
      | inr g ↦ elim g [
        | inl i ↦ inr (inl (i.0 ∙ for_second_spot o x c, subst (λ i. pos 0 <ℤ i) (sym q.y_is) i.1))
        | inr i ↦ inr (inr (i.0 ∙ for_first_spot o x c, subst (λ i. pos 0 <ℤ i) (sym q.x_is) i.1))
      ]
    ] in
    let from_p : (rho : Cell) → IsPredecessor o a b c k.lx k.ly rho → IsPredecessorAt cell j c m rho = λ rho h. elim h [
      | inl i ↦ inl i
      | inr g ↦ elim g [
        | inl i ↦ inr (inl (i.0 ∙ sym (for_second_spot o x c), subst (λ i. pos 0 <ℤ i) q.y_is i.1))
        | inr i ↦ inr (inr (i.0 ∙ sym (for_first_spot o x c), subst (λ i. pos 0 <ℤ i) q.x_is i.1))
      ]
    ] in
    record {
      successors = λ tau. let s = successors_are o t a b c well before l k plus tau in ((λ h. s.0 (to tau h)), (λ h. from tau (s.1 h)));
      predecessors = λ rho. let s = predecessors_are o t a b c well before l k plus rho in (
        (λ h. let r = s.0 (to_p rho h) in (r.0, from r.0 r.1, r.2)),
        (λ h. from_p rho (s.1 (h.0, to h.0 h.1, h.2))),
      );
      crosses = λ rho tau h i. crosses o t a b c well before l k plus rho tau (to_p rho h) (to tau i);
      begins = λ tau h. successor_begins o t a b c well before l k plus tau (to tau h);
      keeps = λ tau h. let s = parent_is o t a b c well before l k plus tau (to tau h) in (
        (λ g. s.0 (λ rho i. g rho (from_p rho i))),
        (λ g rho i. s.1 g rho (to_p rho i)),
      );
    }

-- the law of flips
pub flip_law : FlipLaw
flip_law p cell j c numbers t v well before is one d =
    let none = before_none_below p cell well t v before is in
    let only = only_by_places p cell t v j c is one in
    let q = at_place_of p.version p.dimension p.files p.supports cell j (pairs_long p.supports cell _ is.1) (only_level_place p.supports cell j c t v only) in
    let S : Problem → Cell → ℕ → Type 0 = λ p cell j. IsProblem p → AliveJustBefore p cell t → IsNormal p cell t v → OnlyLevel p.supports cell j c t v → NoneBelow p cell t v
    → IsPositiveDependency p cell j c numbers → Flips p cell j c (number_at numbers.pairs j) t in
    (subst (λ r. S r cell j) q.p_is (subst (λ l. S (problem_of q.o) l j) q.cell_is (subst (λ i. S (problem_of q.o) (with_pair q.o q.x) i) q.j_is (flips_spot q.o q.x c numbers t v))))
    well before is only none d
