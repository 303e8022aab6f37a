-- without a tie exactly one further point is level where a cell begins or ends, and at no other time
use Rattle.std.proofs.Common.{ℕ, suc, List, [], ◌∷◌, sym, inl, inr}
use native.Mathlib.Decide.{ℕ_discrete}
use Rattle.cayley.proofs.Life.Walls.{SomeFurther}
use Rattle.cayley.proofs.Life.Decisions.{alive_after, alive_before}
use Rattle.cayley.proofs.Life.Levels.{begins_level, ends_level, after_none_below, before_none_below}
use Rattle.int_vectors.specs.Vectors.{IsZero}
use Rattle.cayley.specs.Times.{Time}
use Rattle.cayley.specs.Problems.{Point, Problem, point_at, IsProblem}
use Rattle.cayley.specs.Normals.{Normal, gap, IsNormal, NoneBelow}
use Rattle.cayley.specs.Cells.{Cell, IsOf, IsIndependent, IsFurther}
use Rattle.cayley.specs.Lives.{BeginsAt, EndsAt}
use Rattle.cayley.specs.Flips.{OneLevel}
use Rattle.cayley.specs.Ties.{IsUntied}
use Rattle.cayley.specs.Dependencies.{pair_at, nth_support}

place_level : (supports : List (List Point)) (cell : Cell) (t : Time) (v : Normal) → SomeFurther supports cell (λ a c. IsZero (gap t v a c))
    → (i : ℕ) × (c : ℕ) × (IsFurther (nth_support supports i) (pair_at cell i).0 (pair_at cell i).1 c × IsZero (gap t v (point_at (nth_support supports i) (pair_at cell i).0) (point_at (nth_support supports i) c)))
place_level [] cell t v h = absurd h
place_level (s ∷ supports) [] t v h = absurd h
place_level (s ∷ supports) (x ∷ cell) t v (inl h) = (0, h.0, (h.1, h.2))
place_level (s ∷ supports) (x ∷ cell) t v (inr h) = let r = place_level supports cell t v h in (suc r.0, r.1, r.2)

one_level_by : (p : Problem) (cell : Cell) (t : Time) (v : Normal) → IsUntied p cell t → IsOf p cell → IsIndependent p cell → IsNormal p cell t v → NoneBelow p cell t v → SomeFurther p.supports cell (λ a c. IsZero (gap t v a c)) → OneLevel p cell t
one_level_by p cell t v free of ind n below h =
    let r = place_level p.supports cell t v h in
    record {
      v = v;
      normal = n;
      none_below = below;
      j = r.0;
      c = r.1;
      only = (
        r.2,
        λ j d l. elim (ℕ_discrete r.0 j) [
          | no m ↦ absurd (free v (of, ind, n, below, inl (r.0, r.1, j, d, (λ e. m e.0), r.2, l)))
          | yes e ↦ elim (ℕ_discrete r.1 d) [
            | no m ↦ absurd (free v (of, ind, n, below, inl (r.0, r.1, j, d, (λ e. m e.1), r.2, l)))
            | yes f ↦ (sym e, sym f)
          ]
        ],
      );
      once = λ u w b k l. free v (of, ind, n, below, inr (r.0, r.1, u, w, b, k, r.2, l));
    }

pub begins_one_level : (p : Problem) (cell : Cell) → IsProblem p → (t : Time) → IsUntied p cell t → (v : Normal) → BeginsAt p cell t → IsNormal p cell t v → OneLevel p cell t
begins_one_level p cell well t free v h n =
    let a = alive_after p cell t h.0 in
    one_level_by p cell t v free a.1.0 a.1.1 n (after_none_below p cell well t v h.0 n) (begins_level p cell well t v h n)

pub ends_one_level : (p : Problem) (cell : Cell) → IsProblem p → (t : Time) → IsUntied p cell t → (v : Normal) → EndsAt p cell t → IsNormal p cell t v → OneLevel p cell t
ends_one_level p cell well t free v h n =
    let a = alive_before p cell t h.0 in
    one_level_by p cell t v free a.1.0 a.1.1 n (before_none_below p cell well t v h.0 n) (ends_level p cell well t v h n)
