-- Two points of different height on a line: the path meets the premises of the law of started problems, and its search finds the one mixed cell.
use Rattle.std.proofs.Common.{ℕ, zero, suc, ◌<◌, ◌≤◌, [], ◌∷◌, map, take, arith, refl, sym, ap, subst, inl, inr}
use Rattle.std.proofs.lemmas.Int.{ints}
use Rattle.int_vectors.specs.Vectors.{at}
use Rattle.cayley.specs.Problems.{Point}
use Rattle.cayley.specs.Valid.{AreDistinct, IsValidProblem}
use Rattle.cayley.specs.Cells.{Cell, IsListOf}
use Rattle.cayley.specs.Mixed.{IsMixedCell}
use Rattle.cayley.specs.Shares.{IsShare}
use Rattle.cayley.proofs.Searching.Listing.{Has}
use Rattle.cayley.proofs.Searching.Members.{contains_has, has_contains}
use Rattle.cayley.proofs.Worked.TwoPoints.{two, two_well, two_tie_free, mixed, mixed_is_mixed}
use Rattle.cayley.specs.Dependencies.{nth_support}
use Rattle.start_system.specs.Started.{IsStarted, IsSearched, start_branch}
use Rattle.start_system.proofs.Started.SearchLaws.{started_law}

-- the path of the two points is started, with no start heights in its one support
two_started : IsStarted two
two_started = ([] ∷ [], (refl, ((refl, tt), tt)), refl)

-- its file points are in two places
apart : AreDistinct (map (λ (x : Point). x.coordinates) (take 2 (nth_support two.supports 0)))
apart zero zero l m e = omega (arith, l)
apart zero (suc zero) l m e = let q = ap (λ xs. at xs 0) e in omega (arith, ints, q)
apart zero (suc (suc k)) l m e = omega (arith, m)
apart (suc j) k l m e = omega (arith, l, m)

-- it keeps what a problem keeps
two_valid : IsValidProblem two
two_valid = record {
  ranks = refl;
  shape = record {
    dimension = (omega arith, omega arith);
    problem = two_well;
    counts = ((omega arith, omega arith), tt);
    corners = inr (refl, tt);
    still = inl ((refl, (refl, tt)), tt);
    moving = ((refl, (refl, tt)), tt);
  };
  limits = (
    (
      (((omega arith, tt), omega arith, omega arith), (((omega arith, tt), omega arith, omega arith), tt)),
      (((omega arith, tt), (omega (arith, ints), omega (arith, ints))), (((omega arith, tt), (omega (arith, ints), omega (arith, ints))), tt)),
    ),
    tt,
  );
  distinct = (apart, tt);
}

-- so the law of started problems speaks of it
two_searched : IsSearched two
two_searched = started_law two two_valid two_started

-- two points have one pair
one_pair : (a b : ℕ) → (1 ≤ a) × (a < b) × (b ≤ 2) → Has ((a, b) ∷ []) (mixed ∷ [])
one_pair zero b o = absurd (omega (arith, o.0))
one_pair (suc zero) zero o = absurd (omega (arith, o.1))
one_pair (suc zero) (suc zero) o = absurd (omega (arith, o.1))
one_pair (suc zero) (suc (suc zero)) o = inl refl
one_pair (suc zero) (suc (suc (suc b))) o = absurd (omega (arith, o.2))
one_pair (suc (suc a)) b o = absurd (let p = o.1 in let q = o.2 in omega (arith, p, q))

mixed_has : (cell : Cell) → IsMixedCell two cell → Has cell (mixed ∷ [])
mixed_has [] h = absurd h.0
mixed_has (x ∷ []) h = one_pair x.0 x.1 h.0.0
mixed_has (x ∷ y ∷ cell) h = absurd h.0.1

has_mixed : (cell : Cell) → Has cell (mixed ∷ []) → IsMixedCell two cell
has_mixed cell (inl e) = subst (λ x. IsMixedCell two x) (sym e) mixed_is_mixed
has_mixed cell (inr e) = absurd e

-- it is the one mixed cell
two_mixed : IsListOf (IsMixedCell two) (mixed ∷ [])
two_mixed = (tt, λ cell. ((λ h. has_mixed cell (contains_has (mixed ∷ []) cell h)), (λ h. has_contains (mixed ∷ []) cell (mixed_has cell h))))

-- so by the law the share of the start branch is that cell
finds_one : IsShare two (start_branch two) (mixed ∷ [])
finds_one = ((two_searched.complete two_tie_free).0 (mixed ∷ [])).1 two_mixed
