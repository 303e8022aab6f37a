-- One point on a line: the path meets the premises of the law of started problems and has no tie, and its search finds nothing.
use Rattle.std.proofs.Common.{◌≡◌, ℕ, zero, suc, ◌+◌, ◌-◌, ◌≤◌, List, [], ◌∷◌, arith, refl, subst, inl, inr, None}
use Rattle.std.proofs.lemmas.Int.{ints}
use Rattle.std.proofs.Math.IntN.{ℤ, pos, negsuc}
use Rattle.cayley.specs.Times.{Time}
use Rattle.cayley.specs.Problems.{Point, Problem, IsProblem}
use Rattle.cayley.specs.Problems.Version.{version1}
use Rattle.cayley.specs.Files.{File}
use Rattle.cayley.specs.Paths.{path}
use Rattle.cayley.specs.Valid.{IsValidProblem}
use Rattle.cayley.specs.Cells.{IsListOf}
use Rattle.cayley.specs.Mixed.{IsMixedCell}
use Rattle.cayley.specs.Shares.{IsShare}
use Rattle.cayley.specs.Ties.{IsUntied, IsTieFree}
use Rattle.cayley.proofs.Searching.Members.{contains_has}
use Rattle.cayley.proofs.Worked.OnePoint.{none_mixed}
use Rattle.start_system.specs.Started.{IsStarted, IsSearched, start_branch}
use Rattle.start_system.proofs.Started.SearchLaws.{started_law}
use Rattle.start_system.proofs.Worked.OneSupport.{on_a_line, over, untied_by}

abbrev one_point : File
one_point = record { version = version1; dimension = 1; supports = (record { coordinates = pos 5 ∷ []; height = pos 7 } ∷ []) ∷ []; starts = None }

abbrev point : ℤ → ℤ → ℤ → Point
point x base speed = record { coordinates = x ∷ []; base = base; speed = speed; rank = 0 }

abbrev points : List Point
points = point (pos 5) (pos 7) (pos 0) ∷ point (pos 5) (pos 0) (pos 1) ∷ point (pos 6) (pos 0) (pos 1) ∷ []

abbrev lone : Problem
lone = on_a_line 1 points

-- the path of the point
lone_path : path one_point ≡ lone
lone_path = refl

lone_well : IsProblem lone
lone_well = record { supports = refl; points = ((refl, (refl, (refl, tt))), tt) }

-- it is started, with no start heights in its one support
lone_started : IsStarted lone
lone_started = ([] ∷ [], (refl, ((refl, tt), tt)), refl)

-- it keeps what a problem keeps
lone_valid : IsValidProblem lone
lone_valid = record {
  ranks = refl;
  shape = record {
    dimension = (omega arith, omega arith);
    problem = lone_well;
    counts = ((omega arith, omega arith), tt);
    corners = inr (refl, tt);
    still = inl ((refl, tt), tt);
    moving = ((refl, (refl, tt)), tt);
  };
  limits = (
    (
      (((omega arith, tt), omega arith, omega arith), tt),
      (((omega arith, tt), (omega (arith, ints), omega (arith, ints))), (((omega arith, tt), (omega (arith, ints), omega (arith, ints))), tt)),
    ),
    tt,
  );
  distinct = ((λ j k l m e. omega (arith, l, m)), tt);
}

-- so the law of started problems speaks of it
lone_searched : IsSearched lone
lone_searched = started_law lone lone_valid lone_started

Untied : ℕ → ℕ → Type 0
Untied a b = (t : Time) → IsUntied lone ((a, b) ∷ []) t

-- the point and the corner below it are no independent pair
one_two : Untied 1 2
unfolding Untied
one_two t v h = let e = (h.1 (pos 1 ∷ []) refl (refl, tt)).0 in omega (arith, ints, e)

-- the corner is level at 7 alone
one_three : Untied 1 3
unfolding Untied
one_three = untied_by 1 points lone_well 1 3 (over 0 (pos 7) (negsuc 0)) (refl, (((refl, tt), refl), tt)) (2 ∷ [])
    (λ k f. let p = f.0 in let q = f.1 in let r = f.2 in let s = f.3 in inl (omega (arith, p, q, r, s)))
    (tt, tt) ((λ q x o s y. omega (arith, ints, o, s, y)), tt)

-- the point is level at 7 alone
two_three : Untied 2 3
unfolding Untied
two_three = untied_by 1 points lone_well 2 3 (over 0 (pos 0) (pos 0)) (refl, (((refl, tt), refl), tt)) (1 ∷ [])
    (λ k f. let p = f.0 in let q = f.1 in let r = f.2 in let s = f.3 in inl (omega (arith, p, q, r, s)))
    (tt, tt) ((λ q x o s y. omega (arith, ints, o, s, y)), tt)

-- the second position by how far it is behind the first
pairs : (a k : ℕ) → 1 ≤ a → a + suc k ≤ 3 → Untied a (a + suc k)
pairs zero k p q = absurd (omega (arith, p))
pairs (suc zero) zero p q = one_two
pairs (suc zero) (suc zero) p q = one_three
pairs (suc zero) (suc (suc k)) p q = absurd (omega (arith, q))
pairs (suc (suc zero)) zero p q = two_three
pairs (suc (suc zero)) (suc k) p q = absurd (omega (arith, q))
pairs (suc (suc (suc a))) k p q = absurd (omega (arith, q))

-- the path of one point has no tie
lone_tie_free : IsTieFree lone
unfolding Untied
lone_tie_free [] t v h = h.0
lone_tie_free (x ∷ y ∷ cell) t v h = h.0.1
lone_tie_free (x ∷ []) t v h =
    let o = h.0.0.0 in let p = h.0.0.1 in let q = h.0.0.2 in
    let e : x.0 + suc (x.1 - suc x.0) ≡ x.1 = omega (arith, p) in
    subst (λ b. Untied x.0 b) e (pairs x.0 (x.1 - suc x.0) o (omega (arith, p, q))) t v h

-- one point has no pair, so no cell is mixed
lone_mixed : IsListOf (IsMixedCell lone) []
lone_mixed = (tt, λ cell. ((λ h. absurd (contains_has [] cell h)), (λ h. absurd (none_mixed cell h))))

-- so by the law the share of the start branch is empty
finds_nothing : IsShare lone (start_branch lone) []
finds_nothing = ((lone_searched.complete lone_tie_free).0 []).1 lone_mixed
