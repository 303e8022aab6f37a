-- Three points on a line: the path meets the premises of the law of started problems, and its mixed cells are 1 2 and 2 3.
use Rattle.std.proofs.Common.{◌≡◌, ◌↔◌, ◌⊎◌, zero, suc, [], ◌∷◌, map, take, arith, refl, sym, ap, subst, inl, inr, Contains}
use Rattle.std.proofs.lemmas.Int.{ints}
use Rattle.int_vectors.specs.Vectors.{at}
use Rattle.cayley.specs.Times.{Time}
use Rattle.cayley.specs.Problems.{Point}
use Rattle.cayley.specs.Valid.{AreDistinct, IsValidProblem}
use Rattle.cayley.specs.Cells.{Cell, IsListOf}
use Rattle.cayley.specs.Mixed.{IsAlive, IsMixedCell}
use Rattle.cayley.specs.Shares.{IsShare}
use Rattle.cayley.proofs.Searching.Listing.{Has}
use Rattle.cayley.proofs.Searching.Members.{contains_has, has_contains}
use Rattle.cayley.proofs.Worked.ThreePoints.{three, three_well, three_share, three_tree, start, start_early, left_mixed, right_mixed, left_mixed_is_mixed, right_mixed_is_mixed, tree}
use Rattle.cayley.specs.Dependencies.{nth_support}
use Rattle.start_system.specs.Started.{IsStarted, IsSearched, FindsAllMixed, start_branch}
use Rattle.start_system.proofs.Started.SearchLaws.{started_law}
use Rattle.start_system.proofs.Worked.TieFree.{three_tie_free}

-- it is started, with no start heights in its one support
three_started : IsStarted three
three_started = ([] ∷ [], (refl, ((refl, tt), tt)), refl)

-- no two of its file points are in one place
apart : AreDistinct (map (λ (x : Point). x.coordinates) (take 3 (nth_support three.supports 0)))
apart zero zero l m e = omega (arith, l)
apart zero (suc zero) l m e = let q = ap (λ xs. at xs 0) e in omega (arith, ints, q)
apart zero (suc (suc zero)) l m e = let q = ap (λ xs. at xs 0) e in omega (arith, ints, q)
apart zero (suc (suc (suc k))) l m e = omega (arith, m)
apart (suc zero) zero l m e = omega (arith, l)
apart (suc zero) (suc zero) l m e = omega (arith, l)
apart (suc zero) (suc (suc zero)) l m e = let q = ap (λ xs. at xs 0) e in omega (arith, ints, q)
apart (suc zero) (suc (suc (suc k))) l m e = omega (arith, m)
apart (suc (suc j)) k l m e = omega (arith, l, m)

-- it keeps what a problem keeps
three_valid : IsValidProblem three
three_valid = record {
  ranks = refl;
  shape = record {
    dimension = (omega arith, omega arith);
    problem = three_well;
    counts = ((omega arith, omega arith), tt);
    corners = inr (refl, tt);
    still = inl ((refl, (refl, (refl, tt))), tt);
    moving = ((refl, (refl, tt)), tt);
  };
  limits = (
    (
      (((omega arith, tt), omega arith, omega arith), (((omega arith, tt), omega arith, omega arith), (((omega arith, tt), omega arith, omega arith), tt))),
      (((omega arith, tt), (omega (arith, ints), omega (arith, ints))), (((omega arith, tt), (omega (arith, ints), omega (arith, ints))), tt)),
    ),
    tt,
  );
  distinct = (apart, tt);
}

-- so the law of started problems speaks of it
three_searched : IsSearched three
three_searched = started_law three three_valid three_started

-- the share of the start branch is the list of all mixed cells of the target
finds_all : FindsAllMixed three
finds_all = (three_searched.complete three_tie_free).0

-- so the share that was computed along the path tree is that list
share_is_all : IsListOf (IsMixedCell three) (left_mixed ∷ right_mixed ∷ [])
share_is_all = (finds_all (left_mixed ∷ right_mixed ∷ [])).0 three_share

-- ---- the same without a look at the other pairs of file points: the cells of the path tree that have no corner
of_files : (cell : Cell) → IsMixedCell three cell → Has cell tree → Has cell (left_mixed ∷ right_mixed ∷ [])
of_files cell h (inl e) = inl e
of_files cell h (inr (inl e)) = inr (inl e)
of_files cell h (inr (inr (inl e))) = let k = (subst (λ x. IsMixedCell three x) e h).0.0.2 in absurd (omega (arith, k))
of_files cell h (inr (inr (inr (inl e)))) = let k = (subst (λ x. IsMixedCell three x) e h).0.0.2 in absurd (omega (arith, k))
of_files cell h (inr (inr (inr (inr (inl e))))) = let k = (subst (λ x. IsMixedCell three x) e h).0.0.2 in absurd (omega (arith, k))
of_files cell h (inr (inr (inr (inr (inr e))))) = absurd e

has_tree : (cell : Cell) → Has cell (left_mixed ∷ right_mixed ∷ []) → Has cell tree
has_tree cell (inl e) = inl e
has_tree cell (inr (inl e)) = inr (inl e)
has_tree cell (inr (inr e)) = absurd e

has_mixed : (cell : Cell) → Has cell (left_mixed ∷ right_mixed ∷ []) → IsMixedCell three cell
has_mixed cell (inl e) = subst (λ x. IsMixedCell three x) (sym e) left_mixed_is_mixed
has_mixed cell (inr (inl e)) = subst (λ x. IsMixedCell three x) (sym e) right_mixed_is_mixed
has_mixed cell (inr (inr e)) = absurd e

-- the share of the start branch, read off the path tree
share_by_tree : IsShare three (start_branch three) (left_mixed ∷ right_mixed ∷ [])
share_by_tree =
    let first = ((three_tree start).1 (has_contains tree start (inr (inr (inr (inr (inl refl))))))).0 in (
      (inl (omega arith), tt),
      λ cell. (
        (λ h. let k = contains_has (left_mixed ∷ right_mixed ∷ []) cell h in (start_early, has_mixed cell k, ((three_tree cell).1 (has_contains tree cell (has_tree cell k))).1)),
        (λ h. has_contains (left_mixed ∷ right_mixed ∷ []) cell (of_files cell h.1 (contains_has tree cell ((three_tree cell).0 (first, h.2))))),
      ),
    )

-- exactly 1 2 and 2 3 are mixed
mixed_cells : (cell : Cell) → IsMixedCell three cell ↔ ((cell ≡ (1, 2) ∷ []) ⊎ (cell ≡ (2, 3) ∷ []))
mixed_cells cell =
    let is = ((finds_all (left_mixed ∷ right_mixed ∷ [])).0 share_by_tree).1 cell in (
      (λ h. elim (contains_has (left_mixed ∷ right_mixed ∷ []) cell (is.1 h)) [ inl e ↦ inl e | inr (inl e) ↦ inr e | inr (inr e) ↦ absurd e ]),
      (λ h. is.0 (has_contains (left_mixed ∷ right_mixed ∷ []) cell (elim h [ inl e ↦ inl e | inr e ↦ inr (inl e) ]))),
    )

-- a cell that is alive at some time is one of the five of the path tree
alive_cells : (cell : Cell) (t : Time) → IsAlive three cell t → Contains tree cell
alive_cells cell t alive = (three_tree cell).0 ((three_searched.complete three_tie_free).1 cell t alive)
