-- faults don't look at ranks
use Rattle.std.proofs.Common.{◌≡◌, ◌≤◌, ℕ, zero, suc, ◌-◌, List, [], ◌∷◌, map, refl, ap, sym, subst, ◌∙◌, inl, inr}
use Rattle.std.specs.Prelude.{slice_index_or}
use Rattle.std.proofs.lemmas.List.{length-map}
use Rattle.cayley.specs.declared.faults.ShapeFault.{ShapeFault}
use Rattle.cayley.specs.declared.faults.ShapeFault.TheVariants.{BadShape, Repeated, Range, StartRange, OutOfMemory}
use Rattle.cayley.specs.Problems.{Version, Point, with_rank, ranked_supports}
use Rattle.cayley.specs.Shapes.{IsRepeat, IsFirst, IsOutsideOf, IsFaultyOf, IsPlaceFault, IsProblemFault}
use Rattle.cayley.specs.Valid.{IsWithinProblem, IsWithinCorners}
use Rattle.cayley.proofs.Ranking.Unperturbed.{unranked, point_unranked}
use Rattle.cayley.proofs.Ranking.RankedProblems.{unmade, ranked, same_ranked, ranked_still, still_ranked, shape_ranked, ranked_shape, coordinates_unranked}

pub read_support : (ss : List (List Point)) (k : ℕ) → slice_index_or (map unranked ss) k [] ≡ unranked (slice_index_or ss k [])
read_support [] k = refl
read_support (s ∷ ss) zero = refl
read_support (s ∷ ss) (suc k) = read_support ss k

-- one support
module _ (f : ℕ) (s : List Point) (q : ℕ) where
  outside_to : IsOutsideOf f s q → IsOutsideOf f (unranked s) q
  outside_to (inl h) = inl (h.0, h.1, (λ w. h.2 (subst IsWithinProblem (point_unranked s q) w)))
  outside_to (inr h) = inr (h.0, subst (λ m. q ≤ m) (sym (length-map s (with_rank 0))) h.1, (λ w. h.2 (subst IsWithinCorners (point_unranked s q) w)))

  outside_from : IsOutsideOf f (unranked s) q → IsOutsideOf f s q
  outside_from (inl h) = inl (h.0, h.1, (λ w. h.2 (subst IsWithinProblem (sym (point_unranked s q)) w)))
  outside_from (inr h) = inr (h.0, subst (λ m. q ≤ m) (length-map s (with_rank 0)) h.1, (λ w. h.2 (subst IsWithinCorners (sym (point_unranked s q)) w)))

  faulty_to : IsFaultyOf f s q → IsFaultyOf f (unranked s) q
  faulty_to (inl h) = inl (outside_to h)
  faulty_to (inr h) = inr (subst (λ lists. IsRepeat lists q) (sym (coordinates_unranked f s)) h)

  faulty_from : IsFaultyOf f (unranked s) q → IsFaultyOf f s q
  faulty_from (inl h) = inl (outside_from h)
  faulty_from (inr h) = inr (subst (λ lists. IsRepeat lists q) (coordinates_unranked f s) h)

-- all supports
module _ (fs : List ℕ) (ss us : List (List Point)) (same : map unranked ss ≡ map unranked us) where
  abbrev pub Faulty : List (List Point) → ℕ → ℕ → Type 0
  Faulty supports i q = IsFaultyOf (slice_index_or fs (i - 1) 0) (slice_index_or supports (i - 1) []) q

  abbrev pub Outside : List (List Point) → ℕ → ℕ → Type 0
  Outside supports i q = IsOutsideOf (slice_index_or fs (i - 1) 0) (slice_index_or supports (i - 1) []) q

  here : (i : ℕ) → unranked (slice_index_or ss (i - 1) []) ≡ unranked (slice_index_or us (i - 1) [])
  here i = sym (read_support ss (i - 1)) ∙ ap (λ (k : List (List Point)). slice_index_or k (i - 1) []) same ∙ read_support us (i - 1)

  same_faulty : (i q : ℕ) → Faulty ss i q → Faulty us i q
  same_faulty i q h = faulty_from (slice_index_or fs (i - 1) 0) (slice_index_or us (i - 1) []) q
      (subst (λ (s : List Point). IsFaultyOf (slice_index_or fs (i - 1) 0) s q) (here i) (faulty_to (slice_index_or fs (i - 1) 0) (slice_index_or ss (i - 1) []) q h))

  same_outside : (i q : ℕ) → Outside ss i q → Outside us i q
  same_outside i q h = outside_from (slice_index_or fs (i - 1) 0) (slice_index_or us (i - 1) []) q
      (subst (λ (s : List Point). IsOutsideOf (slice_index_or fs (i - 1) 0) s q) (here i) (outside_to (slice_index_or fs (i - 1) 0) (slice_index_or ss (i - 1) []) q h))

module _ (fs : List ℕ) (ss us : List (List Point)) (same : map unranked ss ≡ map unranked us) where
  first : (i q : ℕ) → IsFirst (Faulty fs ss us same ss) i q → IsFirst (Faulty fs ss us same us) i q
  first i q h = record {
    support = h.support;
    has = same_faulty fs ss us same i q h.has;
    before = λ j k l m e. h.before j k l m (same_faulty fs us ss (sym same) j k e);
    earlier = λ k l e. h.earlier k l (same_faulty fs us ss (sym same) i k e);
  }

  pub same_place_fault : (e : ShapeFault) → IsPlaceFault (Faulty fs ss us same ss) (Outside fs ss us same ss) e → IsPlaceFault (Faulty fs ss us same us) (Outside fs ss us same us) e
  same_place_fault BadShape h = h
  same_place_fault (Repeated i q) h = (first i q h.0, (λ o. h.1 (same_outside fs us ss (sym same) i q o)))
  same_place_fault (Range i q) h = (first i q h.0, same_outside fs ss us same i q h.1)
  same_place_fault (StartRange i) h = h
  same_place_fault OutOfMemory h = h

pub ranked_fault : (v w : Version) (n : ℕ) (fs : List ℕ) (ss : List (List Point)) (e : ShapeFault) → IsProblemFault (unmade v w n fs ss) e → IsProblemFault (ranked v w n fs ss) e
ranked_fault v w n fs ss BadShape h = λ k. h (shape_ranked v w n fs ss k.0 k.1, still_ranked v w n fs ss k.1)
ranked_fault v w n fs ss (Repeated i q) h =
    (ranked_shape v w n fs ss h.0 h.1, ranked_still v w n fs ss h.1, same_place_fault fs ss (ranked_supports w fs ss) (same_ranked v w n fs ss) (Repeated i q) h.2)
ranked_fault v w n fs ss (Range i q) h =
    (ranked_shape v w n fs ss h.0 h.1, ranked_still v w n fs ss h.1, same_place_fault fs ss (ranked_supports w fs ss) (same_ranked v w n fs ss) (Range i q) h.2)
ranked_fault v w n fs ss (StartRange i) h = h
ranked_fault v w n fs ss OutOfMemory h = tt
