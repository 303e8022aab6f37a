-- what a problem keeps, carried to supports that differ in ranks alone
use Rattle.std.proofs.Common.{◌≡◌, ◌⊎◌, ℕ, suc, ◌+◌, List, [], ◌∷◌, length, map, take, drop, refl, ap, sym, subst, ◌∙◌, inl, inr}
use Rattle.std.specs.Prelude.{pos}
use Rattle.std.proofs.lemmas.List.{length-map}
use Rattle.int_vectors.specs.Vectors.{Each}
use Rattle.cayley.specs.Problems.{Version, Point, Problem, EachSupport, HasNoCorners, HasCorners, IsStill, HasRanks, with_rank, ranked_supports}
use Rattle.cayley.specs.Problems.Version.{version1}
use Rattle.cayley.specs.Valid.{IsWithinProblem, IsWithinCorners, AreDistinct, IsMoving, HasProblemShape, IsValidProblem}
use Rattle.int_vectors.proofs.Each.{map_map, map_take, map_drop}
use Rattle.cayley.proofs.Ranking.Unperturbed.{unranked, same_well}
use Rattle.cayley.proofs.Ranking.Unranked.{unranked_ranked, ranked_twice}

-- a property of each support that doesn't look at ranks
module _ (P : ℕ → ℕ → List Point → Type 0) (to : (i f : ℕ) (s : List Point) → P i f s → P i f (unranked s)) (from : (i f : ℕ) (s : List Point) → P i f (unranked s) → P i f s) where
  without : (i : ℕ) (fs : List ℕ) (ss : List (List Point)) → EachSupport i fs ss P → EachSupport i fs (map unranked ss) P
  without i [] [] h = tt
  without i [] (s ∷ ss) h = h
  without i (f ∷ fs) [] h = h
  without i (f ∷ fs) (s ∷ ss) h = (to i f s h.0, without (suc i) fs ss h.1)

  back : (i : ℕ) (fs : List ℕ) (ss : List (List Point)) → EachSupport i fs (map unranked ss) P → EachSupport i fs ss P
  back i [] [] h = tt
  back i [] (s ∷ ss) h = h
  back i (f ∷ fs) [] h = h
  back i (f ∷ fs) (s ∷ ss) h = (from i f s h.0, back (suc i) fs ss h.1)

  pub same_each : (i : ℕ) (fs : List ℕ) (ss us : List (List Point)) → map unranked ss ≡ map unranked us → EachSupport i fs ss P → EachSupport i fs us P
  same_each i fs ss us e h = back i fs us (subst (λ (k : List (List Point)). EachSupport i fs k P) e (without i fs ss h))

-- the first points and the others
module _ (Q : Point → Type 0) (to : (x : Point) → Q x → Q (with_rank 0 x)) (from : (x : Point) → Q (with_rank 0 x) → Q x) where
  pub each_to : (s : List Point) → Each s Q → Each (unranked s) Q
  each_to [] h = tt
  each_to (x ∷ s) h = (to x h.0, each_to s h.1)

  pub each_from : (s : List Point) → Each (unranked s) Q → Each s Q
  each_from [] h = tt
  each_from (x ∷ s) h = (from x h.0, each_from s h.1)

  pub take_to : (f : ℕ) (s : List Point) → Each (take f s) Q → Each (take f (unranked s)) Q
  take_to f s h = subst (λ (ps : List Point). Each ps Q) (map_take (with_rank 0) f s) (each_to (take f s) h)

  pub take_from : (f : ℕ) (s : List Point) → Each (take f (unranked s)) Q → Each (take f s) Q
  take_from f s h = each_from (take f s) (subst (λ (ps : List Point). Each ps Q) (sym (map_take (with_rank 0) f s)) h)

  pub drop_to : (f : ℕ) (s : List Point) → Each (drop f s) Q → Each (drop f (unranked s)) Q
  drop_to f s h = subst (λ (ps : List Point). Each ps Q) (map_drop (with_rank 0) f s) (each_to (drop f s) h)

  pub drop_from : (f : ℕ) (s : List Point) → Each (drop f (unranked s)) Q → Each (drop f s) Q
  drop_from f s h = each_from (drop f s) (subst (λ (ps : List Point). Each ps Q) (sym (map_drop (with_rank 0) f s)) h)

pub coordinates_unranked : (f : ℕ) (s : List Point) → map (λ (x : Point). x.coordinates) (take f (unranked s)) ≡ map (λ (x : Point). x.coordinates) (take f s)
coordinates_unranked f s = ap (map (λ (x : Point). x.coordinates)) (sym (map_take (with_rank 0) f s)) ∙ map_map (λ (x : Point). x.coordinates) (with_rank 0) (take f s)

module _ (n : ℕ) (fs : List ℕ) (ss us : List (List Point)) (same : map unranked ss ≡ map unranked us) where
  abbrev pub made : Version → List (List Point) → Problem
  made version supports = record { version = version; dimension = n; files = fs; supports = supports }

  same_lengths : (g : ℕ → ℕ) → EachSupport 1 fs ss (λ i f s. length s ≡ g f) → EachSupport 1 fs us (λ i f s. length s ≡ g f)
  same_lengths g = same_each (λ i f s. length s ≡ g f) (λ i f s e. length-map s (with_rank 0) ∙ e) (λ i f s e. sym (length-map s (with_rank 0)) ∙ e) 1 fs ss us same

  pub same_still : (v w : Version) → IsStill (made v ss) → IsStill (made w us)
  same_still v w = same_each (λ i f s. Each (take f s) (λ (x : Point). x.speed ≡ pos 0))
      (λ i f s. take_to (λ (x : Point). x.speed ≡ pos 0) (λ x h. h) (λ x h. h) f s) (λ i f s. take_from (λ (x : Point). x.speed ≡ pos 0) (λ x h. h) (λ x h. h) f s) 1 fs ss us same

  same_moving : (v w : Version) → IsMoving (made v ss) → IsMoving (made w us)
  same_moving v w = same_each (λ i f s. Each (drop f s) (λ (x : Point). x.speed ≡ pos 1))
      (λ i f s. drop_to (λ (x : Point). x.speed ≡ pos 1) (λ x h. h) (λ x h. h) f s) (λ i f s. drop_from (λ (x : Point). x.speed ≡ pos 1) (λ x h. h) (λ x h. h) f s) 1 fs ss us same

  same_corners : (v w : Version) → HasCorners (made v ss) → HasCorners (made w us)
  same_corners v w (inl h) = inl (same_lengths (λ f. f) h)
  same_corners v w (inr h) = inr (same_lengths (λ f. f + (n + 1)) h)

  -- in the same version, or where the file points rest
  shape_by : (v w : Version) → HasProblemShape (made v ss) → IsStill (made w us) ⊎ ((w ≡ version1) × HasNoCorners (made w us)) → HasProblemShape (made w us)
  shape_by v w h still = record {
    dimension = h.dimension;
    problem = same_well (made v ss) (made w us) (ap (made version1) same) h.problem;
    counts = h.counts;
    corners = same_corners v w h.corners;
    still = still;
    moving = same_moving v w h.moving;
  }

  pub still_shape : (v w : Version) → HasProblemShape (made v ss) → IsStill (made v ss) → HasProblemShape (made w us)
  still_shape v w h still = shape_by v w h (inl (same_still v w still))

  pub same_shape : (v : Version) → HasProblemShape (made v ss) → HasProblemShape (made v us)
  same_shape v h = shape_by v v h (by h.still)
    where
      by : IsStill (made v ss) ⊎ ((v ≡ version1) × HasNoCorners (made v ss)) → IsStill (made v us) ⊎ ((v ≡ version1) × HasNoCorners (made v us))
      by (inl s) = inl (same_still v v s)
      by (inr e) = inr (e.0, same_lengths (λ f. f) e.1)

  -- taken as version 1
  pub first_shape : (v : Version) → HasProblemShape (made v ss) → HasProblemShape (made version1 us)
  first_shape v h = shape_by v version1 h (by h.still)
    where
      by : IsStill (made v ss) ⊎ ((v ≡ version1) × HasNoCorners (made v ss)) → IsStill (made version1 us) ⊎ ((version1 ≡ version1) × HasNoCorners (made version1 us))
      by (inl s) = inl (same_still v version1 s)
      by (inr e) = inr (refl, same_lengths (λ f. f) e.1)

  pub valid_by : (v w : Version) → IsValidProblem (made v ss) → HasProblemShape (made w us) → HasRanks (made w us) → IsValidProblem (made w us)
  valid_by v w h shape ranks = record {
    ranks = ranks;
    shape = shape;
    limits = same_each (λ i f s. Each (take f s) IsWithinProblem × Each (drop f s) IsWithinCorners)
        (λ i f s h. (take_to IsWithinProblem (λ x h. h) (λ x h. h) f s h.0, drop_to IsWithinCorners (λ x h. h) (λ x h. h) f s h.1))
        (λ i f s h. (take_from IsWithinProblem (λ x h. h) (λ x h. h) f s h.0, drop_from IsWithinCorners (λ x h. h) (λ x h. h) f s h.1)) 1 fs ss us same h.limits;
    distinct = same_each (λ i f s. AreDistinct (map (λ (x : Point). x.coordinates) (take f s)))
        (λ i f s h. subst AreDistinct (sym (coordinates_unranked f s)) h) (λ i f s h. subst AreDistinct (coordinates_unranked f s) h) 1 fs ss us same h.distinct;
  }

-- with the ranks that a version gives
module _ (v w : Version) (n : ℕ) (fs : List ℕ) (ss : List (List Point)) where
  abbrev pub unmade : Problem
  unmade = record { version = v; dimension = n; files = fs; supports = ss }

  abbrev pub ranked : Problem
  ranked = record { version = w; dimension = n; files = fs; supports = ranked_supports w fs ss }

  pub same_ranked : map unranked ss ≡ map unranked (ranked_supports w fs ss)
  same_ranked = sym (unranked_ranked w fs ss)

  pub ranked_valid : IsValidProblem unmade → IsStill unmade → IsValidProblem ranked
  ranked_valid h still = valid_by n fs ss (ranked_supports w fs ss) same_ranked v w h
      (still_shape n fs ss (ranked_supports w fs ss) same_ranked v w h.shape still) (sym (ranked_twice w fs ss))

  pub ranked_still : IsStill unmade → IsStill ranked
  ranked_still = same_still n fs ss (ranked_supports w fs ss) same_ranked v w

  pub still_ranked : IsStill ranked → IsStill unmade
  still_ranked = same_still n fs (ranked_supports w fs ss) ss (sym same_ranked) w v

  pub shape_ranked : HasProblemShape ranked → IsStill ranked → HasProblemShape unmade
  shape_ranked = still_shape n fs (ranked_supports w fs ss) ss (sym same_ranked) w v

  pub ranked_shape : HasProblemShape unmade → IsStill unmade → HasProblemShape ranked
  ranked_shape = still_shape n fs ss (ranked_supports w fs ss) same_ranked v w
