-- the problem of a file's points alone keeps what problems keep
use Rattle.std.proofs.Common.{◌≡◌, ℕ, suc, ◌≤◌, List, [], ◌∷◌, length, map, take, drop, arith, refl, ap, sym, ◌∙◌, subst, inl, zero, ap₂}
use Rattle.std.proofs.lemmas.List.{length-map, take_all, drop_all}
use Rattle.std.proofs.Math.IntN.{pos, ◌+ℤ◌}
use Rattle.int_vectors.specs.Vectors.{Each}
use Rattle.std.proofs.lemmas.Int.{ints}
use Rattle.cayley.specs.Problems.{Version, version1, Point, Problem, EachSupport, IsStill, with_rank, ranked_supports, unperturbed, first_points}
use Rattle.cayley.specs.Files.{FilePoint, File, resting, plain_problem}
use Rattle.cayley.specs.declared.points.FilePoint.{FilePoint as StoredFilePoint}
use Rattle.cayley.specs.Stored.{file_point}
use Rattle.cayley.specs.Valid.{IsHeight, IsValidFile, IsValidProblem, AreDistinct, IsWithinFile, IsWithinProblem, IsWithinCorners}
use Rattle.cayley.proofs.Ranking.Unranked.{unranked_ranked}
use Rattle.cayley.proofs.Ranking.RankedProblems.{ranked_valid}
use Rattle.int_vectors.proofs.Each.{map_map, map_same, each_map, each_weaker, each_unmap}

abbrev pub resting_all : List (List FilePoint) → List (List Point)
resting_all supports = map (map resting) supports

unranked : (supports : List (List FilePoint)) → map (map (with_rank 0)) (resting_all supports) ≡ resting_all supports
unranked supports = map_map (map (with_rank 0)) (map resting) supports
    ∙ map_same (λ s. map (with_rank 0) (map resting s)) (map resting) (λ s. map_map (with_rank 0) resting s) supports

abbrev pub plain_of : ℕ → List (List FilePoint) → Problem
plain_of dimension supports = record { version = version1; dimension = dimension; files = map length supports; supports = resting_all supports }

-- the problem of the file's points without ranks
pub plain_unperturbed : (file : File) → unperturbed (plain_problem file) ≡ plain_of file.dimension file.supports
plain_unperturbed file =
    ap (λ (ss : List (List Point)). record (plain_of file.dimension file.supports) { supports = ss })
    (unranked_ranked file.version (map length file.supports) (resting_all file.supports) ∙ unranked file.supports)

-- a property of each support of the file, carried to the problem
by_support : (Q : List FilePoint → Type 0) (P : ℕ → ℕ → List Point → Type 0) → ((i : ℕ) (s : List FilePoint) → Q s → P i (length s) (map resting s))
    → (i : ℕ) (supports : List (List FilePoint)) → Each supports Q → EachSupport i (map length supports) (resting_all supports) P
by_support Q P f i [] h = tt
by_support Q P f i (s ∷ supports) h = (f i s h.0, by_support Q P f (suc i) supports h.1)

module _ (P : Point → Type 0) (Q : Point → Type 0) (s : List FilePoint) where
  whole : Each s (λ x. P (resting x)) → Each (take (length s) (map resting s)) P
  whole h = subst (λ (ss : List Point). Each ss P) (sym (take_all (length s) (map resting s) (omega (arith, length-map s resting)))) (each_map resting P s h)

  none : Each (drop (length s) (map resting s)) Q
  none = subst (λ (ss : List Point). Each ss Q) (sym (drop_all (length s) (map resting s) (omega (arith, length-map s resting)))) tt

still : (s : List FilePoint) → Each s (λ x. (resting x).speed ≡ pos 0)
still [] = tt
still (x ∷ s) = (refl, still s)

pub any : {A : Type 0} (xs : List A) → Each xs (λ x. Unit {0})
any [] = tt
any (x ∷ xs) = (tt, any xs)

distinct : (s : List FilePoint) → AreDistinct (map (λ (x : FilePoint). x.coordinates) s)
    → AreDistinct (map (λ (x : Point). x.coordinates) (take (length s) (map resting s)))
distinct s h =
    let e = ap (map (λ (x : Point). x.coordinates)) (take_all (length s) (map resting s) (omega (arith, length-map s resting)))
    ∙ map_map (λ (x : Point). x.coordinates) resting s in
    subst AreDistinct (sym e) h

pub plain_still : (file : File) → IsStill (plain_of file.dimension file.supports)
plain_still file = by_support (λ s. Unit {0}) _ (λ i s u. whole _ (λ x. Unit {0}) s (still s)) 1 file.supports (any file.supports)

unranked_valid : (file : File) → IsValidFile file → IsValidProblem (plain_of file.dimension file.supports)
unranked_valid file v = record {
  ranks = sym (unranked file.supports);
  shape = record {
    dimension = v.shape.dimension;
    problem = record {
      supports = length-map file.supports (map resting) ∙ v.shape.supports;
      points = each_map (map resting) _ file.supports (each_weaker _ _ file.supports (λ s h. each_map resting _ s h) v.shape.points);
    };
    counts = each_map length _ file.supports v.shape.counts;
    corners = inl (by_support (λ s. Unit {0}) _ (λ i s u. length-map s resting) 1 file.supports (any file.supports));
    still = inl (plain_still file);
    moving = by_support (λ s. Unit {0}) _ (λ i s u. none (λ x. Unit {0}) _ s) 1 file.supports (any file.supports);
  };
  limits = by_support (λ s. Each s IsWithinFile) _ (λ i s h. (whole IsWithinProblem IsWithinCorners s (each_weaker IsWithinFile _ s (λ x w. within x w) h), none IsWithinProblem IsWithinCorners s)) 1 file.supports v.limits;
  distinct = by_support (λ s. AreDistinct (map (λ (x : FilePoint). x.coordinates) s)) _ (λ i s h. distinct s h) 1 file.supports v.distinct;
}
  where
    within : (x : FilePoint) → IsWithinFile x → IsWithinProblem (resting x)
    within x w = let e : x.height ≡ x.height +ℤ pos 0 = omega (arith, ints) in (w.0, w.1, subst IsHeight e w.1)

-- in each version
pub plain_valid : (file : File) → IsValidFile file → IsValidProblem (plain_problem file)
plain_valid file v =
    ranked_valid version1 file.version file.dimension (map length file.supports) (resting_all file.supports) (unranked_valid file v) (plain_still file)

-- from the points as they are stored
module _ {X : Type 0} (items : X → List StoredFilePoint) (stored : List X) (supports : List (List FilePoint)) (is : map (λ s. map file_point (items s)) stored ≡ supports) where
  pub few : Each supports (λ s. (1 ≤ length s) × (length s ≤ 1000)) → Each stored (λ s. length (items s) ≤ 1000)
  few h = each_weaker _ _ stored (λ s k. let e = length-map (items s) file_point in let l = k.1 in omega arith)
      (each_unmap (λ s. map file_point (items s)) (λ s. (1 ≤ length s) × (length s ≤ 1000)) stored (subst (λ (ss : List (List FilePoint)). Each ss (λ s. (1 ≤ length s) × (length s ≤ 1000))) (sym is) h))

  pub counts_of : map (λ s. length (items s)) stored ≡ map length supports
  counts_of = map_same (λ s. length (items s)) (λ s. length (map file_point (items s))) (λ s. sym (length-map (items s) file_point)) stored
      ∙ sym (map_map length (λ s. map file_point (items s)) stored) ∙ ap (map length) is

  pub points_of : map (λ s. map (λ x. resting (file_point x)) (items s)) stored ≡ resting_all supports
  points_of = map_same (λ s. map (λ x. resting (file_point x)) (items s)) (λ s. map resting (map file_point (items s))) (λ s. sym (map_map resting file_point (items s))) stored
      ∙ sym (map_map (map resting) (λ s. map file_point (items s)) stored) ∙ ap resting_all is

pub alike : {v v' : Version} {d d' : ℕ} {fs fs' : List ℕ} {ss ss' : List (List Point)} → v ≡ v' → d ≡ d' → fs ≡ fs' → ss ≡ ss'
    → let made : Problem = record { version = v; dimension = d; files = fs; supports = ranked_supports v fs ss } in
    let other : Problem = record { version = v'; dimension = d'; files = fs'; supports = ranked_supports v' fs' ss' } in made ≡ other
alike o p q r = λ i. record { version = o i; dimension = p i; files = q i; supports = ranked_supports (o i) (q i) (r i) }

pub take_whole : (s : List Point) (f : ℕ) → length s ≡ f → take f s ≡ s
take_whole [] zero e = refl
take_whole [] (suc f) e = refl
take_whole (x ∷ s) zero e = absurd (omega (arith, e))
take_whole (x ∷ s) (suc f) e = ap (λ l. x ∷ l) (take_whole s f (omega (arith, e)))

pub whole_supports : (i : ℕ) (files : List ℕ) (supports : List (List Point)) → EachSupport i files supports (λ j f s. length s ≡ f) → first_points files supports ≡ supports
whole_supports i [] [] e = refl
whole_supports i [] (s ∷ supports) e = absurd e
whole_supports i (f ∷ files) [] e = absurd e
whole_supports i (f ∷ files) (s ∷ supports) e = ap₂ (λ x xs. x ∷ xs) (take_whole s f e.0) (whole_supports (suc i) files supports e.1)
