-- the laws of paths and of started problems
use Rattle.std.proofs.Common.{◌≡◌, ℕ, zero, suc, ◌+◌, ◌-◌, ◌≤◌, List, [], ◌∷◌, Some, length, map, take, length-take, arith, refl, sym, ap, subst, ◌∙◌, inl, inr, ◌≤ℤ◌}
use Rattle.std.proofs.Math.IntN.{ℤ, pos}
use Rattle.int_vectors.specs.Vectors.{Each}
use Rattle.cayley.specs.Problems.{Point, Problem, EachSupport, HasCorners, first_points}
use Rattle.cayley.specs.Files.{FilePoint, File}
use Rattle.cayley.specs.Stored.{held}
use Rattle.cayley.specs.Paths.{path, starts_of}
use Rattle.cayley.specs.Valid.{HasProblemShape}
use Rattle.int_vectors.proofs.Each.{each_weaker}
use Rattle.cayley.proofs.Algebra.Dependence.{length-map}
use Rattle.start_system.specs.Started.{AreStarts, file_with, IsStarted, IsSearched}
use Rattle.start_system.specs.Laws.{StartedLaw, PathLaw}
use Rattle.start_system.proofs.Path.Reach.{Long}
use Rattle.start_system.proofs.Path.Supports.{AreHeights}
use Rattle.start_system.proofs.Path.Forms.{HasForm, IsLift, path_form}
use Rattle.start_system.proofs.Path.Still.{form_still}
use Rattle.start_system.proofs.Complete.Shares.{only_early, start_of, tree_size, all_mixed, all_alive}
use Rattle.start_system.proofs.Perturbed.TieFree.{version2_tie_free}
use Rattle.start_system.proofs.Started.Heights.{valid_lift}
use Rattle.start_system.proofs.Started.Reranking.{path_file_points, path_held}

pub form_searched : (p : Problem) → HasForm p → IsSearched p
form_searched p form = record {
  of = start_of p form;
  early = only_early p form;
  size = tree_size p form;
  complete = λ free. (all_mixed p form free, all_alive p form free);
  perturbed = version2_tie_free p form;
}

-- ---- started problems
-- a support has its file points
AreThere : ℕ → List ℕ → List (List Point) → Type 0
AreThere i files supports = EachSupport i files supports (λ i f s. f ≤ length s)

are_there : (n i : ℕ) (files : List ℕ) (supports : List (List Point)) → EachSupport i files supports (λ i f s. length s ≡ f + n) → AreThere i files supports
unfolding AreThere
are_there n i [] [] h = tt
are_there n i [] (s ∷ supports) h = h
are_there n i (f ∷ files) [] h = h
are_there n i (f ∷ files) (s ∷ supports) h = ((let e = h.0 in omega (arith, e)), are_there n (suc i) files supports h.1)

same_there : (i : ℕ) (files : List ℕ) (supports : List (List Point)) → EachSupport i files supports (λ i f s. length s ≡ f) → AreThere i files supports
unfolding AreThere
same_there i [] [] h = tt
same_there i [] (s ∷ supports) h = h
same_there i (f ∷ files) [] h = h
same_there i (f ∷ files) (s ∷ supports) h = ((let e = h.0 in omega (arith, e)), same_there (suc i) files supports h.1)

corners_there : (p : Problem) → HasCorners p → AreThere 1 p.files p.supports
corners_there p (inl h) = same_there 1 p.files p.supports h
corners_there p (inr h) = are_there (p.dimension + 1) 1 p.files p.supports h

long_held : (n f : ℕ) (s : List Point) → Each s (λ (x : Point). length x.coordinates ≡ n) → Long n (map held (take f s))
long_held n zero s h = tt
long_held n (suc f) [] h = tt
long_held n (suc f) (x ∷ s) h = (h.0, long_held n f s h.1)

held_points : (n i : ℕ) (files : List ℕ) (supports : List (List Point)) → AreThere i files supports → Each files (λ f. (1 ≤ f) × (f ≤ 1000)) → Each supports (λ s. Each s (λ (x : Point). length x.coordinates ≡ n))
    → Each (map (map held) (first_points files supports)) (λ s. (1 ≤ length s) × Long n s)
unfolding AreThere
held_points n i [] [] t c h = tt
held_points n i [] (s ∷ supports) t c h = absurd t
held_points n i (f ∷ files) [] t c h = absurd t
held_points n i (f ∷ files) (s ∷ supports) t c h = (
  ((let a = length-map held (take f s) in let b = length-take f s in let l = t.0 in let k = c.0.0 in omega (arith, a, b, l, k)), long_held n f s h.0),
  held_points n (suc i) files supports t.1 c.1 h.1,
)

count_held : (i : ℕ) (files : List ℕ) (supports : List (List Point)) → AreThere i files supports → length (map (map held) (first_points files supports)) ≡ length supports
unfolding AreThere
count_held i [] [] t = refl
count_held i [] (s ∷ supports) t = absurd t
count_held i (f ∷ files) [] t = absurd t
count_held i (f ∷ files) (s ∷ supports) t = ap suc (count_held (suc i) files supports t.1)

heights_of : (n : ℕ) (starts : List (List ℤ)) → 1 ≤ n → Each starts (λ s. (length s ≡ n - 1) × Each s (λ z. pos 1 ≤ℤ z)) → Each starts (AreHeights n)
heights_of n starts some h = each_weaker _ _ starts (λ s k. ((let l = k.0 in omega (arith, l, some)), k.1)) h

started_lift : (p : Problem) → HasProblemShape p → (starts : List (List ℤ)) → AreStarts p.dimension starts → IsLift (file_with p starts)
started_lift p shape starts are =
    let there = corners_there p shape.corners in
    record {
      some = shape.dimension.0;
      supports = count_held 1 p.files p.supports there ∙ shape.problem.supports;
      points = held_points p.dimension 1 p.files p.supports there shape.counts shape.problem.points;
      starts = are.0;
      heights = heights_of p.dimension starts shape.dimension.0 are.1;
    }

pub started_form : (p : Problem) → HasProblemShape p → IsStarted p → HasForm p
started_form p shape h = subst HasForm (sym h.2) (path_form (file_with p h.0) (started_lift p shape h.0 h.1))

pub started_law : StartedLaw
started_law p valid h = form_searched p (started_form p valid.shape h)

-- ---- the path of a file
starts_from : (n : ℕ) (starts : List (List ℤ)) → Each starts (AreHeights n) → Each starts (λ s. (length s ≡ n - 1) × Each s (λ z. pos 1 ≤ℤ z))
starts_from n starts h = each_weaker _ _ starts (λ s k. ((let l = k.0 in omega (arith, l)), k.1)) h

pub path_started : (file : File) → IsLift file → IsStarted (path file)
path_started file w = (starts_of file, (w.starts, starts_from file.dimension (starts_of file) w.heights), is)
  where
    is : path file ≡ path (file_with (path file) (starts_of file))
    is = sym (ap (λ (ss : List (List FilePoint)). path (record { version = file.version; dimension = file.dimension; supports = ss; starts = Some (starts_of file) })) (path_held file))

pub path_law : PathLaw
path_law file valid =
    let lift = valid_lift file valid in
    let form = path_form file lift in
    (path_started file lift, form_still (path file) form, path_file_points file, form_searched (path file) form)
