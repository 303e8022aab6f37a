-- the problem of a file's points has no corners, and its points rest
use Rattle.std.proofs.Common.{◌≡◌, ℕ, zero, suc, ◌∙◌, List, [], ◌∷◌, length, map, take, sym, ap, subst}
use Rattle.std.proofs.lemmas.List.{length-map}
use Rattle.std.proofs.Math.IntN.{pos}
use Rattle.int_vectors.specs.Vectors.{Each}
use Rattle.cayley.specs.Files.{FilePoint, File, resting, plain_problem}
use Rattle.cayley.specs.Problems.{Point, Problem, EachSupport, HasNoCorners, IsStill, with_rank}
use Rattle.cayley.proofs.Ranking.PlainProblems.{plain_unperturbed, plain_still}

abbrev Rests : ℕ → ℕ → List Point → Type 0
Rests i f s = Each (take f s) (λ (x : Point). x.speed ≡ pos 0)

abbrev IsWhole : ℕ → ℕ → List Point → Type 0
IsWhole i f s = length s ≡ f

module _ (P : ℕ → ℕ → List Point → Type 0) (back : (i f : ℕ) (s : List Point) → P i f (map (with_rank 0) s) → P i f s) where
  ranked : (i : ℕ) (files : List ℕ) (ss : List (List Point)) → EachSupport i files (map (map (with_rank 0)) ss) P → EachSupport i files ss P
  ranked i [] [] h = tt
  ranked i [] (s ∷ ss) h = h
  ranked i (f ∷ files) [] h = h
  ranked i (f ∷ files) (s ∷ ss) h = (back i f s h.0, ranked (suc i) files ss h.1)

rests : (f : ℕ) (s : List Point) → Each (take f (map (with_rank 0) s)) (λ (x : Point). x.speed ≡ pos 0) → Each (take f s) (λ (x : Point). x.speed ≡ pos 0)
rests zero s h = tt
rests (suc f) [] h = tt
rests (suc f) (x ∷ s) h = (h.0, rests f s h.1)

whole : (i : ℕ) (supports : List (List FilePoint)) → EachSupport i (map length supports) (map (map resting) supports) IsWhole
whole i [] = tt
whole i (s ∷ supports) = (length-map s resting, whole (suc i) supports)

-- the points of the problem without their ranks
bare : (file : File) → map (map (with_rank 0)) (plain_problem file).supports ≡ map (map resting) file.supports
bare file = ap (λ (p : Problem). p.supports) (plain_unperturbed file)

pub plain_alone : (file : File) → HasNoCorners (plain_problem file)
plain_alone file =
    ranked IsWhole (λ i f s h. sym (length-map s (with_rank 0)) ∙ h) 1 (map length file.supports) (plain_problem file).supports
    (subst (λ ss. EachSupport 1 (map length file.supports) ss IsWhole) (sym (bare file)) (whole 1 file.supports))

pub plain_rests : (file : File) → IsStill (plain_problem file)
plain_rests file =
    ranked Rests (λ i f s h. rests f s h) 1 (map length file.supports) (plain_problem file).supports
    (subst (λ ss. EachSupport 1 (map length file.supports) ss Rests) (sym (bare file)) (plain_still file))
