-- of a valid problem no fault is left but want of memory
use Rattle.std.proofs.Common.{◌≡◌, ℕ, ◌+◌, ◌-◌, ◌<◌, ◌≤◌, List, [], length, map, take, drop, Result, Ok, Err, MatchResult, arith, refl, sym, subst, ◌∙◌, inl, inr}
use Rattle.std.proofs.Math.IntN.{ℤ}
use Rattle.std.proofs.lemmas.List.{length-take, length-drop}
use native.Mathlib.Decide.{dec_le}
use Rattle.int_vectors.specs.Vectors.{Each}
use Rattle.cayley.specs.declared.faults.ShapeFault.{ShapeFault}
use Rattle.cayley.specs.declared.faults.ShapeFault.TheVariants.{BadShape, Repeated, Range, StartRange, OutOfMemory}
use Rattle.cayley.specs.Problems.{Point, Problem, IsStill, origin}
use Rattle.cayley.specs.Files.{File}
use Rattle.cayley.specs.Paths.{path}
use Rattle.cayley.specs.Shapes.{IsFaultyOf, IsOutsideOf, IsRepeat, IsProblemFault}
use Rattle.cayley.specs.Valid.{AreDistinct, IsWithinProblem, IsWithinCorners, IsValidFile, IsValidProblem, support_at, file_count_at}
use Rattle.int_vectors.proofs.Each.{all_each, read_take, read_drop, read_past}
use Rattle.cayley.proofs.Lists.Supports.{each_support_at}
use Rattle.start_system.proofs.Started.SearchLaws.{path_law}
use Rattle.start_system.proofs.Making.ValidPaths.{path_valid}
use Rattle.start_system.proofs.Judging.Supports.{support_of, file_first, corners_long}

not_outside : (f : ℕ) (s : List Point) (q : ℕ) → f ≤ length s → Each (take f s) IsWithinProblem → Each (drop f s) IsWithinCorners → ¬ (IsOutsideOf f s q)
not_outside f s q l h g (inl (a, b, n)) =
    let t = length-take f s in
    n (subst IsWithinProblem (read_take s f (q - 1) origin (omega (arith, a, b))) (all_each IsWithinProblem (take f s) h (q - 1) origin (omega (arith, a, b, t, l))))
not_outside f s q l h g (inr (a, b, n)) =
    let t = length-drop f s in
    let o : f + (q - 1 - f) ≡ q - 1 = omega (arith, a) in
    n (subst IsWithinCorners (read_drop s f (q - 1 - f) (q - 1) origin o) (all_each IsWithinCorners (drop f s) g (q - 1 - f) origin (omega (arith, a, b, t))))

not_repeat : (lists : List (List ℤ)) (q : ℕ) → AreDistinct lists → ¬ (IsRepeat lists q)
not_repeat lists q d h =
    let a = h.0.0 in
    let b = h.0.1 in
    let r = h.1 in
    let u = r.1 in
    let w = r.2 in
    d (r.0 - 1) (q - 1) (omega (arith, a, b, u, w)) (omega (arith, a, b)) r.3

not_faulty : (p : Problem) → IsValidProblem p → (i q : ℕ) → 1 ≤ i → ¬ (IsFaultyOf (file_count_at p i) (support_at p i) q)
not_faulty p v i q l h = elim (dec_le i p.dimension) [
  | yes m ↦
      let w = support_of p v i l m in
      let ns = v.shape.problem.supports in
      let k = i - 1 in
      let there : k < length p.supports = omega (arith, l, m, ns) in
      let within = each_support_at _ 1 p.files p.supports v.limits k 0 [] there in
      let distinct = each_support_at _ 1 p.files p.supports v.distinct k 0 [] there in
      both (file_count_at p i) (support_at p i) (file_first p i w) within.0 within.1 distinct h
  | no m ↦ none m h
]
  where
    both : (f : ℕ) (s : List Point) → f ≤ length s → Each (take f s) IsWithinProblem → Each (drop f s) IsWithinCorners → AreDistinct (map (λ (x : Point). x.coordinates) (take f s)) → ¬ (IsFaultyOf f s q)
    both f s l h g d (inl o) = not_outside f s q l h g o
    both f s l h g d (inr r) = not_repeat (map (λ (x : Point). x.coordinates) (take f s)) q d r

    nothing : ¬ (IsFaultyOf 0 [] q)
    nothing (inl (inl (a, b, n))) = omega (arith, a, b)
    nothing (inl (inr (a, b, n))) = omega (arith, a, b)
    nothing (inr r) = let a = r.0.0 in let b = r.0.1 in omega (arith, a, b)

    empty : (f : ℕ) (s : List Point) → f ≡ 0 → s ≡ [] → ¬ (IsFaultyOf f s q)
    empty f s e o h = nothing (subst (λ (g : ℕ). IsFaultyOf g [] q) e (subst (λ (t : List Point). IsFaultyOf f t q) o h))

    none : ¬ (i ≤ p.dimension) → ¬ (IsFaultyOf (file_count_at p i) (support_at p i) q)
    none m = empty (file_count_at p i) (support_at p i)
        (read_past p.files (i - 1) 0 (let a = corners_long p v.shape.corners in let b = v.shape.problem.supports in omega (arith, a, b, l, m)))
        (read_past p.supports (i - 1) [] (let b = v.shape.problem.supports in omega (arith, b, l, m)))

pub only_memory : (p : Problem) → IsValidProblem p → IsStill p → (fault : ShapeFault) → IsProblemFault p fault → fault ≡ OutOfMemory
only_memory p v w BadShape h = absurd (h (v.shape, w))
only_memory p v w (Repeated i q) h = absurd (not_faulty p v i q h.2.0.support h.2.0.has)
only_memory p v w (Range i q) h = absurd (not_faulty p v i q h.2.0.support h.2.0.has)
only_memory p v w (StartRange i) h = absurd h
only_memory p v w OutOfMemory h = refl

-- the constructor's answer at the parts of the path of a file
pub only_path : (file : File) (given : Problem) (r : Result Problem ShapeFault) → IsValidFile file → given ≡ path file
    → MatchResult r (λ p. IsValidProblem given × (p ≡ given)) (IsProblemFault given) → MatchResult r (λ p. p ≡ path file) (λ fault. fault ≡ OutOfMemory)
only_path file given (Ok p) v e h = h.1 ∙ e
only_path file given (Err fault) v e h = only_memory given (subst IsValidProblem (sym e) (path_valid file v)) (subst IsStill (sym e) (path_law file v).1) fault h
