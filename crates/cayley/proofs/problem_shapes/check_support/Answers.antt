use Rattle.std.proofs.Common.{◌≡◌, ◌∙◌, ℕ, List, map, take, drop, arith, refl, subst, sym, ap}
use Rattle.std.specs.Prelude.{pos}
use Rattle.std.specs.List.{All}
use Rattle.std.proofs.lemmas.List.{length-map}
use Rattle.std.proofs.lemmas.Result.{err_from_is_err_and}
use Rattle.int_vectors.specs.Vectors.{Each}
use Rattle.cayley.specs.declared.points.Point.{Point as StoredPoint}
use Rattle.cayley.specs.Files.{FilePoint}
use Rattle.cayley.specs.Problems.{Point}
use Rattle.cayley.specs.Shapes.{IsFaulty, IsOutside, IsFirstCorner, IsSupportFault}
use Rattle.cayley.specs.Stored.{held, point}
use Rattle.cayley.specs.Valid.{IsWithinCorners}
use Rattle.int_vectors.proofs.Each.{each_all, each_map, map_map, map_take, map_drop}
use Rattle.cayley.proofs.Refusals.SupportFaults.{carried, corner_fault, no_fault}
use Rattle.cayley.proofs.problem_shapes.check_support.Goals as goal

module _ (f : ℕ) (front back given points : List StoredPoint) (same : given ≡ points) where
  at_front : front ≡ take f given → map (λ (x : StoredPoint). held (point x)) front ≡ map held (take f (map point points))
  at_front e = ap (map (λ (x : StoredPoint). held (point x))) (e ∙ ap (take f) same) ∙ sym (map_map held point (take f points)) ∙ ap (map held) (map_take point f points)

  at_back : back ≡ drop f given → map point back ≡ drop f (map point points)
  at_back e = ap (map point) (e ∙ ap (drop f) same) ∙ map_drop point f points

at_rest : (f : ℕ) (points : List StoredPoint) → All (λ (x : StoredPoint). x.speed ≡ pos 0) (take f points) → Each (take f (map point points)) (λ (x : Point). x.speed ≡ pos 0)
at_rest f points h =
    subst (λ (ps : List Point). Each ps (λ (x : Point). x.speed ≡ pos 0)) (map_take point f points) (each_map point _ (take f points) (each_all _ (take f points) h))

pub returns-in_err-check_file_points : goal.returns-in_err-check_file_points
returns-in_err-check_file_points c =
    let p = err_from_is_err_and c.from_residual.result c.from_residual.ensures.1 in
    let w = c.requires.within in
    let e = at_front c.args.support.now.file c.split_at.result.0.now c.split_at.result.1.now c.deref.result.now c.args.support.now.points.items c.deref.ensures.value c.split_at.ensures.front in
    rw (p.1, p.2) (carried c.args.support.now.file (map point c.args.support.now.points.items) (omega (arith, length-map c.args.support.now.points.items point)) (at_rest c.args.support.now.file c.args.support.now.points.items c.requires.rest)
    c.args.i c.in_err-check_file_points.field-0.0
    (subst (λ (s : List FilePoint). IsSupportFault c.args.i (IsFaulty s) (IsOutside s) c.in_err-check_file_points.field-0.0) e c.in_err-check_file_points.ensures))

pub returns-in-Some : goal.returns-in-Some
returns-in-Some c =
    let w = c.requires.within in
    let e = at_front c.args.support.now.file c.split_at.result.0.now c.split_at.result.1.now c.deref.result.now c.args.support.now.points.items c.deref.ensures.value c.split_at.ensures.front in
    let g = at_back c.args.support.now.file c.split_at.result.0.now c.split_at.result.1.now c.deref.result.now c.args.support.now.points.items c.deref.ensures.value c.split_at.ensures.back in
    let r = corner_fault c.args.support.now.file (map point c.args.support.now.points.items) (omega (arith, length-map c.args.support.now.points.items point)) (at_rest c.args.support.now.file c.args.support.now.points.items c.requires.rest)
    (subst (λ (s : List FilePoint). (q : ℕ) → ¬ (IsFaulty s q)) e c.in_ok-check_file_points.ensures) c.in-Some.k
    (subst (λ (s : List Point). IsFirstCorner s c.in-Some.k) g c.in-Some.ensures) in
    (refl, r.0, r.1, r.2)

pub returns-in-None : goal.returns-in-None
returns-in-None c =
    let w = c.requires.within in
    let e = at_front c.args.support.now.file c.split_at.result.0.now c.split_at.result.1.now c.deref.result.now c.args.support.now.points.items c.deref.ensures.value c.split_at.ensures.front in
    let g = at_back c.args.support.now.file c.split_at.result.0.now c.split_at.result.1.now c.deref.result.now c.args.support.now.points.items c.deref.ensures.value c.split_at.ensures.back in
    no_fault c.args.support.now.file (map point c.args.support.now.points.items) (omega (arith, length-map c.args.support.now.points.items point)) (at_rest c.args.support.now.file c.args.support.now.points.items c.requires.rest)
    (subst (λ (s : List FilePoint). (q : ℕ) → ¬ (IsFaulty s q)) e c.in_ok-check_file_points.ensures)
    (subst (λ (s : List Point). Each s IsWithinCorners) g c.in-None.ensures)
