use Rattle.std.proofs.Common.{rules, ◌≡◌, ◌∙◌, List, length, ap₂, sym, subst, inl, inr, IsTrue, FitsSigned, to_z-of_z}
use Rattle.std.specs.Int.{w128}
use Rattle.std.proofs.Math.IntN.{ℤ}
use Rattle.int_vectors.specs.Vectors.{Each}
use Rattle.path_trace.specs.Matrices.{columns}
use Rattle.path_trace.proofs.Independence.{columns_wide}
use Rattle.log_check.proofs.Judged.{fits_from, fits_to, same_from, same_to}
use Rattle.log_check.proofs.judging.judge.Goals as goal

pub are_inverse-requires-clause-long : goal.are_inverse-requires-clause-long
are_inverse-requires-clause-long c =
    let p = c.args.problem.now in
    let node = c.args.node.now in
    let is : c.deref.result.now ≡ columns p.dimension node.inverse = c.deref.ensures.value ∙ c.in_ok-columns.ensures ∙ ap₂ columns c.dim-n.ensures.value c.as_slice.ensures.value in
    subst (λ (cs : List (List ℤ)). Each cs (λ column. length column ≡ p.dimension)) (sym is) (columns_wide p.dimension 0 p.dimension node.inverse)

pub returns-in_default : goal.returns-in_default
returns-in_default c =
    let p = c.args.problem.now in
    let node = c.args.node.now in
    let f : FitsSigned w128 node.scale = search rules in
    let d = c.deref.result.now in
    let is : d ≡ columns p.dimension node.inverse = c.deref.ensures.value ∙ c.in_ok-columns.ensures ∙ ap₂ columns c.dim-n.ensures.value c.as_slice.ensures.value in
    let h = c.in_default.ensures in
    inl (λ fits. h (fits_from p node d is fits))

pub returns-then-not-same : goal.returns-then-not-same
returns-then-not-same c =
    let p = c.args.problem.now in
    let node = c.args.node.now in
    let f : FitsSigned w128 node.scale = search rules in
    let d = c.deref.result.now in
    let is : d ≡ columns p.dimension node.inverse = c.deref.ensures.value ∙ c.in_ok-columns.ensures ∙ ap₂ columns c.dim-n.ensures.value c.as_slice.ensures.value in
    let h = simp to_z-of_z at c.in-Some.ensures in
    let n : ¬ (IsTrue c.in-Some.same) = search rules in
    (fits_to p node d is h.0, λ inverse. n (h.1.1 (same_from p node d is inverse)))

pub walls_by-requires-clause-inverse : goal.walls_by-requires-clause-inverse
walls_by-requires-clause-inverse c =
    let p = c.args.problem.now in
    let node = c.args.node.now in
    let f : FitsSigned w128 node.scale = search rules in
    let d = c.deref.result.now in
    let is : d ≡ columns p.dimension node.inverse = c.deref.ensures.value ∙ c.in_ok-columns.ensures ∙ ap₂ columns c.dim-n.ensures.value c.as_slice.ensures.value in
    let h = simp to_z-of_z at c.in-Some.ensures in
    let t : IsTrue c.in-Some.same = search rules in
    same_to p node d is c.requires.shape (h.1.0 t)

pub settled-requires-clause-fit : goal.settled-requires-clause-fit
settled-requires-clause-fit c =
    let p = c.args.problem.now in
    let node = c.args.node.now in
    let f : FitsSigned w128 node.scale = search rules in
    let d = c.deref.result.now in
    let is : d ≡ columns p.dimension node.inverse = c.deref.ensures.value ∙ c.in_ok-columns.ensures ∙ ap₂ columns c.dim-n.ensures.value c.as_slice.ensures.value in
    let h = simp to_z-of_z at c.in-Some.ensures in
    let t : IsTrue c.in-Some.same = search rules in
    record { products = fits_to p node d is h.0; inverse = same_to p node d is c.requires.shape (h.1.0 t); numbers = c.in-Ok.ensures.0 }

pub returns-in-Err-Overflow : goal.returns-in-Err-Overflow
returns-in-Err-Overflow c =
    let p = c.args.problem.now in
    let node = c.args.node.now in
    let f : FitsSigned w128 node.scale = search rules in
    let d = c.deref.result.now in
    let is : d ≡ columns p.dimension node.inverse = c.deref.ensures.value ∙ c.in_ok-columns.ensures ∙ ap₂ columns c.dim-n.ensures.value c.as_slice.ensures.value in
    let h = simp to_z-of_z at c.in-Some.ensures in
    let t : IsTrue c.in-Some.same = search rules in
    inr (fits_to p node d is h.0, same_to p node d is c.requires.shape (h.1.0 t), rw c.in-Err-Overflow.field-0-is at c.in-Err-Overflow.ensures)
