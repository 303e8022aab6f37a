use Rattle.std.proofs.Common.{length, sym, ap, subst, rules, FitsSigned, to_z-of_z, arith}
use Rattle.std.specs.Int.{w128}
use Rattle.wide_int.specs.Whole.{FitsWhole}
use Rattle.int_vectors.proofs.Fitting.{fits_any}
use Rattle.int_vectors.proofs.vector.IntVec.get.Goals as goal

pub returns-clause-fits : goal.returns-clause-fits
returns-clause-fits c =
    let fr : FitsSigned w128 c.index.result.now = search rules in
    let v = ap length c.self.view_is in
    simp to_z-of_z (subst FitsWhole (sym c.index.ensures) (fits_any c.self.inside.entries.items c.args.place c.index.result.now (omega (arith, v)) c.self.invariant))
