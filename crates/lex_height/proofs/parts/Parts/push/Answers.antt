use Rattle.std.proofs.Common.{length, subst, sym, arith, ◌∙◌, ap}
use Rattle.lex_height.proofs.Room.{pushed}
use Rattle.lex_height.proofs.parts.Parts.push.Goals as goal

pub invariant_of-self : goal.invariant_of-self
invariant_of-self c =
    let e = c.self.invariant.count in
    let v = ap length c.self.view_is in
    let r = c.requires in
    pushed c.self.inside.count c.self.inside.all c.args.part (omega (arith, e, v, r)) c.self.invariant
