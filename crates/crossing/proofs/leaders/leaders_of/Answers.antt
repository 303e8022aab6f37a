use Rattle.std.proofs.Common.{◌+◌, subst, sym, arith, to_z-of_z, rules, FitsSigned}
use Rattle.std.specs.Int.{w128}
use Rattle.std.proofs.lemmas.Int.{ints}
use Rattle.crossing.specs.declared.line.WallLine.{WallLine}
use Rattle.crossing.specs.Leading.{Goes, IsLed}
use Rattle.crossing.proofs.Leading.{taken, idle}
use Rattle.crossing.proofs.leaders.leaders_of.Goals as goal
use Rattle.crossing.proofs.leaders.leaders_of.Goals.{then-steepness-gt0, else-steepness-gt0}

pub loop-index-preserved : goal.loop-index-preserved
loop-index-preserved c = elim c.if-steepness-gt0.branch [
  | then-steepness-gt0 w ↦ subst (IsLed c.args.way c.args.lines.now (c.loop-index.index + 1)) (sym w.leaders-is) w.joined-leaders.ensures
  | else-steepness-gt0 w ↦
      let fs : FitsSigned w128 c.steepness.result = search rules in
      let v = c.steepness.ensures.value in
      let f = simp to_z-of_z at w.if-steepness-gt0.false in
      let t = taken c.args.lines.now c.loop-index.index c.index-lines-index.result c.index-lines-index.is (search rules) in
      subst (IsLed c.args.way c.args.lines.now (c.loop-index.index + 1)) (sym w.leaders-is) (idle c.args.way c.args.lines.now c.loop-index.index c.loop-index.leaders (λ g. let k = subst (λ (l : WallLine). Goes c.args.way l) (sym t) g in omega (arith, ints, f, k, v)) c.loop-index.invariant)
]
