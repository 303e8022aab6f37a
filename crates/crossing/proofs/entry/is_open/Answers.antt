use Rattle.std.proofs.Common.{◌≡◌, ◌↔◌, ℕ, List, Option, Some, IsTrue, Bool, rules, subst, sym}
use Rattle.crossing.specs.declared.line.WallLine.{WallLine}
use Rattle.crossing.specs.declared.leaders.Way.TheVariants.{Falling, Rising}
use Rattle.crossing.specs.Leading.{nth, first_of}
use Rattle.crossing.specs.Found.{RisesFirst, IsOpenBetween}
use Rattle.crossing.proofs.Leading.{taken}
use Rattle.crossing.proofs.Found.{first_goes}
use Rattle.crossing.proofs.entry.is_open.Goals as goal

open_as : (t : Bool) (lines : List WallLine) (r f : Option ℕ) (a b : ℕ) (x y : WallLine) → r ≡ Some a → f ≡ Some b → x ≡ nth lines a → y ≡ nth lines b → IsTrue t ↔ RisesFirst x y → IsTrue t ↔ IsOpenBetween lines r f
open_as t lines r f a b x y er ef ex ey h =
    let u = subst (λ (z : WallLine). IsTrue t ↔ RisesFirst (nth lines a) z) ey (subst (λ (z : WallLine). IsTrue t ↔ RisesFirst z y) ex h) in
    let v = subst (λ (o : Option ℕ). IsTrue t ↔ IsOpenBetween lines (Some a) o) (sym ef) u in
    subst (λ (o : Option ℕ). IsTrue t ↔ IsOpenBetween lines o f) (sym er) v

pub returns : goal.returns
returns c =
    let l = c.args.lines.now in
    let a = c.in-Some-Some.rise in
    let b = c.in-Some-Some.fall in
    let er : first_of c.args.rising ≡ Some a = search rules in
    let ef : first_of c.args.falling ≡ Some b = search rules in
    let ra = first_goes Rising l c.args.rising a er c.requires.rise in
    let fb = first_goes Falling l c.args.falling b ef c.requires.fall in
    open_as c.comes_before.result l (first_of c.args.rising) (first_of c.args.falling) a b c.index-lines-rise.result c.index-lines-fall.result er ef
    (taken l a c.index-lines-rise.result c.index-lines-rise.is ra.0) (taken l b c.index-lines-fall.result c.index-lines-fall.is fb.0) c.comes_before.ensures
