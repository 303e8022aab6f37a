use Rattle.std.proofs.Common.{rules, ◌≡◌, true, false, FitsSigned, to_z-of_z}
use Rattle.std.specs.Int.{w128}
use Rattle.std.specs.Prelude.{nat_lt}
use Rattle.cayley.specs.Valid.{support_at}
use Rattle.cone_walls.proofs.Fining.{own_first, own_second, own_third}
use Rattle.cone_walls.proofs.fines.push_own.Goals as goal

pub returns-then-position-pair : goal.returns-then-position-pair
returns-then-position-pair c =
    let t : nat_lt c.args.position c.args.pair.0 ≡ true = search rules in
    let l : FitsSigned w128 c.args.last = search rules in
    own_first (support_at c.args.problem.now c.args.i) c.args.pair c.args.numbers c.args.position c.args.last _ _ _ t (simp to_z-of_z at c.in_ok-push_point.ensures) c.in_ok-push_pair.ensures

pub returns-then-position-pair-2 : goal.returns-then-position-pair-2
returns-then-position-pair-2 c =
    let t : nat_lt c.args.position c.args.pair.0 ≡ false = search rules in
    let u : nat_lt c.args.position c.args.pair.1 ≡ true = search rules in
    let l : FitsSigned w128 c.args.last = search rules in
    let f : FitsSigned w128 c.args.numbers.0 = search rules in
    let g : FitsSigned w128 c.args.numbers.1 = search rules in
    own_second (support_at c.args.problem.now c.args.i) c.args.pair c.args.numbers c.args.position c.args.last _ _ _ _ t u (simp to_z-of_z at c.in_ok-push_point-2.ensures) (simp to_z-of_z at c.in_ok-push_point-3.ensures) (simp to_z-of_z at c.in_ok-push_point-4.ensures)

pub returns : goal.returns
returns c =
    let t : nat_lt c.args.position c.args.pair.0 ≡ false = search rules in
    let u : nat_lt c.args.position c.args.pair.1 ≡ false = search rules in
    let l : FitsSigned w128 c.args.last = search rules in
    own_third (support_at c.args.problem.now c.args.i) c.args.pair c.args.numbers c.args.position c.args.last _ _ _ t u c.in_ok-push_pair-2.ensures (simp to_z-of_z at c.in_ok-push_point-5.ensures)
