use Rattle.std.proofs.Common.{◌≡◌, ◌∙◌, ◌+◌, ◌*◌, ℕ, suc, ap, sym, subst, refl, arith, List, [], ◌∷◌, ◌++◌, map, None}
use Rattle.std.specs.Global.{Vec}
use Rattle.std.specs.List.{range_with_len}
use Rattle.std.proofs.lemmas.List.{map_push}
use Rattle.std.proofs.lemmas.List.FromFn.{map-range_with_len_more}
use Rattle.std.proofs.Math.Nat.{suc-mul, zero-mul}
use Rattle.cayley.specs.declared.points.FilePoint.{FilePoint as StoredFilePoint}
use Rattle.cayley.specs.Stored.{file_point}
use Rattle.cayley.specs.Files.{FilePoint}
use Rattle.cayley.specs.Problems.{version1}
use Rattle.cayley.specs.Valid.{IsValidFile}
use Rattle.family_gen.specs.Generator.{number}
use Rattle.family_gen.specs.Scatter.{scattered, scattered_support}
use Rattle.family_gen.proofs.DrawnNumbers.{number-add}
use Rattle.family_gen.proofs.ScatteredPoints.{scattered_later}
use Rattle.family_gen.proofs.ValidLifts.{lifted_seen}
use Rattle.family_gen.proofs.ValidScatters.{scatter_valid}
use Rattle.family_gen.proofs.scattering.scatter.Goals as goal

pub loop-turn-init : goal.loop-turn-init
unfolding number
loop-turn-init c =
    let view = λ (s : Vec StoredFilePoint). map file_point s.items in
    let none : 0 * (c.args.m * (c.args.n + 1)) ≡ 0 = zero-mul (c.args.m * (c.args.n + 1)) in
    record { supports = ap (map view) c.in-Ok.ensures.items; last = ap (number c.args.seed) (sym none) }

pub loop-turn-preserved : goal.loop-turn-preserved
loop-turn-preserved c =
    let view = λ (s : Vec StoredFilePoint). map file_point s.items in
    let group = c.args.m * (c.args.n + 1) in
    let turn = c.loop-turn._turn in
    let before = turn * group in
    let made = c.loop-turn.supports.items in
    let f = scattered_support c.args.seed c.args.side c.args.n c.args.m in
    let support : view c.in_ok-points.points ≡ f turn = c.in_ok-points.ensures.points ∙ ap (λ (y : ℕ). scattered y c.args.side c.args.n 1 c.args.m []) c.loop-turn.invariant.last
    ∙ sym (scattered_later c.args.seed c.args.side c.args.n before 1 (before + 1) c.args.m refl []) in
    let more : before + group ≡ (turn + 1) * group = (let e : turn + 1 ≡ suc turn = omega arith in sym (ap (λ (i : ℕ). i * group) e ∙ suc-mul turn group)) in
    record {
      supports = ap (map view) c.in_default-push.ensures.items ∙ map_push view made c.in_ok-points.points ∙ ap (λ (s : List FilePoint). map view made ++ s ∷ []) support
          ∙ ap (λ (l : List (List FilePoint)). l ++ f turn ∷ []) c.loop-turn.invariant.supports ∙ sym (map-range_with_len_more f 0 turn turn (omega arith));
      last = c.in_ok-points.ensures.last ∙ ap (λ (y : ℕ). number y group) c.loop-turn.invariant.last ∙ sym (number-add c.args.seed before group) ∙ ap (number c.args.seed) more;
    }

pub from_parts-requires : goal.from_parts-requires
from_parts-requires c =
    let r = c.requires in
    let turn : c.loop-turn._turn ≡ c.args.n = (let le = c.loop-turn-test.false in let ge = c.loop-turn.auto._turn-end in omega arith) in
    let all = lifted_seen c.loop-turn.supports.items _ (c.loop-turn.invariant.supports ∙ ap (λ (i : ℕ). map (scattered_support c.args.seed c.args.side c.args.n c.args.m) (range_with_len 0 i)) turn) in
    subst (λ (l : List (List FilePoint)). IsValidFile (record { version = version1; dimension = c.args.n; supports = l; starts = None })) (sym all)
    (scatter_valid c.args.n c.args.m c.args.side c.args.seed r.least r.greatest r.some r.count r.limit r.room)

pub returns : goal.returns
returns c =
    let turn : c.loop-turn._turn ≡ c.args.n = (let le = c.loop-turn-test.false in let ge = c.loop-turn.auto._turn-end in omega arith) in
    let all = lifted_seen c.loop-turn.supports.items _ (c.loop-turn.invariant.supports ∙ ap (λ (i : ℕ). map (scattered_support c.args.seed c.args.side c.args.n c.args.m) (range_with_len 0 i)) turn) in
    c.from_parts.ensures ∙ ap (λ (l : List (List FilePoint)). record { version = version1; dimension = c.args.n; supports = l; starts = None }) all
