use Rattle.std.proofs.Common.{◌∙◌, ap, sym, subst, ℤ, List, map, None}
use Rattle.std.specs.Global.{Vec}
use Rattle.std.proofs.lemmas.List.{length-map}
use Rattle.cayley.specs.Valid.{IsValidFile}
use Rattle.cayley.specs.Files.{File, FilePoint}
use Rattle.cayley.specs.Problems.{version1}
use Rattle.family_gen.proofs.ValidLifts.{lift_valid, supports_from, lifted_seen}
use Rattle.family_gen.proofs.lifting.lift.Goals as goal

pub from_parts-requires : goal.from_parts-requires
from_parts-requires c =
    let items = λ (s : Vec (List ℤ)). s.items in
    let r = c.requires in
    let each = supports_from c.args.dim c.args.supports.items r.counts r.points r.limits r.distinct in
    let all = lifted_seen c.in_ok-lifted.lifted.items _ c.in_ok-lifted.ensures in
    let file : List (List FilePoint) → File = λ l. record { version = version1; dimension = c.args.dim; supports = l; starts = None } in
    subst (λ (l : List (List FilePoint)). IsValidFile (file l)) (sym all)
    (lift_valid c.args.dim (map items c.args.supports.items) c.args.seed r.least r.greatest (length-map c.args.supports.items items ∙ r.count) each)

pub returns : goal.returns
returns c =
    let all = lifted_seen c.in_ok-lifted.lifted.items _ c.in_ok-lifted.ensures in
    c.from_parts.ensures ∙ ap (λ (l : List (List FilePoint)). record { version = version1; dimension = c.args.dim; supports = l; starts = None }) all
