use Rattle.std.proofs.Common.{rules, ◌≡◌, [], ◌++◌, subst}
use Rattle.std.specs.Prelude.{IsPermutation}
use Rattle.std.proofs.lemmas.List.Sorted.{IsPermutation-trans}
use Rattle.search_team.specs.Teams.{all_found}
use Rattle.search_team.proofs.Summed.{none_rest, found_snoc, moved_found}
use Rattle.search_team.proofs.ending.gathered.Goals as goal

pub loop-part-preserved : goal.loop-part-preserved
loop-part-preserved c =
    let more : c.append.new.self.items ≡ c.loop-part.cells.items ++ c.in-Some.part.found.items = search rules in
    record {
      none = none_rest c.loop-part.parts.items c.pop.new.self.items c.in-Some.part c.in-Some.ensures.items c.loop-part.invariant.none;
      all = moved_found (all_found c.args.parts.items) c.loop-part.cells.items c.append.new.self.items (all_found c.pop.new.self.items) c.in-Some.part.found.items
          (subst (λ l. IsPermutation (all_found c.args.parts.items) (l ++ c.loop-part.cells.items)) (found_snoc c.loop-part.parts.items c.pop.new.self.items c.in-Some.part c.in-Some.ensures.items) c.loop-part.invariant.all) more;
      room = search rules;
    }

pub returns-clause-all : goal.returns-clause-all
returns-clause-all c =
    let none : c.loop-part.parts.items ≡ [] = search rules in
    IsPermutation-trans (all_found c.args.parts.items) c.loop-part.cells.items c.put_in_order.new.cells.items
    (subst (λ l. IsPermutation (all_found c.args.parts.items) (all_found l ++ c.loop-part.cells.items)) none c.loop-part.invariant.all)
    c.put_in_order.ensures.same
