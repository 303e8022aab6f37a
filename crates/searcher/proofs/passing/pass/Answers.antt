use Rattle.std.proofs.Common.{rules, ◌≡◌, ◌<◌, [], ◌∷◌, ◌++◌, map, refl, inl, sym, ap, subst, ◌∙◌, append-nil, append_assoc}
use Rattle.std.specs.Prelude.{sum_by}
use Rattle.int_vectors.specs.Vectors.{Each}
use Rattle.cayley.proofs.Searching.Steps.{Keeps, weight}
use Rattle.searcher.specs.Passes.{IsOnItsWay, IsLedBy, left_by, reached_by}
use Rattle.searcher.proofs.Sizes.{size_in}
use Rattle.searcher.proofs.PassTurns.{branch_in, pass_keeps, pass_falls, pass_ways, pass_led, last_has, halt_led, led_self, keeps_first, pass_ends}
use Rattle.searcher.proofs.passing.pass.Goals as goal

pub passed-requires : goal.passed-requires
passed-requires g c = record { way = last_has (IsOnItsWay c.args.problem.now) c.in-Some.next c.loop-next.left.items c.pop.new.self.items c.in-Some.ensures.items c.loop-next.invariant.ways }

pub loop-next-init : goal.loop-next-init
loop-next-init g c =
    let p = c.args.problem.now in
    let first : c.push.new.self.items ≡ c.args.cell ∷ [] = search rules in
    record {
      keeps = ([], sym (append-nil c.args.reached.now.items), λ share gives. subst (λ l. Keeps share (branch_in p c.args.cell ∷ []) [] (map (branch_in p) l)) (sym first) (keeps_first p c.args.cell share));
      ways = subst (λ l. Each l (IsOnItsWay p)) (sym first) (c.requires.way, tt);
      led = subst (λ l. Each l (IsLedBy p (c.args.cell ∷ []))) (sym first) (led_self p (c.args.cell ∷ []) c.args.cell (inl refl), tt);
    }

pub returns-in-Err-passed-clause-halt : goal.returns-in-Err-passed-clause-halt
returns-in-Err-passed-clause-halt g c =
    let p = c.args.problem.now in
    halt_led p (c.args.cell ∷ []) c.in-Some.next c.in-Err-passed.cause
    (last_has (IsLedBy p (c.args.cell ∷ [])) c.in-Some.next c.loop-next.left.items c.pop.new.self.items c.in-Some.ensures.items c.loop-next.invariant.led) c.in-Err-passed.ensures

pub loop-next-smaller : goal.loop-next-smaller
loop-next-smaller g c =
    let p = c.args.problem.now in
    let well = c.dim-dim.ensures.valid.shape.problem in
    let left = c.loop-next.left.items in
    let rest = c.pop.new.self.items in
    let popped = c.in-Some.ensures.items in
    let way = last_has (IsOnItsWay p) c.in-Some.next left rest popped c.loop-next.invariant.ways in
    let put = c.put.ensures.left ∙ ap (λ l. l ++ left_by c.in-Ok.passage) c.has_room.ensures.left in
    subst (λ l. sum_by (weight (size_in p)) (map (branch_in p) l) < sum_by (weight (size_in p)) (map (branch_in p) left)) (sym put)
    (pass_falls p well c.in-Some.next left rest popped way c.in-Ok.passage c.in-Ok.ensures)

pub loop-next-preserved : goal.loop-next-preserved
loop-next-preserved g c =
    let p = c.args.problem.now in
    let well = c.dim-dim.ensures.valid.shape.problem in
    let next = c.in-Some.next in
    let left = c.loop-next.left.items in
    let rest = c.pop.new.self.items in
    let popped = c.in-Some.ensures.items in
    let before = c.loop-next.invariant in
    let way = last_has (IsOnItsWay p) next left rest popped before.ways in
    let passage = c.in-Ok.passage in
    let is = c.in-Ok.ensures in
    let put = c.put.ensures.left ∙ ap (λ l. l ++ left_by passage) c.has_room.ensures.left in
    let there = c.put.ensures.reached ∙ ap (λ l. l ++ reached_by next passage) c.has_room.ensures.reached in
    record {
      keeps = (
        before.keeps.0 ++ reached_by next passage,
        there ∙ ap (λ l. l ++ reached_by next passage) before.keeps.1 ∙ append_assoc c.args.reached.now.items before.keeps.0 (reached_by next passage),
        λ share gives.
            subst (λ l. Keeps share (branch_in p c.args.cell ∷ []) (before.keeps.0 ++ reached_by next passage) (map (branch_in p) l)) (sym put)
            (pass_keeps p well next left rest popped way share gives (branch_in p c.args.cell ∷ []) before.keeps.0 passage is (before.keeps.2 share gives)),
      );
      ways = subst (λ l. Each l (IsOnItsWay p)) (sym put) (pass_ways p well next left rest popped way passage is before.ways);
      led = subst (λ l. Each l (IsLedBy p (c.args.cell ∷ []))) (sym put) (pass_led p well next left rest popped way (c.args.cell ∷ []) passage is before.led);
    }

pub returns-clause-reached : goal.returns-clause-reached
returns-clause-reached g c =
    let p = c.args.problem.now in
    let well = c.dim-dim.ensures.valid.shape.problem in
    let none : c.loop-next.left.items ≡ [] = c.in_default-pop.ensures.items ∙ search rules in
    let k = c.loop-next.invariant.keeps in
    (k.0, k.1, pass_ends p well c.args.cell c.requires.way c.loop-next.left.items k.0 none k.2)
