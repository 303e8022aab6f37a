use Rattle.std.proofs.Common.{◌≡◌, ◌∙◌, ◌≤◌, ℕ, ap, sym, subst, ℤ, List, map, length, arith}
use Rattle.std.specs.Global.{Vec}
use Rattle.std.proofs.lemmas.List.{length-map}
use Rattle.int_vectors.specs.Vectors.{Each}
use Rattle.cayley.specs.Valid.{AreDistinct, IsCoordinate}
use Rattle.int_vectors.proofs.Each.{each_unmap, each_weaker}
use Rattle.family_gen.proofs.ValidLifts.{IsSupport}
use Rattle.family_gen.proofs.CyclicSupports.{cyclic_are_supports, cyclic-count}
use Rattle.family_gen.proofs.cycles.cyclic.Goals as goal

-- each support that was made
made : (n : ℕ) (ss : List (Vec (List ℤ))) (all : List (List (List ℤ))) (P : List (List ℤ) → Type 0) → ((s : List (List ℤ)) → IsSupport n s → P s) → map (λ (s : Vec (List ℤ)). s.items) ss ≡ all → Each all (IsSupport n) → Each ss (λ s. P s.items)
made n ss all P f e h = each_unmap (λ (s : Vec (List ℤ)). s.items) P ss (each_weaker (IsSupport n) P (map (λ (s : Vec (List ℤ)). s.items) ss) f (subst (λ (l : List (List (List ℤ))). Each l (IsSupport n)) (sym e) h))

pub lift-requires-clause-count : goal.lift-requires-clause-count
lift-requires-clause-count c =
    let one : 1 ≤ c.args.n = (let two = c.requires.least in omega arith) in
    sym (length-map c.in_ok-supports.supports.items (λ (s : Vec (List ℤ)). s.items)) ∙ ap length c.in_ok-supports.ensures ∙ cyclic-count c.args.n one

pub lift-requires-clause-counts : goal.lift-requires-clause-counts
lift-requires-clause-counts c =
    made c.args.n c.in_ok-supports.supports.items _ (λ s. (1 ≤ length s) × (length s ≤ 1000)) (λ s h. h.count) c.in_ok-supports.ensures (cyclic_are_supports c.args.n (let two = c.requires.least in omega arith) c.requires.greatest)

pub lift-requires-clause-points : goal.lift-requires-clause-points
lift-requires-clause-points c =
    made c.args.n c.in_ok-supports.supports.items _ (λ s. Each s (λ x. length x ≡ c.args.n)) (λ s h. h.points) c.in_ok-supports.ensures (cyclic_are_supports c.args.n (let two = c.requires.least in omega arith) c.requires.greatest)

pub lift-requires-clause-limits : goal.lift-requires-clause-limits
lift-requires-clause-limits c =
    made c.args.n c.in_ok-supports.supports.items _ (λ s. Each s (λ x. Each x IsCoordinate)) (λ s h. h.limits) c.in_ok-supports.ensures (cyclic_are_supports c.args.n (let two = c.requires.least in omega arith) c.requires.greatest)

pub lift-requires-clause-distinct : goal.lift-requires-clause-distinct
lift-requires-clause-distinct c =
    made c.args.n c.in_ok-supports.supports.items _ AreDistinct (λ s h. h.distinct) c.in_ok-supports.ensures (cyclic_are_supports c.args.n (let two = c.requires.least in omega arith) c.requires.greatest)
