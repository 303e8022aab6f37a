use Rattle.std.proofs.Common.{◌≡◌, ◌∙◌, ◌+◌, ℕ, ap, sym, subst, length, List, ◌++◌, map, add-one, FitsSigned, to_z-of_z, rules}
use Rattle.std.specs.Int.{w64}
use Rattle.std.proofs.lemmas.Result.{on_ok_weaker}
use Rattle.cayley.specs.Files.{FilePoint}
use Rattle.family_gen.specs.Generator.{number}
use Rattle.family_gen.specs.Scatter.{drawn}
use Rattle.family_gen.specs.Seen.{coordinates_of}
use Rattle.family_gen.proofs.DrawnNumbers.{number_first}
use Rattle.family_gen.proofs.DrawnCoordinates.{drawn_within, drawn_length}
use Rattle.family_gen.proofs.GridPoints.{Within}
use Rattle.family_gen.proofs.ScatteredPoints.{one_point}
use Rattle.family_gen.proofs.scattering.Scattered.draw.Goals as goal

pub move_to_free-requires-clause-within : goal.move_to_free-requires-clause-within
move_to_free-requires-clause-within c = subst (Within c.args.side) (sym c.in_ok-coords.ensures.coords) (drawn_within c.height-height.new.self.last c.args.side 1 c.args.n)

pub move_to_free-requires-clause-room : goal.move_to_free-requires-clause-room
move_to_free-requires-clause-room c =
    let size : length c.in_ok-coords.coords.items ≡ c.args.n = ap length c.in_ok-coords.ensures.coords ∙ drawn_length c.height-height.new.self.last c.args.side 1 c.args.n in
    rw size c.requires.room

pub move_to_free-requires-clause-some : goal.move_to_free-requires-clause-some
move_to_free-requires-clause-some c =
    let size : length c.in_ok-coords.coords.items ≡ c.args.n = ap length c.in_ok-coords.ensures.coords ∙ drawn_length c.height-height.new.self.last c.args.side 1 c.args.n in
    rw size c.requires.some

pub returns-clause-point : goal.returns-clause-point
returns-clause-point c =
    let last = c.args.generator.now.last in
    let coords = c.in_ok-coords.ensures.coords ∙ ap (λ (y : ℕ). drawn y c.args.side 1 c.args.n) c.height-height.ensures.last in
    let point = one_point last c.args.side c.args.n (map coordinates_of c.args.self.now) c.in_ok-coords.coords.items c.move_to_free.new.coords.items c.height-height.result coords c.move_to_free.ensures c.height-height.ensures.drawn in
    let wide : FitsSigned w64 c.height-height.result = search rules in
    on_ok_weaker c.add.result (λ e. e ∙ ap (λ (ps : List FilePoint). c.args.self.now ++ ps) point) (simp to_z-of_z at c.add.ensures)

pub returns-clause-last : goal.returns-clause-last
returns-clause-last c =
    let last = c.args.generator.now.last in
    let after : c.drawn.new.generator.last ≡ number last (c.args.n + 1) = c.in_ok-coords.ensures.last ∙ ap (λ (y : ℕ). number y c.args.n) c.height-height.ensures.last ∙ sym (number_first last c.args.n) ∙ ap (number last) (sym (add-one c.args.n)) in
    on_ok_weaker c.add.result (λ e. after) c.add.ensures
