use Rattle.std.proofs.Common.{◌≡◌, ◌++◌, [], ◌∷◌, take, flat_map}
use Rattle.cayley.specs.Stored.{file_point}
use Rattle.support_text.specs.Words.{text_of}
use Rattle.support_text.specs.Writing.{point_words}
use Rattle.support_text.proofs.writing.write_points.Given as goal

abbrev pub invariant-loop-point : goal.invariant-loop-point
invariant-loop-point l = l.out.items ≡ l.fn.out.items ++ flat_map (λ x. text_of (point_words (file_point x) ∷ [])) (take l.point-index l.points)
