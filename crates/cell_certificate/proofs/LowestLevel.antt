-- a normal in lowest terms makes both points of each pair equal
use Rattle.std.proofs.Common.{◌≡◌, List, length, ◌<ℤ◌}
use Rattle.std.proofs.Math.IntN.{ℤ, pos}
use Rattle.cayley.specs.Times.{time_zero}
use Rattle.cayley.specs.Problems.{Problem, point_at}
use Rattle.cayley.specs.Cells.{Cell, IsOf}
use Rattle.cayley.specs.Normals.{Normal, IsNormal}
use Rattle.cayley.specs.Mixed.{HasFirstEntries}
use Rattle.cayley.proofs.Lists.Pairs.{pairs_map}
use Rattle.cell_certificate.specs.Tests.{IsLevelAt}
use Rattle.cell_certificate.proofs.FirstEntries.{first_level}
use Rattle.cell_certificate.proofs.Levels.{AreFlat, level_to}

pub lowest_level : (p : Problem) (cell : Cell) → IsOf p cell → (v : List ℤ) (den : ℤ) (w : Normal) → length v ≡ p.dimension → pos 0 <ℤ den
    → IsNormal p cell time_zero w → HasFirstEntries w v den → IsLevelAt p cell v den
lowest_level p cell of v den w long h n e =
    level_to p cell of v den long h
    (pairs_map p.supports cell _ (AreFlat v den) (λ s a b z. first_level w v den (point_at s a) (point_at s b) e z) n.1)
