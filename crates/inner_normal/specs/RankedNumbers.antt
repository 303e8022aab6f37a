-- numbers with the ranks of their points
use Rattle.std.specs.Prelude.{ℕ, ℤ, List}
use Rattle.cayley.specs.Problems.{Point, point_at}

abbrev pub Ranked : Type 0
Ranked = ℕ × ℤ

abbrev pub ranked : List Point → ℕ → ℤ → Ranked
ranked s position number = ((point_at s position).rank, number)
