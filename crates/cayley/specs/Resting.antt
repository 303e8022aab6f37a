-- Numbers over one denominator as a normal, and how points that rest lie over each other under it.
use Rattle.std.specs.Prelude.{List, [], ◌∷◌, map, ℤ, pos, ◌+ℤ◌, ◌*ℤ◌, ◌-ℤ◌, ◌<ℤ◌}
use Rattle.int_vectors.specs.Vectors.{sub, dot}
use Rattle.cayley.specs.Problems.{Point}
use Rattle.cayley.specs.Normals.{Normal}

-- the normal v / den
abbrev pub normal_over : List ℤ → (den : ℤ) → pos 0 <ℤ den → Normal
normal_over v den positive = record { entries = map (λ x. x ∷ []) v; over = den; positive = positive }

-- the value of point x less that of point a under v / den, times den, by their bases
abbrev pub rise : ℤ → List ℤ → Point → Point → ℤ
rise den v a x = den *ℤ (x.base -ℤ a.base) +ℤ dot (sub x.coordinates a.coordinates) v
