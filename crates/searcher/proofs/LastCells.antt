-- the version that a search without an elimination needs
use Rattle.std.proofs.Common.{◌≡◌, arith, refl}
use Rattle.cayley.specs.Problems.{Version, version1, version2, version_number}

pub first_version : (v : Version) → version_number v ≡ 1 → v ≡ version1
first_version version1 e = refl
first_version version2 e = absurd (omega (arith, e))
