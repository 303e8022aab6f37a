-- points at positions: of two lists in a row, and of a list in which each point is changed
use Rattle.std.proofs.Common.{◌≡◌, ℕ, zero, suc, ◌+◌, ◌-◌, ◌<◌, ◌≤◌, List, [], ◌∷◌, ◌++◌, length, map, get_or, arith, refl, ap, ◌∙◌}
use Rattle.std.proofs.Math.ListN.{get_or-append}
use Rattle.std.proofs.lemmas.List.{get_or-append-add}
use Rattle.cayley.specs.Problems.{Point, point_at, origin}

-- the point at a place, counted from 0
abbrev pub from_zero : List Point → ℕ → Point
from_zero s k = get_or s k origin

pub point_suc : (s : List Point) (k : ℕ) → point_at s (suc k) ≡ from_zero s k
point_suc s k = let e : suc k - 1 ≡ k = omega arith in ap (λ j. get_or s j origin) e

pub point_left : (xs ys : List Point) (c : ℕ) → 1 ≤ c → c ≤ length xs → point_at (xs ++ ys) c ≡ point_at xs c
point_left xs ys c l m = get_or-append xs ys origin (c - 1) (omega arith)

pub point_right : (xs ys : List Point) (f k : ℕ) → length xs ≡ f → point_at (xs ++ ys) (f + suc k) ≡ from_zero ys k
point_right xs ys f k e =
    let o : (f + suc k) - 1 ≡ length xs + k = omega arith in
    ap (λ j. get_or (xs ++ ys) j origin) o ∙ get_or-append-add xs ys k origin

pub point_mapped : (g : Point → Point) (s : List Point) (c : ℕ) → 1 ≤ c → c ≤ length s → point_at (map g s) c ≡ g (point_at s c)
point_mapped g s c l m = mapped s (c - 1) (omega arith)
  where
    mapped : (s : List Point) (k : ℕ) → k < length s → from_zero (map g s) k ≡ g (from_zero s k)
    mapped [] k l = absurd (omega arith)
    mapped (x ∷ s) zero l = refl
    mapped (x ∷ s) (suc k) l = mapped s k (omega arith)
