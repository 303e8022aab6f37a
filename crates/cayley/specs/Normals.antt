-- Normals of a cell at a time, and points above, level and below.
use Rattle.std.specs.Prelude.{◌≡◌, ◌⊎◌, ℕ, zero, suc, List, [], ◌∷◌, length, map, ℤ, pos, neg_ℤ, ◌*ℤ◌, ◌<ℤ◌}
use Rattle.int_vectors.specs.Vectors.{IsZero, IsPositive, add, sub, scale, comb, at, at_place}
use Rattle.cayley.specs.Times.{Time}
use Rattle.cayley.specs.Problems.{Point, Problem, point_at}
use Rattle.cayley.specs.Cells.{Cell, EachPair, IsFurther}

-- n values over one positive number
pub record Normal : Type 0 where
  pub entries : List (List ℤ)
  pub over : ℤ
  pub positive : pos 0 <ℤ over

-- q in entry r where r isn't 0
abbrev pub mark : ℤ → ℕ → List ℤ
mark q zero = []
mark q (suc r) = at_place (suc r) q

-- the height of a point at a time, times the time's denominator
abbrev pub height : Time → Point → List ℤ
height t x = add ((t.over *ℤ x.base) ∷ []) (add (scale x.speed t.entries) (mark t.over x.rank))

-- the value <y - x, v> + H(y) - H(x), times both denominators
abbrev pub gap : Time → Normal → Point → Point → List ℤ
gap t v x y = add (scale t.over (comb (sub y.coordinates x.coordinates) v.entries)) (scale v.over (sub (height t y) (height t x)))

-- both points of each pair have one value
abbrev pub IsNormal : Problem → Cell → Time → Normal → Type 0
IsNormal p cell t v = length v.entries ≡ p.dimension
    × EachPair p.supports cell (λ s a b. IsZero (gap t v (point_at s a) (point_at s b)))

-- the same values, written over one number or another
abbrev pub HasSameValues : Normal → Normal → Type 0
HasSameValues v w = (e : ℕ) → scale w.over (map (λ x. at x e) v.entries) ≡ scale v.over (map (λ x. at x e) w.entries)

-- point c of a support against point a, which is in its pair
abbrev pub IsAbove : Time → Normal → List Point → ℕ → ℕ → Type 0
IsAbove t v s a c = IsPositive (gap t v (point_at s a) (point_at s c))

abbrev pub IsLevel : Time → Normal → List Point → ℕ → ℕ → Type 0
IsLevel t v s a c = IsZero (gap t v (point_at s a) (point_at s c))

abbrev pub IsBelow : Time → Normal → List Point → ℕ → ℕ → Type 0
IsBelow t v s a c = IsPositive (scale (neg_ℤ (pos 1)) (gap t v (point_at s a) (point_at s c)))

-- every further point is above its support's pair
abbrev pub AllAbove : Problem → Cell → Time → Normal → Type 0
AllAbove p cell t v = EachPair p.supports cell (λ s a b. (c : ℕ) → IsFurther s a b c → IsAbove t v s a c)

-- no further point is below: each is above or level
abbrev pub NoneBelow : Problem → Cell → Time → Normal → Type 0
NoneBelow p cell t v = EachPair p.supports cell (λ s a b. (c : ℕ) → IsFurther s a b c → IsAbove t v s a c ⊎ IsLevel t v s a c)

abbrev pub values : Time → List ℤ → List ℤ → List (List ℤ)
values t [] qs = []
values t (p ∷ ps) [] = []
values t (p ∷ ps) (q ∷ qs) = add ((t.over *ℤ p) ∷ []) (scale q t.entries) ∷ values t ps qs
