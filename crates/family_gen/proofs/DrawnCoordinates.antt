-- Coordinates that are drawn one after the other.
use Rattle.std.proofs.Common.{◌≡◌, ℕ, zero, suc, ◌+◌, ◌%◌, ◌/◌, ◌^◌, ◌≤◌, List, [], ◌∷◌, ◌++◌, length, map, refl, ap, ap₂, sym, ◌∙◌, arith}
use Rattle.std.specs.List.{range_with_len}
use Rattle.std.proofs.lemmas.List.FromFn.{map-range_with_len_more, length-map-range_with_len}
use Rattle.std.proofs.lemmas.Nat.{mod_below}
use Rattle.int_vectors.specs.Vectors.{Each}
use Rattle.family_gen.specs.Generator.{following, number, coordinate_of}
use Rattle.family_gen.specs.Scatter.{drawn}
use Rattle.family_gen.proofs.DrawnNumbers.{number-add}

pub drawn_more : (seed side place : ℕ) → drawn seed side 1 place ++ coordinate_of side (following (number seed place)) ∷ [] ≡ drawn seed side 1 (place + 1)
unfolding number
drawn_more seed side place = sym (map-range_with_len_more (λ k. coordinate_of side (number seed k)) 1 place (suc place) (omega arith))

pub drawn_later : (seed side k d j n : ℕ) → j ≡ k + d → drawn seed side j n ≡ drawn (number seed k) side d n
drawn_later seed side k d j zero e = refl
drawn_later seed side k d j (suc n) e =
    ap₂ (λ (y : ℕ) (ys : List ℕ). coordinate_of side y ∷ ys) (ap (number seed) e ∙ number-add seed k d) (drawn_later seed side k (d + 1) (j + 1) n (omega arith))

one_within : (side x : ℕ) → coordinate_of side x ≤ side
unfolding coordinate_of
one_within side x = by (x / 2 ^ 33)
  where
    by : (y : ℕ) → y % (side + 1) ≤ side
    by y = let h = mod_below y (side + 1) (omega arith) in omega arith

each_within : (seed side : ℕ) (ks : List ℕ) → Each (map (λ k. coordinate_of side (number seed k)) ks) (λ c. c ≤ side)
each_within seed side [] = tt
each_within seed side (k ∷ ks) = (one_within side (number seed k), each_within seed side ks)

pub drawn_within : (seed side d n : ℕ) → Each (drawn seed side d n) (λ c. c ≤ side)
drawn_within seed side d n = each_within seed side (range_with_len d n)

pub drawn_length : (seed side d n : ℕ) → length (drawn seed side d n) ≡ n
drawn_length seed side d n = length-map-range_with_len (λ k. coordinate_of side (number seed k)) d n
