-- a bound on what an exchange makes
use Rattle.std.proofs.Common.{◌≡◌, ℕ, suc, ◌+◌, ◌*◌, ◌/◌, ◌^◌, ◌<◌, ◌≤◌, unsigned_abs, ℤ, pos, ◌-ℤ◌, ◌<ℤ◌, List, [], ◌∷◌, length, map, get_or, set, arith, sym, ap, subst, ◌∙◌}
use Rattle.std.proofs.Math.Nat.{le-div_iff_mul-le, mul-div_left}
use Rattle.std.proofs.lemmas.Int.{unsigned_abs-mul}
use Rattle.wide_int.proofs.Signed.{abs_positive}
use Rattle.int_vectors.specs.Bounds.{Within}
use Rattle.int_vectors.specs.RowSteps.{eliminated}
use Rattle.int_vectors.specs.Vectors.{Each, at, scale}
use Rattle.int_vectors.proofs.BoundRows.{place_below, within_at}
use Rattle.int_vectors.proofs.BoundSums.{mul_le}
use Rattle.int_vectors.proofs.Entries.{at-scale}
use Rattle.reduced_rows.proofs.Picking.{each_at}
use Rattle.carried_inverse.specs.Exchanges.{combined, IsExchanged, HasExchangeRoom}
use Rattle.carried_inverse.proofs.DividedColumns.{unscaled_all}
use Rattle.carried_inverse.proofs.Rooms.{own, factors}

eliminated_below : (s f w : ℕ) (p g : ℤ) (xs ys : List ℤ) → unsigned_abs p ≤ s → unsigned_abs g ≤ f → Within w xs → Within w ys → Within (s * w + f * w) (eliminated p g xs ys)
unfolding eliminated
eliminated_below s f w p g [] ys hp hg hx hy = tt
eliminated_below s f w p g (x ∷ xs) [] hp hg hx hy = tt
eliminated_below s f w p g (x ∷ xs) (y ∷ ys) hp hg hx hy =
    (let b = (place_below (suc (s * w + f * w)) w w p g x y (below (unsigned_abs p) s (unsigned_abs g) f w hp hg) hx.0 hy.0).2 in omega (arith, b), eliminated_below s f w p g xs ys hp hg hx.1 hy.1)
  where
    below : (a s b f w : ℕ) → a ≤ s → b ≤ f → a * w + b * w < suc (s * w + f * w)
    below a s b f w k l = let q = mul_le w a s k in let r = mul_le w b f l in omega (arith, q, r)

combined_below : (s f w : ℕ) (p : ℤ) (fs : List ℤ) (xs : List (List ℤ)) (by : List ℤ) → unsigned_abs p ≤ s → Within f fs → Each xs (Within w) → Within w by → Each (combined p fs xs by) (Within (s * w + f * w))
unfolding combined
combined_below s f w p [] xs by hp hf hx hb = tt
combined_below s f w p (g ∷ fs) [] by hp hf hx hb = tt
combined_below s f w p (g ∷ fs) (x ∷ xs) by hp hf hx hb = (eliminated_below s f w p g x by hp hf.0 hx.0 hb, combined_below s f w p fs xs by hp hf.1 hx.1 hb)

module _ (i : ℕ) (den : ℤ) (us : List ℤ) (columns : List (List ℤ)) (over : ℤ) (made : List (List ℤ)) (below : i < length us) (count : length us ≡ length columns)
    (positive : pos 0 <ℤ over) (x : IsExchanged i den us columns over made) (room : HasExchangeRoom den us columns) where
  abbrev pub g : ℤ
  g = x.lowered.divisor

  abbrev pub s : ℕ
  s = room.0

  abbrev pub w : ℕ
  w = room.1

  same : unsigned_abs (at x.shares i) ≡ unsigned_abs (at us i)
  same = ap (λ l. unsigned_abs (at l i)) x.turned.all ∙ ap unsigned_abs (at-scale x.turned.sign us i) ∙ unsigned_abs-mul x.turned.sign (at us i) ∙ ap (λ n. n * unsigned_abs (at us i)) x.turned.unit ∙ omega arith

  products : unsigned_abs g * unsigned_abs over ≡ unsigned_abs den * unsigned_abs (at us i)
  products = sym (unsigned_abs-mul g over) ∙ ap unsigned_abs x.lowered.denominator ∙ unsigned_abs-mul den (at x.shares i) ∙ ap (λ n. unsigned_abs den * n) same

  pub divisor_is : (unsigned_abs den * unsigned_abs (at us i)) / unsigned_abs over ≡ unsigned_abs g
  divisor_is = ap (λ n. n / unsigned_abs over) (sym products) ∙ mul-div_left (unsigned_abs g) {n = unsigned_abs over} (abs_positive over positive)

  pub divisor_above : 0 < unsigned_abs g
  divisor_above = abs_positive g x.lowered.positive

  pub product_least : unsigned_abs den * unsigned_abs (at us i) ≤ (2 * s + w) * w
  product_least = least (unsigned_abs den) (unsigned_abs (at us i)) s w room.4 (within_at s us i below room.2)
    where
      least : (a b s w : ℕ) → a ≤ w → b ≤ s → a * b ≤ (2 * s + w) * w
      least a b s w h k = let q = mul_le a b s k in let r = mul_le s a w h in omega (arith, q, r)

  pub product_small : unsigned_abs den * unsigned_abs (at us i) < 2 ^ 62
  product_small = let h = product_least in let r = room.7 in omega (arith, h, r)

  pub over_within : unsigned_abs over ≤ ((2 * s + w) * w) / unsigned_abs g
  over_within =
      (le-div_iff_mul-le {k = unsigned_abs g} {x = unsigned_abs over} {y = (2 * s + w) * w} divisor_above).1 (let e = products in let h = product_least in omega (arith, e, h))

  pub made_within : Each made (Within (((2 * s + w) * w) / unsigned_abs g))
  made_within =
      let hp = own i den us x.shares columns x.factor below count x.turned room in
      let hf = factors i den us x.shares columns x.factor below count x.turned room in
      let b = combined_below s (s + w) w (at x.shares i) (set x.shares i (at x.shares i -ℤ x.factor)) columns (get_or columns i []) hp hf room.3 (each_at (Within w) columns i [] (omega (arith, below, count)) room.3) in
      let e = sym x.combination ∙ x.lowered.columns in
      let m : s * w + (s + w) * w ≡ (2 * s + w) * w = omega arith in
      unscaled_all g ((2 * s + w) * w) made divisor_above (subst (λ n. Each (map (scale g) made) (Within n)) m (subst (λ (xs : List (List ℤ)). Each xs (Within (s * w + (s + w) * w))) e b))
