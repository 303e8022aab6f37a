-- the denominator over the greatest common divisor is the least scale
use Rattle.std.proofs.Common.{◌≡◌, ℕ, zero, suc, ◌*◌, ◌<◌, ◌≤◌, ◌<ℤ◌, ◌≤ℤ◌, List, [], ◌∷◌, ◌++◌, map, unsigned_abs, arith, refl, sym, ap, ap₂, subst, ◌∙◌}
use Rattle.std.proofs.lemmas.Int.{ints, unsigned_abs-mul}
use Rattle.std.proofs.Math.IntN.{ℤ, pos, negsuc, ◌*ℤ◌, *ℤ_comm}
use Rattle.std.proofs.Math.Nat.{dvd-mul_left, dvd-mul_right, dvd_of_mul-dvd-mul_left}
use Prim.Native.Nat.{◌∣◌}
use Rattle.std.proofs.lemmas.Nat.Gcd.{dvd-zero, le_of_dvd}
use Rattle.wide_int.proofs.CommonDivisors.{gcd_multiple}
use Rattle.wide_int.proofs.Order.{sign_cases, mul_pos_neg_ℤ}
use Rattle.wide_int.proofs.Ring.{as_D, Ds, same_D, mul_zero_ℤ}
use Rattle.wide_int.proofs.Signed.{positive_is}
use Rattle.int_vectors.specs.Contents.{content, IsContent}
use Rattle.int_vectors.specs.Vectors.{Each, scale}
use Rattle.int_vectors.proofs.EntryDivisors.{same_content}
use Rattle.cayley.specs.Problems.{Problem}
use Rattle.listing_text.specs.declared.listing.ListedCell.{ListedCell}
use Rattle.homotopy_rows.specs.Powers.{Row, ArePowers, HasLeastScale, MakesWhole, all_of, sums_of}

-- ---- multiples of all numbers
multiple_divides : (m d : ℕ) (xs : List ℤ) → 0 < m → Each xs (λ x. d ∣ m * unsigned_abs x) → d ∣ m * content xs
unfolding content
multiple_divides m d [] p e = subst (λ n. d ∣ n) (zero_times m) (dvd-zero d)
  where
    zero_times : (m : ℕ) → 0 ≡ m * 0
    zero_times m = omega arith
multiple_divides m d (x ∷ xs) p e = (gcd_multiple m (unsigned_abs x) (content xs) p).2 d e.0 (multiple_divides m d xs p e.1)

each_abs : (den : ℤ) (m : ℕ) (ws : List ℤ) → MakesWhole den ws (pos m) → Each ws (λ w. unsigned_abs den ∣ m * unsigned_abs w)
each_abs den m [] h = tt
each_abs den m (w ∷ ws) h = (subst (λ n. unsigned_abs den ∣ n) (unsigned_abs-mul (pos m) w) h.0, each_abs den m ws h.1)

-- ---- times the scale every number is a multiple of the denominator
all_scaled : (g : ℤ) (rows : List (List ℤ)) → all_of (map (scale g) rows) ≡ scale g (all_of rows)
all_scaled g [] = refl
all_scaled g (ws ∷ rows) = ap (λ us. scale g ws ++ us) (all_scaled g rows) ∙ sym (scale-both g ws (all_of rows))
  where
    scale-both : (g : ℤ) (xs ys : List ℤ) → scale g (xs ++ ys) ≡ scale g xs ++ scale g ys
    scale-both g [] ys = refl
    scale-both g (x ∷ xs) ys = ap (λ us. (g *ℤ x) ∷ us) (scale-both g xs ys)

turn : (g k q den : ℤ) → g *ℤ k ≡ den → k *ℤ (g *ℤ q) ≡ den *ℤ q
turn g k q den e = step g k q ∙ ap (λ z. z *ℤ q) e
  where
    step : (g k q : ℤ) → k *ℤ (g *ℤ q) ≡ g *ℤ k *ℤ q
    step g k q = rw (as_D g, as_D k, as_D q) (simp Ds (same_D _ _ _ _ (omega arith)))

makes_whole : (den g k : ℤ) (qs : List ℤ) → g *ℤ k ≡ den → MakesWhole den (scale g qs) k
makes_whole den g k [] e = tt
makes_whole den g k (q ∷ qs) e = (
  subst (λ n. unsigned_abs den ∣ n) (sym (ap unsigned_abs (turn g k q den e) ∙ unsigned_abs-mul den q)) (dvd-mul_right (unsigned_abs den) (unsigned_abs q)),
  makes_whole den g k qs e,
)

scaled : (den g k : ℤ) (qs : List ℤ) → g *ℤ k ≡ den → scale den qs ≡ scale k (scale g qs)
scaled den g k [] e = refl
scaled den g k (q ∷ qs) e = ap₂ (λ u us. u ∷ us) (sym (turn g k q den e)) (scaled den g k qs e)

all_turned : (den g k : ℤ) (rows : List (List ℤ)) → g *ℤ k ≡ den → map (scale den) rows ≡ map (scale k) (map (scale g) rows)
all_turned den g k [] e = refl
all_turned den g k (ws ∷ rows) e = ap₂ (λ u us. u ∷ us) (scaled den g k ws e) (all_turned den g k rows e)

-- ---- signs
scale_positive : (g : ℕ) (k den : ℤ) → pos 0 <ℤ den → pos g *ℤ k ≡ den → pos 0 <ℤ k
scale_positive zero k den p e = absurd (omega (arith, ints, p, e, none k))
  where
    none : (k : ℤ) → pos 0 *ℤ k ≡ pos 0
    none k = *ℤ_comm (pos 0) k ∙ mul_zero_ℤ k
scale_positive (suc g) k den p e = sign_cases k
    (λ n. absurd (let m = mul_pos_neg_ℤ (pos (suc g)) k (omega (arith, ints)) n in omega (arith, ints, m, e, p)))
    (λ z. absurd (let m = ap (λ x. pos (suc g) *ℤ x) z ∙ mul_zero_ℤ (pos (suc g)) in omega (arith, ints, m, e, p)))
    (λ h. h)

pub divisor_positive : (g : ℕ) (k den : ℤ) → pos 0 <ℤ den → pos g *ℤ k ≡ den → 0 < g
divisor_positive zero k den p e = absurd (let m = *ℤ_comm (pos 0) k ∙ mul_zero_ℤ k in omega (arith, ints, m, e, p))
divisor_positive (suc g) k den p e = omega arith

-- ---- no lesser scale will do
least_of : (den : ℤ) (ws : List ℤ) (g : ℕ) (k : ℤ) → pos 0 <ℤ den → IsContent (den ∷ ws) g → pos g *ℤ k ≡ den → pos 0 <ℤ k → (m : ℤ) → pos 0 <ℤ m → MakesWhole den ws m → k ≤ℤ m
least_of den ws g (negsuc k) p c e q m h w = absurd (omega (arith, ints, q))
least_of den ws g (pos k) p c e q (negsuc m) h w = absurd (omega (arith, ints, h))
least_of den ws g (pos k) p c e q (pos m) h w =
    let hm : 0 < m = omega (arith, ints, h) in
    let d = multiple_divides m (unsigned_abs den) (den ∷ ws) hm (dvd-mul_left (unsigned_abs den) m, each_abs den m ws w) in
    let same = same_content (den ∷ ws) g c in
    let size : g * k ≡ unsigned_abs den = sym (unsigned_abs-mul (pos g) (pos k)) ∙ ap unsigned_abs e in
    let f : g * k ∣ g * m = subst (λ n. n ∣ g * m) (sym size) (subst (λ n. unsigned_abs den ∣ n) (swap m g (content (den ∷ ws)) same) d) in
    let l : k ≤ m = le_of_dvd hm (dvd_of_mul-dvd-mul_left k (divisor_positive g (pos k) den p e) f) in
    omega (arith, ints, l)
  where
    swap : (m g c : ℕ) → g ≡ c → m * c ≡ g * m
    swap m g c e = ap (λ n. m * n) (sym e) ∙ comm m g
      where
        comm : (m g : ℕ) → m * g ≡ g * m
        comm m g = omega arith

pub least_scale : (p : Problem) (x : ListedCell) (r : Row) → pos 0 <ℤ x.normal.den → ArePowers p x r → HasLeastScale p x r
least_scale p x r h a =
    let g = a.divisor in
    let q = scale_positive g r.scale x.normal.den h a.whole in
    record {
      least = record {
        positive = q;
        whole = subst (λ ws. MakesWhole x.normal.den ws r.scale) (sym (all_scaled (pos g) r.powers) ∙ ap all_of a.each) (makes_whole x.normal.den (pos g) r.scale (all_of r.powers) a.whole);
        least = least_of x.normal.den (all_of (sums_of p x)) g r.scale h a.greatest a.whole q;
      };
      powers = all_turned x.normal.den (pos g) r.scale r.powers a.whole ∙ ap (map (scale r.scale)) a.each;
    }

-- ---- powers by their divisor
pub powers_made : (p : Problem) (x : ListedCell) (r : Row) (g : ℤ) (ws : List (List ℤ)) → r.cell ≡ x.cell → pos 0 <ℤ g → ws ≡ sums_of p x → IsContent (x.normal.den ∷ all_of ws) (unsigned_abs g)
    → g *ℤ r.scale ≡ x.normal.den → ws ≡ map (scale g) r.powers → ArePowers p x r
powers_made p x r g ws c h e i w m = record {
  same = c;
  divisor = unsigned_abs g;
  greatest = subst (λ (rs : List (List ℤ)). IsContent (x.normal.den ∷ all_of rs) (unsigned_abs g)) e i;
  whole = ap (λ z. z *ℤ r.scale) (positive_is g h) ∙ w;
  each = ap (λ z. map (scale z) r.powers) (positive_is g h) ∙ sym m ∙ e;
}
