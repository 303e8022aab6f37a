-- what the elimination's answer means
use Rattle.std.proofs.Common.{◌≡◌, inl, inr, ℕ, zero, suc, ◌+◌, ◌*◌, ◌<◌, ◌≤◌, ℤ, pos, negsuc, ◌*ℤ◌, neg_ℤ, ◌<ℤ◌, unsigned_abs, List, [], ◌∷◌, ◌++◌, length, map, refl, sym, ap, ap₂, subst, ◌∙◌, arith, Some, None, Option, Result, Ok, Err, append-nil}
use Prim.Native.Nat.{◌∣◌}
use Rattle.std.proofs.lemmas.Int.{ints, unsigned_abs-mul}
use Rattle.std.proofs.lemmas.List.{length-map}
use Rattle.std.proofs.lemmas.Nat.Gcd.{le_of_dvd}
use Rattle.std.proofs.Math.Nat.{mul-dvd-mul_left}
use Rattle.int_vectors.specs.Vectors.{Each, dot, at, scale, IsOrthogonal, Independent}
use Rattle.wide_int.proofs.Order.{zero_product, sign_cases}
use Rattle.wide_int.specs.Divisors.{gcd_of}
use Rattle.int_vectors.specs.Contents.{content, primitive, DividesEach}
use Rattle.int_vectors.specs.RowSteps.{negated, cleaned}
use Rattle.reduced_rows.specs.Steps.{OfLength, signed, pick, steps, elimination}
use Rattle.reduced_rows.specs.Denominators.{kernel_of}
use Rattle.reduced_rows.specs.Spans.{InSpan, SameSpan, IsReduced, IsReducedOf, IsKernelOf}
use Rattle.int_vectors.proofs.EntryDivisors.{content_is, scale-primitive, primitive_small}
use Rattle.int_vectors.proofs.TakingOff.{other_case}
use Rattle.int_vectors.proofs.Entries.{zero_below, at-scale}
use Rattle.int_vectors.proofs.Each.{each_append}
use Rattle.reduced_rows.proofs.Picking.{pick_is, pick_left, zero_case, zero_or}
use Rattle.reduced_rows.proofs.CleaningAll.{signed_negative, signed_positive}
use Rattle.reduced_rows.proofs.Shape.{IsShaped, shape_step, each_map}
use Rattle.reduced_rows.proofs.Run.{steps_next, steps_none, shape_init}
use Rattle.reduced_rows.proofs.Combinations.{same_trans, same_self, each_weaken, span_orthogonal}
use Rattle.reduced_rows.proofs.SpanSteps.{primitive_span, step_span, each_concat}
use Rattle.reduced_rows.proofs.Orthogonal.{kernel_done, kernel_rest, kernel_other, kernel_long, dot_single}

-- gcds that are 0 or 1
abbrev IsSmall : List ℤ → Type 0
IsSmall row = content row ≤ 1

divides_times : (g d : ℕ) (xs : List ℤ) → DividesEach d xs → DividesEach (g * d) (scale (pos g) xs)
divides_times g d [] h = tt
divides_times g d (x ∷ xs) h = (subst (λ n. g * d ∣ n) (sym (unsigned_abs-mul (pos g) x)) (mul-dvd-mul_left d g h.0), divides_times g d xs h.1)

small_factor : (g d : ℕ) → 0 < g → g * d ≤ g → d ≤ 1
small_factor g zero p h = omega arith
small_factor g (suc zero) p h = omega arith
small_factor g (suc (suc d)) p h = absurd (step g d (g * d) p (omega (arith, h)))
  where
    step : (g d x : ℕ) → 0 < g → x + g + g ≤ g → ⊥
    step g d x p h = omega arith

pub small_primitive : (xs : List ℤ) → IsSmall (primitive xs)
small_primitive xs = by_content (content xs) refl
  where
    by_content : (n : ℕ) → content xs ≡ n → IsSmall (primitive xs)
    by_content zero e = let k = ap content (primitive_small xs (omega (arith, e))) in omega (arith, e, k)
    by_content (suc n) e =
        let g = content xs in
        let d = content (primitive xs) in
        let p : 0 < content xs = omega (arith, e) in
        let h = divides_times g d (primitive xs) (content_is (primitive xs)).0 in
        let k = (content_is xs).1 (g * d) (subst (DividesEach (g * d)) (scale-primitive xs) h) in
        small_factor g d p (le_of_dvd p k)

content_negated : (xs : List ℤ) → content (negated xs) ≡ content xs
unfolding content negated
content_negated [] = refl
content_negated (x ∷ xs) = ap₂ gcd_of (abs_neg x) (content_negated xs)
  where
    abs_neg : (x : ℤ) → unsigned_abs (neg_ℤ x) ≡ unsigned_abs x
    abs_neg (pos zero) = refl
    abs_neg (pos (suc n)) = refl
    abs_neg (negsuc n) = refl

pub small_signed : (k : ℕ) (row : List ℤ) → IsSmall row → IsSmall (signed k row)
small_signed k row h = sign_cases (at row k)
    (λ n. subst IsSmall (sym (signed_negative k row n)) (subst (λ c. c ≤ 1) (sym (content_negated row)) h))
    (λ z. subst IsSmall (sym (signed_positive k row (λ n. omega (arith, ints, z, n)))) h)
    (λ p. subst IsSmall (sym (signed_positive k row (λ n. omega (arith, ints, p, n)))) h)

small_cleaned : (k : ℕ) (y row : List ℤ) → IsSmall row → IsSmall (cleaned k y row)
unfolding cleaned
small_cleaned k y row h = zero_or (at row k)
    (λ z. subst IsSmall (sym (zero_case (at row k) _ _ z)) h)
    (λ n. subst IsSmall (sym (other_case (at row k) _ _ n)) (small_primitive _))

-- the answer of the steps on these rows
record Final (n width : ℕ) (given made : List (List ℤ)) : Type 0 where
  count : length made ≡ n
  long : OfLength width made
  span : SameSpan given made
  reduced : IsReduced n 0 made
  small : Each made IsSmall

abbrev Means : ℕ → ℕ → List (List ℤ) → Result (List (List ℤ)) (List ℤ) → Type 0
Means n width given (Ok made) = Final n width given made
Means n width given (Err kernel) = IsKernelOf n given kernel

orthogonal_to : (xs ys : List (List ℤ)) (v : List ℤ) → Each xs (InSpan ys) → IsOrthogonal ys v → IsOrthogonal xs v
orthogonal_to xs ys v s h = each_weaken (InSpan ys) (λ row. dot row v ≡ pos 0) xs (λ row t. span_orthogonal ys row v t h) s

carried : (n width : ℕ) (xs ys : List (List ℤ)) (r : Result (List (List ℤ)) (List ℤ)) → SameSpan xs ys → Means n width ys r → Means n width xs r
carried n width xs ys (Ok made) s m = record { count = m.count; long = m.long; span = same_trans xs ys made s m.span; reduced = m.reduced; small = m.small }
carried n width xs ys (Err kernel) s m = record { long = m.long; other = m.other; orthogonal = orthogonal_to xs ys kernel s.0 m.orthogonal }

nothing_left : (rest : List (List ℤ)) → length rest ≡ 0 → rest ≡ []
nothing_left [] e = refl
nothing_left (r ∷ rest) e = absurd (omega (arith, e))

pub small_all : (k : ℕ) (y : List ℤ) (rows : List (List ℤ)) → Each rows IsSmall → Each (map (cleaned k y) rows) IsSmall
small_all k y rows h = each_map IsSmall IsSmall (cleaned k y) rows (λ row s. small_cleaned k y row s) h

kernel_means : (m width k : ℕ) (done rest : List (List ℤ)) → IsShaped width k done rest → pick k rest ≡ None → IsKernelOf (k + suc m) (done ++ rest) (kernel_of k m done)
kernel_means m width k done rest s e = record {
  long = kernel_long k m done s.count;
  other = kernel_other k m done s.count s.reduced;
  orthogonal = each_concat (λ row. dot row (kernel_of k m done) ≡ pos 0) done rest (kernel_done k m done s.count s.reduced) (kernel_rest k m done rest s.count s.zero_rest (pick_left k rest e));
}

-- what the steps from one on mean, if those after it mean it
one_step : (m width k : ℕ) (done rest : List (List ℤ)) → IsShaped width k done rest → length rest ≡ suc m → Each done IsSmall → Each rest IsSmall
    → ((done' rest' : List (List ℤ)) → IsShaped width (suc k) done' rest' → length rest' ≡ m → Each done' IsSmall → Each rest' IsSmall → Means (suc k + m) width (done' ++ rest') (steps m (suc k) done' rest'))
    → (o : Option (List ℤ × List (List ℤ))) → pick k rest ≡ o → Means (k + suc m) width (done ++ rest) (steps (suc m) k done rest)
one_step m width k done rest s c a b h None e = subst (Means (k + suc m) width (done ++ rest)) (sym (steps_none m k done rest e)) (kernel_means m width k done rest s e)
one_step m width k done rest s c a b h (Some p) e =
    let x = p.0 in
    let others = p.1 in
    let y = signed k x in
    let t = pick_is k rest x others e in
    let q = t.split IsSmall b in
    let done' = map (cleaned k y) done ++ y ∷ [] in
    let rest' = map (cleaned k y) others in
    let n : suc k + m ≡ k + suc m = omega arith in
    let f = t.count in
    let m' = h done' rest' (shape_step width k done rest x others e s) (length-map others (cleaned k y) ∙ omega (arith, c, f))
    (each_append IsSmall (map (cleaned k y) done) (y ∷ []) (small_all k y done a) ((small_signed k x q.0), tt)) (small_all k y others q.1) in
    subst (λ i. Means i width (done ++ rest) (steps (suc m) k done rest)) n
    (subst (Means (suc k + m) width (done ++ rest)) (sym (steps_next m k done rest x others e))
    (carried (suc k + m) width (done ++ rest) (done' ++ rest') (steps m (suc k) done' rest') (step_span width k done rest x others e s.long_done s.long_rest) m'))

steps_mean : (m width k : ℕ) (done rest : List (List ℤ)) → IsShaped width k done rest → length rest ≡ m → Each done IsSmall → Each rest IsSmall → Means (k + m) width (done ++ rest) (steps m k done rest)
unfolding steps
steps_mean zero width k done rest s c a b =
    let n : k + 0 ≡ k = omega arith in
    let z = nothing_left rest c in
    rw n (record {
      count = s.count;
      long = s.long_done;
      span = subst (λ r. SameSpan (done ++ r) done) (sym z) (subst (λ d. SameSpan d done) (sym (append-nil done)) (same_self done));
      reduced = s.reduced;
      small = a;
    })
steps_mean (suc m) width k done rest s c a b = one_step m width k done rest s c a b (λ done' rest' s' c' a' b'. steps_mean m width (suc k) done' rest' s' c' a' b') (pick k rest) refl

elimination_means : (n width : ℕ) (given : List (List ℤ)) → length given ≡ n → OfLength width given → Means n width given (elimination n given)
unfolding elimination
elimination_means n width given c l =
    let rest = map primitive given in
    let m = steps_mean n width 0 [] rest (shape_init width given [] rest l refl refl) (length-map given primitive ∙ c) tt (each_map (λ row. length row ≡ width) IsSmall primitive given (λ row h. small_primitive row) l) in
    let z : 0 + n ≡ n = omega arith in
    carried n width given rest (steps n 0 [] rest) (primitive_span given) (subst (λ i. Means i width rest (steps n 0 [] rest)) z m)

-- a row with an entry other than zero and a small gcd has gcd 1
pub one_content : (row : List ℤ) (j : ℕ) → pos 0 <ℤ at row j → IsSmall row → content row ≡ 1
one_content row j p s = by_content (content row) refl
  where
    by_content : (c : ℕ) → content row ≡ c → content row ≡ 1
    by_content zero e = absurd (
        let z = sym (ap (λ r. at r j) (scale-primitive row)) ∙ at-scale (pos (content row)) (primitive row) j ∙ ap (λ n. pos n *ℤ at (primitive row) j) e in
        omega (arith, ints, z, p))
    by_content (suc c) e = omega (arith, e, s)

ones : (k j : ℕ) (rows : List (List ℤ)) → IsReduced k j rows → Each rows IsSmall → Each rows (λ row. content row ≡ 1)
ones k j [] r s = tt
ones k j (row ∷ rows) r s = (one_content row j r.0 s.0, ones k (suc j) rows r.2 s.1)

zero_entries : (n j : ℕ) (rows : List (List ℤ)) (v : List ℤ) → length v ≡ n → IsReduced n j rows → IsOrthogonal rows v → (i : ℕ) → i < length rows → at v (j + i) ≡ pos 0
zero_entries n j [] v l r h i lt = absurd (omega arith)
zero_entries n j (row ∷ rows) v l r h zero lt =
    let z = sym (dot_single row v j (λ e below ne. r.1 e (omega (arith, l)) ne)) ∙ h.0 in
    let e : j + 0 ≡ j = omega arith in
    rw e (elim (zero_product (at row j) (at v j) z) [ inl a ↦ absurd (let p = r.0 in omega (arith, ints, a, p)) | inr b ↦ b ])
zero_entries n j (row ∷ rows) v l r h (suc i) lt =
    let e : j + suc i ≡ suc j + i = omega arith in
    rw e (zero_entries n (suc j) rows v l r.2 h.1 i (omega arith))

independent_from : (n width : ℕ) (given made : List (List ℤ)) → Final n width given made → Independent n given
independent_from n width given made f v l h =
    let o = orthogonal_to made given v f.span.1 h in
    zero_below v (λ e lt. let c = f.count in let z : 0 + e ≡ e = omega arith in subst (λ i. at v i ≡ pos 0) z (zero_entries n 0 made v l f.reduced o e (omega (arith, l, c))))

-- Ok gives reduced rows, and the rows are independent
pub reduced_means : (n width : ℕ) (given made : List (List ℤ)) → length given ≡ n → OfLength width given → elimination n given ≡ Ok made → IsReducedOf n given made
reduced_means n width given made c l e =
    let f = subst (Means n width given) e (elimination_means n width given c l) in
    record {
      count = f.count;
      long = λ m h. (subst (Means n m given) e (elimination_means n m given c h)).long;
      span = f.span;
      reduced = f.reduced;
      primitive = ones n 0 made f.reduced f.small;
      independent = independent_from n width given made f;
    }

-- Err gives a kernel
pub kernel_means_it : (n width : ℕ) (given : List (List ℤ)) (kernel : List ℤ) → length given ≡ n → OfLength width given → elimination n given ≡ Err kernel → IsKernelOf n given kernel
kernel_means_it n width given kernel c l e = subst (Means n width given) e (elimination_means n width given c l)
