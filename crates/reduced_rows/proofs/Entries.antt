-- entries of the rows that a step makes
use Rattle.std.proofs.Common.{◌≡◌, ◌≢◌, inl, inr, ℕ, zero, suc, ℤ, pos, ◌*ℤ◌, ◌-ℤ◌, neg_ℤ, ◌<ℤ◌, List, [], ◌∷◌, length, refl, sym, ap, subst, ◌∙◌, arith}
use Rattle.std.proofs.lemmas.Int.{ints}
use Rattle.std.proofs.lemmas.List.{length-map}
use Rattle.wide_int.proofs.Order.{sign_cases, mul_pos_neg_ℤ, zero_product}
use Rattle.int_vectors.specs.RowSteps.{eliminated, negated, cleaned}
use Rattle.int_vectors.specs.Vectors.{at}
use Rattle.int_vectors.specs.Contents.{content, divided, primitive}
use Rattle.reduced_rows.specs.Steps.{signed}
use Rattle.int_vectors.proofs.EntryDivisors.{scale-primitive, primitive_small}
use Rattle.int_vectors.proofs.TakingOff.{other_case, length-eliminated}
use Rattle.int_vectors.proofs.Entries.{at-scale}
use Rattle.reduced_rows.proofs.Picking.{zero_case, zero_or}
use Rattle.reduced_rows.proofs.CleaningAll.{signed_negative, signed_positive}

pub at-eliminated : (p f : ℤ) (xs ys : List ℤ) (e : ℕ) → length xs ≡ length ys → at (eliminated p f xs ys) e ≡ p *ℤ at xs e -ℤ f *ℤ at ys e
unfolding eliminated
at-eliminated p f [] [] e h = omega (arith, ints)
at-eliminated p f [] (y ∷ ys) e h = absurd (omega arith)
at-eliminated p f (x ∷ xs) [] e h = absurd (omega arith)
at-eliminated p f (x ∷ xs) (y ∷ ys) zero h = refl
at-eliminated p f (x ∷ xs) (y ∷ ys) (suc e) h = at-eliminated p f xs ys e (omega arith)

pub at-negated : (xs : List ℤ) (e : ℕ) → at (negated xs) e ≡ neg_ℤ (at xs e)
unfolding negated
at-negated [] e = refl
at-negated (x ∷ xs) zero = refl
at-negated (x ∷ xs) (suc e) = at-negated xs e

-- ys times a positive number is xs
pub record Scaled (xs ys : List ℤ) : Type 0 where
  pub by : ℤ
  pub positive : pos 0 <ℤ by
  pub is : (e : ℕ) → by *ℤ at ys e ≡ at xs e

pub primitive_scaled : (xs : List ℤ) → Scaled xs (primitive xs)
primitive_scaled xs = by_content (content xs) refl
  where
    by_content : (n : ℕ) → content xs ≡ n → Scaled xs (primitive xs)
    by_content zero h = record {
      by = pos 1;
      positive = omega (arith, ints);
      is = λ e. let k = ap (λ r. at r e) (primitive_small xs (omega (arith, h))) in omega (arith, ints, k);
    }
    by_content (suc n) h = record {
      by = pos (content xs);
      positive = omega (arith, ints, h);
      is = λ e. sym (at-scale (pos (content xs)) (primitive xs) e) ∙ ap (λ r. at r e) (scale-primitive xs);
    }

pub length-primitive : (xs : List ℤ) → length (primitive xs) ≡ length xs
unfolding primitive divided
length-primitive xs = length-map xs _

length_negated : (xs : List ℤ) → length (negated xs) ≡ length xs
unfolding negated
length_negated xs = length-map xs neg_ℤ

pub length-signed : (k : ℕ) (xs : List ℤ) → length (signed k xs) ≡ length xs
length-signed k xs = sign_cases (at xs k)
    (λ n. ap length (signed_negative k xs n) ∙ length_negated xs)
    (λ z. ap length (signed_positive k xs (λ n. omega (arith, ints, z, n))))
    (λ p. ap length (signed_positive k xs (λ n. omega (arith, ints, p, n))))

-- zero and positive products
pub zero_factor : (g z : ℤ) → pos 0 <ℤ g → g *ℤ z ≡ pos 0 → z ≡ pos 0
zero_factor g z p e = elim (zero_product g z e) [ inl h ↦ absurd (omega (arith, ints)) | inr h ↦ h ]

pub positive_factor : (g z : ℤ) → pos 0 <ℤ g → pos 0 <ℤ (g *ℤ z) → pos 0 <ℤ z
positive_factor g z p h = sign_cases z
    (λ n. absurd (let k = mul_pos_neg_ℤ g z p n in omega (arith, ints, k, h)))
    (λ e. absurd (let k : g *ℤ z ≡ pos 0 = ap (λ x. g *ℤ x) e ∙ omega (arith, ints) in omega (arith, ints, k, h)))
    (λ q. q)

-- what clearing makes of a row: times by, it is the row times own less the pivot row times off
pub record Cleaning (k : ℕ) (y row made : List ℤ) : Type 0 where
  pub by : ℤ
  pub own : ℤ
  pub off : ℤ
  pub by_positive : pos 0 <ℤ by
  pub own_positive : pos 0 <ℤ own
  pub is : (e : ℕ) → by *ℤ at made e ≡ own *ℤ at row e -ℤ off *ℤ at y e
  pub clear : at made k ≡ pos 0
  pub long : length made ≡ length row

cleaning_kept : (k : ℕ) (y row : List ℤ) → at row k ≡ pos 0 → Cleaning k y row row
cleaning_kept k y row z = record {
  by = pos 1;
  own = pos 1;
  off = pos 0;
  by_positive = omega (arith, ints);
  own_positive = omega (arith, ints);
  is = λ e. omega (arith, ints);
  clear = z;
  long = refl;
}

cleaning_made : (k : ℕ) (y row : List ℤ) → length row ≡ length y → pos 0 <ℤ at y k → Cleaning k y row (primitive (eliminated (at y k) (at row k) row y))
cleaning_made k y row l p =
    let made = eliminated (at y k) (at row k) row y in
    let s = primitive_scaled made in
    let is : (e : ℕ) → s.by *ℤ at (primitive (eliminated (at y k) (at row k) row y)) e ≡ at y k *ℤ at row e -ℤ at row k *ℤ at y e =
    λ e. s.is e ∙ at-eliminated (at y k) (at row k) row y e l in
    record {
      by = s.by;
      own = at y k;
      off = at row k;
      by_positive = s.positive;
      own_positive = p;
      is = is;
      clear = zero_factor s.by _ s.positive (is k ∙ omega (arith, ints));
      long = length-primitive made ∙ length-eliminated (at y k) (at row k) row y l;
    }

pub cleaning : (k : ℕ) (y row : List ℤ) → length row ≡ length y → pos 0 <ℤ at y k → Cleaning k y row (cleaned k y row)
unfolding cleaned
cleaning k y row l p = zero_or (at row k)
    (λ z. subst (Cleaning k y row) (sym (zero_case (at row k) _ _ z)) (cleaning_kept k y row z))
    (λ n. subst (Cleaning k y row) (sym (other_case (at row k) _ _ n)) (cleaning_made k y row l p))

-- a row with its sign chosen is the row times 1 or -1
pub record Turned (k : ℕ) (row made : List ℤ) : Type 0 where
  pub by : ℤ
  pub unit : by *ℤ by ≡ pos 1
  pub is : (e : ℕ) → at made e ≡ by *ℤ at row e
  pub positive : pos 0 <ℤ at made k

pub turned : (k : ℕ) (row : List ℤ) → at row k ≢ pos 0 → Turned k row (signed k row)
turned k row n = sign_cases (at row k)
    (λ h. subst (Turned k row) (sym (signed_negative k row h)) (record {
      by = neg_ℤ (pos 1);
      unit = refl;
      is = λ e. at-negated row e ∙ omega (arith, ints);
      positive = let e = at-negated row k in omega (arith, ints, e, h);
    }))
    (λ z. absurd (n z))
    (λ p. subst (Turned k row) (sym (signed_positive k row (λ h. omega (arith, ints, p, h)))) (record {
      by = pos 1;
      unit = refl;
      is = λ e. omega (arith, ints);
      positive = p;
    }))
