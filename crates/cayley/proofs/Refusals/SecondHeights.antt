-- second heights: their counts, and the first one out of its limits
use Rattle.std.proofs.Common.{◌≡◌, ℕ, suc, ◌+◌, ◌-◌, ◌<◌, ◌≤◌, List, [], ◌∷◌, length, map, arith, refl, ap, ap₂, sym, ◌∙◌, subst}
use Rattle.std.specs.Prelude.{ℤ, pos, unsigned_abs, slice_index_or}
use Rattle.std.specs.List.{All}
use Rattle.std.proofs.lemmas.List.{length-map}
use Rattle.int_vectors.specs.Vectors.{Each}
use Rattle.cayley.specs.Shapes.{IsFirst, IsOutsideHeight}
use Rattle.cayley.specs.Valid.{IsHeight}
use Rattle.int_vectors.proofs.Each.{each_all, all_each, each_map, each_unmap, map_at, same_read}
use Rattle.cayley.proofs.Refusals.FileFaults.{more_sound}
use Rattle.cayley.proofs.Refusals.Stable.{le_stable}

-- lists of one length that agree at each place
pub same_lists : (xs ys : List ℕ) → length ys ≡ length xs → ((k : ℕ) → k < length xs → slice_index_or xs k 0 ≡ slice_index_or ys k 0) → xs ≡ ys
same_lists [] [] l h = refl
same_lists [] (y ∷ ys) l h = absurd (omega (arith, l))
same_lists (x ∷ xs) [] l h = absurd (omega (arith, l))
same_lists (x ∷ xs) (y ∷ ys) l h = ap₂ (λ z zs. z ∷ zs) (h 0 (omega arith)) (same_lists xs ys (omega (arith, l)) (λ k m. h (suc k) (omega (arith, m))))

-- the list in place k, which counts from 0; those before it have no height out of its limits
module _ (second : List (List ℤ)) (k : ℕ) (before : (j q : ℕ) → 1 ≤ j → j ≤ k → ¬ (IsOutsideHeight second j q)) where
  module _ (heights : List ℤ) (is : heights ≡ slice_index_or second k []) where
    here : slice_index_or second (k + 1 - 1) [] ≡ heights
    here = let e : k + 1 - 1 ≡ k = omega arith in ap (λ n. slice_index_or second n []) e ∙ sym is

    out_here : (q : ℕ) → (1 ≤ q) × (q ≤ length heights) → ¬ (IsHeight (slice_index_or heights (q - 1) (pos 0))) → IsOutsideHeight second (k + 1) q
    out_here q p n = subst (λ (hs : List ℤ). ((1 ≤ q) × (q ≤ length hs)) × ¬ (IsHeight (slice_index_or hs (q - 1) (pos 0)))) (sym here) (p, n)

    here_out : (q : ℕ) → IsOutsideHeight second (k + 1) q → ((1 ≤ q) × (q ≤ length heights)) × ¬ (IsHeight (slice_index_or heights (q - 1) (pos 0)))
    here_out q h = subst (λ (hs : List ℤ). ((1 ≤ q) × (q ≤ length hs)) × ¬ (IsHeight (slice_index_or hs (q - 1) (pos 0)))) here h

    pub first_height : (q : ℕ) → q < length heights → ¬ (IsHeight (slice_index_or heights q (pos 0))) → ((j : ℕ) → j < q → IsHeight (slice_index_or heights j (pos 0)))
        → IsFirst (IsOutsideHeight second) (k + 1) (q + 1)
    first_height q l n within =
        let e : q ≡ q + 1 - 1 = omega arith in
        record {
          support = omega arith;
          has = out_here (q + 1) (omega arith, omega (arith, l)) (subst (λ (m : ℕ). ¬ (IsHeight (slice_index_or heights m (pos 0)))) e n);
          before = λ j p a b. before j p a (omega (arith, b));
          earlier = λ p a o. let r = here_out p o in let b = r.0.0 in r.1 (within (p - 1) (omega (arith, a, b)));
        }

    pub more_heights : Each heights IsHeight → (j q : ℕ) → 1 ≤ j → j ≤ k + 1 → ¬ (IsOutsideHeight second j q)
    more_heights h = more_sound (IsOutsideHeight second) (IsOutsideHeight second) k before
        (λ q o. let r = here_out q o in let a = r.0.0 in let b = r.0.1 in r.1 (all_each IsHeight heights h (q - 1) (pos 0) (omega (arith, a, b))))

  pub all_heights : length second ≤ k → Each second (λ heights. Each heights IsHeight)
  all_heights l = each_all (λ (heights : List ℤ). Each heights IsHeight) second (λ n d m. each_all IsHeight (slice_index_or second n d) (λ q e o.
      le_stable (unsigned_abs (slice_index_or (slice_index_or second n d) q e)) 1000000000 (λ f.
      let a : n ≡ n + 1 - 1 = omega arith in
      let b : q ≡ q + 1 - 1 = omega arith in
      let same : slice_index_or second n d ≡ slice_index_or second (n + 1 - 1) [] = same_read second n d [] m ∙ ap (λ i. slice_index_or second i []) a in
      let P : List ℤ → Type 0 = λ hs. ((1 ≤ q + 1) × (q + 1 ≤ length hs)) × ¬ (IsHeight (slice_index_or hs (q + 1 - 1) (pos 0))) in
      let z : slice_index_or (slice_index_or second n d) q e ≡ slice_index_or (slice_index_or second n d) (q + 1 - 1) (pos 0) =
      same_read (slice_index_or second n d) q e (pos 0) o ∙ ap (λ i. slice_index_or (slice_index_or second n d) i (pos 0)) b in
      before (n + 1) (q + 1) (omega arith) (omega (arith, l, m)) (subst P same ((omega arith, omega (arith, o)), (λ w. f (subst IsHeight (sym z) w)))))))

-- equal counts are equally small
module _ {A B : Type 0} (f : A → ℕ) (g : B → ℕ) (xs : List A) (ys : List B) (e : map f xs ≡ map g ys) where
  pub as_long : length xs ≡ length ys
  as_long = sym (length-map xs f) ∙ ap length e ∙ length-map ys g

  pub as_small : All (λ y. g y ≤ 1000) ys → All (λ x. f x ≤ 1000) xs
  as_small h = all_each _ xs (each_unmap f (λ n. n ≤ 1000) xs (subst (λ (l : List ℕ). Each l (λ n. n ≤ 1000)) (sym e) (each_map g (λ n. n ≤ 1000) ys (each_all _ ys h))))

  pub as_counted : (k : ℕ) (x : A) (y : B) → x ≡ slice_index_or xs k x → y ≡ slice_index_or ys k y → k < length ys → f x ≡ g y
  as_counted k x y a b l =
      let n = as_long in
      map_at f xs k x 0 a (omega (arith, l, n)) ∙ ap (λ (l : List ℕ). slice_index_or l k 0) e ∙ sym (map_at g ys k y 0 b l)
