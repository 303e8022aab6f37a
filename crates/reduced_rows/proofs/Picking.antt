-- the row that is picked
use Rattle.std.proofs.Common.{◌≡◌, ◌≢◌, ℕ, zero, suc, ◌+◌, ◌<◌, ℤ, pos, List, [], ◌∷◌, ◌++◌, length, get_or, set, take, refl, sym, ap, subst, ◌∙◌, arith, Option, Some, None}
use Rattle.std.proofs.Math.IntN.{ℤ_discrete}
use Rattle.std.specs.List.{swap, remove}
use Rattle.std.proofs.lemmas.List.{take_more}
use Rattle.int_vectors.specs.Vectors.{Each, at}
use Rattle.reduced_rows.specs.Steps.{OfLength, kept, exchanged, pick}
use Rattle.int_vectors.specs.RowSteps.{if_zero}
use Rattle.int_vectors.proofs.TakingOff.{other_case}

pub zero_case : {A : Type 0} (z : ℤ) (a b : A) → z ≡ pos 0 → if_zero z a b ≡ a
zero_case z a b e = ap (λ x. if_zero x a b) e

not_none : {A : Type 0} {x : A} → ¬ (Some x ≡ None)
not_none e = subst (λ o. is_some_type o) e tt
  where
    is_some_type : {A : Type 0} → Option A → Type 0
    is_some_type None = ⊥
    is_some_type (Some x) = Unit {0}

kept_none : (y : List ℤ) (o : Option (List ℤ × List (List ℤ))) → kept y o ≡ None → o ≡ None
kept_none y None e = refl
kept_none y (Some p) e = absurd (not_none e)

abbrev pub ZeroAt : ℕ → List (List ℤ) → Type 0
ZeroAt k [] = Unit {0}
ZeroAt k (row ∷ rows) = (at row k ≡ pos 0) × ZeroAt k rows

zero-append : (k : ℕ) (row : List ℤ) (rows : List (List ℤ)) → ZeroAt k rows → at row k ≡ pos 0 → ZeroAt k (rows ++ row ∷ [])
zero-append k row [] h z = (z, tt)
zero-append k row (r ∷ rows) h z = (h.0, zero-append k row rows h.1 z)

pub zero_more : (k : ℕ) (rows : List (List ℤ)) (i : ℕ) (d : List ℤ) → i < length rows → ZeroAt k (take i rows) → at (get_or rows i d) k ≡ pos 0 → ZeroAt k (take (i + 1) rows)
zero_more k rows i d lt h z = rw (take_more rows i d lt) (zero-append k (get_or rows i d) (take i rows) h z)

exchanged_found : (k : ℕ) (x : List ℤ) (ys : List (List ℤ)) (i : ℕ) (d : List ℤ) → i < length ys → ZeroAt k (take i ys) → at (get_or ys i d) k ≢ pos 0
    → exchanged k x ys ≡ Some (get_or ys i d, set ys i x)
unfolding exchanged
exchanged_found k x [] i d lt h n = absurd (omega arith)
exchanged_found k x (y ∷ ys) zero d lt h n = other_case (at y k) _ _ n
exchanged_found k x (y ∷ ys) (suc i) d lt h n = rw (h.0, exchanged_found k x ys i d (omega arith) h.1 n) refl

exchanged_none : (k : ℕ) (x : List ℤ) (ys : List (List ℤ)) → ZeroAt k ys → exchanged k x ys ≡ None
unfolding exchanged
exchanged_none k x [] h = refl
exchanged_none k x (y ∷ ys) h = rw (h.0, exchanged_none k x ys h.1) refl

pub pick_none : (k : ℕ) (rows : List (List ℤ)) → ZeroAt k rows → pick k rows ≡ None
unfolding pick
pick_none k [] h = refl
pick_none k (x ∷ xs) h = rw (h.0) (exchanged_none k x xs h.1)

pub any_default : (rs : List (List ℤ)) (i : ℕ) (d e : List ℤ) → i < length rs → get_or rs i d ≡ get_or rs i e
any_default [] i d e h = absurd (omega arith)
any_default (r ∷ rs) zero d e h = refl
any_default (r ∷ rs) (suc i) d e h = any_default rs i d e (omega arith)

pub pick_found : (k : ℕ) (rows : List (List ℤ)) (i : ℕ) (d : List ℤ) → i < length rows → ZeroAt k (take i rows) → at (get_or rows i d) k ≢ pos 0
    → pick k rows ≡ Some (get_or rows i d, remove (swap rows 0 i) 0)
unfolding pick
pick_found k [] i d lt h n = absurd (omega arith)
pick_found k (x ∷ xs) zero d lt h n = other_case (at x k) _ _ n
pick_found k (x ∷ xs) (suc i) d lt h n = rw (h.0) (exchanged_found k x xs i d (omega arith) h.1 n)

pub swap_front : (rows : List (List ℤ)) (i : ℕ) (d : List ℤ) → i < length rows → get_or (swap rows 0 i) 0 d ≡ get_or rows i d
swap_front [] i d lt = absurd (omega arith)
swap_front (x ∷ xs) zero d lt = refl
swap_front (x ∷ xs) (suc i) d lt = any_default xs i x d (omega arith)

pub each_at : (P : List ℤ → Type 0) (rows : List (List ℤ)) (i : ℕ) (d : List ℤ) → i < length rows → Each rows P → P (get_or rows i d)
each_at P [] i d lt h = absurd (omega arith)
each_at P (x ∷ xs) zero d lt h = h.0
each_at P (x ∷ xs) (suc i) d lt h = each_at P xs i d (omega arith) h.1

-- what a picked row and the others are among the rows
pub record Picked (k : ℕ) (rows : List (List ℤ)) (y : List ℤ) (others : List (List ℤ)) : Type 1 where
  pub other : at y k ≢ pos 0
  pub count : length rows ≡ suc (length others)
  pub split : (P : List ℤ → Type 0) → Each rows P → P y × Each others P
  pub join : (P : List ℤ → Type 0) → P y → Each others P → Each rows P

abbrev IsPicked : ℕ → List (List ℤ) → Option (List ℤ × List (List ℤ)) → Type 1
IsPicked k rows None = Unit {1}
IsPicked k rows (Some p) = Picked k rows p.0 p.1

zero_cases : {P : Type 1} (z : ℤ) → (z ≡ pos 0 → P) → (z ≢ pos 0 → P) → P
zero_cases z f g = elim (ℤ_discrete z (pos 0)) [ yes e ↦ f e | no n ↦ g n ]

pub zero_or : {P : Type 0} (z : ℤ) → (z ≡ pos 0 → P) → (z ≢ pos 0 → P) → P
zero_or z f g = elim (ℤ_discrete z (pos 0)) [ yes e ↦ f e | no n ↦ g n ]

kept_is : (k : ℕ) (x y : List ℤ) (ys : List (List ℤ)) (o : Option (List ℤ × List (List ℤ))) → IsPicked k (x ∷ ys) o → IsPicked k (x ∷ y ∷ ys) (kept y o)
kept_is k x y ys None h = tt
kept_is k x y ys (Some p) h = record {
  other = h.other;
  count = ap suc h.count;
  split = λ P a. let s = h.split P (a.0, a.1.1) in (s.0, (a.1.0, s.1));
  join = λ P a b. let s = h.join P a b.1 in (s.0, (b.0, s.1));
}

exchanged_is : (k : ℕ) (x : List ℤ) (ys : List (List ℤ)) → IsPicked k (x ∷ ys) (exchanged k x ys)
unfolding exchanged
exchanged_is k x [] = tt
exchanged_is k x (y ∷ ys) = zero_cases (at y k)
    (λ z. subst (IsPicked k (x ∷ y ∷ ys)) (sym (zero_case (at y k) _ _ z)) (kept_is k x y ys (exchanged k x ys) (exchanged_is k x ys)))
    (λ n. subst (IsPicked k (x ∷ y ∷ ys)) (sym (other_case (at y k) _ _ n)) (record {
      other = n;
      count = refl;
      split = λ P a. (a.1.0, (a.0, a.1.1));
      join = λ P a b. (b.0, (a, b.1));
    }))

picks : (k : ℕ) (rows : List (List ℤ)) → IsPicked k rows (pick k rows)
unfolding pick
picks k [] = tt
picks k (x ∷ xs) = zero_cases (at x k)
    (λ z. subst (IsPicked k (x ∷ xs)) (sym (zero_case (at x k) _ _ z)) (exchanged_is k x xs))
    (λ n. subst (IsPicked k (x ∷ xs)) (sym (other_case (at x k) _ _ n)) (record { other = n; count = refl; split = λ P a. a; join = λ P a b. (a, b) }))

pub pick_is : (k : ℕ) (rows : List (List ℤ)) (y : List ℤ) (others : List (List ℤ)) → pick k rows ≡ Some (y, others) → Picked k rows y others
pick_is k rows y others e = subst (IsPicked k rows) e (picks k rows)

exchanged_left : (k : ℕ) (x : List ℤ) (ys : List (List ℤ)) → exchanged k x ys ≡ None → ZeroAt k ys
unfolding exchanged
exchanged_left k x [] e = tt
exchanged_left k x (y ∷ ys) e = zero_or (at y k)
    (λ z. (z, exchanged_left k x ys (kept_none y (exchanged k x ys) (sym (zero_case (at y k) _ _ z) ∙ e))))
    (λ n. absurd (not_none (sym (other_case (at y k) _ _ n) ∙ e)))

pub pick_left : (k : ℕ) (rows : List (List ℤ)) → pick k rows ≡ None → ZeroAt k rows
unfolding pick
pick_left k [] e = tt
pick_left k (x ∷ xs) e = zero_or (at x k)
    (λ z. (z, exchanged_left k x xs (sym (zero_case (at x k) _ _ z) ∙ e)))
    (λ n. absurd (not_none (sym (other_case (at x k) _ _ n) ∙ e)))

-- lengths of what is picked
pub picked_long : (n k : ℕ) (rows : List (List ℤ)) (y : List ℤ) (others : List (List ℤ)) → OfLength n rows → pick k rows ≡ Some (y, others) → (length y ≡ n) × OfLength n others
picked_long n k rows y others h e = (pick_is k rows y others e).split (λ row. length row ≡ n) h
