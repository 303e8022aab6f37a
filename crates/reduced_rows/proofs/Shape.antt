-- the shape of the rows between two steps
use Rattle.std.proofs.Common.{◌≡◌, ◌⊎◌, inl, inr, ℕ, zero, suc, ◌+◌, ◌<◌, ℤ, pos, ◌*ℤ◌, ◌-ℤ◌, ◌<ℤ◌, List, [], ◌∷◌, ◌++◌, length, map, refl, sym, ap, subst, ◌∙◌, arith, Some}
use Rattle.std.proofs.lemmas.Int.{ints}
use Rattle.std.proofs.lemmas.List.{length-map}
use Rattle.int_vectors.specs.Vectors.{Each, at}
use Rattle.reduced_rows.specs.Steps.{OfLength, signed, pick}
use Rattle.int_vectors.specs.RowSteps.{cleaned}
use Rattle.int_vectors.proofs.Each.{each_both, each_append}
use Rattle.reduced_rows.specs.Spans.{IsReduced}
use Rattle.reduced_rows.proofs.Picking.{pick_is}
use Rattle.reduced_rows.proofs.Entries.{Cleaning, cleaning, Turned, turned, length-signed, zero_factor, positive_factor}
use Rattle.wide_int.proofs.Order.{mul_pos_ℤ}

abbrev pub ZeroBelow : ℕ → List ℤ → Type 0
ZeroBelow k row = (e : ℕ) → e < k → at row e ≡ pos 0

pub record IsShaped (n k : ℕ) (done rest : List (List ℤ)) : Type 0 where
  pub count : length done ≡ k
  pub long_done : OfLength n done
  pub long_rest : OfLength n rest
  pub reduced : IsReduced k 0 done
  pub zero_rest : Each rest (ZeroBelow k)

pub each_map : (P Q : List ℤ → Type 0) (f : List ℤ → List ℤ) (rows : List (List ℤ)) → ((row : List ℤ) → P row → Q (f row)) → Each rows P → Each (map f rows) Q
each_map P Q f [] h a = tt
each_map P Q f (row ∷ rows) h a = (h row a.0, each_map P Q f rows h a.1)

-- a cleared row is zero where the row and the pivot row are
clears : (k : ℕ) (y row made : List ℤ) → Cleaning k y row made → (e : ℕ) → at row e ≡ pos 0 → at y e ≡ pos 0 → at made e ≡ pos 0
clears k y row made c e a b = zero_factor c.by (at made e) c.by_positive (c.is e ∙ step c.own c.off (at row e) (at y e) a b)
  where
    step : (p f x z : ℤ) → x ≡ pos 0 → z ≡ pos 0 → p *ℤ x -ℤ f *ℤ z ≡ pos 0
    step p f x z a b = rw (a, b) (omega (arith, ints))

keeps : (k : ℕ) (y row made : List ℤ) → Cleaning k y row made → (e : ℕ) → pos 0 <ℤ at row e → at y e ≡ pos 0 → pos 0 <ℤ at made e
keeps k y row made c e a b =
    positive_factor c.by (at made e) c.by_positive (subst (λ z. pos 0 <ℤ z) (sym (c.is e ∙ step c.own c.off (at row e) (at y e) b)) (mul_pos_ℤ c.own (at row e) c.own_positive a))
  where
    step : (p f x z : ℤ) → z ≡ pos 0 → p *ℤ x -ℤ f *ℤ z ≡ p *ℤ x
    step p f x z b = rw b (omega (arith, ints))

pub next_place : (e k : ℕ) → e < suc k → (e < k) ⊎ (e ≡ k)
next_place zero zero h = inr refl
next_place zero (suc k) h = inl (omega arith)
next_place (suc e) zero h = absurd (omega arith)
next_place (suc e) (suc k) h = elim (next_place e k (omega arith)) [ inl a ↦ inl (omega arith) | inr b ↦ inr (ap suc b) ]

module _ (n k : ℕ) (y : List ℤ) (long : length y ≡ n) (pivot : pos 0 <ℤ at y k) (zero_y : ZeroBelow k y) where
  clean : (row : List ℤ) → length row ≡ n → Cleaning k y row (cleaned k y row)
  clean row l = cleaning k y row (l ∙ sym long) pivot

  zero_more : (row : List ℤ) → (length row ≡ n) × ZeroBelow k row → ZeroBelow (suc k) (cleaned k y row)
  zero_more row h e lt =
      let c = clean row h.0 in
      elim (next_place e k lt) [
        | inl a ↦ clears k y row (cleaned k y row) c e (h.1 e a) (zero_y e a)
        | inr b ↦ subst (λ m. at (cleaned k y row) m ≡ pos 0) (sym b) c.clear
      ]

  pub rest_more : (rows : List (List ℤ)) → OfLength n rows → Each rows (ZeroBelow k) → Each (map (cleaned k y) rows) (ZeroBelow (suc k))
  rest_more rows l h = each_map (λ row. (length row ≡ n) × ZeroBelow k row) (ZeroBelow (suc k)) (cleaned k y) rows zero_more (each_both (λ row. length row ≡ n) (ZeroBelow k) rows l h)

  pub long_more : (rows : List (List ℤ)) → OfLength n rows → OfLength n (map (cleaned k y) rows)
  long_more rows l = each_map (λ row. length row ≡ n) (λ row. length row ≡ n) (cleaned k y) rows (λ row h. (clean row h).long ∙ h) l

  pub reduced_more : (j : ℕ) (rows : List (List ℤ)) → j + length rows ≡ k → OfLength n rows → IsReduced k j rows → IsReduced (suc k) j (map (cleaned k y) rows ++ y ∷ [])
  reduced_more j [] e l h =
      let j_is : j ≡ k = omega arith in
      (subst (λ m. pos 0 <ℤ at y m) (sym j_is) pivot, (λ i lt ne. elim (next_place i k lt) [ inl a ↦ zero_y i a | inr b ↦ absurd (ne (b ∙ sym j_is)) ]), tt)
  reduced_more j (row ∷ rows) e l h =
      let c = clean row l.0 in
      let below : j < k = omega arith in (
        keeps k y row (cleaned k y row) c j h.0 (zero_y j below),
        (λ i lt ne. elim (next_place i k lt) [
          | inl a ↦ clears k y row (cleaned k y row) c i (h.1 i a ne) (zero_y i a)
          | inr b ↦ subst (λ m. at (cleaned k y row) m ≡ pos 0) (sym b) c.clear
        ]),
        reduced_more (suc j) rows (omega arith) l.1 h.2,
      )

turned_zero : (k : ℕ) (row made : List ℤ) → Turned k row made → ZeroBelow k row → ZeroBelow k made
turned_zero k row made t h e lt = t.is e ∙ ap (λ z. t.by *ℤ z) (h e lt) ∙ omega (arith, ints)

pub shape_step : (n k : ℕ) (done rest : List (List ℤ)) (x : List ℤ) (others : List (List ℤ)) → pick k rest ≡ Some (x, others) → IsShaped n k done rest
    → IsShaped n (suc k) (map (cleaned k (signed k x)) done ++ signed k x ∷ []) (map (cleaned k (signed k x)) others)
shape_step n k done rest x others e s =
    let p = pick_is k rest x others e in
    let t = turned k x p.other in
    let l = p.split (λ row. length row ≡ n) s.long_rest in
    let z = p.split (ZeroBelow k) s.zero_rest in
    let y = signed k x in
    let ly : length (signed k x) ≡ n = length-signed k x ∙ l.0 in
    let zy = turned_zero k x y t z.0 in
    record {
      count = count done (signed k x) s.count;
      long_done = each_append (λ row. length row ≡ n) (map (cleaned k y) done) (y ∷ []) (long_more n k y ly t.positive zy done s.long_done) (ly, tt);
      long_rest = long_more n k y ly t.positive zy others l.1;
      reduced = reduced_more n k y ly t.positive zy 0 done (let e = s.count in omega arith) s.long_done s.reduced;
      zero_rest = rest_more n k y ly t.positive zy others l.1 z.1;
    }
  where
    length_more : (rows : List (List ℤ)) (y : List ℤ) → length (rows ++ y ∷ []) ≡ suc (length rows)
    length_more [] y = refl
    length_more (r ∷ rows) y = ap suc (length_more rows y)

    count : (done : List (List ℤ)) (y : List ℤ) → length done ≡ k → length (map (cleaned k y) done ++ y ∷ []) ≡ suc k
    count done y e = length_more (map (cleaned k y) done) y ∙ ap suc (length-map done (cleaned k y) ∙ e)
