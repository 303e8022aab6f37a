-- each step keeps the span
use Rattle.std.proofs.Common.{◌≡◌, ◌≢◌, ℕ, ℤ, pos, ◌*ℤ◌, ◌+ℤ◌, ◌-ℤ◌, neg_ℤ, ◌<ℤ◌, List, [], ◌∷◌, ◌++◌, length, map, sym, ap, ◌∙◌, arith, Some}
use Rattle.std.proofs.lemmas.Int.{ints}
use Rattle.int_vectors.specs.Vectors.{Each, at}
use Rattle.wide_int.proofs.Ring.{as_D, Ds, same_D}
use Rattle.int_vectors.specs.Contents.{primitive}
use Rattle.reduced_rows.specs.Steps.{OfLength, signed, pick}
use Rattle.int_vectors.specs.RowSteps.{cleaned}
use Rattle.int_vectors.proofs.Each.{each_both, each_append}
use Rattle.reduced_rows.specs.Spans.{InSpan, SameSpan}
use Rattle.reduced_rows.proofs.Picking.{Picked, pick_is}
use Rattle.reduced_rows.proofs.Entries.{primitive_scaled, Cleaning, cleaning, Turned, turned, length-signed}
use Rattle.reduced_rows.proofs.Shape.{each_map}
use Rattle.reduced_rows.proofs.Combinations.{spans_mix, spans_scaled, each_self}

pub each_concat : (P : List ℤ → Type 0) (xs ys : List (List ℤ)) → Each xs P → Each ys P → Each (xs ++ ys) P
each_concat P [] ys a b = b
each_concat P (x ∷ xs) ys a b = (a.0, each_concat P xs ys a.1 b)

pub each_parts : (P : List ℤ → Type 0) (xs ys : List (List ℤ)) → Each (xs ++ ys) P → Each xs P × Each ys P
each_parts P [] ys a = (tt, a)
each_parts P (x ∷ xs) ys a = let r = each_parts P xs ys a.1 in ((a.0, r.0), r.1)

each_unmap : (P Q R : List ℤ → Type 0) (f : List ℤ → List ℤ) (rows : List (List ℤ)) → ((row : List ℤ) → R row → Q (f row) → P row) → Each rows R → Each (map f rows) Q → Each rows P
each_unmap P Q R f [] h r a = tt
each_unmap P Q R f (row ∷ rows) h r a = (h row r.0 a.0, each_unmap P Q R f rows h r.1 a.1)

pub positive_other : (z : ℤ) → pos 0 <ℤ z → z ≢ pos 0
positive_other z p e = omega (arith, ints, p, e)

one_other : pos 1 ≢ pos 0
one_other e = omega (arith, ints, e)

primitive_to : (rows : List (List ℤ)) (row : List ℤ) → InSpan rows row → InSpan rows (primitive row)
primitive_to rows row s =
    let c = primitive_scaled row in
    spans_scaled rows (at row) (at (primitive row)) c.by (pos 1) (positive_other c.by c.positive) s (λ e. c.is e ∙ omega (arith, ints))

primitive_from : (rows : List (List ℤ)) (row : List ℤ) → InSpan rows (primitive row) → InSpan rows row
primitive_from rows row s =
    let c = primitive_scaled row in
    spans_scaled rows (at (primitive row)) (at row) (pos 1) c.by one_other s (λ e. step (at row e) _ (c.is e))
  where
    step : (x y : ℤ) → y ≡ x → pos 1 *ℤ x ≡ y
    step x y h = omega (arith, ints)

pub primitive_span : (rows : List (List ℤ)) → SameSpan rows (map primitive rows)
primitive_span rows = (
  each_unmap (InSpan (map primitive rows)) (InSpan (map primitive rows)) (InSpan rows) primitive rows (λ row r s. primitive_from (map primitive rows) row s) (each_self rows) (each_self (map primitive rows)),
  each_map (InSpan rows) (InSpan rows) primitive rows (λ row s. primitive_to rows row s) (each_self rows),
)

module _ (n k : ℕ) (done rest : List (List ℤ)) (x : List ℤ) (others : List (List ℤ)) (e : pick k rest ≡ Some (x, others)) (long_done : OfLength n done) (long_rest : OfLength n rest) where
  abbrev y : List ℤ
  y = signed k x

  abbrev before : List (List ℤ)
  before = done ++ rest

  abbrev after : List (List ℤ)
  after = (map (cleaned k y) done ++ y ∷ []) ++ map (cleaned k y) others

  picked : Picked k rest x others
  picked = pick_is k rest x others e

  turn : Turned k x y
  turn = turned k x picked.other

  long : (length x ≡ n) × OfLength n others
  long = picked.split (λ row. length row ≡ n) long_rest

  clean : (row : List ℤ) → length row ≡ n → Cleaning k y row (cleaned k y row)
  clean row l = cleaning k y row (l ∙ sym (length-signed k x ∙ long.0)) turn.positive

  clean_to : (rows : List (List ℤ)) (row : List ℤ) → InSpan rows y → length row ≡ n → InSpan rows row → InSpan rows (cleaned k y row)
  clean_to rows row t l s =
      let c = clean row l in
      spans_mix rows (at row) (at y) (at (cleaned k y row)) c.by c.own (neg_ℤ c.off) (positive_other c.by c.by_positive) s t (λ i. c.is i ∙ step c.own c.off (at row i) (at y i))
    where
      step : (p f u v : ℤ) → p *ℤ u -ℤ f *ℤ v ≡ p *ℤ u +ℤ neg_ℤ f *ℤ v
      step p f u v = rw (as_D p, as_D f, as_D u, as_D v) (simp Ds (same_D _ _ _ _ (omega arith)))

  clean_from : (rows : List (List ℤ)) (row : List ℤ) → InSpan rows y → length row ≡ n → InSpan rows (cleaned k y row) → InSpan rows row
  clean_from rows row t l s =
      let c = clean row l in
      spans_mix rows (at (cleaned k y row)) (at y) (at row) c.own c.by c.off (positive_other c.own c.own_positive) s t (λ i. step c.own c.off c.by (at row i) (at y i) (at (cleaned k y row) i) (c.is i))
    where
      step : (p f g u v w : ℤ) → g *ℤ w ≡ p *ℤ u -ℤ f *ℤ v → p *ℤ u ≡ g *ℤ w +ℤ f *ℤ v
      step p f g u v w h = omega (arith, ints)

  turn_to : (rows : List (List ℤ)) → InSpan rows x → InSpan rows y
  turn_to rows s = spans_scaled rows (at x) (at y) (pos 1) turn.by one_other s (λ i. step (at y i) _ (turn.is i))
    where
      step : (u v : ℤ) → u ≡ v → pos 1 *ℤ u ≡ v
      step u v h = omega (arith, ints)

  turn_from : (rows : List (List ℤ)) → InSpan rows y → InSpan rows x
  turn_from rows s = spans_scaled rows (at y) (at x) (pos 1) turn.by one_other s (λ i. step turn.by (at x i) (at y i) turn.unit (turn.is i))
    where
      assoc : (b u : ℤ) → b *ℤ (b *ℤ u) ≡ (b *ℤ b) *ℤ u
      assoc b u = rw (as_D b, as_D u) (simp Ds (same_D _ _ _ _ (omega arith)))

      step : (b u v : ℤ) → b *ℤ b ≡ pos 1 → v ≡ b *ℤ u → pos 1 *ℤ u ≡ b *ℤ v
      step b u v h i = sym (ap (λ z. b *ℤ z) i ∙ assoc b u ∙ ap (λ z. z *ℤ u) h)

  step_to : Each after (InSpan before)
  step_to =
      let p = each_parts (InSpan before) done rest (each_self before) in
      let q = picked.split (InSpan before) p.1 in
      let t = turn_to before q.0 in
      let made : (rows : List (List ℤ)) → OfLength n rows → Each rows (InSpan before) → Each (map (cleaned k y) rows) (InSpan before) =
      λ rows l s. each_map (λ row. (length row ≡ n) × InSpan before row) (InSpan before) (cleaned k y) rows (λ row h. clean_to before row t h.0 h.1) (each_both (λ row. length row ≡ n) (InSpan before) rows l s) in
      each_concat (InSpan before) (map (cleaned k y) done ++ y ∷ []) (map (cleaned k y) others)
      (each_append (InSpan before) (map (cleaned k y) done) (y ∷ []) (made done long_done p.0) (t, tt))
      (made others long.1 q.1)

  step_from : Each before (InSpan after)
  step_from =
      let p = each_parts (InSpan after) (map (cleaned k y) done ++ y ∷ []) (map (cleaned k y) others) (each_self after) in
      let q = each_parts (InSpan after) (map (cleaned k y) done) (y ∷ []) p.0 in
      let t = q.1.0 in
      let own : (rows : List (List ℤ)) → OfLength n rows → Each (map (cleaned k y) rows) (InSpan after) → Each rows (InSpan after) =
      λ rows l s. each_unmap (InSpan after) (InSpan after) (λ row. length row ≡ n) (cleaned k y) rows (λ row h i. clean_from after row t h i) l s in
      each_concat (InSpan after) done rest (own done long_done q.0) (picked.join (InSpan after) (turn_from after t) (own others long.1 p.1))

  pub step_span : SameSpan (done ++ rest) ((map (cleaned k (signed k x)) done ++ signed k x ∷ []) ++ map (cleaned k (signed k x)) others)
  step_span = (step_from, step_to)
