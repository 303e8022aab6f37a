-- the faults of one support of a problem: of its file points, then of its corners
use Rattle.std.proofs.Common.{◌≡◌, ℕ, ◌+◌, ◌-◌, ◌<◌, ◌≤◌, List, length, map, take, drop, arith, refl, ap, sym, ◌∙◌, subst, inl, inr, length-take-le, length-drop}
use Rattle.std.specs.Prelude.{pos, ◌+ℤ◌, slice_index_or}
use Rattle.std.proofs.lemmas.Int.{ints}
use Rattle.std.proofs.lemmas.Bool.{cases_lt}
use Rattle.std.proofs.lemmas.List.{length-map}
use Rattle.int_vectors.specs.Vectors.{Each}
use Rattle.cayley.specs.declared.faults.ShapeFault.{ShapeFault}
use Rattle.cayley.specs.declared.faults.ShapeFault.TheVariants.{BadShape, Repeated, Range, StartRange, OutOfMemory}
use Rattle.cayley.specs.Files.{FilePoint}
use Rattle.cayley.specs.Problems.{Point, origin, point_at}
use Rattle.cayley.specs.Shapes.{IsRepeat, IsOutside, IsFaulty, IsOutsideOf, IsFaultyOf, IsFirstCorner, IsSupportFault, file_point_at}
use Rattle.cayley.specs.Stored.{held}
use Rattle.cayley.specs.Valid.{IsHeight, IsWithinFile, IsWithinProblem, IsWithinCorners}
use Rattle.int_vectors.proofs.Each.{all_each, map_at, map_map, read_take, read_drop, same_read}

module _ (f : ℕ) (s : List Point) (long : f ≤ length s) (rest : Each (take f s) (λ (x : Point). x.speed ≡ pos 0)) where
  abbrev pub files : List FilePoint
  files = map held (take f s)

  count : length files ≡ f
  count = length-map (take f s) held ∙ length-take-le f s long

  at_file : (q : ℕ) → 1 ≤ q → q ≤ f → file_point_at files q ≡ held (point_at s q)
  at_file q a b =
      let k : q - 1 < f = omega arith in
      let l = length-take-le f s long in
      sym (map_at held (take f s) (q - 1) (slice_index_or s (q - 1) origin) (held origin)
      (sym (same s (take f s) (q - 1) (read_take s f (q - 1) origin k) (read_take s f (q - 1) (slice_index_or s (q - 1) origin) k) (omega arith))) (omega arith))
    where
      same : (s t : List Point) (k : ℕ) → slice_index_or t k origin ≡ slice_index_or s k origin → slice_index_or t k (slice_index_or s k origin) ≡ slice_index_or s k (slice_index_or s k origin)
          → k < length s → slice_index_or t k (slice_index_or s k origin) ≡ slice_index_or s k origin
      same s t k e g l = g ∙ same_read s k (slice_index_or s k origin) origin l

  coordinates : map (λ (x : FilePoint). x.coordinates) files ≡ map (λ (x : Point). x.coordinates) (take f s)
  coordinates = map_map (λ (x : FilePoint). x.coordinates) held (take f s)

  -- a point that rests has one height
  within_held : (q : ℕ) → 1 ≤ q → q ≤ f → IsWithinFile (held (point_at s q)) → IsWithinProblem (point_at s q)
  within_held q a b w =
      let l = length-take-le f s long in
      let r = all_each (λ (x : Point). x.speed ≡ pos 0) (take f s) rest (q - 1) origin (omega arith) in
      let e = read_take s f (q - 1) origin (omega arith) in
      let z : (point_at s q).speed ≡ pos 0 = ap (λ (x : Point). x.speed) (sym e) ∙ r in
      let h : (point_at s q).base ≡ (point_at s q).base +ℤ (point_at s q).speed = omega (arith, ints, z) in
      (w.0, w.1, subst IsHeight h w.1)

  out_to : (q : ℕ) → IsOutside files q → IsOutsideOf f s q
  out_to q o =
      let a = o.0.0 in
      let b : q ≤ f = (let m = o.0.1 in omega (arith, count)) in
      inl (a, b, (λ w. o.1 (subst IsWithinFile (sym (at_file q a b)) (w.0, w.1))))

  out_from : (q : ℕ) → q ≤ f → IsOutsideOf f s q → IsOutside files q
  out_from q b (inl o) = ((o.0, (let m = o.1 in omega (arith, count))), (λ w. o.2 (within_held q o.0 b (subst IsWithinFile (at_file q o.0 b) w))))
  out_from q b (inr o) = absurd (let a = o.0 in omega arith)

  faulty_to : (q : ℕ) → IsFaulty files q → IsFaultyOf f s q
  faulty_to q (inl o) = inl (out_to q o)
  faulty_to q (inr r) = inr (subst (λ lists. IsRepeat lists q) coordinates r)

  faulty_from : (q : ℕ) → q ≤ f → IsFaultyOf f s q → IsFaulty files q
  faulty_from q b (inl o) = inl (out_from q b o)
  faulty_from q b (inr r) = inr (subst (λ lists. IsRepeat lists q) (sym coordinates) r)

  in_files : (q : ℕ) → IsFaulty files q → q ≤ f
  in_files q (inl o) = let m = o.0.1 in omega (arith, count)
  in_files q (inr r) = let m = r.0.1 in omega (arith, count, length-map files (λ (x : FilePoint). x.coordinates))

  -- the first fault of the file points is that of the support
  pub carried : (i : ℕ) (e : ShapeFault) → IsSupportFault i (IsFaulty files) (IsOutside files) e → IsSupportFault i (IsFaultyOf f s) (IsOutsideOf f s) e
  carried i BadShape h = absurd h
  carried i (Repeated j p) h =
      let l = in_files p h.1 in
      (h.0, faulty_to p h.1, (λ q m k. h.2 q m (faulty_from q (omega arith) k)), (λ o. h.3 (out_from p l o)))
  carried i (Range j p) h =
      let l = in_files p h.1 in
      (h.0, faulty_to p h.1, (λ q m k. h.2 q m (faulty_from q (omega arith) k)), out_to p h.3)
  carried i (StartRange j) h = absurd h
  carried i OutOfMemory h = tt

  -- past the file points only a corner has a fault
  module _ (sound : (q : ℕ) → ¬ (IsFaulty files q)) where
    at_corner : (q k : ℕ) → f + k + 1 ≡ q → point_at s q ≡ slice_index_or (drop f s) k origin
    at_corner q k e = sym (read_drop s f k (q - 1) origin (omega arith))

    faulty_corner : (q : ℕ) → IsFaultyOf f s q → (k : ℕ) × (f + k + 1 ≡ q) × (q ≤ length s) × ¬ (IsWithinCorners (point_at s q))
    faulty_corner q h = elim (cases_lt f q) [
      | inl p ↦ by h p
      | inr p ↦ absurd (sound q (faulty_from q p h))
    ]
      where
        by : IsFaultyOf f s q → f < q → (k : ℕ) × (f + k + 1 ≡ q) × (q ≤ length s) × ¬ (IsWithinCorners (point_at s q))
        by (inl (inl o)) p = absurd (let b = o.1 in omega arith)
        by (inl (inr o)) p = (q - f - 1, omega arith, o.1, o.2)
        by (inr r) p = absurd (let m = r.0.1 in omega (arith, length-map (take f s) (λ (x : Point). x.coordinates), length-take-le f s long))

    pub corner_fault : (k : ℕ) → IsFirstCorner (drop f s) k → IsFaultyOf f s (f + k + 1) × ((q : ℕ) → q < f + k + 1 → ¬ (IsFaultyOf f s q)) × IsOutsideOf f s (f + k + 1)
    corner_fault k h =
        let l = h.0 in
        let d = length-drop f s in
        let out : IsOutsideOf f s (f + k + 1) = inr (omega arith, omega arith, (λ w. h.1 (subst IsWithinCorners (at_corner (f + k + 1) k refl) w))) in (
          inl out,
          (λ q m g. let r = faulty_corner q g in r.3 (subst IsWithinCorners (sym (at_corner q r.0 r.1)) (h.2 r.0 (let e = r.1 in omega arith)))),
          out,
        )

    pub no_fault : Each (drop f s) IsWithinCorners → (q : ℕ) → ¬ (IsFaultyOf f s q)
    no_fault h q g =
        let r = faulty_corner q g in
        let e = r.1 in
        let m = r.2 in
        let d = length-drop f s in
        r.3 (subst IsWithinCorners (sym (at_corner q r.0 r.1)) (all_each IsWithinCorners (drop f s) h r.0 origin (omega arith)))
