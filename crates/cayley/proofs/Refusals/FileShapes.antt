-- the shape of a file, from the shape of the code's lists
use Rattle.std.proofs.Common.{◌≡◌, ℕ, ◌-◌, ◌<◌, ◌≤◌, List, [], ◌∷◌, length, map, arith, ◌∙◌, sym, Option, Some, None}
use Rattle.std.specs.Prelude.{ℤ, MatchOption, slice_index_or}
use Rattle.std.specs.Option.{option_map}
use Rattle.std.specs.List.{All}
use Rattle.std.proofs.lemmas.List.{length-map}
use Rattle.int_vectors.specs.Vectors.{Each}
use Rattle.cayley.specs.declared.points.FilePoint.{FilePoint as StoredFilePoint}
use Rattle.cayley.specs.Files.{FilePoint, File}
use Rattle.cayley.specs.Problems.{Version}
use Rattle.cayley.specs.Stored.{file_point, file_of}
use Rattle.cayley.specs.Valid.{HasFileShape}
use Rattle.int_vectors.proofs.Each.{each_all, all_each, each_map, each_unmap, each_weaker, map_map}

module _ {X Y Z : Type 0} (items : X → List StoredFilePoint) (numbers : Y → List ℤ) (lists : Z → List Y) where
  abbrev pub HasPoints : ℕ → X → Type 0
  HasPoints dim s = (1 ≤ length (items s)) × (length (items s) ≤ 1000) × All (λ (x : StoredFilePoint). length x.coords ≡ dim) (items s)

  abbrev pub HasSupports : ℕ → List X → Type 0
  HasSupports dim supports = (1 ≤ dim) × (dim ≤ 16) × (length supports ≡ dim) × All (HasPoints dim) supports

  abbrev pub HasStarts : ℕ → Option Z → Type 0
  HasStarts dim starts = MatchOption starts (Unit {0}) (λ ss. (length (lists ss) ≡ dim) × All (λ s. length (numbers s) ≡ dim - 1) (lists ss))

  abbrev pub given : Version → ℕ → List X → Option Z → File
  given version dim supports starts = file_of version dim (map items supports) (option_map (λ ss. map numbers (lists ss)) starts)

  starts_from : (dim : ℕ) (starts : Option Z) → HasStarts dim starts
      → MatchOption (option_map (λ ss. map numbers (lists ss)) starts) (Unit {0}) (λ ss. (length ss ≡ dim) × Each ss (λ s. length s ≡ dim - 1))
  starts_from dim None h = tt
  starts_from dim (Some ss) h = (length-map (lists ss) numbers ∙ h.0, each_map numbers _ (lists ss) (each_all _ (lists ss) h.1))

  starts_to : (dim : ℕ) (starts : Option Z)
      → MatchOption (option_map (λ ss. map numbers (lists ss)) starts) (Unit {0}) (λ ss. (length ss ≡ dim) × Each ss (λ s. length s ≡ dim - 1)) → HasStarts dim starts
  starts_to dim None h = tt
  starts_to dim (Some ss) h = (sym (length-map (lists ss) numbers) ∙ h.0, all_each _ (lists ss) (each_unmap numbers _ (lists ss) h.1))

  pub shape_from : (version : Version) (dim : ℕ) (supports : List X) (starts : Option Z) → HasSupports dim supports → HasStarts dim starts → HasFileShape (given version dim supports starts)
  shape_from version dim supports starts h k =
      let each = each_all _ supports h.3 in
      record {
        dimension = (h.0, h.1);
        supports = length-map (map items supports) (map file_point) ∙ length-map supports items ∙ h.2;
        counts = each_map (map file_point) _ (map items supports) (each_map items _ supports
            (each_weaker (HasPoints dim) _ supports (λ s q. let e = length-map (items s) file_point in let l = q.0 in let m = q.1 in (omega arith, omega arith)) each));
        points = each_map (map file_point) _ (map items supports) (each_map items _ supports
            (each_weaker (HasPoints dim) _ supports (λ s q. each_map file_point _ (items s) (each_all _ (items s) q.2)) each));
        starts = starts_from dim starts k;
      }

  pub shape_to : (version : Version) (dim : ℕ) (supports : List X) (starts : Option Z) → HasFileShape (given version dim supports starts) → HasSupports dim supports × HasStarts dim starts
  shape_to version dim supports starts h =
      let long = sym (length-map supports items) ∙ sym (length-map (map items supports) (map file_point)) ∙ h.supports in
      let counts = each_unmap items _ supports (each_unmap (map file_point) _ (map items supports) h.counts) in
      let points = each_unmap items _ supports (each_unmap (map file_point) _ (map items supports) h.points) in
      ((h.dimension.0, h.dimension.1, long, all_each _ supports (both supports counts points)), starts_to dim starts h.starts)
    where
      both : (ss : List X) → Each ss (λ s. (1 ≤ length (map file_point (items s))) × (length (map file_point (items s)) ≤ 1000))
          → Each ss (λ s. Each (map file_point (items s)) (λ (x : FilePoint). length x.coordinates ≡ dim)) → Each ss (HasPoints dim)
      both [] p q = tt
      both (s ∷ ss) p q =
          let e = length-map (items s) file_point in let l = p.0.0 in let m = p.0.1 in
          ((omega arith, omega arith, all_each _ (items s) (each_unmap file_point _ (items s) q.0)), both ss p.1 q.1)

  pub few_points : (version : Version) (dim : ℕ) (supports : List X) (starts : Option Z) → HasFileShape (given version dim supports starts) → (k : ℕ) (d : X) → k < length supports → length (items (slice_index_or supports k d)) ≤ 1000
  few_points version dim supports starts h k d l = ((shape_to version dim supports starts h).0.3 k d l).1

  pub few_starts : (version : Version) (dim : ℕ) (supports : List X) (starts : Option Z) → HasFileShape (given version dim supports starts) → MatchOption starts (Unit {0}) (λ ss. length (lists ss) ≤ 16)
  few_starts version dim supports None h = tt
  few_starts version dim supports (Some ss) h = let r = shape_to version dim supports (Some ss) h in let a = r.0.1 in let b = r.1.0 in omega arith

  pub same_points : (version : Version) (dim : ℕ) (supports : List X) (starts : Option Z) → map (λ s. map file_point (items s)) supports ≡ (given version dim supports starts).supports
  same_points version dim supports starts = sym (map_map (map file_point) items supports)
