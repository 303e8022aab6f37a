-- How many points each support of a file has.
use Rattle.std.proofs.Common.{◌≡◌, ℕ, ◌≤◌, ◌∙◌, List, [], ◌∷◌, map, length, Result, Ok, Err, refl, sym, ap, subst}
use Rattle.std.specs.Prelude.{IfOk, All}
use Rattle.std.specs.Global.{Vec}
use Rattle.std.proofs.lemmas.List.{length-map}
use Rattle.int_vectors.specs.Vectors.{Each}
use Rattle.cayley.specs.declared.points.FilePoint.{FilePoint as StoredFilePoint}
use Rattle.cayley.specs.Files.{FilePoint}
use Rattle.cayley.specs.Stored.{file_point}
use Rattle.int_vectors.proofs.Each.{all_each}

abbrev IsCount : ℕ → Type 0
IsCount m = (1 ≤ m) × (m ≤ 1000)

lengths_are : (ss : List (Vec StoredFilePoint)) → map (λ (s : Vec StoredFilePoint). length s.items) ss ≡ map length (map (λ (s : Vec StoredFilePoint). map file_point s.items) ss)
lengths_are [] = refl
lengths_are (s ∷ ss) =
    let first : length s.items ≡ length (map file_point s.items) = sym (simp length-map refl) in
    ap (λ (k : ℕ). k ∷ map (λ (t : Vec StoredFilePoint). length t.items) ss) first ∙ ap (λ (l : List ℕ). length (map file_point s.items) ∷ l) (lengths_are ss)

pub counts_are : {E : Type 0} (r : Result (Vec ℕ) E) (ss : List (Vec StoredFilePoint)) (supports : List (List FilePoint)) → map (λ (s : Vec StoredFilePoint). map file_point s.items) ss ≡ supports
    → IfOk r (λ counts. counts.items ≡ map (λ (s : Vec StoredFilePoint). length s.items) ss) → IfOk r (λ counts. counts.items ≡ map length supports)
counts_are (Ok v) ss supports e h = h ∙ lengths_are ss ∙ ap (map length) e
counts_are (Err x) ss supports e h = tt

each_count : (ss : List (List FilePoint)) → Each ss (λ s. (1 ≤ length s) × (length s ≤ 1000)) → Each (map length ss) IsCount
each_count [] h = tt
each_count (s ∷ ss) h = (h.0, each_count ss h.1)

pub counts_within : {E : Type 0} (r : Result (Vec ℕ) E) (supports : List (List FilePoint)) → Each supports (λ s. (1 ≤ length s) × (length s ≤ 1000)) → IfOk r (λ counts. counts.items ≡ map length supports)
    → IfOk r (λ counts. All (λ m. (1 ≤ m) × (m ≤ 1000)) counts.items)
counts_within (Ok v) supports each h = subst (λ (l : List ℕ). All IsCount l) (sym h) (all_each IsCount (map length supports) (each_count supports each))
counts_within (Err x) supports each h = tt
