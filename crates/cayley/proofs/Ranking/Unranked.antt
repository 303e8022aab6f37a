-- supports that are given ranks: their points stay, and the ranks that they had before don't matter
use Rattle.std.proofs.Common.{◌≡◌, ℕ, suc, ◌+◌, ◌-◌, Bool, true, false, if◌then◌else◌, List, [], ◌∷◌, map, refl, ap, ap₂, sym, ◌∙◌}
use Rattle.std.specs.Prelude.{min}
use Rattle.std.proofs.lemmas.List.{length-map}
use Rattle.cayley.specs.Problems.{Version, Point, with_rank, is_start_corner, numbered, ranks_in, numbered_supports, ranked_supports}
use Rattle.cayley.specs.Problems.Version.{version1, version2}
use Rattle.cayley.proofs.Ranking.Unperturbed.{unranked}

pub unranked_twice : (s : List Point) → unranked (unranked s) ≡ unranked s
unranked_twice [] = refl
unranked_twice (x ∷ s) = ap (λ (ys : List Point). with_rank 0 x ∷ ys) (unranked_twice s)

pub all_unranked_twice : (ss : List (List Point)) → map unranked (map unranked ss) ≡ map unranked ss
all_unranked_twice [] = refl
all_unranked_twice (s ∷ ss) = ap₂ (λ x xs. x ∷ xs) (unranked_twice s) (all_unranked_twice ss)

-- the points of a support with ranks
either_unranked : (b : Bool) (x y z : Point) (xs ys zs : List Point) → with_rank 0 y ≡ with_rank 0 x → with_rank 0 z ≡ with_rank 0 x → unranked ys ≡ unranked xs → unranked zs ≡ unranked xs
    → unranked (if b then y ∷ ys else z ∷ zs) ≡ unranked (x ∷ xs)
either_unranked true x y z xs ys zs e d h g = ap₂ (λ (p : Point) ps. p ∷ ps) e h
either_unranked false x y z xs ys zs e d h g = ap₂ (λ (p : Point) ps. p ∷ ps) d g

pub unranked_numbered : (i f position r : ℕ) (xs : List Point) → unranked (numbered i f position r xs) ≡ unranked xs
unranked_numbered i f position r [] = refl
unranked_numbered i f position r (x ∷ xs) =
    either_unranked (is_start_corner i f position) x (with_rank 0 x) (with_rank r x) xs (numbered i f (suc position) r xs) (numbered i f (suc position) (suc r) xs) refl refl
    (unranked_numbered i f (suc position) r xs) (unranked_numbered i f (suc position) (suc r) xs)

pub unranked_supports : (i r : ℕ) (fs : List ℕ) (ss : List (List Point)) → map unranked (numbered_supports i r fs ss) ≡ map unranked ss
unranked_supports i r [] [] = refl
unranked_supports i r (f ∷ fs) [] = refl
unranked_supports i r [] (s ∷ ss) = ap₂ (λ x xs. x ∷ xs) (unranked_numbered i 0 1 r s) (unranked_supports (suc i) (r + ranks_in 0 s) [] ss)
unranked_supports i r (f ∷ fs) (s ∷ ss) = ap₂ (λ x xs. x ∷ xs) (unranked_numbered i f 1 r s) (unranked_supports (suc i) (r + ranks_in f s) fs ss)

pub unranked_ranked : (version : Version) (fs : List ℕ) (ss : List (List Point)) → map unranked (ranked_supports version fs ss) ≡ map unranked ss
unranked_ranked version1 fs ss = all_unranked_twice ss
unranked_ranked version2 fs ss = unranked_supports 1 1 fs ss

-- the ranks that the points had
either_same : (b : Bool) (x y : Point) (xs ys zs ws : List Point) → xs ≡ zs → ys ≡ ws → (if b then x ∷ xs else y ∷ ys) ≡ (if b then x ∷ zs else y ∷ ws)
either_same true x y xs ys zs ws h g = ap (λ ps. x ∷ ps) h
either_same false x y xs ys zs ws h g = ap (λ ps. y ∷ ps) g

numbered_unranked : (i f position r : ℕ) (xs : List Point) → numbered i f position r (unranked xs) ≡ numbered i f position r xs
numbered_unranked i f position r [] = refl
numbered_unranked i f position r (x ∷ xs) =
    either_same (is_start_corner i f position) (with_rank 0 x) (with_rank r x) (numbered i f (suc position) r (unranked xs)) (numbered i f (suc position) (suc r) (unranked xs))
    (numbered i f (suc position) r xs) (numbered i f (suc position) (suc r) xs)
    (numbered_unranked i f (suc position) r xs) (numbered_unranked i f (suc position) (suc r) xs)

ranks_in_unranked : (f : ℕ) (s : List Point) → ranks_in f (unranked s) ≡ ranks_in f s
ranks_in_unranked f s = ap (λ n. n - min 2 (n - f)) (length-map s (with_rank 0))

supports_unranked : (i r : ℕ) (fs : List ℕ) (ss : List (List Point)) → numbered_supports i r fs (map unranked ss) ≡ numbered_supports i r fs ss
supports_unranked i r [] [] = refl
supports_unranked i r (f ∷ fs) [] = refl
supports_unranked i r [] (s ∷ ss) =
    ap₂ (λ x xs. x ∷ xs) (numbered_unranked i 0 1 r s)
    (ap (λ n. numbered_supports (suc i) (r + n) [] (map unranked ss)) (ranks_in_unranked 0 s) ∙ supports_unranked (suc i) (r + ranks_in 0 s) [] ss)
supports_unranked i r (f ∷ fs) (s ∷ ss) =
    ap₂ (λ x xs. x ∷ xs) (numbered_unranked i f 1 r s)
    (ap (λ n. numbered_supports (suc i) (r + n) fs (map unranked ss)) (ranks_in_unranked f s) ∙ supports_unranked (suc i) (r + ranks_in f s) fs ss)

ranked_unranked : (version : Version) (fs : List ℕ) (ss : List (List Point)) → ranked_supports version fs (map unranked ss) ≡ ranked_supports version fs ss
ranked_unranked version1 fs ss = all_unranked_twice ss
ranked_unranked version2 fs ss = supports_unranked 1 1 fs ss

-- ranks that are given twice
pub ranked_twice : (version : Version) (fs : List ℕ) (ss : List (List Point)) → ranked_supports version fs (ranked_supports version fs ss) ≡ ranked_supports version fs ss
ranked_twice version fs ss =
    sym (ranked_unranked version fs (ranked_supports version fs ss)) ∙ ap (ranked_supports version fs) (unranked_ranked version fs ss) ∙ ranked_unranked version fs ss
