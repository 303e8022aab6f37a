-- a property of each support with its pair, by places
use Rattle.std.proofs.Common.{◌≡◌, ℕ, zero, suc, ◌<◌, List, [], ◌∷◌, length, map, arith, refl, ap}
use Rattle.std.specs.Prelude.{slice_index_or}
use Rattle.int_vectors.specs.Vectors.{Each}
use Rattle.cayley.specs.Problems.{Point}
use Rattle.cayley.specs.Cells.{Cell, EachPair, IsFurther}
use Rattle.cayley.specs.Dependencies.{nth_support, pair_at}

pub each_pair_long : {S : Type 0} (f : S → List Point) (P : List Point → ℕ → ℕ → Type 0) (ss : List S) (cell : List (ℕ × ℕ))
    → EachPair (map f ss) cell P → length ss ≡ length cell
each_pair_long f P [] [] h = refl
each_pair_long f P [] (x ∷ cell) h = absurd h
each_pair_long f P (s ∷ ss) [] h = absurd h
each_pair_long f P (s ∷ ss) (x ∷ cell) h = ap suc (each_pair_long f P ss cell h.1)

pub each_pair_at : {S : Type 0} (f : S → List Point) (P : List Point → ℕ → ℕ → Type 0) (ss : List S) (cell : List (ℕ × ℕ))
    → EachPair (map f ss) cell P → (k : ℕ) (d : S) (e : ℕ × ℕ) → k < length cell → P (f (slice_index_or ss k d)) (slice_index_or cell k e).0 (slice_index_or cell k e).1
each_pair_at f P [] [] h k d e p = absurd (omega arith)
each_pair_at f P [] (x ∷ cell) h k d e p = absurd h
each_pair_at f P (s ∷ ss) [] h k d e p = absurd h
each_pair_at f P (s ∷ ss) (x ∷ cell) h zero d e p = h.0
each_pair_at f P (s ∷ ss) (x ∷ cell) h (suc k) d e p = each_pair_at f P ss cell h.1 k d e (omega arith)

pub each_pair_from : {S : Type 0} (f : S → List Point) (P : List Point → ℕ → ℕ → Type 0) (ss : List S) (cell : List (ℕ × ℕ)) → length ss ≡ length cell
    → ((k : ℕ) (d : S) (e : ℕ × ℕ) → k < length cell → P (f (slice_index_or ss k d)) (slice_index_or cell k e).0 (slice_index_or cell k e).1) → EachPair (map f ss) cell P
each_pair_from f P [] [] l h = tt
each_pair_from f P [] (x ∷ cell) l h = absurd (omega arith)
each_pair_from f P (s ∷ ss) [] l h = absurd (omega arith)
each_pair_from f P (s ∷ ss) (x ∷ cell) l h = (h 0 s x (omega arith), each_pair_from f P ss cell (omega arith) (λ k d e p. h (suc k) d e (omega arith)))

pub pairs_long : (supports : List (List Point)) (cell : Cell) (P : List Point → ℕ → ℕ → Type 0) → EachPair supports cell P → length supports ≡ length cell
pairs_long [] [] P e = refl
pairs_long [] (x ∷ cell) P e = absurd e
pairs_long (s ∷ supports) [] P e = absurd e
pairs_long (s ∷ supports) (x ∷ cell) P e = ap suc (pairs_long supports cell P e.1)

pub pairs_map : (supports : List (List Point)) (cell : Cell) (P Q : List Point → ℕ → ℕ → Type 0) → ((s : List Point) (a b : ℕ) → P s a b → Q s a b) → EachPair supports cell P → EachPair supports cell Q
pairs_map [] [] P Q f e = tt
pairs_map [] (x ∷ cell) P Q f e = e
pairs_map (s ∷ supports) [] P Q f e = e
pairs_map (s ∷ supports) (x ∷ cell) P Q f e = (f s x.0 x.1 e.0, pairs_map supports cell P Q f e.1)

-- two facts of each pair give a third
pub pairs_both : (supports : List (List Point)) (cell : Cell) (P Q R : List Point → ℕ → ℕ → Type 0) → ((s : List Point) (a b : ℕ) → P s a b → Q s a b → R s a b)
    → EachPair supports cell P → EachPair supports cell Q → EachPair supports cell R
pairs_both [] [] P Q R f d e = tt
pairs_both [] (x ∷ cell) P Q R f d e = e
pairs_both (s ∷ supports) [] P Q R f d e = e
pairs_both (s ∷ supports) (x ∷ cell) P Q R f d e = (f s x.0 x.1 d.0 e.0, pairs_both supports cell P Q R f d.1 e.1)

pub pairs_together : (supports : List (List Point)) (cell : Cell) (P Q : List Point → ℕ → ℕ → Type 0) → EachPair supports cell P → EachPair supports cell Q
    → EachPair supports cell (λ s a b. P s a b × Q s a b)
pairs_together supports cell P Q d e = pairs_both supports cell P Q _ (λ s a b p q. (p, q)) d e

-- a fact of each support beside its pair
pub pairs_each : (supports : List (List Point)) (cell : Cell) (P : List Point → ℕ → ℕ → Type 0) (E : List Point → Type 0) → EachPair supports cell P → Each supports E
    → EachPair supports cell (λ s a b. P s a b × E s)
pairs_each [] [] P E e d = tt
pairs_each [] (x ∷ cell) P E e d = e
pairs_each (s ∷ supports) [] P E e d = e
pairs_each (s ∷ supports) (x ∷ cell) P E e d = ((e.0, d.0), pairs_each supports cell P E e.1 d.1)

-- a fact of each further point, by the place of its support
pub pairs_further : (Q P : List Point → ℕ → ℕ → Type 0) (supports : List (List Point)) (cell : Cell) → EachPair supports cell P
    → ((j c : ℕ) → IsFurther (nth_support supports j) (pair_at cell j).0 (pair_at cell j).1 c → Q (nth_support supports j) (pair_at cell j).0 c)
    → EachPair supports cell (λ s a b. (c : ℕ) → IsFurther s a b c → Q s a c)
pairs_further Q P [] [] e f = tt
pairs_further Q P [] (x ∷ cell) e f = e
pairs_further Q P (s ∷ supports) [] e f = e
pairs_further Q P (s ∷ supports) (x ∷ cell) e f = ((λ c h. f 0 c h), pairs_further Q P supports cell e.1 (λ j c h. f (suc j) c h))
