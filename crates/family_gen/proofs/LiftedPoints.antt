-- Lifted points from a later number on.
use Rattle.std.proofs.Common.{◌≡◌, ℕ, zero, suc, ◌+◌, ◌*◌, ◌/◌, ◌^◌, ◌<◌, ◌≤◌, List, [], ◌∷◌, length, ℤ, pos, refl, ap, ap₂, sym, ◌∙◌, ◌++◌, append_assoc, append-nil, arith}
use Rattle.std.proofs.lemmas.Nat.{mod_below}
use Rattle.std.proofs.Math.Nat.{div-lt_iff_lt-mul}
use Rattle.cayley.specs.Files.{FilePoint}
use Rattle.cayley.specs.Valid.{IsHeight}
use Rattle.family_gen.specs.Generator.{following, number, height_of}
use Rattle.family_gen.specs.Lifts.{lifted_point, lifted, lifted_supports}
use Rattle.family_gen.proofs.DrawnNumbers.{number-add, number_first}

pub lifted_later : (seed k m j : ℕ) → j ≡ k + m → (xs : List (List ℤ)) → lifted seed j xs ≡ lifted (number seed k) m xs
unfolding lifted
lifted_later seed k m j e [] = refl
lifted_later seed k m j e (x ∷ xs) =
    let f : suc j ≡ k + suc m = omega arith in
    let one : number seed (suc j) ≡ number (number seed k) (suc m) = ap (number seed) f ∙ number-add seed k (suc m) in
    ap₂ (λ (y : ℕ) (ps : List FilePoint). record { coordinates = x; height = pos (height_of y) } ∷ ps) one (lifted_later seed k (suc m) (suc j) f xs)

pub supports_later : (seed k m j : ℕ) → j ≡ k + m → (ss : List (List (List ℤ))) → lifted_supports seed j ss ≡ lifted_supports (number seed k) m ss
unfolding lifted_supports
supports_later seed k m j e [] = refl
supports_later seed k m j e (s ∷ ss) =
    ap₂ (λ (p : List FilePoint) (ps : List (List FilePoint)). p ∷ ps) (lifted_later seed k m j e s) (supports_later seed k (m + length s) (j + length s) (omega arith) ss)

-- a loop over points that are taken from the front, before which some were lifted
pub one_lifted : (made next : List FilePoint) (p : FilePoint) (last : ℕ) (x : List ℤ) (all rest : List (List ℤ)) (whole : List FilePoint) → next ≡ made ++ p ∷ [] → p ≡ lifted_point last 1 x → all ≡ x ∷ rest
    → made ++ lifted last 0 all ≡ whole → next ++ lifted (following last) 0 rest ≡ whole
unfolding lifted number
one_lifted made next p last x all rest whole e q f h =
    let later : lifted last 1 rest ≡ lifted (following last) 0 rest = lifted_later last 1 0 1 refl rest in
    ap (λ (l : List FilePoint). l ++ lifted (following last) 0 rest) e
    ∙ append_assoc made (p ∷ []) (lifted (following last) 0 rest)
    ∙ ap₂ (λ (y : FilePoint) (ys : List FilePoint). made ++ y ∷ ys) q (sym later)
    ∙ ap (λ (l : List (List ℤ)). made ++ lifted last 0 l) (sym f) ∙ h

pub none_lifted : (made : List FilePoint) (last : ℕ) (all : List (List ℤ)) (whole : List FilePoint) → all ≡ [] → made ++ lifted last 0 all ≡ whole → made ≡ whole
unfolding lifted
none_lifted made last all whole e h = sym (append-nil made) ∙ ap (λ (l : List (List ℤ)). made ++ lifted last 0 l) (sym e) ∙ h

pub one_counted : {A : Type 0} (last : ℕ) (x : A) (all rest : List A) (whole : ℕ) → all ≡ x ∷ rest → number last (length all) ≡ whole → number (following last) (length rest) ≡ whole
one_counted last x all rest whole e h = sym (number_first last (length rest)) ∙ ap (λ l. number last (length l)) (sym e) ∙ h

pub none_counted : {A : Type 0} (last : ℕ) (all : List A) (whole : ℕ) → all ≡ [] → number last (length all) ≡ whole → last ≡ whole
unfolding number
none_counted last all whole e h = ap (λ l. number last (length l)) (sym e) ∙ h

-- the same over supports
pub one_support : (made next : List (List FilePoint)) (p : List FilePoint) (last new : ℕ) (s : List (List ℤ)) (all rest : List (List (List ℤ))) (whole : List (List FilePoint)) → next ≡ made ++ p ∷ []
    → p ≡ lifted last 0 s → new ≡ number last (length s) → all ≡ s ∷ rest → made ++ lifted_supports last 0 all ≡ whole → next ++ lifted_supports new 0 rest ≡ whole
unfolding lifted_supports
one_support made next p last new s all rest whole e q g f h =
    let later : lifted_supports last (0 + length s) rest ≡ lifted_supports new 0 rest = supports_later last (length s) 0 (0 + length s) (omega arith) rest ∙ ap (λ (y : ℕ). lifted_supports y 0 rest) (sym g) in
    ap (λ (l : List (List FilePoint)). l ++ lifted_supports new 0 rest) e
    ∙ append_assoc made (p ∷ []) (lifted_supports new 0 rest)
    ∙ ap₂ (λ (y : List FilePoint) (ys : List (List FilePoint)). made ++ y ∷ ys) q (sym later)
    ∙ ap (λ (l : List (List (List ℤ))). made ++ lifted_supports last 0 l) (sym f) ∙ h

pub no_support : (made : List (List FilePoint)) (last : ℕ) (all : List (List (List ℤ))) (whole : List (List FilePoint)) → all ≡ [] → made ++ lifted_supports last 0 all ≡ whole → made ≡ whole
unfolding lifted_supports
no_support made last all whole e h = sym (append-nil made) ∙ ap (λ (l : List (List (List ℤ))). made ++ lifted_supports last 0 l) (sym e) ∙ h

number_fits : (seed n : ℕ) → 1 ≤ n → number seed n < 2 ^ 64
unfolding number following
number_fits seed zero h = absurd (omega arith)
number_fits seed (suc n) h = mod_below (6364136223846793005 * number seed n + 1442695040888963407) (2 ^ 64) (omega arith)

pub height_fits : (seed n : ℕ) → 1 ≤ n → IsHeight (pos (height_of (number seed n)))
unfolding height_of
height_fits seed n h = by (number seed n) (number_fits seed n h)
  where
    by : (x : ℕ) → x < 2 ^ 64 → x / 2 ^ 40 ≤ 1000000000
    by x l = let d = (div-lt_iff_lt-mul {k = 2 ^ 40} {x = x} {y = 2 ^ 24} (omega arith)).1 l in omega arith
