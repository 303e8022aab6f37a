-- numbers of pairs and of choices
use Rattle.std.proofs.Common.{◌≡◌, ℕ, zero, suc, ◌+◌, ◌-◌, ◌*◌, ◌/◌, ◌<◌, ◌≤◌, List, [], ◌∷◌, length, map, take, get_or, refl, sym, ap, ap₂, subst, ◌∙◌, arith, ◌%◌, div-add-mod'}
use Rattle.std.proofs.Math.Nat.{mod-lt}
use Rattle.int_vectors.specs.Vectors.{Each}
use Rattle.cayley.specs.Problems.{Point, Problem}
use Rattle.plain_lister.specs.Choices.{pairs_of, product, pair_counts, HasTooMany, IsExcessOf, HavePairs}

product-more : (ns : List ℕ) (i : ℕ) (d : ℕ) → i < length ns → product (take (i + 1) ns) ≡ product (take i ns) * get_or ns i d
product-more [] i d lt = absurd (omega arith)
product-more (n ∷ ns) zero d lt = omega arith
product-more (n ∷ ns) (suc i) d lt = let e : suc i + 1 ≡ suc (i + 1) = omega arith in rw (e, product-more ns i d (omega arith)) (omega arith)

get-map : (f : ℕ → ℕ) (ms : List ℕ) (i d e : ℕ) → i < length ms → get_or (map f ms) i d ≡ f (get_or ms i e)
get-map f [] i d e lt = absurd (omega arith)
get-map f (m ∷ ms) zero d e lt = refl
get-map f (m ∷ ms) (suc i) d e lt = get-map f ms i d e (omega arith)

length-map : (f : ℕ → ℕ) (ms : List ℕ) → length (map f ms) ≡ length ms
length-map f [] = refl
length-map f (m ∷ ms) = ap suc (length-map f ms)

pub choices_more : (counts : List ℕ) (i old made : ℕ) → i < length counts → old ≡ product (take i (map pairs_of counts)) → made ≡ pairs_of (get_or counts i 0) → old * made ≡ product (take (i + 1) (map pairs_of counts))
choices_more counts i old made lt e f =
    ap₂ (λ a b. a * b) e (f ∙ sym (get-map pairs_of counts i 0 0 lt)) ∙ sym (product-more (map pairs_of counts) i 0 (let l = length-map pairs_of counts in omega (arith, lt, l)))

pub each_count : (P : ℕ → Type 0) (counts : List ℕ) (i : ℕ) → i < length counts → Each counts P → P (get_or counts i 0)
each_count P [] i lt e = absurd (omega arith)
each_count P (m ∷ counts) zero lt e = e.0
each_count P (m ∷ counts) (suc i) lt e = each_count P counts i (omega arith) e.1

-- numbers of choices
pub counted : (supports : List (List Point)) → map pairs_of (map (λ (s : List Point). length s) supports) ≡ pair_counts supports
counted [] = refl
counted (s ∷ supports) = ap (λ l. pairs_of (length s) ∷ l) (counted supports)

half_even : (m n : ℕ) → 2 ≤ m → 1 ≤ n → 1 ≤ m * n / 2
half_even m n a b =
    let e = div-add-mod' (m * n) 2 in
    let l : m * n % 2 < 2 = mod-lt (m * n) (omega arith) in
    let k : 2 ≤ m * n = two m n a b in
    omega (arith, e, l, k)
  where
    two : (m n : ℕ) → 2 ≤ m → 1 ≤ n → 2 ≤ m * n
    two m zero a b = absurd (omega arith)
    two m (suc n) a b = omega (arith, a)

some_pair : (m : ℕ) → 2 ≤ m → 1 ≤ pairs_of m
some_pair m h = half_even m (m - 1) h (omega arith)

product_some : (counts : List ℕ) → HavePairs counts → 1 ≤ product (map pairs_of counts)
product_some [] h = omega arith
product_some (m ∷ counts) h = step (pairs_of m) (product (map pairs_of counts)) (some_pair m h.0) (product_some counts h.1)
  where
    step : (a b : ℕ) → 1 ≤ a → 1 ≤ b → 1 ≤ a * b
    step zero b p q = absurd (omega arith)
    step (suc a) zero p q = absurd (omega arith)
    step (suc a) (suc b) p q = omega arith

-- the product of the first numbers is at most that of all
product_front : (k : ℕ) (counts : List ℕ) → HavePairs counts → product (take k (map pairs_of counts)) ≤ product (map pairs_of counts)
product_front zero counts h = product_some counts h
product_front (suc k) [] h = omega arith
product_front (suc k) (m ∷ counts) h = step (pairs_of m) (product (take k (map pairs_of counts))) (product (map pairs_of counts)) (product_front k counts h.1)
  where
    step : (a b c : ℕ) → b ≤ c → a * b ≤ a * c
    step a b c l = let d = c - b in let e : c ≡ b + d = omega arith in rw e (omega arith)

pub too_many : (p : Problem) (counts : List ℕ) (choices : ℕ) → counts ≡ map (λ (s : List Point). length s) p.supports → HavePairs counts → IsExcessOf (map pairs_of counts) choices
    → HasTooMany p × IsExcessOf (pair_counts p.supports) choices
too_many p counts choices e h x =
    let f = ap (map pairs_of) e ∙ counted p.supports in
    let g = product_front x.1.0 counts h in
    let i = x.1.1 in
    let j = x.0 in
    (subst (λ l. 1000000 < product l) f (omega (arith, g, i, j)), subst (λ l. IsExcessOf l choices) f x)

pub few_enough : (p : Problem) (counts : List ℕ) → counts ≡ map (λ (s : List Point). length s) p.supports → product (map pairs_of counts) ≤ 1000000 → ¬ (HasTooMany p)
few_enough p counts e h t =
    let f = ap product (ap (map pairs_of) e ∙ counted p.supports) in
    omega (arith, f, h, t)

-- without a pair in some support there is no choice
no_product : (counts : List ℕ) → ¬ (HavePairs counts) → product (map pairs_of counts) ≡ 0
no_product [] n = absurd (n tt)
no_product (zero ∷ counts) n = omega arith
no_product (suc zero ∷ counts) n = omega arith
no_product (suc (suc m) ∷ counts) n = let e = no_product counts (λ h. n (omega arith, h)) in rw e (omega arith)

pub none_many : (p : Problem) (counts : List ℕ) → counts ≡ map (λ (s : List Point). length s) p.supports → ¬ (HavePairs counts) → ¬ (HasTooMany p)
none_many p counts e n = few_enough p counts e (let z = no_product counts n in omega (arith, z))
