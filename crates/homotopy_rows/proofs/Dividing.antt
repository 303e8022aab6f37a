-- common divisors of lists of numbers, and their quotients
use Rattle.std.proofs.Common.{◌≡◌, ℕ, zero, suc, ◌+◌, ◌<◌, ◌≤◌, ◌<ℤ◌, List, [], ◌∷◌, ◌++◌, length, map, take, drop, get_or, unsigned_abs, arith, refl, sym, ap, ap₂, subst, ◌∙◌, append-nil, take_all}
use Rattle.std.proofs.lemmas.Int.{ints}
use Rattle.std.proofs.Math.IntN.{ℤ, pos}
use Rattle.std.specs.Int.{IsGcd}
use Rattle.std.proofs.lemmas.List.{take_more, take-append-drop}
use Rattle.std.proofs.lemmas.Grind.{flat_map-append}
use Rattle.wide_int.proofs.Signed.{positive_is}
use Rattle.int_vectors.specs.Contents.{DividesEach, IsContent, divided}
use Rattle.int_vectors.specs.Vectors.{Each, scale}
use Rattle.int_vectors.proofs.EntryDivisors.{scale_cancel, scale-divided, divides_both, divides_apart, divides_trans, one_divides_each}
use Rattle.homotopy_rows.specs.Powers.{all_of}

-- ---- divisors of lists side by side
content-append : (xs ys : List ℤ) (g h k : ℕ) → IsContent xs g → IsContent ys h → IsGcd h g k → IsContent (xs ++ ys) k
content-append xs ys g h k x y d = (
  divides_both k xs ys (divides_trans k g xs d.1 x.0) (divides_trans k h ys d.0 y.0),
  (λ n e. let f = divides_apart n xs ys e in d.2 n (y.1 n f.1) (x.1 n f.0)),
)

all_more : (rows : List (List ℤ)) (i : ℕ) (ws : List ℤ) → i < length rows → ws ≡ get_or rows i ws → all_of (take (i + 1) rows) ≡ all_of (take i rows) ++ ws
all_more rows i ws h e =
    ap all_of (take_more rows i ws h) ∙ flat_map-append (λ us. us) (take i rows) (get_or rows i ws ∷ []) ∙ ap (λ us. all_of (take i rows) ++ us) (append-nil (get_or rows i ws) ∙ sym e)

pub same_divisor : (d e g h : ℤ) (ws : List ℤ) → d ≡ e → g ≡ h → IsContent (d ∷ ws) (unsigned_abs g) → IsContent (e ∷ ws) (unsigned_abs h)
same_divisor d e g h ws i j c = subst (λ z. IsContent (z ∷ ws) (unsigned_abs h)) i (subst (λ z. IsContent (d ∷ ws) (unsigned_abs z)) j c)

pub divisor_more : (den : ℤ) (rows : List (List ℤ)) (i g h k : ℕ) (ws : List ℤ) → i < length rows → ws ≡ get_or rows i ws → IsContent (den ∷ all_of (take i rows)) g → IsContent ws h → IsGcd h g k
    → IsContent (den ∷ all_of (take (i + 1) rows)) k
divisor_more den rows i g h k ws l e x y d =
    subst (λ xs. IsContent (den ∷ xs) k) (sym (all_more rows i ws l e)) (content-append (den ∷ all_of (take i rows)) ws g h k x y d)

-- a divisor of some numbers that is 1 is that of all
pub divisor_one : (den : ℤ) (rows : List (List ℤ)) (i : ℕ) → IsContent (den ∷ all_of (take i rows)) 1 → IsContent (den ∷ all_of rows) 1
divisor_one den rows i h =
    let e : all_of (take i rows) ++ all_of (drop i rows) ≡ all_of rows = sym (flat_map-append (λ ws. ws) (take i rows) (drop i rows)) ∙ ap all_of (take-append-drop i rows) in
    subst (λ xs. IsContent (den ∷ xs) 1) e
    (one_divides_each (den ∷ (all_of (take i rows) ++ all_of (drop i rows))), (λ d k. h.1 d (divides_apart d (den ∷ all_of (take i rows)) (all_of (drop i rows)) k).0))

pub divisor_whole : (den : ℤ) (rows : List (List ℤ)) (i g : ℕ) → length rows ≤ i → IsContent (den ∷ all_of (take i rows)) g → IsContent (den ∷ all_of rows) g
divisor_whole den rows i g l h = subst (λ rs. IsContent (den ∷ all_of rs) g) (take_all i rows l) h

-- what divides all numbers divides those of each list
pub divides_rows : (d : ℕ) (rows : List (List ℤ)) → DividesEach d (all_of rows) → Each rows (DividesEach d)
divides_rows d [] h = tt
divides_rows d (ws ∷ rows) h = let k = divides_apart d ws (all_of rows) h in (k.0, divides_rows d rows k.1)

-- ---- quotients
each_read : (P : List ℤ → Type 0) (rows : List (List ℤ)) (i : ℕ) (ws : List ℤ) → i < length rows → Each rows P → ws ≡ get_or rows i ws → P ws
each_read P [] i ws l h e = absurd (omega (arith, l))
each_read P (us ∷ rows) zero ws l h e = subst P (sym e) h.0
each_read P (us ∷ rows) (suc i) ws l h e = each_read P rows i ws (omega (arith, l)) h.1 e

pub exact_at : (g : ℤ) (old : List (List ℤ)) (i : ℕ) (ws : List ℤ) → i < length old → Each old (DividesEach (unsigned_abs g)) → ws ≡ get_or old i ws → DividesEach (unsigned_abs g) ws
exact_at g old i ws l h e = each_read (DividesEach (unsigned_abs g)) old i ws l h e

-- an exact quotient is the only one
pub quotient_is : (g : ℤ) (old new : List ℤ) → pos 0 <ℤ g → DividesEach (unsigned_abs g) old → old ≡ scale g new → new ≡ divided g old
quotient_is g old new p d e =
    let s = subst (λ k. scale k (divided k old) ≡ old) (positive_is g p) (scale-divided (unsigned_abs g) old d) in
    scale_cancel g new (divided g old) (λ z. omega (arith, ints, z, p)) (sym e ∙ sym s)

pub all_divided : (g : ℤ) (old : List (List ℤ)) → pos 0 <ℤ g → Each old (DividesEach (unsigned_abs g)) → old ≡ map (scale g) (map (divided g) old)
all_divided g [] p h = refl
all_divided g (ws ∷ old) p h =
    ap₂ (λ u us. u ∷ us) (sym (subst (λ k. scale k (divided k ws) ≡ ws) (positive_is g p) (scale-divided (unsigned_abs g) ws h.0))) (all_divided g old p h.1)
