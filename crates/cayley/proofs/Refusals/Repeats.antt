-- lists that are kept in order, and whether one of them comes again
use Rattle.std.proofs.Common.{◌≡◌, ℕ, ◌+◌, ◌-◌, ◌<◌, ◌↔◌, List, [], ◌∷◌, length, arith, refl, ap, ap₂, sym, ◌∙◌, subst, inl, inr, true, cond}
use Rattle.std.specs.Prelude.{ℤ, ◌<ℤ◌, slice_index_or, IsTrue}
use Rattle.std.specs.Ordering.{int_cmp, MatchOrdering, ordering_then, is_eq}
use Rattle.std.specs.declared.cmp.Ordering.{Ordering}
use Rattle.std.specs.declared.cmp.Ordering.TheVariants.{Less, Equal, Greater}
use Rattle.std.specs.Cmp.{int_ranks, int_cmp_is}
use Rattle.std.specs.Cmp.Lexicographic.{slice_cmp}
use Rattle.std.specs.BTreeSet.{BTreeSet, contains, Updates}
use Rattle.std.proofs.lemmas.Bool.{cases_lt}
use Rattle.cayley.specs.Shapes.{IsRepeat}
use denote.Ref.{Bor}

pub lists_equal : (xs ys : List ℤ) → slice_cmp int_cmp xs ys ≡ Equal → xs ≡ ys
lists_equal [] [] e = refl
lists_equal [] (y ∷ ys) e = cc
lists_equal (x ∷ xs) [] e = cc
lists_equal (x ∷ xs) (y ∷ ys) e = by (int_cmp x y) (int_ranks x y) e (lists_equal xs ys)
  where
    by : (o : Ordering) → MatchOrdering o (x <ℤ y) (x ≡ y) (y <ℤ x) → ordering_then o (slice_cmp int_cmp xs ys) ≡ Equal
        → (slice_cmp int_cmp xs ys ≡ Equal → xs ≡ ys) → x ∷ xs ≡ y ∷ ys
    by Less m e f = cc
    by Equal m e f = ap₂ (λ z zs. z ∷ zs) m (f e)
    by Greater m e f = cc

pub equal_lists : (xs : List ℤ) → slice_cmp int_cmp xs xs ≡ Equal
equal_lists [] = refl
equal_lists (x ∷ xs) = sym (ap (λ (o : Ordering). ordering_then o (slice_cmp int_cmp xs xs)) (int_cmp_is x x Equal refl)) ∙ equal_lists xs

abbrev pub key_cmp : Bor (List ℤ) → Bor (List ℤ) → Ordering
key_cmp x y = slice_cmp int_cmp x.now y.now

-- the list is one of the first n
abbrev pub IsAmong : List (List ℤ) → ℕ → List ℤ → Type 0
IsAmong lists n x = (j : ℕ) × (j < n) × (slice_index_or lists j [] ≡ x)

-- the set has exactly the first n of the lists
abbrev pub Keeps : BTreeSet (Bor (List ℤ)) → List (List ℤ) → ℕ → Type 0
Keeps seen lists n = (q : Bor (List ℤ)) → IsTrue (contains key_cmp seen q) ↔ IsAmong lists n q.now

pub keeps_more : (old new : BTreeSet (Bor (List ℤ))) (key : Bor (List ℤ)) (lists : List (List ℤ)) (n : ℕ) → Keeps old lists n → Updates key_cmp old new key true
    → slice_index_or lists n [] ≡ key.now → Keeps new lists (n + 1)
keeps_more old new key lists n h u e q = (λ t. to (slice_cmp int_cmp key.now q.now) refl (sym (u.0 q) ∙ t), λ k. u.0 q ∙ from k)
  where
    to : (o : Ordering) → o ≡ slice_cmp int_cmp key.now q.now → cond (is_eq o) true (contains key_cmp old q) ≡ true → IsAmong lists (n + 1) q.now
    to Less o t = let r = (h q).0 t in (r.0, (let p = r.1 in omega arith), r.2)
    to Greater o t = let r = (h q).0 t in (r.0, (let p = r.1 in omega arith), r.2)
    to Equal o t = (n, omega arith, e ∙ lists_equal key.now q.now (sym o))

    either : (o : Ordering) → contains key_cmp old q ≡ true → cond (is_eq o) true (contains key_cmp old q) ≡ true
    either Less t = t
    either Equal t = refl
    either Greater t = t

    from : IsAmong lists (n + 1) q.now → cond (is_eq (slice_cmp int_cmp key.now q.now)) true (contains key_cmp old q) ≡ true
    from k = elim (cases_lt k.0 n) [
      | inl p ↦ either (slice_cmp int_cmp key.now q.now) ((h q).1 (k.0, p, k.2))
      | inr p ↦
          let same : k.0 ≡ n = (let s = k.1 in omega arith) in
          let f : key.now ≡ q.now = sym e ∙ ap (λ j. slice_index_or lists j []) (sym same) ∙ k.2 in
          let g : slice_cmp int_cmp key.now q.now ≡ Equal = subst (λ (ys : List ℤ). slice_cmp int_cmp key.now ys ≡ Equal) f (equal_lists key.now) in
          ap (λ (o : Ordering). cond (is_eq o) true (contains key_cmp old q)) g
    ]

pub repeat_to : (lists : List (List ℤ)) (n : ℕ) → IsRepeat lists (n + 1) → IsAmong lists n (slice_index_or lists n [])
repeat_to lists n h =
    let a = h.1.1 in let b = h.1.2 in
    let e : n + 1 - 1 ≡ n = omega arith in
    (h.1.0 - 1, omega arith, h.1.3 ∙ ap (λ j. slice_index_or lists j []) e)

pub repeat_from : (lists : List (List ℤ)) (n : ℕ) → n < length lists → IsAmong lists n (slice_index_or lists n []) → IsRepeat lists (n + 1)
repeat_from lists n l h =
    let a = h.1 in
    let e : n ≡ n + 1 - 1 = omega arith in
    let f : h.0 + 1 - 1 ≡ h.0 = omega arith in
    ((omega arith, omega arith), (h.0 + 1, omega arith, omega arith, ap (λ j. slice_index_or lists j []) f ∙ h.2 ∙ ap (λ j. slice_index_or lists j []) e))
