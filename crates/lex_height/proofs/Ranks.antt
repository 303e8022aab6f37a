-- the entries of parts in rising rank
use Rattle.std.proofs.Common.{◌≡◌, ◌⊎◌, inl, inr, ℕ, zero, suc, ◌+◌, ◌-◌, ◌<◌, ◌≤◌, List, [], ◌∷◌, ◌++◌, arith, refl, sym, ap, ◌∙◌, cond, eq-eqb}
use Rattle.std.proofs.Math.IntN.{ℤ, pos}
use Rattle.std.proofs.Math.ListN.{get_or, replicate}
use Rattle.std.proofs.lemmas.Bool.{ne_eqb}
use Rattle.lex_height.specs.declared.part.LexPart.{LexPart}
use Rattle.lex_height.specs.Entries.{entry, entries_from, entries, at_rank}
use Rattle.lex_height.specs.Values.{AreParts}

-- less, equal or greater
pub three : (a b : ℕ) → (a < b) ⊎ ((a ≡ b) ⊎ (b < a))
three zero zero = inr (inl refl)
three zero (suc b) = inl (omega arith)
three (suc a) zero = inr (inr (omega arith))
three (suc a) (suc b) = elim (three a b) [ inl l ↦ inl (omega (arith, l)) | inr r ↦ inr (elim r [ inl e ↦ inl (ap suc e) | inr g ↦ inr (omega (arith, g)) ]) ]

pub entry_here : (part : LexPart) (parts : List LexPart) (k : ℕ) → k ≡ part.rank → entry (part ∷ parts) k ≡ part.num
entry_here part parts k e = ap (λ b. cond b part.num (entry parts k)) (eq-eqb part.rank k (sym e))

pub entry_other : (part : LexPart) (parts : List LexPart) (k : ℕ) → ¬ (k ≡ part.rank) → entry (part ∷ parts) k ≡ entry parts k
entry_other part parts k n = ap (λ b. cond b part.num (entry parts k)) (ne_eqb part.rank k (λ e. n (sym e)))

-- nothing stands below the least rank
pub entry_below : (n : ℕ) (parts : List LexPart) → AreParts n parts → (k : ℕ) → k < n → entry parts k ≡ pos 0
entry_below n [] h k lt = refl
entry_below n (part ∷ parts) h k lt =
    let a = h.0 in
    entry_other part parts k (λ e. omega (arith, a, lt, e)) ∙ entry_below (part.rank + 1) parts h.3 k (omega (arith, a, lt))

pub weaker : (n m : ℕ) (parts : List LexPart) → m ≤ n → AreParts n parts → AreParts m parts
weaker n m [] le h = tt
weaker n m (part ∷ parts) le h = (let a = h.0 in omega (arith, a, le), h.1, h.2, h.3)

-- up to a part's rank only this part counts
pub entry_up : (n : ℕ) (part : LexPart) (parts : List LexPart) → AreParts n (part ∷ parts) → (k : ℕ) → k < part.rank → entry (part ∷ parts) k ≡ pos 0
entry_up n part parts h k lt = entry_other part parts k (λ e. omega (arith, lt, e)) ∙ entry_below (part.rank + 1) parts h.3 k (omega (arith, lt))

-- ---- the list of entries
past_zeros : (m : ℕ) (xs : List ℤ) (k : ℕ) → get_or (replicate m (pos 0) ++ xs) (m + k) (pos 0) ≡ get_or xs k (pos 0)
past_zeros zero xs k = ap (λ n. get_or xs n (pos 0)) (omega arith)
past_zeros (suc m) xs k = ap (λ n. get_or (replicate (suc m) (pos 0) ++ xs) n (pos 0)) (next m k) ∙ past_zeros m xs k
  where
    next : (m k : ℕ) → suc m + k ≡ suc (m + k)
    next m k = omega arith

within_zeros : (m : ℕ) (xs : List ℤ) (k : ℕ) → k < m → get_or (replicate m (pos 0) ++ xs) k (pos 0) ≡ pos 0
within_zeros zero xs k lt = absurd (omega arith)
within_zeros (suc m) xs zero lt = refl
within_zeros (suc m) xs (suc k) lt = within_zeros m xs k (omega (arith, lt))

entries_at : (n : ℕ) (parts : List LexPart) → AreParts n parts → (k : ℕ) → get_or (entries_from n parts) k (pos 0) ≡ entry parts (n + k)
entries_at n [] h k = refl
entries_at n (part ∷ parts) h k = by_place (entries_at (part.rank + 1) parts h.3) (three k (part.rank - n))
  where
    by_place : ((m : ℕ) → get_or (entries_from (part.rank + 1) parts) m (pos 0) ≡ entry parts (part.rank + 1 + m)) → (k < part.rank - n) ⊎ ((k ≡ part.rank - n) ⊎ (part.rank - n < k))
        → get_or (entries_from n (part ∷ parts)) k (pos 0) ≡ entry (part ∷ parts) (n + k)
    by_place behind (inl lt) = within_zeros (part.rank - n) _ k lt ∙ sym (entry_up n part parts h (n + k) (omega (arith, lt)))
    by_place behind (inr (inl e)) =
        let a = h.0 in
        let f : k ≡ part.rank - n + 0 = omega (arith, e) in
        ap (λ i. get_or (entries_from n (part ∷ parts)) i (pos 0)) f ∙ past_zeros (part.rank - n) _ 0 ∙ sym (entry_here part parts (n + k) (omega (arith, a, e)))
    by_place behind (inr (inr gt)) =
        let a = h.0 in
        let m = k - (part.rank - n) - 1 in
        let f : k ≡ part.rank - n + suc m = omega (arith, gt) in
        let g : part.rank + 1 + m ≡ n + k = omega (arith, a, gt) in
        ap (λ i. get_or (entries_from n (part ∷ parts)) i (pos 0)) f ∙ past_zeros (part.rank - n) _ (suc m) ∙ behind m ∙ ap (entry parts) g
        ∙ sym (entry_other part parts (n + k) (λ e. omega (arith, a, gt, e)))

-- the entry at each place of the list is that of the rank
pub entries_is : (parts : List LexPart) → AreParts 0 parts → (k : ℕ) → at_rank (entries parts) k ≡ entry parts k
entries_is parts h k = let e : 0 + k ≡ k = omega arith in entries_at 0 parts h k ∙ ap (entry parts) e
