-- one part more in the array
use Rattle.std.proofs.Common.{◌≡◌, ℕ, suc, ◌+◌, ◌-◌, ◌<◌, ◌≤◌, List, [], ◌∷◌, ◌++◌, length, take, drop, set, replicate, arith, refl, sym, ap, subst, ◌∙◌, append_assoc}
use Rattle.std.proofs.lemmas.List.{take_more_set, set_split, length-append, length-replicate}
use Rattle.lex_height.specs.declared.part.TheConstants.{PARTS}
use Rattle.lex_height.specs.declared.part.LexPart.{LexPart}
use Rattle.lex_height.specs.Room.{blank, IsFilled}

-- behind the next place
tail : (xs : List LexPart) (m : ℕ) → drop (suc (length xs)) (xs ++ replicate (suc m) blank) ≡ replicate m blank
tail [] m = refl
tail (x ∷ xs) m = tail xs m

pub pushed : (n : ℕ) (all : List LexPart) (part : LexPart) → n < PARTS → IsFilled n all → IsFilled (n + 1) (set all n part)
pushed n all part lt h =
    let xs = take n all in
    let full : length all ≡ PARTS = ap length h.rest ∙ length-append xs (replicate (PARTS - length xs) blank) ∙ ap (λ m. length xs + m) (length-replicate (PARTS - length xs) blank) ∙ sum (length xs) (let a = h.count in omega (arith, a, lt)) in
    let front : take (n + 1) (set all n part) ≡ xs ++ part ∷ [] = take_more_set all n part (omega (arith, full, lt)) in
    let more : length (xs ++ part ∷ []) ≡ n + 1 = length-append xs (part ∷ []) ∙ ap (λ m. m + 1) h.count in
    let behind : drop (suc n) all ≡ replicate (PARTS - (n + 1)) blank = rest xs n (PARTS - (n + 1)) h.count (h.rest ∙ ap (λ m. xs ++ replicate m blank) (gap (length xs) h.count)) in
    record {
      room = omega arith;
      count = rw front more;
      rest = rw front (set_split all n part (omega (arith, full, lt)) ∙ ap (λ t. xs ++ part ∷ t) behind ∙ sym (append_assoc xs (part ∷ []) _) ∙ ap (λ m. (xs ++ part ∷ []) ++ replicate (PARTS - m) blank) (sym more));
    }
  where
    sum : (m : ℕ) → m ≤ PARTS → m + (PARTS - m) ≡ PARTS
    sum m le = omega arith

    gap : (m : ℕ) → m ≡ n → PARTS - m ≡ suc (PARTS - (n + 1))
    gap m e = omega arith

    rest : (xs : List LexPart) (n m : ℕ) → length xs ≡ n → all ≡ xs ++ replicate (suc m) blank → drop (suc n) all ≡ replicate m blank
    rest xs n m e f = subst (λ k. drop (suc k) all ≡ replicate m blank) e (ap (λ l. drop (suc (length xs)) l) f ∙ tail xs m)
