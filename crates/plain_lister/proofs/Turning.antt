-- a choice in the middle of the step to the next one: the pairs from a place on begin anew
use Rattle.std.proofs.Common.{◌≡◌, ℕ, zero, suc, ◌<◌, ◌≤◌, List, [], ◌∷◌, ◌++◌, length, take, drop, get_or, set, arith, refl, sym, ap, subst, ◌∙◌}
use Rattle.cayley.specs.Cells.{Cell}
use Rattle.plain_lister.specs.Order.{Pair, IsPair, IsNextPair, IsLastPair, pair_left, IsChoice, IsLast, IsNext, firsts, left_after}
use Rattle.plain_lister.proofs.Odometer.{pair_at, next_at, choice_at, left_at, last_at, last_none, length-choice}

drop_end : (xs : List ℕ) → drop (length xs) xs ≡ []
drop_end [] = refl
drop_end (x ∷ xs) = drop_end xs

drop_all : (xs : Cell) → drop (length xs) xs ≡ []
drop_all [] = refl
drop_all (x ∷ xs) = drop_all xs

take_whole : (xs : Cell) → take (length xs) xs ++ [] ≡ xs
take_whole [] = refl
take_whole (x ∷ xs) = ap (λ l. x ∷ l) (take_whole xs)

pub start_turned : (counts : List ℕ) (old : Cell) → IsChoice counts old → old ≡ take (length old) old ++ firsts (drop (length old) counts)
start_turned counts old c =
    let e = subst (λ n. drop n counts ≡ []) (length-choice counts old c) (drop_end counts) in
    sym (take_whole old) ∙ ap (λ l. take (length old) old ++ firsts l) (sym e)

pub start_last : (counts : List ℕ) (old : Cell) → IsChoice counts old → IsLast (drop (length old) counts) (drop (length old) old)
start_last counts old c =
    let e = subst (λ n. drop n counts ≡ []) (length-choice counts old c) (drop_end counts) in
    subst (λ l. IsLast l (drop (length old) old)) (sym e) (subst (λ l. IsLast [] l) (sym (drop_all old)) last_none)

read_at : (i : ℕ) (old rest : Cell) (d : Pair) → i < length old → get_or (take (suc i) old ++ rest) i d ≡ get_or old i d
read_at i [] rest d lt = absurd (omega arith)
read_at zero (x ∷ old) rest d lt = refl
read_at (suc i) (x ∷ old) rest d lt = read_at i old rest d (omega arith)

set_at : (i : ℕ) (old rest : Cell) (q : Pair) → i < length old → set (take (suc i) old ++ rest) i q ≡ take i old ++ (q ∷ rest)
set_at i [] rest q lt = absurd (omega arith)
set_at zero (x ∷ old) rest q lt = refl
set_at (suc i) (x ∷ old) rest q lt = ap (λ l. x ∷ l) (set_at i old rest q (omega arith))

drop_counts : (i : ℕ) (counts : List ℕ) → i < length counts → firsts (drop i counts) ≡ (1, 2) ∷ firsts (drop (suc i) counts)
drop_counts i [] lt = absurd (omega arith)
drop_counts zero (m ∷ counts) lt = refl
drop_counts (suc i) (m ∷ counts) lt = drop_counts i counts (omega arith)

module _ (place i : ℕ) (counts : List ℕ) (old now : Cell) (d : Pair) (is : place ≡ suc i) (within : place ≤ length old) (choice : IsChoice counts old)
    (turned : now ≡ take place old ++ firsts (drop place counts)) (last : IsLast (drop place counts) (drop place old)) where
  inside : i < length counts
  inside = omega (arith, is, within, length-choice counts old choice)

  inside_old : i < length old
  inside_old = omega (arith, is, within)

  now_is : now ≡ take (suc i) old ++ firsts (drop (suc i) counts)
  now_is = subst (λ n. now ≡ take n old ++ firsts (drop n counts)) is turned

  last_is : IsLast (drop (suc i) counts) (drop (suc i) old)
  last_is = subst (λ n. IsLast (drop n counts) (drop n old)) is last

  same_pair : get_or now i d ≡ get_or old i d
  same_pair = ap (λ l. get_or l i d) now_is ∙ read_at i old (firsts (drop (suc i) counts)) d inside_old

  set_is : (q : Pair) → set now i q ≡ take i old ++ (q ∷ firsts (drop (suc i) counts))
  set_is q = ap (λ l. set l i q) now_is ∙ set_at i old (firsts (drop (suc i) counts)) q inside_old

  pub read_pair : IsPair (get_or counts i 0) (get_or now i d)
  read_pair = subst (IsPair (get_or counts i 0)) (sym same_pair) (pair_at i counts old d inside choice)

  pub go_on : IsLastPair (get_or counts i 0) (get_or now i d) → (set now i (1, 2) ≡ take i old ++ firsts (drop i counts)) × IsLast (drop i counts) (drop i old)
  go_on l = (
    set_is (1, 2) ∙ ap (λ t. take i old ++ t) (sym (drop_counts i counts inside)),
    last_at i counts old d inside choice (subst (IsLastPair (get_or counts i 0)) same_pair l) last_is,
  )

  pub stop_here : (q : Pair) → IsNextPair (get_or counts i 0) (get_or now i d) q → pair_left (get_or counts i 0) q < pair_left (get_or counts i 0) (get_or now i d)
      → IsNext counts old (set now i q) × IsChoice counts (set now i q) × (left_after counts (set now i q) < left_after counts old)
  stop_here q n h =
      let e = set_is q in
      let m = subst (λ x. IsNextPair (get_or counts i 0) x q) same_pair n in
      let k = subst (λ x. pair_left (get_or counts i 0) q < pair_left (get_or counts i 0) x) same_pair h in (
        subst (IsNext counts old) (sym e) (next_at i counts old q d inside choice m last_is),
        subst (IsChoice counts) (sym e) (choice_at i counts old q inside choice m.0),
        subst (λ l. left_after counts l < left_after counts old) (sym e) (left_at i counts old q d inside choice k),
      )
