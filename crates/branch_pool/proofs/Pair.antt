-- A pool of two seats, taken apart and put together again.
use Rattle.std.proofs.Common.{◌≡◌, suc, ◌+◌, List, [], ◌∷◌, ◌++◌, length, get_or, refl, ap, sym, ◌∙◌, arith, subst, length-append}
use Rattle.std.proofs.lemmas.List.Elements.{All-cons}
use Rattle.std.proofs.lemmas.List.Sorted.{IsPermutation-reverse}
use Rattle.branch_pool.specs.Seats.{PoolData, SeatData, IsSeatOf, AreAllSeats}

pub two_popped : {X : Type 0} (l k m : List X) (a b x y : X) → l ≡ a ∷ b ∷ [] → l ≡ m ++ y ∷ [] → m ≡ k ++ x ∷ [] → (k ≡ []) × (x ≡ a) × (y ≡ b)
two_popped l [] m a b x y e f h =
    let p : a ∷ b ∷ [] ≡ x ∷ y ∷ [] = sym e ∙ f ∙ ap (λ n. n ++ y ∷ []) h in
    (refl, sym (ap (λ n. get_or n 0 a) p), sym (ap (λ n. get_or n 1 a) p))
two_popped l (z ∷ zs) m a b x y e f h =
    let p : length m ≡ suc (length zs + 1) = ap length h ∙ ap suc (length-append zs (x ∷ [])) in
    let q : length l ≡ length m + 1 = ap length f ∙ length-append m (y ∷ []) in
    let r : length l ≡ 2 = ap length e in
    absurd (omega (arith, p, q, r))

module _ {B : Type 0} where
  pub both_seats : (p : PoolData) (a b : SeatData B) (l : List (SeatData B)) → l ≡ a ∷ b ∷ [] → a.deques ≡ p.deques → b.deques ≡ p.deques → a.number ≡ 2 → b.number ≡ 1 → length p.deques ≡ 2 → AreAllSeats p l
  both_seats p a b l e da db na nb n = subst (λ x. AreAllSeats p x) (sym e) record {
    own = All-cons (IsSeatOf p) a (b ∷ []) da (All-cons (IsSeatOf p) b [] db (λ i d lt. absurd (omega arith)));
    each_once = rw (na, nb, n) (IsPermutation-reverse (2 ∷ 1 ∷ []));
  }
