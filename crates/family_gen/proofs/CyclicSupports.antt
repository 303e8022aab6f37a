-- The supports of the cyclic roots system: 0-1 vectors, no two the same in a support.
use Rattle.std.proofs.Common.{◌≡◌, ◌≢◌, ℕ, zero, suc, ◌+◌, ◌-◌, ◌%◌, ◌<◌, ◌≤◌, Bool, true, false, List, [], ◌∷◌, length, map, get_or, ℤ, pos, refl, ap, sym, ◌∙◌, arith}
use Rattle.std.specs.Prelude.{if◌then◌else◌, nat_lt}
use Rattle.std.specs.List.{range_with_len}
use Rattle.std.proofs.Math.Nat.{mod-eq_of_lt, add-mod_right}
use Rattle.std.proofs.lemmas.Bool.{ltb-true, lt-ltb}
use Rattle.std.proofs.lemmas.List.FromFn.{length-map-range_with_len, get_or-map-range_with_len}
use Rattle.std.proofs.lemmas.List.{length-append}
use Rattle.int_vectors.specs.Vectors.{Each}
use Rattle.cayley.specs.Valid.{AreDistinct, IsCoordinate}
use Rattle.int_vectors.proofs.Each.{each_append}
use Rattle.family_gen.specs.Cyclic.{entry_of, window, windows, last_support, cyclic_supports}
use Rattle.family_gen.proofs.ValidLifts.{IsSupport}

pub each_range : {A : Type 0} (P : A → Type 0) (f : ℕ → A) (a m : ℕ) → ((i : ℕ) → a ≤ i → i < a + m → P (f i)) → Each (map f (range_with_len a m)) P
each_range P f a zero h = tt
each_range P f a (suc m) h = (h a (omega arith) (omega arith), each_range P f (a + 1) m (λ i l u. h i (omega arith) (omega arith)))

small : (b : Bool) → IsCoordinate (if b then pos 1 else pos 0)
small true = omega arith
small false = omega arith

window_small : (n k i : ℕ) → Each (window n k i) IsCoordinate
unfolding entry_of
window_small n k i = each_range IsCoordinate (entry_of n k i) 0 n (λ p l u. small (nat_lt ((p + n - i) % n) k))

window-length : (n k i : ℕ) → length (window n k i) ≡ n
window-length n k i = length-map-range_with_len (entry_of n k i) 0 n

-- an entry tells whether its place is far enough behind the first
ahead : (n i p : ℕ) → i ≤ p → p < n → (p + n - i) % n ≡ p - i
ahead n i p l u =
    let e : p + n - i ≡ p - i + n = omega arith in
    ap (λ (m : ℕ). m % n) e ∙ add-mod_right (p - i) n ∙ mod-eq_of_lt (omega arith)

just_before : (n i p : ℕ) → i ≡ suc p → i < n → (p + n - i) % n ≡ n - 1
just_before n i p e u =
    let f : p + n - i ≡ n - 1 = omega arith in
    ap (λ (m : ℕ). m % n) f ∙ mod-eq_of_lt (omega arith)

told : (a k b l : ℕ) → (if nat_lt a k then pos 1 else pos 0) ≡ (if nat_lt b l then pos 1 else pos 0) → b < l → a < k
told a k b l e h = by (nat_lt a k) refl (e ∙ ap (λ (t : Bool). if t then pos 1 else pos 0) (lt-ltb b l h))
  where
    by : (t : Bool) → nat_lt a k ≡ t → (if t then pos 1 else pos 0) ≡ pos 1 → a < k
    by true f g = ltb-true a k f
    by false f g = absurd (cc)

same_entry : (n k l i j p : ℕ) → p < n → window n k i ≡ window n l j → entry_of n k i p ≡ entry_of n l j p
same_entry n k l i j p u e =
    sym (get_or-map-range_with_len (entry_of n k i) 0 n p p (pos 0) u (omega arith)) ∙ ap (λ (xs : List ℤ). get_or xs p (pos 0)) e
    ∙ get_or-map-range_with_len (entry_of n l j) 0 n p p (pos 0) u (omega arith)

-- two windows of k ones, of which the first begins earlier
apart : (n k i j : ℕ) → 1 ≤ k → k < n → i < j → j < n → window n k i ≢ window n k j
unfolding entry_of
apart n k i j one few ij jn e =
    let at_j = same_entry n k k i j j jn e in
    let at_p = same_entry n k k i j (j - 1) (omega arith) e in
    let begins : (j + n - j) % n < k = rw (ahead n j j (omega arith) jn) (omega arith) in
    let reaches : (j + n - i) % n < k = told ((j + n - i) % n) k ((j + n - j) % n) k at_j begins in
    let reach : j - i < k = rw (ahead n i j (omega arith) jn) at reaches in
    let before : (j - 1 + n - i) % n < k = rw (ahead n i (j - 1) (omega arith) (omega arith)) (omega arith) in
    let wrong : (j - 1 + n - j) % n < k = told ((j - 1 + n - j) % n) k ((j - 1 + n - i) % n) k (sym at_p) before in
    let far : n - 1 < k = rw (just_before n j (j - 1) (omega arith) jn) at wrong in
    omega arith

windows_support : (n k : ℕ) → n ≤ 16 → 1 ≤ k → k < n → IsSupport n (windows n k)
windows_support n k most one few =
    let size : length (windows n k) ≡ n = length-map-range_with_len (window n k) 0 n in
    record {
      count = (omega arith, omega arith);
      points = each_range (λ x. length x ≡ n) (window n k) 0 n (λ i l u. window-length n k i);
      limits = each_range (λ x. Each x IsCoordinate) (window n k) 0 n (λ i l u. window_small n k i);
      distinct = λ i j ij jl e. apart n k i j one few ij (omega arith)
          (sym (get_or-map-range_with_len (window n k) 0 n i i [] (omega arith) (omega arith)) ∙ e ∙ get_or-map-range_with_len (window n k) 0 n j j [] (omega arith) (omega arith));
    }

unlike_last : (n : ℕ) → 1 ≤ n → window n n 0 ≢ window n 0 0
unfolding entry_of
unlike_last n one e =
    let first = same_entry n n 0 0 0 0 (omega arith) e in
    let begins : (0 + n - 0) % n < n = rw (ahead n 0 0 (omega arith) (omega arith)) (omega arith) in
    let none = told ((0 + n - 0) % n) 0 ((0 + n - 0) % n) n (sym first) begins in
    omega arith

last_is_support : (n : ℕ) → 1 ≤ n → IsSupport n (last_support n)
last_is_support n one = record {
  count = (omega arith, omega arith);
  points = (window-length n n 0, (window-length n 0 0, tt));
  limits = (window_small n n 0, (window_small n 0 0, tt));
  distinct = by;
}
  where
    by : AreDistinct (window n n 0 ∷ window n 0 0 ∷ [])
    by zero zero kl l e = omega arith
    by zero (suc zero) kl l e = unlike_last n one e
    by zero (suc (suc j)) kl l e = omega arith
    by (suc i) j kl l e = omega arith

pub cyclic_are_supports : (n : ℕ) → 1 ≤ n → n ≤ 16 → Each (cyclic_supports n) (IsSupport n)
cyclic_are_supports n one most =
    each_append (IsSupport n) (map (windows n) (range_with_len 1 (n - 1))) (last_support n ∷ [])
    (each_range (IsSupport n) (windows n) 1 (n - 1) (λ k l u. windows_support n k most l (omega arith)))
    (last_is_support n one, tt)

pub cyclic-count : (n : ℕ) → 1 ≤ n → length (cyclic_supports n) ≡ n
cyclic-count n one =
    let first = length-map-range_with_len (windows n) 1 (n - 1) in
    let all = length-append (map (windows n) (range_with_len 1 (n - 1))) (last_support n ∷ []) in
    omega arith
