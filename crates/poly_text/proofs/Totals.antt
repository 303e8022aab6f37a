-- The coefficients of a sum of terms, and of a map to which terms are added.
use Rattle.std.proofs.Common.{rules, ◌≡◌, ◌≢◌, ℤ, pos, ◌+ℤ◌, Bool, true, false, cond, List, [], ◌∷◌, refl, sym, ap, subst, ◌∙◌, int_eq, arith, if◌then◌else◌, is_eq}
use Rattle.std.proofs.lemmas.Int.{ints}
use Rattle.std.specs.List.{AllByRecursion}
use Rattle.std.specs.List.Sorted.{IsStrictlySortedBy}
use Rattle.std.specs.declared.cmp.Ordering.{Ordering}
use Rattle.std.specs.declared.cmp.Ordering.TheVariants.{Less, Equal, Greater}
use Rattle.std.specs.Ordering.{match_ordering, ordering_reverse}
use Rattle.std.specs.Cmp.{IsTotalOrder, int_cmp_total}
use Rattle.std.specs.Cmp.Lexicographic.{lists_total}
use Rattle.std.specs.Map.{remove_entry, keys_of}
use Rattle.std.specs.BTreeMap.{is_at, insert_entry}
use Rattle.std.proofs.lemmas.Map.Keys.{sorted_head, sorted_tail}
use Rattle.cayley.proofs.Refusals.Repeats.{lists_equal, equal_lists}
use Rattle.int_vectors.specs.Vectors.{Each}
use Rattle.poly_text.specs.Maps.{Monomial, exponents_cmp, coefficient, with_coefficient, plus_term}
use Rattle.poly_text.specs.Values.{are_same, number_at, total_at}

o : IsTotalOrder exponents_cmp
o = lists_total int_cmp_total

abbrev pub Sorted : List Monomial → Type 0
Sorted f = IsStrictlySortedBy exponents_cmp (keys_of f)

-- ---- orders of two lists

pub less_back : (xs ys : List ℤ) → exponents_cmp xs ys ≡ Less → exponents_cmp ys xs ≡ Greater
less_back xs ys h = o.antisymm ys xs ∙ ap ordering_reverse h

pub greater_back : (xs ys : List ℤ) → exponents_cmp xs ys ≡ Greater → exponents_cmp ys xs ≡ Less
greater_back xs ys h = o.antisymm ys xs ∙ ap ordering_reverse h

-- two lists are the same, or they differ
pub by_same : {P : Type 0} (xs ys : List ℤ) → (xs ≡ ys → P) → (are_same xs ys ≡ false → P) → P
by_same {P} xs ys f g = by (exponents_cmp xs ys) refl
  where
    by : (r : Ordering) → exponents_cmp xs ys ≡ r → P
    by Less h = g (ap is_eq h)
    by Equal h = f (lists_equal xs ys h)
    by Greater h = g (ap is_eq h)

pub same_itself : (xs : List ℤ) → are_same xs xs ≡ true
same_itself xs = ap is_eq (equal_lists xs)

pub not_same_less : (xs ys : List ℤ) → exponents_cmp xs ys ≡ Less → are_same xs ys ≡ false
not_same_less xs ys h = ap is_eq h

pub number_not : (xs : List ℤ) (t : Monomial) → are_same xs t.0 ≡ false → number_at xs t ≡ pos 0
number_not xs t h = rw h refl

-- ---- no term has these exponents

abbrev NotIn : List ℤ → List (List ℤ) → Type 0
NotIn xs ks = AllByRecursion (λ k. are_same xs k ≡ false) ks

pub total_none : (xs : List ℤ) (f : List Monomial) → NotIn xs (keys_of f) → total_at xs f ≡ pos 0
unfolding total_at
total_none xs [] h = refl
total_none xs (t ∷ ts) h =
    let a = number_not xs t h.0 in
    let b = total_none xs ts h.1 in
    omega (arith, ints, a, b)

lookup_none : (xs : List ℤ) (f : List Monomial) → NotIn xs (keys_of f) → coefficient xs f ≡ pos 0
lookup_none xs [] h = refl
lookup_none xs (t ∷ ts) h = rw h.0 (lookup_none xs ts h.1)

below_all : (xs k : List ℤ) (ks : List (List ℤ)) → exponents_cmp xs k ≡ Less → AllByRecursion (λ y. exponents_cmp k y ≡ Less) ks → NotIn xs ks
below_all xs k [] h a = tt
below_all xs k (y ∷ ks) h a = (not_same_less xs y (o.trans xs k y h a.0), below_all xs k ks h a.1)

same_all : (k : List ℤ) (ks : List (List ℤ)) → AllByRecursion (λ y. exponents_cmp k y ≡ Less) ks → NotIn k ks
same_all k [] a = tt
same_all k (y ∷ ks) a = (not_same_less k y a.0, same_all k ks a.1)

-- ---- the coefficient of a map is the sum at its exponents

pub coefficient_total : (xs : List ℤ) (f : List Monomial) → Sorted f → coefficient xs f ≡ total_at xs f
unfolding total_at
coefficient_total xs [] s = refl
coefficient_total xs (t ∷ ts) s = by (exponents_cmp xs t.0) refl (coefficient_total xs ts (sorted_tail exponents_cmp t.0 (keys_of ts) s))
  where
    by : (r : Ordering) → exponents_cmp xs t.0 ≡ r → coefficient xs ts ≡ total_at xs ts → coefficient xs (t ∷ ts) ≡ total_at xs (t ∷ ts)
    by Less h later =
        let none : NotIn xs (keys_of (t ∷ ts)) = (not_same_less xs t.0 h, below_all xs t.0 (keys_of ts) h (sorted_head exponents_cmp t.0 (keys_of ts) s)) in
        lookup_none xs (t ∷ ts) none ∙ sym (total_none xs (t ∷ ts) none)
    by Equal h later =
        let e = lists_equal xs t.0 h in
        let none : NotIn xs (keys_of ts) = subst (λ (k : List ℤ). NotIn k (keys_of ts)) (sym e) (same_all t.0 (keys_of ts) (sorted_head exponents_cmp t.0 (keys_of ts) s)) in
        let a = total_none xs ts none in
        rw (h, a) (omega (arith, ints))
    by Greater h later = rw h (later ∙ omega (arith, ints))

pub same_is : (xs ys : List ℤ) → are_same xs ys ≡ true → xs ≡ ys
same_is xs ys h = by_same xs ys (λ e. e) (λ n. absurd (cc))

-- ---- an entry that is put or taken

put_first : (b : Bool) (z rest old : ℤ) → (b ≡ true → rest ≡ pos 0) → rest ≡ old → (if b then z else pos 0) +ℤ rest ≡ (if b then z else old)
put_first true z rest old g e = let a = g refl in omega (arith, ints, a)
put_first false z rest old g e = omega (arith, ints, e)

put_equal : (b c : Bool) (z w rest : ℤ) → b ≡ c → (c ≡ true → rest ≡ pos 0) → (if b then z else pos 0) +ℤ rest ≡ (if c then z else ((if b then w else pos 0) +ℤ rest))
put_equal true true z w rest e g = let a = g refl in omega (arith, ints, a)
put_equal false false z w rest e g = refl
put_equal true false z w rest e g = absurd cc
put_equal false true z w rest e g = absurd cc

put_later : (b c : Bool) (w z rest inner : ℤ) → (c ≡ true → b ≡ false) → inner ≡ (if c then z else rest) → (if b then w else pos 0) +ℤ inner ≡ (if c then z else ((if b then w else pos 0) +ℤ rest))
put_later true true w z rest inner g e = let a = g refl in absurd cc
put_later false true w z rest inner g e = omega (arith, ints, e)
put_later true false w z rest inner g e = omega (arith, ints, e)
put_later false false w z rest inner g e = omega (arith, ints, e)

gone : (b c : Bool) (w rest : ℤ) → b ≡ c → (c ≡ true → rest ≡ pos 0) → rest ≡ (if c then pos 0 else ((if b then w else pos 0) +ℤ rest))
gone true true w rest e g = g refl
gone false false w rest e g = omega (arith, ints)
gone true false w rest e g = absurd cc
gone false true w rest e g = absurd cc

zero_either : (c : Bool) → pos 0 ≡ (if c then pos 0 else pos 0)
zero_either true = refl
zero_either false = refl

apart : (xs k l : List ℤ) → are_same k l ≡ false → are_same xs k ≡ true → are_same xs l ≡ false
apart xs k l n m = ap (λ (ys : List ℤ). are_same ys l) (same_is xs k m) ∙ n

none_at_same : (xs k : List ℤ) (ks : List (List ℤ)) → AllByRecursion (λ y. exponents_cmp k y ≡ Less) ks → are_same xs k ≡ true → NotIn xs ks
none_at_same xs k ks a m = subst (λ (ys : List ℤ). NotIn ys ks) (sym (same_is xs k m)) (same_all k ks a)

pub total_insert : (xs k : List ℤ) (z : ℤ) (f : List Monomial) → Sorted f → total_at xs (insert_entry exponents_cmp f k z) ≡ (if are_same xs k then z else total_at xs f)
unfolding total_at
total_insert xs k z [] s = put_first (are_same xs k) z (pos 0) (pos 0) (λ m. refl) refl
total_insert xs k z (t ∷ ts) s = by (exponents_cmp k t.0) refl (total_insert xs k z ts (sorted_tail exponents_cmp t.0 (keys_of ts) s))
  where
    head : AllByRecursion (λ y. exponents_cmp t.0 y ≡ Less) (keys_of ts)
    head = sorted_head exponents_cmp t.0 (keys_of ts) s

    by : (r : Ordering) → exponents_cmp k t.0 ≡ r → total_at xs (insert_entry exponents_cmp ts k z) ≡ (if are_same xs k then z else total_at xs ts)
        → total_at xs (match_ordering r ((k, z) ∷ t ∷ ts) ((t.0, z) ∷ ts) (t ∷ insert_entry exponents_cmp ts k z)) ≡ (if are_same xs k then z else total_at xs (t ∷ ts))
    by Less h later =
        put_first (are_same xs k) z (total_at xs (t ∷ ts)) (total_at xs (t ∷ ts))
        (λ m. total_none xs (t ∷ ts) (subst (λ (ys : List ℤ). NotIn ys (keys_of (t ∷ ts))) (sym (same_is xs k m)) (not_same_less k t.0 h, below_all k t.0 (keys_of ts) h head))) refl
    by Equal h later =
        let e = lists_equal k t.0 h in
        put_equal (are_same xs t.0) (are_same xs k) z t.1 (total_at xs ts) (ap (λ (ys : List ℤ). are_same xs ys) (sym e))
        (λ m. total_none xs ts (none_at_same xs t.0 (keys_of ts) head (ap (λ (ys : List ℤ). are_same xs ys) (sym e) ∙ m)))
    by Greater h later =
        put_later (are_same xs t.0) (are_same xs k) t.1 z (total_at xs ts) (total_at xs (insert_entry exponents_cmp ts k z)) (apart xs k t.0 (ap is_eq h))
        later

pub total_remove : (xs k : List ℤ) (f : List Monomial) → Sorted f → total_at xs (remove_entry (is_at (exponents_cmp k)) f) ≡ (if are_same xs k then pos 0 else total_at xs f)
unfolding total_at
total_remove xs k [] s = zero_either (are_same xs k)
total_remove xs k (t ∷ ts) s = by (exponents_cmp k t.0) refl (total_remove xs k ts (sorted_tail exponents_cmp t.0 (keys_of ts) s))
  where
    head : AllByRecursion (λ y. exponents_cmp t.0 y ≡ Less) (keys_of ts)
    head = sorted_head exponents_cmp t.0 (keys_of ts) s

    kept : are_same k t.0 ≡ false → total_at xs (remove_entry (is_at (exponents_cmp k)) ts) ≡ (if are_same xs k then pos 0 else total_at xs ts)
        → total_at xs (t ∷ remove_entry (is_at (exponents_cmp k)) ts) ≡ (if are_same xs k then pos 0 else total_at xs (t ∷ ts))
    kept n later =
        put_later (are_same xs t.0) (are_same xs k) t.1 (pos 0) (total_at xs ts) (total_at xs (remove_entry (is_at (exponents_cmp k)) ts)) (apart xs k t.0 n)
        later

    by : (r : Ordering) → exponents_cmp k t.0 ≡ r → total_at xs (remove_entry (is_at (exponents_cmp k)) ts) ≡ (if are_same xs k then pos 0 else total_at xs ts)
        → total_at xs (cond (is_eq r) ts (t ∷ remove_entry (is_at (exponents_cmp k)) ts)) ≡ (if are_same xs k then pos 0 else total_at xs (t ∷ ts))
    by Less h later = kept (ap is_eq h) later
    by Equal h later =
        let e = lists_equal k t.0 h in
        gone (are_same xs t.0) (are_same xs k) t.1 (total_at xs ts) (ap (λ (ys : List ℤ). are_same xs ys) (sym e))
        (λ m. total_none xs ts (none_at_same xs t.0 (keys_of ts) head (ap (λ (ys : List ℤ). are_same xs ys) (sym e) ∙ m)))
    by Greater h later = kept (ap is_eq h) later

-- ---- order and numbers other than 0 stay

abbrev pub HasNumbers : List Monomial → Type 0
HasNumbers f = Each f (λ (t : Monomial). t.1 ≢ pos 0)

above_insert : (x k : List ℤ) (z : ℤ) (f : List Monomial) → exponents_cmp x k ≡ Less → AllByRecursion (λ y. exponents_cmp x y ≡ Less) (keys_of f) → AllByRecursion (λ y. exponents_cmp x y ≡ Less) (keys_of (insert_entry exponents_cmp f k z))
above_insert x k z [] h a = (h, tt)
above_insert x k z (t ∷ ts) h a = by (exponents_cmp k t.0) (above_insert x k z ts h a.1)
  where
    by : (r : Ordering) → AllByRecursion (λ y. exponents_cmp x y ≡ Less) (keys_of (insert_entry exponents_cmp ts k z))
        → AllByRecursion (λ y. exponents_cmp x y ≡ Less) (keys_of (match_ordering r ((k, z) ∷ t ∷ ts) ((t.0, z) ∷ ts) (t ∷ insert_entry exponents_cmp ts k z)))
    by Less later = (h, a)
    by Equal later = a
    by Greater later = (a.0, later)

above_remove : (x k : List ℤ) (f : List Monomial) → AllByRecursion (λ y. exponents_cmp x y ≡ Less) (keys_of f) → AllByRecursion (λ y. exponents_cmp x y ≡ Less) (keys_of (remove_entry (is_at (exponents_cmp k)) f))
above_remove x k [] a = tt
above_remove x k (t ∷ ts) a = by (is_at (exponents_cmp k) t.0) (above_remove x k ts a.1)
  where
    by : (b : Bool) → AllByRecursion (λ y. exponents_cmp x y ≡ Less) (keys_of (remove_entry (is_at (exponents_cmp k)) ts))
        → AllByRecursion (λ y. exponents_cmp x y ≡ Less) (keys_of (cond b ts (t ∷ remove_entry (is_at (exponents_cmp k)) ts)))
    by true later = a.1
    by false later = (a.0, later)

all_above : (k l : List ℤ) (ks : List (List ℤ)) → exponents_cmp k l ≡ Less → AllByRecursion (λ y. exponents_cmp l y ≡ Less) ks → AllByRecursion (λ y. exponents_cmp k y ≡ Less) ks
all_above k l [] h a = tt
all_above k l (y ∷ ks) h a = (o.trans k l y h a.0, all_above k l ks h a.1)

sorted_insert : (k : List ℤ) (z : ℤ) (f : List Monomial) → Sorted f → Sorted (insert_entry exponents_cmp f k z)
unfolding IsStrictlySortedBy
sorted_insert k z [] s = (tt, tt)
sorted_insert k z (t ∷ ts) s = by (exponents_cmp k t.0) refl (sorted_insert k z ts s.1)
  where
    by : (r : Ordering) → exponents_cmp k t.0 ≡ r → Sorted (insert_entry exponents_cmp ts k z) → Sorted (match_ordering r ((k, z) ∷ t ∷ ts) ((t.0, z) ∷ ts) (t ∷ insert_entry exponents_cmp ts k z))
    by Less h later = ((h, all_above k t.0 (keys_of ts) h s.0), s)
    by Equal h later = s
    by Greater h later = (above_insert t.0 k z ts (greater_back k t.0 h) s.0, later)

sorted_remove : (k : List ℤ) (f : List Monomial) → Sorted f → Sorted (remove_entry (is_at (exponents_cmp k)) f)
unfolding IsStrictlySortedBy
sorted_remove k [] s = tt
sorted_remove k (t ∷ ts) s = by (is_at (exponents_cmp k) t.0) (sorted_remove k ts s.1)
  where
    by : (b : Bool) → Sorted (remove_entry (is_at (exponents_cmp k)) ts) → Sorted (cond b ts (t ∷ remove_entry (is_at (exponents_cmp k)) ts))
    by true later = s.1
    by false later = (above_remove t.0 k ts s.0, later)

numbers_insert : (k : List ℤ) (z : ℤ) (f : List Monomial) → z ≢ pos 0 → HasNumbers f → HasNumbers (insert_entry exponents_cmp f k z)
numbers_insert k z [] n h = (n, tt)
numbers_insert k z (t ∷ ts) n h = by (exponents_cmp k t.0) (numbers_insert k z ts n h.1)
  where
    by : (r : Ordering) → HasNumbers (insert_entry exponents_cmp ts k z) → HasNumbers (match_ordering r ((k, z) ∷ t ∷ ts) ((t.0, z) ∷ ts) (t ∷ insert_entry exponents_cmp ts k z))
    by Less later = (n, h)
    by Equal later = (n, h.1)
    by Greater later = (h.0, later)

numbers_remove : (k : List ℤ) (f : List Monomial) → HasNumbers f → HasNumbers (remove_entry (is_at (exponents_cmp k)) f)
numbers_remove k [] h = tt
numbers_remove k (t ∷ ts) h = by (is_at (exponents_cmp k) t.0) (numbers_remove k ts h.1)
  where
    by : (b : Bool) → HasNumbers (remove_entry (is_at (exponents_cmp k)) ts) → HasNumbers (cond b ts (t ∷ remove_entry (is_at (exponents_cmp k)) ts))
    by true later = h.1
    by false later = (h.0, later)

-- ---- one term more

-- a map: its lists of exponents ascend, and no number is 0
pub record IsMap (f : List Monomial) : Type 0 where
  pub ascending : Sorted f
  pub numbers : HasNumbers f

pub nil_is_map : IsMap []
unfolding IsStrictlySortedBy
nil_is_map = record { ascending = tt; numbers = tt }

zero_is : (z : ℤ) → int_eq z (pos 0) ≡ true → z ≡ pos 0
zero_is z h = search rules

zero_not : (z : ℤ) → int_eq z (pos 0) ≡ false → z ≢ pos 0
zero_not z h e = let a : int_eq z (pos 0) ≡ true = rw e refl in cc

same_number : (c : Bool) (z w : ℤ) → z ≡ pos 0 → (if c then pos 0 else w) ≡ (if c then z else w)
same_number c z w e = rw e refl

record Changed (k : List ℤ) (z : ℤ) (f g : List Monomial) : Type 0 where
  is_map : IsMap g
  totals : (xs : List ℤ) → total_at xs g ≡ (if are_same xs k then z else total_at xs f)

changed_by : (b : Bool) (k : List ℤ) (z : ℤ) (f : List Monomial) → int_eq z (pos 0) ≡ b → IsMap f → Changed k z f (if b then remove_entry (is_at (exponents_cmp k)) f else insert_entry exponents_cmp f k z)
changed_by true k z f e m = record {
  is_map = record { ascending = sorted_remove k f m.ascending; numbers = numbers_remove k f m.numbers };
  totals = λ xs. total_remove xs k f m.ascending ∙ same_number (are_same xs k) z (total_at xs f) (zero_is z e);
}
changed_by false k z f e m = record {
  is_map = record { ascending = sorted_insert k z f m.ascending; numbers = numbers_insert k z f (zero_not z e) m.numbers };
  totals = λ xs. total_insert xs k z f m.ascending;
}

more_by : (b : Bool) (here w rest : ℤ) → (b ≡ true → here ≡ rest) → (if b then here +ℤ w else rest) ≡ rest +ℤ (if b then w else pos 0)
more_by true here w rest g = let a = g refl in omega (arith, ints, a)
more_by false here w rest g = omega (arith, ints)

pub record IsMore (f : List Monomial) (t : Monomial) (g : List Monomial) : Type 0 where
  pub is_map : IsMap g
  pub totals : (xs : List ℤ) → total_at xs g ≡ total_at xs f +ℤ number_at xs t

pub one_more : (f : List Monomial) (t : Monomial) → IsMap f → IsMore f t (plus_term f t)
unfolding plus_term with_coefficient
one_more f t m =
    let z = coefficient t.0 f +ℤ t.1 in
    let c : Changed t.0 (coefficient t.0 f +ℤ t.1) f (plus_term f t) = changed_by (int_eq z (pos 0)) t.0 z f refl m in
    record {
      is_map = c.is_map;
      totals = λ xs. c.totals xs ∙ more_by (are_same xs t.0) (coefficient t.0 f) t.1 (total_at xs f)
          (λ h. coefficient_total t.0 f m.ascending ∙ ap (λ (ys : List ℤ). total_at ys f) (sym (same_is xs t.0 h)));
    }
