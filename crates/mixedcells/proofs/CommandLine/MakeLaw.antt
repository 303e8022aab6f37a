-- Words after `make` that have a meaning are of a right shape.
use Rattle.std.proofs.Common.{◌≡◌, ℕ, zero, suc, List, [], ◌∷◌, ◌++◌, ◌==◌, ◌⊎◌, inl, inr, ⊎_elim, codes, Bool, true, false, refl, Option, Some, None, option_map, option_and_then, ap, ◌∙◌, sym, subst, if◌then◌else◌, length, take, drop, append-nil}
use Rattle.std.proofs.lemmas.List.{take-append-drop}
use Rattle.std.specs.Bool.{⊤}
use Rattle.std.specs.Str.{bytes_eq}
use Rattle.clap.specs.Walk.{Text}
use Rattle.mixedcells.specs.declared.words.meaning.Family.{Family}
use Rattle.mixedcells.specs.declared.words.meaning.Meaning.{Meaning}
use Rattle.mixedcells.specs.declared.words.meaning.Meaning.TheVariants as meaning
use Rattle.mixedcells.specs.Words.{after, number, cyclic, scatter_of, scatter, family_of, seed_of, seed_in, seed_place, making, made_by_two, made_of, made, meaning_found, meaning_of}
use Rattle.mixedcells.specs.Reading.{Read}
use Rattle.mixedcells.proofs.CommandLine.Law.{IsRead, is_same, after_is, number_starts, law_above, some_of}
use Rattle.mixedcells.proofs.CommandLine.Makes.{IsMakeRead, cyclic_no, cyclic_joined0, cyclic_joined1, cyclic_joined2, cyclic_two0, cyclic_two1, cyclic_two2, scatter_no, scatter_joined0, scatter_joined1, scatter_joined2, scatter_joined3, scatter_joined4, scatter_two0, scatter_two1, scatter_two2, scatter_two3, scatter_two4}

-- the option's words o stand after the first i words
abbrev insert : ℕ → List Text → List Text → List Text
insert zero o ps = o ++ ps
insert (suc i) o [] = o
insert (suc i) o (p ∷ ps) = p ∷ insert i o ps

abbrev Mixed : List Text → List Text → List Text → Type 0
Mixed ws ps [] = ws ≡ ps
Mixed ws ps (v ∷ []) = (i : ℕ) × ((ws ≡ insert i ((codes "--seed=" ++ v) ∷ []) ps) ⊎ (ws ≡ insert i (codes "--seed" ∷ v ∷ []) ps))
Mixed ws ps (v ∷ u ∷ us) = ⊤

-- the option stands where the words before it end
insert_is : (front o rest : List Text) → front ++ (o ++ rest) ≡ insert (length front) o (front ++ rest)
insert_is [] o rest = refl
insert_is (w ∷ front) o rest = ap (λ l. w ∷ l) (insert_is front o rest)

-- ---- what is known of the parts

abbrev Starts : Text → Type 0
Starts v = (x : ℕ) × (xs : Text) × (v ≡ x ∷ xs) × ((x == 45) ≡ false)

family_some : (o : Option Family) (s : Option ℕ) (m : Meaning) → option_and_then (λ f. option_map (meaning.Make f) s) o ≡ Some m → (f : Family) × (o ≡ Some f)
family_some None s m e = cc
family_some (Some f) s m e = (f, refl)

seed_some : (o : Option Family) (s : Option ℕ) (m : Meaning) → option_and_then (λ f. option_map (meaning.Make f) s) o ≡ Some m → (k : ℕ) × (s ≡ Some k)
seed_some None s m e = cc
seed_some (Some f) None m e = cc
seed_some (Some f) (Some k) m e = (k, refl)

seed_never : (o : Option Family) (m : Meaning) (P : Type 0) → option_and_then (λ f. option_map (meaning.Make f) None) o ≡ Some m → P
seed_never None m P e = cc
seed_never (Some f) m P e = cc

three_some : (a b c : Option ℕ) (y : Family) → option_and_then (λ n. option_and_then (λ m. option_and_then (scatter_of n m) c) b) a ≡ Some y
    → ((k : ℕ) × (a ≡ Some k)) × ((k : ℕ) × (b ≡ Some k)) × ((k : ℕ) × (c ≡ Some k))
three_some None b c y e = cc
three_some (Some i) None c y e = cc
three_some (Some i) (Some j) None y e = cc
three_some (Some i) (Some j) (Some l) y e = ((i, refl), (j, refl), (l, refl))

pub read_is : (ws : List Text) (r : Read) (m : Meaning) → IsMakeRead ws r → meaning_found (Some r) ≡ Some m → IsRead (codes "make" ∷ ws) m
read_is ws r m i e = (i.0, ap meaning_found i.1 ∙ e)

cyclic_joined : (n : ℕ) (ns : Text) (v : Text) (m0 : Meaning) → (n == 45) ≡ false → (i : ℕ) → making (codes "cyclic" ∷ (n ∷ ns) ∷ []) (v ∷ []) ≡ Some m0 → IsRead (codes "make" ∷ insert i ((codes "--seed=" ++ v) ∷ []) (codes "cyclic" ∷ (n ∷ ns) ∷ [])) m0
cyclic_joined n ns v m0 hn zero e = read_is ((codes "--seed=" ++ v) ∷ codes "cyclic" ∷ (n ∷ ns) ∷ []) _ m0 (cyclic_joined0 n ns v hn) e
cyclic_joined n ns v m0 hn (suc zero) e = read_is (codes "cyclic" ∷ (codes "--seed=" ++ v) ∷ (n ∷ ns) ∷ []) _ m0 (cyclic_joined1 n ns v hn) e
cyclic_joined n ns v m0 hn (suc (suc zero)) e = read_is (codes "cyclic" ∷ (n ∷ ns) ∷ (codes "--seed=" ++ v) ∷ []) _ m0 (cyclic_joined2 n ns v hn) e
cyclic_joined n ns v m0 hn (suc (suc (suc j))) e = read_is (codes "cyclic" ∷ (n ∷ ns) ∷ (codes "--seed=" ++ v) ∷ []) _ m0 (cyclic_joined2 n ns v hn) e

cyclic_two : (n : ℕ) (ns : Text) (x : ℕ) (xs : Text) (m0 : Meaning) → (n == 45) ≡ false → (x == 45) ≡ false → (i : ℕ) → making (codes "cyclic" ∷ (n ∷ ns) ∷ []) ((x ∷ xs) ∷ []) ≡ Some m0 → IsRead (codes "make" ∷ insert i (codes "--seed" ∷ (x ∷ xs) ∷ []) (codes "cyclic" ∷ (n ∷ ns) ∷ [])) m0
cyclic_two n ns x xs m0 hn hx zero e = read_is (codes "--seed" ∷ (x ∷ xs) ∷ codes "cyclic" ∷ (n ∷ ns) ∷ []) _ m0 (cyclic_two0 n ns x xs hn hx) e
cyclic_two n ns x xs m0 hn hx (suc zero) e = read_is (codes "cyclic" ∷ codes "--seed" ∷ (x ∷ xs) ∷ (n ∷ ns) ∷ []) _ m0 (cyclic_two1 n ns x xs hn hx) e
cyclic_two n ns x xs m0 hn hx (suc (suc zero)) e = read_is (codes "cyclic" ∷ (n ∷ ns) ∷ codes "--seed" ∷ (x ∷ xs) ∷ []) _ m0 (cyclic_two2 n ns x xs hn hx) e
cyclic_two n ns x xs m0 hn hx (suc (suc (suc j))) e = read_is (codes "cyclic" ∷ (n ∷ ns) ∷ codes "--seed" ∷ (x ∷ xs) ∷ []) _ m0 (cyclic_two2 n ns x xs hn hx) e

cyclic_value : (n : ℕ) (ns : Text) (v : Text) (m0 : Meaning) → (n == 45) ≡ false → Starts v → (i : ℕ) → making (codes "cyclic" ∷ (n ∷ ns) ∷ []) (v ∷ []) ≡ Some m0 → IsRead (codes "make" ∷ insert i (codes "--seed" ∷ v ∷ []) (codes "cyclic" ∷ (n ∷ ns) ∷ [])) m0
cyclic_value n ns v m0 hn s i e = subst (λ t. IsRead (codes "make" ∷ insert i (codes "--seed" ∷ t ∷ []) (codes "cyclic" ∷ (n ∷ ns) ∷ [])) m0) (sym s.2)
    (cyclic_two n ns s.0 s.1 m0 hn s.3 i (subst (λ t. making (codes "cyclic" ∷ (n ∷ ns) ∷ []) (t ∷ []) ≡ Some m0) s.2 e))

cyclic_mixed : (n : ℕ) (ns : Text) (ss ws : List Text) (m0 : Meaning) → (n == 45) ≡ false → Mixed ws (codes "cyclic" ∷ (n ∷ ns) ∷ []) ss → making (codes "cyclic" ∷ (n ∷ ns) ∷ []) ss ≡ Some m0 → IsRead (codes "make" ∷ ws) m0
cyclic_mixed n ns [] ws m0 hn x e = subst (λ l. IsRead (codes "make" ∷ l) m0) (sym x) (read_is (codes "cyclic" ∷ (n ∷ ns) ∷ []) _ m0 (cyclic_no n ns hn) e)
cyclic_mixed n ns (v ∷ []) ws m0 hn x e =
    let q = seed_some (family_of (codes "cyclic" ∷ (n ∷ ns) ∷ [])) (seed_in v) m0 e in
    ⊎_elim (λ y. subst (λ l. IsRead (codes "make" ∷ l) m0) (sym y) (cyclic_joined n ns v m0 hn x.0 e))
    (λ z. subst (λ l. IsRead (codes "make" ∷ l) m0) (sym z) (cyclic_value n ns v m0 hn (number_starts 0 18446744073709551615 v q.0 q.1) x.0 e)) x.1
cyclic_mixed n ns (v ∷ u ∷ us) ws m0 hn x e = seed_never (family_of (codes "cyclic" ∷ (n ∷ ns) ∷ [])) m0 (IsRead (codes "make" ∷ ws) m0) e

scatter_joined : (n : ℕ) (ns : Text) (m : ℕ) (ms : Text) (k : ℕ) (ks : Text) (v : Text) (m0 : Meaning) → (n == 45) ≡ false → (m == 45) ≡ false → (k == 45) ≡ false → (i : ℕ) → making (codes "scatter" ∷ (n ∷ ns) ∷ (m ∷ ms) ∷ (k ∷ ks) ∷ []) (v ∷ []) ≡ Some m0 → IsRead (codes "make" ∷ insert i ((codes "--seed=" ++ v) ∷ []) (codes "scatter" ∷ (n ∷ ns) ∷ (m ∷ ms) ∷ (k ∷ ks) ∷ [])) m0
scatter_joined n ns m ms k ks v m0 hn hm hk zero e = read_is ((codes "--seed=" ++ v) ∷ codes "scatter" ∷ (n ∷ ns) ∷ (m ∷ ms) ∷ (k ∷ ks) ∷ []) _ m0 (scatter_joined0 n ns m ms k ks v hn hm hk) e
scatter_joined n ns m ms k ks v m0 hn hm hk (suc zero) e = read_is (codes "scatter" ∷ (codes "--seed=" ++ v) ∷ (n ∷ ns) ∷ (m ∷ ms) ∷ (k ∷ ks) ∷ []) _ m0 (scatter_joined1 n ns m ms k ks v hn hm hk) e
scatter_joined n ns m ms k ks v m0 hn hm hk (suc (suc zero)) e = read_is (codes "scatter" ∷ (n ∷ ns) ∷ (codes "--seed=" ++ v) ∷ (m ∷ ms) ∷ (k ∷ ks) ∷ []) _ m0 (scatter_joined2 n ns m ms k ks v hn hm hk) e
scatter_joined n ns m ms k ks v m0 hn hm hk (suc (suc (suc zero))) e = read_is (codes "scatter" ∷ (n ∷ ns) ∷ (m ∷ ms) ∷ (codes "--seed=" ++ v) ∷ (k ∷ ks) ∷ []) _ m0 (scatter_joined3 n ns m ms k ks v hn hm hk) e
scatter_joined n ns m ms k ks v m0 hn hm hk (suc (suc (suc (suc zero)))) e = read_is (codes "scatter" ∷ (n ∷ ns) ∷ (m ∷ ms) ∷ (k ∷ ks) ∷ (codes "--seed=" ++ v) ∷ []) _ m0 (scatter_joined4 n ns m ms k ks v hn hm hk) e
scatter_joined n ns m ms k ks v m0 hn hm hk (suc (suc (suc (suc (suc j))))) e = read_is (codes "scatter" ∷ (n ∷ ns) ∷ (m ∷ ms) ∷ (k ∷ ks) ∷ (codes "--seed=" ++ v) ∷ []) _ m0 (scatter_joined4 n ns m ms k ks v hn hm hk) e

scatter_two : (n : ℕ) (ns : Text) (m : ℕ) (ms : Text) (k : ℕ) (ks : Text) (x : ℕ) (xs : Text) (m0 : Meaning) → (n == 45) ≡ false → (m == 45) ≡ false → (k == 45) ≡ false → (x == 45) ≡ false → (i : ℕ) → making (codes "scatter" ∷ (n ∷ ns) ∷ (m ∷ ms) ∷ (k ∷ ks) ∷ []) ((x ∷ xs) ∷ []) ≡ Some m0 → IsRead (codes "make" ∷ insert i (codes "--seed" ∷ (x ∷ xs) ∷ []) (codes "scatter" ∷ (n ∷ ns) ∷ (m ∷ ms) ∷ (k ∷ ks) ∷ [])) m0
scatter_two n ns m ms k ks x xs m0 hn hm hk hx zero e = read_is (codes "--seed" ∷ (x ∷ xs) ∷ codes "scatter" ∷ (n ∷ ns) ∷ (m ∷ ms) ∷ (k ∷ ks) ∷ []) _ m0 (scatter_two0 n ns m ms k ks x xs hn hm hk hx) e
scatter_two n ns m ms k ks x xs m0 hn hm hk hx (suc zero) e = read_is (codes "scatter" ∷ codes "--seed" ∷ (x ∷ xs) ∷ (n ∷ ns) ∷ (m ∷ ms) ∷ (k ∷ ks) ∷ []) _ m0 (scatter_two1 n ns m ms k ks x xs hn hm hk hx) e
scatter_two n ns m ms k ks x xs m0 hn hm hk hx (suc (suc zero)) e = read_is (codes "scatter" ∷ (n ∷ ns) ∷ codes "--seed" ∷ (x ∷ xs) ∷ (m ∷ ms) ∷ (k ∷ ks) ∷ []) _ m0 (scatter_two2 n ns m ms k ks x xs hn hm hk hx) e
scatter_two n ns m ms k ks x xs m0 hn hm hk hx (suc (suc (suc zero))) e = read_is (codes "scatter" ∷ (n ∷ ns) ∷ (m ∷ ms) ∷ codes "--seed" ∷ (x ∷ xs) ∷ (k ∷ ks) ∷ []) _ m0 (scatter_two3 n ns m ms k ks x xs hn hm hk hx) e
scatter_two n ns m ms k ks x xs m0 hn hm hk hx (suc (suc (suc (suc zero)))) e = read_is (codes "scatter" ∷ (n ∷ ns) ∷ (m ∷ ms) ∷ (k ∷ ks) ∷ codes "--seed" ∷ (x ∷ xs) ∷ []) _ m0 (scatter_two4 n ns m ms k ks x xs hn hm hk hx) e
scatter_two n ns m ms k ks x xs m0 hn hm hk hx (suc (suc (suc (suc (suc j))))) e = read_is (codes "scatter" ∷ (n ∷ ns) ∷ (m ∷ ms) ∷ (k ∷ ks) ∷ codes "--seed" ∷ (x ∷ xs) ∷ []) _ m0 (scatter_two4 n ns m ms k ks x xs hn hm hk hx) e

scatter_value : (n : ℕ) (ns : Text) (m : ℕ) (ms : Text) (k : ℕ) (ks : Text) (v : Text) (m0 : Meaning) → (n == 45) ≡ false → (m == 45) ≡ false → (k == 45) ≡ false → Starts v → (i : ℕ) → making (codes "scatter" ∷ (n ∷ ns) ∷ (m ∷ ms) ∷ (k ∷ ks) ∷ []) (v ∷ []) ≡ Some m0 → IsRead (codes "make" ∷ insert i (codes "--seed" ∷ v ∷ []) (codes "scatter" ∷ (n ∷ ns) ∷ (m ∷ ms) ∷ (k ∷ ks) ∷ [])) m0
scatter_value n ns m ms k ks v m0 hn hm hk s i e = subst (λ t. IsRead (codes "make" ∷ insert i (codes "--seed" ∷ t ∷ []) (codes "scatter" ∷ (n ∷ ns) ∷ (m ∷ ms) ∷ (k ∷ ks) ∷ [])) m0) (sym s.2)
    (scatter_two n ns m ms k ks s.0 s.1 m0 hn hm hk s.3 i (subst (λ t. making (codes "scatter" ∷ (n ∷ ns) ∷ (m ∷ ms) ∷ (k ∷ ks) ∷ []) (t ∷ []) ≡ Some m0) s.2 e))

scatter_mixed : (n : ℕ) (ns : Text) (m : ℕ) (ms : Text) (k : ℕ) (ks : Text) (ss ws : List Text) (m0 : Meaning) → (n == 45) ≡ false → (m == 45) ≡ false → (k == 45) ≡ false → Mixed ws (codes "scatter" ∷ (n ∷ ns) ∷ (m ∷ ms) ∷ (k ∷ ks) ∷ []) ss → making (codes "scatter" ∷ (n ∷ ns) ∷ (m ∷ ms) ∷ (k ∷ ks) ∷ []) ss ≡ Some m0 → IsRead (codes "make" ∷ ws) m0
scatter_mixed n ns m ms k ks [] ws m0 hn hm hk x e = subst (λ l. IsRead (codes "make" ∷ l) m0) (sym x) (read_is (codes "scatter" ∷ (n ∷ ns) ∷ (m ∷ ms) ∷ (k ∷ ks) ∷ []) _ m0 (scatter_no n ns m ms k ks hn hm hk) e)
scatter_mixed n ns m ms k ks (v ∷ []) ws m0 hn hm hk x e =
    let q = seed_some (family_of (codes "scatter" ∷ (n ∷ ns) ∷ (m ∷ ms) ∷ (k ∷ ks) ∷ [])) (seed_in v) m0 e in
    ⊎_elim (λ y. subst (λ l. IsRead (codes "make" ∷ l) m0) (sym y) (scatter_joined n ns m ms k ks v m0 hn hm hk x.0 e))
    (λ z. subst (λ l. IsRead (codes "make" ∷ l) m0) (sym z) (scatter_value n ns m ms k ks v m0 hn hm hk (number_starts 0 18446744073709551615 v q.0 q.1) x.0 e)) x.1
scatter_mixed n ns m ms k ks (v ∷ u ∷ us) ws m0 hn hm hk x e = seed_never (family_of (codes "scatter" ∷ (n ∷ ns) ∷ (m ∷ ms) ∷ (k ∷ ks) ∷ [])) m0 (IsRead (codes "make" ∷ ws) m0) e

cyclic_started : (n : Text) (ss ws : List Text) (m0 : Meaning) → Starts n → Mixed ws (codes "cyclic" ∷ n ∷ []) ss → making (codes "cyclic" ∷ n ∷ []) ss ≡ Some m0 → IsRead (codes "make" ∷ ws) m0
cyclic_started n ss ws m0 s x e = cyclic_mixed s.0 s.1 ss ws m0 s.3 (subst (λ t. Mixed ws (codes "cyclic" ∷ t ∷ []) ss) s.2 x) (subst (λ t. making (codes "cyclic" ∷ t ∷ []) ss ≡ Some m0) s.2 e)

scatter_started : (n m k : Text) (ss ws : List Text) (m0 : Meaning) → Starts n → Starts m → Starts k → Mixed ws (codes "scatter" ∷ n ∷ m ∷ k ∷ []) ss → making (codes "scatter" ∷ n ∷ m ∷ k ∷ []) ss ≡ Some m0 → IsRead (codes "make" ∷ ws) m0
scatter_started n m k ss ws m0 s t u x e = scatter_mixed s.0 s.1 t.0 t.1 u.0 u.1 ss ws m0 s.3 t.3 u.3
    (subst (λ a. Mixed ws (codes "scatter" ∷ a ∷ (t.0 ∷ t.1) ∷ (u.0 ∷ u.1) ∷ []) ss) s.2 (subst (λ b. Mixed ws (codes "scatter" ∷ n ∷ b ∷ (u.0 ∷ u.1) ∷ []) ss) t.2 (subst (λ c. Mixed ws (codes "scatter" ∷ n ∷ m ∷ c ∷ []) ss) u.2 x)))
    (subst (λ a. making (codes "scatter" ∷ a ∷ (t.0 ∷ t.1) ∷ (u.0 ∷ u.1) ∷ []) ss ≡ Some m0) s.2 (subst (λ b. making (codes "scatter" ∷ n ∷ b ∷ (u.0 ∷ u.1) ∷ []) ss ≡ Some m0) t.2 (subst (λ c. making (codes "scatter" ∷ n ∷ m ∷ c ∷ []) ss ≡ Some m0) u.2 e)))

cyclic_named : (f n : Text) (b : Bool) (ss ws : List Text) (m0 : Meaning) (y : Family) → bytes_eq f (codes "cyclic") ≡ b → (if b then cyclic n else None) ≡ Some y
    → Mixed ws (f ∷ n ∷ []) ss → making (f ∷ n ∷ []) ss ≡ Some m0 → IsRead (codes "make" ∷ ws) m0
cyclic_named f n false ss ws m0 y s g x e = cc
cyclic_named f n true ss ws m0 y s g x e =
    let k = some_of _ (number 2 16 n) y g in
    cyclic_started n ss ws m0 (number_starts 2 16 n k.0 k.1) (subst (λ t. Mixed ws (t ∷ n ∷ []) ss) (is_same f (codes "cyclic") s) x)
    (subst (λ t. making (t ∷ n ∷ []) ss ≡ Some m0) (is_same f (codes "cyclic") s) e)

scatter_named : (f n m k : Text) (b : Bool) (ss ws : List Text) (m0 : Meaning) (y : Family) → bytes_eq f (codes "scatter") ≡ b → (if b then scatter n m k else None) ≡ Some y
    → Mixed ws (f ∷ n ∷ m ∷ k ∷ []) ss → making (f ∷ n ∷ m ∷ k ∷ []) ss ≡ Some m0 → IsRead (codes "make" ∷ ws) m0
scatter_named f n m k false ss ws m0 y s g x e = cc
scatter_named f n m k true ss ws m0 y s g x e =
    let q = three_some (number 1 16 n) (number 1 1000 m) (number 0 1000000 k) y g in
    scatter_started n m k ss ws m0 (number_starts 1 16 n q.0.0 q.0.1) (number_starts 1 1000 m q.1.0 q.1.1) (number_starts 0 1000000 k q.2.0 q.2.1)
    (subst (λ t. Mixed ws (t ∷ n ∷ m ∷ k ∷ []) ss) (is_same f (codes "scatter") s) x)
    (subst (λ t. making (t ∷ n ∷ m ∷ k ∷ []) ss ≡ Some m0) (is_same f (codes "scatter") s) e)

make_mixed : (ps ss ws : List Text) (m0 : Meaning) → Mixed ws ps ss → making ps ss ≡ Some m0 → IsRead (codes "make" ∷ ws) m0
make_mixed [] ss ws m0 x e = cc
make_mixed (f ∷ []) ss ws m0 x e = cc
make_mixed (f ∷ n ∷ []) ss ws m0 x e = let y = family_some (family_of (f ∷ n ∷ [])) (seed_of ss) m0 e in cyclic_named f n (bytes_eq f (codes "cyclic")) ss ws m0 y.0 refl y.1 x e
make_mixed (f ∷ n ∷ m ∷ []) ss ws m0 x e = cc
make_mixed (f ∷ n ∷ m ∷ k ∷ []) ss ws m0 x e = let y = family_some (family_of (f ∷ n ∷ m ∷ k ∷ [])) (seed_of ss) m0 e in scatter_named f n m k (bytes_eq f (codes "scatter")) ss ws m0 y.0 refl y.1 x e
make_mixed (f ∷ n ∷ m ∷ k ∷ l ∷ ls) ss ws m0 x e = cc

two_law : (front rest : List Text) (m : Meaning) → made_by_two front rest ≡ Some m → IsRead (codes "make" ∷ front ++ codes "--seed" ∷ rest) m
two_law front [] m e = cc
two_law front (v ∷ rest) m e = make_mixed (front ++ rest) (v ∷ []) _ m (length front, inr (insert_is front (codes "--seed" ∷ v ∷ []) rest)) e

joined_law : (front rest : List Text) (w : Text) (o : Option Text) (m : Meaning) → after (codes "--seed=") w ≡ o
    → option_and_then (λ v. making (front ++ rest) (v ∷ [])) o ≡ Some m → IsRead (codes "make" ∷ front ++ w ∷ rest) m
joined_law front rest w None m s e = cc
joined_law front rest w (Some v) m s e = subst (λ t. IsRead (codes "make" ∷ front ++ t ∷ rest) m) (sym (after_is (codes "--seed=") w v s))
    (make_mixed (front ++ rest) (v ∷ []) _ m (length front, inl (insert_is front ((codes "--seed=" ++ v) ∷ []) rest)) e)

option_law : (front rest : List Text) (w : Text) (b : Bool) (m : Meaning) → bytes_eq w (codes "--seed") ≡ b
    → (if b then made_by_two front rest else option_and_then (λ v. making (front ++ rest) (v ∷ [])) (after (codes "--seed=") w)) ≡ Some m → IsRead (codes "make" ∷ front ++ w ∷ rest) m
option_law front rest w true m s e = subst (λ t. IsRead (codes "make" ∷ front ++ t ∷ rest) m) (sym (is_same w (codes "--seed") s)) (two_law front rest m e)
option_law front rest w false m s e = joined_law front rest w (after (codes "--seed=") w) m refl e

made_law : (front back : List Text) (m : Meaning) → made_of front back ≡ Some m → IsRead (codes "make" ∷ front ++ back) m
made_law front [] m e = make_mixed front [] (front ++ []) m (append-nil front) e
made_law front (w ∷ rest) m e = option_law front rest w (bytes_eq w (codes "--seed")) m refl e

make_law : (ws : List Text) (m : Meaning) → made ws ≡ Some m → IsRead (codes "make" ∷ ws) m
make_law ws m e = subst (λ l. IsRead (codes "make" ∷ l) m) (take-append-drop (seed_place ws) ws) (made_law (take (seed_place ws) ws) (drop (seed_place ws) ws) m e)

-- words with a meaning are taken by `clap`, and what is read has that meaning
pub law : (ws : List Text) (m : Meaning) → meaning_of ws ≡ Some m → IsRead ws m
law [] m e = cc
law (w ∷ ws) m e = law_above w ws m (make_law ws m) e
