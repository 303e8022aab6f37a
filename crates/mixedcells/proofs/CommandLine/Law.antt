-- Words with a meaning are taken, and what is read has that meaning.
use Rattle.std.proofs.Common.{◌≡◌, ℕ, List, [], ◌∷◌, ◌++◌, ◌==◌, ◌&&◌, Bool, codes, true, false, refl, ap, ap₂, ◌∙◌, sym, subst, Option, Some, None, option_map, option_and_then, if◌then◌else◌, length, nat_le}
use Rattle.std.specs.List.{list_all}
use Rattle.std.specs.Char.{is_ascii_digit}
use Rattle.std.specs.Str.{bytes_eq}
use Rattle.std.specs.Str.Parse.{digits_value}
use Rattle.std.proofs.lemmas.Slice.Eq.{bytes_eq-Decides}
use Rattle.std.proofs.lemmas.Bool.{eqb-true}
use Rattle.clap.specs.Walk.{Text}
use Rattle.clap.specs.Takes.{takes}
use Rattle.clap.specs.Simple.{subcommand_of}
use Rattle.mixedcells.specs.declared.words.meaning.Meaning.{Meaning}
use Rattle.mixedcells.specs.declared.words.meaning.Meaning.TheVariants as meaning
use Rattle.mixedcells.specs.CommandLine.{top}
use Rattle.mixedcells.specs.Reading.{read}
use Rattle.mixedcells.specs.Words.{after, alone, number, searchers_in, seed_in, searchers, system_seed, meaning_found, meaning_of, made}
use Rattle.mixedcells.proofs.CommandLine.Shapes.{plain_taken, plain_read, check_taken, check_read, powers_taken, powers_read, generic_taken, generic_read, move_taken, move_read, trace_taken, trace_read, verify_taken, verify_read, poly_taken, poly_read, poly_joined_taken, poly_joined_read, poly_two_taken, poly_two_read, list_taken, list_read, list_joined_taken, list_joined_read, list_two_taken, list_two_read, sum_taken, sum_read, sum_joined_taken, sum_joined_read, sum_two_taken, sum_two_read}

abbrev pub IsRead : List Text → Meaning → Type 0
IsRead ws m = (takes top ws ≡ true) × (meaning_found (read (subcommand_of top ws)) ≡ Some m)

pub is_same : (w t : Text) → bytes_eq w t ≡ true → w ≡ t
is_same w t e = (bytes_eq-Decides w t).0 e

tested : (p b : ℕ) (t : Bool) → (p == b) ≡ t → (q w v : Text) → (if t then after q w else None) ≡ Some v → (after q w ≡ Some v → w ≡ q ++ v) → b ∷ w ≡ (p ∷ q) ++ v
tested p b false s q w v e f = cc
tested p b true s q w v e f = ap₂ (λ x y. x ∷ y) (sym (eqb-true p b s)) (f e)

pub after_is : (p w v : Text) → after p w ≡ Some v → w ≡ p ++ v
after_is [] w v e = cc
after_is (p ∷ ps) [] v e = cc
after_is (p ∷ ps) (b ∷ bs) v e = tested p b (p == b) refl ps bs v e (after_is ps bs v)

third : {X : Type 0} (a b c d z : Bool) (n k : X) → (if (a && (b && (c && d))) && z then Some n else None) ≡ Some k → c ≡ true
third false b c d z n k e = cc
third true false c d z n k e = cc
third true true false d z n k e = cc
third true true true d z n k e = refl

no_hyphen : (x : ℕ) (t : Bool) → (x == 45) ≡ t → is_ascii_digit x ≡ true → t ≡ false
no_hyphen x false e d = refl
no_hyphen x true e d = let same = eqb-true x 45 e in let bad = subst (λ y. is_ascii_digit y ≡ true) same d in cc

-- a number does not begin with a hyphen
pub number_starts : (low high : ℕ) (v : Text) (k : ℕ) → number low high v ≡ Some k → (x : ℕ) × (xs : Text) × (v ≡ x ∷ xs) × ((x == 45) ≡ false)
number_starts low high [] k e = cc
number_starts low high (x ∷ xs) k e =
    let d = third (nat_le 1 (length (x ∷ xs))) (nat_le (length (x ∷ xs)) 20) (is_ascii_digit x) (list_all is_ascii_digit xs) (nat_le low (digits_value 10 (x ∷ xs)) && nat_le (digits_value 10 (x ∷ xs)) high) (digits_value 10 (x ∷ xs)) k e in
    (x, xs, refl, no_hyphen x (x == 45) refl d)

pub some_of : {X Y : Type 0} (f : X → Y) (o : Option X) (y : Y) → option_map f o ≡ Some y → (x : X) × (o ≡ Some x)
some_of f None y e = cc
some_of f (Some x) y e = (x, refl)

plain_law : (ws : List Text) (m : Meaning) → alone meaning.Plain ws ≡ Some m → IsRead (codes "plain" ∷ ws) m
plain_law [] m e = (plain_taken, ap meaning_found plain_read ∙ e)
plain_law (w ∷ ws) m e = cc

check_law : (ws : List Text) (m : Meaning) → alone meaning.Check ws ≡ Some m → IsRead (codes "check" ∷ ws) m
check_law [] m e = (check_taken, ap meaning_found check_read ∙ e)
check_law (w ∷ ws) m e = cc

powers_law : (ws : List Text) (m : Meaning) → alone meaning.Powers ws ≡ Some m → IsRead (codes "powers" ∷ ws) m
powers_law [] m e = (powers_taken, ap meaning_found powers_read ∙ e)
powers_law (w ∷ ws) m e = cc

generic_law : (ws : List Text) (m : Meaning) → alone meaning.Generic ws ≡ Some m → IsRead (codes "generic" ∷ ws) m
generic_law [] m e = (generic_taken, ap meaning_found generic_read ∙ e)
generic_law (w ∷ ws) m e = cc

move_law : (ws : List Text) (m : Meaning) → alone meaning.Move ws ≡ Some m → IsRead (codes "move" ∷ ws) m
move_law [] m e = (move_taken, ap meaning_found move_read ∙ e)
move_law (w ∷ ws) m e = cc

trace_law : (ws : List Text) (m : Meaning) → alone meaning.Trace ws ≡ Some m → IsRead (codes "trace" ∷ ws) m
trace_law [] m e = (trace_taken, ap meaning_found trace_read ∙ e)
trace_law (w ∷ ws) m e = cc

verify_law : (ws : List Text) (m : Meaning) → alone meaning.Verify ws ≡ Some m → IsRead (codes "verify" ∷ ws) m
verify_law [] m e = (verify_taken, ap meaning_found verify_read ∙ e)
verify_law (w ∷ ws) m e = cc

poly_joined_law : (w : Text) (o : Option Text) (m : Meaning) → after (codes "--seed=") w ≡ o → option_map meaning.Poly (option_and_then seed_in o) ≡ Some m → IsRead (codes "poly" ∷ w ∷ []) m
poly_joined_law w None m s e = cc
poly_joined_law w (Some v) m s e = subst (λ t. IsRead (codes "poly" ∷ t ∷ []) m) (sym (after_is (codes "--seed=") w v s)) (poly_joined_taken v, ap meaning_found (poly_joined_read v) ∙ e)

poly_value_law : (v : Text) (m : Meaning) → option_map meaning.Poly (seed_in v) ≡ Some m → (x : ℕ) × (xs : Text) × (v ≡ x ∷ xs) × ((x == 45) ≡ false) → IsRead (codes "poly" ∷ codes "--seed" ∷ v ∷ []) m
poly_value_law v m e p = subst (λ t. IsRead (codes "poly" ∷ codes "--seed" ∷ t ∷ []) m) (sym p.2)
    (poly_two_taken p.0 p.1 p.3, ap meaning_found (poly_two_read p.0 p.1 p.3) ∙ subst (λ t. option_map meaning.Poly (seed_in t) ≡ Some m) p.2 e)

poly_two_law : (w v : Text) (b : Bool) (m : Meaning) → bytes_eq w (codes "--seed") ≡ b → option_map meaning.Poly (if b then seed_in v else None) ≡ Some m → IsRead (codes "poly" ∷ w ∷ v ∷ []) m
poly_two_law w v false m s e = cc
poly_two_law w v true m s e =
    let k = some_of meaning.Poly (seed_in v) m e in
    subst (λ t. IsRead (codes "poly" ∷ t ∷ v ∷ []) m) (sym (is_same w (codes "--seed") s)) (poly_value_law v m e (number_starts 0 18446744073709551615 v k.0 k.1))

poly_law : (ws : List Text) (m : Meaning) → option_map meaning.Poly (system_seed ws) ≡ Some m → IsRead (codes "poly" ∷ ws) m
poly_law [] m e = (poly_taken, ap meaning_found poly_read ∙ e)
poly_law (w ∷ []) m e = poly_joined_law w (after (codes "--seed=") w) m refl e
poly_law (w ∷ v ∷ []) m e = poly_two_law w v (bytes_eq w (codes "--seed")) m refl e
poly_law (w ∷ v ∷ u ∷ ws) m e = cc

list_joined_law : (w : Text) (o : Option Text) (m : Meaning) → after (codes "--searchers=") w ≡ o → option_map meaning.List (option_and_then searchers_in o) ≡ Some m → IsRead (codes "list" ∷ w ∷ []) m
list_joined_law w None m s e = cc
list_joined_law w (Some v) m s e = subst (λ t. IsRead (codes "list" ∷ t ∷ []) m) (sym (after_is (codes "--searchers=") w v s)) (list_joined_taken v, ap meaning_found (list_joined_read v) ∙ e)

list_value_law : (v : Text) (m : Meaning) → option_map meaning.List (searchers_in v) ≡ Some m → (x : ℕ) × (xs : Text) × (v ≡ x ∷ xs) × ((x == 45) ≡ false) → IsRead (codes "list" ∷ codes "--searchers" ∷ v ∷ []) m
list_value_law v m e p = subst (λ t. IsRead (codes "list" ∷ codes "--searchers" ∷ t ∷ []) m) (sym p.2)
    (list_two_taken p.0 p.1 p.3, ap meaning_found (list_two_read p.0 p.1 p.3) ∙ subst (λ t. option_map meaning.List (searchers_in t) ≡ Some m) p.2 e)

list_two_law : (w v : Text) (b : Bool) (m : Meaning) → bytes_eq w (codes "--searchers") ≡ b → option_map meaning.List (if b then searchers_in v else None) ≡ Some m → IsRead (codes "list" ∷ w ∷ v ∷ []) m
list_two_law w v false m s e = cc
list_two_law w v true m s e =
    let k = some_of meaning.List (searchers_in v) m e in
    subst (λ t. IsRead (codes "list" ∷ t ∷ v ∷ []) m) (sym (is_same w (codes "--searchers") s)) (list_value_law v m e (number_starts 1 64 v k.0 k.1))

list_law : (ws : List Text) (m : Meaning) → option_map meaning.List (searchers ws) ≡ Some m → IsRead (codes "list" ∷ ws) m
list_law [] m e = (list_taken, ap meaning_found list_read ∙ e)
list_law (w ∷ []) m e = list_joined_law w (after (codes "--searchers=") w) m refl e
list_law (w ∷ v ∷ []) m e = list_two_law w v (bytes_eq w (codes "--searchers")) m refl e
list_law (w ∷ v ∷ u ∷ ws) m e = cc

sum_joined_law : (w : Text) (o : Option Text) (m : Meaning) → after (codes "--searchers=") w ≡ o → option_map meaning.Sum (option_and_then searchers_in o) ≡ Some m → IsRead (codes "sum" ∷ w ∷ []) m
sum_joined_law w None m s e = cc
sum_joined_law w (Some v) m s e = subst (λ t. IsRead (codes "sum" ∷ t ∷ []) m) (sym (after_is (codes "--searchers=") w v s)) (sum_joined_taken v, ap meaning_found (sum_joined_read v) ∙ e)

sum_value_law : (v : Text) (m : Meaning) → option_map meaning.Sum (searchers_in v) ≡ Some m → (x : ℕ) × (xs : Text) × (v ≡ x ∷ xs) × ((x == 45) ≡ false) → IsRead (codes "sum" ∷ codes "--searchers" ∷ v ∷ []) m
sum_value_law v m e p = subst (λ t. IsRead (codes "sum" ∷ codes "--searchers" ∷ t ∷ []) m) (sym p.2)
    (sum_two_taken p.0 p.1 p.3, ap meaning_found (sum_two_read p.0 p.1 p.3) ∙ subst (λ t. option_map meaning.Sum (searchers_in t) ≡ Some m) p.2 e)

sum_two_law : (w v : Text) (b : Bool) (m : Meaning) → bytes_eq w (codes "--searchers") ≡ b → option_map meaning.Sum (if b then searchers_in v else None) ≡ Some m → IsRead (codes "sum" ∷ w ∷ v ∷ []) m
sum_two_law w v false m s e = cc
sum_two_law w v true m s e =
    let k = some_of meaning.Sum (searchers_in v) m e in
    subst (λ t. IsRead (codes "sum" ∷ t ∷ v ∷ []) m) (sym (is_same w (codes "--searchers") s)) (sum_value_law v m e (number_starts 1 64 v k.0 k.1))

sum_law : (ws : List Text) (m : Meaning) → option_map meaning.Sum (searchers ws) ≡ Some m → IsRead (codes "sum" ∷ ws) m
sum_law [] m e = (sum_taken, ap meaning_found sum_read ∙ e)
sum_law (w ∷ []) m e = sum_joined_law w (after (codes "--searchers=") w) m refl e
sum_law (w ∷ v ∷ []) m e = sum_two_law w v (bytes_eq w (codes "--searchers")) m refl e
sum_law (w ∷ v ∷ u ∷ ws) m e = cc

-- the first word that a list of tests names
chosen : (w t : Text) (ws : List Text) (b : Bool) (o r : Option Meaning) (m : Meaning) → bytes_eq w t ≡ b → (if b then o else r) ≡ Some m
    → (o ≡ Some m → IsRead (t ∷ ws) m) → (r ≡ Some m → IsRead (w ∷ ws) m) → IsRead (w ∷ ws) m
chosen w t ws false o r m s e f g = g e
chosen w t ws true o r m s e f g = subst (λ u. IsRead (u ∷ ws) m) (sym (is_same w t s)) (f e)

-- the law of all words but `make`'s, which it is given
pub law_above : (w : Text) (ws : List Text) (m : Meaning) → (made ws ≡ Some m → IsRead (codes "make" ∷ ws) m)
    → meaning_of (w ∷ ws) ≡ Some m → IsRead (w ∷ ws) m
law_above w ws m make e =
    chosen w (codes "plain") ws (bytes_eq w (codes "plain")) _ _ m refl e (plain_law ws m) (λ e1.
    chosen w (codes "check") ws (bytes_eq w (codes "check")) _ _ m refl e1 (check_law ws m) (λ e2.
    chosen w (codes "powers") ws (bytes_eq w (codes "powers")) _ _ m refl e2 (powers_law ws m) (λ e3.
    chosen w (codes "generic") ws (bytes_eq w (codes "generic")) _ _ m refl e3 (generic_law ws m) (λ e4.
    chosen w (codes "move") ws (bytes_eq w (codes "move")) _ _ m refl e4 (move_law ws m) (λ e5.
    chosen w (codes "trace") ws (bytes_eq w (codes "trace")) _ _ m refl e5 (trace_law ws m) (λ e6.
    chosen w (codes "verify") ws (bytes_eq w (codes "verify")) _ _ m refl e6 (verify_law ws m) (λ e7.
    chosen w (codes "poly") ws (bytes_eq w (codes "poly")) _ _ m refl e7 (poly_law ws m) (λ e8.
    chosen w (codes "list") ws (bytes_eq w (codes "list")) _ _ m refl e8 (list_law ws m) (λ e9.
    chosen w (codes "sum") ws (bytes_eq w (codes "sum")) _ _ m refl e9 (sum_law ws m) (λ e10.
    chosen w (codes "make") ws (bytes_eq w (codes "make")) _ _ m refl e10 make (λ e11. let b : ⊥ = cc in absurd b)))))))))))
