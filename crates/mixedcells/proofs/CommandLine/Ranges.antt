-- The numbers of a family that words name are in their limits.
use Rattle.std.proofs.Common.{◌≡◌, ◌&&◌, ℕ, ◌+◌, ◌^◌, ◌≤◌, Bool, true, false, List, [], ◌∷◌, ◌++◌, refl, subst, codes, arith, Option, Some, None, option_map, option_and_then, IfSome, take, drop}
use Rattle.std.specs.Prelude.{if◌then◌else◌, nat_le}
use Rattle.std.specs.Str.{bytes_eq}
use Rattle.std.specs.Str.Parse.{digits_value}
use Rattle.std.proofs.lemmas.Bool.Decides.{nat_tests}
use Rattle.clap.specs.Walk.{Text}
use Rattle.mixedcells.specs.declared.words.Command.{Command}
use Rattle.mixedcells.specs.declared.words.Command.TheVariants as verb
use Rattle.mixedcells.specs.declared.words.meaning.Family.{Family}
use Rattle.mixedcells.specs.declared.words.meaning.Family.TheVariants as family
use Rattle.mixedcells.specs.declared.words.meaning.Meaning.{Meaning}
use Rattle.mixedcells.specs.declared.words.meaning.Meaning.TheVariants as meaning
use Rattle.mixedcells.specs.Words.{is_number, number, searchers_in, searchers, system_seed, scatter_of, scatter, cyclic, family_of, seed_of, making, after, made_by_two, made_of, seed_place, alone, meaning_of, built, Means}
use Rattle.mixedcells.specs.Families.{IsInLimits, IsFit}
use Rattle.mixedcells.specs.ByMany.{searchers_of}

abbrev IsWithin : Meaning → Type 0
IsWithin (meaning.Make f seed) = IsInLimits f
IsWithin meaning.Plain = Unit {0}
IsWithin meaning.Check = Unit {0}
IsWithin meaning.Powers = Unit {0}
IsWithin (meaning.Poly n) = Unit {0}
IsWithin meaning.Generic = Unit {0}
IsWithin meaning.Move = Unit {0}
IsWithin meaning.Trace = Unit {0}
IsWithin meaning.Verify = Unit {0}
IsWithin (meaning.List n) = (1 ≤ n) × (n ≤ 64)
IsWithin (meaning.Sum n) = (1 ≤ n) × (n ≤ 64)

number_by : (low high n : ℕ) (a b c : Bool) → nat_le low n ≡ b → nat_le n high ≡ c → IfSome (if a && (b && c) then Some n else None) (λ k. (low ≤ k) × (k ≤ high))
number_by low high n true true true e f = (grind (arith, nat_tests, e), grind (arith, nat_tests, f))
number_by low high n true true false e f = tt
number_by low high n true false c e f = tt
number_by low high n false b c e f = tt

number_within : (low high : ℕ) (t : Text) → IfSome (number low high t) (λ k. (low ≤ k) × (k ≤ high))
number_within low high t = number_by low high (digits_value 10 t) (is_number t) (nat_le low (digits_value 10 t)) (nat_le (digits_value 10 t) high) refl refl

cyclic_by : (o : Option ℕ) → IfSome o (λ k. (2 ≤ k) × (k ≤ 16)) → IfSome (option_map family.Cyclic o) IsInLimits
cyclic_by None h = tt
cyclic_by (Some n) h = h

room_by : (n m side : ℕ) (b : Bool) → nat_le m ((side + 1) ^ n) ≡ b → (1 ≤ n) × (n ≤ 16) → (1 ≤ m) × (m ≤ 1000) → (0 ≤ side) × (side ≤ 1000000)
    → IfSome (if b then Some (family.Scatter n m side) else None) IsInLimits
room_by n m side false e x y z = tt
room_by n m side true e x y z = let r : m ≤ (side + 1) ^ n = grind (arith, nat_tests, e) in (x, y, z.1, r)

scatter_by : (a b c : Option ℕ) → IfSome a (λ k. (1 ≤ k) × (k ≤ 16)) → IfSome b (λ k. (1 ≤ k) × (k ≤ 1000)) → IfSome c (λ k. (0 ≤ k) × (k ≤ 1000000))
    → IfSome (option_and_then (λ n. option_and_then (λ m. option_and_then (scatter_of n m) c) b) a) IsInLimits
scatter_by None b c x y z = tt
scatter_by (Some n) None c x y z = tt
scatter_by (Some n) (Some m) None x y z = tt
scatter_by (Some n) (Some m) (Some side) x y z = room_by n m side (nat_le m ((side + 1) ^ n)) refl x y z

named_by : (b : Bool) (o : Option Family) → IfSome o IsInLimits → IfSome (if b then o else None) IsInLimits
named_by true o h = h
named_by false o h = tt

family_within : (ps : List Text) → IfSome (family_of ps) IsInLimits
family_within [] = tt
family_within (f ∷ []) = tt
family_within (f ∷ n ∷ []) = named_by (bytes_eq f (codes "cyclic")) (cyclic n) (cyclic_by (number 2 16 n) (number_within 2 16 n))
family_within (f ∷ n ∷ m ∷ []) = tt
family_within (f ∷ n ∷ m ∷ s ∷ []) = named_by (bytes_eq f (codes "scatter")) (scatter n m s)
    (scatter_by (number 1 16 n) (number 1 1000 m) (number 0 1000000 s) (number_within 1 16 n) (number_within 1 1000 m) (number_within 0 1000000 s))
family_within (f ∷ n ∷ m ∷ s ∷ r ∷ rs) = tt

making_by : (o : Option Family) (s : Option ℕ) → IfSome o IsInLimits → IfSome (option_and_then (λ f. option_map (meaning.Make f) s) o) IsWithin
making_by None s h = tt
making_by (Some f) None h = tt
making_by (Some f) (Some k) h = h

making_within : (ps ss : List Text) → IfSome (making ps ss) IsWithin
making_within ps ss = making_by (family_of ps) (seed_of ss) (family_within ps)

joined_within : (front rest : List Text) (o : Option Text) → IfSome (option_and_then (λ v. making (front ++ rest) (v ∷ [])) o) IsWithin
joined_within front rest None = tt
joined_within front rest (Some v) = making_within (front ++ rest) (v ∷ [])

two_within : (front rest : List Text) → IfSome (made_by_two front rest) IsWithin
two_within front [] = tt
two_within front (v ∷ rest) = making_within (front ++ rest) (v ∷ [])

choice : (b : Bool) (o r : Option Meaning) → IfSome o IsWithin → IfSome r IsWithin → IfSome (if b then o else r) IsWithin
choice true o r h k = h
choice false o r h k = k

made_within : (front back : List Text) → IfSome (made_of front back) IsWithin
made_within front [] = making_within front []
made_within front (w ∷ rest) = choice (bytes_eq w (codes "--seed")) _ _ (two_within front rest) (joined_within front rest (after (codes "--seed=") w))

alone_within : (m : Meaning) (ws : List Text) → IsWithin m → IfSome (alone m ws) IsWithin
alone_within m [] h = h
alone_within m (w ∷ ws) h = tt

poly_within : (o : Option ℕ) → IfSome (option_map meaning.Poly o) IsWithin
poly_within None = tt
poly_within (Some n) = tt

named_searchers : (o : Option Text) → IfSome (option_and_then searchers_in o) (λ k. (1 ≤ k) × (k ≤ 64))
named_searchers None = tt
named_searchers (Some v) = number_within 1 64 v

searchers_by : (b : Bool) (v : Text) → IfSome (if b then searchers_in v else None) (λ k. (1 ≤ k) × (k ≤ 64))
searchers_by true v = number_within 1 64 v
searchers_by false v = tt

searchers_within : (ws : List Text) → IfSome (searchers ws) (λ k. (1 ≤ k) × (k ≤ 64))
searchers_within [] = (omega arith, omega arith)
searchers_within (w ∷ []) = named_searchers (after (codes "--searchers=") w)
searchers_within (w ∷ v ∷ []) = searchers_by (bytes_eq w (codes "--searchers")) v
searchers_within (w ∷ v ∷ x ∷ ws) = tt

list_within : (o : Option ℕ) → IfSome o (λ k. (1 ≤ k) × (k ≤ 64)) → IfSome (option_map meaning.List o) IsWithin
list_within None h = tt
list_within (Some n) h = h

sum_within : (o : Option ℕ) → IfSome o (λ k. (1 ≤ k) × (k ≤ 64)) → IfSome (option_map meaning.Sum o) IsWithin
sum_within None h = tt
sum_within (Some n) h = h

within : (ws : List Text) → IfSome (meaning_of ws) IsWithin
within [] = tt
within (w ∷ ws) =
    choice (bytes_eq w (codes "plain")) _ _ (alone_within meaning.Plain ws tt) (
    choice (bytes_eq w (codes "check")) _ _ (alone_within meaning.Check ws tt) (
    choice (bytes_eq w (codes "powers")) _ _ (alone_within meaning.Powers ws tt) (
    choice (bytes_eq w (codes "generic")) _ _ (alone_within meaning.Generic ws tt) (
    choice (bytes_eq w (codes "move")) _ _ (alone_within meaning.Move ws tt) (
    choice (bytes_eq w (codes "trace")) _ _ (alone_within meaning.Trace ws tt) (
    choice (bytes_eq w (codes "verify")) _ _ (alone_within meaning.Verify ws tt) (
    choice (bytes_eq w (codes "poly")) _ _ (poly_within (system_seed ws)) (
    choice (bytes_eq w (codes "list")) _ _ (list_within (searchers ws) (searchers_within ws)) (
    choice (bytes_eq w (codes "sum")) _ _ (sum_within (searchers ws) (searchers_within ws)) (
    choice (bytes_eq w (codes "make")) _ _ (made_within (take (seed_place ws) ws) (drop (seed_place ws) ws)) tt))))))))))

fit_by : (o : Option Meaning) (c : Command) → IfSome o IsWithin → option_and_then built o ≡ Some c → IsFit c
fit_by None c h e = cc
fit_by (Some m) verb.Plain h e = tt
fit_by (Some m) (verb.List n) h e = tt
fit_by (Some m) (verb.Sum n) h e = tt
fit_by (Some m) verb.Check h e = tt
fit_by (Some m) verb.Generic h e = tt
fit_by (Some m) verb.Move h e = tt
fit_by (Some m) verb.Trace h e = tt
fit_by (Some m) verb.Verify h e = tt
fit_by (Some m) verb.Powers h e = tt
fit_by (Some m) (verb.Poly n) h e = tt
fit_by (Some (meaning.Make g k)) (verb.Make f s) h e = let same : g ≡ f = cc in subst IsInLimits same h
fit_by (Some meaning.Plain) (verb.Make f s) h e = cc
fit_by (Some meaning.Check) (verb.Make f s) h e = cc
fit_by (Some meaning.Powers) (verb.Make f s) h e = cc
fit_by (Some meaning.Generic) (verb.Make f s) h e = cc
fit_by (Some meaning.Move) (verb.Make f s) h e = cc
fit_by (Some meaning.Trace) (verb.Make f s) h e = cc
fit_by (Some meaning.Verify) (verb.Make f s) h e = cc
fit_by (Some (meaning.Poly n)) (verb.Make f s) h e = cc
fit_by (Some (meaning.List n)) (verb.Make f s) h e = cc
fit_by (Some (meaning.Sum n)) (verb.Make f s) h e = cc

-- the numbers of a command that words ask for are in their limits
pub fits : (words : List Text) (c : Command) → Means words c → IsFit c
fits words c e = fit_by (meaning_of words) c (within words) e

searchers_fit_by : (o : Option Meaning) (c : Command) → IfSome o IsWithin → option_and_then built o ≡ Some c → (1 ≤ searchers_of c) × (searchers_of c ≤ 64)
searchers_fit_by None c h e = cc
searchers_fit_by (Some (meaning.List n)) c h e = let same : verb.List n ≡ c = cc in subst (λ d. (1 ≤ searchers_of d) × (searchers_of d ≤ 64)) same h
searchers_fit_by (Some (meaning.Sum n)) c h e = let same : verb.Sum n ≡ c = cc in subst (λ d. (1 ≤ searchers_of d) × (searchers_of d ≤ 64)) same h
searchers_fit_by (Some meaning.Plain) c h e = let same : verb.Plain ≡ c = cc in subst (λ d. (1 ≤ searchers_of d) × (searchers_of d ≤ 64)) same (omega arith, omega arith)
searchers_fit_by (Some meaning.Check) c h e = let same : verb.Check ≡ c = cc in subst (λ d. (1 ≤ searchers_of d) × (searchers_of d ≤ 64)) same (omega arith, omega arith)
searchers_fit_by (Some meaning.Generic) c h e = let same : verb.Generic ≡ c = cc in subst (λ d. (1 ≤ searchers_of d) × (searchers_of d ≤ 64)) same (omega arith, omega arith)
searchers_fit_by (Some meaning.Move) c h e = let same : verb.Move ≡ c = cc in subst (λ d. (1 ≤ searchers_of d) × (searchers_of d ≤ 64)) same (omega arith, omega arith)
searchers_fit_by (Some meaning.Trace) c h e = let same : verb.Trace ≡ c = cc in subst (λ d. (1 ≤ searchers_of d) × (searchers_of d ≤ 64)) same (omega arith, omega arith)
searchers_fit_by (Some meaning.Verify) c h e = let same : verb.Verify ≡ c = cc in subst (λ d. (1 ≤ searchers_of d) × (searchers_of d ≤ 64)) same (omega arith, omega arith)
searchers_fit_by (Some (meaning.Poly seed)) c h e = let same : verb.Poly seed ≡ c = cc in subst (λ d. (1 ≤ searchers_of d) × (searchers_of d ≤ 64)) same (omega arith, omega arith)
searchers_fit_by (Some meaning.Powers) c h e = let same : verb.Powers ≡ c = cc in subst (λ d. (1 ≤ searchers_of d) × (searchers_of d ≤ 64)) same (omega arith, omega arith)
searchers_fit_by (Some (meaning.Make f s)) c h e = let same : verb.Make f s ≡ c = cc in subst (λ d. (1 ≤ searchers_of d) × (searchers_of d ≤ 64)) same (omega arith, omega arith)

-- words ask for 1 to 64 searchers
pub searchers_fit : (words : List Text) (c : Command) → Means words c → (1 ≤ searchers_of c) × (searchers_of c ≤ 64)
searchers_fit words c e = searchers_fit_by (meaning_of words) c (within words) e
