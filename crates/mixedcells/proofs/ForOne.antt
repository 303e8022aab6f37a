-- Words for several searchers, and the same for one.
use Rattle.std.proofs.Common.{◌≡◌, ◌≤◌, ℕ, List, [], ◌∷◌, Option, Some, None, Bool, true, false, nat_le, codes, IsTrue, arith, refl, sym, subst, inl, inr}
use Rattle.std.specs.Prelude.{if◌then◌else◌}
use Rattle.std.proofs.lemmas.Bool.Decides.{nat_tests}
use Rattle.clap.specs.Walk.{Text}
use Rattle.mixedcells.specs.declared.words.Command.{Command}
use Rattle.mixedcells.specs.declared.words.Command.TheVariants as verb
use Rattle.mixedcells.specs.declared.outcome.Outcome.{Outcome}
use Rattle.mixedcells.specs.Words.{Means, HasMeaning, IsForTeam, IsReading, IsWalking, command_for, needs_team, reads}
use Rattle.mixedcells.specs.ByMany.{by_one, searchers_of, words_by_one, for_one, IsJourney}
use Rattle.mixedcells.specs.Runs.{IsInput, IsAnswer, IsCalledFor}
use Rattle.mixedcells.proofs.CommandLine.Words.{team_of}
use Rattle.mixedcells.proofs.CommandLine.Ranges.{searchers_fit}

chosen : {X : Type 0} (b : Bool) (x y : X) → IsTrue b → (if b then x else y) ≡ x
chosen true x y h = refl
chosen false x y h = cc

other : {X : Type 0} (b : Bool) (x y : X) → b ≡ false → (if b then x else y) ≡ y
other true x y h = cc
other false x y h = refl

by_test : {P : Type 0} (b : Bool) → (IsTrue b → P) → (b ≡ false → P) → P
by_test true f g = f refl
by_test false f g = g refl

-- ---- words for one searcher are left as they are
same_words : (o : Option Command) (words : List Text) → ((c : Command) → o ≡ Some c → needs_team c ≡ false) → words_by_one o words ≡ words
same_words None words f = refl
same_words (Some verb.Plain) words f = refl
same_words (Some (verb.List n)) words f = other (nat_le 2 n) (codes "list" ∷ []) words (f (verb.List n) refl)
same_words (Some (verb.Sum n)) words f = other (nat_le 2 n) (codes "sum" ∷ []) words (f (verb.Sum n) refl)
same_words (Some verb.Check) words f = refl
same_words (Some verb.Generic) words f = refl
same_words (Some verb.Move) words f = refl
same_words (Some verb.Trace) words f = refl
same_words (Some verb.Verify) words f = refl
same_words (Some verb.Powers) words f = refl
same_words (Some (verb.Poly seed)) words f = refl
same_words (Some (verb.Make family seed)) words f = refl

not_team : (words : List Text) → ¬ (IsForTeam words) → (c : Command) → Means words c → needs_team c ≡ false
not_team words none c means = by_test (needs_team c) (λ t. absurd (none (c, means, t))) (λ e. e)

pub for_one_same : (words : List Text) → ¬ (IsForTeam words) → for_one words ≡ words
for_one_same words none = same_words (command_for words) words (not_team words none)

-- ---- the words for one searcher mean the command for one
one_alone : (n : ℕ) → 1 ≤ n → nat_le 2 n ≡ false → n ≡ 1
one_alone n l e = grind (arith, nat_tests, l, e)

meant_by : (o : Option Command) (words : List Text) (c : Command) → o ≡ Some c → Means words c → 1 ≤ searchers_of c → Means (words_by_one o words) (by_one c)
meant_by None words c e means l = cc
meant_by (Some verb.Plain) words c e means l = let same : verb.Plain ≡ c = cc in subst (λ d. Means words (by_one d)) same (subst (Means words) (sym same) means)
meant_by (Some verb.Check) words c e means l = let same : verb.Check ≡ c = cc in subst (λ d. Means words (by_one d)) same (subst (Means words) (sym same) means)
meant_by (Some verb.Generic) words c e means l = let same : verb.Generic ≡ c = cc in subst (λ d. Means words (by_one d)) same (subst (Means words) (sym same) means)
meant_by (Some verb.Move) words c e means l = let same : verb.Move ≡ c = cc in subst (λ d. Means words (by_one d)) same (subst (Means words) (sym same) means)
meant_by (Some verb.Trace) words c e means l = let same : verb.Trace ≡ c = cc in subst (λ d. Means words (by_one d)) same (subst (Means words) (sym same) means)
meant_by (Some verb.Verify) words c e means l = let same : verb.Verify ≡ c = cc in subst (λ d. Means words (by_one d)) same (subst (Means words) (sym same) means)
meant_by (Some verb.Powers) words c e means l = let same : verb.Powers ≡ c = cc in subst (λ d. Means words (by_one d)) same (subst (Means words) (sym same) means)
meant_by (Some (verb.Poly seed)) words c e means l = let same : verb.Poly seed ≡ c = cc in subst (λ d. Means words (by_one d)) same (subst (Means words) (sym same) means)
meant_by (Some (verb.Make f s)) words c e means l = let same : verb.Make f s ≡ c = cc in subst (λ d. Means words (by_one d)) same (subst (Means words) (sym same) means)
meant_by (Some (verb.List n)) words c e means l =
    let same : verb.List n ≡ c = cc in
    subst (λ d. Means (words_by_one (Some (verb.List n)) words) (by_one d)) same (by_test (nat_le 2 n)
    (λ t. subst (λ v. Means v (verb.List 1)) (sym (chosen (nat_le 2 n) (codes "list" ∷ []) words t)) refl)
    (λ f. subst (λ v. Means v (verb.List 1)) (sym (other (nat_le 2 n) (codes "list" ∷ []) words f))
    (subst (λ k. Means words (verb.List k)) (one_alone n (subst (λ d. 1 ≤ searchers_of d) (sym same) l) f) (subst (Means words) (sym same) means))))
meant_by (Some (verb.Sum n)) words c e means l =
    let same : verb.Sum n ≡ c = cc in
    subst (λ d. Means (words_by_one (Some (verb.Sum n)) words) (by_one d)) same (by_test (nat_le 2 n)
    (λ t. subst (λ v. Means v (verb.Sum 1)) (sym (chosen (nat_le 2 n) (codes "sum" ∷ []) words t)) refl)
    (λ f. subst (λ v. Means v (verb.Sum 1)) (sym (other (nat_le 2 n) (codes "sum" ∷ []) words f))
    (subst (λ k. Means words (verb.Sum k)) (one_alone n (subst (λ d. 1 ≤ searchers_of d) (sym same) l) f) (subst (Means words) (sym same) means))))

pub one_means : (words : List Text) (c : Command) → Means words c → Means (for_one words) (by_one c)
one_means words c means = meant_by (command_for words) words c means means (searchers_fit words c means).0

pub walking : (words : List Text) → IsJourney words → IsWalking (for_one words)
walking words (inl (n, inl means)) = inl (1, refl, inl (one_means words (verb.List n) means))
walking words (inl (n, inr means)) = inl (1, refl, inr (one_means words (verb.Sum n) means))
walking words (inr means) = inr (one_means words verb.Trace means)

pub called_back : (words : List Text) → for_one words ≡ words → (left : Option (List ℕ)) (o : Outcome) (text : List ℕ) → IsCalledFor words left o text → IsCalledFor (for_one words) left o text
called_back words e left o text h = subst (λ v. IsCalledFor v left o text) (sym e) h

-- ---- words for a team
alone_by : (c : Command) → needs_team (by_one c) ≡ false
alone_by verb.Plain = refl
alone_by (verb.List n) = refl
alone_by (verb.Sum n) = refl
alone_by verb.Check = refl
alone_by verb.Generic = refl
alone_by verb.Move = refl
alone_by verb.Trace = refl
alone_by verb.Verify = refl
alone_by verb.Powers = refl
alone_by (verb.Poly seed) = refl
alone_by (verb.Make family seed) = refl

pub team_command : {P : Type 0} (words : List Text) (d : Command) → IsForTeam words → Means words d → needs_team d ≡ false → P
team_command words d t means e = unlike (needs_team d) e (team_of words d means t)
  where
    unlike : {P : Type 0} (b : Bool) → b ≡ false → IsTrue b → P
    unlike true e f = cc
    unlike false e f = cc

pub team_meant : {P : Type 0} (words : List Text) → IsForTeam words → ¬ (HasMeaning words) → P
team_meant words t none = absurd (none (t.0, t.1))

-- what a team's command answers is called for by the words for one
pub called_by_one : (words : List Text) (c : Command) (left : Option (List ℕ)) (bytes : List ℕ) (o : Outcome) (text : List ℕ) → Means words c → IsInput left bytes → IsAnswer (by_one c) bytes o text
    → IsCalledFor (for_one words) left o text
called_by_one words c left bytes o text means input answer = inr (by_one c, bytes, one_means words c means, input, answer)

-- a team's command reads its input
pub reads_by_one : (c : Command) → IsTrue (needs_team c) → reads (by_one c) ≡ true
reads_by_one verb.Plain h = cc
reads_by_one (verb.List n) h = refl
reads_by_one (verb.Sum n) h = refl
reads_by_one verb.Check h = cc
reads_by_one verb.Generic h = cc
reads_by_one verb.Move h = cc
reads_by_one verb.Trace h = cc
reads_by_one verb.Verify h = cc
reads_by_one verb.Powers h = cc
reads_by_one (verb.Poly seed) h = cc
reads_by_one (verb.Make family seed) h = cc

pub reading_by_one : (words : List Text) → IsForTeam words → IsReading (for_one words)
reading_by_one words t = (by_one t.0, one_means words t.0 t.1, reads_by_one t.0 t.2)

-- the words for one searcher ask for no team
pub alone_words : {P : Type 0} (words : List Text) (c : Command) → Means words c → IsForTeam (for_one words) → P
alone_words words c means t = team_command (for_one words) (by_one c) t (one_means words c means) (alone_by c)
