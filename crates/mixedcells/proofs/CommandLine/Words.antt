-- Lists of words, by places and lengths.
use Rattle.std.proofs.Common.{◌≡◌, ◌≢◌, Bool, true, false, List, [], ◌∷◌, length, refl, sym, subst, Option, Some, None, option_map, option_and_then, IsTrue}
use Rattle.std.specs.Prelude.{MatchOption}
use Rattle.std.specs.Box.{box_value}
use Rattle.clap.specs.Walk.{Text, Row, rows_of}
use Rattle.clap.specs.Matches.{found_of, subcommand_name_of}
use Rattle.clap.specs.Simple.{subcommand_rows_of}
use Rattle.clap.specs.declared.parser.matches.ArgMatches.{ArgMatches}
use Rattle.clap.specs.declared.parser.matches.ArgMatches.TheViews.{out-ArgMatches, out-SubCommand}
use Rattle.mixedcells.specs.declared.words.Command.{Command}
use Rattle.mixedcells.specs.declared.words.meaning.Meaning.{Meaning}
use Rattle.mixedcells.specs.Words.{family_of, built, meaning_of, command_for, Means, HasMeaning, IsReading, IsForTeam, needs_team, reads}

pub other_words : (xs : List Text) → length xs ≢ 2 → length xs ≢ 4 → None ≡ family_of xs
other_words [] l m = refl
other_words (a ∷ []) l m = refl
other_words (a ∷ b ∷ []) l m = absurd (l refl)
other_words (a ∷ b ∷ c ∷ []) l m = refl
other_words (a ∷ b ∷ c ∷ d ∷ []) l m = absurd (m refl)
other_words (a ∷ b ∷ c ∷ d ∷ e ∷ xs) l m = refl

pair_is : {B : Type 0} (o : Option B) (f : B → Text) (g : B → List Row) (n : Text) (rows : List Row) → Some n ≡ option_map f o → Some rows ≡ option_map {T = Text × List Row} (λ p. p.1) (option_map {U = Text × List Row} (λ b. (f b, g b)) o)
    → option_map {U = Text × List Row} (λ b. (f b, g b)) o ≡ Some (n, rows)
pair_is None f g n rows e h = cc
pair_is (Some b) f g n rows e h = cc

pub rows_are : (m : ArgMatches) (n : Text) (rows : List Row) → Some n ≡ subcommand_name_of m → Some rows ≡ option_map {T = Text × List Row} (λ p. p.1) (subcommand_rows_of m) → subcommand_rows_of m ≡ Some (n, rows)
rows_are m n rows e h = pair_is (out-ArgMatches m).subcommand (λ b. (out-SubCommand (box_value b)).name.now) (λ b. rows_of (found_of (out-SubCommand (box_value b)).matches)) n rows e h

some_below : (o : Option Meaning) (command : Command) → option_and_then built o ≡ Some command → (m : Meaning) × (o ≡ Some m)
some_below None command e = cc
some_below (Some m) command e = (m, refl)

-- words that ask for a command have a meaning
pub meant : (words : List Text) (command : Command) → Means words command → (m : Meaning) × (meaning_of words ≡ Some m)
meant words command e = some_below (meaning_of words) command e

once : {X : Type 0} (o : Option X) (x y : X) → o ≡ Some x → o ≡ Some y → x ≡ y
once None x y e f = cc
once (Some z) x y e f = cc

-- words ask for one command
pub one_meaning : (words : List Text) (c d : Command) → Means words c → Means words d → c ≡ d
one_meaning words c d h k = once (command_for words) c d h k

-- words that don't ask for a command that reads its input, but for a command, ask for one that doesn't
pub no_reader : (words : List Text) (c : Command) → Means words c → ¬ (IsReading words) → reads c ≡ false
no_reader words c h n = not_read (reads c) (λ e. n (c, h, e))
  where
    not_read : (b : Bool) → ¬ (IsTrue b) → b ≡ false
    not_read true f = absurd (f refl)
    not_read false f = refl

pub reader : (words : List Text) (c : Command) → Means words c → IsReading words → IsTrue (reads c)
reader words c h r = subst (λ d. IsTrue (reads d)) (one_meaning words r.0 c r.1 h) r.2

pub none_meant : (words : List Text) → command_for words ≡ None → HasMeaning words → ⊥
none_meant words e h = let f = h.1 in cc

-- what a list of words means, by the command that it asks for
pub told : (words : List Text) (o : Option Command) → o ≡ command_for words → MatchOption o (¬ (HasMeaning words)) (λ c. Means words c)
told words None e = λ h. none_meant words (sym e) h
told words (Some c) e = sym e

-- the words ask for more than one searcher exactly where the command that they mean does
pub team_of : (words : List Text) (c : Command) → Means words c → IsForTeam words → IsTrue (needs_team c)
team_of words c h t = subst (λ d. IsTrue (needs_team d)) (one_meaning words t.0 c t.1 h) t.2

pub same_team : (words : List Text) (c d : Command) → Means words c → Means words d → needs_team c ≡ false → needs_team d ≡ false
same_team words c d h k e = subst (λ x. needs_team x ≡ false) (one_meaning words c d h k) e
