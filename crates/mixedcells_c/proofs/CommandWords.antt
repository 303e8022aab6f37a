-- The words of a command that is UTF-8, and of one that isn't.
use Rattle.std.proofs.Common.{◌≡◌, ◌==◌, ℕ, List, [], Bool, true, false, if◌then◌else◌, refl, sym, true≢false}
use Rattle.std.specs.List.{slice_split}
use Rattle.std.specs.Str.{IsUtf8, is_utf8}
use Rattle.std.proofs.lemmas.Str.{IsUtf8-from_is_utf8, is_utf8-from_IsUtf8}
use Rattle.mixedcells_c.specs.Commands.{words_in}

first_of_two : (t : Bool) (a b : List (List ℕ)) → t ≡ true → (if t then a else b) ≡ a
first_of_two true a b e = refl
first_of_two false a b e = absurd (true≢false (sym e))

second_of_two : (t : Bool) (a b : List (List ℕ)) → ¬ (t ≡ true) → (if t then a else b) ≡ b
second_of_two true a b h = absurd (h refl)
second_of_two false a b h = refl

pub text_words : (command : List ℕ) → IsUtf8 command → words_in command ≡ slice_split (λ b. b == 32) command
text_words command h = first_of_two (is_utf8 command) _ _ (is_utf8-from_IsUtf8 command h)

pub no_words : (command : List ℕ) → ¬ (IsUtf8 command) → words_in command ≡ []
no_words command h = second_of_two (is_utf8 command) _ _ (λ e. h (IsUtf8-from_is_utf8 command e))
