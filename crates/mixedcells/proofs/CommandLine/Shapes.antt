-- What `clap` does with words of a right shape.
use Rattle.std.proofs.Common.{◌≡◌, ℕ, [], ◌∷◌, ◌++◌, ◌==◌, codes, true, false, refl, Some, None}
use Rattle.clap.specs.Walk.{Text}
use Rattle.clap.specs.Takes.{takes}
use Rattle.clap.specs.Simple.{subcommand_of}
use Rattle.clap.proofs.OnLiterals.{clap_on_literals}
use Rattle.mixedcells.specs.CommandLine.{top}
use Rattle.mixedcells.specs.Reading.{read, read_searchers, read_seed}

pub plain_taken : takes top (codes "plain" ∷ []) ≡ true
unfolding clap_on_literals
plain_taken = refl

pub plain_read : read (subcommand_of top (codes "plain" ∷ [])) ≡ Some (read_searchers (codes "plain") None)
unfolding clap_on_literals
plain_read = refl

pub check_taken : takes top (codes "check" ∷ []) ≡ true
unfolding clap_on_literals
check_taken = refl

pub check_read : read (subcommand_of top (codes "check" ∷ [])) ≡ Some (read_searchers (codes "check") None)
unfolding clap_on_literals
check_read = refl

pub powers_taken : takes top (codes "powers" ∷ []) ≡ true
unfolding clap_on_literals
powers_taken = refl

pub powers_read : read (subcommand_of top (codes "powers" ∷ [])) ≡ Some (read_searchers (codes "powers") None)
unfolding clap_on_literals
powers_read = refl

pub generic_taken : takes top (codes "generic" ∷ []) ≡ true
unfolding clap_on_literals
generic_taken = refl

pub generic_read : read (subcommand_of top (codes "generic" ∷ [])) ≡ Some (read_searchers (codes "generic") None)
unfolding clap_on_literals
generic_read = refl

pub move_taken : takes top (codes "move" ∷ []) ≡ true
unfolding clap_on_literals
move_taken = refl

pub move_read : read (subcommand_of top (codes "move" ∷ [])) ≡ Some (read_searchers (codes "move") None)
unfolding clap_on_literals
move_read = refl

pub trace_taken : takes top (codes "trace" ∷ []) ≡ true
unfolding clap_on_literals
trace_taken = refl

pub trace_read : read (subcommand_of top (codes "trace" ∷ [])) ≡ Some (read_searchers (codes "trace") None)
unfolding clap_on_literals
trace_read = refl

pub verify_taken : takes top (codes "verify" ∷ []) ≡ true
unfolding clap_on_literals
verify_taken = refl

pub verify_read : read (subcommand_of top (codes "verify" ∷ [])) ≡ Some (read_searchers (codes "verify") None)
unfolding clap_on_literals
verify_read = refl

pub poly_taken : takes top (codes "poly" ∷ []) ≡ true
unfolding clap_on_literals
poly_taken = refl

pub poly_read : read (subcommand_of top (codes "poly" ∷ [])) ≡ Some (read_seed (codes "poly") None)
unfolding clap_on_literals
poly_read = refl

pub poly_joined_taken : (v : Text) → takes top (codes "poly" ∷ (codes "--seed=" ++ v) ∷ []) ≡ true
unfolding clap_on_literals
poly_joined_taken v = refl

pub poly_joined_read : (v : Text) → read (subcommand_of top (codes "poly" ∷ (codes "--seed=" ++ v) ∷ [])) ≡ Some (read_seed (codes "poly") (Some v))
unfolding clap_on_literals
poly_joined_read v = refl

pub poly_two_taken : (x : ℕ) (xs : Text) → (x == 45) ≡ false → takes top (codes "poly" ∷ codes "--seed" ∷ (x ∷ xs) ∷ []) ≡ true
unfolding clap_on_literals
poly_two_taken x xs hx = simp hx refl

pub poly_two_read : (x : ℕ) (xs : Text) → (x == 45) ≡ false → read (subcommand_of top (codes "poly" ∷ codes "--seed" ∷ (x ∷ xs) ∷ [])) ≡ Some (read_seed (codes "poly") (Some (x ∷ xs)))
unfolding clap_on_literals
poly_two_read x xs hx = simp hx refl

pub list_taken : takes top (codes "list" ∷ []) ≡ true
unfolding clap_on_literals
list_taken = refl

pub list_read : read (subcommand_of top (codes "list" ∷ [])) ≡ Some (read_searchers (codes "list") None)
unfolding clap_on_literals
list_read = refl

pub list_joined_taken : (v : Text) → takes top (codes "list" ∷ (codes "--searchers=" ++ v) ∷ []) ≡ true
unfolding clap_on_literals
list_joined_taken v = refl

pub list_joined_read : (v : Text) → read (subcommand_of top (codes "list" ∷ (codes "--searchers=" ++ v) ∷ [])) ≡ Some (read_searchers (codes "list") (Some v))
unfolding clap_on_literals
list_joined_read v = refl

pub list_two_taken : (x : ℕ) (xs : Text) → (x == 45) ≡ false → takes top (codes "list" ∷ codes "--searchers" ∷ (x ∷ xs) ∷ []) ≡ true
unfolding clap_on_literals
list_two_taken x xs hx = simp hx refl

pub list_two_read : (x : ℕ) (xs : Text) → (x == 45) ≡ false → read (subcommand_of top (codes "list" ∷ codes "--searchers" ∷ (x ∷ xs) ∷ [])) ≡ Some (read_searchers (codes "list") (Some (x ∷ xs)))
unfolding clap_on_literals
list_two_read x xs hx = simp hx refl

pub sum_taken : takes top (codes "sum" ∷ []) ≡ true
unfolding clap_on_literals
sum_taken = refl

pub sum_read : read (subcommand_of top (codes "sum" ∷ [])) ≡ Some (read_searchers (codes "sum") None)
unfolding clap_on_literals
sum_read = refl

pub sum_joined_taken : (v : Text) → takes top (codes "sum" ∷ (codes "--searchers=" ++ v) ∷ []) ≡ true
unfolding clap_on_literals
sum_joined_taken v = refl

pub sum_joined_read : (v : Text) → read (subcommand_of top (codes "sum" ∷ (codes "--searchers=" ++ v) ∷ [])) ≡ Some (read_searchers (codes "sum") (Some v))
unfolding clap_on_literals
sum_joined_read v = refl

pub sum_two_taken : (x : ℕ) (xs : Text) → (x == 45) ≡ false → takes top (codes "sum" ∷ codes "--searchers" ∷ (x ∷ xs) ∷ []) ≡ true
unfolding clap_on_literals
sum_two_taken x xs hx = simp hx refl

pub sum_two_read : (x : ℕ) (xs : Text) → (x == 45) ≡ false → read (subcommand_of top (codes "sum" ∷ codes "--searchers" ∷ (x ∷ xs) ∷ [])) ≡ Some (read_searchers (codes "sum") (Some (x ∷ xs)))
unfolding clap_on_literals
sum_two_read x xs hx = simp hx refl
