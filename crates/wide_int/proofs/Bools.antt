-- tests as values
use Rattle.std.proofs.Common.{Bool, true, false, refl, ◌≡◌, not, Some, ℕ, cond, ◌||◌}

pub by_test : {P : Type 0} (t : Bool) → (t ≡ true → P) → (t ≡ false → P) → P
by_test true holds fails = holds refl
by_test false holds fails = fails refl

pub not_true : (b : Bool) → not b ≡ true → b ≡ false
not_true true e = cc
not_true false e = refl

pub some_is : (m n : ℕ) → Some m ≡ Some n → m ≡ n
some_is m n e = cc

pub last_test : (b : Bool) → (b || false) ≡ cond b true false
last_test true = refl
last_test false = refl

pub next_test : (a b c : Bool) → (a || cond b true c) ≡ cond b true (a || c)
next_test true true c = refl
next_test true false c = refl
next_test false true c = refl
next_test false false c = refl
