-- A reading gives one value or one fault.
use Rattle.std.proofs.Common.{◌≡◌, Result, Ok, Err}

pub ok_once : {A E : Type 0} (r : Result A E) (x y : A) → r ≡ Ok x → r ≡ Ok y → x ≡ y
ok_once (Ok z) x y e f = cc
ok_once (Err z) x y e f = absurd cc

pub err_once : {A E : Type 0} (r : Result A E) (x y : E) → r ≡ Err x → r ≡ Err y → x ≡ y
err_once (Ok z) x y e f = absurd cc
err_once (Err z) x y e f = cc

pub not_both : {A E : Type 0} (r : Result A E) (x : A) (y : E) → r ≡ Ok x → r ≡ Err y → ⊥
not_both (Ok z) x y e f = cc
not_both (Err z) x y e f = cc
