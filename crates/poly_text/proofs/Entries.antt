-- The entries of a map whose keys are stored lists.
use Rattle.std.proofs.Common.{◌≡◌, ℕ, suc, ℤ, pos, ◌+ℤ◌, Bool, true, false, ◌&&◌, List, [], ◌∷◌, map, length, Option, Some, None, refl, sym, ap, ap₂, ◌∙◌, int_cmp, int_eq, cond, nat_le}
use Rattle.std.proofs.Math.IntN.{+ℤ_idl}
use Rattle.std.specs.Global.{Vec}
use Rattle.std.specs.List.{list_all}
use Rattle.std.specs.declared.cmp.Ordering.{Ordering}
use Rattle.std.specs.declared.cmp.Ordering.TheVariants.{Less, Equal, Greater}
use Rattle.std.specs.Ordering.{match_ordering}
use Rattle.std.specs.Cmp.Lexicographic.{slice_cmp}
use Rattle.std.specs.Map.{lookup, remove_entry, keys_of}
use Rattle.std.specs.BTreeMap.{is_at, insert_entry}
use Rattle.std.specs.Option.{unwrap_or}
use Rattle.poly_text.specs.Maps.{Monomial, exponents_cmp, coefficient, with_coefficient, plus_term}
use Rattle.poly_text.specs.Bounds.{is_exponent, is_small}
use Rattle.poly_text.specs.Collecting.{plain}

-- the order of the stored keys
abbrev pub keys_cmp : Vec ℤ → Vec ℤ → Ordering
keys_cmp x y = slice_cmp int_cmp x.items y.items

pub lookup_plain : (key : Vec ℤ) (es : List (Vec ℤ × ℤ)) → lookup (is_at (exponents_cmp key.items)) (map plain es) ≡ lookup (is_at (keys_cmp key)) es
lookup_plain key [] = refl
lookup_plain key (e ∷ es) = ap (cond (is_at (keys_cmp key) e.0) (Some e.1)) (lookup_plain key es)

kept_first : (b : Bool) (e : Vec ℤ × ℤ) (es : List (Vec ℤ × ℤ)) (fs : List (Vec ℤ × ℤ)) → map plain (cond b es (e ∷ fs)) ≡ cond b (map plain es) (plain e ∷ map plain fs)
kept_first true e es fs = refl
kept_first false e es fs = refl

pub remove_plain : (key : Vec ℤ) (es : List (Vec ℤ × ℤ)) → map plain (remove_entry (is_at (keys_cmp key)) es) ≡ remove_entry (is_at (exponents_cmp key.items)) (map plain es)
remove_plain key [] = refl
remove_plain key (e ∷ es) =
    kept_first (is_at (keys_cmp key) e.0) e es (remove_entry (is_at (keys_cmp key)) es)
    ∙ ap (λ (l : List Monomial). cond (is_at (keys_cmp key) e.0) (map plain es) (plain e ∷ l)) (remove_plain key es)

put_first : (o : Ordering) (key : Vec ℤ) (z : ℤ) (e : Vec ℤ × ℤ) (es fs : List (Vec ℤ × ℤ)) (gs : List Monomial) → map plain fs ≡ gs
    → map plain (match_ordering o ((key, z) ∷ e ∷ es) ((e.0, z) ∷ es) (e ∷ fs)) ≡ match_ordering o ((key.items, z) ∷ plain e ∷ map plain es) ((e.0.items, z) ∷ map plain es) (plain e ∷ gs)
put_first Less key z e es fs gs h = refl
put_first Equal key z e es fs gs h = refl
put_first Greater key z e es fs gs h = ap (λ (l : List Monomial). plain e ∷ l) h

pub insert_plain : (key : Vec ℤ) (z : ℤ) (es : List (Vec ℤ × ℤ)) → map plain (insert_entry keys_cmp es key z) ≡ insert_entry exponents_cmp (map plain es) key.items z
insert_plain key z [] = refl
insert_plain key z (e ∷ es) = put_first (keys_cmp key e.0) key z e es (insert_entry keys_cmp es key z) (insert_entry exponents_cmp (map plain es) key.items z) (insert_plain key z es)

small_keys : (es : List (Vec ℤ × ℤ)) → list_all (λ (t : Monomial). list_all is_exponent t.0) (map plain es) ≡ list_all (λ (k : Vec ℤ). list_all is_exponent k.items) (keys_of es)
small_keys [] = refl
small_keys (e ∷ es) = ap (λ (b : Bool). list_all is_exponent e.0.items && b) (small_keys es)

length_plain : (es : List (Vec ℤ × ℤ)) → length (map plain es) ≡ length es
length_plain [] = refl
length_plain (e ∷ es) = ap suc (length_plain es)

pub small_is : (es : List (Vec ℤ × ℤ)) → is_small (map plain es) ≡ (nat_le (length es) 1000 && list_all (λ (k : Vec ℤ). list_all is_exponent k.items) (keys_of es))
unfolding is_small
small_is es = ap₂ (λ (n : ℕ) (b : Bool). nat_le n 1000 && b) (length_plain es) (small_keys es)

-- ---- one term more

with_zero : (xs : List ℤ) (z : ℤ) (f : List Monomial) → int_eq z (pos 0) ≡ true → with_coefficient xs z f ≡ remove_entry (is_at (exponents_cmp xs)) f
unfolding with_coefficient
with_zero xs z f h = rw h refl

with_other : (xs : List ℤ) (z : ℤ) (f : List Monomial) → int_eq z (pos 0) ≡ false → with_coefficient xs z f ≡ insert_entry exponents_cmp f xs z
unfolding with_coefficient
with_other xs z f h = rw h refl

pub term_gone : (xs : List ℤ) (number total : ℤ) (f : List Monomial) → total ≡ coefficient xs f +ℤ number → int_eq total (pos 0) ≡ true → plus_term f (xs, number) ≡ remove_entry (is_at (exponents_cmp xs)) f
unfolding plus_term
term_gone xs number total f e h = with_zero xs (coefficient xs f +ℤ number) f (ap (λ (z : ℤ). int_eq z (pos 0)) (sym e) ∙ h)

pub term_put : (xs : List ℤ) (number total : ℤ) (f : List Monomial) → total ≡ coefficient xs f +ℤ number → int_eq total (pos 0) ≡ false → plus_term f (xs, number) ≡ insert_entry exponents_cmp f xs total
unfolding plus_term
term_put xs number total f e h =
    with_other xs (coefficient xs f +ℤ number) f (ap (λ (z : ℤ). int_eq z (pos 0)) (sym e) ∙ h)
    ∙ ap (insert_entry exponents_cmp f xs) (sym e)

pub single_gone : (xs : List ℤ) (z : ℤ) → int_eq z (pos 0) ≡ true → plus_term [] (xs, z) ≡ []
single_gone xs z h = term_gone xs z z [] (sym (+ℤ_idl z)) h

pub single_put : (xs : List ℤ) (z : ℤ) → int_eq z (pos 0) ≡ false → plus_term [] (xs, z) ≡ (xs, z) ∷ []
single_put xs z h = term_put xs z z [] (sym (+ℤ_idl z)) h

-- ---- one look

pub held_some : (key : Vec ℤ) (es : List (Vec ℤ × ℤ)) (z : ℤ) → lookup (is_at (keys_cmp key)) es ≡ Some z → z ≡ coefficient key.items (map plain es)
held_some key es z e = sym (ap (λ (o : Option ℤ). unwrap_or o (pos 0)) (lookup_plain key es ∙ e))

pub held_none : (key : Vec ℤ) (es : List (Vec ℤ × ℤ)) → lookup (is_at (keys_cmp key)) es ≡ None → pos 0 ≡ coefficient key.items (map plain es)
held_none key es e = sym (ap (λ (o : Option ℤ). unwrap_or o (pos 0)) (lookup_plain key es ∙ e))

-- ---- both ends of a step

pub removed_is : (key : Vec ℤ) (es fs : List (Vec ℤ × ℤ)) (number total : ℤ) → fs ≡ remove_entry (is_at (keys_cmp key)) es → total ≡ coefficient key.items (map plain es) +ℤ number → int_eq total (pos 0) ≡ true
    → map plain fs ≡ plus_term (map plain es) (key.items, number)
removed_is key es fs number total e t h = ap (map plain) e ∙ remove_plain key es ∙ sym (term_gone key.items number total (map plain es) t h)

pub inserted_is : (key : Vec ℤ) (es fs : List (Vec ℤ × ℤ)) (number total : ℤ) → fs ≡ insert_entry keys_cmp es key total → total ≡ coefficient key.items (map plain es) +ℤ number → int_eq total (pos 0) ≡ false
    → map plain fs ≡ plus_term (map plain es) (key.items, number)
inserted_is key es fs number total e t h = ap (map plain) e ∙ insert_plain key total es ∙ sym (term_put key.items number total (map plain es) t h)
