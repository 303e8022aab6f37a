-- kernels, solutions, independence of rows and of columns
use Rattle.std.proofs.Common.{◌≡◌, ◌≢◌, ℕ, zero, suc, ◌<◌, List, [], ◌∷◌, length, map, arith, refl, sym, ap, ap₂, ◌∙◌}
use Rattle.std.proofs.lemmas.Int.{ints}
use Rattle.std.proofs.Math.IntN.{ℤ, pos, ◌+ℤ◌, ◌*ℤ◌, neg_ℤ, *ℤ_comm, ℤ_discrete}
use Rattle.wide_int.proofs.Ring.{as_D, Ds, same_D}
use Rattle.cayley.proofs.Algebra.Dependence.{dependent, length-map}
use Rattle.int_vectors.specs.Vectors.{weigh, IsZero, Each, dot, at, row_at}

pub dot_comm : (xs ys : List ℤ) → dot xs ys ≡ dot ys xs
dot_comm [] [] = refl
dot_comm [] (y ∷ ys) = refl
dot_comm (x ∷ xs) [] = refl
dot_comm (x ∷ xs) (y ∷ ys) = rw (dot_comm xs ys, *ℤ_comm x y) refl

-- the places below n
abbrev pub places : ℕ → List ℕ
places zero = []
places (suc n) = zero ∷ map suc (places n)

pub weigh_map : {A B : Type 0} (cs : List ℤ) (g : A → B) (xs : List A) (f : B → ℤ) → weigh cs (map g xs) f ≡ weigh cs xs (λ x. f (g x))
weigh_map [] g xs f = refl
weigh_map (c ∷ cs) g [] f = refl
weigh_map (c ∷ cs) g (x ∷ xs) f = ap (λ s. c *ℤ f (g x) +ℤ s) (weigh_map cs g xs f)

pub weigh_nothing : {A : Type 0} (cs : List ℤ) (xs : List A) → weigh cs xs (λ k. pos 0) ≡ pos 0
weigh_nothing [] xs = refl
weigh_nothing (c ∷ cs) [] = refl
weigh_nothing (c ∷ cs) (x ∷ xs) = rw (weigh_nothing cs xs) (omega (arith, ints))

pub weigh-at : (cs : List ℤ) (m : ℕ) (xs : List ℤ) → length cs ≡ m → weigh cs (places m) (at xs) ≡ dot xs cs
weigh-at cs m [] e = weigh_nothing cs (places m)
weigh-at [] m (x ∷ xs) e = refl
weigh-at (c ∷ cs) zero (x ∷ xs) e = absurd (omega arith)
weigh-at (c ∷ cs) (suc m) (x ∷ xs) e =
    ap₂ ◌+ℤ◌ (*ℤ_comm c x) (weigh_map cs suc (places m) (at (x ∷ xs)) ∙ weigh-at cs m xs (omega arith))

pub length-places : (n : ℕ) → length (places n) ≡ n
length-places zero = refl
length-places (suc n) = ap suc (length-map suc (places n) ∙ length-places n)

-- rows orthogonal to v
abbrev pub Kills : List (List ℤ) → List ℤ → Type 0
Kills rows v = Each rows (λ r. dot r v ≡ pos 0)

pub record Kernel (m : ℕ) (rows : List (List ℤ)) : Type 0 where
  pub v : List ℤ
  pub long : length v ≡ m
  pub some : ¬ (IsZero v)
  pub kills : Kills rows v

kills_rows : (m : ℕ) (rows : List (List ℤ)) (v : List ℤ) → length v ≡ m → Each (map at rows) (λ f. weigh v (places m) f ≡ pos 0) → Kills rows v
kills_rows m [] v e k = tt
kills_rows m (r ∷ rows) v e k = (sym (weigh-at v m r e) ∙ k.0, kills_rows m rows v e k.1)

pub kernel : (m : ℕ) (rows : List (List ℤ)) → length rows < m → Kernel m rows
kernel m rows lt =
    let d = dependent (map at rows) (places m) (omega (arith, length-map at rows, length-places m)) in
    let e : length d.cs ≡ m = d.long ∙ length-places m in
    record { v = d.cs; long = e; some = d.some; kills = kills_rows m rows d.cs e d.kills }

-- no vector of length n but zero is orthogonal to all rows
abbrev pub Independent : ℕ → List (List ℤ) → Type 0
Independent n rows = (v : List ℤ) → length v ≡ n → Kills rows v → IsZero v

-- E v = k b, where b_i is b at row i
abbrev pub Solves : List (List ℤ) → List ℤ → ℤ → List ℤ → Type 0
Solves [] bs k v = Unit {0}
Solves (r ∷ rows) [] k v = dot r v ≡ pos 0 × Solves rows [] k v
Solves (r ∷ rows) (b ∷ bs) k v = dot r v ≡ k *ℤ b × Solves rows bs k v

pub record Solution (n : ℕ) (rows : List (List ℤ)) (bs : List ℤ) : Type 0 where
  pub k : ℤ
  pub apart : k ≢ pos 0
  pub v : List ℤ
  pub long : length v ≡ n
  pub solves : Solves rows bs k v

abbrev pub extend : List (List ℤ) → List ℤ → List (List ℤ)
extend [] bs = []
extend (r ∷ rows) [] = (pos 0 ∷ r) ∷ extend rows []
extend (r ∷ rows) (b ∷ bs) = (b ∷ r) ∷ extend rows bs

pub length-extend : (rows : List (List ℤ)) (bs : List ℤ) → length (extend rows bs) ≡ length rows
length-extend [] bs = refl
length-extend (r ∷ rows) [] = ap suc (length-extend rows [])
length-extend (r ∷ rows) (b ∷ bs) = ap suc (length-extend rows bs)

move : (b c s : ℤ) → b *ℤ c +ℤ s ≡ pos 0 → s ≡ neg_ℤ c *ℤ b
move b c s e = omega (arith, ints, neg_mul c b)
  where
    neg_mul : (c b : ℤ) → neg_ℤ c *ℤ b ≡ neg_ℤ (b *ℤ c)
    neg_mul c b = rw (as_D c, as_D b) (simp Ds (same_D _ _ _ _ (omega arith)))

pub solves_from : (rows : List (List ℤ)) (bs : List ℤ) (c : ℤ) (v : List ℤ) → Kills (extend rows bs) (c ∷ v) → Solves rows bs (neg_ℤ c) v
solves_from [] bs c v k = tt
solves_from (r ∷ rows) [] c v k = (let z : pos 0 *ℤ c ≡ pos 0 = omega (arith, ints) in omega (arith, ints, k.0), solves_from rows [] c v k.1)
solves_from (r ∷ rows) (b ∷ bs) c v k = (move b c (dot r v) k.0, solves_from rows bs c v k.1)

pub kills_from : (rows : List (List ℤ)) (bs : List ℤ) (k : ℤ) (v : List ℤ) → k ≡ pos 0 → Solves rows bs k v → Kills rows v
kills_from [] bs k v z s = tt
kills_from (r ∷ rows) [] k v z s = (s.0, kills_from rows [] k v z s.1)
kills_from (r ∷ rows) (b ∷ bs) k v z s = (s.0 ∙ (rw z (omega (arith, ints))), kills_from rows bs k v z s.1)

pub solve : (n : ℕ) (rows : List (List ℤ)) (bs : List ℤ) → length rows ≡ n → Independent n rows → Solution n rows bs
solve n rows bs e ind =
    let q = kernel (suc n) (extend rows bs) (omega (arith, length-extend rows bs)) in
    from q.v q.long q.some q.kills
  where
    from : (w : List ℤ) → length w ≡ suc n → ¬ (IsZero w) → Kills (extend rows bs) w → Solution n rows bs
    from [] l some kills = absurd (omega arith)
    from (c ∷ v) l some kills =
        let s = solves_from rows bs c v kills in
        let lv : length v ≡ n = omega arith in
        elim (ℤ_discrete c (pos 0)) [
          | yes z ↦ absurd (some (z, ind v lv (kills_from rows bs (neg_ℤ c) v (ap neg_ℤ z) s)))
          | no apart ↦ record { k = neg_ℤ c; apart = λ h. apart (omega (arith, ints)); v = v; long = lv; solves = s }
        ]

pub kills_at : (rows : List (List ℤ)) (v : List ℤ) (j : ℕ) → j < length rows → Kills rows v → dot (row_at rows j) v ≡ pos 0
kills_at [] v j lt k = absurd (omega (arith, lt))
kills_at (r ∷ rows) v zero lt k = k.0
kills_at (r ∷ rows) v (suc j) lt k = kills_at rows v j (omega (arith, lt)) k.1
