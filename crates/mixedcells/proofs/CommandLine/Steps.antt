-- `make`, a word a step.
use Rattle.std.proofs.Common.{◌≡◌, ℕ, List, [], ◌∷◌, ◌++◌, ◌==◌, codes, Bool, true, false, refl, Option, Some, None, unwrap_or}
use Rattle.clap.specs.Walk.{Text, Row, Rule, Walk, walked, walk, nothing_held, Waiting, idle, option, settled_rows, used, has_row, arg_by_long}
use Rattle.clap.specs.Simple.{Shape, built, names_of, new_rule}
use Rattle.clap.specs.Takes.{turn_passes, level_passes, settle_passes}
use Rattle.clap.proofs.OnLiterals.{clap_on_literals}
use Rattle.mixedcells.specs.CommandLine.{top}

abbrev pub first_shape : Shape → List Shape → Shape
first_shape d [] = d
first_shape d (s ∷ ss) = s

abbrev pub leaf : Shape
leaf = first_shape top.top (built top).subs

abbrev pub at : List Row → Option (Text × List Text) → Waiting → ℕ → Walk
at rows pending w position = record {
  held = record { rows = rows; pending = pending; skip = 0 };
  waiting = w;
  position = position;
  is_trailing = false;
  stopped = None;
}

abbrev pub settles : List Row → Option (Text × List Text) → Bool
settles rows pending = settle_passes leaf.rules false (record { rows = rows; pending = pending; skip = 0 })

abbrev pub no_rule : Rule
no_rule = new_rule []

abbrev pub seed_rule : Rule
seed_rule = unwrap_or (arg_by_long leaf.rules (codes "seed")) no_rule

pub cyclic_first : (rows : List Row) → walked leaf.rules [] (at rows None idle 1) (codes "cyclic") ≡ at (settled_rows leaf.rules None rows) (Some (codes "family", (codes "cyclic") ∷ [])) idle 2
unfolding clap_on_literals
cyclic_first rows = refl

pub cyclic_first_passes : (rows : List Row) → settles rows None ≡ true → turn_passes leaf [] (at rows None idle 1) (codes "cyclic") ≡ true
unfolding clap_on_literals
cyclic_first_passes rows s = simp s refl

pub cyclic_after_seed : (rows : List Row) (vs : List Text) → walked leaf.rules [] (at rows (Some (codes "seed", vs)) idle 1) (codes "cyclic") ≡ at (settled_rows leaf.rules (Some (codes "seed", vs)) rows) (Some (codes "family", (codes "cyclic") ∷ [])) idle 2
unfolding clap_on_literals
cyclic_after_seed rows vs = refl

pub cyclic_after_seed_passes : (rows : List Row) (vs : List Text) → settles rows (Some (codes "seed", vs)) ≡ true → turn_passes leaf [] (at rows (Some (codes "seed", vs)) idle 1) (codes "cyclic") ≡ true
unfolding clap_on_literals
cyclic_after_seed_passes rows vs s = simp s refl

pub scatter_first : (rows : List Row) → walked leaf.rules [] (at rows None idle 1) (codes "scatter") ≡ at (settled_rows leaf.rules None rows) (Some (codes "family", (codes "scatter") ∷ [])) idle 2
unfolding clap_on_literals
scatter_first rows = refl

pub scatter_first_passes : (rows : List Row) → settles rows None ≡ true → turn_passes leaf [] (at rows None idle 1) (codes "scatter") ≡ true
unfolding clap_on_literals
scatter_first_passes rows s = simp s refl

pub scatter_after_seed : (rows : List Row) (vs : List Text) → walked leaf.rules [] (at rows (Some (codes "seed", vs)) idle 1) (codes "scatter") ≡ at (settled_rows leaf.rules (Some (codes "seed", vs)) rows) (Some (codes "family", (codes "scatter") ∷ [])) idle 2
unfolding clap_on_literals
scatter_after_seed rows vs = refl

pub scatter_after_seed_passes : (rows : List Row) (vs : List Text) → settles rows (Some (codes "seed", vs)) ≡ true → turn_passes leaf [] (at rows (Some (codes "seed", vs)) idle 1) (codes "scatter") ≡ true
unfolding clap_on_literals
scatter_after_seed_passes rows vs s = simp s refl

pub n_word : (rows : List Row) (vs : List Text) (b : ℕ) (bs : Text) → (b == 45) ≡ false → walked leaf.rules [] (at rows (Some (codes "family", vs)) idle 2) (b ∷ bs) ≡ at (settled_rows leaf.rules (Some (codes "family", vs)) rows) (Some (codes "n", (b ∷ bs) ∷ [])) idle 3
unfolding clap_on_literals
n_word rows vs b bs h = simp h refl

pub n_word_passes : (rows : List Row) (vs : List Text) (b : ℕ) (bs : Text) → (b == 45) ≡ false → settles rows (Some (codes "family", vs)) ≡ true → turn_passes leaf [] (at rows (Some (codes "family", vs)) idle 2) (b ∷ bs) ≡ true
unfolding clap_on_literals
n_word_passes rows vs b bs h s = simp (h, s) refl

pub n_after_seed : (rows : List Row) (vs : List Text) (b : ℕ) (bs : Text) → (b == 45) ≡ false → walked leaf.rules [] (at rows (Some (codes "seed", vs)) idle 2) (b ∷ bs) ≡ at (settled_rows leaf.rules (Some (codes "seed", vs)) rows) (Some (codes "n", (b ∷ bs) ∷ [])) idle 3
unfolding clap_on_literals
n_after_seed rows vs b bs h = simp h refl

pub n_after_seed_passes : (rows : List Row) (vs : List Text) (b : ℕ) (bs : Text) → (b == 45) ≡ false → settles rows (Some (codes "seed", vs)) ≡ true → turn_passes leaf [] (at rows (Some (codes "seed", vs)) idle 2) (b ∷ bs) ≡ true
unfolding clap_on_literals
n_after_seed_passes rows vs b bs h s = simp (h, s) refl

pub n_after_joined : (rows : List Row) (b : ℕ) (bs : Text) → (b == 45) ≡ false → walked leaf.rules [] (at rows None idle 2) (b ∷ bs) ≡ at (settled_rows leaf.rules None rows) (Some (codes "n", (b ∷ bs) ∷ [])) idle 3
unfolding clap_on_literals
n_after_joined rows b bs h = simp h refl

pub n_after_joined_passes : (rows : List Row) (b : ℕ) (bs : Text) → (b == 45) ≡ false → settles rows None ≡ true → turn_passes leaf [] (at rows None idle 2) (b ∷ bs) ≡ true
unfolding clap_on_literals
n_after_joined_passes rows b bs h s = simp (h, s) refl

pub m_word : (rows : List Row) (vs : List Text) (b : ℕ) (bs : Text) → (b == 45) ≡ false → walked leaf.rules [] (at rows (Some (codes "n", vs)) idle 3) (b ∷ bs) ≡ at (settled_rows leaf.rules (Some (codes "n", vs)) rows) (Some (codes "m", (b ∷ bs) ∷ [])) idle 4
unfolding clap_on_literals
m_word rows vs b bs h = simp h refl

pub m_word_passes : (rows : List Row) (vs : List Text) (b : ℕ) (bs : Text) → (b == 45) ≡ false → settles rows (Some (codes "n", vs)) ≡ true → turn_passes leaf [] (at rows (Some (codes "n", vs)) idle 3) (b ∷ bs) ≡ true
unfolding clap_on_literals
m_word_passes rows vs b bs h s = simp (h, s) refl

pub m_after_seed : (rows : List Row) (vs : List Text) (b : ℕ) (bs : Text) → (b == 45) ≡ false → walked leaf.rules [] (at rows (Some (codes "seed", vs)) idle 3) (b ∷ bs) ≡ at (settled_rows leaf.rules (Some (codes "seed", vs)) rows) (Some (codes "m", (b ∷ bs) ∷ [])) idle 4
unfolding clap_on_literals
m_after_seed rows vs b bs h = simp h refl

pub m_after_seed_passes : (rows : List Row) (vs : List Text) (b : ℕ) (bs : Text) → (b == 45) ≡ false → settles rows (Some (codes "seed", vs)) ≡ true → turn_passes leaf [] (at rows (Some (codes "seed", vs)) idle 3) (b ∷ bs) ≡ true
unfolding clap_on_literals
m_after_seed_passes rows vs b bs h s = simp (h, s) refl

pub m_after_joined : (rows : List Row) (b : ℕ) (bs : Text) → (b == 45) ≡ false → walked leaf.rules [] (at rows None idle 3) (b ∷ bs) ≡ at (settled_rows leaf.rules None rows) (Some (codes "m", (b ∷ bs) ∷ [])) idle 4
unfolding clap_on_literals
m_after_joined rows b bs h = simp h refl

pub m_after_joined_passes : (rows : List Row) (b : ℕ) (bs : Text) → (b == 45) ≡ false → settles rows None ≡ true → turn_passes leaf [] (at rows None idle 3) (b ∷ bs) ≡ true
unfolding clap_on_literals
m_after_joined_passes rows b bs h s = simp (h, s) refl

pub side_word : (rows : List Row) (vs : List Text) (b : ℕ) (bs : Text) → (b == 45) ≡ false → walked leaf.rules [] (at rows (Some (codes "m", vs)) idle 4) (b ∷ bs) ≡ at (settled_rows leaf.rules (Some (codes "m", vs)) rows) (Some (codes "side", (b ∷ bs) ∷ [])) idle 5
unfolding clap_on_literals
side_word rows vs b bs h = simp h refl

pub side_word_passes : (rows : List Row) (vs : List Text) (b : ℕ) (bs : Text) → (b == 45) ≡ false → settles rows (Some (codes "m", vs)) ≡ true → turn_passes leaf [] (at rows (Some (codes "m", vs)) idle 4) (b ∷ bs) ≡ true
unfolding clap_on_literals
side_word_passes rows vs b bs h s = simp (h, s) refl

pub side_after_seed : (rows : List Row) (vs : List Text) (b : ℕ) (bs : Text) → (b == 45) ≡ false → walked leaf.rules [] (at rows (Some (codes "seed", vs)) idle 4) (b ∷ bs) ≡ at (settled_rows leaf.rules (Some (codes "seed", vs)) rows) (Some (codes "side", (b ∷ bs) ∷ [])) idle 5
unfolding clap_on_literals
side_after_seed rows vs b bs h = simp h refl

pub side_after_seed_passes : (rows : List Row) (vs : List Text) (b : ℕ) (bs : Text) → (b == 45) ≡ false → settles rows (Some (codes "seed", vs)) ≡ true → turn_passes leaf [] (at rows (Some (codes "seed", vs)) idle 4) (b ∷ bs) ≡ true
unfolding clap_on_literals
side_after_seed_passes rows vs b bs h s = simp (h, s) refl

pub side_after_joined : (rows : List Row) (b : ℕ) (bs : Text) → (b == 45) ≡ false → walked leaf.rules [] (at rows None idle 4) (b ∷ bs) ≡ at (settled_rows leaf.rules None rows) (Some (codes "side", (b ∷ bs) ∷ [])) idle 5
unfolding clap_on_literals
side_after_joined rows b bs h = simp h refl

pub side_after_joined_passes : (rows : List Row) (b : ℕ) (bs : Text) → (b == 45) ≡ false → settles rows None ≡ true → turn_passes leaf [] (at rows None idle 4) (b ∷ bs) ≡ true
unfolding clap_on_literals
side_after_joined_passes rows b bs h s = simp (h, s) refl

pub seed_after_none : (rows : List Row) (k : ℕ) → walked leaf.rules [] (at rows None idle k) (codes "--seed") ≡ at (settled_rows leaf.rules None rows) (Some (codes "seed", [])) (option (codes "seed")) k
unfolding clap_on_literals
seed_after_none rows k = refl

pub seed_after_none_passes : (rows : List Row) (k : ℕ) → settles rows None ≡ true → turn_passes leaf [] (at rows None idle k) (codes "--seed") ≡ true
unfolding clap_on_literals
seed_after_none_passes rows k s = simp s refl

pub joined_after_none : (rows : List Row) (k : ℕ) (v : Text) → walked leaf.rules [] (at rows None idle k) (codes "--seed=" ++ v) ≡ at (used seed_rule (v ∷ []) (settled_rows leaf.rules None rows)) None idle k
unfolding clap_on_literals
joined_after_none rows k v = refl

pub joined_after_none_passes : (rows : List Row) (k : ℕ) (v : Text) → settles rows None ≡ true → has_row (codes "seed") (settled_rows leaf.rules None rows) ≡ false → turn_passes leaf [] (at rows None idle k) (codes "--seed=" ++ v) ≡ true
unfolding clap_on_literals
joined_after_none_passes rows k v s r = simp (s, r) refl

pub seed_after_family : (rows : List Row) (vs : List Text) (k : ℕ) → walked leaf.rules [] (at rows (Some (codes "family", vs)) idle k) (codes "--seed") ≡ at (settled_rows leaf.rules (Some (codes "family", vs)) rows) (Some (codes "seed", [])) (option (codes "seed")) k
unfolding clap_on_literals
seed_after_family rows vs k = refl

pub seed_after_family_passes : (rows : List Row) (vs : List Text) (k : ℕ) → settles rows (Some (codes "family", vs)) ≡ true → turn_passes leaf [] (at rows (Some (codes "family", vs)) idle k) (codes "--seed") ≡ true
unfolding clap_on_literals
seed_after_family_passes rows vs k s = simp s refl

pub joined_after_family : (rows : List Row) (vs : List Text) (k : ℕ) (v : Text) → walked leaf.rules [] (at rows (Some (codes "family", vs)) idle k) (codes "--seed=" ++ v) ≡ at (used seed_rule (v ∷ []) (settled_rows leaf.rules (Some (codes "family", vs)) rows)) None idle k
unfolding clap_on_literals
joined_after_family rows vs k v = refl

pub joined_after_family_passes : (rows : List Row) (vs : List Text) (k : ℕ) (v : Text) → settles rows (Some (codes "family", vs)) ≡ true → has_row (codes "seed") (settled_rows leaf.rules (Some (codes "family", vs)) rows) ≡ false → turn_passes leaf [] (at rows (Some (codes "family", vs)) idle k) (codes "--seed=" ++ v) ≡ true
unfolding clap_on_literals
joined_after_family_passes rows vs k v s r = simp (s, r) refl

pub seed_after_n : (rows : List Row) (vs : List Text) (k : ℕ) → walked leaf.rules [] (at rows (Some (codes "n", vs)) idle k) (codes "--seed") ≡ at (settled_rows leaf.rules (Some (codes "n", vs)) rows) (Some (codes "seed", [])) (option (codes "seed")) k
unfolding clap_on_literals
seed_after_n rows vs k = refl

pub seed_after_n_passes : (rows : List Row) (vs : List Text) (k : ℕ) → settles rows (Some (codes "n", vs)) ≡ true → turn_passes leaf [] (at rows (Some (codes "n", vs)) idle k) (codes "--seed") ≡ true
unfolding clap_on_literals
seed_after_n_passes rows vs k s = simp s refl

pub joined_after_n : (rows : List Row) (vs : List Text) (k : ℕ) (v : Text) → walked leaf.rules [] (at rows (Some (codes "n", vs)) idle k) (codes "--seed=" ++ v) ≡ at (used seed_rule (v ∷ []) (settled_rows leaf.rules (Some (codes "n", vs)) rows)) None idle k
unfolding clap_on_literals
joined_after_n rows vs k v = refl

pub joined_after_n_passes : (rows : List Row) (vs : List Text) (k : ℕ) (v : Text) → settles rows (Some (codes "n", vs)) ≡ true → has_row (codes "seed") (settled_rows leaf.rules (Some (codes "n", vs)) rows) ≡ false → turn_passes leaf [] (at rows (Some (codes "n", vs)) idle k) (codes "--seed=" ++ v) ≡ true
unfolding clap_on_literals
joined_after_n_passes rows vs k v s r = simp (s, r) refl

pub seed_after_m : (rows : List Row) (vs : List Text) (k : ℕ) → walked leaf.rules [] (at rows (Some (codes "m", vs)) idle k) (codes "--seed") ≡ at (settled_rows leaf.rules (Some (codes "m", vs)) rows) (Some (codes "seed", [])) (option (codes "seed")) k
unfolding clap_on_literals
seed_after_m rows vs k = refl

pub seed_after_m_passes : (rows : List Row) (vs : List Text) (k : ℕ) → settles rows (Some (codes "m", vs)) ≡ true → turn_passes leaf [] (at rows (Some (codes "m", vs)) idle k) (codes "--seed") ≡ true
unfolding clap_on_literals
seed_after_m_passes rows vs k s = simp s refl

pub joined_after_m : (rows : List Row) (vs : List Text) (k : ℕ) (v : Text) → walked leaf.rules [] (at rows (Some (codes "m", vs)) idle k) (codes "--seed=" ++ v) ≡ at (used seed_rule (v ∷ []) (settled_rows leaf.rules (Some (codes "m", vs)) rows)) None idle k
unfolding clap_on_literals
joined_after_m rows vs k v = refl

pub joined_after_m_passes : (rows : List Row) (vs : List Text) (k : ℕ) (v : Text) → settles rows (Some (codes "m", vs)) ≡ true → has_row (codes "seed") (settled_rows leaf.rules (Some (codes "m", vs)) rows) ≡ false → turn_passes leaf [] (at rows (Some (codes "m", vs)) idle k) (codes "--seed=" ++ v) ≡ true
unfolding clap_on_literals
joined_after_m_passes rows vs k v s r = simp (s, r) refl

pub seed_after_side : (rows : List Row) (vs : List Text) (k : ℕ) → walked leaf.rules [] (at rows (Some (codes "side", vs)) idle k) (codes "--seed") ≡ at (settled_rows leaf.rules (Some (codes "side", vs)) rows) (Some (codes "seed", [])) (option (codes "seed")) k
unfolding clap_on_literals
seed_after_side rows vs k = refl

pub seed_after_side_passes : (rows : List Row) (vs : List Text) (k : ℕ) → settles rows (Some (codes "side", vs)) ≡ true → turn_passes leaf [] (at rows (Some (codes "side", vs)) idle k) (codes "--seed") ≡ true
unfolding clap_on_literals
seed_after_side_passes rows vs k s = simp s refl

pub joined_after_side : (rows : List Row) (vs : List Text) (k : ℕ) (v : Text) → walked leaf.rules [] (at rows (Some (codes "side", vs)) idle k) (codes "--seed=" ++ v) ≡ at (used seed_rule (v ∷ []) (settled_rows leaf.rules (Some (codes "side", vs)) rows)) None idle k
unfolding clap_on_literals
joined_after_side rows vs k v = refl

pub joined_after_side_passes : (rows : List Row) (vs : List Text) (k : ℕ) (v : Text) → settles rows (Some (codes "side", vs)) ≡ true → has_row (codes "seed") (settled_rows leaf.rules (Some (codes "side", vs)) rows) ≡ false → turn_passes leaf [] (at rows (Some (codes "side", vs)) idle k) (codes "--seed=" ++ v) ≡ true
unfolding clap_on_literals
joined_after_side_passes rows vs k v s r = simp (s, r) refl

pub seed_value : (rows : List Row) (k b : ℕ) (bs : Text) → (b == 45) ≡ false
    → walked leaf.rules [] (at rows (Some (codes "seed", [])) (option (codes "seed")) k) (b ∷ bs) ≡ at rows (Some (codes "seed", (b ∷ bs) ∷ [])) idle k
unfolding clap_on_literals
seed_value rows k b bs h = simp h refl

pub seed_value_passes : (rows : List Row) (k b : ℕ) (bs : Text) → (b == 45) ≡ false
    → turn_passes leaf [] (at rows (Some (codes "seed", [])) (option (codes "seed")) k) (b ∷ bs) ≡ true
unfolding clap_on_literals
seed_value_passes rows k b bs h = simp h refl

pub stops2 : (w1 w2 : Text) → (walk (built top).top.rules (names_of (built top)) nothing_held (codes "make" ∷ w1 ∷ w2 ∷ [])).stopped ≡ Some (codes "make", w1 ∷ w2 ∷ [])
unfolding clap_on_literals
stops2 w1 w2 = refl

pub above2 : (w1 w2 : Text) → level_passes (built top).top (names_of (built top)) nothing_held (codes "make" ∷ w1 ∷ w2 ∷ []) true ≡ true
unfolding clap_on_literals
above2 w1 w2 = refl

pub stops3 : (w1 w2 w3 : Text) → (walk (built top).top.rules (names_of (built top)) nothing_held (codes "make" ∷ w1 ∷ w2 ∷ w3 ∷ [])).stopped ≡ Some (codes "make", w1 ∷ w2 ∷ w3 ∷ [])
unfolding clap_on_literals
stops3 w1 w2 w3 = refl

pub above3 : (w1 w2 w3 : Text) → level_passes (built top).top (names_of (built top)) nothing_held (codes "make" ∷ w1 ∷ w2 ∷ w3 ∷ []) true ≡ true
unfolding clap_on_literals
above3 w1 w2 w3 = refl

pub stops4 : (w1 w2 w3 w4 : Text) → (walk (built top).top.rules (names_of (built top)) nothing_held (codes "make" ∷ w1 ∷ w2 ∷ w3 ∷ w4 ∷ [])).stopped ≡ Some (codes "make", w1 ∷ w2 ∷ w3 ∷ w4 ∷ [])
unfolding clap_on_literals
stops4 w1 w2 w3 w4 = refl

pub above4 : (w1 w2 w3 w4 : Text) → level_passes (built top).top (names_of (built top)) nothing_held (codes "make" ∷ w1 ∷ w2 ∷ w3 ∷ w4 ∷ []) true ≡ true
unfolding clap_on_literals
above4 w1 w2 w3 w4 = refl

pub stops5 : (w1 w2 w3 w4 w5 : Text) → (walk (built top).top.rules (names_of (built top)) nothing_held (codes "make" ∷ w1 ∷ w2 ∷ w3 ∷ w4 ∷ w5 ∷ [])).stopped ≡ Some (codes "make", w1 ∷ w2 ∷ w3 ∷ w4 ∷ w5 ∷ [])
unfolding clap_on_literals
stops5 w1 w2 w3 w4 w5 = refl

pub above5 : (w1 w2 w3 w4 w5 : Text) → level_passes (built top).top (names_of (built top)) nothing_held (codes "make" ∷ w1 ∷ w2 ∷ w3 ∷ w4 ∷ w5 ∷ []) true ≡ true
unfolding clap_on_literals
above5 w1 w2 w3 w4 w5 = refl

pub stops6 : (w1 w2 w3 w4 w5 w6 : Text) → (walk (built top).top.rules (names_of (built top)) nothing_held (codes "make" ∷ w1 ∷ w2 ∷ w3 ∷ w4 ∷ w5 ∷ w6 ∷ [])).stopped ≡ Some (codes "make", w1 ∷ w2 ∷ w3 ∷ w4 ∷ w5 ∷ w6 ∷ [])
unfolding clap_on_literals
stops6 w1 w2 w3 w4 w5 w6 = refl

pub above6 : (w1 w2 w3 w4 w5 w6 : Text) → level_passes (built top).top (names_of (built top)) nothing_held (codes "make" ∷ w1 ∷ w2 ∷ w3 ∷ w4 ∷ w5 ∷ w6 ∷ []) true ≡ true
unfolding clap_on_literals
above6 w1 w2 w3 w4 w5 w6 = refl
