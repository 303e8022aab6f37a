-- a loop over a stack of branches: what was found and the shares of what is left
use Rattle.std.proofs.Common.{min, ◌≡◌, ℕ, zero, suc, ◌+◌, ◌<◌, ◌≤◌, List, [], ◌∷◌, ◌++◌, length, arith, refl, sym, ap, ap₂, subst, ◌∙◌, inl, inr, append_assoc, append-nil}
use Rattle.std.specs.Prelude.{IsPermutation, flat_map, sum_by}
use Rattle.std.proofs.lemmas.List.Sums.{sum_by-cons, sum_by-append}
use Rattle.std.proofs.lemmas.Grind.{flat_map-append}
use Rattle.std.proofs.lemmas.List.Sorted.{IsPermutation-refl, IsPermutation-trans, IsPermutation-append_left, IsPermutation-append_right, IsPermutation-append_comm}
use Rattle.cayley.proofs.Searching.Listing.{Has}
use Rattle.cayley.proofs.Life.Decisions.{dec_of}
use Rattle.cayley.proofs.Searching.Chains.{chain_trans}
use Rattle.cayley.proofs.Searching.Shares.{dec_true_branch, a_share, a_size, no_share, share_step, size_step, child_true, true_of, has_list}
use Rattle.cayley.proofs.Searching.Members.{has_contains}
use Rattle.cayley.specs.Problems.{Problem, IsProblem}
use Rattle.cayley.specs.Cells.{Cell, IsOf}
use Rattle.cayley.specs.Parents.{IsParent}
use Rattle.cayley.specs.Parents.InChain.{here, up}
use Rattle.cayley.specs.Shares.{Branch, IsTrueBranch, InShareOf, GivesSharesOf, IsSize, GivesSizes, IsChildren, IsLed, GivesCosts, Solved}
use Rattle.int_vectors.specs.Vectors.{Each}

-- ---- found and left: a permutation of the shares of the given branches
abbrev pub Keeps : (Branch → List Cell) → List Branch → List Cell → List Branch → Type 0
Keeps share given found left = IsPermutation (flat_map share given) (found ++ flat_map share left)

pub keeps_begin : (share : Branch → List Cell) (given : List Branch) → Keeps share given [] given
keeps_begin share given = IsPermutation-refl (flat_map share given)

pub keeps_end : (share : Branch → List Cell) (given : List Branch) (found : List Cell) → Keeps share given found [] → IsPermutation (flat_map share given) found
keeps_end share given found k = subst (λ l. IsPermutation (flat_map share given) l) (append-nil found) k

-- b goes, its own cell is found, its children come in its place
pub keeps_step : (share : Branch → List Cell) (given : List Branch) (found : List Cell) (rest : List Branch) (b : Branch) (own : List Cell) (kids : List Branch)
    → IsPermutation (share b) (own ++ flat_map share kids) → Keeps share given found (rest ++ b ∷ []) → Keeps share given (found ++ own) (rest ++ kids)
keeps_step share given found rest b own kids q k =
    let r = flat_map share rest in
    let f = flat_map share kids in
    let one : IsPermutation (flat_map share (rest ++ b ∷ [])) (r ++ (own ++ f)) =
    subst (λ l. IsPermutation l (r ++ (own ++ f))) (sym (flat_map-append share rest (b ∷ []) ∙ ap (λ l. r ++ l) (append-nil (share b)))) (IsPermutation-append_right r (share b) (own ++ f) q) in
    let two : IsPermutation (r ++ (own ++ f)) (own ++ (r ++ f)) =
    subst (λ l. IsPermutation (r ++ (own ++ f)) l) (append_assoc own r f)
    (subst (λ l. IsPermutation l ((own ++ r) ++ f)) (append_assoc r own f) (IsPermutation-append_left f (r ++ own) (own ++ r) (IsPermutation-append_comm r own))) in
    let three : IsPermutation (found ++ flat_map share (rest ++ b ∷ [])) (found ++ (own ++ (r ++ f))) =
    IsPermutation-append_right found (flat_map share (rest ++ b ∷ [])) (own ++ (r ++ f)) (IsPermutation-trans (flat_map share (rest ++ b ∷ [])) (r ++ (own ++ f)) (own ++ (r ++ f)) one two) in
    IsPermutation-trans (flat_map share given) (found ++ flat_map share (rest ++ b ∷ [])) ((found ++ own) ++ flat_map share (rest ++ kids)) k
    (subst (λ l. IsPermutation (found ++ flat_map share (rest ++ b ∷ [])) l) (sym (append_assoc found own (flat_map share (rest ++ kids)) ∙ ap (λ l. found ++ (own ++ l)) (flat_map-append share rest kids))) three)

-- a branch with no share goes
pub keeps_drop : (share : Branch → List Cell) (given : List Branch) (found : List Cell) (rest : List Branch) (b : Branch) → share b ≡ [] → Keeps share given found (rest ++ b ∷ []) → Keeps share given found rest
keeps_drop share given found rest b e k =
    subst (λ l. IsPermutation (flat_map share given) (found ++ l)) (flat_map-append share rest (b ∷ []) ∙ ap (λ l. flat_map share rest ++ l) (append-nil (share b) ∙ e) ∙ append-nil (flat_map share rest)) k

-- ---- the measure, and the count of solves
at_least_one : ℕ → ℕ
at_least_one zero = 1
at_least_one (suc n) = suc n

some_is : (n : ℕ) → 1 ≤ n → at_least_one n ≡ n
unfolding at_least_one
some_is zero l = absurd (omega arith)
some_is (suc n) l = refl

one_or_more : (n : ℕ) → 1 ≤ at_least_one n
unfolding at_least_one
one_or_more zero = omega arith
one_or_more (suc n) = omega arith

has_some : {A : Type 0} (x : A) (xs : List A) → Has x xs → 1 ≤ length xs
has_some x [] h = absurd h
has_some x (y ∷ xs) h = omega arith

-- a true branch has its own cell at least
pub size_some : (p : Problem) (b : Branch) (n : ℕ) → IsSize p b n → IsTrueBranch p b → 1 ≤ n
size_some p b n s is = subst (λ k. 1 ≤ k) s.2 (has_some b.cell s.0 (has_list (InShareOf p (λ c. Unit {0}) b) s.0 s.1 b.cell (is, tt, here)))

pub size_none : (p : Problem) (b : Branch) (n : ℕ) → IsSize p b n → ¬ (IsTrueBranch p b) → n ≡ 0
size_none p b n s is = sym s.2 ∙ ap length (no_share p (λ c. Unit {0}) b s.0 is s.1)

-- the weight of a branch: its size, and 1 where that is 0
pub weight : (Branch → ℕ) → Branch → ℕ
weight size b = at_least_one (size b)

module _ (p : Problem) (well : IsProblem p) (size : Branch → ℕ) (gives : GivesSizes p size) where
  true_weight : (b : Branch) → IsTrueBranch p b → weight size b ≡ size b
  unfolding weight
  true_weight b is = some_is (size b) (size_some p b (size b) (gives b) is)

  weights : (ks : List Branch) → ((k : Branch) → Has k ks → IsTrueBranch p k) → sum_by (weight size) ks ≡ sum_by size ks
  weights [] h = refl
  weights (k ∷ ks) h = sum_by-cons (weight size) k ks ∙ ap₂ (λ m n. m + n) (true_weight k (h k (inl refl))) (weights ks (λ l i. h l (inr i))) ∙ sym (sum_by-cons size k ks)

  -- an expansion lowers the sum of the weights by one
  pub weight_step : (b : Branch) → IsTrueBranch p b → (kids : List Branch) → IsChildren p b.cell kids → weight size b ≡ suc (sum_by (weight size) kids)
  weight_step b is kids children = true_weight b is ∙ size_step p well b is kids children size gives ∙ ap suc (sym (weights kids (child_true p well b is kids children)))

  pub weight_some : (b : Branch) → 1 ≤ weight size b
  unfolding weight
  weight_some b = one_or_more (size b)

  -- the sum falls
  pub falls_step : (rest : List Branch) (b : Branch) → IsTrueBranch p b → (kids : List Branch) → IsChildren p b.cell kids → sum_by (weight size) (rest ++ kids) < sum_by (weight size) (rest ++ b ∷ [])
  falls_step rest b is kids children =
      let w = weight_step b is kids children in
      let i = sum_by-append (weight size) rest kids in
      let j = sum_by-append (weight size) rest (b ∷ []) in
      let k = sum_by-cons (weight size) b [] in
      omega (arith, w, i, j, k)

  pub falls_drop : (rest : List Branch) (b : Branch) → sum_by (weight size) rest < sum_by (weight size) (rest ++ b ∷ [])
  falls_drop rest b =
      let w = weight_some b in
      let j = sum_by-append (weight size) rest (b ∷ []) in
      let k = sum_by-cons (weight size) b [] in
      omega (arith, w, j, k)

  module _ (cost : Branch → ℕ) (costs : GivesCosts p size cost) where
    cost_sum : (ks : List Branch) → ((k : Branch) → Has k ks → IsTrueBranch p k) → sum_by cost ks ≡ sum_by size ks
    cost_sum [] h = refl
    cost_sum (k ∷ ks) h =
        sum_by-cons cost k ks
        ∙ ap₂ (λ m n. m + n) ((costs k).0 (size_some p k (size k) (gives k) (h k (inl refl)))) (cost_sum ks (λ l i. h l (inr i)))
        ∙ sym (sum_by-cons size k ks)

    -- solves and costs: an expansion of a true branch, of another one that the problem contains, of one that it doesn't contain
    pub cost_step : (b : Branch) → IsTrueBranch p b → (kids : List Branch) → IsChildren p b.cell kids → cost b ≡ suc (sum_by cost kids)
    cost_step b is kids children =
        (costs b).0 (size_some p b (size b) (gives b) is) ∙ size_step p well b is kids children size gives ∙ ap suc (sym (cost_sum kids (child_true p well b is kids children)))

    pub cost_stranger : (b : Branch) → ¬ (IsTrueBranch p b) → IsOf p b.cell → cost b ≡ 1
    cost_stranger b n of = (costs b).1 (size_none p b (size b) (gives b) n) of

    pub cost_foreign : (b : Branch) → ¬ (IsOf p b.cell) → cost b ≡ 0
    cost_foreign b n = (costs b).2 n

-- ---- these functions exist, so no clause about them is empty
pub shares_exist : (p : Problem) → IsProblem p → (Wanted : Cell → Type 0) → ((c : Cell) → Dec (Wanted c)) → (share : Branch → List Cell) × GivesSharesOf p Wanted share
shares_exist p well Wanted dec = ((λ b. (a_share p well Wanted dec b).0), (λ b. (a_share p well Wanted dec b).1))

pub sizes_exist : (p : Problem) → IsProblem p → (size : Branch → ℕ) × GivesSizes p size
sizes_exist p well = ((λ b. (a_size p well b).0), (λ b. (a_size p well b).1))

cost_by : (p : Problem) (cell : Cell) → Dec (IsOf p cell) → ℕ → ℕ
cost_by p cell (yes of) n = at_least_one n
cost_by p cell (no m) n = 0

cost_is : (p : Problem) (b : Branch) (n : ℕ) → (1 ≤ n → IsOf p b.cell) → (d : Dec (IsOf p b.cell)) → (1 ≤ n → cost_by p b.cell d n ≡ n) × (n ≡ 0 → IsOf p b.cell → cost_by p b.cell d n ≡ 1) × (¬ (IsOf p b.cell) → cost_by p b.cell d n ≡ 0)
unfolding cost_by at_least_one
cost_is p b n of (yes o) = ((λ l. some_is n l), (λ e o. ap at_least_one e), (λ m. absurd (m o)))
cost_is p b n of (no m) = ((λ l. absurd (m (of l))), (λ e o. absurd (m o)), (λ m. refl))

size_of : (p : Problem) (well : IsProblem p) (b : Branch) (n : ℕ) → IsSize p b n → 1 ≤ n → IsOf p b.cell
size_of p well b n s l = elim (dec_true_branch p well b) [
  | yes t ↦ true_of p b t
  | no m ↦ absurd (let e = size_none p b n s m in omega (arith, e, l))
]

pub costs_exist : (p : Problem) → IsProblem p → (size : Branch → ℕ) → GivesSizes p size → (cost : Branch → ℕ) × GivesCosts p size cost
costs_exist p well size gives = ((λ b. cost_by p b.cell (dec_of p b.cell) (size b)), λ b. cost_is p b (size b) (size_of p well b (size b) (gives b)) (dec_of p b.cell))

-- ---- the branches that are left are led by the given ones
pub led_given : (p : Problem) (given : List Branch) (b : Branch) → Has b given → IsLed p given b
led_given p given b h = (b, has_contains given b h, here)

pub led_child : (p : Problem) (given : List Branch) (b k : Branch) → IsParent p b.cell k.cell → IsLed p given b → IsLed p given k
led_child p given b k q l = (l.0, l.1, chain_trans p l.0.cell b.cell k.cell l.2 (up q here))

-- ---- the turns of the loop: the last branch of what is left is expanded
module _ (p : Problem) (well : IsProblem p) (Wanted : Cell → Type 0) (b : Branch) (left rest : List Branch) (popped : left ≡ rest ++ b ∷ []) where
  -- b isn't wanted itself, and its children come in its place
  pub inner_keeps : IsTrueBranch p b → ¬ (Wanted b.cell) → (kids : List Branch) → IsChildren p b.cell kids → (given : List Branch) (found : List Cell)
      → (share : Branch → List Cell) → GivesSharesOf p Wanted share → Keeps share given found left → Keeps share given found (rest ++ kids)
  inner_keeps is n kids children given found share gives k =
      subst (λ l. Keeps share given l (rest ++ kids)) (append-nil found)
      (keeps_step share given found rest b [] kids (share_step p well b is kids children Wanted share gives [] (inr (n, refl))) (subst (λ l. Keeps share given found l) popped k))

  -- b is wanted and has no child
  pub target_keeps : IsTrueBranch p b → Wanted b.cell → IsChildren p b.cell [] → (given : List Branch) (found : List Cell)
      → (share : Branch → List Cell) → GivesSharesOf p Wanted share → Keeps share given found left → Keeps share given (found ++ b.cell ∷ []) rest
  target_keeps is w children given found share gives k =
      subst (λ l. Keeps share given (found ++ b.cell ∷ []) l) (append-nil rest)
      (keeps_step share given found rest b (b.cell ∷ []) [] (share_step p well b is [] children Wanted share gives (b.cell ∷ []) (inl (w, refl))) (subst (λ l. Keeps share given found l) popped k))

  -- b is neither
  pub endless_keeps : IsTrueBranch p b → ¬ (Wanted b.cell) → IsChildren p b.cell [] → (given : List Branch) (found : List Cell)
      → (share : Branch → List Cell) → GivesSharesOf p Wanted share → Keeps share given found left → Keeps share given found rest
  endless_keeps is n children given found share gives k =
      subst (λ l. Keeps share given found l) (append-nil rest) (inner_keeps is n [] children given found share gives k)

  -- b isn't true
  pub stranger_keeps : ¬ (IsTrueBranch p b) → (given : List Branch) (found : List Cell)
      → (share : Branch → List Cell) → GivesSharesOf p Wanted share → Keeps share given found left → Keeps share given found rest
  stranger_keeps n given found share gives k =
      keeps_drop share given found rest b (no_share p Wanted b (share b) n (gives b)) (subst (λ l. Keeps share given found l) popped k)

module _ (p : Problem) (well : IsProblem p) (size : Branch → ℕ) (gives : GivesSizes p size) (b : Branch) (left rest : List Branch) (popped : left ≡ rest ++ b ∷ []) where
  pub inner_falls : IsTrueBranch p b → (kids : List Branch) → IsChildren p b.cell kids → sum_by (weight size) (rest ++ kids) < sum_by (weight size) left
  inner_falls is kids children = subst (λ l. sum_by (weight size) (rest ++ kids) < sum_by (weight size) l) (sym popped) (falls_step p well size gives rest b is kids children)

  pub drop_falls : sum_by (weight size) rest < sum_by (weight size) left
  drop_falls = subst (λ l. sum_by (weight size) rest < sum_by (weight size) l) (sym popped) (falls_drop p well size gives rest b)

-- ---- all that is left is led by the given branches
pub each_in : {A : Type 0} (P : A → Type 0) (xs : List A) → ((x : A) → Has x xs → P x) → Each xs P
each_in P [] f = tt
each_in P (x ∷ xs) f = (f x (inl refl), each_in P xs (λ y h. f y (inr h)))

-- ---- the count, which stands at its last value
abbrev pub Counts : (Branch → ℕ) → ℕ → List Branch → ℕ → List Branch → Type 0
Counts cost top given solves left = min (solves + sum_by cost left) top ≡ min (sum_by cost given) top

module _ (p : Problem) (well : IsProblem p) (size cost : Branch → ℕ) (gives : GivesSizes p size) (costs : GivesCosts p size cost) (top : ℕ) (given left rest : List Branch) (b : Branch) (popped : left ≡ rest ++ b ∷ []) where
  split_sum : sum_by cost left ≡ sum_by cost rest + cost b
  split_sum = let i = sum_by-append cost rest (b ∷ []) in let k = sum_by-cons cost b [] in ap (sum_by cost) popped ∙ omega (arith, i, k)

  pub counts_step : IsTrueBranch p b → (kids : List Branch) → IsChildren p b.cell kids → (old new : ℕ) → Solved p top b old new → Counts cost top given old left → Counts cost top given new (rest ++ kids)
  counts_step is kids children old new s c =
      let w = cost_step p well size gives cost costs b is kids children in
      let i = sum_by-append cost rest kids in
      let j = split_sum in
      let n = s.0 (true_of p b is) in
      omega (arith, w, i, j, n, c)

  pub counts_drop : ¬ (IsTrueBranch p b) → (old new : ℕ) → Solved p top b old new → Counts cost top given old left → Counts cost top given new rest
  counts_drop f old new s c = elim (dec_of p b.cell) [
    | yes of ↦
        let w = cost_stranger p well size gives cost costs b f of in
        let j = split_sum in
        let n = s.0 of in
        omega (arith, w, j, n, c)
    | no m ↦
        let w = cost_foreign p well size gives cost costs b m in
        let j = split_sum in
        let n = s.1 m in
        omega (arith, w, j, n, c)
  ]

  pub counts_leaf : IsTrueBranch p b → IsChildren p b.cell [] → (old new : ℕ) → Solved p top b old new → Counts cost top given old left → Counts cost top given new rest
  counts_leaf is children old new s c = subst (λ l. Counts cost top given new l) (append-nil rest) (counts_step is [] children old new s c)

pub counts_begin : (cost : Branch → ℕ) (top : ℕ) (given : List Branch) → Counts cost top given 0 given
counts_begin cost top given = ap (λ n. min n top) (zero_left (sum_by cost given))
  where
    zero_left : (n : ℕ) → 0 + n ≡ n
    zero_left n = omega arith

pub counts_end : (cost : Branch → ℕ) (top : ℕ) (given left : List Branch) (solves : ℕ) → left ≡ [] → solves ≤ top → Counts cost top given solves left → solves ≡ min (sum_by cost given) top
counts_end cost top given left solves e l c = let z = ap (sum_by cost) e in omega (arith, z, l, c)
