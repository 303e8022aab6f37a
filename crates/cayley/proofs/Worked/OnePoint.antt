-- One point on a line: the path has two cells, no tie, and no mixed cell of the target.
use Rattle.std.proofs.Common.{◌≡◌, ◌≢◌, ◌⊎◌, ◌↔◌, ℕ, zero, suc, ◌<◌, ◌≤◌, [], ◌∷◌, arith, refl, sym, ap, ap₂, subst, ◌∙◌, inl, inr, None}
use Rattle.std.proofs.lemmas.Int.{ints}
use Rattle.std.proofs.Math.IntN.{ℤ, pos, negsuc, ◌+ℤ◌, ◌*ℤ◌, neg_ℤ, *ℤ_comm}
use Rattle.wide_int.proofs.Order.{mul_cancel}
use Rattle.int_vectors.specs.Vectors.{IsZero, at, dot, scale, entries_at}
use Rattle.int_vectors.proofs.Entries.{at-scale, at-add, zero_from, at-zero}
use Rattle.cayley.specs.Times.{Time, IsSameTime}
use Rattle.cayley.specs.Problems.{Point, Problem, IsProblem}
use Rattle.cayley.specs.Problems.Version.{version1}
use Rattle.cayley.specs.Files.{File}
use Rattle.cayley.specs.Paths.{path, start_cell}
use Rattle.cayley.specs.Cells.{Cell, IsOf, IsIndependent, IsLess}
use Rattle.cayley.specs.Normals.{Normal, height, gap, IsNormal}
use Rattle.cayley.specs.Mixed.{IsAlive, IsMixedCell}
use Rattle.cayley.specs.Lives.{AliveJustBefore, AliveEarly, AliveLate, BeginsAt}
use Rattle.cayley.specs.Lives.Begin.{at_start}
use Rattle.cayley.specs.Parents.{IsParent, InChain, IsInTree}
use Rattle.cayley.specs.Parents.InChain.{here, up}
use Rattle.cayley.specs.Shares.{Branch, IsShare, IsSize}
use Rattle.cayley.specs.Strangers.{IsStranger}
use Rattle.cayley.specs.Dependencies.{Numbers, total, IsFurtherAt, IsPositiveDependency}
use Rattle.cayley.specs.Ties.{IsLevelAt, IsTieFree}
use Rattle.cayley.specs.Flips.{IsOnlyLevel, IsLeastPredecessor, OneLevel}
use Rattle.cayley.proofs.OneCell.CellLines.{base_of, height-at}
use Rattle.cayley.proofs.OneCell.Neighbours.{potential, gap-potential}
use Rattle.cayley.proofs.Order.Times.{same_before, before_same, never_before}
use Rattle.cayley.proofs.Order.Lined.{Lined, early_from, early_nowhere}
use Rattle.cayley.proofs.Life.Decisions.{lined_cell}
use Rattle.cayley.proofs.OneCell.MovingNormals.{Moving, moving, lined_frame, moving_normal, ahead_signs, late_signs}
use Rattle.cayley.proofs.Searching.Parents.{less_irrefl}
use Rattle.cayley.proofs.Searching.Members.{contains_has, has_contains}
use Rattle.cayley.proofs.Searching.Strangers.{stranger_law}
use Rattle.cayley.proofs.Flipping.FlipPlaces.{flip_law}
use Rattle.cayley.proofs.Flipping.FlipChildren.{children_law}
use Rattle.cayley.proofs.Life.LifeLaws.{child_law, tie_free_law}

abbrev pub one_point : File
one_point = record { version = version1; dimension = 1; supports = (record { coordinates = pos 5 ∷ []; height = pos 7 } ∷ []) ∷ []; starts = None }

abbrev point : ℤ → ℤ → ℤ → Point
point x base speed = record { coordinates = x ∷ []; base = base; speed = speed; rank = 0 }

abbrev pub lone : Problem
lone = record { version = version1; dimension = 1; files = 1 ∷ []; supports = (point (pos 5) (pos 7) (pos 0) ∷ point (pos 5) (pos 0) (pos 1) ∷ point (pos 6) (pos 0) (pos 1) ∷ []) ∷ [] }

pub lone_path : path one_point ≡ lone
lone_path = refl

pub lone_well : IsProblem lone
lone_well = record { supports = refl; points = ((refl, (refl, (refl, tt))), tt) }

-- the start cell, and the cell without an end
abbrev pub start : Cell
start = (2, 3) ∷ []

abbrev pub endless : Cell
endless = (1, 3) ∷ []

pub start_is : start_cell lone ≡ start
start_is = refl

start_of : IsOf lone start
start_of = ((omega arith, omega arith, omega arith), tt)

endless_of : IsOf lone endless
endless_of = ((omega arith, omega arith, omega arith), tt)

start_independent : IsIndependent lone start
start_independent [] l e = absurd (omega (arith, l))
start_independent (x ∷ []) l e = let a = e.0 in (omega (arith, ints, a), tt)
start_independent (x ∷ y ∷ v) l e = absurd (omega (arith, l))

endless_independent : IsIndependent lone endless
endless_independent [] l e = absurd (omega (arith, l))
endless_independent (x ∷ []) l e = let a = e.0 in (omega (arith, ints, a), tt)
endless_independent (x ∷ y ∷ v) l e = absurd (omega (arith, l))

abbrev at_rest : Moving
at_rest = record { den = pos 1; positive = record { lt = tt }; starts = pos 0 ∷ []; slopes = pos 0 ∷ []; long = refl }

-- v = 7 - t
abbrev falling : Moving
falling = record { den = pos 1; positive = record { lt = tt }; starts = pos 7 ∷ []; slopes = negsuc 0 ∷ []; long = refl }

unfoldable start_lined : Lined (IsAlive lone start)
start_lined = lined_frame lone start lone_well start_of start_independent at_rest (refl, (((refl, tt), refl), tt))

unfoldable endless_lined : Lined (IsAlive lone endless)
endless_lined = lined_frame lone endless lone_well endless_of endless_independent falling (refl, (((refl, tt), refl), tt))

pub start_early : AliveEarly lone start
unfolding start_lined lined_frame
start_early = early_from (IsAlive lone start) start_lined (inl (omega (arith, ints)), tt)

pub endless_late : AliveLate lone endless
unfolding endless_lined lined_frame
endless_late = late_signs (IsAlive lone endless) endless_lined (inl (omega (arith, ints)), tt)

abbrev pub seven : Time
seven = record { entries = pos 7 ∷ []; over = pos 1; positive = record { lt = tt } }

start_before : AliveJustBefore lone start seven
unfolding start_lined lined_frame
start_before = ahead_signs (IsAlive lone start) start_lined seven (inr ((refl, tt), omega (arith, ints)), tt)

unfoldable normal_at_seven : Normal
normal_at_seven = moving at_rest seven

start_normal : IsNormal lone start seven normal_at_seven
unfolding normal_at_seven
start_normal = moving_normal lone start lone_well start_of start_independent at_rest (refl, (((refl, tt), refl), tt)) seven

start_only : IsOnlyLevel lone start seven normal_at_seven 0 1
unfolding normal_at_seven moving
start_only = (((omega arith, omega arith, (λ e. omega (arith, e)), (λ e. omega (arith, e))), (refl, tt)), where_level)
  where
    where_level : (i d : ℕ) → IsLevelAt lone start seven normal_at_seven i d → (i ≡ 0) × (d ≡ 1)
    where_level zero d h = (refl, (let a = h.0.0 in let b = h.0.1 in let c = h.0.2 in let f = h.0.3 in omega (arith, a, b, c, f)))
    where_level (suc i) d h = absurd (let a = h.0.0 in let b = h.0.1 in omega (arith, a, b))

abbrev numbers : Numbers
numbers = record { pairs = (negsuc 0, pos 0) ∷ []; last = pos 1 }

start_dependency : IsPositiveDependency lone start 0 1 numbers
start_dependency = (omega (arith, ints), (refl, ((λ n. let e = n.1 in omega (arith, ints, e)), (refl, tt), killed)))
  where
    killed : (k : ℕ) → total numbers.pairs lone.supports start (λ x. at x.coordinates k) +ℤ pos 1 *ℤ at (pos 5 ∷ []) k ≡ pos 0
    killed zero = refl
    killed (suc k) = refl

start_least : IsLeastPredecessor start 0 1 (negsuc 0, pos 0)
start_least rho (inl e) l = less_irrefl start (subst (λ z. IsLess z start) e l)
start_least rho (inr (inl h)) l = let p = h.1 in absurd (omega (arith, ints, p))
start_least rho (inr (inr h)) l = let p = h.1 in absurd (omega (arith, ints, p))

-- the one child of the start cell is the endless cell, from time 7
pub start_child : (tau : Cell) → IsParent lone start tau ↔ (tau ≡ endless)
start_child tau =
    let c = children_law lone start 0 1 numbers seven normal_at_seven lone_well start_before start_normal start_only start_dependency tau in (
      (λ h. elim (c.0 h).0 [ inl e ↦ absurd (let p = e.1 in omega (arith, ints, p)) | inr e ↦ e.0 ]),
      (λ e. c.1 (inr (e, omega (arith, ints)), start_least)),
    )

pub endless_begins : BeginsAt lone endless seven
endless_begins = (flip_law lone start 0 1 numbers seven normal_at_seven lone_well start_before start_normal start_only start_dependency).begins endless (inr (refl, omega (arith, ints)))

start_first : (rho : Cell) → ¬ (IsParent lone rho start)
start_first rho h = early_nowhere (IsAlive lone start) (lined_cell lone start lone_well) h.0 start_early h.1

chain_cells : (cell : Cell) → InChain lone start cell → (cell ≡ start) ⊎ (cell ≡ endless)
chain_cells cell here = inl refl
chain_cells cell (up {rho = rho} q c) = elim (chain_cells rho c) [
  | inl e ↦ inr ((start_child cell).0 (subst (λ x. IsParent lone x cell) e q))
  | inr e ↦ absurd ((child_law lone endless cell lone_well).1 endless_late (subst (λ x. IsParent lone x cell) e q))
]

cells_chain : (cell : Cell) → (cell ≡ start) ⊎ (cell ≡ endless) → InChain lone start cell
cells_chain cell (inl e) = subst (λ x. InChain lone start x) (sym e) here
cells_chain cell (inr e) = up ((start_child cell).1 e) here

-- the path tree
pub lone_tree : (cell : Cell) → IsInTree lone start cell ↔ ((cell ≡ start) ⊎ (cell ≡ endless))
lone_tree cell = ((λ h. chain_cells cell h.1), (λ h. (start_first, cells_chain cell h)))

abbrev pub start_branch : Branch
start_branch = record { cell = start; begin = at_start }

-- its size
pub lone_size : IsSize lone start_branch 2
lone_size = (
  endless ∷ start ∷ [],
  (
    (inl (omega arith), tt),
    λ cell. (
      (λ h. (start_early, tt, cells_chain cell (elim (contains_has (endless ∷ start ∷ []) cell h) [ inl e ↦ inr e | inr (inl e) ↦ inl e | inr (inr e) ↦ absurd e ]))),
      (λ h. has_contains (endless ∷ start ∷ []) cell (elim (chain_cells cell h.2) [ inl e ↦ inr (inl e) | inr e ↦ inl e ])),
    ),
  ),
  refl,
)

-- no mixed cell, so the share is empty
pub none_mixed : (cell : Cell) → ¬ (IsMixedCell lone cell)
none_mixed [] h = h.0
none_mixed (x ∷ []) h = let o = h.0.0 in let a = o.0 in let b = o.1 in let c = o.2 in omega (arith, a, b, c)
none_mixed (x ∷ y ∷ cell) h = h.0.1

pub lone_share : IsShare lone start_branch []
lone_share = (tt, λ cell. ((λ h. absurd (contains_has [] cell h)), (λ h. absurd (none_mixed cell h.1))))

-- ---- strangers: the endless cell doesn't begin at the start, and there is no fourth point
pub endless_early : ¬ (AliveEarly lone endless)
endless_early h = early_nowhere (IsAlive lone endless) (lined_cell lone endless lone_well) seven h endless_begins

abbrev pub too_early : Branch
too_early = record { cell = endless; begin = at_start }

pub begins_otherwise : IsStranger lone too_early
begins_otherwise = inr endless_early

abbrev pub past_the_end : Branch
past_the_end = record { cell = (3, 4) ∷ []; begin = at_start }

pub no_such_pair : IsStranger lone past_the_end
no_such_pair = inl (λ o. let p = o.0.2 in omega (arith, p))

pub too_early_size : IsSize lone too_early 0
too_early_size = (stranger_law lone too_early begins_otherwise).size

-- ---- no tie
level_heights : (t : Time) (v : Normal) (x y : Point) → x.coordinates ≡ y.coordinates → IsZero (gap t v x y) → (e : ℕ) → at (height t x) e ≡ at (height t y) e
unfolding potential
level_heights t v x y c z e =
    let g = sym (gap-potential t v x y e) ∙ at-zero (gap t v x y) e z in
    let s : dot x.coordinates (entries_at e v.entries) ≡ dot y.coordinates (entries_at e v.entries) = ap (λ l. dot l (entries_at e v.entries)) c in
    let q : t.over *ℤ dot x.coordinates (entries_at e v.entries) ≡ t.over *ℤ dot y.coordinates (entries_at e v.entries) = ap (λ k. t.over *ℤ k) s in
    let p = v.positive in
    let h : v.over *ℤ at (height t x) e ≡ v.over *ℤ at (height t y) e = omega (arith, ints, g, q) in
    mul_cancel (at (height t x) e) (at (height t y) e) v.over (λ k. omega (arith, ints, k, p)) (*ℤ_comm (at (height t x) e) v.over ∙ h ∙ *ℤ_comm v.over (at (height t y) e))

-- the file point and the corner below it are level at time 7 only
meet_at_seven : (t : Time) → ((e : ℕ) → at (height t (point (pos 5) (pos 7) (pos 0))) e ≡ at (height t (point (pos 5) (pos 0) (pos 1))) e) → IsSameTime t seven
unfolding base_of
meet_at_seven t h = zero_from _ (λ e.
    let a = height-at t (point (pos 5) (pos 7) (pos 0)) e in
    let b = height-at t (point (pos 5) (pos 0) (pos 1)) e in
    let k = h e in
    at-add (scale t.over (pos 7 ∷ [])) (scale (neg_ℤ (pos 1)) t.entries) e ∙ ap₂ ◌+ℤ◌ (at-scale t.over (pos 7 ∷ []) e) (at-scale (neg_ℤ (pos 1)) t.entries e)
    ∙ step t.over (at (pos 7 ∷ []) e) (at (pos 0 ∷ []) e) (at t.entries e) (nothing e) (sym a ∙ k ∙ b))
  where
    nothing : (e : ℕ) → at (pos 0 ∷ []) e ≡ pos 0
    nothing zero = refl
    nothing (suc e) = refl

    step : (q s z x : ℤ) → z ≡ pos 0 → q *ℤ s +ℤ pos 0 *ℤ x ≡ q *ℤ z +ℤ pos 1 *ℤ x → q *ℤ s +ℤ neg_ℤ (pos 1) *ℤ x ≡ pos 0
    step q s z x n e = let m : q *ℤ z ≡ q *ℤ pos 0 = ap (λ k. q *ℤ k) n in omega (arith, ints, e, m)

abbrev LevelHere : ℕ → ℕ → Time → Normal → ℕ → Type 0
LevelHere a b t v c = IsLevelAt lone ((a, b) ∷ []) t v 0 c

-- a level further point is the one that isn't in the pair, at time 7
meets : (a b : ℕ) → (1 ≤ a) × (a < b) × (b ≤ 3) → IsIndependent lone ((a, b) ∷ []) → (t : Time) (v : Normal) (c : ℕ) → LevelHere a b t v c → IsSameTime t seven
meets zero b o ind t v c h = absurd (omega (arith, o.0))
meets (suc zero) zero o ind t v c h = absurd (omega (arith, o.1))
meets (suc zero) (suc zero) o ind t v c h = absurd (omega (arith, o.1))
meets (suc zero) (suc (suc zero)) o ind t v c h = absurd (let e = (ind (pos 1 ∷ []) refl (refl, tt)).0 in omega (arith, ints, e))
meets (suc zero) (suc (suc (suc zero))) o ind t v c h =
    let p = h.0.0 in let q = h.0.1 in let r = h.0.2 in let s = h.0.3 in
    let e : c ≡ 2 = omega (arith, p, q, r, s) in
    let z = subst (λ k. LevelHere 1 3 t v k) e h in
    meet_at_seven t (level_heights t v (point (pos 5) (pos 7) (pos 0)) (point (pos 5) (pos 0) (pos 1)) refl z.1)
meets (suc zero) (suc (suc (suc (suc b)))) o ind t v c h = absurd (omega (arith, o.2))
meets (suc (suc zero)) zero o ind t v c h = absurd (omega (arith, o.1))
meets (suc (suc zero)) (suc zero) o ind t v c h = absurd (omega (arith, o.1))
meets (suc (suc zero)) (suc (suc zero)) o ind t v c h = absurd (omega (arith, o.1))
meets (suc (suc zero)) (suc (suc (suc zero))) o ind t v c h =
    let p = h.0.0 in let q = h.0.1 in let r = h.0.2 in let s = h.0.3 in
    let e : c ≡ 1 = omega (arith, p, q, r, s) in
    let z = subst (λ k. LevelHere 2 3 t v k) e h in
    meet_at_seven t (λ i. sym (level_heights t v (point (pos 5) (pos 0) (pos 1)) (point (pos 5) (pos 7) (pos 0)) refl z.1 i))
meets (suc (suc zero)) (suc (suc (suc (suc b)))) o ind t v c h = absurd (omega (arith, o.2))
meets (suc (suc (suc a))) b o ind t v c h = absurd (let p = o.1 in let q = o.2 in omega (arith, p, q))

first_place : (x : ℕ × ℕ) (t : Time) (v : Normal) (i c : ℕ) → IsLevelAt lone (x ∷ []) t v i c → i ≡ 0
first_place x t v zero c h = refl
first_place x t v (suc i) c h = absurd (let p = h.0.0 in let q = h.0.1 in omega (arith, p, q))

pub lone_tie_free : IsTieFree lone
lone_tie_free [] t v h = h.0
lone_tie_free (x ∷ y ∷ cell) t v h = h.0.1
lone_tie_free (x ∷ []) t v h = elim h.4 [
  | inl two ↦
      let i = two.0 in let c = two.1 in let j = two.2 in let d = two.3 in
      let ei = first_place x t v i c two.5 in
      let ej = first_place x t v j d two.6 in
      let f : IsFurtherAt lone (x ∷ []) 0 c = subst (λ k. IsFurtherAt lone (x ∷ []) k c) ei two.5.0 in
      let g : IsFurtherAt lone (x ∷ []) 0 d = subst (λ k. IsFurtherAt lone (x ∷ []) k d) ej two.6.0 in
      let o = h.0.0 in
      two.4 (ei ∙ sym ej, same_third x.0 x.1 c d o f g)
  | inr twice ↦
      let i = twice.0 in let c = twice.1 in let u = twice.2 in let w = twice.3 in
      let e = first_place x t v i c twice.6 in
      let a = meets x.0 x.1 h.0.0 h.1 t v c (subst (λ k. IsLevelAt lone (x ∷ []) t v k c) e twice.6) in
      let b = meets x.0 x.1 h.0.0 h.1 u w c (subst (λ k. IsLevelAt lone (x ∷ []) u w k c) e twice.7) in
      elim twice.4 [
        | inl early ↦ never_before seven (same_before t seven seven a (before_same t u seven b early))
        | inr late ↦ never_before seven (same_before u seven seven b (before_same u t seven a late))
      ]
]
  where
    same_third : (a b c d : ℕ) → (1 ≤ a) × (a < b) × (b ≤ 3) → (1 ≤ c) × (c ≤ 3) × (c ≢ a) × (c ≢ b) → (1 ≤ d) × (d ≤ 3) × (d ≢ a) × (d ≢ b) → c ≡ d
    same_third a b c d o f g =
        let o0 = o.0 in let o1 = o.1 in let o2 = o.2 in
        let f0 = f.0 in let f1 = f.1 in let f2 = f.2 in let f3 = f.3 in
        let g0 = g.0 in let g1 = g.1 in let g2 = g.2 in let g3 = g.3 in
        omega (arith, o0, o1, o2, f0, f1, f2, f3, g0, g1, g2, g3)

-- so the law of tie-free problems speaks of it
pub endless_one_level : OneLevel lone endless seven
endless_one_level = ((tie_free_law lone endless seven lone_well (lone_tie_free endless seven)).0 endless_begins).0
