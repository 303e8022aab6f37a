-- everything that the definitions name is computed
use Rattle.std.proofs.Common.{◌≡◌, ℕ, zero, suc, ◌<◌, List, [], ◌∷◌, arith, refl, sym, subst, ◌∙◌, inl, inr}
use Rattle.cayley.specs.Times.{Time}
use Rattle.cayley.specs.Problems.{Problem, IsProblem}
use Rattle.cayley.specs.Cells.{Cell, IsListOf}
use Rattle.cayley.specs.Mixed.{IsAlive, IsMixedCell}
use Rattle.cayley.specs.Parents.{Precedes, IsParent, IsChain, InChain}
use Rattle.cayley.specs.Parents.InChain.{here, up}
use Rattle.cayley.specs.Computed.{AllComputed, ChainLaw}
use Rattle.cayley.proofs.Order.Times.{same_sym, turned, turned_one, turned_back}
use Rattle.cayley.proofs.Order.Lined.{Lined, Early, mirrored, dec_early, now_same}
use Rattle.cayley.proofs.Life.Ends.{Late, turned_twice}
use Rattle.cayley.proofs.Searching.Listing.{Has, listed, all_cells, has-cell}
use Rattle.cayley.proofs.Searching.Members.{has_contains, contains_has, sorted_to}
use Rattle.cayley.proofs.Life.Decisions.{dec_of, dec_independent, dec_alive, dec_just_before, dec_just_after, dec_alive_early, dec_begins_at, find_begins, lined_cell, alive_before}
use Rattle.cayley.proofs.Searching.Parents.{dec_precedes, find_parent, one_parent}
use Rattle.cayley.proofs.Searching.Chains.{rank, rank_parent, dec_chain, chain_out}
use Rattle.cayley.proofs.Searching.Shares.{dec_true_branch, a_share, a_size}
use Rattle.cayley.proofs.Searching.FilePoints.{dec_mixed}

-- at all late times: at all early times in the mirror
pub late_from : (P : Time → Type 0) → Lined P → Early (λ t. P (turned t)) → Late P
late_from P p h = (turned h.0, λ x b. now_same P p (turned (turned x)) x (same_sym x (turned (turned x)) (turned_twice x)) (h.1 (turned x) (turned_one h.0 x b)))

late_to : (P : Time → Type 0) → Late P → Early (λ t. P (turned t))
late_to P h = (turned h.0, λ x b. h.1 (turned x) (turned_back x h.0 b))

pub dec_late : (P : Time → Type 0) → Lined P → Dec (Late P)
dec_late P p = elim (dec_early (λ t. P (turned t)) (mirrored P p)) [ yes h ↦ yes (late_from P p h) | no n ↦ no (λ h. n (late_to P h)) ]

-- the cells that precede a cell at a time, in cell order
pub predecessor_list : (p : Problem) → IsProblem p → (tau : Cell) (t : Time) → (cells : List Cell) × IsListOf (λ sigma. Precedes p sigma tau t) cells
predecessor_list p well tau t =
    let l = listed (λ sigma. Precedes p sigma tau t) (λ sigma. dec_precedes p sigma tau t well) (all_cells p.supports) in (
      l.list,
      (
        sorted_to l.list l.sorted,
        λ c. (
          (λ k. l.to c (contains_has l.list c k)),
          (λ h. has_contains l.list c (l.from c (has-cell p.supports c (alive_before p c t h.1).1.0) h)),
        ),
      ),
    )

-- ---- the chain as a list
chain_first : (p : Problem) (rho y : Cell) (ys : List Cell) → IsChain p rho (y ∷ ys) → y ≡ rho
chain_first p rho y [] c = c.0
chain_first p rho y (z ∷ ys) c = c.0

chain_more : (p : Problem) (tau rho : Cell) → IsParent p rho tau → (cells : List Cell) → IsChain p rho cells → (more : List Cell) × IsChain p tau more
chain_more p tau rho h [] c = absurd c
chain_more p tau rho h (y ∷ ys) c =
    let e = chain_first p rho y ys c in
    (tau ∷ y ∷ ys, (refl, subst (λ x. IsParent p x tau) (sym e) h, subst (λ x. IsChain p x (y ∷ ys)) (sym e) c))

chain_upto : (p : Problem) (well : IsProblem p) (n : ℕ) (tau : Cell) → rank p well tau < n → (cells : List Cell) × IsChain p tau cells
chain_upto p well zero tau l = absurd (omega arith)
chain_upto p well (suc n) tau l = elim (find_parent p tau well) [
  | inr none ↦ (tau ∷ [], (refl, none))
  | inl r ↦
      let c = chain_upto p well n r.0 (let j = rank_parent p well r.0 tau r.1 in omega (arith, j, l)) in
      chain_more p tau r.0 r.1 c.0 c.1
]

pub a_chain : (p : Problem) → IsProblem p → (tau : Cell) → (cells : List Cell) × IsChain p tau cells
a_chain p well tau = chain_upto p well (suc (rank p well tau)) tau (omega arith)

-- what is in the list is in the chain
chain_has : (p : Problem) (tau sigma : Cell) (cells : List Cell) → IsChain p tau cells → Has sigma cells → InChain p sigma tau
chain_has p tau sigma [] c h = absurd h
chain_has p tau sigma (x ∷ []) c (inl e) = subst (λ z. InChain p sigma z) (e ∙ c.0) here
chain_has p tau sigma (x ∷ []) c (inr h) = absurd h
chain_has p tau sigma (x ∷ y ∷ cells) c (inl e) = subst (λ z. InChain p sigma z) (e ∙ c.0) here
chain_has p tau sigma (x ∷ y ∷ cells) c (inr h) = up c.1 (chain_has p y sigma (y ∷ cells) c.2 h)

has_chain : (p : Problem) (well : IsProblem p) (tau sigma : Cell) (cells : List Cell) → IsChain p tau cells → InChain p sigma tau → Has sigma cells
has_chain p well tau sigma [] c h = absurd c
has_chain p well tau sigma (x ∷ []) c h = elim (chain_out p sigma tau h) [ inl e ↦ inl (e ∙ sym c.0) | inr r ↦ absurd (c.1 r.0 r.1) ]
has_chain p well tau sigma (x ∷ y ∷ cells) c h = elim (chain_out p sigma tau h) [
  | inl e ↦ inl (e ∙ sym c.0)
  | inr r ↦ inr (has_chain p well y sigma (y ∷ cells) c.2 (subst (λ z. InChain p sigma z) (one_parent p r.0 y tau well r.1 c.1) r.2))
]

pub chain_law : ChainLaw
chain_law p tau cells well c sigma = (
  (λ h. chain_has p tau sigma cells c (contains_has cells sigma h)),
  (λ h. has_contains cells sigma (has_chain p well tau sigma cells c h)),
)

pub computed_law : AllComputed
computed_law p well = record {
  of = λ cell. dec_of p cell;
  independent = λ cell of. dec_independent p cell well of;
  alive = λ cell t. dec_alive p cell well t;
  just_before = λ cell t. dec_just_before p cell well t;
  just_after = λ cell t. dec_just_after p cell well t;
  early = λ cell. dec_alive_early p cell well;
  late = λ cell. dec_late (IsAlive p cell) (lined_cell p cell well);
  mixed = λ cell. dec_mixed p well cell;
  begins = λ cell. find_begins p cell well;
  begins_at = λ cell t. dec_begins_at p cell well t;
  predecessors = λ cell t. predecessor_list p well cell t;
  parent = λ cell. find_parent p cell well;
  chain = λ cell. a_chain p well cell;
  in_chain = λ sigma cell. dec_chain p well sigma cell;
  true_branch = λ b. dec_true_branch p well b;
  share = λ b. a_share p well (IsMixedCell p) (dec_mixed p well) b;
  size = λ b. a_size p well b;
}
