-- the cells of preorders are those behind the cells with which they begin
use Rattle.std.proofs.Common.{List, [], ◌∷◌, refl, sym, subst, inl, inr}
use Rattle.cayley.specs.Problems.{Problem}
use Rattle.cayley.specs.Cells.{Cell}
use Rattle.cayley.specs.Parents.{IsParent, InChain}
use Rattle.cayley.specs.Parents.InChain.{here, up}
use Rattle.cayley.proofs.Searching.Chains.{chain_trans}
use Rattle.cayley.proofs.Searching.Listing.{Has, has-left, has-right}
use Rattle.cayley.proofs.Searching.Members.{has_contains, contains_has, has_either}
use Rattle.cayley.proofs.Searching.Shares.{list_has, has_list}
use Rattle.path_trace.specs.Preorders.{ArePreorders, PreorderLaw}
use Rattle.path_trace.specs.Preorders.ArePreorders.{none, next}

-- the first cell of its chain among those with which the preorders begin
abbrev IsBehind : Problem → List Cell → Cell → Type 0
IsBehind p roots cell = (root : Cell) × Has root roots × InChain p root cell

behind : (p : Problem) (roots cells : List Cell) → ArePreorders p roots cells → (cell : Cell) → Has cell cells → IsBehind p roots cell
behind p [] [] none cell h = absurd h
behind p [] (c ∷ cells) are cell h = elim are [ ]
behind p (root ∷ roots) _ (next {kids = kids} {below = below} {after = after} list down on) cell (inl e) = (root, inl refl, subst (λ c. InChain p root c) (sym e) here)
behind p (root ∷ roots) _ (next {kids = kids} {below = below} {after = after} list down on) cell (inr h) = elim (has_either cell below after h) [
  | inl k ↦
      let b = behind p kids below down cell k in
      (root, inl refl, chain_trans p root b.0 cell (up (list_has (λ kid. IsParent p root kid) kids list b.0 b.1) here) b.2)
  | inr k ↦ let b = behind p roots after on cell k in (b.0, inr b.1, b.2)
]

-- those with which they begin are there
root_there : (p : Problem) (roots cells : List Cell) → ArePreorders p roots cells → (root : Cell) → Has root roots → Has root cells
root_there p [] [] none root h = absurd h
root_there p [] (c ∷ cells) are root h = elim are [ ]
root_there p (first ∷ roots) _ (next {below = below} {after = after} list down on) root (inl e) = inl e
root_there p (first ∷ roots) _ (next {below = below} {after = after} list down on) root (inr h) = inr (has-right root below after (root_there p roots after on root h))

-- and the children of each cell that is there
kid_there : (p : Problem) (roots cells : List Cell) → ArePreorders p roots cells → (cell kid : Cell) → Has cell cells → IsParent p cell kid → Has kid cells
kid_there p [] [] none cell kid h q = absurd h
kid_there p [] (c ∷ cells) are cell kid h q = elim are [ ]
kid_there p (root ∷ roots) _ (next {kids = kids} {below = below} {after = after} list down on) cell kid (inl e) q =
    inr (has-left kid below after (root_there p kids below down kid (has_list (λ kid. IsParent p root kid) kids list kid (subst (λ c. IsParent p c kid) e q))))
kid_there p (root ∷ roots) _ (next {kids = kids} {below = below} {after = after} list down on) cell kid (inr h) q = elim (has_either cell below after h) [
  | inl k ↦ inr (has-left kid below after (kid_there p kids below down cell kid k q))
  | inr k ↦ inr (has-right kid below after (kid_there p roots after on cell kid k q))
]

chain_there : (p : Problem) (roots cells : List Cell) → ArePreorders p roots cells → (root cell : Cell) → InChain p root cell → Has root cells → Has cell cells
chain_there p roots cells are root cell here h = h
chain_there p roots cells are root cell (up {rho = rho} q c) h = kid_there p roots cells are rho cell (chain_there p roots cells are root rho c h) q

pub preorder_law : PreorderLaw
preorder_law p start cells are cell = (
  (λ c. let b = behind p (start ∷ []) cells are cell (contains_has cells cell c) in elim b.1 [ inl e ↦ subst (λ r. InChain p r cell) e b.2 | inr h ↦ absurd h ]),
  (λ c. has_contains cells cell (chain_there p (start ∷ []) cells are start cell c (root_there p (start ∷ []) cells are start (inl refl)))),
)
