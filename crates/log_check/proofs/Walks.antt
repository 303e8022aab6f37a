-- nodes in order and preorders
use Rattle.std.proofs.Common.{◌≡◌, List, [], ◌∷◌, ◌++◌, drop, refl, sym, ap, subst, ◌∙◌, append_assoc}
use Rattle.int_vectors.specs.Vectors.{Each}
use Rattle.cayley.specs.Problems.{Problem}
use Rattle.cayley.specs.Cells.{Cell, IsListOf}
use Rattle.cayley.specs.Parents.{IsParent}
use Rattle.path_trace.specs.declared.trace.TraceNode.{TraceNode}
use Rattle.path_trace.specs.Preorders.{ArePreorders, cells_in}
use Rattle.path_trace.specs.Preorders.ArePreorders.{none as ended, next as onward}
use Rattle.searcher.specs.Ends.{IsTiedAtEnd}
use Rattle.log_check.specs.Nodes.{IsFit}
use Rattle.log_check.specs.Walks.{Leads, WalkLaw, PreorderWalkLaw}
use Rattle.log_check.specs.Walks.Leads.{none, next}

record IsSplit (p : Problem) (xs ys cells : List Cell) : Type 0 where
  below : List Cell
  after : List Cell
  down : ArePreorders p xs below
  on : ArePreorders p ys after
  whole : cells ≡ below ++ after

split : (p : Problem) (xs ys cells : List Cell) → ArePreorders p (xs ++ ys) cells → IsSplit p xs ys cells
split p [] ys cells are = record { below = []; after = cells; down = ended; on = are; whole = refl }
split p (x ∷ xs) ys _ (onward {below = below} {after = after} list down on) =
    let r = split p xs ys after on in
    record {
      below = x ∷ (below ++ r.below);
      after = r.after;
      down = onward list down r.down;
      on = r.on;
      whole = ap (λ l. x ∷ l) (ap (λ l. below ++ l) r.whole ∙ sym (append_assoc below r.below r.after));
    }

pub joined : (p : Problem) (xs ys below after : List Cell) → ArePreorders p xs below → ArePreorders p ys after → ArePreorders p (xs ++ ys) (below ++ after)
joined p _ ys _ after ended on = on
joined p _ ys _ after (onward {cell = cell} {cells = cells} {below = below} {after = rest} list down there) on =
    subst (λ l. ArePreorders p (cell ∷ (cells ++ ys)) (cell ∷ l)) (sym (append_assoc below rest after)) (onward list down (joined p cells ys rest after there on))

pub walk_law : WalkLaw
walk_law p _ _ none = ended
walk_law p _ _ (next {cell = cell} {node = node} {nodes = nodes} {kids = kids} {due = due} same passes on) =
    let s = split p kids due (cells_in nodes) (walk_law p (kids ++ due) nodes on) in
    subst (λ c. ArePreorders p (cell ∷ due) (c ∷ cells_in nodes)) (sym same)
    (subst (λ l. ArePreorders p (cell ∷ due) (cell ∷ l)) (sym s.whole)
    (onward (subst (λ c. IsListOf (λ kid. IsParent p c kid) kids) same passes.children) s.down s.on))

abbrev first_of : Cell → List Cell → Cell
first_of x [] = x
first_of x (y ∷ ys) = y

abbrev IsNil : List Cell → Type 0
IsNil [] = Unit {0}
IsNil (x ∷ xs) = ⊥

abbrev IsCons : List Cell → Type 0
IsCons [] = ⊥
IsCons (x ∷ xs) = Unit {0}

walked : (p : Problem) (due cells : List Cell) (nodes : List TraceNode) → cells ≡ cells_in nodes → ArePreorders p due cells → Each nodes (λ node. IsFit p node × ¬ (IsTiedAtEnd p node.cell)) → Leads p due nodes []
walked p _ _ [] e ended each = none
walked p _ _ (node ∷ nodes) e ended each = absurd (subst (λ (l : List Cell). IsNil l) e tt)
walked p _ _ [] e (onward list down on) each = absurd (subst (λ (l : List Cell). IsCons l) e tt)
walked p _ _ (node ∷ nodes) e (onward {cell = cell} {cells = cells} {kids = kids} {below = below} {after = after} list down on) each =
    let same : node.cell ≡ cell = sym (ap (first_of node.cell) e) in
    next same
    (record { fit = each.0.0; untied = each.0.1; children = subst (λ c. IsListOf (λ kid. IsParent p c kid) kids) (sym same) list })
    (walked p (kids ++ cells) (below ++ after) nodes (ap (drop 1) e) (joined p kids cells below after down on) each.1)

pub preorder_walk_law : PreorderWalkLaw
preorder_walk_law p due nodes are each = walked p due (cells_in nodes) nodes refl are each
