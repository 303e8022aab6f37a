-- nodes in order: one step from the front, one more at the end, and that they are determined
use Rattle.std.proofs.Common.{◌≡◌, List, [], ◌∷◌, ◌++◌, drop, refl, sym, ap, ap₂, subst, ◌∙◌}
use Rattle.cayley.specs.Problems.{Problem}
use Rattle.cayley.specs.Cells.{Cell}
use Rattle.cayley.specs.Parents.{IsParent}
use Rattle.cayley.proofs.Searching.Shares.{one_list}
use Rattle.path_trace.specs.declared.trace.TraceNode.{TraceNode}
use Rattle.path_log.specs.declared.log.LogNode.{LogNode}
use Rattle.path_log.specs.Forms.{node_of}
use Rattle.log_check.specs.Nodes.{Passes}
use Rattle.log_check.specs.Verdicts.{IsNext, nodes_of}
use Rattle.log_check.specs.Walks.{Leads}
use Rattle.log_check.specs.Walks.Leads.{none, next}

-- ---- the first of a list
abbrev pub first_or : {A : Type 0} → A → List A → A
first_or x [] = x
first_or x (y ∷ ys) = y

pub same_first : {A : Type 0} (x y : A) (xs ys : List A) → x ∷ xs ≡ y ∷ ys → x ≡ y
same_first x y xs ys e = ap (first_or x) e

pub same_rest : {A : Type 0} (x y : A) (xs ys : List A) → x ∷ xs ≡ y ∷ ys → xs ≡ ys
same_rest x y xs ys e = ap (drop 1) e

-- ---- one step
pub record IsStep (p : Problem) (due : List Cell) (node : TraceNode) (nodes : List TraceNode) (left : List Cell) : Type 0 where
  pub kids : List Cell
  pub rest : List Cell
  pub begins : due ≡ node.cell ∷ rest
  pub passes : Passes p node kids
  pub on : Leads p (kids ++ rest) nodes left

pub step_of : (p : Problem) (due : List Cell) (node : TraceNode) (nodes : List TraceNode) (left : List Cell) → Leads p due (node ∷ nodes) left → IsStep p due node nodes left
step_of p _ node nodes left (next {cell = cell} {kids = kids} {due = due} same passes on) = record {
  kids = kids;
  rest = due;
  begins = ap (λ (c : Cell). c ∷ due) (sym same);
  passes = passes;
  on = on;
}

pub nil_of : (p : Problem) (due left : List Cell) → Leads p due [] left → due ≡ left
nil_of p due _ none = refl

pub leads_more : (p : Problem) (due : List Cell) (nodes : List TraceNode) (node : TraceNode) (kids left : List Cell) → Leads p due nodes (node.cell ∷ left) → Passes p node kids
    → Leads p due (nodes ++ node ∷ []) (kids ++ left)
leads_more p due [] node kids left leads passes =
    subst (λ d. Leads p d (node ∷ []) (kids ++ left)) (sym (nil_of p due (node.cell ∷ left) leads)) (next refl passes none)
leads_more p due (first ∷ nodes) node kids left leads passes =
    let s = step_of p due first nodes (node.cell ∷ left) leads in
    subst (λ d. Leads p d (first ∷ (nodes ++ node ∷ [])) (kids ++ left)) (sym s.begins)
    (next refl s.passes (leads_more p (s.kids ++ s.rest) nodes node kids left s.on passes))

-- ---- what is determined
pub same_kids : (p : Problem) (node : TraceNode) (xs ys : List Cell) → Passes p node xs → Passes p node ys → xs ≡ ys
same_kids p node xs ys a b = one_list (λ kid. IsParent p node.cell kid) xs ys a.children b.children

-- two steps of one node from the same cells
same_on : (p : Problem) (due : List Cell) (node : TraceNode) (xs ys : List TraceNode) (ds es : List Cell) → (s : IsStep p due node xs ds) → (t : IsStep p due node ys es) → Leads p (s.kids ++ s.rest) ys es
same_on p due node xs ys ds es s t =
    subst (λ d. Leads p d ys es)
    (ap₂ (λ (k l : List Cell). k ++ l) (same_kids p node t.kids s.kids t.passes s.passes) (same_rest node.cell node.cell t.rest s.rest (sym t.begins ∙ s.begins))) t.on

pub leads_same : (p : Problem) (due : List Cell) (nodes : List TraceNode) (ds es : List Cell) → Leads p due nodes ds → Leads p due nodes es → ds ≡ es
leads_same p due [] ds es a b = sym (nil_of p due ds a) ∙ nil_of p due es b
leads_same p due (node ∷ nodes) ds es a b =
    let s = step_of p due node nodes ds a in
    leads_same p (s.kids ++ s.rest) nodes ds es s.on (same_on p due node nodes nodes ds es s (step_of p due node nodes es b))

-- ---- a node that passes
abbrev pub IsPassed : Problem → TraceNode → List Cell → Type 0
IsPassed p node due = (kids : List Cell) × IsNext node.cell due × Passes p node kids

first_passed : (p : Problem) (due : List Cell) (node : TraceNode) (nodes : List TraceNode) (left : List Cell) → IsStep p due node nodes left → IsPassed p node due
first_passed p due node nodes left s = (s.kids, subst (IsNext node.cell) (sym s.begins) refl, s.passes)

-- where all nodes pass, so does each
pub passed_there : (p : Problem) (due : List Cell) (xs : List LogNode) (x : LogNode) (us : List LogNode) (left ds : List Cell) → Leads p due (nodes_of (xs ++ x ∷ us)) left → Leads p due (nodes_of xs) ds
    → IsPassed p (node_of x) ds
passed_there p due [] x us left ds a b =
    subst (IsPassed p (node_of x)) (nil_of p due ds b) (first_passed p due (node_of x) (nodes_of us) left (step_of p due (node_of x) (nodes_of us) left a))
passed_there p due (y ∷ xs) x us left ds a b =
    let s = step_of p due (node_of y) (nodes_of (xs ++ x ∷ us)) left a in
    let t = step_of p due (node_of y) (nodes_of xs) ds b in
    passed_there p (s.kids ++ s.rest) xs x us left ds s.on (same_on p due (node_of y) (nodes_of (xs ++ x ∷ us)) (nodes_of xs) left ds s t)

abbrev SamePlace : LogNode → LogNode → List Cell → List Cell → Type 0
SamePlace x y ds es = (x ≡ y) × (ds ≡ es)

-- two nodes before which all pass, and which don't pass, are the same
pub one_stop : (p : Problem) (due : List Cell) (xs ys : List LogNode) (x y : LogNode) (us vs : List LogNode) (ds es : List Cell) → xs ++ x ∷ us ≡ ys ++ y ∷ vs
    → Leads p due (nodes_of xs) ds → Leads p due (nodes_of ys) es → ¬ (IsPassed p (node_of x) ds) → ¬ (IsPassed p (node_of y) es) → (x ≡ y) × (ds ≡ es)
one_stop p due [] [] x y us vs ds es e a b m n = (same_first x y us vs e, sym (nil_of p due ds a) ∙ nil_of p due es b)
one_stop p due [] (z ∷ ys) x y us vs ds es e a b m n =
    let same = same_first x z us (ys ++ y ∷ vs) e in
    let t = step_of p due (node_of z) (nodes_of ys) es b in
    absurd (m (subst (IsPassed p (node_of x)) (nil_of p due ds a) (subst (λ (w : LogNode). IsPassed p (node_of w) due) (sym same) (first_passed p due (node_of z) (nodes_of ys) es t))))
one_stop p due (z ∷ xs) [] x y us vs ds es e a b m n =
    let same = same_first z y (xs ++ x ∷ us) vs e in
    let s = step_of p due (node_of z) (nodes_of xs) ds a in
    absurd (n (subst (IsPassed p (node_of y)) (nil_of p due es b) (subst (λ (w : LogNode). IsPassed p (node_of w) due) same (first_passed p due (node_of z) (nodes_of xs) ds s))))
one_stop p due (z ∷ xs) (w ∷ ys) x y us vs ds es e a b m n =
    let same = same_first z w (xs ++ x ∷ us) (ys ++ y ∷ vs) e in
    let s = step_of p due (node_of z) (nodes_of xs) ds a in
    let c = subst (λ (v : LogNode). Leads p due (node_of v ∷ nodes_of ys) es) (sym same) b in
    let t = step_of p due (node_of z) (nodes_of ys) es c in
    one_stop p (s.kids ++ s.rest) xs ys x y us vs ds es (same_rest z w (xs ++ x ∷ us) (ys ++ y ∷ vs) e) s.on (same_on p due (node_of z) (nodes_of xs) (nodes_of ys) ds es s t) m n
