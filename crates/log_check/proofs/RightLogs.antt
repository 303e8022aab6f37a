-- what a right log says, and logs that were written
use Rattle.std.proofs.Common.{◌≡◌, ◌⊎◌, ℕ, List, [], ◌∷◌, ◌++◌, refl, sym, subst, ◌∙◌, append-nil, Some, Ok, Err, inl, inr}
use Rattle.int_vectors.specs.Vectors.{Each}
use Rattle.cayley.specs.Times.{time_zero}
use Rattle.cayley.specs.declared.found.FoundCell.{FoundCell}
use Rattle.cayley.specs.Problems.{version2, Problem, IsStill, file_points}
use Rattle.cayley.specs.Files.{plain_problem}
use Rattle.cayley.specs.Valid.{IsValidFile, IsValidProblem}
use Rattle.cayley.specs.Paths.{start_cell}
use Rattle.cayley.specs.Cells.{Cell, IsListOf}
use Rattle.cayley.specs.Mixed.{IsAlive, IsLowestNormal}
use Rattle.cayley.specs.Normals.{IsNormal}
use Rattle.cayley.specs.Parents.{IsParent}
use Rattle.cayley.specs.Stored.{cells_of}
use Rattle.cayley.specs.Ties.{IsTieFree}
use Rattle.int_vectors.proofs.Each.{each_weaker, each_both}
use Rattle.cayley.proofs.Searching.Shares.{one_list}
use Rattle.cell_certificate.proofs.PlainPoints.{own_points}
use Rattle.cell_certificate.specs.Answers.{Answer, HadMemory}
use Rattle.cell_certificate.specs.declared.verdict.Verdict.TheVariants.{Yes, No}
use Rattle.start_system.specs.Started.{IsSearched}
use Rattle.start_system.proofs.Making.ValidPaths.{path_valid}
use Rattle.start_system.proofs.Started.SearchLaws.{path_law}
use Rattle.searcher.specs.Ends.{IsTiedAtEnd}
use Rattle.searcher.specs.Expansions.{HasLowestNormal}
use Rattle.path_trace.specs.declared.trace.TraceNode.{TraceNode}
use Rattle.path_trace.specs.Preorders.{ArePreorders, cells_in}
use Rattle.path_trace.specs.Preorders.ArePreorders.{next}
use Rattle.path_log.specs.declared.log.LogNode.{LogNode}
use Rattle.path_log.specs.declared.log.PathLog.{PathLog}
use Rattle.path_log.specs.Forms.{node_of}
use Rattle.log_check.specs.declared.refusal.Refusal.{Refusal}
use Rattle.log_check.specs.declared.refusal.Refusal.TheVariants.{NotDue, Unfit, NotInverse, Tied, StillDue, NotExpected, Missing}
use Rattle.log_check.specs.Nodes.{HasInverse, IsFit}
use Rattle.log_check.specs.Verdicts.{path_in, nodes_of, nodes_in, listed_in, LeadsTo, IsNext, Against, AtNode, IsRightLog, reason_of, IsWrongLog, IsVerdict, HasPathTree, ListsMixedCells, IsTracedLog, FitsLog, NeverNo}
use Rattle.log_check.specs.Walks.{Leads}
use Rattle.log_check.proofs.Expecting.{share_expected, expected_share}
use Rattle.log_check.proofs.OneRefusal.{by_place, right_refused, yes_exactly}
use Rattle.log_check.proofs.WalkSteps.{step_of, nil_of}
use Rattle.log_check.proofs.Walks.{joined, walk_law, preorder_walk_law}

-- ---- preorders from the front
pub record IsFront (p : Problem) (cell : Cell) (due : List Cell) (first : Cell) (cells : List Cell) : Type 0 where
  pub same : first ≡ cell
  pub kids : List Cell
  pub list : IsListOf (λ kid. IsParent p cell kid) kids
  pub on : ArePreorders p (kids ++ due) cells

pub front_of : (p : Problem) (cell : Cell) (due : List Cell) (first : Cell) (cells : List Cell) → ArePreorders p (cell ∷ due) (first ∷ cells) → IsFront p cell due first cells
front_of p cell due first _ (next {kids = kids} {below = below} {after = after} list down on) = record { same = refl; kids = kids; list = list; on = joined p kids due below after down on }

nothing_left : (p : Problem) (cell : Cell) (due : List Cell) → ¬ (ArePreorders p (cell ∷ due) [])
nothing_left p cell due are = elim are [ ]

nothing_due : (p : Problem) (cell : Cell) (cells : List Cell) → ¬ (ArePreorders p [] (cell ∷ cells))
nothing_due p cell cells are = elim are [ ]

-- the preorders of what is due are the nodes that are left
left_preorders : (p : Problem) (due : List Cell) (xs us : List LogNode) (ds : List Cell) → ArePreorders p due (cells_in (nodes_of (xs ++ us))) → Leads p due (nodes_of xs) ds → ArePreorders p ds (cells_in (nodes_of us))
left_preorders p due [] us ds are leads = subst (λ d. ArePreorders p d (cells_in (nodes_of us))) (nil_of p due ds leads) are
left_preorders p due (x ∷ xs) us ds are leads =
    let node = node_of x in
    let s = step_of p due node (nodes_of xs) ds leads in
    let f = front_of p node.cell s.rest node.cell (cells_in (nodes_of (xs ++ us))) (subst (λ d. ArePreorders p d (node.cell ∷ cells_in (nodes_of (xs ++ us)))) s.begins are) in
    left_preorders p (s.kids ++ s.rest) xs us ds
    (subst (λ (k : List Cell). ArePreorders p (k ++ s.rest) (cells_in (nodes_of (xs ++ us)))) (one_list (λ kid. IsParent p node.cell kid) f.kids s.kids f.list s.passes.children) f.on) s.on

next_due : (p : Problem) (due : List Cell) (node : TraceNode) (cells : List Cell) → ArePreorders p due (node.cell ∷ cells) → IsNext node.cell due
next_due p [] node cells are = nothing_due p node.cell cells are
next_due p (cell ∷ due) node cells are = (front_of p cell due node.cell cells are).same

each_there : (P : TraceNode → Type 0) (xs : List LogNode) (x : LogNode) (us : List LogNode) → Each (nodes_of (xs ++ x ∷ us)) P → P (node_of x)
each_there P [] x us h = h.0
each_there P (y ∷ xs) x us h = each_there P xs x us h.1

module _ (log : PathLog) (file_valid : IsValidFile log.file) where
  abbrev p : Problem
  p = path_in log

  valid : IsValidProblem p
  valid = path_valid log.file file_valid

  still : IsStill p
  still = (path_law log.file file_valid).1

  searched : IsSearched p
  searched = (path_law log.file file_valid).3

  -- ---- a right log
  pub tree_right : IsRightLog log → HasPathTree log
  tree_right h =
      let preorder = walk_law p (start_cell p ∷ []) (nodes_in log) h.passed in
      record { preorder = preorder; share = expected_share p valid still searched (nodes_in log) preorder (listed_in log) h.expected; normals = h.expected.normals }

  points_same : file_points p ≡ file_points (plain_problem log.file)
  points_same = (path_law log.file file_valid).2 ∙ sym (own_points log.file file_valid)

  lowest_plain : (x : FoundCell) → HasLowestNormal p x → IsLowestNormal (plain_problem log.file) x.cell x.normal.v x.normal.den
  lowest_plain x n = (n.0, n.1, (n.2.0, subst (λ q. IsNormal q x.cell time_zero n.2.0) points_same n.2.1, n.2.2))

  free_of : (log.file.version ≡ version2) ⊎ IsTieFree p → IsTieFree p
  free_of (inl e) = searched.perturbed e
  free_of (inr free) = free

  pub lists_right : IsRightLog log → ListsMixedCells log
  lists_right h safe =
      let t = tree_right h in
      record {
        cells = subst (λ q. IsListOf (λ cell. IsAlive q cell time_zero) (cells_of (listed_in log))) points_same (((searched.complete (free_of safe)).0 (cells_of (listed_in log))).0 t.share);
        normals = each_weaker (HasLowestNormal p) (λ (x : FoundCell). IsLowestNormal (plain_problem log.file) x.cell x.normal.v x.normal.den) (listed_in log) lowest_plain t.normals;
      }

  -- ---- a log that was written
  right_traced : IsTracedLog log → LeadsTo log log.nodes.items [] → IsRightLog log
  right_traced t passed = record { passed = passed; expected = share_expected p valid still searched (nodes_in log) t.tree.preorder (listed_in log) t.tree.share t.tree.normals }

  node_spared : IsTracedLog log → (line : ℕ) (r : Refusal) (reason : ℕ) → reason_of r ≡ Some reason → ¬ (AtNode log line r)
  node_spared t line r reason e a = by r e a.against
    where
      node : TraceNode
      node = node_of a.this

      ahead : ArePreorders p a.due (node.cell ∷ cells_in (nodes_of a.after))
      ahead =
          left_preorders p (start_cell p ∷ []) a.before (a.this ∷ a.after) a.due (subst (λ (l : List LogNode). ArePreorders p (start_cell p ∷ []) (cells_in (nodes_of l))) a.whole t.tree.preorder) a.passed

      inverse : HasInverse p node
      inverse = each_there (HasInverse p) a.before a.this a.after (subst (λ (l : List LogNode). Each (nodes_of l) (HasInverse p)) a.whole t.inverses)

      untied : ¬ (IsTiedAtEnd p node.cell)
      untied = each_there (λ x. ¬ (IsTiedAtEnd p x.cell)) a.before a.this a.after (subst (λ (l : List LogNode). Each (nodes_of l) (λ x. ¬ (IsTiedAtEnd p x.cell))) a.whole t.untied)

      by : (r : Refusal) → reason_of r ≡ Some reason → ¬ (Against p node a.due r)
      by NotDue e h = h (next_due p a.due node (cells_in (nodes_of a.after)) ahead)
      by Unfit e h = cc
      by NotInverse e h = h.1.1 inverse
      by Tied e h = untied h.1.1
      by StillDue e h = h
      by NotExpected e h = h
      by Missing e h = h

  refused_spared : IsTracedLog log → (line reason : ℕ) → ¬ (IsWrongLog log line reason)
  refused_spared t line reason w = elim (by_place log line w.0 w.2) [
    | inl a ↦ node_spared t line w.0 reason w.1 a
    | inr b ↦ right_refused log valid still line w.0 w.2 (right_traced t (subst (λ l. LeadsTo log log.nodes.items l) (none_due b.0 b.1) b.1))
  ]
    where
      none_due : (left : List Cell) → LeadsTo log log.nodes.items left → left ≡ []
      none_due left leads = by left (left_preorders p (start_cell p ∷ []) log.nodes.items [] left (subst (λ (l : List LogNode). ArePreorders p (start_cell p ∷ []) (cells_in (nodes_of l))) (sym (append-nil log.nodes.items)) t.tree.preorder) leads)
        where
          by : (left : List Cell) → ArePreorders p left [] → left ≡ []
          by [] are = refl
          by (cell ∷ due) are = absurd (nothing_left p cell due are)

  pub spared : IsTracedLog log → (answer : Answer) → IsVerdict log answer → NeverNo answer
  spared t (Ok Yes) v = tt
  spared t (Ok (No line reason)) v = refused_spared t line reason v
  spared t (Err fault) v = tt

  pub accepted : IsTracedLog log → FitsLog log → (answer : Answer) → IsVerdict log answer → HadMemory answer → answer ≡ Ok Yes
  accepted t fits answer v m =
      (yes_exactly log valid still answer v m).1
      (right_traced t (preorder_walk_law p (start_cell p ∷ []) (nodes_in log) t.tree.preorder (each_both (IsFit p) (λ node. ¬ (IsTiedAtEnd p node.cell)) (nodes_in log) fits t.untied)))
