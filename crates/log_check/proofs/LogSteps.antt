-- the lines of a log as the code takes them: nodes by their places, and listed cells
use Rattle.std.proofs.Common.{◌≡◌, ℕ, suc, ◌+◌, ◌<◌, ◌≤◌, List, [], ◌∷◌, ◌++◌, length, take, drop, get_or, reverse, drop-cons, take-append-drop, refl, sym, ap, subst, ◌∙◌, append_assoc, append-nil, arith}
use Rattle.std.specs.Prelude.{IsPermutation}
use Rattle.std.proofs.lemmas.List.{map-append, take_all, take_more}
use Rattle.int_vectors.proofs.Each.{each_unmap, all_each}
use Rattle.cayley.specs.declared.found.FoundCell.{FoundCell}
use Rattle.cayley.specs.Problems.{Problem}
use Rattle.cayley.specs.Valid.{IsValidFile, IsValidProblem}
use Rattle.cayley.specs.Cells.{Cell}
use Rattle.cayley.specs.Stored.{cells_of}
use Rattle.listing_text.specs.declared.listing.ListedCell.{ListedCell}
use Rattle.listing_text.specs.Forms.{found_of}
use Rattle.start_system.proofs.Making.ValidPaths.{path_valid}
use Rattle.start_system.proofs.Started.SearchLaws.{path_law}
use Rattle.searcher.specs.declared.branches.Branch.{Branch}
use Rattle.searcher.specs.Searches.{NeverFalls}
use Rattle.path_log.specs.declared.log.LogNode.{LogNode}
use Rattle.path_log.specs.declared.log.PathLog.{PathLog}
use Rattle.path_log.specs.Forms.{node_of}
use Rattle.log_check.specs.declared.refusal.Refusal.{Refusal}
use Rattle.log_check.specs.declared.refusal.Refusal.TheVariants.{NotDue, Unfit, NotInverse, Tied, StillDue, NotExpected, Missing}
use Rattle.log_check.specs.declared.refusal.Halt.{Halt}
use Rattle.log_check.specs.declared.refusal.Halt.TheVariants.{Refused, OutOfMemory}
use Rattle.log_check.specs.Dues.{cells_due, IsTurn, IsHaltAt}
use Rattle.log_check.specs.Nodes.{HasShape}
use Rattle.log_check.specs.Verdicts.{path_in, HasShapes, LeadsTo, listed_of, listed_in, IsNext, Against, AtNode, Expects, IsRightLog, IsRefused, IsHalt}
use Rattle.log_check.proofs.DueTurns.{start_of, IsOnWay, turned, begun, walked, still_due}

-- ---- a list by its places
pub front_more : {A : Type 0} (xs : List A) (k : ℕ) (x : A) → k < length xs → x ≡ get_or xs k x → take (k + 1) xs ≡ take k xs ++ x ∷ []
front_more xs k x h i = take_more xs k x h ∙ ap (λ y. take k xs ++ y ∷ []) (sym i)

pub split_there : {A : Type 0} (xs : List A) (k : ℕ) (x : A) → k < length xs → x ≡ get_or xs k x → xs ≡ take k xs ++ x ∷ drop (suc k) xs
split_there xs k x h i = sym (take-append-drop k xs) ∙ ap (λ l. take k xs ++ l) (drop-cons xs k x h ∙ ap (λ y. y ∷ drop (suc k) xs) (sym i))

module _ (log : PathLog) (q : Problem) (same : q ≡ path_in log) (file_valid : IsValidFile log.file) where
  valid : IsValidProblem (path_in log)
  valid = path_valid log.file file_valid

  pub way_begun : (due : List Branch) (found : List FoundCell) → due ≡ start_of q ∷ [] → found ≡ [] → IsOnWay log [] (reverse due) found
  way_begun due found e f =
      subst (λ (l : List FoundCell). IsOnWay log [] (reverse due) l) (sym f)
      (subst (λ (l : List Branch). IsOnWay log [] (reverse l) []) (sym (e ∙ ap (λ p. start_of p ∷ []) same)) (begun log valid (path_law log.file file_valid).3))

  -- ---- a node
  module _ (k : ℕ) (x : LogNode) (h : k < length log.nodes.items) (i : x ≡ get_or log.nodes.items k x) where
    pub shape_there : HasShapes log → HasShape q (node_of x)
    shape_there shapes =
        let each = each_unmap node_of (HasShape (path_in log)) log.nodes.items shapes in
        subst (λ p. HasShape p (node_of x)) (sym same)
        (subst (λ (y : LogNode). HasShape (path_in log) (node_of y)) (sym i) (all_each (λ (y : LogNode). HasShape (path_in log) (node_of y)) log.nodes.items each k x h))

    pub way_turned : (due after : List Branch) (found more : List FoundCell) → IsOnWay log (take k log.nodes.items) (reverse due) found → IsTurn q (node_of x) due after found more
        → IsOnWay log (take (k + 1) log.nodes.items) (reverse after) more
    way_turned due after found more way t =
        subst (λ (l : List LogNode). IsOnWay log l (reverse after) more) (sym (front_more log.nodes.items k x h i))
        (turned log valid (take k log.nodes.items) x due after found more way (subst (λ p. IsTurn p (node_of x) due after found more) same t))

    refused_there : (due : List Cell) (line : ℕ) (r : Refusal) → Against (path_in log) (node_of x) due r → AtNode log line r → IsRefused log line r
    refused_there due line NotDue a n = n
    refused_there due line Unfit a n = n
    refused_there due line NotInverse a n = n
    refused_there due line Tied a n = n
    refused_there due line StillDue a n = absurd a
    refused_there due line NotExpected a n = absurd a
    refused_there due line Missing a n = absurd a

    pub halted_there : (due : List Branch) (found : List FoundCell) → IsOnWay log (take k log.nodes.items) (reverse due) found → (halt : Halt) → IsHaltAt q (node_of x) due x.line halt → IsHalt log halt
    halted_there due found way OutOfMemory t = tt
    halted_there due found way (Refused line r) t =
        let against = subst (λ p. Against p (node_of x) (cells_due due) r) same t.1 in
        refused_there (cells_due due) line r against (record {
          before = take k log.nodes.items;
          this = x;
          after = drop (suc k) log.nodes.items;
          due = cells_due due;
          whole = split_there log.nodes.items k x h i;
          passed = way.leads;
          same = sym t.0;
          against = against;
        })

  -- ---- behind the nodes
  module _ (k : ℕ) (h : length log.nodes.items ≤ k) (due : List Branch) (found : List FoundCell) (way : IsOnWay log (take k log.nodes.items) (reverse due) found) where
    whole_way : IsOnWay log log.nodes.items (reverse due) found
    whole_way = subst (λ (l : List LogNode). IsOnWay log l (reverse due) found) (take_all k log.nodes.items h) way

    pub due_there : 1 ≤ length due → IsRefused log log.part.cells_line StillDue
    due_there some = let d = still_due log valid due some in (refl, (d.0, d.1, subst (LeadsTo log log.nodes.items) d.2 whole_way.leads))

    pub all_there : due ≡ [] → (sorted : List FoundCell) → IsPermutation found sorted → NeverFalls (cells_of sorted) → Expects log sorted
    all_there none sorted moved order =
        walked log valid (path_law log.file file_valid).1 (path_law log.file file_valid).3 found sorted (subst (λ (l : List Branch). IsOnWay log log.nodes.items (reverse l) found) none whole_way) moved order

-- ---- listed cells
module _ (log : PathLog) (expected : List FoundCell) (expects : Expects log expected) where
  module _ (k : ℕ) (x : ListedCell) (h : k < length log.part.cells.items) (i : x ≡ get_or log.part.cells.items k x) (left : List FoundCell) (so_far : expected ≡ listed_of (take k log.part.cells.items) ++ left) where
    pub line_refused : ¬ (IsNext (found_of x) left) → IsRefused log x.line NotExpected
    line_refused other = record {
      before = take k log.part.cells.items;
      this = x;
      after = drop (suc k) log.part.cells.items;
      left = left;
      whole = split_there log.part.cells.items k x h i;
      expects = subst (Expects log) so_far expects;
      same = refl;
      other = other;
    }

    pub line_more : (rest : List FoundCell) → left ≡ found_of x ∷ rest → expected ≡ listed_of (take (k + 1) log.part.cells.items) ++ rest
    line_more rest e =
        so_far ∙ ap (λ l. listed_of (take k log.part.cells.items) ++ l) e ∙ sym (append_assoc (listed_of (take k log.part.cells.items)) (found_of x ∷ []) rest)
        ∙ ap (λ l. l ++ rest) (sym (map-append found_of (take k log.part.cells.items) (x ∷ [])) ∙ ap listed_of (sym (front_more log.part.cells.items k x h i)))

  module _ (k : ℕ) (h : length log.part.cells.items ≤ k) (left : List FoundCell) (so_far : expected ≡ listed_of (take k log.part.cells.items) ++ left) where
    all_lines : expected ≡ listed_in log ++ left
    all_lines = so_far ∙ ap (λ (l : List ListedCell). listed_of l ++ left) (take_all k log.part.cells.items h)

    pub cell_missing : 1 ≤ length left → IsRefused log log.part.end_line Missing
    cell_missing some = by left all_lines some
      where
        by : (left : List FoundCell) → expected ≡ listed_in log ++ left → 1 ≤ length left → IsRefused log log.part.end_line Missing
        by [] e l = absurd (omega (arith, l))
        by (x ∷ left) e l = (refl, (x, left, subst (Expects log) e expects))

    pub log_right : left ≡ [] → IsRightLog log
    log_right none = subst (Expects log) (all_lines ∙ ap (λ l. listed_in log ++ l) none ∙ append-nil (listed_in log)) expects
