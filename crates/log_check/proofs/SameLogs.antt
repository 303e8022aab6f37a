-- what is said of a log is said of its file, its nodes and its cell part
use Rattle.std.proofs.Common.{◌≡◌, ◌∙◌, ℕ, List, [], ◌∷◌, ◌++◌, Ok, Err, sym, ap, subst}
use Rattle.cayley.specs.declared.found.FoundCell.{FoundCell}
use Rattle.cayley.specs.Files.{File}
use Rattle.cayley.specs.Paths.{path, start_cell}
use Rattle.cayley.specs.Cells.{Cell}
use Rattle.listing_text.specs.declared.listing.ListedCell.{ListedCell}
use Rattle.cell_certificate.specs.Answers.{Answer}
use Rattle.cell_certificate.specs.declared.verdict.Verdict.TheVariants.{Yes, No}
use Rattle.cell_certificate.specs.declared.verdict.CheckFault.TheVariants.{Overflow, OutOfMemory}
use Rattle.path_log.specs.declared.log.LogNode.{LogNode}
use Rattle.path_log.specs.declared.log.PathLog.{PathLog}
use Rattle.path_log.specs.Forms.{node_of}
use Rattle.path_log.specs.LogText.{Log, log_in}
use Rattle.log_check.specs.declared.refusal.Refusal.{Refusal}
use Rattle.log_check.specs.declared.refusal.Refusal.TheVariants.{NotDue, Unfit, NotInverse, Tied, StillDue, NotExpected, Missing}
use Rattle.log_check.specs.Walks.{Leads}
use Rattle.log_check.specs.Verdicts.{path_in, nodes_of, nodes_in, listed_of, listed_in, LeadsTo, Against, AtNode, AreExpected, Expects, AtCell, IsRightLog, IsRefused, IsVerdict}

module _ (l k : PathLog) (e : log_in l ≡ log_in k) where
  file : l.file ≡ k.file
  file = ap (λ (x : Log). x.file) e

  nodes : l.nodes.items ≡ k.nodes.items
  nodes = ap (λ (x : Log). x.nodes) e

  cells : l.part.cells.items ≡ k.part.cells.items
  cells = ap (λ (x : Log). x.part.cells) e

  cells_line : l.part.cells_line ≡ k.part.cells_line
  cells_line = ap (λ (x : Log). x.part.cells_line) e

  end_line : l.part.end_line ≡ k.part.end_line
  end_line = ap (λ (x : Log). x.part.end_line) e

  leads : (some : List LogNode) (due : List Cell) → LeadsTo l some due → LeadsTo k some due
  leads some due h = subst (λ (f : File). Leads (path f) (start_cell (path f) ∷ []) (nodes_of some) due) file h

  all_lead : (due : List Cell) → LeadsTo l l.nodes.items due → LeadsTo k k.nodes.items due
  all_lead due h = leads k.nodes.items due (subst (λ ns. LeadsTo l ns due) nodes h)

  expects : (found : List FoundCell) → Expects l found → Expects k found
  expects found h = record {
    passed = all_lead [] h.passed;
    expected = subst (λ (f : File). AreExpected (path f) (nodes_in k) found) file (subst (λ ns. AreExpected (path_in l) (nodes_of ns) found) nodes h.expected);
  }

  at_node : (line : ℕ) (r : Refusal) → AtNode l line r → AtNode k line r
  at_node line r a = record {
    before = a.before;
    this = a.this;
    after = a.after;
    due = a.due;
    whole = sym nodes ∙ a.whole;
    passed = leads a.before a.due a.passed;
    same = a.same;
    against = subst (λ (f : File). Against (path f) (node_of a.this) a.due r) file a.against;
  }

  at_cell : (line : ℕ) → AtCell l line → AtCell k line
  at_cell line a = record {
    before = a.before;
    this = a.this;
    after = a.after;
    left = a.left;
    whole = sym cells ∙ a.whole;
    expects = expects (listed_of a.before ++ a.left) a.expects;
    same = a.same;
    other = a.other;
  }

  refused : (line : ℕ) (r : Refusal) → IsRefused l line r → IsRefused k line r
  refused line NotDue h = at_node line NotDue h
  refused line Unfit h = at_node line Unfit h
  refused line NotInverse h = at_node line NotInverse h
  refused line Tied h = at_node line Tied h
  refused line StillDue h = (h.0 ∙ cells_line, (h.1.0, h.1.1, all_lead (h.1.0 ∷ h.1.1) h.1.2))
  refused line NotExpected h = at_cell line h
  refused line Missing h =
      (h.0 ∙ end_line, (h.1.0, h.1.1, subst (λ (cs : List ListedCell). Expects k (listed_of cs ++ h.1.0 ∷ h.1.1)) cells (expects (listed_in l ++ h.1.0 ∷ h.1.1) h.1.2)))

  pub same_verdict : (r : Answer) → IsVerdict l r → IsVerdict k r
  same_verdict (Ok Yes) h = subst (λ (cs : List ListedCell). Expects k (listed_of cs)) cells (expects (listed_in l) h)
  same_verdict (Ok (No line reason)) h = (h.0, h.1, refused line h.0 h.2)
  same_verdict (Err (Overflow line)) h = refused line Unfit h
  same_verdict (Err OutOfMemory) h = tt
