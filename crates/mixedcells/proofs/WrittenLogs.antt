-- A log as `trace` writes it is read back as a log of the same path tree, which its checker spares.
use Rattle.std.proofs.Common.{◌≡◌, ◌∙◌, ℕ, suc, ◌+◌, ◌*◌, ◌<◌, ◌≤◌, ℤ, List, [], ◌∷◌, ◌++◌, map, length, Ok, Err, codes, sym, ap, ap₂, subst, arith, inl, inr, length-append}
use Rattle.std.specs.Prelude.{Contains, decimal}
use Rattle.std.proofs.lemmas.List.{length-map}
use Rattle.wide_int.specs.Whole.{FitsWhole}
use Rattle.int_vectors.specs.Fits.{AllFit}
use Rattle.int_vectors.specs.Vectors.{Each}
use Rattle.int_vectors.proofs.Each.{each_map, each_unmap, each_weaker}
use Rattle.cayley.specs.declared.found.FoundCell.{FoundCell}
use Rattle.cayley.specs.Problems.{Point, Problem, EachSupport}
use Rattle.cayley.specs.Cells.{Cell, IsOf, EachPair}
use Rattle.cayley.specs.Files.{File}
use Rattle.cayley.specs.Parents.{InChain}
use Rattle.cayley.specs.Parents.InChain.{here}
use Rattle.cayley.specs.Paths.{path, start_cell}
use Rattle.cayley.specs.Shares.{IsShare}
use Rattle.cayley.specs.Stored.{cells_of}
use Rattle.cayley.specs.Valid.{IsValidFile}
use Rattle.cayley.proofs.Order.Lined.{each_has}
use Rattle.cayley.proofs.Searching.Chains.{chain_of}
use Rattle.cayley.proofs.Searching.Members.{contains_has, has_contains}
use Rattle.cayley.proofs.Searching.Steps.{each_in}
use Rattle.start_system.specs.Started.{start_branch}
use Rattle.start_system.proofs.Path.Forms.{Longs, path_form}
use Rattle.start_system.proofs.Started.Heights.{valid_lift}
use Rattle.searcher.specs.Ends.{IsTiedAtEnd}
use Rattle.searcher.specs.Expansions.{HasLowestNormal}
use Rattle.searcher.specs.Workings.{FitsWorking}
use Rattle.support_text.specs.Writing.{problem_lines}
use Rattle.listing_text.specs.ListingText.{counts_of}
use Rattle.listing_text.specs.Writing.{cell_words, cells_lines}
use Rattle.listing_text.specs.Forms.{IsCellOf, IsEntry, IsFormed, found_of}
use Rattle.listing_text.proofs.Formed.{meant_valid}
use Rattle.path_trace.specs.declared.trace.Trace.{Trace}
use Rattle.path_trace.specs.declared.trace.TraceNode.{TraceNode}
use Rattle.path_trace.specs.Preorders.{IsPreorder, cells_in}
use Rattle.path_trace.proofs.Members.{preorder_law}
use Rattle.path_tracer.specs.Nodes.{FitsNumbers, HasInverse}
use Rattle.path_tracer.specs.Traced.{IsTraced}
use Rattle.path_log.specs.declared.log.PathLog.{PathLog}
use Rattle.path_log.specs.LogText.{Log, spans_of, log_of, log_in}
use Rattle.path_log.specs.Forms.{IsFormedNode, MeansLog, node_of}
use Rattle.path_log.specs.Writing.{node_words, nodes_lines, log_lines, log_text}
use Rattle.path_log.proofs.LogBack.{log_back}
use Rattle.log_check.specs.Nodes as checked
use Rattle.log_check.specs.Verdicts.{path_in, nodes_in, listed_in, IsTracedLog}
use Rattle.mixedcells.specs.Walks.{AreReachedCells}
use Rattle.mixedcells.specs.Logs.{IsLogText, IsWrittenLog}
use Rattle.mixedcells.specs.Answers.{limit}
use Rattle.mixedcells.proofs.Readings.{ok_once}
use Rattle.mixedcells.proofs.Spared.{entry_of, over_of, lines_long, each_formed, reached_cells}
use Rattle.mixedcells.proofs.Walking.{path_searched, lowest_plain}

-- ---- the form of what is written

all_entries : (xs : List ℤ) → AllFit xs → Each xs IsEntry
all_entries [] h = tt
all_entries (x ∷ xs) h = (entry_of x h.0, all_entries xs h.1)

-- a cell of the path has positions of file points and corners
cell_of_path : (n i : ℕ) (files : List ℕ) (supports : List (List Point)) (cell : Cell) → Longs n i files supports → EachPair supports cell (λ s a b. (1 ≤ a) × (a < b) × (b ≤ length s))
    → IsCellOf (map (λ m. m + (n + 1)) files) cell
cell_of_path n i [] [] [] l h = tt
cell_of_path n i [] [] (x ∷ cell) l h = absurd h
cell_of_path n i [] (s ∷ supports) cell l h = absurd l
cell_of_path n i (f ∷ files) [] cell l h = absurd l
cell_of_path n i (f ∷ files) (s ∷ supports) [] l h = absurd h
cell_of_path n i (f ∷ files) (s ∷ supports) (x ∷ cell) l h =
    (h.0.0, h.0.1, (let e = l.0.1 in let b = h.0.2 in omega (arith, e, b)), cell_of_path n (suc i) files supports cell l.1 h.1)

module _ (file : File) (valid : IsValidFile file) (trace : Trace) (is : IsTraced (path file) trace) where
  abbrev p : Problem
  p = path file

  -- the cells of the nodes are those of the path tree
  in_chain : (cell : Cell) → Contains (cells_in trace.nodes.items) cell → InChain p (start_cell p) cell
  in_chain cell c = (preorder_law p (start_cell p) (cells_in trace.nodes.items) is.preorder cell).0 c

  there : (cell : Cell) → InChain p (start_cell p) cell → Contains (cells_in trace.nodes.items) cell
  there cell c = (preorder_law p (start_cell p) (cells_in trace.nodes.items) is.preorder cell).1 c

  is_of : (cell : Cell) → InChain p (start_cell p) cell → IsOf p cell
  is_of cell c = chain_of p (start_cell p) cell (path_searched file valid).of c

  some : 1 ≤ length trace.nodes.items
  some = let c = (there (start_cell p) here).1 in let l = length-map trace.nodes.items (λ (x : TraceNode). x.cell) in omega (arith, c, l)

  pub reached : AreReachedCells file trace.found.items
  reached = record {
    cells = is.found;
    normals = each_weaker (HasLowestNormal p) _ trace.found.items (lowest_plain file valid) is.normals;
    workings = each_unmap (λ (x : FoundCell). x.cell) (FitsWorking p) trace.found.items (each_in (FitsWorking p) (cells_of trace.found.items) (λ cell h.
        let c = (is.found.1 cell).0 (has_contains (cells_of trace.found.items) cell h) in
        each_has (FitsWorking p) (cells_in trace.nodes.items) cell (each_map (λ (x : TraceNode). x.cell) (FitsWorking p) trace.nodes.items is.workings)
        (contains_has (cells_in trace.nodes.items) cell (there cell c.2))));
  }

  found_formed : Each trace.found.items (IsFormed (counts_of file))
  found_formed = let w = reached_cells file valid trace.found.items reached in each_formed file valid trace.found.items w.cells w.normals w.workings

  count : length (spans_of file) ≡ file.dimension
  count = length-map (counts_of file) (λ m. m + (file.dimension + 1)) ∙ length-map file.supports length ∙ valid.shape.supports

  node_formed : (node : TraceNode) → InChain p (start_cell p) node.cell → HasInverse p node → FitsNumbers node → IsFormedNode (spans_of file) node
  node_formed node c inverse fits = record {
    cell = cell_of_path file.dimension 0 (counts_of file) p.supports node.cell (path_form file (valid_lift file valid)).long (is_of node.cell c);
    scale = over_of node.scale fits.0 inverse.inverse.positive;
    size = inverse.inverse.long ∙ sym (ap₂ (λ a b. a * b) count count);
    entries = all_entries node.inverse fits.1;
  }

  each_node : (nodes : List TraceNode) → Each (cells_in nodes) (InChain p (start_cell p)) → Each nodes (HasInverse p) → Each nodes FitsNumbers → Each nodes (IsFormedNode (spans_of file))
  each_node [] c i f = tt
  each_node (x ∷ nodes) c i f = (node_formed x c.0 i.0 f.0, each_node nodes c.1 i.1 f.1)

  nodes_formed : Each trace.nodes.items (IsFormedNode (spans_of file))
  nodes_formed =
      each_node trace.nodes.items
      (each_in (InChain p (start_cell p)) (cells_in trace.nodes.items) (λ cell h. in_chain cell (has_contains (cells_in trace.nodes.items) cell h)))
      is.inverses is.fits

  -- each line takes a byte
  lines_few : length trace.nodes.items + length trace.found.items ≤ length (log_text file trace.nodes.items trace.found.items)
  lines_few =
      let nodes = trace.nodes.items in
      let found = trace.found.items in
      let a = lines_long (log_lines file nodes found) in
      let b = length-append (problem_lines file) (nodes_lines nodes ++ cells_lines found) in
      let c = length-append (nodes_lines nodes) (cells_lines found) in
      let d = length-map nodes node_words in
      let e = length-append (map cell_words found) ((codes "end" ∷ []) ∷ []) in
      let f = length-map found cell_words in
      omega (arith, a, b, c, d, e, f)

  back : length (log_text file trace.nodes.items trace.found.items) ≤ limit → MeansLog (log_text file trace.nodes.items trace.found.items) file trace.nodes.items trace.found.items
  back short =
      log_back file trace.nodes.items trace.found.items valid nodes_formed found_formed some
      (let l = lines_few in omega (arith, l, short)) (let l = lines_few in omega (arith, l, short))

  -- a log with this file, these nodes and these cells
  module _ (log : PathLog) (same_file : file ≡ log.file) (same_nodes : trace.nodes.items ≡ nodes_in log) (same_found : trace.found.items ≡ listed_in log) where
    traced_by : IsTracedLog log
    traced_by = record {
      tree = record {
        preorder = subst (λ (f : File). IsPreorder (path f) (start_cell (path f)) (cells_in (nodes_in log))) same_file (subst (λ ns. IsPreorder p (start_cell p) (cells_in ns)) same_nodes is.preorder);
        share = subst (λ (f : File). IsShare (path f) (start_branch (path f)) (cells_of (listed_in log))) same_file (subst (λ (cs : List FoundCell). IsShare p (start_branch p) (cells_of cs)) same_found is.found);
        normals = subst (λ (f : File). Each (listed_in log) (HasLowestNormal (path f))) same_file (subst (λ cs. Each cs (HasLowestNormal p)) same_found is.normals);
      };
      inverses = subst (λ (f : File). Each (nodes_in log) (checked.HasInverse (path f))) same_file
          (subst (λ ns. Each ns (checked.HasInverse p)) same_nodes (each_weaker (HasInverse p) (checked.HasInverse p) trace.nodes.items (λ x h. h.inverse) is.inverses));
      untied = subst (λ (f : File). Each (nodes_in log) (λ node. ¬ (IsTiedAtEnd (path f) node.cell))) same_file (subst (λ ns. Each ns (λ (node : TraceNode). ¬ (IsTiedAtEnd p node.cell))) same_nodes is.untied);
    }

module _ (bytes : List ℕ) (file : File) (w : IsWrittenLog file bytes) (short : length bytes ≤ limit) where
  valid_file : IsValidFile file
  valid_file = meant_valid w.0 file w.1

  -- the bytes mean the file, the nodes and the cells
  meant : MeansLog bytes file w.2.0.nodes.items w.2.0.found.items
  meant =
      let text = w.2.2 in
      subst (λ b. MeansLog b file w.2.0.nodes.items w.2.0.found.items) (sym text) (back file valid_file w.2.0 w.2.1 (subst (λ (b : List ℕ). length b ≤ limit) text short))

  pub read_back : (log : Log) × (log_of bytes ≡ Ok log)
  read_back = let m = meant in (m.0, m.1)

  -- the log that they mean is one that was traced
  pub traced_log : (log : PathLog) → IsLogText bytes log → IsTracedLog log
  traced_log log e =
      let m = meant in
      let same : m.0 ≡ log_in log = ok_once (log_of bytes) m.0 (log_in log) m.1 e in
      traced_by file valid_file w.2.0 w.2.1 log (sym m.2 ∙ ap (λ (x : Log). x.file) same) (sym m.3 ∙ ap (λ (x : Log). map node_of x.nodes) same) (sym m.4 ∙ ap (λ (x : Log). map found_of x.part.cells) same)
