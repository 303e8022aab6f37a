-- what is said of the lines that are made
use Rattle.std.proofs.Common.{◌≡◌, ◌⊎◌, ◌↔◌, ℕ, ◌-◌, ◌≤◌, List, [], ◌∷◌, map, ℤ, pos, refl, sym, ap, ap₂, subst, ◌∙◌}
use Rattle.int_vectors.specs.Vectors.{Each}
use Rattle.reduced_rows.specs.CellRefusals.{IsEliminated}
use Rattle.lex_height.specs.declared.part.LexPart.{LexPart}
use Rattle.lex_height.specs.Entries.{entry}
use Rattle.lex_height.specs.Values.{AreParts}
use Rattle.lex_height.proofs.Ranks.{entry_here}
use Rattle.cayley.specs.Problems.{Version, Point, Problem, point_at, unperturbed, ranked_supports, HasRanks, HasSamePoints}
use Rattle.cayley.specs.Problems.Version.{version1}
use Rattle.cayley.specs.Cells.{Cell, IsIndependent}
use Rattle.cayley.specs.Dependencies.{IsFurtherAt, nth_support}
use Rattle.int_vectors.proofs.Each.{each_unmap, each_weaker, each_both}
use Rattle.cayley.proofs.Ranking.Unperturbed.{unranked, support_unranked, same_rows, same_unperturbed}
use Rattle.crossing.specs.declared.line.WallLine.{WallLine}
use Rattle.crossing.specs.declared.entry.Entry.TheVariants.{Dead}
use Rattle.crossing.specs.Entries.{IsEntry}
use Rattle.inner_normal.specs.declared.moving.MovingNormal.{MovingNormal}
use Rattle.inner_normal.specs.MovingNormals.{IsMovingNormal}
use Rattle.cone_walls.specs.Listed.{coarse}
use Rattle.cone_walls.specs.Fines.{circuit_of, sum_of_rank, HasFine}
use Rattle.cone_walls.specs.Lives.{IsNeverAlive, LivesBetween}
use Rattle.cone_walls.specs.Made.{IsMade}
use Rattle.cone_walls.specs.Places.{IsEarlier, AreInOrder, HasLine, AreOfFurtherPoints, HasNumbers}
use Rattle.cone_walls.specs.Sides.{TellSides, TellSidesAt}
use Rattle.cone_walls.specs.Workings.{FitsWallWorking}
use Rattle.cone_walls.proofs.FurtherLines.{of_further_points, have_numbers, are_further}
use Rattle.cone_walls.proofs.FineValues.{sum_unranked}
use Rattle.cone_walls.proofs.Telling.{IsLineOf, tell_sides, tell_sides_at, coarse_lines, coarse_fines}
use Rattle.cone_walls.proofs.Living.{never_dead, lives_between}
use Rattle.cone_walls.proofs.Outcomes.{working_fits}

-- ---- places don't depend on infinitesimals
order_of : (l : WallLine) (lines : List WallLine) → Each (map coarse lines) (IsEarlier (coarse l)) → Each lines (IsEarlier l)
order_of l lines h = each_unmap coarse (IsEarlier (coarse l)) lines h

pub in_order : (lines : List WallLine) → AreInOrder (map coarse lines) → AreInOrder lines
in_order [] h = tt
in_order (l ∷ lines) h = (order_of l lines h.0, in_order lines h.1)

pub has_line : (lines : List WallLine) (j c : ℕ) → HasLine (map coarse lines) j c ≡ HasLine lines j c
has_line [] j c = refl
has_line (l ∷ lines) j c = ap (λ (A : Type 0). ((l.support ≡ j) × (l.position ≡ c)) ⊎ A) (has_line lines j c)

coarse_places : (p : Problem) (cell : Cell) (lines : List WallLine) → AreOfFurtherPoints p cell (map coarse lines) → AreOfFurtherPoints p cell lines
coarse_places p cell lines h = (in_order lines h.0, λ j c. subst (λ (A : Type 0). A ↔ ((1 ≤ j) × IsFurtherAt p cell (j - 1) c)) (has_line lines j c) (h.1 j c))

-- ---- without ranks there are no parts
no_parts : (n : ℕ) (parts : List LexPart) → AreParts n parts → ((rank : ℕ) → entry parts rank ≡ pos 0) → parts ≡ []
no_parts n [] h z = refl
no_parts n (part ∷ parts) h z = absurd (h.1 (sym (entry_here part parts part.rank refl) ∙ z part.rank))

plain_fine : (p : Problem) (cell : Cell) (reduced : List (List ℤ)) → HasRanks p → p.version ≡ version1 → (line : WallLine) → HasFine p cell reduced line → line.fine ≡ []
plain_fine p cell reduced ranks first line f =
    let j = line.support - 1 in
    let n = circuit_of p cell reduced j line.position in
    let same : p ≡ unperturbed p = ap₂ (λ (v : Version) (ss : List (List Point)). record p { version = v; supports = ss }) first (ranks ∙ ap (λ (v : Version). ranked_supports v p.files p.supports) first) in
    let here : nth_support p.supports j ≡ unranked (nth_support p.supports j) = ap (λ (q : Problem). nth_support q.supports j) same ∙ support_unranked p.supports j in
    no_parts 1 line.fine f.0
    (λ rank. f.1 rank
    ∙ ap₂ (λ (q : Problem) (s : List Point). sum_of_rank n q cell (point_at s line.position) rank) same here
    ∙ sum_unranked n p cell (nth_support p.supports j) line.position rank)

module _ (p : Problem) (cell : Cell) (reduced : List (List ℤ)) (normal : MovingNormal) (lines : List WallLine) (h : IsMade p cell reduced normal lines) where
  moves : IsMovingNormal p cell normal
  moves = h.moving p refl

  pub made_fits : FitsWallWorking p cell
  made_fits = working_fits p cell reduced h.answer h.rest

  pub made_independent : IsIndependent p cell
  made_independent = moves.independent

  pub made_places : AreOfFurtherPoints p cell lines
  made_places = coarse_places p cell lines (subst (AreOfFurtherPoints p cell) (sym h.made) (of_further_points normal p cell moves.of))

  pub made_values : Each lines (HasNumbers p cell normal)
  made_values = each_unmap coarse (HasNumbers p cell normal) lines (subst (λ ls. Each ls (HasNumbers p cell normal)) (sym h.made) (have_numbers normal p cell))

  made_further : Each lines (λ l. IsFurtherAt p cell (l.support - 1) l.position)
  made_further = each_unmap coarse (λ l. IsFurtherAt p cell (l.support - 1) l.position) lines (subst (λ ls. Each ls (λ l. IsFurtherAt p cell (l.support - 1) l.position)) (sym h.made) (are_further normal p cell))

  made_lines : Each lines (IsLineOf p cell normal)
  made_lines = each_both (λ l. IsFurtherAt p cell (l.support - 1) l.position) (HasNumbers p cell normal) lines made_further made_values

  pub made_fine : Each lines (HasFine p cell reduced)
  made_fine = h.fine

  pub made_sides : TellSides p cell lines
  made_sides = tell_sides p cell normal moves reduced h.answer h.from lines made_lines h.fine

  own_coarse : TellSidesAt (unperturbed p) cell lines
  own_coarse =
      let u = unperturbed p in
      let same = same_unperturbed p in
      tell_sides_at u cell lines
      (tell_sides u cell normal (h.moving u (sym same)) reduced
      (subst (λ rows. IsEliminated p.dimension rows reduced) (same_rows p u cell same) h.answer) h.from (map coarse lines)
      (coarse_lines p cell normal lines made_lines) (coarse_fines p cell reduced lines))

  pub made_coarse : (q : Problem) → HasSamePoints q p → TellSidesAt (unperturbed q) cell lines
  made_coarse q same = subst (λ (u : Problem). TellSidesAt u cell lines) (sym same) own_coarse

  pub made_dead : IsNeverAlive p cell ↔ IsEntry lines Dead
  made_dead = never_dead p cell moves.problem moves.of moves.independent lines made_further made_places made_sides

  pub made_life : LivesBetween p cell lines
  made_life = lives_between p cell moves.problem moves.of moves.independent lines made_further made_places made_sides

  -- version 1
  pub made_plain : HasRanks p → p.version ≡ version1 → Each lines (λ line. line.fine ≡ [])
  made_plain ranks first = each_weaker (HasFine p cell reduced) (λ line. line.fine ≡ []) lines (λ line f. plain_fine p cell reduced ranks first line f) h.fine
