-- the value of a line is the sum of the heights of its circuit's points times their numbers
use Rattle.std.proofs.Common.{◌≡◌, ℕ, zero, suc, ◌+◌, ◌-◌, ◌++◌, List, [], ◌∷◌, map, arith, refl, sym, ap, ap₂, ◌∙◌}
use Rattle.std.proofs.lemmas.Int.{ints}
use Rattle.std.specs.Prelude.{slice_index_or}
use Rattle.std.proofs.Math.ListN.{replicate}
use Rattle.std.proofs.Math.IntN.{ℤ, pos, ◌+ℤ◌, ◌*ℤ◌, *ℤ-zero}
use Rattle.wide_int.proofs.Ring.{as_D, Ds, same_D}
use Rattle.int_vectors.specs.Vectors.{add, scale, at}
use Rattle.int_vectors.proofs.Entries.{at-scale, at-add}
use Rattle.lex_height.specs.declared.part.LexPart.{LexPart}
use Rattle.lex_height.specs.Entries.{entry, entries_from}
use Rattle.lex_height.specs.Values.{AreParts}
use Rattle.lex_height.proofs.Ranks.{entry_below, entries_is, weaker}
use Rattle.cayley.specs.Times.{Time}
use Rattle.cayley.specs.Problems.{Point, Problem, point_at, with_rank, unperturbed}
use Rattle.cayley.specs.Cells.{Cell}
use Rattle.cayley.specs.Dependencies.{Numbers, total, sum_of_heights, sum_at}
use Rattle.cayley.specs.Normals.{mark, height}
use Rattle.cayley.proofs.OneCell.CellLines.{base_of, height-at}
use Rattle.cayley.proofs.Ranking.Unperturbed.{unranked, point_unranked}
use Rattle.crossing.specs.declared.line.WallLine.{WallLine}
use Rattle.crossing.specs.Lines.{value}
use Rattle.cone_walls.specs.Fines.{has_rank, sum_of_rank}

-- ---- heights with ranks and without
height_marked : (t : Time) (x : Point) (e : ℕ) → at (height t x) e ≡ at (height t (with_rank 0 x)) e +ℤ t.over *ℤ has_rank e x
unfolding base_of
height_marked t x e =
    height-at t x e
    ∙ ap (λ z. t.over *ℤ z +ℤ x.speed *ℤ at t.entries e) (at-add (x.base ∷ []) (mark (pos 1) x.rank) e)
    ∙ step t.over (at (x.base ∷ []) e) (x.speed *ℤ at t.entries e) (has_rank e x)
    ∙ ap (λ z. z +ℤ t.over *ℤ has_rank e x) (sym (height-at t (with_rank 0 x) e))
  where
    step : (q b s m : ℤ) → q *ℤ (b +ℤ m) +ℤ s ≡ q *ℤ b +ℤ s +ℤ q *ℤ m
    step q b s m = rw (as_D q, as_D b, as_D s, as_D m) (simp Ds (same_D _ _ _ _ (omega arith)))

two_heights : (t : Time) (m : ℤ × ℤ) (x y : Point) (rest : List ℤ) (e : ℕ) → at (add (add (scale m.0 (height t x)) (scale m.1 (height t y))) rest) e ≡ m.0 *ℤ at (height t x) e +ℤ m.1 *ℤ at (height t y) e +ℤ at rest e
two_heights t m x y rest e =
    at-add (add (scale m.0 (height t x)) (scale m.1 (height t y))) rest e
    ∙ ap (λ z. z +ℤ at rest e) (at-add (scale m.0 (height t x)) (scale m.1 (height t y)) e ∙ ap₂ ◌+ℤ◌ (at-scale m.0 (height t x) e) (at-scale m.1 (height t y) e))

heights_marked : (t : Time) (ms : List (ℤ × ℤ)) (supports : List (List Point)) (cell : Cell) (e : ℕ) → at (sum_of_heights t ms supports cell) e ≡ at (sum_of_heights t ms (map unranked supports) cell) e +ℤ t.over *ℤ total ms supports cell (has_rank e)
heights_marked t [] supports cell e = rw (*ℤ-zero t.over) refl
heights_marked t (m ∷ ms) [] cell e = rw (*ℤ-zero t.over) refl
heights_marked t (m ∷ ms) (s ∷ supports) [] e = rw (*ℤ-zero t.over) refl
heights_marked t (m ∷ ms) (s ∷ supports) (x ∷ cell) e =
    let a = point_at s x.0 in
    let b = point_at s x.1 in
    let rest = sum_of_heights t ms (map unranked supports) cell in
    two_heights t m a b (sum_of_heights t ms supports cell) e
    ∙ ap₂ (λ y z. y +ℤ z) (ap₂ (λ y z. m.0 *ℤ y +ℤ m.1 *ℤ z) (height_marked t a e) (height_marked t b e)) (heights_marked t ms supports cell e)
    ∙ step t.over m.0 m.1 (at (height t (with_rank 0 a)) e) (has_rank e a) (at (height t (with_rank 0 b)) e) (has_rank e b) (at rest e) (total ms supports cell (has_rank e))
    ∙ ap (λ z. z +ℤ t.over *ℤ (m.0 *ℤ has_rank e a +ℤ m.1 *ℤ has_rank e b +ℤ total ms supports cell (has_rank e)))
    (sym (two_heights t m (with_rank 0 a) (with_rank 0 b) rest e)
    ∙ ap₂ (λ (y z : Point). at (add (add (scale m.0 (height t y)) (scale m.1 (height t z))) rest) e) (sym (point_unranked s x.0)) (sym (point_unranked s x.1)))
  where
    step : (q k l a r b o s u : ℤ) → k *ℤ (a +ℤ q *ℤ r) +ℤ l *ℤ (b +ℤ q *ℤ o) +ℤ (s +ℤ q *ℤ u) ≡ k *ℤ a +ℤ l *ℤ b +ℤ s +ℤ q *ℤ (k *ℤ r +ℤ l *ℤ o +ℤ u)
    step q k l a r b o s u = rw (as_D q, as_D k, as_D l, as_D a, as_D r, as_D b, as_D o, as_D s, as_D u) (simp Ds (same_D _ _ _ _ (omega arith)))

pub sum_marked : (t : Time) (numbers : Numbers) (p : Problem) (cell : Cell) (c : Point) (e : ℕ) → at (sum_at t numbers p cell c) e ≡ at (sum_at t numbers (unperturbed p) cell (with_rank 0 c)) e +ℤ t.over *ℤ sum_of_rank numbers p cell c e
sum_marked t numbers p cell c e =
    let rest = sum_of_heights t numbers.pairs (map unranked p.supports) cell in
    at-add (sum_of_heights t numbers.pairs p.supports cell) (scale numbers.last (height t c)) e
    ∙ ap₂ ◌+ℤ◌ (heights_marked t numbers.pairs p.supports cell e) (at-scale numbers.last (height t c) e ∙ ap (λ z. numbers.last *ℤ z) (height_marked t c e))
    ∙ step t.over numbers.last (at rest e) (total numbers.pairs p.supports cell (has_rank e)) (at (height t (with_rank 0 c)) e) (has_rank e c)
    ∙ ap (λ z. z +ℤ t.over *ℤ sum_of_rank numbers p cell c e) (sym (at-add rest (scale numbers.last (height t (with_rank 0 c))) e ∙ ap (λ z. at rest e +ℤ z) (at-scale numbers.last (height t (with_rank 0 c)) e)))
  where
    step : (q g s u h r : ℤ) → s +ℤ q *ℤ u +ℤ g *ℤ (h +ℤ q *ℤ r) ≡ s +ℤ g *ℤ h +ℤ q *ℤ (u +ℤ g *ℤ r)
    step q g s u h r = rw (as_D q, as_D g, as_D s, as_D u, as_D h, as_D r) (simp Ds (same_D _ _ _ _ (omega arith)))

-- ---- no ranks, no parts
no_rank : (s : List Point) (k e : ℕ) → has_rank e (point_at (unranked s) k) ≡ pos 0
no_rank s k e = ap (has_rank e) (point_unranked s k)

total_unranked : (ms : List (ℤ × ℤ)) (supports : List (List Point)) (cell : Cell) (e : ℕ) → total ms (map unranked supports) cell (has_rank e) ≡ pos 0
total_unranked [] supports cell e = refl
total_unranked (m ∷ ms) [] cell e = refl
total_unranked (m ∷ ms) (s ∷ supports) [] e = refl
total_unranked (m ∷ ms) (s ∷ supports) (x ∷ cell) e = rw (no_rank s x.0 e, no_rank s x.1 e, total_unranked ms supports cell e, *ℤ-zero m.0, *ℤ-zero m.1) refl

pub sum_unranked : (numbers : Numbers) (p : Problem) (cell : Cell) (s : List Point) (k e : ℕ) → sum_of_rank numbers (unperturbed p) cell (point_at (unranked s) k) e ≡ pos 0
sum_unranked numbers p cell s k e = rw (total_unranked numbers.pairs p.supports cell e, no_rank s k e, *ℤ-zero numbers.last) refl

-- ---- the value by its entries
shift : (fine : List LexPart) → AreParts 1 fine → (e : ℕ) → at (entries_from 1 fine) e ≡ at (entries_from 0 fine) (suc e)
shift [] h e = refl
shift (part ∷ parts) h e =
    let l = h.0 in
    let q : suc (part.rank - 1) ≡ part.rank - 0 = omega (arith, l) in
    ap (λ n. slice_index_or (replicate n (pos 0) ++ part.num ∷ entries_from (part.rank + 1) parts) (suc e) (pos 0)) q

constant_at : (alpha : ℤ) (fine : List LexPart) → AreParts 1 fine → (e : ℕ) → at (alpha ∷ entries_from 1 fine) e ≡ at (alpha ∷ []) e +ℤ entry fine e
constant_at alpha fine h zero = let z = entry_below 1 fine h 0 (omega arith) in rw z (omega (arith, ints))
constant_at alpha fine h (suc e) = shift fine h e ∙ entries_is fine (weaker 1 0 fine (omega arith) h) (suc e) ∙ omega (arith, ints)

pub value_at : (l : WallLine) → AreParts 1 l.fine → (t : Time) (e : ℕ) → at (value l t.entries t.over) e ≡ t.over *ℤ at (l.alpha ∷ []) e +ℤ l.beta *ℤ at t.entries e +ℤ t.over *ℤ entry l.fine e
value_at l h t e =
    at-add (scale t.over (l.alpha ∷ entries_from 1 l.fine)) (scale l.beta t.entries) e
    ∙ ap₂ ◌+ℤ◌ (at-scale t.over (l.alpha ∷ entries_from 1 l.fine) e ∙ ap (λ z. t.over *ℤ z) (constant_at l.alpha l.fine h e)) (at-scale l.beta t.entries e)
    ∙ step t.over (at (l.alpha ∷ []) e) (entry l.fine e) (l.beta *ℤ at t.entries e)
  where
    step : (q a f b : ℤ) → q *ℤ (a +ℤ f) +ℤ b ≡ q *ℤ a +ℤ b +ℤ q *ℤ f
    step q a f b = rw (as_D q, as_D a, as_D f, as_D b) (simp Ds (same_D _ _ _ _ (omega arith)))
