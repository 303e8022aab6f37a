-- gaps as differences of potentials; pairs and rows of lists that are put together
use Rattle.std.proofs.Common.{◌≡◌, ℕ, List, [], ◌∷◌, ◌++◌, length, arith, refl, sym, ap, ap₂, ◌∙◌}
use Rattle.std.proofs.lemmas.Int.{ints}
use Rattle.std.proofs.Math.IntN.{ℤ, pos, ◌+ℤ◌, ◌-ℤ◌, ◌*ℤ◌, neg_ℤ}
use Rattle.wide_int.proofs.Ring.{as_D, Ds, same_D}
use Rattle.cayley.proofs.Order.Lexicographic.{minus_one}
use Rattle.cayley.proofs.Algebra.Kernel.{dot_comm}
use Rattle.cayley.proofs.Algebra.ScaledInverse.{dot-add, dot-scale}
use Rattle.cayley.proofs.Algebra.RowNormals.{gap-at}
use Rattle.int_vectors.specs.Vectors.{IsZero, scale, dot, at, sub, entries_at}
use Rattle.int_vectors.proofs.Entries.{at-scale, at-add, zero_from, at-zero}
use Rattle.cayley.specs.Problems.{Point, point_at}
use Rattle.cayley.specs.Times.{Time}
use Rattle.cayley.specs.Normals.{Normal, height, gap}
use Rattle.cayley.specs.Cells.{Cell, EachPair}
use Rattle.cayley.specs.Rows.{edges}

-- ---- gaps are differences of potentials
unfoldable pub potential : Time → Normal → Point → ℕ → ℤ
potential t v p e = t.over *ℤ dot p.coordinates (entries_at e v.entries) +ℤ v.over *ℤ at (height t p) e

pub dot-sub : (x y w : List ℤ) → dot (sub x y) w ≡ dot x w -ℤ dot y w
dot-sub x y w =
    dot_comm (sub x y) w ∙ dot-add w x (scale (neg_ℤ (pos 1)) y)
    ∙ ap₂ ◌+ℤ◌ (dot_comm w x) (dot-scale w (neg_ℤ (pos 1)) y ∙ minus_one (dot w y) ∙ ap neg_ℤ (dot_comm w y))

pub gap-potential : (t : Time) (v : Normal) (p q : Point) (e : ℕ) → at (gap t v p q) e ≡ potential t v q e -ℤ potential t v p e
unfolding potential
gap-potential t v p q e =
    gap-at (sub q.coordinates p.coordinates) v.entries (sub (height t q) (height t p)) t.over v.over e
    ∙ ap₂ (λ x y. t.over *ℤ x +ℤ v.over *ℤ y) (dot-sub q.coordinates p.coordinates (entries_at e v.entries)) (at-add (height t q) (scale (neg_ℤ (pos 1)) (height t p)) e ∙ ap (λ x. at (height t q) e +ℤ x) (at-scale (neg_ℤ (pos 1)) (height t p) e ∙ minus_one _))
    ∙ step t.over v.over (dot q.coordinates (entries_at e v.entries)) (dot p.coordinates (entries_at e v.entries)) (at (height t q) e) (at (height t p) e)
  where
    step : (q d x y h k : ℤ) → q *ℤ (x -ℤ y) +ℤ d *ℤ (h +ℤ neg_ℤ k) ≡ q *ℤ x +ℤ d *ℤ h -ℤ (q *ℤ y +ℤ d *ℤ k)
    step q d x y h k = rw (as_D q, as_D d, as_D x, as_D y, as_D h, as_D k) (simp Ds (same_D _ _ _ _ (omega arith)))

-- two points level with a third are level with one another
pub level_pair : (t : Time) (v : Normal) (p q r : Point) → IsZero (gap t v p q) → IsZero (gap t v p r) → IsZero (gap t v q r)
level_pair t v p q r x y = zero_from (gap t v q r) (λ e.
    let a = sym (gap-potential t v p q e) ∙ at-zero _ e x in
    let b = sym (gap-potential t v p r e) ∙ at-zero _ e y in
    gap-potential t v q r e ∙ omega (arith, ints, a, b))

pub level_self : (t : Time) (v : Normal) (p : Point) → IsZero (gap t v p p)
level_self t v p = zero_from (gap t v p p) (λ e. gap-potential t v p p e ∙ omega (arith, ints))

pub level_back : (t : Time) (v : Normal) (p q : Point) → IsZero (gap t v p q) → IsZero (gap t v q p)
level_back t v p q x = level_pair t v p q p x (level_self t v p)

-- ---- places
pub each_pair-left : (P : List Point → ℕ → ℕ → Type 0) (sb sa : List (List Point)) (cb ca : Cell) → length sb ≡ length cb → EachPair (sb ++ sa) (cb ++ ca) P → EachPair sb cb P
each_pair-left P [] sa [] ca l e = tt
each_pair-left P [] sa (x ∷ cb) ca l e = absurd (omega arith)
each_pair-left P (s ∷ sb) sa [] ca l e = absurd (omega arith)
each_pair-left P (s ∷ sb) sa (x ∷ cb) ca l e = (e.0, each_pair-left P sb sa cb ca (omega arith) e.1)

pub each_pair-right : (P : List Point → ℕ → ℕ → Type 0) (sb sa : List (List Point)) (cb ca : Cell) → length sb ≡ length cb → EachPair (sb ++ sa) (cb ++ ca) P → EachPair sa ca P
each_pair-right P [] sa [] ca l e = e
each_pair-right P [] sa (x ∷ cb) ca l e = absurd (omega arith)
each_pair-right P (s ∷ sb) sa [] ca l e = absurd (omega arith)
each_pair-right P (s ∷ sb) sa (x ∷ cb) ca l e = each_pair-right P sb sa cb ca (omega arith) e.1

pub each_pair-append : (P : List Point → ℕ → ℕ → Type 0) (sb sa : List (List Point)) (cb ca : Cell) → EachPair sb cb P → EachPair sa ca P → EachPair (sb ++ sa) (cb ++ ca) P
each_pair-append P [] sa [] ca e f = f
each_pair-append P [] sa (x ∷ cb) ca e f = absurd e
each_pair-append P (s ∷ sb) sa [] ca e f = absurd e
each_pair-append P (s ∷ sb) sa (x ∷ cb) ca e f = (e.0, each_pair-append P sb sa cb ca e.1 f)

pub edges-append : (sb sa : List (List Point)) (cb ca : Cell) → length sb ≡ length cb → edges (sb ++ sa) (cb ++ ca) ≡ edges sb cb ++ edges sa ca
edges-append [] sa [] ca l = refl
edges-append [] sa (x ∷ cb) ca l = absurd (omega arith)
edges-append (s ∷ sb) sa [] ca l = absurd (omega arith)
edges-append (s ∷ sb) sa (x ∷ cb) ca l = ap (λ l. sub (point_at s x.1).coordinates (point_at s x.0).coordinates ∷ l) (edges-append sb sa cb ca (omega arith))
