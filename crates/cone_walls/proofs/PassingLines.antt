-- the front with the line of one more point
use Rattle.std.proofs.Common.{◌≡◌, ◌⊎◌, ℤ, inl, inr, ℕ, Bool, true, false, if◌then◌else◌, ◌==◌, ◌<ℤ◌, pos, List, [], ◌∷◌, ◌++◌, append-nil, true≢false, refl, sym, ap, subst, ◌∙◌}
use Rattle.std.proofs.lemmas.Bool.{eq-eqb, eqb-true}
use Rattle.cayley.specs.Problems.{Point, point_at}
use Rattle.crossing.specs.declared.line.WallLine.{WallLine}
use Rattle.inner_normal.specs.declared.moving.MovingNormal.{MovingNormal}
use Rattle.cone_walls.specs.declared.fronts.Front.{Front}
use Rattle.cone_walls.specs.Fronts.{IsFront}
use Rattle.cone_walls.specs.Listed.{line_of, one_line}
use Rattle.cone_walls.specs.Numbers.{beta}
use Rattle.cone_walls.proofs.LeadingLines.{front_idle}

-- the line of a place with two numbers
abbrev pub made_of : ℕ → ℕ → ℤ → ℤ → WallLine
made_of i k a b = record { support = i; position = k; alpha = a; beta = b; fine = [] }

pick : (t u : Bool) (l : WallLine) → (t ≡ true) ⊎ (u ≡ true) → (if t then [] else if u then [] else l ∷ []) ≡ []
pick true u l h = refl
pick false true l h = refl
pick false false l (inl e) = absurd (true≢false (sym e))
pick false false l (inr e) = absurd (true≢false (sym e))

other : (t u : Bool) (l : WallLine) → ¬ (t ≡ true) → ¬ (u ≡ true) → (if t then [] else if u then [] else l ∷ []) ≡ l ∷ []
other true u l p q = absurd (p refl)
other false true l p q = absurd (q refl)
other false false l p q = refl

module _ (m : MovingNormal) (i : ℕ) (s : List Point) (a b c : ℕ) where
  own_none : (c ≡ a) ⊎ (c ≡ b) → one_line m i s a b c ≡ []
  own_none (inl e) = pick (c == a) (c == b) (line_of m i (point_at s a) c (point_at s c)) (inl (eq-eqb c a e))
  own_none (inr e) = pick (c == a) (c == b) (line_of m i (point_at s a) c (point_at s c)) (inr (eq-eqb c b e))

  further_one : ¬ ((c ≡ a) ⊎ (c ≡ b)) → one_line m i s a b c ≡ line_of m i (point_at s a) c (point_at s c) ∷ []
  further_one n = other (c == a) (c == b) (line_of m i (point_at s a) c (point_at s c)) (λ t. n (inl (eqb-true c a t))) (λ t. n (inr (eqb-true c b t)))

  module _ (lines : List WallLine) (front : Front) where
    pub own_front : (c ≡ a) ⊎ (c ≡ b) → IsFront lines front → IsFront (lines ++ one_line m i s a b c) front
    own_front o h = subst (λ (ls : List WallLine). IsFront ls front) (sym (append-nil lines) ∙ ap (λ (ls : List WallLine). lines ++ ls) (sym (own_none o))) h

    -- a line that doesn't fall
    pub idle_front : ¬ ((c ≡ a) ⊎ (c ≡ b)) → ¬ (beta m (point_at s a) (point_at s c) <ℤ pos 0) → IsFront lines front → IsFront (lines ++ one_line m i s a b c) front
    idle_front n f h =
        subst (λ (ls : List WallLine). IsFront (lines ++ ls) front) (sym (further_one n)) (front_idle lines (line_of m i (point_at s a) c (point_at s c)) front f h)

    pub next_front : ¬ ((c ≡ a) ⊎ (c ≡ b)) → (l : WallLine) → l ≡ line_of m i (point_at s a) c (point_at s c) → IsFront (lines ++ l ∷ []) front → IsFront (lines ++ one_line m i s a b c) front
    next_front n l e h =
        subst (λ (ls : List WallLine). IsFront (lines ++ ls) front) (sym (further_one n)) (subst (λ (k : WallLine). IsFront (lines ++ k ∷ []) front) e h)
