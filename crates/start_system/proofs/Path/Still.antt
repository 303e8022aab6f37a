-- a problem of the form of a path is a still problem
use Rattle.std.proofs.Common.{◌≡◌, ℕ, zero, suc, ◌+◌, ◌-◌, ◌<◌, ◌≤◌, List, [], ◌∷◌, length, take, drop, arith, refl, sym, ap, subst, ◌∙◌}
use Rattle.std.proofs.lemmas.List.{length-drop}
use Rattle.std.proofs.Math.IntN.{pos}
use Rattle.int_vectors.specs.Vectors.{Each}
use Rattle.cayley.specs.Problems.{Point, Problem, EachSupport, IsStill, HasRanks, point_at, ranked_supports}
use Rattle.cayley.specs.Valid.{IsStillProblem}
use Rattle.int_vectors.proofs.Each.{read_drop}
use Rattle.cayley.proofs.Ranking.Unranked.{ranked_twice}
use Rattle.start_system.proofs.Path.Positions.{from_zero, point_suc}
use Rattle.start_system.proofs.Path.Shape.{Shapes, corner_speed}
use Rattle.start_system.proofs.Path.Forms.{Longs, HasForm, form_well}

-- ---- its file points rest
still_first : (f : ℕ) (s : List Point) → ((c : ℕ) → 1 ≤ c → c ≤ f → (point_at s c).speed ≡ pos 0) → Each (take f s) (λ (x : Point). x.speed ≡ pos 0)
still_first f s h = from f s (λ k l. subst (λ (x : Point). x.speed ≡ pos 0) (point_suc s k) (h (suc k) (omega arith) (omega arith)))
  where
    from : (f : ℕ) (s : List Point) → ((k : ℕ) → k < f → (from_zero s k).speed ≡ pos 0) → Each (take f s) (λ (x : Point). x.speed ≡ pos 0)
    from zero s h = tt
    from (suc f) [] h = tt
    from (suc f) (x ∷ s) h = (h 0 (omega arith), from f s (λ k l. h (suc k) (omega arith)))

still_all : (n i j : ℕ) (files : List ℕ) (supports : List (List Point)) → Longs n i files supports → Shapes n i supports → EachSupport j files supports (λ j f s. Each (take f s) (λ (x : Point). x.speed ≡ pos 0))
still_all n i j [] [] l w = tt
still_all n i j [] (s ∷ supports) l w = absurd l
still_all n i j (f ∷ files) [] l w = absurd l
still_all n i j (f ∷ files) (s ∷ supports) l w = (
  still_first f s (λ c a b. w.0.file c a (let e = w.0.long in let k = l.0.1 in omega (arith, e, k, b))),
  still_all n (suc i) (suc j) files supports l.1 w.1,
)

pub form_still : (p : Problem) → HasForm p → IsStill p
form_still p w = still_all p.dimension 0 1 p.files p.supports w.long w.shapes

-- ---- its corners have speed 1
each_from_zero : (P : Point → Type 0) (xs : List Point) → ((k : ℕ) → k < length xs → P (from_zero xs k)) → Each xs P
each_from_zero P [] h = tt
each_from_zero P (x ∷ xs) h = (h 0 (omega arith), each_from_zero P xs (λ k l. h (suc k) (omega arith)))

moving_last : (f : ℕ) (s : List Point) → ((c : ℕ) → f < c → c ≤ length s → (point_at s c).speed ≡ pos 1) → Each (drop f s) (λ (x : Point). x.speed ≡ pos 1)
moving_last f s h = each_from_zero _ (drop f s) (λ k l.
    let t = length-drop f s in
    subst (λ (x : Point). x.speed ≡ pos 1) (sym (read_drop s f k (f + k) _ refl ∙ sym (point_suc s (f + k)))) (h (suc (f + k)) (omega arith) (omega (arith, l, t))))

pub moving_all : (n i j : ℕ) (files : List ℕ) (supports : List (List Point)) → Longs n i files supports → Shapes n i supports → EachSupport j files supports (λ j f s. Each (drop f s) (λ (x : Point). x.speed ≡ pos 1))
moving_all n i j [] [] l w = tt
moving_all n i j [] (s ∷ supports) l w = absurd l
moving_all n i j (f ∷ files) [] l w = absurd l
moving_all n i j (f ∷ files) (s ∷ supports) l w = (
  (let e = w.0.long in let k = l.0.1 in moving_last f s (λ c a b. corner_speed n i s w.0 c (omega (arith, e, k, a)) (omega (arith, e, b)))),
  moving_all n (suc i) (suc j) files supports l.1 w.1,
)

-- ---- its ranks are those of its own points
form_ranks : (p : Problem) → HasForm p → HasRanks p
form_ranks p w = w.ranks ∙ sym (ranked_twice p.version p.files w.plain) ∙ ap (ranked_supports p.version p.files) (sym w.ranks)

pub form_is_still : (p : Problem) → HasForm p → IsStillProblem p
form_is_still p w = record {
  problem = form_well p w;
  ranks = form_ranks p w;
  still = form_still p w;
  corners = moving_all p.dimension 0 1 p.files p.supports w.long w.shapes;
}
