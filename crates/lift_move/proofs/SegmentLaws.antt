-- the laws of segments
use Rattle.std.proofs.Common.{◌≡◌, ◌∙◌, ℕ, suc, List, [], ◌∷◌, length, map, drop, arith, refl, sym, ap, subst}
use Rattle.std.specs.Prelude.{ℤ, slice_index_or}
use Rattle.cayley.specs.Times.{time_zero}
use Rattle.cayley.specs.Problems.{EachSupport, HasNoCorners, file_points}
use Rattle.cayley.specs.Files.{FilePoint, File, moved_supports, plain_problem, between_problem}
use Rattle.cayley.specs.Mixed.{IsAlive}
use Rattle.cayley.specs.Shapes.{HasSecondHeights}
use Rattle.cayley.proofs.Ranking.PlainProblems.{plain_valid}
use Rattle.cayley.proofs.Ranking.MovedProblems.{length-moved}
use Rattle.lift_move.specs.Segments.{IsSegment, start_of, second_of}
use Rattle.lift_move.specs.Laws.{StartLaw, EndLaw, CompleteLaw}
use Rattle.lift_move.proofs.Ends.{alive_at_start, own_points, start_alone, mixed_at_end}
use Rattle.lift_move.proofs.Complete.{all_reached}
use Rattle.lift_move.proofs.Lifted.{second_valid, plain_end, plain_start}

-- a problem between two lifts is a segment
moved_alone : (i : ℕ) (ss : List (List FilePoint)) (second : List (List ℤ)) → map length second ≡ map length ss → EachSupport i (map length ss) (moved_supports ss second) (λ j f s. length s ≡ f)
moved_alone i [] second e = tt
moved_alone i (s ∷ ss) [] e = absurd (let l = ap length e in omega (arith, l))
moved_alone i (s ∷ ss) (hs ∷ second) e = (length-moved s hs (ap (λ (l : List ℕ). slice_index_or l 0 0) e), moved_alone (suc i) ss second (ap (λ (l : List ℕ). drop 1 l) e))

pub is_segment : (file : File) (second : List (List ℤ)) → HasSecondHeights file second → IsSegment (between_problem file second)
is_segment file second h = (refl, moved_alone 1 file.supports second h)

pub start_is : StartLaw
start_is file second cell valid first h =
    let p = between_problem file second in
    let e = plain_start file first second h.0 in
    let own : file_points (plain_problem file) ≡ start_of p =
    own_points (plain_problem file) (plain_valid file valid).ranks (subst HasNoCorners (sym e) (start_alone p (is_segment file second h.0).1)) ∙ e in (
      (λ a. subst (λ q. IsAlive q cell time_zero) (sym own) ((alive_at_start p cell).0 a)),
      (λ a. (alive_at_start p cell).1 (subst (λ q. IsAlive q cell time_zero) own a)),
    )

pub end_is : EndLaw
end_is file second cell valid first h =
    mixed_at_end (between_problem file second) (plain_problem (second_of file second)) cell (is_segment file second h.0).1
    (plain_valid (second_of file second) (second_valid file second valid h)).ranks (plain_end file first second h.0)

pub complete_is : CompleteLaw
complete_is p given tau well generic all a = all_reached p well generic given all tau a
