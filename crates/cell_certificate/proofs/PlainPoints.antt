-- the problem of a file's points: its own file points, its points without ranks, and its ranks
use Rattle.std.proofs.Common.{◌≡◌, ℕ, suc, ◌+◌, ◌-◌, ◌≤◌, List, [], ◌∷◌, length, map, arith, refl, sym, ap, ap₂, subst, ◌∙◌}
use Rattle.std.proofs.lemmas.List.{length-map, take_all}
use Rattle.std.specs.Prelude.{min}
use Rattle.cayley.specs.Problems.{Version, version2, Point, Problem, unperturbed, ranked_supports, numbered_supports, ranks_in, first_points, file_points}
use Rattle.cayley.specs.Files.{FilePoint, File, resting, plain_problem}
use Rattle.cayley.specs.Valid.{IsValidFile}
use Rattle.cayley.proofs.Ranking.PlainProblems.{plain_unperturbed}
use Rattle.cayley.proofs.Ranking.Unperturbed.{unranked}
use Rattle.cayley.proofs.Ranking.Unranked.{unranked_ranked, ranked_twice}
use Rattle.cayley.proofs.Ranking.Numbering.{corners_before, rank_there}
use Rattle.cayley.proofs.Ranking.FilePointRanks.{length-numbered}
use Rattle.inner_normal.proofs.RankOrder.{HaveRanksFrom}

-- ---- its own file points
lengths_unranked : (ss : List (List Point)) → map length (map unranked ss) ≡ map length ss
lengths_unranked [] = refl
lengths_unranked (s ∷ ss) = ap₂ (λ n ns. n ∷ ns) (length-map s _) (lengths_unranked ss)

lengths_resting : (supports : List (List FilePoint)) → map length (map (map resting) supports) ≡ map length supports
lengths_resting [] = refl
lengths_resting (s ∷ supports) = ap₂ (λ n ns. n ∷ ns) (length-map s resting) (lengths_resting supports)

ranked_lengths : (version : Version) (files : List ℕ) (ss : List (List Point)) → map length (ranked_supports version files ss) ≡ map length ss
ranked_lengths version files ss = sym (lengths_unranked (ranked_supports version files ss)) ∙ ap (map length) (unranked_ranked version files ss) ∙ lengths_unranked ss

whole : (ss : List (List Point)) → first_points (map length ss) ss ≡ ss
whole [] = refl
whole (s ∷ ss) = ap₂ (λ x xs. x ∷ xs) (take_all (length s) s (omega arith)) (whole ss)

pub own_points : (file : File) → IsValidFile file → file_points (plain_problem file) ≡ plain_problem file
own_points file valid =
    let p = plain_problem file in
    let files = map length file.supports in
    let ss = map (map resting) file.supports in
    let e = ranked_lengths file.version files ss ∙ lengths_resting file.supports in
    let first = subst (λ (fs : List ℕ). first_points fs p.supports ≡ p.supports) e (whole p.supports) in
    ap (λ (us : List (List Point)). record p { supports = us }) (ap (ranked_supports file.version files) first ∙ ranked_twice file.version files ss)

-- ---- its points without ranks
pub resting_points : (file : File) → (unperturbed (plain_problem file)).supports ≡ map (map resting) file.supports
resting_points file = ap (λ (p : Problem). p.supports) (plain_unperturbed file)

-- ---- its ranks
no_corner : (i f q : ℕ) → q ≤ f → corners_before i f q ≡ 0
no_corner i f q l = omega (arith, l)

used_up : (n f : ℕ) → n ≡ f → n - min 2 (n - f) ≡ f
used_up n f e = omega (arith, e)

ranks_from : (i b : ℕ) (supports : List (List FilePoint)) → 1 ≤ i → HaveRanksFrom b (numbered_supports i b (map length supports) (map (map resting) supports))
ranks_from i b [] l = tt
ranks_from i b (s ∷ supports) l =
    let f = length s in
    let xs = map resting s in
    let n : length xs ≡ f = length-map s resting in
    let m = length-numbered i f 1 b xs in (
      (λ q p k.
          let h = rank_there i f b q xs l p (omega (arith, k, m)) (λ e. omega (arith, e, k, m, n)) (λ e. omega (arith, e, k, m, n)) in
          let z = no_corner i f q (omega (arith, k, m, n)) in
          omega (arith, h, z)),
      subst (λ d. HaveRanksFrom d (numbered_supports (suc i) (b + ranks_in f xs) (map length supports) (map (map resting) supports)))
          (ap (λ d. b + d) (used_up (length xs) f n ∙ sym (m ∙ n)))
          (ranks_from (suc i) (b + ranks_in f xs) supports (omega arith)),
    )

pub plain_ranks : (file : File) → file.version ≡ version2 → HaveRanksFrom 1 (plain_problem file).supports
plain_ranks file e =
    subst (λ (w : Version). HaveRanksFrom 1 (ranked_supports w (map length file.supports) (map (map resting) file.supports))) (sym e) (ranks_from 1 1 file.supports (omega arith))
