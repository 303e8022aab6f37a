-- the list of found cells grows in cell order
use Rattle.std.proofs.Common.{◌≡◌, ◌⊎◌, ◌↔◌, inl, inr, rules, ℕ, zero, suc, ◌+◌, ◌<◌, ◌≤◌, Bool, true, false, take, subst₂, List, [], ◌∷◌, ◌++◌, length, map, refl, sym, ap, subst, ◌∙◌, arith, Option, Some, None, MatchOption, Result, Ok, Err, MatchResult, IfOk, IfErr, Vec, Global}
use Rattle.std.specs.Prelude.{IsTrue}
use Rattle.int_vectors.specs.Vectors.{Each}
use Rattle.cayley.specs.declared.found.FoundCell.{FoundCell}
use Rattle.cayley.specs.Times.{time_zero}
use Rattle.cayley.specs.Problems.{Point, Problem, HasNoCorners}
use Rattle.cayley.specs.Cells.{Cell, EachPair, IsCell, IsOf, IsLess, IsSorted, IsListOf}
use Rattle.cayley.specs.Mixed.{IsAlive, IsMixedCell, IsLowestNormal}
use Rattle.cayley.specs.declared.found.Normal.{Normal}
use Rattle.cayley.specs.Valid.{IsValidProblem, IsValidCell}
use Rattle.cayley.proofs.Searching.Listing.{Has}
use Rattle.cayley.proofs.Searching.Members.{has_contains, contains_has}
use Rattle.cayley.specs.Stored.{cells_of}
use Rattle.plain_lister.specs.Choices.{most_points, HasTooMany, HavePairs}
use Rattle.plain_lister.specs.Lists.{HasLowestNormal, IsFirstUnfit, IsJudged, AllFit, IsPlainFault}
use Rattle.plain_lister.specs.Order.{IsChoice, IsLast, IsNext, firsts, left_after}
use Rattle.plain_lister.specs.Wheels.{Show}
use Rattle.plain_lister.specs.declared.wheels.Wheel.{Wheel}
use Rattle.plain_lister.specs.declared.faults.PlainFault.{PlainFault}
use Rattle.plain_lister.specs.declared.faults.PlainFault.TheVariants.{TooMany, Overflow, OutOfMemory}
use Rattle.plain_lister.specs.Progress.{IsDone, Before, UpTo, Tried, IsUnfitAt, IsSearchFault, steps_left}
use Rattle.cone_walls.specs.Workings.{FitsWallWorking}
use Rattle.plain_lister.proofs.Odometer.{first_is, have_pairs}
use Rattle.plain_lister.proofs.Plain.{own_points, counts_of}

-- choices are the cells of the problem
pub choice_from : (supports : List (List Point)) (cell : Cell) → EachPair supports cell (λ s a b. (1 ≤ a) × (a < b) × (b ≤ length s)) → IsChoice (map (λ (s : List Point). length s) supports) cell
choice_from [] [] e = tt
choice_from [] (x ∷ cell) e = e
choice_from (s ∷ supports) [] e = e
choice_from (s ∷ supports) (x ∷ cell) e = (e.0, choice_from supports cell e.1)

pub choice_to : (supports : List (List Point)) (cell : Cell) → IsChoice (map (λ (s : List Point). length s) supports) cell → EachPair supports cell (λ s a b. (1 ≤ a) × (a < b) × (b ≤ length s))
choice_to [] [] e = tt
choice_to [] (x ∷ cell) e = e
choice_to (s ∷ supports) [] e = e
choice_to (s ∷ supports) (x ∷ cell) e = (e.0, choice_to supports cell e.1)

choice_cell : (supports : List (List Point)) (cell : Cell) → EachPair supports cell (λ s a b. (1 ≤ a) × (a < b) × (b ≤ length s)) → IsCell cell × (length cell ≡ length supports)
choice_cell [] [] e = (tt, refl)
choice_cell [] (x ∷ cell) e = absurd e
choice_cell (s ∷ supports) [] e = absurd e
choice_cell (s ∷ supports) (x ∷ cell) e = let r = choice_cell supports cell e.1 in (((e.0.0, e.0.1), r.0), ap suc r.1)

pub valid_cell : (p : Problem) (cell : Cell) → IsValidProblem p → IsOf p cell → IsValidCell cell
valid_cell p cell valid of =
    let r = choice_cell p.supports cell of in
    let e = r.1 ∙ valid.shape.problem.supports in
    let d = valid.shape.dimension in
    (omega (arith, e, d.0), omega (arith, e, d.1), r.0)

sorted_more : (cells : List Cell) (cell : Cell) → IsSorted cells → ((other : Cell) → Has other cells → IsLess other cell) → IsSorted (cells ++ cell ∷ [])
sorted_more [] cell s h = tt
sorted_more (x ∷ []) cell s h = (h x (inl refl), tt)
sorted_more (x ∷ y ∷ cells) cell s h = (s.0, sorted_more (y ∷ cells) cell s.1 (λ other k. h other (inr k)))

has_more : (cells : List Cell) (cell other : Cell) → Has other (cells ++ cell ∷ []) → Has other cells ⊎ (other ≡ cell)
has_more [] cell other (inl e) = inr e
has_more [] cell other (inr h) = absurd h
has_more (x ∷ cells) cell other (inl e) = inl (inl e)
has_more (x ∷ cells) cell other (inr h) = elim (has_more cells cell other h) [ inl k ↦ inl (inr k) | inr e ↦ inr e ]

has_front : (cells : List Cell) (cell other : Cell) → Has other cells → Has other (cells ++ cell ∷ [])
has_front [] cell other h = absurd h
has_front (x ∷ cells) cell other (inl e) = inl e
has_front (x ∷ cells) cell other (inr h) = inr (has_front cells cell other h)

has_last : (cells : List Cell) (cell other : Cell) → other ≡ cell → Has other (cells ++ cell ∷ [])
has_last [] cell other e = inl e
has_last (x ∷ cells) cell other e = inr (has_last cells cell other e)

cells-more : (found : List FoundCell) (f : FoundCell) → cells_of (found ++ f ∷ []) ≡ cells_of found ++ (f.cell ∷ [])
cells-more [] f = refl
cells-more (x ∷ found) f = ap (λ l. x.cell ∷ l) (cells-more found f)

each_more : (P : FoundCell → Type 0) (found : List FoundCell) (f : FoundCell) → Each found P → P f → Each (found ++ f ∷ []) P
each_more P [] f e h = (h, tt)
each_more P (x ∷ found) f e h = (e.0, each_more P found f e.1 h)

module _ (p : Problem) where
  -- another way to say which choices were tried
  pub done_map : (D E : Cell → Type 0) (found : List FoundCell) → IsDone p D found → ((cell : Cell) → IsMixedCell p cell → IsOf p cell) → ((cell : Cell) → IsOf p cell → D cell ↔ E cell) → IsDone p E found
  done_map D E found d own same = record {
    list = (
      d.list.0,
      λ cell. (
        (λ h. let k = (d.list.1 cell).0 h in ((same cell (own cell k.1)).0 k.0, k.1)),
        (λ h. (d.list.1 cell).1 ((same cell (own cell h.1)).1 h.0, h.1)),
      ),
    );
    lowest = d.lowest;
    fit = λ cell of e. d.fit cell of ((same cell of).1 e);
  }

  pub done_none : (D : Cell → Type 0) → ((cell : Cell) → IsMixedCell p cell → IsOf p cell) → ((cell : Cell) → IsOf p cell → ¬ (D cell)) → IsDone p D []
  done_none D own none = record {
    list = (tt, λ cell. ((λ h. let none : List Cell = [] in absurd (contains_has none cell h)), (λ h. absurd (none cell (own cell h.1) h.0))));
    lowest = tt;
    fit = λ cell of e. absurd (none cell of e);
  }

  pub done_other : (cell : Cell) (found : List FoundCell) → IsDone p (Before cell) found → FitsWallWorking p cell → ¬ (IsMixedCell p cell) → IsDone p (UpTo cell) found
  done_other cell found d f n = record {
    list = (
      d.list.0,
      λ other. (
        (λ h. let k = (d.list.1 other).0 h in (inl k.0, k.1)),
        (λ h. elim h.0 [ inl k ↦ (d.list.1 other).1 (k, h.1) | inr e ↦ absurd (n (subst (IsMixedCell p) e h.1)) ]),
      ),
    );
    lowest = d.lowest;
    fit = λ other of e. elim e [ inl k ↦ d.fit other of k | inr i ↦ subst (FitsWallWorking p) (sym i) f ];
  }

  pub done_more : (cell : Cell) (found : List FoundCell) (f : FoundCell) → IsDone p (Before cell) found → FitsWallWorking p cell → IsMixedCell p cell → f.cell ≡ cell → HasLowestNormal p f
      → IsDone p (UpTo cell) (found ++ f ∷ [])
  done_more cell found f d w m is low =
      let e = cells-more found f ∙ ap (λ c. cells_of found ++ (c ∷ [])) is in
      record {
        list = subst (IsListOf (λ other. UpTo cell other × IsMixedCell p other)) (sym e) (
          sorted_more (cells_of found) cell d.list.0 (λ other h. ((d.list.1 other).0 (has_contains (cells_of found) other h)).0),
          λ other. (
            (λ h. elim (has_more (cells_of found) cell other (contains_has (cells_of found ++ cell ∷ []) other h)) [
              | inl k ↦ let r = (d.list.1 other).0 (has_contains (cells_of found) other k) in (inl r.0, r.1)
              | inr i ↦ (inr i, subst (IsMixedCell p) (sym i) m)
            ]),
            (λ h. has_contains (cells_of found ++ cell ∷ []) other (elim h.0 [
              | inl k ↦ has_front (cells_of found) cell other (contains_has (cells_of found) other ((d.list.1 other).1 (k, h.1)))
              | inr i ↦ has_last (cells_of found) cell other i
            ])),
          ),
        );
        lowest = each_more (HasLowestNormal p) found f d.lowest low;
        fit = λ other of g. elim g [ inl k ↦ d.fit other of k | inr i ↦ subst (FitsWallWorking p) (sym i) w ];
      }

pub mixed_of : (p : Problem) → IsValidProblem p → HasNoCorners p → (cell : Cell) → IsMixedCell p cell → IsOf p cell
mixed_of p valid alone cell m = (subst (λ q. IsAlive q cell time_zero) (own_points p valid alone) m).0

-- the next choice, and the end
pub done_next : (p : Problem) → IsValidProblem p → HasNoCorners p → (cell next : Cell) (found : List FoundCell) → IsNext (map (λ (s : List Point). length s) p.supports) cell next
    → IsDone p (UpTo cell) found → IsDone p (Before next) found
done_next p valid alone cell next found n d =
    done_map p (UpTo cell) (Before next) found d (mixed_of p valid alone) (λ other of. let h = n other (choice_from p.supports other of) in (h.1, h.0))

pub done_last : (p : Problem) → IsValidProblem p → HasNoCorners p → (cell : Cell) (found : List FoundCell) → IsLast (map (λ (s : List Point). length s) p.supports) cell
    → IsDone p (UpTo cell) found → IsDone p (λ other. Unit {0}) found
done_last p valid alone cell found l d =
    done_map p (UpTo cell) (λ other. Unit {0}) found d (mixed_of p valid alone) (λ other of. ((λ h. tt), (λ h. l other (choice_from p.supports other of))))

pub done_first : (p : Problem) → IsValidProblem p → HasNoCorners p → IsDone p (Before (firsts (map (λ (s : List Point). length s) p.supports))) []
done_first p valid alone =
    done_none p _ (mixed_of p valid alone) (λ other of. first_is (map (λ (s : List Point). length s) p.supports) other (choice_from p.supports other of))

-- what all choices tried say
pub all_tried : (p : Problem) (found : List FoundCell) → IsDone p (λ other. Unit {0}) found → IsListOf (IsMixedCell p) (cells_of found)
all_tried p found d = (d.list.0, λ cell. ((λ h. ((d.list.1 cell).0 h).1), (λ h. (d.list.1 cell).1 (tt, h))))

pub first_unfit : (p : Problem) (cell : Cell) (found : List FoundCell) → IsOf p cell → IsDone p (Before cell) found → ¬ (FitsWallWorking p cell) → IsFirstUnfit p cell
first_unfit p cell found of d n = (of, n, d.fit)

-- what was judged of a cell, of the same pairs
pub judged_none : (p : Problem) (cell pairs : Cell) → cell ≡ pairs → (judged : Option Normal) → judged ≡ None → FitsWallWorking p cell × IsJudged p cell judged → FitsWallWorking p pairs × ¬ (IsMixedCell p pairs)
judged_none p cell pairs same None is h = subst (λ c. FitsWallWorking p c × ¬ (IsMixedCell p c)) same h
judged_none p cell pairs same (Some n) is h = absurd (no (sym is))
  where
    no : None ≡ Some n → ⊥
    no e = subst (λ (o : Option Normal). MatchOption o (Unit {0}) (λ k. ⊥)) e tt

pub judged_some : (p : Problem) (cell pairs : Cell) → cell ≡ pairs → (judged : Option Normal) (normal : Normal) → judged ≡ Some normal → FitsWallWorking p cell × IsJudged p cell judged
    → FitsWallWorking p pairs × IsMixedCell p pairs × IsLowestNormal p cell normal.v normal.den
judged_some p cell pairs same judged normal is h =
    let k = subst (λ o. FitsWallWorking p cell × IsJudged p cell o) is h in
    (subst (FitsWallWorking p) same k.0, subst (IsMixedCell p) same k.1.0, k.1.1)

pub kept_cell : {A : Type 0} (p : Problem) (pairs : Cell) (found new : List FoundCell) (f : FoundCell) (r : Result A PlainFault) → IsDone p (Before pairs) found → FitsWallWorking p pairs → IsMixedCell p pairs → f.cell ≡ pairs
    → HasLowestNormal p f → MatchResult r (λ x. new ≡ found ++ f ∷ []) (λ fault. fault ≡ OutOfMemory) → MatchResult r (λ x. IsDone p (UpTo pairs) new) (IsUnfitAt p pairs)
kept_cell p pairs found new f (Ok x) d w m is low h = subst (IsDone p (UpTo pairs)) (sym h) (done_more p pairs found f d w m is low)
kept_cell p pairs found new f (Err e) d w m is low h = subst (IsUnfitAt p pairs) (sym h) tt

pub search_fault : (p : Problem) (pairs : Cell) (found : List FoundCell) (fault : PlainFault) → IsOf p pairs → IsDone p (Before pairs) found → IsUnfitAt p pairs fault → IsSearchFault p fault
search_fault p pairs found (TooMany choices) of d h = h
search_fault p pairs found (Overflow cell) of d h = subst (IsFirstUnfit p) (sym h.0) (first_unfit p pairs found of d h.1)
search_fault p pairs found OutOfMemory of d h = tt

firsts-more : (i : ℕ) (counts : List ℕ) → i < length counts → firsts (take (i + 1) counts) ≡ firsts (take i counts) ++ ((1, 2) ∷ [])
firsts-more i [] lt = absurd (omega arith)
firsts-more zero (m ∷ counts) lt = refl
firsts-more (suc i) (m ∷ counts) lt = let e : suc i + 1 ≡ suc (i + 1) = omega arith in rw e (ap (λ l. (1, 2) ∷ l) (firsts-more i counts (omega arith)))

pub more_firsts : (i : ℕ) (counts : List ℕ) (old new : Cell) → i < length counts → old ≡ firsts (take i counts) → new ≡ old ++ ((1, 2) ∷ []) → new ≡ firsts (take (i + 1) counts)
more_firsts i counts old new lt e f = f ∙ ap (λ l. l ++ ((1, 2) ∷ [])) e ∙ sym (firsts-more i counts lt)

-- the turn's answer
pub turn_on : (p : Problem) → IsValidProblem p → HasNoCorners p → (counts : List ℕ) → counts ≡ map (λ (s : List Point). length s) p.supports → (pairs next : Cell) (found : List FoundCell) → IsNext counts pairs next
    → IsDone p (UpTo pairs) found → IsDone p (Before next) found
turn_on p valid alone counts e pairs next found n d = done_next p valid alone pairs next found (subst (λ l. IsNext l pairs next) e n) d

pub turn_off : (p : Problem) → IsValidProblem p → HasNoCorners p → (counts : List ℕ) → counts ≡ map (λ (s : List Point). length s) p.supports → (pairs : Cell) (found : List FoundCell) → IsLast counts pairs
    → IsDone p (UpTo pairs) found → IsDone p (λ other. Unit {0}) found
turn_off p valid alone counts e pairs found l d = done_last p valid alone pairs found (subst (λ k. IsLast k pairs) e l) d

pub begun : (p : Problem) → IsValidProblem p → HasNoCorners p → (counts : List ℕ) → counts ≡ map (λ (s : List Point). length s) p.supports → (pairs : Cell) (found : List FoundCell) → pairs ≡ firsts counts → found ≡ []
    → IsDone p (Before pairs) found
begun p valid alone counts e pairs found f g = subst₂ (λ c l. IsDone p (Before c) l) (sym (f ∙ ap firsts e)) (sym g) (done_first p valid alone)

pub no_going : IsTrue false → ⊥
no_going h = search rules

pub going_on : (p : Problem) (going : Bool) (pairs now : Cell) (found : List FoundCell) → IsTrue going → now ≡ pairs → IsDone p (Tried going pairs) found → IsDone p (Before now) found
going_on p true pairs now found t e d = subst (λ c. IsDone p (Before c) found) (sym e) d
going_on p false pairs now found t e d = absurd (no_going t)

pub gone_through : (p : Problem) (going : Bool) (pairs : Cell) (found : List FoundCell) → ¬ (IsTrue going) → IsDone p (Tried going pairs) found → IsDone p (λ other. Unit {0}) found
gone_through p false pairs found n d = d
gone_through p true pairs found n d = absurd (n yes)
  where
    yes : IsTrue true
    yes = search rules

pub advanced : (p : Problem) → IsValidProblem p → HasNoCorners p → (counts : List ℕ) → counts ≡ map (λ (s : List Point). length s) p.supports → (going : Bool) (pairs next : Cell) (wheels : List Wheel) (found : List FoundCell)
    → (IsTrue going → Show counts wheels next) → (IsTrue going → IsNext counts pairs next × IsChoice counts next × left_after counts next < left_after counts pairs) → (¬ (IsTrue going) → IsLast counts pairs)
    → IsDone p (UpTo pairs) found
    → (IsTrue going → IsChoice counts next × Show counts wheels next) × IsDone p (Tried going next) found × (steps_left going counts next < left_after counts pairs + 1)
advanced p valid alone counts e true pairs next wheels found shown more last d =
    let t : IsTrue true = search rules in
    let n = more t in
    let less = n.2 in
    ((λ u. (n.1, shown u)), turn_on p valid alone counts e pairs next found n.0 d, omega (arith, less))
advanced p valid alone counts e false pairs next wheels found shown more last d =
    ((λ u. absurd (no_going u)), turn_off p valid alone counts e pairs found (last no_going) d, omega arith)

-- the answers of the whole
pub nothing_done : (p : Problem) → IsValidProblem p → HasNoCorners p → (counts : List ℕ) → counts ≡ map (λ (s : List Point). length s) p.supports → ¬ (HavePairs counts) → (found : List FoundCell) → found ≡ []
    → IsDone p (λ other. Unit {0}) found
nothing_done p valid alone counts e n found g =
    let D : Cell → Type 0 = λ other. ⊥ in
    let none : (cell : Cell) → IsOf p cell → ⊥ = λ cell of. n (subst HavePairs (sym e) (have_pairs (map (λ (s : List Point). length s) p.supports) cell (choice_from p.supports cell of))) in
    subst (IsDone p (λ other. Unit {0})) (sym g) (done_none p (λ other. Unit {0}) (mixed_of p valid alone) (λ cell of h. none cell of))

pub counted_fault : (p : Problem) (fault : PlainFault) → ¬ (HasTooMany p) → IsSearchFault p fault → IsPlainFault p fault
counted_fault p (TooMany choices) n h = absurd h
counted_fault p (Overflow cell) n h = (n, h)
counted_fault p OutOfMemory n h = tt

pub counted_answer : (p : Problem) (r : Result (Vec FoundCell Global) PlainFault) → ¬ (HasTooMany p) → MatchResult r (λ found. IsDone p (λ other. Unit {0}) found.items) (IsSearchFault p)
    → MatchResult r (λ found. ¬ (HasTooMany p) × IsDone p (λ other. Unit {0}) found.items) (IsPlainFault p)
counted_answer p (Ok found) n h = (n, h)
counted_answer p (Err fault) n h = counted_fault p fault n h

pub answer_listed : (p : Problem) (r : Result (Vec FoundCell Global) PlainFault) → MatchResult r (λ found. ¬ (HasTooMany p) × IsDone p (λ other. Unit {0}) found.items) (IsPlainFault p)
    → IfOk r (λ found. IsListOf (IsMixedCell p) (cells_of found.items))
answer_listed p (Ok found) h = all_tried p found.items h.1
answer_listed p (Err fault) h = tt

pub answer_lowest : (p : Problem) (r : Result (Vec FoundCell Global) PlainFault) → MatchResult r (λ found. ¬ (HasTooMany p) × IsDone p (λ other. Unit {0}) found.items) (IsPlainFault p)
    → IfOk r (λ found. Each found.items (HasLowestNormal p))
answer_lowest p (Ok found) h = h.1.lowest
answer_lowest p (Err fault) h = tt

pub answer_complete : (p : Problem) (r : Result (Vec FoundCell Global) PlainFault) → MatchResult r (λ found. ¬ (HasTooMany p) × IsDone p (λ other. Unit {0}) found.items) (IsPlainFault p)
    → IfOk r (λ found. ¬ (HasTooMany p) × AllFit p)
answer_complete p (Ok found) h = (h.0, λ cell of. h.1.fit cell of tt)
answer_complete p (Err fault) h = tt

pub answer_refused : (p : Problem) (r : Result (Vec FoundCell Global) PlainFault) → MatchResult r (λ found. ¬ (HasTooMany p) × IsDone p (λ other. Unit {0}) found.items) (IsPlainFault p)
    → IfErr r (IsPlainFault p)
answer_refused p (Ok found) h = tt
answer_refused p (Err fault) h = h

pub small_counts : (p : Problem) → IsValidProblem p → (counts : List ℕ) → counts ≡ map (λ (s : List Point). length s) p.supports → Each counts (λ n. n ≤ most_points)
small_counts p valid counts e = subst (λ l. Each l (λ n. n ≤ most_points)) (sym e) (all_small p.supports (counts_of p valid))
  where
    all_small : (supports : List (List Point)) → Each supports (λ s. length s ≤ most_points) → Each (map (λ (s : List Point). length s) supports) (λ n. n ≤ most_points)
    all_small [] h = tt
    all_small (s ∷ supports) h = (h.0, all_small supports h.1)
