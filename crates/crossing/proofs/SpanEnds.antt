-- the span of the lines, and its two ends
use Rattle.std.proofs.Common.{◌≡◌, inl, inr, ℕ, ◌<◌, List, [], ◌∷◌, length, Option, Some, None, ℤ, pos, neg_ℤ, ◌+ℤ◌, ◌-ℤ◌, ◌*ℤ◌, ◌<ℤ◌, sym, ap, subst, ◌∙◌, arith}
use Rattle.std.proofs.lemmas.Int.{ints}
use Rattle.std.proofs.lemmas.List.{get_or_default}
use Rattle.wide_int.proofs.Ring.{as_D, Ds, same_D}
use Rattle.wide_int.proofs.Order.{sign_cases, mul_pos_ℤ}
use Rattle.int_vectors.specs.Vectors.{add, at}
use Rattle.int_vectors.proofs.Entries.{at-add}
use Rattle.lex_height.specs.Entries.{entry, entries, at_rank}
use Rattle.lex_height.specs.Values as lex
use Rattle.lex_height.specs.Order.{IsLess}
use Rattle.lex_height.proofs.Ranks.{entries_is}
use Rattle.lex_height.proofs.Comparing.{less_less, less_same, same_back, not_below_itself, less_as}
use Rattle.crossing.specs.declared.line.WallLine.{WallLine}
use Rattle.crossing.specs.declared.leaders.Way.TheVariants.{Falling, Rising}
use Rattle.crossing.specs.declared.ends.End.{End}
use Rattle.crossing.specs.Places.{origin}
use Rattle.crossing.specs.Leading.{nth}
use Rattle.crossing.specs.Ends.{IsEnd, IsSunk, AreCrossed}
use Rattle.crossing.specs.Ties.{IsNotNegative, InSpan, IsLowerEnd, IsUpperEnd, NoLowerEnd, NoUpperEnd}
use Rattle.crossing.proofs.Lists.{earlier_less, less_earlier, either}
use Rattle.crossing.proofs.Values.{turned_less, less_turn}
use Rattle.crossing.proofs.OneWay.{sunk_out, level_in, leader, within, past}

-- the time of an end
abbrev pub moment : End → List ℤ
moment end = entries end.time.parts

abbrev pub over : End → ℤ
over end = end.time.den

-- not before the end, if it is there
abbrev pub NotBefore : Option End → List ℤ → ℤ → Type 0
NotBefore None t q = Unit {0}
NotBefore (Some e) t q = ¬ (IsLess (at t) q (at (moment e)) (over e))

-- not after the end, if it is there
abbrev pub NotAfter : Option End → List ℤ → ℤ → Type 0
NotAfter None t q = Unit {0}
NotAfter (Some e) t q = ¬ (IsLess (at (moment e)) (over e) (at t) q)

-- ---- values in lowest terms as times
pub below_less : (v w : lex.Value) → lex.IsLowest v → lex.IsLowest w → lex.IsBelow v w → IsLess (at (entries v.parts)) v.den (at (entries w.parts)) w.den
below_less v w lv lw l =
    less_as (entry v.parts) (at_rank (entries v.parts)) (entry w.parts) (at_rank (entries w.parts)) v.den w.den (λ k. sym (entries_is v.parts lv.0.1 k)) (λ k. sym (entries_is w.parts lw.0.1 k)) l

pub less_below : (v w : lex.Value) → lex.IsLowest v → lex.IsLowest w → IsLess (at (entries v.parts)) v.den (at (entries w.parts)) w.den → lex.IsBelow v w
less_below v w lv lw l =
    less_as (at_rank (entries v.parts)) (entry v.parts) (at_rank (entries w.parts)) (entry w.parts) v.den w.den (entries_is v.parts lv.0.1) (entries_is w.parts lw.0.1) l

-- ---- a time before and a time after
moved_first : (t : List ℤ) (d : ℤ) → at (add t (d ∷ [])) 0 ≡ at t 0 +ℤ d
moved_first t d = at-add t (d ∷ []) 0

-- a time before, and one after
abbrev pub sooner : List ℤ → ℤ → List ℤ
sooner t q = add t (neg_ℤ q ∷ [])

abbrev pub later : List ℤ → ℤ → List ℤ
later t q = add t (q ∷ [])

sooner_less : (t : List ℤ) (q : ℤ) → pos 0 <ℤ q → IsLess (at (sooner t q)) q (at t) q
sooner_less t q pq = (0, step (at (sooner t q) 0) (at t 0) q pq (moved_first t (neg_ℤ q)), λ k lt. absurd (omega (arith, lt)))
  where
    ring : (a q : ℤ) → (a +ℤ neg_ℤ q) *ℤ q ≡ a *ℤ q -ℤ q *ℤ q
    ring a q = rw (as_D a, as_D q) (simp Ds (same_D _ _ _ _ (omega arith)))

    step : (s a q : ℤ) → pos 0 <ℤ q → s ≡ a +ℤ neg_ℤ q → (s *ℤ q) <ℤ (a *ℤ q)
    step s a q pq e =
        let f : s *ℤ q ≡ a *ℤ q -ℤ q *ℤ q = ap (λ z. z *ℤ q) e ∙ ring a q in
        let p = mul_pos_ℤ q q pq pq in
        omega (arith, ints, f, p)

later_less : (t : List ℤ) (q : ℤ) → pos 0 <ℤ q → IsLess (at t) q (at (later t q)) q
later_less t q pq = (0, step (at (later t q) 0) (at t 0) q pq (moved_first t q), λ k lt. absurd (omega (arith, lt)))
  where
    ring : (a q : ℤ) → (a +ℤ q) *ℤ q ≡ a *ℤ q +ℤ q *ℤ q
    ring a q = rw (as_D a, as_D q) (simp Ds (same_D _ _ _ _ (omega arith)))

    step : (s a q : ℤ) → pos 0 <ℤ q → s ≡ a +ℤ q → (a *ℤ q) <ℤ (s *ℤ q)
    step s a q pq e =
        let f : s *ℤ q ≡ a *ℤ q +ℤ q *ℤ q = ap (λ z. z *ℤ q) e ∙ ring a q in
        let p = mul_pos_ℤ q q pq pq in
        omega (arith, ints, f, p)

-- ---- which times are of the span
module _ (lines : List WallLine) (lower upper : Option End) (rise : IsEnd Rising lines lower) (fall : IsEnd Falling lines upper) where
  rising_in : (e : Option End) → IsEnd Rising lines e → (t : List ℤ) (q : ℤ) → pos 0 <ℤ q → NotBefore e t q → (k : ℕ) → k < length lines → pos 0 <ℤ (nth lines k).beta → IsNotNegative t q (nth lines k)
  rising_in None h t q pq n k lt g = absurd (h k lt g)
  rising_in (Some e) h t q pq n k lt g =
      within Rising lines e.time h.0 e.first e.second h.1 h.2 t q pq (λ l. n (turned_less (at (moment e)) (over e) (at t) q l)) k lt g

  falling_in : (e : Option End) → IsEnd Falling lines e → (t : List ℤ) (q : ℤ) → pos 0 <ℤ q → NotAfter e t q → (k : ℕ) → k < length lines → (nth lines k).beta <ℤ pos 0 → IsNotNegative t q (nth lines k)
  falling_in None h t q pq n k lt f = absurd (h k lt (omega (arith, ints, f)))
  falling_in (Some e) h t q pq n k lt f = within Falling lines e.time h.0 e.first e.second h.1 h.2 t q pq n k lt (omega (arith, ints, f))

  not_before : (e : Option End) → IsEnd Rising lines e → (t : List ℤ) (q : ℤ) → pos 0 <ℤ q → InSpan lines t q → NotBefore e t q
  not_before None h t q pq s = tt
  not_before (Some e) h t q pq s =
      λ l. past Rising lines e.time h.0 e.first e.second h.1 h.2 t q pq (less_turn (at (moment e)) (over e) (at t) q l)
      (s e.first origin (leader Rising lines e.time h.0 e.first e.second h.1 h.2).0)

  not_after : (e : Option End) → IsEnd Falling lines e → (t : List ℤ) (q : ℤ) → pos 0 <ℤ q → InSpan lines t q → NotAfter e t q
  not_after None h t q pq s = tt
  not_after (Some e) h t q pq s =
      λ l. past Falling lines e.time h.0 e.first e.second h.1 h.2 t q pq l
      (s e.first origin (leader Falling lines e.time h.0 e.first e.second h.1 h.2).0)

  pub after_lower : (t : List ℤ) (q : ℤ) → pos 0 <ℤ q → InSpan lines t q → NotBefore lower t q
  after_lower = not_before lower rise

  pub before_upper : (t : List ℤ) (q : ℤ) → pos 0 <ℤ q → InSpan lines t q → NotAfter upper t q
  before_upper = not_after upper fall

  -- ---- no time at all
  pub sunk_empty : (k : ℕ) → k < length lines → IsSunk (nth lines k) → (t : List ℤ) (q : ℤ) → pos 0 <ℤ q → ¬ (InSpan lines t q)
  sunk_empty k lt h t q pq s = sunk_out (nth lines k) h.0 t q pq h (s k origin lt)

  pub crossed_empty : AreCrossed lower upper → (t : List ℤ) (q : ℤ) → pos 0 <ℤ q → ¬ (InSpan lines t q)
  crossed_empty c t q pq s = by_ends lower upper rise fall c (after_lower t q pq s) (before_upper t q pq s)
    where
      by_ends : (l u : Option End) → IsEnd Rising lines l → IsEnd Falling lines u → AreCrossed l u → NotBefore l t q → ¬ (NotAfter u t q)
      by_ends None u hl hu c nb na = c
      by_ends (Some l) None hl hu c nb na = c
      by_ends (Some l) (Some u) hl hu c nb na =
          let b = below_less u.time l.time hu.0 hl.0 c in
          elim (either t q (moment l) (over l)) [
            | inl k ↦ nb k
            | inr r ↦ elim r [
              | inl e ↦ na (less_same (at (moment u)) (over u) (at (moment l)) (over l) (at t) q hu.0.0.2 hl.0.0.2 pq b (same_back (at t) q (at (moment l)) (over l) e))
              | inr k ↦ na (less_less (at (moment u)) (over u) (at (moment l)) (over l) (at t) q hu.0.0.2 hl.0.0.2 pq b k)
            ]
          ]

  module _ (floating : (k : ℕ) → k < length lines → ¬ (IsSunk (nth lines k))) where
    pub in_span : (t : List ℤ) (q : ℤ) → pos 0 <ℤ q → NotBefore lower t q → NotAfter upper t q → InSpan lines t q
    in_span t q pq nb na k d lt =
        subst (IsNotNegative t q) (get_or_default lines k origin d lt)
        (sign_cases (nth lines k).beta
        (λ n. falling_in upper fall t q pq na k lt n)
        (λ z. level_in (nth lines k) z t q pq (floating k lt))
        (λ r. rising_in lower rise t q pq nb k lt r))

    pub no_lower : lower ≡ None → NoLowerEnd lines
    no_lower e t q pq k =
        k.1 (sooner t q) q pq (less_earlier (sooner t q) q t q (sooner_less t q pq))
        (in_span (sooner t q) q pq (subst (λ o. NotBefore o (sooner t q) q) (sym e) tt) (further upper fall (before_upper t q pq k.0)))
      where
        further : (u : Option End) → IsEnd Falling lines u → NotAfter u t q → NotAfter u (sooner t q) q
        further None h n = tt
        further (Some u) h n = λ l. n (less_less (at (moment u)) (over u) (at (sooner t q)) q (at t) q h.0.0.2 pq pq l (sooner_less t q pq))

    pub no_upper : upper ≡ None → NoUpperEnd lines
    no_upper e t q pq k =
        k.1 (later t q) q pq (less_earlier t q (later t q) q (later_less t q pq))
        (in_span (later t q) q pq (further lower rise (after_lower t q pq k.0)) (subst (λ o. NotAfter o (later t q) q) (sym e) tt))
      where
        further : (l : Option End) → IsEnd Rising lines l → NotBefore l t q → NotBefore l (later t q) q
        further None h n = tt
        further (Some l) h n = λ m. n (less_less (at t) q (at (later t q)) q (at (moment l)) (over l) pq pq h.0.0.2 (later_less t q pq) m)

    module _ (open_ : ¬ (AreCrossed lower upper)) where
      pub lower_end : (l : End) → lower ≡ Some l → IsLowerEnd lines (moment l) (over l)
      lower_end l e =
          let h = subst (IsEnd Rising lines) e rise in (
            in_span (moment l) (over l) h.0.0.2 (subst (λ o. NotBefore o (moment l) (over l)) (sym e) (not_below_itself (at (moment l)) (over l))) (by_upper upper fall (λ c. open_ (subst (λ o. AreCrossed o upper) (sym e) c))),
            λ t q pq b s.
                subst (λ o. NotBefore o t q) e (after_lower t q pq s) (earlier_less t q (moment l) (over l) b),
          )
        where
          by_upper : (u : Option End) → IsEnd Falling lines u → ¬ (AreCrossed (Some l) u) → NotAfter u (moment l) (over l)
          by_upper None hu n = tt
          by_upper (Some u) hu n = λ k. n (less_below u.time l.time hu.0 (subst (IsEnd Rising lines) e rise).0 k)

      pub upper_end : (u : End) → upper ≡ Some u → IsUpperEnd lines (moment u) (over u)
      upper_end u e =
          let h = subst (IsEnd Falling lines) e fall in (
            in_span (moment u) (over u) h.0.0.2 (by_lower lower rise (λ c. open_ (subst (λ o. AreCrossed lower o) (sym e) c))) (subst (λ o. NotAfter o (moment u) (over u)) (sym e) (not_below_itself (at (moment u)) (over u))),
            λ t q pq b s.
                subst (λ o. NotAfter o t q) e (before_upper t q pq s) (earlier_less (moment u) (over u) t q b),
          )
        where
          by_lower : (l : Option End) → IsEnd Rising lines l → ¬ (AreCrossed l (Some u)) → NotBefore l (moment u) (over u)
          by_lower None hl n = tt
          by_lower (Some l) hl n = λ k. n (less_below u.time l.time (subst (IsEnd Falling lines) e fall).0 hl.0 k)
