-- What follows from how a run ended.
use Rattle.std.proofs.Common.{◌≡◌, ◌∙◌, ℕ, ◌+◌, ◌≤◌, ◌++◌, Bool, true, IsTrue, false, not, nat_le, append-nil, List, length, take, Option, Some, None, codes, refl, sym, ap, subst, arith, inl, inr, ⊎_elim, length-append}
use Rattle.std.specs.Io.KnownBytes.{Appends, Consumes, IsAtEnd}
use Rattle.cayley.specs.Files.{File}
use Rattle.edge_io.specs.Faults.{Rose}
use Rattle.mixedcells.specs.Words.{HasMeaning, reads}
use Rattle.mixedcells.specs.Outcomes.{status_of}
use Rattle.mixedcells.specs.Logs.{IsTracedText}
use Rattle.mixedcells.specs.Walks.{IsReachedListing, IsReachedSum, IsWalkReply, IsTieReply}
use Rattle.mixedcells.specs.Answers.{IsReply, IsFileReply, IsListReply, IsAloneReply, IsCheckReply, IsPowersReply, IsMoveReply, IsLogReply, IsSystemReply}
use Rattle.mixedcells.specs.Runs.{IsAnswer, IsInput, IsCalledFor, IsFree, IsCutOff, Finishes}
use Rattle.mixedcells.specs.declared.words.Command.{Command}
use Rattle.mixedcells.specs.declared.words.Command.TheVariants as verb
use Rattle.mixedcells.specs.declared.outcome.Outcome.{Outcome}
use Rattle.mixedcells.specs.declared.outcome.Outcome.TheVariants.{TooLong, Usage, WriteFault}

by_test : {P : Type 0} (b : Bool) → b ≡ false → not b ≡ false → P
by_test true e f = cc
by_test false e f = cc

never : {P : Type 0} → IsTrue false → P
never h = cc

-- where more bytes than the limit were taken the input is too long
pub too_long : (command : Command) (left rest : Option (List ℕ)) (taken : List ℕ) → IsTrue (reads command) → Consumes left rest taken → length taken ≡ 16777217
    → (bytes : List ℕ) × IsInput left bytes × IsAnswer command bytes TooLong (codes "too long\n")
too_long command None rest taken r c e = (taken, tt, inl ((r, omega (arith, e)), refl, refl))
too_long command (Some xs) None taken r c e = absurd c
too_long command (Some xs) (Some ys) taken r c e =
    let l : length xs ≡ length taken + length ys = ap length c ∙ length-append taken ys in
    (xs, refl, inl ((r, omega (arith, l, e)), refl, refl))

-- where the whole input was taken a reply to it is an answer
whole_answer : (command : Command) (left rest : Option (List ℕ)) (taken : List ℕ) (o : Outcome) (t : List ℕ) → Consumes left rest taken → length taken ≤ 16777216 → IsAtEnd rest
    → IsReply command taken o t → (bytes : List ℕ) × IsInput left bytes × IsAnswer command bytes o t
whole_answer command None rest taken o t c l e r = (taken, tt, inr (λ x. l, r))
whole_answer command (Some xs) None taken o t c l e r = absurd c
whole_answer command (Some xs) (Some ys) taken o t c l e r = (taken, c ∙ ap (λ q. taken ++ q) e ∙ append-nil taken, inr (λ x. l, r))

-- what a command that reads nothing replies is the same on all bytes
blind : (command : Command) (xs ys : List ℕ) (o : Outcome) (t : List ℕ) → reads command ≡ false → IsReply command xs o t → IsReply command ys o t
blind verb.Plain xs ys o t e r = cc
blind (verb.List n) xs ys o t e r = ⊎_elim (λ h. by_test (nat_le 2 n) h.0 e) inr r
blind (verb.Sum n) xs ys o t e r = ⊎_elim (λ h. by_test (nat_le 2 n) h.0 e) inr r
blind verb.Check xs ys o t e r = cc
blind verb.Generic xs ys o t e r = cc
blind verb.Move xs ys o t e r = cc
blind verb.Trace xs ys o t e r = cc
blind verb.Verify xs ys o t e r = cc
blind verb.Powers xs ys o t e r = cc
blind (verb.Poly seed) xs ys o t e r = cc
blind (verb.Make family seed) xs ys o t e r = r

-- a reply to what was taken is an answer: all of the input, or what a command that doesn't read it takes
pub replied : (command : Command) (left rest : Option (List ℕ)) (taken : List ℕ) (o : Outcome) (t : List ℕ) → Consumes left rest taken → length taken ≤ 16777216
    → (IsTrue (reads command) → IsAtEnd rest) → IsReply command taken o t → (bytes : List ℕ) × IsInput left bytes × IsAnswer command bytes o t
replied command left rest taken o t c l end r = by_reading (reads command) refl
  where
    unread : (q : Option (List ℕ)) → reads command ≡ false → (bytes : List ℕ) × IsInput q bytes × IsAnswer command bytes o t
    unread None e = (taken, tt, inr (λ x. l, r))
    unread (Some xs) e = (xs, refl, inr (λ x. never (subst IsTrue e x), blind command taken xs o t e r))

    by_reading : (b : Bool) → reads command ≡ b → (bytes : List ℕ) × IsInput left bytes × IsAnswer command bytes o t
    by_reading true e = whole_answer command left rest taken o t c l (end (subst IsTrue (sym e) refl)) r
    by_reading false e = unread left e

-- where what is said of a file never is that the sink failed, no reply is
file_not_fault : (IsSaid : File → Outcome → List ℕ → Type 0) (bytes t : List ℕ) → ((file : File) → IsSaid file WriteFault t → ⊥) → IsFileReply IsSaid bytes WriteFault t → ⊥
file_not_fault IsSaid bytes t f (inl h) = f h.0 h.2
file_not_fault IsSaid bytes t f (inr h) = let e = ap status_of h.2.0 in omega (arith, e)

alone_not_fault : (n : ℕ) (W : File → List ℕ → Type 0) (bytes t : List ℕ) → IsAloneReply n W bytes WriteFault t → ⊥
alone_not_fault n W bytes t (inl h) = file_not_fault (IsWalkReply W) bytes t (λ file k. k) h.1
alone_not_fault n W bytes t (inr h) = let e = ap status_of h.1 in omega (arith, e)

check_not_fault : (bytes t : List ℕ) → IsCheckReply bytes WriteFault t → ⊥
check_not_fault bytes t (inl h) = h.2
check_not_fault bytes t (inr h) = let e = ap status_of h.2.0 in omega (arith, e)

powers_not_fault : (bytes t : List ℕ) → IsPowersReply bytes WriteFault t → ⊥
powers_not_fault bytes t (inl h) = h.2
powers_not_fault bytes t (inr h) = let e = ap status_of h.2.0 in omega (arith, e)

move_not_fault : (bytes t : List ℕ) → IsMoveReply bytes WriteFault t → ⊥
move_not_fault bytes t (inl h) = h.3
move_not_fault bytes t (inr h) = let e = ap status_of h.2.0 in omega (arith, e)

log_not_fault : (bytes t : List ℕ) → IsLogReply bytes WriteFault t → ⊥
log_not_fault bytes t (inl h) = h.2
log_not_fault bytes t (inr h) = let e = ap status_of h.2.0 in omega (arith, e)

system_not_fault : (seed : ℕ) (bytes t : List ℕ) → IsSystemReply seed bytes WriteFault t → ⊥
system_not_fault seed bytes t (inl h) = let e = ap status_of h.2 in omega (arith, e)
system_not_fault seed bytes t (inr h) = let e = ap status_of h.2.0 in omega (arith, e)

no_write_fault : (command : Command) (bytes t : List ℕ) → IsReply command bytes WriteFault t → ⊥
no_write_fault verb.Plain bytes t r = file_not_fault IsListReply bytes t (λ file k. k) r
no_write_fault (verb.List n) bytes t r = alone_not_fault n IsReachedListing bytes t r
no_write_fault (verb.Sum n) bytes t r = alone_not_fault n IsReachedSum bytes t r
no_write_fault verb.Check bytes t r = check_not_fault bytes t r
no_write_fault verb.Generic bytes t r = file_not_fault IsTieReply bytes t (λ file k. k) r
no_write_fault verb.Move bytes t r = move_not_fault bytes t r
no_write_fault verb.Trace bytes t r = file_not_fault (IsWalkReply IsTracedText) bytes t (λ file k. k) r
no_write_fault verb.Verify bytes t r = log_not_fault bytes t r
no_write_fault verb.Powers bytes t r = powers_not_fault bytes t r
no_write_fault (verb.Poly seed) bytes t r = system_not_fault seed bytes t r
no_write_fault (verb.Make family seed) bytes t r = let f = ap status_of r.0 in omega (arith, f)

-- no command replies that the sink failed
pub not_fault : (command : Command) (bytes : List ℕ) (o : Outcome) (t : List ℕ) → IsReply command bytes o t → o ≡ WriteFault → ⊥
not_fault command bytes o t r e = no_write_fault command bytes t (subst (λ q. IsReply command bytes q t) e r)

module _ (old new : Option (List ℕ)) (before now : ℕ) (text : List ℕ) (outcome result : Outcome) where
  pub finished : Finishes old new before now text outcome result → ¬ (IsFree result) → (result ≡ outcome) × Appends old new text
  finished ends other = ⊎_elim (λ h. h) (λ h. absurd (other (inr (inl h.0)))) ends

  pub cut : Finishes old new before now text outcome result → (status_of outcome ≡ 7 → ⊥) → result ≡ WriteFault
      → Rose before now × ((n : ℕ) × (n ≤ length text) × Appends old new (take n text))
  cut ends other fault = ⊎_elim (λ h. absurd (other (ap status_of (sym h.0 ∙ fault)))) (λ h. (h.1, h.2)) ends

  pub cut_reply : Finishes old new before now text outcome result → (outcome ≡ WriteFault → ⊥) → result ≡ WriteFault
      → Rose before now × ((n : ℕ) × (n ≤ length text) × Appends old new (take n text))
  cut_reply ends other fault = ⊎_elim (λ h. absurd (other (sym h.0 ∙ fault))) (λ h. (h.1, h.2)) ends

pub long_written : (command : Command) (left rest : Option (List ℕ)) (taken : List ℕ) (old new : Option (List ℕ)) (before now : ℕ) (result : Outcome)
    → IsTrue (reads command) → Consumes left rest taken → length taken ≡ 16777217 → Finishes old new before now (codes "too long\n") TooLong result → ¬ (IsFree result)
    → (bytes : List ℕ) × (text : List ℕ) × IsInput left bytes × IsAnswer command bytes result text × Appends old new text
long_written command left rest taken old new before now result r c e ends other =
    let f = finished old new before now (codes "too long\n") TooLong result ends other in
    let l = too_long command left rest taken r c e in
    (l.0, codes "too long\n", l.1, subst (λ o. IsAnswer command l.0 o (codes "too long\n")) (sym f.0) l.2, f.1)

pub long_cut : (command : Command) (left rest : Option (List ℕ)) (taken : List ℕ) (old new : Option (List ℕ)) (before now : ℕ) (result : Outcome)
    → IsTrue (reads command) → Consumes left rest taken → length taken ≡ 16777217 → Finishes old new before now (codes "too long\n") TooLong result → result ≡ WriteFault
    → (bytes : List ℕ) × IsInput left bytes × IsCutOff (IsAnswer command bytes) old new before now
long_cut command left rest taken old new before now result r c e ends fault =
    let f = cut old new before now (codes "too long\n") TooLong result ends (λ d. omega (arith, d)) fault in
    let l = too_long command left rest taken r c e in
    (l.0, l.1, (f.0, (TooLong, codes "too long\n", l.2, f.1)))

pub reply_written : (command : Command) (left rest : Option (List ℕ)) (taken : List ℕ) (old new : Option (List ℕ)) (before now : ℕ) (text : List ℕ) (outcome result : Outcome)
    → Consumes left rest taken → length taken ≤ 16777216 → (IsTrue (reads command) → IsAtEnd rest) → IsReply command taken outcome text → Finishes old new before now text outcome result → ¬ (IsFree result)
    → (bytes : List ℕ) × (t : List ℕ) × IsInput left bytes × IsAnswer command bytes result t × Appends old new t
reply_written command left rest taken old new before now text outcome result c l e r ends other =
    let f = finished old new before now text outcome result ends other in
    let a = replied command left rest taken outcome text c l e r in
    (a.0, text, a.1, subst (λ o. IsAnswer command a.0 o text) (sym f.0) a.2, f.1)

pub reply_cut : (command : Command) (left rest : Option (List ℕ)) (taken : List ℕ) (old new : Option (List ℕ)) (before now : ℕ) (text : List ℕ) (outcome result : Outcome)
    → Consumes left rest taken → length taken ≤ 16777216 → (IsTrue (reads command) → IsAtEnd rest) → IsReply command taken outcome text → Finishes old new before now text outcome result → result ≡ WriteFault
    → (bytes : List ℕ) × IsInput left bytes × IsCutOff (IsAnswer command bytes) old new before now
reply_cut command left rest taken old new before now text outcome result c l e r ends fault =
    let f = cut_reply old new before now text outcome result ends (not_fault command taken outcome text r) fault in
    let a = replied command left rest taken outcome text c l e r in
    (a.0, a.1, (f.0, (outcome, text, a.2, f.1)))

pub usage_cut : (words : List (List ℕ)) (left old new : Option (List ℕ)) (before now : ℕ) (result : Outcome) → ¬ (HasMeaning words)
    → Finishes old new before now (codes "usage\n") Usage result → result ≡ WriteFault → IsCutOff (IsCalledFor words left) old new before now
usage_cut words left old new before now result none ends fault =
    let f = cut old new before now (codes "usage\n") Usage result ends (λ d. omega (arith, d)) fault in
    (f.0, (Usage, codes "usage\n", inl (none, refl, refl), f.1))

pub usage_written : (words : List (List ℕ)) (left old new : Option (List ℕ)) (before now : ℕ) (result : Outcome) → ¬ (HasMeaning words)
    → Finishes old new before now (codes "usage\n") Usage result → ¬ (IsFree result) → (text : List ℕ) × IsCalledFor words left result text × Appends old new text
usage_written words left old new before now result none ends other =
    let f = finished old new before now (codes "usage\n") Usage result ends other in
    (codes "usage\n", inl (none, f.0, refl), f.1)

pub appends_as : (old new : Option (List ℕ)) (t u : List ℕ) → t ≡ u → Appends old new t → Appends old new u
appends_as old new t u e h = subst (λ x. Appends old new x) e h

pub reply_as : (command : Command) (xs ys : List ℕ) (o : Outcome) (t u : List ℕ) → xs ≡ ys → t ≡ u → IsReply command xs o t → IsReply command ys o u
reply_as command xs ys o t u e f r = subst (λ x. IsReply command ys o x) f (subst (λ b. IsReply command b o t) e r)
