-- Commands for more than one searcher, which one alone leaves untouched.
use Rattle.std.proofs.Common.{◌≡◌, ◌∙◌, ℕ, List, [], Option, Some, None, Bool, true, false, not, nat_le, IsTrue, arith, refl, sym, ap, subst, inl, inr, append-nil}
use Rattle.std.specs.Io.KnownBytes.{Appends}
use Rattle.cayley.specs.Files.{File}
use Rattle.mixedcells.specs.declared.words.Command.{Command}
use Rattle.mixedcells.specs.declared.words.Command.TheVariants as verb
use Rattle.mixedcells.specs.declared.outcome.Outcome.{Outcome}
use Rattle.mixedcells.specs.declared.outcome.Outcome.TheVariants as variant
use Rattle.mixedcells.specs.Words.{Means, HasMeaning, IsReading, IsForTeam, IsWalking, needs_team, reads}
use Rattle.mixedcells.specs.Outcomes.{status_of}
use Rattle.mixedcells.specs.Logs.{IsTracedText}
use Rattle.mixedcells.specs.Walks.{IsReachedListing, IsReachedSum, IsWalkReply, IsTieReply}
use Rattle.mixedcells.specs.Answers.{IsReply, IsFileReply, IsListReply, IsAloneReply, IsCheckReply, IsPowersReply, IsMoveReply, IsLogReply, IsSystemReply}
use Rattle.mixedcells.specs.Runs.{IsAnswer, IsCalledFor, Finishes}
use Rattle.mixedcells.proofs.CommandLine.Words.{one_meaning, team_of}

pub unlike : {P : Type 0} (b : Bool) → b ≡ false → IsTrue b → P
unlike true e f = cc
unlike false e f = cc

-- ---- the words ask for a team
team_reply : (command : Command) (bytes : List ℕ) → IsTrue (needs_team command) → IsReply command bytes variant.NeedsTeam []
team_reply verb.Plain bytes h = cc
team_reply (verb.List n) bytes h = inr (h, refl, refl)
team_reply (verb.Sum n) bytes h = inr (h, refl, refl)
team_reply verb.Check bytes h = cc
team_reply verb.Generic bytes h = cc
team_reply verb.Move bytes h = cc
team_reply verb.Trace bytes h = cc
team_reply verb.Verify bytes h = cc
team_reply verb.Powers bytes h = cc
team_reply (verb.Poly seed) bytes h = cc
team_reply (verb.Make family seed) bytes h = cc

pub team_unread : (command : Command) → IsTrue (needs_team command) → reads command ≡ false
team_unread verb.Plain h = cc
team_unread (verb.List n) h = ap not h
team_unread (verb.Sum n) h = ap not h
team_unread verb.Check h = cc
team_unread verb.Generic h = cc
team_unread verb.Move h = cc
team_unread verb.Trace h = cc
team_unread verb.Verify h = cc
team_unread verb.Powers h = cc
team_unread (verb.Poly seed) h = cc
team_unread (verb.Make family seed) h = cc

-- a team is called for
pub team_called : (words : List (List ℕ)) (left : Option (List ℕ)) (command : Command) → Means words command → IsTrue (needs_team command) → IsCalledFor words left variant.NeedsTeam []
team_called words None command means h = inr (command, [], means, tt, inr (λ r. unlike (reads command) (team_unread command h) r, team_reply command [] h))
team_called words (Some bytes) command means h = inr (command, bytes, means, refl, inr (λ r. unlike (reads command) (team_unread command h) r, team_reply command bytes h))

pub appends_none : (o : Option (List ℕ)) → Appends o o []
appends_none None = tt
appends_none (Some xs) = sym (append-nil xs)

-- the words ask for no other command
pub no_other : {P : Type 0} (words : List (List ℕ)) (c d : Command) → Means words c → IsTrue (needs_team c) → needs_team d ≡ false → Means words d → P
no_other words c d means h e other = unlike (needs_team d) e (subst (λ x. IsTrue (needs_team x)) (one_meaning words c d means other) h)

pub no_walk : {P : Type 0} (words : List (List ℕ)) (c : Command) → Means words c → IsTrue (needs_team c) → IsWalking words → P
no_walk words c means h (inl (n, e, inl other)) = no_other words c (verb.List n) means h e other
no_walk words c means h (inl (n, e, inr other)) = no_other words c (verb.Sum n) means h e other
no_walk words c means h (inr other) = no_other words c verb.Trace means h refl other

pub no_reading : {P : Type 0} (words : List (List ℕ)) (c : Command) → Means words c → IsTrue (needs_team c) → IsReading words → P
no_reading words c means h r =
    unlike (reads c) (team_unread c h) (subst (λ x. IsTrue (reads x)) (one_meaning words r.0 c r.1 means) r.2)

-- ---- they don't
pub no_team : {P : Type 0} (words : List (List ℕ)) (c : Command) → Means words c → needs_team c ≡ false → IsForTeam words → P
no_team words c means e t = unlike (needs_team c) e (team_of words c means t)

file_alone : {P : Type 0} (IsSaid : File → Outcome → List ℕ → Type 0) (bytes t : List ℕ) → ((file : File) → IsSaid file variant.NeedsTeam t → ⊥) → IsFileReply IsSaid bytes variant.NeedsTeam t → P
file_alone IsSaid bytes t f (inl h) = absurd (f h.0 h.2)
file_alone IsSaid bytes t f (inr h) = absurd (let e = ap status_of h.2.0 in omega (arith, e))

walk_team : (n : ℕ) (W : File → List ℕ → Type 0) (bytes t : List ℕ) → IsAloneReply n W bytes variant.NeedsTeam t → IsTrue (nat_le 2 n)
walk_team n W bytes t (inl h) = file_alone (IsWalkReply W) bytes t (λ file k. k) h.1
walk_team n W bytes t (inr h) = h.0

check_alone : {P : Type 0} (bytes t : List ℕ) → IsCheckReply bytes variant.NeedsTeam t → P
check_alone bytes t (inl h) = absurd h.2
check_alone bytes t (inr h) = absurd (let e = ap status_of h.2.0 in omega (arith, e))

powers_alone : {P : Type 0} (bytes t : List ℕ) → IsPowersReply bytes variant.NeedsTeam t → P
powers_alone bytes t (inl h) = absurd h.2
powers_alone bytes t (inr h) = absurd (let e = ap status_of h.2.0 in omega (arith, e))

move_alone : {P : Type 0} (bytes t : List ℕ) → IsMoveReply bytes variant.NeedsTeam t → P
move_alone bytes t (inl h) = absurd h.3
move_alone bytes t (inr h) = absurd (let e = ap status_of h.2.0 in omega (arith, e))

log_alone : {P : Type 0} (bytes t : List ℕ) → IsLogReply bytes variant.NeedsTeam t → P
log_alone bytes t (inl h) = absurd h.2
log_alone bytes t (inr h) = absurd (let e = ap status_of h.2.0 in omega (arith, e))

system_alone : {P : Type 0} (seed : ℕ) (bytes t : List ℕ) → IsSystemReply seed bytes variant.NeedsTeam t → P
system_alone seed bytes t (inl h) = absurd (let e = ap status_of h.2 in omega (arith, e))
system_alone seed bytes t (inr h) = absurd (let e = ap status_of h.2.0 in omega (arith, e))

replies_team : (command : Command) (bytes t : List ℕ) → IsReply command bytes variant.NeedsTeam t → IsTrue (needs_team command)
replies_team verb.Plain bytes t r = file_alone IsListReply bytes t (λ file k. k) r
replies_team (verb.List n) bytes t r = walk_team n IsReachedListing bytes t r
replies_team (verb.Sum n) bytes t r = walk_team n IsReachedSum bytes t r
replies_team verb.Check bytes t r = check_alone bytes t r
replies_team verb.Generic bytes t r = file_alone IsTieReply bytes t (λ file k. k) r
replies_team verb.Move bytes t r = move_alone bytes t r
replies_team verb.Trace bytes t r = file_alone (IsWalkReply IsTracedText) bytes t (λ file k. k) r
replies_team verb.Verify bytes t r = log_alone bytes t r
replies_team verb.Powers bytes t r = powers_alone bytes t r
replies_team (verb.Poly seed) bytes t r = system_alone seed bytes t r
replies_team (verb.Make family seed) bytes t r = absurd (let e = ap status_of r.0 in omega (arith, e))

answers_team : (command : Command) (bytes t : List ℕ) → IsAnswer command bytes variant.NeedsTeam t → IsTrue (needs_team command)
answers_team command bytes t (inl h) = absurd (let e = ap status_of h.1 in omega (arith, e))
answers_team command bytes t (inr h) = replies_team command bytes t h.1

called_team : (words : List (List ℕ)) (left : Option (List ℕ)) (t : List ℕ) → IsCalledFor words left variant.NeedsTeam t → IsForTeam words
called_team words left t (inl h) = absurd (let e = ap status_of h.1 in omega (arith, e))
called_team words left t (inr h) = (h.0, h.2, answers_team h.0 h.1 t h.4)

-- a team that was called for was asked for
pub asked_for : (words : List (List ℕ)) (left : Option (List ℕ)) (o : Outcome) (t : List ℕ) → o ≡ variant.NeedsTeam → IsCalledFor words left o t → IsForTeam words
asked_for words left o t e h = called_team words left t (subst (λ q. IsCalledFor words left q t) e h)

-- usage is no team
pub usage_alone : {P : Type 0} (old new : Option (List ℕ)) (before now : ℕ) (text : List ℕ) (result : Outcome) → Finishes old new before now text variant.Usage result → result ≡ variant.NeedsTeam → P
usage_alone old new before now text result (inl h) e = absurd (let f = ap status_of (sym h.0 ∙ e) in omega (arith, f))
usage_alone old new before now text result (inr h) e = absurd (let f = ap status_of (sym h.0 ∙ e) in omega (arith, f))

pub meant_team : {P : Type 0} (words : List (List ℕ)) → ¬ (HasMeaning words) → IsForTeam words → P
meant_team words none t = absurd (none (t.0, t.1))

pub walking_meant : (words : List (List ℕ)) → IsWalking words → HasMeaning words
walking_meant words (inl (n, e, inl means)) = (verb.List n, means)
walking_meant words (inl (n, e, inr means)) = (verb.Sum n, means)
walking_meant words (inr means) = (verb.Trace, means)
