-- The right shapes of `make`, each with what `clap` reads.
use Rattle.std.proofs.Common.{◌≡◌, ℕ, List, [], ◌∷◌, ◌++◌, ◌==◌, ◌&&◌, codes, Bool, true, false, refl, Some, None, ap, ◌∙◌, sym, subst, fold, is_some}
use Rattle.std.specs.List.{list_all}
use Rattle.clap.specs.Walk.{Text, Walk, walked, walk, walk_from, nothing_held, idle, option, settled_rows, used, finished}
use Rattle.clap.specs.Simple.{built, names_of, is_simple, entered, subcommand_of}
use Rattle.clap.specs.Takes.{takes, turn_passes, walk_passes, level_passes, settle_passes, default_passes, is_valid, entered_passes}
use Rattle.support_text.proofs.Numbers.{both_are}
use Rattle.mixedcells.specs.CommandLine.{top}
use Rattle.mixedcells.specs.Reading.{Read, read, read_make}
use Rattle.mixedcells.proofs.CommandLine.Steps.{leaf, at, seed_rule, above2, above3, above4, above5, above6, cyclic_after_seed, cyclic_after_seed_passes, cyclic_first, cyclic_first_passes, joined_after_family, joined_after_family_passes, joined_after_m, joined_after_m_passes, joined_after_n, joined_after_n_passes, joined_after_none, joined_after_none_passes, joined_after_side, joined_after_side_passes, m_after_joined, m_after_joined_passes, m_after_seed, m_after_seed_passes, m_word, m_word_passes, n_after_joined, n_after_joined_passes, n_after_seed, n_after_seed_passes, n_word, n_word_passes, scatter_after_seed, scatter_after_seed_passes, scatter_first, scatter_first_passes, seed_after_family, seed_after_family_passes, seed_after_m, seed_after_m_passes, seed_after_n, seed_after_n_passes, seed_after_none, seed_after_none_passes, seed_after_side, seed_after_side_passes, seed_value, seed_value_passes, side_after_joined, side_after_joined_passes, side_after_seed, side_after_seed_passes, side_word, side_word_passes, stops2, stops3, stops4, stops5, stops6}

abbrev pub IsRun : Walk → List Text → Walk → Type 0
IsRun W ws V = (walk_passes leaf [] W ws ≡ true) × (fold (walked leaf.rules []) W ws ≡ V)

run_end : (W : Walk) → IsRun W [] W
unfolding walk_passes
run_end W = (refl, refl)

run_step : (W U V : Walk) (w : Text) (ws : List Text) → turn_passes leaf [] W w ≡ true → walked leaf.rules [] W w ≡ U → IsRun U ws V → IsRun W (w ∷ ws) V
unfolding walk_passes
run_step W U V w ws p e r = (
  both_are (turn_passes leaf [] W w) (walk_passes leaf [] (walked leaf.rules [] W w) ws) p (subst (λ x. walk_passes leaf [] x ws ≡ true) (sym e) r.0),
  subst (λ x. fold (walked leaf.rules []) x ws ≡ V) (sym e) r.1,
)

abbrev ends_well : Walk → Bool
ends_well V = settle_passes leaf.rules leaf.args_override_self V.held && (list_all default_passes leaf.rules && is_valid leaf (finished leaf.rules V.held) false)

abbrev pub IsMakeRead : List Text → Read → Type 0
IsMakeRead ws r = (takes top (codes "make" ∷ ws) ≡ true) × (read (subcommand_of top (codes "make" ∷ ws)) ≡ Some r)

simple : is_simple top ≡ true
simple = refl

enters : (ws : List Text) → entered_passes (built top) (Some (codes "make", ws)) ≡ level_passes leaf [] nothing_held ws false
enters ws = refl

below : (ws : List Text) (V : Walk) → IsRun (walk_from nothing_held) ws V → ends_well V ≡ true → level_passes leaf [] nothing_held ws false ≡ true
below ws V r e = both_are (walk_passes leaf [] (walk_from nothing_held) ws) (ends_well (walk leaf.rules [] nothing_held ws)) r.0 (subst (λ x. ends_well x ≡ true) (sym r.1) e)

from_run : (ws : List Text) (V : Walk) (r : Read) → (walk (built top).top.rules (names_of (built top)) nothing_held (codes "make" ∷ ws)).stopped ≡ Some (codes "make", ws)
    → level_passes (built top).top (names_of (built top)) nothing_held (codes "make" ∷ ws) true ≡ true
    → IsRun (walk_from nothing_held) ws V → ends_well V ≡ true → read (Some (codes "make", finished leaf.rules V.held)) ≡ Some r → IsMakeRead ws r
from_run ws V r st top_passes run e found = (
  both_are (is_simple top) _ simple (both_are _ _ (ap (entered_passes (built top)) st ∙ enters ws ∙ below ws V run e)
      (subst (λ o. level_passes (built top).top (names_of (built top)) nothing_held (codes "make" ∷ ws) (is_some (entered (built top) o)) ≡ true) (sym st) top_passes)),
  ap (λ o. read (entered (built top) o)) st ∙ ap (λ (W : Walk). read (Some (codes "make", finished leaf.rules W.held))) run.1 ∙ found,
)

pub cyclic_no : (n : ℕ) (ns : Text) → (n == 45) ≡ false → IsMakeRead ((codes "cyclic") ∷ (n ∷ ns) ∷ []) (read_make (Some (codes "cyclic")) (Some (n ∷ ns)) None None None)
cyclic_no n ns hn = from_run ((codes "cyclic") ∷ (n ∷ ns) ∷ []) (at (settled_rows leaf.rules (Some (codes "family", (codes "cyclic") ∷ [])) (settled_rows leaf.rules None [])) (Some (codes "n", (n ∷ ns) ∷ [])) idle 3) (read_make (Some (codes "cyclic")) (Some (n ∷ ns)) None None None) (stops2 (codes "cyclic") (n ∷ ns)) (above2 (codes "cyclic") (n ∷ ns))
    (run_step (at [] None idle 1) (at (settled_rows leaf.rules None []) (Some (codes "family", (codes "cyclic") ∷ [])) idle 2) (at (settled_rows leaf.rules (Some (codes "family", (codes "cyclic") ∷ [])) (settled_rows leaf.rules None [])) (Some (codes "n", (n ∷ ns) ∷ [])) idle 3) (codes "cyclic") ((n ∷ ns) ∷ []) (cyclic_first_passes [] refl)
    (cyclic_first []) (run_step (at (settled_rows leaf.rules None []) (Some (codes "family", (codes "cyclic") ∷ [])) idle 2) (at (settled_rows leaf.rules (Some (codes "family", (codes "cyclic") ∷ [])) (settled_rows leaf.rules None [])) (Some (codes "n", (n ∷ ns) ∷ [])) idle 3) (at (settled_rows leaf.rules (Some (codes "family", (codes "cyclic") ∷ [])) (settled_rows leaf.rules None [])) (Some (codes "n", (n ∷ ns) ∷ [])) idle 3) (n ∷ ns) ([]) (n_word_passes (settled_rows leaf.rules None []) ((codes "cyclic") ∷ []) n ns hn refl)
    (n_word (settled_rows leaf.rules None []) ((codes "cyclic") ∷ []) n ns hn) (run_end (at (settled_rows leaf.rules (Some (codes "family", (codes "cyclic") ∷ [])) (settled_rows leaf.rules None [])) (Some (codes "n", (n ∷ ns) ∷ [])) idle 3)))) refl refl

pub cyclic_joined0 : (n : ℕ) (ns : Text) (v : Text) → (n == 45) ≡ false → IsMakeRead ((codes "--seed=" ++ v) ∷ (codes "cyclic") ∷ (n ∷ ns) ∷ []) (read_make (Some (codes "cyclic")) (Some (n ∷ ns)) None None (Some v))
cyclic_joined0 n ns v hn = from_run ((codes "--seed=" ++ v) ∷ (codes "cyclic") ∷ (n ∷ ns) ∷ []) (at (settled_rows leaf.rules (Some (codes "family", (codes "cyclic") ∷ [])) (settled_rows leaf.rules None (used seed_rule (v ∷ []) (settled_rows leaf.rules None [])))) (Some (codes "n", (n ∷ ns) ∷ [])) idle 3) (read_make (Some (codes "cyclic")) (Some (n ∷ ns)) None None (Some v)) (stops3 (codes "--seed=" ++ v) (codes "cyclic") (n ∷ ns)) (above3 (codes "--seed=" ++ v) (codes "cyclic") (n ∷ ns))
    (run_step (at [] None idle 1) (at (used seed_rule (v ∷ []) (settled_rows leaf.rules None [])) None idle 1) (at (settled_rows leaf.rules (Some (codes "family", (codes "cyclic") ∷ [])) (settled_rows leaf.rules None (used seed_rule (v ∷ []) (settled_rows leaf.rules None [])))) (Some (codes "n", (n ∷ ns) ∷ [])) idle 3) (codes "--seed=" ++ v) ((codes "cyclic") ∷ (n ∷ ns) ∷ []) (joined_after_none_passes [] 1 v refl refl)
    (joined_after_none [] 1 v) (run_step (at (used seed_rule (v ∷ []) (settled_rows leaf.rules None [])) None idle 1) (at (settled_rows leaf.rules None (used seed_rule (v ∷ []) (settled_rows leaf.rules None []))) (Some (codes "family", (codes "cyclic") ∷ [])) idle 2) (at (settled_rows leaf.rules (Some (codes "family", (codes "cyclic") ∷ [])) (settled_rows leaf.rules None (used seed_rule (v ∷ []) (settled_rows leaf.rules None [])))) (Some (codes "n", (n ∷ ns) ∷ [])) idle 3) (codes "cyclic") ((n ∷ ns) ∷ []) (cyclic_first_passes (used seed_rule (v ∷ []) (settled_rows leaf.rules None [])) refl)
    (cyclic_first (used seed_rule (v ∷ []) (settled_rows leaf.rules None []))) (run_step (at (settled_rows leaf.rules None (used seed_rule (v ∷ []) (settled_rows leaf.rules None []))) (Some (codes "family", (codes "cyclic") ∷ [])) idle 2) (at (settled_rows leaf.rules (Some (codes "family", (codes "cyclic") ∷ [])) (settled_rows leaf.rules None (used seed_rule (v ∷ []) (settled_rows leaf.rules None [])))) (Some (codes "n", (n ∷ ns) ∷ [])) idle 3) (at (settled_rows leaf.rules (Some (codes "family", (codes "cyclic") ∷ [])) (settled_rows leaf.rules None (used seed_rule (v ∷ []) (settled_rows leaf.rules None [])))) (Some (codes "n", (n ∷ ns) ∷ [])) idle 3) (n ∷ ns) ([]) (n_word_passes (settled_rows leaf.rules None (used seed_rule (v ∷ []) (settled_rows leaf.rules None []))) ((codes "cyclic") ∷ []) n ns hn refl)
    (n_word (settled_rows leaf.rules None (used seed_rule (v ∷ []) (settled_rows leaf.rules None []))) ((codes "cyclic") ∷ []) n ns hn) (run_end (at (settled_rows leaf.rules (Some (codes "family", (codes "cyclic") ∷ [])) (settled_rows leaf.rules None (used seed_rule (v ∷ []) (settled_rows leaf.rules None [])))) (Some (codes "n", (n ∷ ns) ∷ [])) idle 3))))) refl refl

pub cyclic_two0 : (n : ℕ) (ns : Text) (x : ℕ) (xs : Text) → (n == 45) ≡ false → (x == 45) ≡ false → IsMakeRead ((codes "--seed") ∷ (x ∷ xs) ∷ (codes "cyclic") ∷ (n ∷ ns) ∷ []) (read_make (Some (codes "cyclic")) (Some (n ∷ ns)) None None (Some (x ∷ xs)))
cyclic_two0 n ns x xs hn hx = from_run ((codes "--seed") ∷ (x ∷ xs) ∷ (codes "cyclic") ∷ (n ∷ ns) ∷ []) (at (settled_rows leaf.rules (Some (codes "family", (codes "cyclic") ∷ [])) (settled_rows leaf.rules (Some (codes "seed", (x ∷ xs) ∷ [])) (settled_rows leaf.rules None []))) (Some (codes "n", (n ∷ ns) ∷ [])) idle 3) (read_make (Some (codes "cyclic")) (Some (n ∷ ns)) None None (Some (x ∷ xs))) (stops4 (codes "--seed") (x ∷ xs) (codes "cyclic") (n ∷ ns)) (above4 (codes "--seed") (x ∷ xs) (codes "cyclic") (n ∷ ns))
    (run_step (at [] None idle 1) (at (settled_rows leaf.rules None []) (Some (codes "seed", [])) (option (codes "seed")) 1) (at (settled_rows leaf.rules (Some (codes "family", (codes "cyclic") ∷ [])) (settled_rows leaf.rules (Some (codes "seed", (x ∷ xs) ∷ [])) (settled_rows leaf.rules None []))) (Some (codes "n", (n ∷ ns) ∷ [])) idle 3) (codes "--seed") ((x ∷ xs) ∷ (codes "cyclic") ∷ (n ∷ ns) ∷ []) (seed_after_none_passes [] 1 refl)
    (seed_after_none [] 1) (run_step (at (settled_rows leaf.rules None []) (Some (codes "seed", [])) (option (codes "seed")) 1) (at (settled_rows leaf.rules None []) (Some (codes "seed", (x ∷ xs) ∷ [])) idle 1) (at (settled_rows leaf.rules (Some (codes "family", (codes "cyclic") ∷ [])) (settled_rows leaf.rules (Some (codes "seed", (x ∷ xs) ∷ [])) (settled_rows leaf.rules None []))) (Some (codes "n", (n ∷ ns) ∷ [])) idle 3) (x ∷ xs) ((codes "cyclic") ∷ (n ∷ ns) ∷ []) (seed_value_passes (settled_rows leaf.rules None []) 1 x xs hx)
    (seed_value (settled_rows leaf.rules None []) 1 x xs hx) (run_step (at (settled_rows leaf.rules None []) (Some (codes "seed", (x ∷ xs) ∷ [])) idle 1) (at (settled_rows leaf.rules (Some (codes "seed", (x ∷ xs) ∷ [])) (settled_rows leaf.rules None [])) (Some (codes "family", (codes "cyclic") ∷ [])) idle 2) (at (settled_rows leaf.rules (Some (codes "family", (codes "cyclic") ∷ [])) (settled_rows leaf.rules (Some (codes "seed", (x ∷ xs) ∷ [])) (settled_rows leaf.rules None []))) (Some (codes "n", (n ∷ ns) ∷ [])) idle 3) (codes "cyclic") ((n ∷ ns) ∷ []) (cyclic_after_seed_passes (settled_rows leaf.rules None []) ((x ∷ xs) ∷ []) refl)
    (cyclic_after_seed (settled_rows leaf.rules None []) ((x ∷ xs) ∷ [])) (run_step (at (settled_rows leaf.rules (Some (codes "seed", (x ∷ xs) ∷ [])) (settled_rows leaf.rules None [])) (Some (codes "family", (codes "cyclic") ∷ [])) idle 2) (at (settled_rows leaf.rules (Some (codes "family", (codes "cyclic") ∷ [])) (settled_rows leaf.rules (Some (codes "seed", (x ∷ xs) ∷ [])) (settled_rows leaf.rules None []))) (Some (codes "n", (n ∷ ns) ∷ [])) idle 3) (at (settled_rows leaf.rules (Some (codes "family", (codes "cyclic") ∷ [])) (settled_rows leaf.rules (Some (codes "seed", (x ∷ xs) ∷ [])) (settled_rows leaf.rules None []))) (Some (codes "n", (n ∷ ns) ∷ [])) idle 3) (n ∷ ns) ([]) (n_word_passes (settled_rows leaf.rules (Some (codes "seed", (x ∷ xs) ∷ [])) (settled_rows leaf.rules None [])) ((codes "cyclic") ∷ []) n ns hn refl)
    (n_word (settled_rows leaf.rules (Some (codes "seed", (x ∷ xs) ∷ [])) (settled_rows leaf.rules None [])) ((codes "cyclic") ∷ []) n ns hn) (run_end (at (settled_rows leaf.rules (Some (codes "family", (codes "cyclic") ∷ [])) (settled_rows leaf.rules (Some (codes "seed", (x ∷ xs) ∷ [])) (settled_rows leaf.rules None []))) (Some (codes "n", (n ∷ ns) ∷ [])) idle 3)))))) refl refl

pub cyclic_joined1 : (n : ℕ) (ns : Text) (v : Text) → (n == 45) ≡ false → IsMakeRead ((codes "cyclic") ∷ (codes "--seed=" ++ v) ∷ (n ∷ ns) ∷ []) (read_make (Some (codes "cyclic")) (Some (n ∷ ns)) None None (Some v))
cyclic_joined1 n ns v hn = from_run ((codes "cyclic") ∷ (codes "--seed=" ++ v) ∷ (n ∷ ns) ∷ []) (at (settled_rows leaf.rules None (used seed_rule (v ∷ []) (settled_rows leaf.rules (Some (codes "family", (codes "cyclic") ∷ [])) (settled_rows leaf.rules None [])))) (Some (codes "n", (n ∷ ns) ∷ [])) idle 3) (read_make (Some (codes "cyclic")) (Some (n ∷ ns)) None None (Some v)) (stops3 (codes "cyclic") (codes "--seed=" ++ v) (n ∷ ns)) (above3 (codes "cyclic") (codes "--seed=" ++ v) (n ∷ ns))
    (run_step (at [] None idle 1) (at (settled_rows leaf.rules None []) (Some (codes "family", (codes "cyclic") ∷ [])) idle 2) (at (settled_rows leaf.rules None (used seed_rule (v ∷ []) (settled_rows leaf.rules (Some (codes "family", (codes "cyclic") ∷ [])) (settled_rows leaf.rules None [])))) (Some (codes "n", (n ∷ ns) ∷ [])) idle 3) (codes "cyclic") ((codes "--seed=" ++ v) ∷ (n ∷ ns) ∷ []) (cyclic_first_passes [] refl)
    (cyclic_first []) (run_step (at (settled_rows leaf.rules None []) (Some (codes "family", (codes "cyclic") ∷ [])) idle 2) (at (used seed_rule (v ∷ []) (settled_rows leaf.rules (Some (codes "family", (codes "cyclic") ∷ [])) (settled_rows leaf.rules None []))) None idle 2) (at (settled_rows leaf.rules None (used seed_rule (v ∷ []) (settled_rows leaf.rules (Some (codes "family", (codes "cyclic") ∷ [])) (settled_rows leaf.rules None [])))) (Some (codes "n", (n ∷ ns) ∷ [])) idle 3) (codes "--seed=" ++ v) ((n ∷ ns) ∷ []) (joined_after_family_passes (settled_rows leaf.rules None []) ((codes "cyclic") ∷ []) 2 v refl refl)
    (joined_after_family (settled_rows leaf.rules None []) ((codes "cyclic") ∷ []) 2 v) (run_step (at (used seed_rule (v ∷ []) (settled_rows leaf.rules (Some (codes "family", (codes "cyclic") ∷ [])) (settled_rows leaf.rules None []))) None idle 2) (at (settled_rows leaf.rules None (used seed_rule (v ∷ []) (settled_rows leaf.rules (Some (codes "family", (codes "cyclic") ∷ [])) (settled_rows leaf.rules None [])))) (Some (codes "n", (n ∷ ns) ∷ [])) idle 3) (at (settled_rows leaf.rules None (used seed_rule (v ∷ []) (settled_rows leaf.rules (Some (codes "family", (codes "cyclic") ∷ [])) (settled_rows leaf.rules None [])))) (Some (codes "n", (n ∷ ns) ∷ [])) idle 3) (n ∷ ns) ([]) (n_after_joined_passes (used seed_rule (v ∷ []) (settled_rows leaf.rules (Some (codes "family", (codes "cyclic") ∷ [])) (settled_rows leaf.rules None []))) n ns hn refl)
    (n_after_joined (used seed_rule (v ∷ []) (settled_rows leaf.rules (Some (codes "family", (codes "cyclic") ∷ [])) (settled_rows leaf.rules None []))) n ns hn) (run_end (at (settled_rows leaf.rules None (used seed_rule (v ∷ []) (settled_rows leaf.rules (Some (codes "family", (codes "cyclic") ∷ [])) (settled_rows leaf.rules None [])))) (Some (codes "n", (n ∷ ns) ∷ [])) idle 3))))) refl refl

pub cyclic_two1 : (n : ℕ) (ns : Text) (x : ℕ) (xs : Text) → (n == 45) ≡ false → (x == 45) ≡ false → IsMakeRead ((codes "cyclic") ∷ (codes "--seed") ∷ (x ∷ xs) ∷ (n ∷ ns) ∷ []) (read_make (Some (codes "cyclic")) (Some (n ∷ ns)) None None (Some (x ∷ xs)))
cyclic_two1 n ns x xs hn hx = from_run ((codes "cyclic") ∷ (codes "--seed") ∷ (x ∷ xs) ∷ (n ∷ ns) ∷ []) (at (settled_rows leaf.rules (Some (codes "seed", (x ∷ xs) ∷ [])) (settled_rows leaf.rules (Some (codes "family", (codes "cyclic") ∷ [])) (settled_rows leaf.rules None []))) (Some (codes "n", (n ∷ ns) ∷ [])) idle 3) (read_make (Some (codes "cyclic")) (Some (n ∷ ns)) None None (Some (x ∷ xs))) (stops4 (codes "cyclic") (codes "--seed") (x ∷ xs) (n ∷ ns)) (above4 (codes "cyclic") (codes "--seed") (x ∷ xs) (n ∷ ns))
    (run_step (at [] None idle 1) (at (settled_rows leaf.rules None []) (Some (codes "family", (codes "cyclic") ∷ [])) idle 2) (at (settled_rows leaf.rules (Some (codes "seed", (x ∷ xs) ∷ [])) (settled_rows leaf.rules (Some (codes "family", (codes "cyclic") ∷ [])) (settled_rows leaf.rules None []))) (Some (codes "n", (n ∷ ns) ∷ [])) idle 3) (codes "cyclic") ((codes "--seed") ∷ (x ∷ xs) ∷ (n ∷ ns) ∷ []) (cyclic_first_passes [] refl)
    (cyclic_first []) (run_step (at (settled_rows leaf.rules None []) (Some (codes "family", (codes "cyclic") ∷ [])) idle 2) (at (settled_rows leaf.rules (Some (codes "family", (codes "cyclic") ∷ [])) (settled_rows leaf.rules None [])) (Some (codes "seed", [])) (option (codes "seed")) 2) (at (settled_rows leaf.rules (Some (codes "seed", (x ∷ xs) ∷ [])) (settled_rows leaf.rules (Some (codes "family", (codes "cyclic") ∷ [])) (settled_rows leaf.rules None []))) (Some (codes "n", (n ∷ ns) ∷ [])) idle 3) (codes "--seed") ((x ∷ xs) ∷ (n ∷ ns) ∷ []) (seed_after_family_passes (settled_rows leaf.rules None []) ((codes "cyclic") ∷ []) 2 refl)
    (seed_after_family (settled_rows leaf.rules None []) ((codes "cyclic") ∷ []) 2) (run_step (at (settled_rows leaf.rules (Some (codes "family", (codes "cyclic") ∷ [])) (settled_rows leaf.rules None [])) (Some (codes "seed", [])) (option (codes "seed")) 2) (at (settled_rows leaf.rules (Some (codes "family", (codes "cyclic") ∷ [])) (settled_rows leaf.rules None [])) (Some (codes "seed", (x ∷ xs) ∷ [])) idle 2) (at (settled_rows leaf.rules (Some (codes "seed", (x ∷ xs) ∷ [])) (settled_rows leaf.rules (Some (codes "family", (codes "cyclic") ∷ [])) (settled_rows leaf.rules None []))) (Some (codes "n", (n ∷ ns) ∷ [])) idle 3) (x ∷ xs) ((n ∷ ns) ∷ []) (seed_value_passes (settled_rows leaf.rules (Some (codes "family", (codes "cyclic") ∷ [])) (settled_rows leaf.rules None [])) 2 x xs hx)
    (seed_value (settled_rows leaf.rules (Some (codes "family", (codes "cyclic") ∷ [])) (settled_rows leaf.rules None [])) 2 x xs hx) (run_step (at (settled_rows leaf.rules (Some (codes "family", (codes "cyclic") ∷ [])) (settled_rows leaf.rules None [])) (Some (codes "seed", (x ∷ xs) ∷ [])) idle 2) (at (settled_rows leaf.rules (Some (codes "seed", (x ∷ xs) ∷ [])) (settled_rows leaf.rules (Some (codes "family", (codes "cyclic") ∷ [])) (settled_rows leaf.rules None []))) (Some (codes "n", (n ∷ ns) ∷ [])) idle 3) (at (settled_rows leaf.rules (Some (codes "seed", (x ∷ xs) ∷ [])) (settled_rows leaf.rules (Some (codes "family", (codes "cyclic") ∷ [])) (settled_rows leaf.rules None []))) (Some (codes "n", (n ∷ ns) ∷ [])) idle 3) (n ∷ ns) ([]) (n_after_seed_passes (settled_rows leaf.rules (Some (codes "family", (codes "cyclic") ∷ [])) (settled_rows leaf.rules None [])) ((x ∷ xs) ∷ []) n ns hn refl)
    (n_after_seed (settled_rows leaf.rules (Some (codes "family", (codes "cyclic") ∷ [])) (settled_rows leaf.rules None [])) ((x ∷ xs) ∷ []) n ns hn) (run_end (at (settled_rows leaf.rules (Some (codes "seed", (x ∷ xs) ∷ [])) (settled_rows leaf.rules (Some (codes "family", (codes "cyclic") ∷ [])) (settled_rows leaf.rules None []))) (Some (codes "n", (n ∷ ns) ∷ [])) idle 3)))))) refl refl

pub cyclic_joined2 : (n : ℕ) (ns : Text) (v : Text) → (n == 45) ≡ false → IsMakeRead ((codes "cyclic") ∷ (n ∷ ns) ∷ (codes "--seed=" ++ v) ∷ []) (read_make (Some (codes "cyclic")) (Some (n ∷ ns)) None None (Some v))
cyclic_joined2 n ns v hn = from_run ((codes "cyclic") ∷ (n ∷ ns) ∷ (codes "--seed=" ++ v) ∷ []) (at (used seed_rule (v ∷ []) (settled_rows leaf.rules (Some (codes "n", (n ∷ ns) ∷ [])) (settled_rows leaf.rules (Some (codes "family", (codes "cyclic") ∷ [])) (settled_rows leaf.rules None [])))) None idle 3) (read_make (Some (codes "cyclic")) (Some (n ∷ ns)) None None (Some v)) (stops3 (codes "cyclic") (n ∷ ns) (codes "--seed=" ++ v)) (above3 (codes "cyclic") (n ∷ ns) (codes "--seed=" ++ v))
    (run_step (at [] None idle 1) (at (settled_rows leaf.rules None []) (Some (codes "family", (codes "cyclic") ∷ [])) idle 2) (at (used seed_rule (v ∷ []) (settled_rows leaf.rules (Some (codes "n", (n ∷ ns) ∷ [])) (settled_rows leaf.rules (Some (codes "family", (codes "cyclic") ∷ [])) (settled_rows leaf.rules None [])))) None idle 3) (codes "cyclic") ((n ∷ ns) ∷ (codes "--seed=" ++ v) ∷ []) (cyclic_first_passes [] refl)
    (cyclic_first []) (run_step (at (settled_rows leaf.rules None []) (Some (codes "family", (codes "cyclic") ∷ [])) idle 2) (at (settled_rows leaf.rules (Some (codes "family", (codes "cyclic") ∷ [])) (settled_rows leaf.rules None [])) (Some (codes "n", (n ∷ ns) ∷ [])) idle 3) (at (used seed_rule (v ∷ []) (settled_rows leaf.rules (Some (codes "n", (n ∷ ns) ∷ [])) (settled_rows leaf.rules (Some (codes "family", (codes "cyclic") ∷ [])) (settled_rows leaf.rules None [])))) None idle 3) (n ∷ ns) ((codes "--seed=" ++ v) ∷ []) (n_word_passes (settled_rows leaf.rules None []) ((codes "cyclic") ∷ []) n ns hn refl)
    (n_word (settled_rows leaf.rules None []) ((codes "cyclic") ∷ []) n ns hn) (run_step (at (settled_rows leaf.rules (Some (codes "family", (codes "cyclic") ∷ [])) (settled_rows leaf.rules None [])) (Some (codes "n", (n ∷ ns) ∷ [])) idle 3) (at (used seed_rule (v ∷ []) (settled_rows leaf.rules (Some (codes "n", (n ∷ ns) ∷ [])) (settled_rows leaf.rules (Some (codes "family", (codes "cyclic") ∷ [])) (settled_rows leaf.rules None [])))) None idle 3) (at (used seed_rule (v ∷ []) (settled_rows leaf.rules (Some (codes "n", (n ∷ ns) ∷ [])) (settled_rows leaf.rules (Some (codes "family", (codes "cyclic") ∷ [])) (settled_rows leaf.rules None [])))) None idle 3) (codes "--seed=" ++ v) ([]) (joined_after_n_passes (settled_rows leaf.rules (Some (codes "family", (codes "cyclic") ∷ [])) (settled_rows leaf.rules None [])) ((n ∷ ns) ∷ []) 3 v refl refl)
    (joined_after_n (settled_rows leaf.rules (Some (codes "family", (codes "cyclic") ∷ [])) (settled_rows leaf.rules None [])) ((n ∷ ns) ∷ []) 3 v) (run_end (at (used seed_rule (v ∷ []) (settled_rows leaf.rules (Some (codes "n", (n ∷ ns) ∷ [])) (settled_rows leaf.rules (Some (codes "family", (codes "cyclic") ∷ [])) (settled_rows leaf.rules None [])))) None idle 3))))) refl refl

pub cyclic_two2 : (n : ℕ) (ns : Text) (x : ℕ) (xs : Text) → (n == 45) ≡ false → (x == 45) ≡ false → IsMakeRead ((codes "cyclic") ∷ (n ∷ ns) ∷ (codes "--seed") ∷ (x ∷ xs) ∷ []) (read_make (Some (codes "cyclic")) (Some (n ∷ ns)) None None (Some (x ∷ xs)))
cyclic_two2 n ns x xs hn hx = from_run ((codes "cyclic") ∷ (n ∷ ns) ∷ (codes "--seed") ∷ (x ∷ xs) ∷ []) (at (settled_rows leaf.rules (Some (codes "n", (n ∷ ns) ∷ [])) (settled_rows leaf.rules (Some (codes "family", (codes "cyclic") ∷ [])) (settled_rows leaf.rules None []))) (Some (codes "seed", (x ∷ xs) ∷ [])) idle 3) (read_make (Some (codes "cyclic")) (Some (n ∷ ns)) None None (Some (x ∷ xs))) (stops4 (codes "cyclic") (n ∷ ns) (codes "--seed") (x ∷ xs)) (above4 (codes "cyclic") (n ∷ ns) (codes "--seed") (x ∷ xs))
    (run_step (at [] None idle 1) (at (settled_rows leaf.rules None []) (Some (codes "family", (codes "cyclic") ∷ [])) idle 2) (at (settled_rows leaf.rules (Some (codes "n", (n ∷ ns) ∷ [])) (settled_rows leaf.rules (Some (codes "family", (codes "cyclic") ∷ [])) (settled_rows leaf.rules None []))) (Some (codes "seed", (x ∷ xs) ∷ [])) idle 3) (codes "cyclic") ((n ∷ ns) ∷ (codes "--seed") ∷ (x ∷ xs) ∷ []) (cyclic_first_passes [] refl)
    (cyclic_first []) (run_step (at (settled_rows leaf.rules None []) (Some (codes "family", (codes "cyclic") ∷ [])) idle 2) (at (settled_rows leaf.rules (Some (codes "family", (codes "cyclic") ∷ [])) (settled_rows leaf.rules None [])) (Some (codes "n", (n ∷ ns) ∷ [])) idle 3) (at (settled_rows leaf.rules (Some (codes "n", (n ∷ ns) ∷ [])) (settled_rows leaf.rules (Some (codes "family", (codes "cyclic") ∷ [])) (settled_rows leaf.rules None []))) (Some (codes "seed", (x ∷ xs) ∷ [])) idle 3) (n ∷ ns) ((codes "--seed") ∷ (x ∷ xs) ∷ []) (n_word_passes (settled_rows leaf.rules None []) ((codes "cyclic") ∷ []) n ns hn refl)
    (n_word (settled_rows leaf.rules None []) ((codes "cyclic") ∷ []) n ns hn) (run_step (at (settled_rows leaf.rules (Some (codes "family", (codes "cyclic") ∷ [])) (settled_rows leaf.rules None [])) (Some (codes "n", (n ∷ ns) ∷ [])) idle 3) (at (settled_rows leaf.rules (Some (codes "n", (n ∷ ns) ∷ [])) (settled_rows leaf.rules (Some (codes "family", (codes "cyclic") ∷ [])) (settled_rows leaf.rules None []))) (Some (codes "seed", [])) (option (codes "seed")) 3) (at (settled_rows leaf.rules (Some (codes "n", (n ∷ ns) ∷ [])) (settled_rows leaf.rules (Some (codes "family", (codes "cyclic") ∷ [])) (settled_rows leaf.rules None []))) (Some (codes "seed", (x ∷ xs) ∷ [])) idle 3) (codes "--seed") ((x ∷ xs) ∷ []) (seed_after_n_passes (settled_rows leaf.rules (Some (codes "family", (codes "cyclic") ∷ [])) (settled_rows leaf.rules None [])) ((n ∷ ns) ∷ []) 3 refl)
    (seed_after_n (settled_rows leaf.rules (Some (codes "family", (codes "cyclic") ∷ [])) (settled_rows leaf.rules None [])) ((n ∷ ns) ∷ []) 3) (run_step (at (settled_rows leaf.rules (Some (codes "n", (n ∷ ns) ∷ [])) (settled_rows leaf.rules (Some (codes "family", (codes "cyclic") ∷ [])) (settled_rows leaf.rules None []))) (Some (codes "seed", [])) (option (codes "seed")) 3) (at (settled_rows leaf.rules (Some (codes "n", (n ∷ ns) ∷ [])) (settled_rows leaf.rules (Some (codes "family", (codes "cyclic") ∷ [])) (settled_rows leaf.rules None []))) (Some (codes "seed", (x ∷ xs) ∷ [])) idle 3) (at (settled_rows leaf.rules (Some (codes "n", (n ∷ ns) ∷ [])) (settled_rows leaf.rules (Some (codes "family", (codes "cyclic") ∷ [])) (settled_rows leaf.rules None []))) (Some (codes "seed", (x ∷ xs) ∷ [])) idle 3) (x ∷ xs) ([]) (seed_value_passes (settled_rows leaf.rules (Some (codes "n", (n ∷ ns) ∷ [])) (settled_rows leaf.rules (Some (codes "family", (codes "cyclic") ∷ [])) (settled_rows leaf.rules None []))) 3 x xs hx)
    (seed_value (settled_rows leaf.rules (Some (codes "n", (n ∷ ns) ∷ [])) (settled_rows leaf.rules (Some (codes "family", (codes "cyclic") ∷ [])) (settled_rows leaf.rules None []))) 3 x xs hx) (run_end (at (settled_rows leaf.rules (Some (codes "n", (n ∷ ns) ∷ [])) (settled_rows leaf.rules (Some (codes "family", (codes "cyclic") ∷ [])) (settled_rows leaf.rules None []))) (Some (codes "seed", (x ∷ xs) ∷ [])) idle 3)))))) refl refl

pub scatter_no : (n : ℕ) (ns : Text) (m : ℕ) (ms : Text) (k : ℕ) (ks : Text) → (n == 45) ≡ false → (m == 45) ≡ false → (k == 45) ≡ false → IsMakeRead ((codes "scatter") ∷ (n ∷ ns) ∷ (m ∷ ms) ∷ (k ∷ ks) ∷ []) (read_make (Some (codes "scatter")) (Some (n ∷ ns)) (Some (m ∷ ms)) (Some (k ∷ ks)) None)
scatter_no n ns m ms k ks hn hm hk = from_run ((codes "scatter") ∷ (n ∷ ns) ∷ (m ∷ ms) ∷ (k ∷ ks) ∷ []) (at (settled_rows leaf.rules (Some (codes "m", (m ∷ ms) ∷ [])) (settled_rows leaf.rules (Some (codes "n", (n ∷ ns) ∷ [])) (settled_rows leaf.rules (Some (codes "family", (codes "scatter") ∷ [])) (settled_rows leaf.rules None [])))) (Some (codes "side", (k ∷ ks) ∷ [])) idle 5) (read_make (Some (codes "scatter")) (Some (n ∷ ns)) (Some (m ∷ ms)) (Some (k ∷ ks)) None) (stops4 (codes "scatter") (n ∷ ns) (m ∷ ms) (k ∷ ks)) (above4 (codes "scatter") (n ∷ ns) (m ∷ ms) (k ∷ ks))
    (run_step (at [] None idle 1) (at (settled_rows leaf.rules None []) (Some (codes "family", (codes "scatter") ∷ [])) idle 2) (at (settled_rows leaf.rules (Some (codes "m", (m ∷ ms) ∷ [])) (settled_rows leaf.rules (Some (codes "n", (n ∷ ns) ∷ [])) (settled_rows leaf.rules (Some (codes "family", (codes "scatter") ∷ [])) (settled_rows leaf.rules None [])))) (Some (codes "side", (k ∷ ks) ∷ [])) idle 5) (codes "scatter") ((n ∷ ns) ∷ (m ∷ ms) ∷ (k ∷ ks) ∷ []) (scatter_first_passes [] refl)
    (scatter_first []) (run_step (at (settled_rows leaf.rules None []) (Some (codes "family", (codes "scatter") ∷ [])) idle 2) (at (settled_rows leaf.rules (Some (codes "family", (codes "scatter") ∷ [])) (settled_rows leaf.rules None [])) (Some (codes "n", (n ∷ ns) ∷ [])) idle 3) (at (settled_rows leaf.rules (Some (codes "m", (m ∷ ms) ∷ [])) (settled_rows leaf.rules (Some (codes "n", (n ∷ ns) ∷ [])) (settled_rows leaf.rules (Some (codes "family", (codes "scatter") ∷ [])) (settled_rows leaf.rules None [])))) (Some (codes "side", (k ∷ ks) ∷ [])) idle 5) (n ∷ ns) ((m ∷ ms) ∷ (k ∷ ks) ∷ []) (n_word_passes (settled_rows leaf.rules None []) ((codes "scatter") ∷ []) n ns hn refl)
    (n_word (settled_rows leaf.rules None []) ((codes "scatter") ∷ []) n ns hn) (run_step (at (settled_rows leaf.rules (Some (codes "family", (codes "scatter") ∷ [])) (settled_rows leaf.rules None [])) (Some (codes "n", (n ∷ ns) ∷ [])) idle 3) (at (settled_rows leaf.rules (Some (codes "n", (n ∷ ns) ∷ [])) (settled_rows leaf.rules (Some (codes "family", (codes "scatter") ∷ [])) (settled_rows leaf.rules None []))) (Some (codes "m", (m ∷ ms) ∷ [])) idle 4) (at (settled_rows leaf.rules (Some (codes "m", (m ∷ ms) ∷ [])) (settled_rows leaf.rules (Some (codes "n", (n ∷ ns) ∷ [])) (settled_rows leaf.rules (Some (codes "family", (codes "scatter") ∷ [])) (settled_rows leaf.rules None [])))) (Some (codes "side", (k ∷ ks) ∷ [])) idle 5) (m ∷ ms) ((k ∷ ks) ∷ []) (m_word_passes (settled_rows leaf.rules (Some (codes "family", (codes "scatter") ∷ [])) (settled_rows leaf.rules None [])) ((n ∷ ns) ∷ []) m ms hm refl)
    (m_word (settled_rows leaf.rules (Some (codes "family", (codes "scatter") ∷ [])) (settled_rows leaf.rules None [])) ((n ∷ ns) ∷ []) m ms hm) (run_step (at (settled_rows leaf.rules (Some (codes "n", (n ∷ ns) ∷ [])) (settled_rows leaf.rules (Some (codes "family", (codes "scatter") ∷ [])) (settled_rows leaf.rules None []))) (Some (codes "m", (m ∷ ms) ∷ [])) idle 4) (at (settled_rows leaf.rules (Some (codes "m", (m ∷ ms) ∷ [])) (settled_rows leaf.rules (Some (codes "n", (n ∷ ns) ∷ [])) (settled_rows leaf.rules (Some (codes "family", (codes "scatter") ∷ [])) (settled_rows leaf.rules None [])))) (Some (codes "side", (k ∷ ks) ∷ [])) idle 5) (at (settled_rows leaf.rules (Some (codes "m", (m ∷ ms) ∷ [])) (settled_rows leaf.rules (Some (codes "n", (n ∷ ns) ∷ [])) (settled_rows leaf.rules (Some (codes "family", (codes "scatter") ∷ [])) (settled_rows leaf.rules None [])))) (Some (codes "side", (k ∷ ks) ∷ [])) idle 5) (k ∷ ks) ([]) (side_word_passes (settled_rows leaf.rules (Some (codes "n", (n ∷ ns) ∷ [])) (settled_rows leaf.rules (Some (codes "family", (codes "scatter") ∷ [])) (settled_rows leaf.rules None []))) ((m ∷ ms) ∷ []) k ks hk refl)
    (side_word (settled_rows leaf.rules (Some (codes "n", (n ∷ ns) ∷ [])) (settled_rows leaf.rules (Some (codes "family", (codes "scatter") ∷ [])) (settled_rows leaf.rules None []))) ((m ∷ ms) ∷ []) k ks hk) (run_end (at (settled_rows leaf.rules (Some (codes "m", (m ∷ ms) ∷ [])) (settled_rows leaf.rules (Some (codes "n", (n ∷ ns) ∷ [])) (settled_rows leaf.rules (Some (codes "family", (codes "scatter") ∷ [])) (settled_rows leaf.rules None [])))) (Some (codes "side", (k ∷ ks) ∷ [])) idle 5)))))) refl refl

pub scatter_joined0 : (n : ℕ) (ns : Text) (m : ℕ) (ms : Text) (k : ℕ) (ks : Text) (v : Text) → (n == 45) ≡ false → (m == 45) ≡ false → (k == 45) ≡ false → IsMakeRead ((codes "--seed=" ++ v) ∷ (codes "scatter") ∷ (n ∷ ns) ∷ (m ∷ ms) ∷ (k ∷ ks) ∷ []) (read_make (Some (codes "scatter")) (Some (n ∷ ns)) (Some (m ∷ ms)) (Some (k ∷ ks)) (Some v))
scatter_joined0 n ns m ms k ks v hn hm hk = from_run ((codes "--seed=" ++ v) ∷ (codes "scatter") ∷ (n ∷ ns) ∷ (m ∷ ms) ∷ (k ∷ ks) ∷ []) (at (settled_rows leaf.rules (Some (codes "m", (m ∷ ms) ∷ [])) (settled_rows leaf.rules (Some (codes "n", (n ∷ ns) ∷ [])) (settled_rows leaf.rules (Some (codes "family", (codes "scatter") ∷ [])) (settled_rows leaf.rules None (used seed_rule (v ∷ []) (settled_rows leaf.rules None [])))))) (Some (codes "side", (k ∷ ks) ∷ [])) idle 5) (read_make (Some (codes "scatter")) (Some (n ∷ ns)) (Some (m ∷ ms)) (Some (k ∷ ks)) (Some v)) (stops5 (codes "--seed=" ++ v) (codes "scatter") (n ∷ ns) (m ∷ ms) (k ∷ ks)) (above5 (codes "--seed=" ++ v) (codes "scatter") (n ∷ ns) (m ∷ ms) (k ∷ ks))
    (run_step (at [] None idle 1) (at (used seed_rule (v ∷ []) (settled_rows leaf.rules None [])) None idle 1) (at (settled_rows leaf.rules (Some (codes "m", (m ∷ ms) ∷ [])) (settled_rows leaf.rules (Some (codes "n", (n ∷ ns) ∷ [])) (settled_rows leaf.rules (Some (codes "family", (codes "scatter") ∷ [])) (settled_rows leaf.rules None (used seed_rule (v ∷ []) (settled_rows leaf.rules None [])))))) (Some (codes "side", (k ∷ ks) ∷ [])) idle 5) (codes "--seed=" ++ v) ((codes "scatter") ∷ (n ∷ ns) ∷ (m ∷ ms) ∷ (k ∷ ks) ∷ []) (joined_after_none_passes [] 1 v refl refl)
    (joined_after_none [] 1 v) (run_step (at (used seed_rule (v ∷ []) (settled_rows leaf.rules None [])) None idle 1) (at (settled_rows leaf.rules None (used seed_rule (v ∷ []) (settled_rows leaf.rules None []))) (Some (codes "family", (codes "scatter") ∷ [])) idle 2) (at (settled_rows leaf.rules (Some (codes "m", (m ∷ ms) ∷ [])) (settled_rows leaf.rules (Some (codes "n", (n ∷ ns) ∷ [])) (settled_rows leaf.rules (Some (codes "family", (codes "scatter") ∷ [])) (settled_rows leaf.rules None (used seed_rule (v ∷ []) (settled_rows leaf.rules None [])))))) (Some (codes "side", (k ∷ ks) ∷ [])) idle 5) (codes "scatter") ((n ∷ ns) ∷ (m ∷ ms) ∷ (k ∷ ks) ∷ []) (scatter_first_passes (used seed_rule (v ∷ []) (settled_rows leaf.rules None [])) refl)
    (scatter_first (used seed_rule (v ∷ []) (settled_rows leaf.rules None []))) (run_step (at (settled_rows leaf.rules None (used seed_rule (v ∷ []) (settled_rows leaf.rules None []))) (Some (codes "family", (codes "scatter") ∷ [])) idle 2) (at (settled_rows leaf.rules (Some (codes "family", (codes "scatter") ∷ [])) (settled_rows leaf.rules None (used seed_rule (v ∷ []) (settled_rows leaf.rules None [])))) (Some (codes "n", (n ∷ ns) ∷ [])) idle 3) (at (settled_rows leaf.rules (Some (codes "m", (m ∷ ms) ∷ [])) (settled_rows leaf.rules (Some (codes "n", (n ∷ ns) ∷ [])) (settled_rows leaf.rules (Some (codes "family", (codes "scatter") ∷ [])) (settled_rows leaf.rules None (used seed_rule (v ∷ []) (settled_rows leaf.rules None [])))))) (Some (codes "side", (k ∷ ks) ∷ [])) idle 5) (n ∷ ns) ((m ∷ ms) ∷ (k ∷ ks) ∷ []) (n_word_passes (settled_rows leaf.rules None (used seed_rule (v ∷ []) (settled_rows leaf.rules None []))) ((codes "scatter") ∷ []) n ns hn refl)
    (n_word (settled_rows leaf.rules None (used seed_rule (v ∷ []) (settled_rows leaf.rules None []))) ((codes "scatter") ∷ []) n ns hn) (run_step (at (settled_rows leaf.rules (Some (codes "family", (codes "scatter") ∷ [])) (settled_rows leaf.rules None (used seed_rule (v ∷ []) (settled_rows leaf.rules None [])))) (Some (codes "n", (n ∷ ns) ∷ [])) idle 3) (at (settled_rows leaf.rules (Some (codes "n", (n ∷ ns) ∷ [])) (settled_rows leaf.rules (Some (codes "family", (codes "scatter") ∷ [])) (settled_rows leaf.rules None (used seed_rule (v ∷ []) (settled_rows leaf.rules None []))))) (Some (codes "m", (m ∷ ms) ∷ [])) idle 4) (at (settled_rows leaf.rules (Some (codes "m", (m ∷ ms) ∷ [])) (settled_rows leaf.rules (Some (codes "n", (n ∷ ns) ∷ [])) (settled_rows leaf.rules (Some (codes "family", (codes "scatter") ∷ [])) (settled_rows leaf.rules None (used seed_rule (v ∷ []) (settled_rows leaf.rules None [])))))) (Some (codes "side", (k ∷ ks) ∷ [])) idle 5) (m ∷ ms) ((k ∷ ks) ∷ []) (m_word_passes (settled_rows leaf.rules (Some (codes "family", (codes "scatter") ∷ [])) (settled_rows leaf.rules None (used seed_rule (v ∷ []) (settled_rows leaf.rules None [])))) ((n ∷ ns) ∷ []) m ms hm refl)
    (m_word (settled_rows leaf.rules (Some (codes "family", (codes "scatter") ∷ [])) (settled_rows leaf.rules None (used seed_rule (v ∷ []) (settled_rows leaf.rules None [])))) ((n ∷ ns) ∷ []) m ms hm) (run_step (at (settled_rows leaf.rules (Some (codes "n", (n ∷ ns) ∷ [])) (settled_rows leaf.rules (Some (codes "family", (codes "scatter") ∷ [])) (settled_rows leaf.rules None (used seed_rule (v ∷ []) (settled_rows leaf.rules None []))))) (Some (codes "m", (m ∷ ms) ∷ [])) idle 4) (at (settled_rows leaf.rules (Some (codes "m", (m ∷ ms) ∷ [])) (settled_rows leaf.rules (Some (codes "n", (n ∷ ns) ∷ [])) (settled_rows leaf.rules (Some (codes "family", (codes "scatter") ∷ [])) (settled_rows leaf.rules None (used seed_rule (v ∷ []) (settled_rows leaf.rules None [])))))) (Some (codes "side", (k ∷ ks) ∷ [])) idle 5) (at (settled_rows leaf.rules (Some (codes "m", (m ∷ ms) ∷ [])) (settled_rows leaf.rules (Some (codes "n", (n ∷ ns) ∷ [])) (settled_rows leaf.rules (Some (codes "family", (codes "scatter") ∷ [])) (settled_rows leaf.rules None (used seed_rule (v ∷ []) (settled_rows leaf.rules None [])))))) (Some (codes "side", (k ∷ ks) ∷ [])) idle 5) (k ∷ ks) ([]) (side_word_passes (settled_rows leaf.rules (Some (codes "n", (n ∷ ns) ∷ [])) (settled_rows leaf.rules (Some (codes "family", (codes "scatter") ∷ [])) (settled_rows leaf.rules None (used seed_rule (v ∷ []) (settled_rows leaf.rules None []))))) ((m ∷ ms) ∷ []) k ks hk refl)
    (side_word (settled_rows leaf.rules (Some (codes "n", (n ∷ ns) ∷ [])) (settled_rows leaf.rules (Some (codes "family", (codes "scatter") ∷ [])) (settled_rows leaf.rules None (used seed_rule (v ∷ []) (settled_rows leaf.rules None []))))) ((m ∷ ms) ∷ []) k ks hk) (run_end (at (settled_rows leaf.rules (Some (codes "m", (m ∷ ms) ∷ [])) (settled_rows leaf.rules (Some (codes "n", (n ∷ ns) ∷ [])) (settled_rows leaf.rules (Some (codes "family", (codes "scatter") ∷ [])) (settled_rows leaf.rules None (used seed_rule (v ∷ []) (settled_rows leaf.rules None [])))))) (Some (codes "side", (k ∷ ks) ∷ [])) idle 5))))))) refl refl

pub scatter_two0 : (n : ℕ) (ns : Text) (m : ℕ) (ms : Text) (k : ℕ) (ks : Text) (x : ℕ) (xs : Text) → (n == 45) ≡ false → (m == 45) ≡ false → (k == 45) ≡ false → (x == 45) ≡ false → IsMakeRead ((codes "--seed") ∷ (x ∷ xs) ∷ (codes "scatter") ∷ (n ∷ ns) ∷ (m ∷ ms) ∷ (k ∷ ks) ∷ []) (read_make (Some (codes "scatter")) (Some (n ∷ ns)) (Some (m ∷ ms)) (Some (k ∷ ks)) (Some (x ∷ xs)))
scatter_two0 n ns m ms k ks x xs hn hm hk hx = from_run ((codes "--seed") ∷ (x ∷ xs) ∷ (codes "scatter") ∷ (n ∷ ns) ∷ (m ∷ ms) ∷ (k ∷ ks) ∷ []) (at (settled_rows leaf.rules (Some (codes "m", (m ∷ ms) ∷ [])) (settled_rows leaf.rules (Some (codes "n", (n ∷ ns) ∷ [])) (settled_rows leaf.rules (Some (codes "family", (codes "scatter") ∷ [])) (settled_rows leaf.rules (Some (codes "seed", (x ∷ xs) ∷ [])) (settled_rows leaf.rules None []))))) (Some (codes "side", (k ∷ ks) ∷ [])) idle 5) (read_make (Some (codes "scatter")) (Some (n ∷ ns)) (Some (m ∷ ms)) (Some (k ∷ ks)) (Some (x ∷ xs))) (stops6 (codes "--seed") (x ∷ xs) (codes "scatter") (n ∷ ns) (m ∷ ms) (k ∷ ks)) (above6 (codes "--seed") (x ∷ xs) (codes "scatter") (n ∷ ns) (m ∷ ms) (k ∷ ks))
    (run_step (at [] None idle 1) (at (settled_rows leaf.rules None []) (Some (codes "seed", [])) (option (codes "seed")) 1) (at (settled_rows leaf.rules (Some (codes "m", (m ∷ ms) ∷ [])) (settled_rows leaf.rules (Some (codes "n", (n ∷ ns) ∷ [])) (settled_rows leaf.rules (Some (codes "family", (codes "scatter") ∷ [])) (settled_rows leaf.rules (Some (codes "seed", (x ∷ xs) ∷ [])) (settled_rows leaf.rules None []))))) (Some (codes "side", (k ∷ ks) ∷ [])) idle 5) (codes "--seed") ((x ∷ xs) ∷ (codes "scatter") ∷ (n ∷ ns) ∷ (m ∷ ms) ∷ (k ∷ ks) ∷ []) (seed_after_none_passes [] 1 refl)
    (seed_after_none [] 1) (run_step (at (settled_rows leaf.rules None []) (Some (codes "seed", [])) (option (codes "seed")) 1) (at (settled_rows leaf.rules None []) (Some (codes "seed", (x ∷ xs) ∷ [])) idle 1) (at (settled_rows leaf.rules (Some (codes "m", (m ∷ ms) ∷ [])) (settled_rows leaf.rules (Some (codes "n", (n ∷ ns) ∷ [])) (settled_rows leaf.rules (Some (codes "family", (codes "scatter") ∷ [])) (settled_rows leaf.rules (Some (codes "seed", (x ∷ xs) ∷ [])) (settled_rows leaf.rules None []))))) (Some (codes "side", (k ∷ ks) ∷ [])) idle 5) (x ∷ xs) ((codes "scatter") ∷ (n ∷ ns) ∷ (m ∷ ms) ∷ (k ∷ ks) ∷ []) (seed_value_passes (settled_rows leaf.rules None []) 1 x xs hx)
    (seed_value (settled_rows leaf.rules None []) 1 x xs hx) (run_step (at (settled_rows leaf.rules None []) (Some (codes "seed", (x ∷ xs) ∷ [])) idle 1) (at (settled_rows leaf.rules (Some (codes "seed", (x ∷ xs) ∷ [])) (settled_rows leaf.rules None [])) (Some (codes "family", (codes "scatter") ∷ [])) idle 2) (at (settled_rows leaf.rules (Some (codes "m", (m ∷ ms) ∷ [])) (settled_rows leaf.rules (Some (codes "n", (n ∷ ns) ∷ [])) (settled_rows leaf.rules (Some (codes "family", (codes "scatter") ∷ [])) (settled_rows leaf.rules (Some (codes "seed", (x ∷ xs) ∷ [])) (settled_rows leaf.rules None []))))) (Some (codes "side", (k ∷ ks) ∷ [])) idle 5) (codes "scatter") ((n ∷ ns) ∷ (m ∷ ms) ∷ (k ∷ ks) ∷ []) (scatter_after_seed_passes (settled_rows leaf.rules None []) ((x ∷ xs) ∷ []) refl)
    (scatter_after_seed (settled_rows leaf.rules None []) ((x ∷ xs) ∷ [])) (run_step (at (settled_rows leaf.rules (Some (codes "seed", (x ∷ xs) ∷ [])) (settled_rows leaf.rules None [])) (Some (codes "family", (codes "scatter") ∷ [])) idle 2) (at (settled_rows leaf.rules (Some (codes "family", (codes "scatter") ∷ [])) (settled_rows leaf.rules (Some (codes "seed", (x ∷ xs) ∷ [])) (settled_rows leaf.rules None []))) (Some (codes "n", (n ∷ ns) ∷ [])) idle 3) (at (settled_rows leaf.rules (Some (codes "m", (m ∷ ms) ∷ [])) (settled_rows leaf.rules (Some (codes "n", (n ∷ ns) ∷ [])) (settled_rows leaf.rules (Some (codes "family", (codes "scatter") ∷ [])) (settled_rows leaf.rules (Some (codes "seed", (x ∷ xs) ∷ [])) (settled_rows leaf.rules None []))))) (Some (codes "side", (k ∷ ks) ∷ [])) idle 5) (n ∷ ns) ((m ∷ ms) ∷ (k ∷ ks) ∷ []) (n_word_passes (settled_rows leaf.rules (Some (codes "seed", (x ∷ xs) ∷ [])) (settled_rows leaf.rules None [])) ((codes "scatter") ∷ []) n ns hn refl)
    (n_word (settled_rows leaf.rules (Some (codes "seed", (x ∷ xs) ∷ [])) (settled_rows leaf.rules None [])) ((codes "scatter") ∷ []) n ns hn) (run_step (at (settled_rows leaf.rules (Some (codes "family", (codes "scatter") ∷ [])) (settled_rows leaf.rules (Some (codes "seed", (x ∷ xs) ∷ [])) (settled_rows leaf.rules None []))) (Some (codes "n", (n ∷ ns) ∷ [])) idle 3) (at (settled_rows leaf.rules (Some (codes "n", (n ∷ ns) ∷ [])) (settled_rows leaf.rules (Some (codes "family", (codes "scatter") ∷ [])) (settled_rows leaf.rules (Some (codes "seed", (x ∷ xs) ∷ [])) (settled_rows leaf.rules None [])))) (Some (codes "m", (m ∷ ms) ∷ [])) idle 4) (at (settled_rows leaf.rules (Some (codes "m", (m ∷ ms) ∷ [])) (settled_rows leaf.rules (Some (codes "n", (n ∷ ns) ∷ [])) (settled_rows leaf.rules (Some (codes "family", (codes "scatter") ∷ [])) (settled_rows leaf.rules (Some (codes "seed", (x ∷ xs) ∷ [])) (settled_rows leaf.rules None []))))) (Some (codes "side", (k ∷ ks) ∷ [])) idle 5) (m ∷ ms) ((k ∷ ks) ∷ []) (m_word_passes (settled_rows leaf.rules (Some (codes "family", (codes "scatter") ∷ [])) (settled_rows leaf.rules (Some (codes "seed", (x ∷ xs) ∷ [])) (settled_rows leaf.rules None []))) ((n ∷ ns) ∷ []) m ms hm refl)
    (m_word (settled_rows leaf.rules (Some (codes "family", (codes "scatter") ∷ [])) (settled_rows leaf.rules (Some (codes "seed", (x ∷ xs) ∷ [])) (settled_rows leaf.rules None []))) ((n ∷ ns) ∷ []) m ms hm) (run_step (at (settled_rows leaf.rules (Some (codes "n", (n ∷ ns) ∷ [])) (settled_rows leaf.rules (Some (codes "family", (codes "scatter") ∷ [])) (settled_rows leaf.rules (Some (codes "seed", (x ∷ xs) ∷ [])) (settled_rows leaf.rules None [])))) (Some (codes "m", (m ∷ ms) ∷ [])) idle 4) (at (settled_rows leaf.rules (Some (codes "m", (m ∷ ms) ∷ [])) (settled_rows leaf.rules (Some (codes "n", (n ∷ ns) ∷ [])) (settled_rows leaf.rules (Some (codes "family", (codes "scatter") ∷ [])) (settled_rows leaf.rules (Some (codes "seed", (x ∷ xs) ∷ [])) (settled_rows leaf.rules None []))))) (Some (codes "side", (k ∷ ks) ∷ [])) idle 5) (at (settled_rows leaf.rules (Some (codes "m", (m ∷ ms) ∷ [])) (settled_rows leaf.rules (Some (codes "n", (n ∷ ns) ∷ [])) (settled_rows leaf.rules (Some (codes "family", (codes "scatter") ∷ [])) (settled_rows leaf.rules (Some (codes "seed", (x ∷ xs) ∷ [])) (settled_rows leaf.rules None []))))) (Some (codes "side", (k ∷ ks) ∷ [])) idle 5) (k ∷ ks) ([]) (side_word_passes (settled_rows leaf.rules (Some (codes "n", (n ∷ ns) ∷ [])) (settled_rows leaf.rules (Some (codes "family", (codes "scatter") ∷ [])) (settled_rows leaf.rules (Some (codes "seed", (x ∷ xs) ∷ [])) (settled_rows leaf.rules None [])))) ((m ∷ ms) ∷ []) k ks hk refl)
    (side_word (settled_rows leaf.rules (Some (codes "n", (n ∷ ns) ∷ [])) (settled_rows leaf.rules (Some (codes "family", (codes "scatter") ∷ [])) (settled_rows leaf.rules (Some (codes "seed", (x ∷ xs) ∷ [])) (settled_rows leaf.rules None [])))) ((m ∷ ms) ∷ []) k ks hk) (run_end (at (settled_rows leaf.rules (Some (codes "m", (m ∷ ms) ∷ [])) (settled_rows leaf.rules (Some (codes "n", (n ∷ ns) ∷ [])) (settled_rows leaf.rules (Some (codes "family", (codes "scatter") ∷ [])) (settled_rows leaf.rules (Some (codes "seed", (x ∷ xs) ∷ [])) (settled_rows leaf.rules None []))))) (Some (codes "side", (k ∷ ks) ∷ [])) idle 5)))))))) refl refl

pub scatter_joined1 : (n : ℕ) (ns : Text) (m : ℕ) (ms : Text) (k : ℕ) (ks : Text) (v : Text) → (n == 45) ≡ false → (m == 45) ≡ false → (k == 45) ≡ false → IsMakeRead ((codes "scatter") ∷ (codes "--seed=" ++ v) ∷ (n ∷ ns) ∷ (m ∷ ms) ∷ (k ∷ ks) ∷ []) (read_make (Some (codes "scatter")) (Some (n ∷ ns)) (Some (m ∷ ms)) (Some (k ∷ ks)) (Some v))
scatter_joined1 n ns m ms k ks v hn hm hk = from_run ((codes "scatter") ∷ (codes "--seed=" ++ v) ∷ (n ∷ ns) ∷ (m ∷ ms) ∷ (k ∷ ks) ∷ []) (at (settled_rows leaf.rules (Some (codes "m", (m ∷ ms) ∷ [])) (settled_rows leaf.rules (Some (codes "n", (n ∷ ns) ∷ [])) (settled_rows leaf.rules None (used seed_rule (v ∷ []) (settled_rows leaf.rules (Some (codes "family", (codes "scatter") ∷ [])) (settled_rows leaf.rules None [])))))) (Some (codes "side", (k ∷ ks) ∷ [])) idle 5) (read_make (Some (codes "scatter")) (Some (n ∷ ns)) (Some (m ∷ ms)) (Some (k ∷ ks)) (Some v)) (stops5 (codes "scatter") (codes "--seed=" ++ v) (n ∷ ns) (m ∷ ms) (k ∷ ks)) (above5 (codes "scatter") (codes "--seed=" ++ v) (n ∷ ns) (m ∷ ms) (k ∷ ks))
    (run_step (at [] None idle 1) (at (settled_rows leaf.rules None []) (Some (codes "family", (codes "scatter") ∷ [])) idle 2) (at (settled_rows leaf.rules (Some (codes "m", (m ∷ ms) ∷ [])) (settled_rows leaf.rules (Some (codes "n", (n ∷ ns) ∷ [])) (settled_rows leaf.rules None (used seed_rule (v ∷ []) (settled_rows leaf.rules (Some (codes "family", (codes "scatter") ∷ [])) (settled_rows leaf.rules None [])))))) (Some (codes "side", (k ∷ ks) ∷ [])) idle 5) (codes "scatter") ((codes "--seed=" ++ v) ∷ (n ∷ ns) ∷ (m ∷ ms) ∷ (k ∷ ks) ∷ []) (scatter_first_passes [] refl)
    (scatter_first []) (run_step (at (settled_rows leaf.rules None []) (Some (codes "family", (codes "scatter") ∷ [])) idle 2) (at (used seed_rule (v ∷ []) (settled_rows leaf.rules (Some (codes "family", (codes "scatter") ∷ [])) (settled_rows leaf.rules None []))) None idle 2) (at (settled_rows leaf.rules (Some (codes "m", (m ∷ ms) ∷ [])) (settled_rows leaf.rules (Some (codes "n", (n ∷ ns) ∷ [])) (settled_rows leaf.rules None (used seed_rule (v ∷ []) (settled_rows leaf.rules (Some (codes "family", (codes "scatter") ∷ [])) (settled_rows leaf.rules None [])))))) (Some (codes "side", (k ∷ ks) ∷ [])) idle 5) (codes "--seed=" ++ v) ((n ∷ ns) ∷ (m ∷ ms) ∷ (k ∷ ks) ∷ []) (joined_after_family_passes (settled_rows leaf.rules None []) ((codes "scatter") ∷ []) 2 v refl refl)
    (joined_after_family (settled_rows leaf.rules None []) ((codes "scatter") ∷ []) 2 v) (run_step (at (used seed_rule (v ∷ []) (settled_rows leaf.rules (Some (codes "family", (codes "scatter") ∷ [])) (settled_rows leaf.rules None []))) None idle 2) (at (settled_rows leaf.rules None (used seed_rule (v ∷ []) (settled_rows leaf.rules (Some (codes "family", (codes "scatter") ∷ [])) (settled_rows leaf.rules None [])))) (Some (codes "n", (n ∷ ns) ∷ [])) idle 3) (at (settled_rows leaf.rules (Some (codes "m", (m ∷ ms) ∷ [])) (settled_rows leaf.rules (Some (codes "n", (n ∷ ns) ∷ [])) (settled_rows leaf.rules None (used seed_rule (v ∷ []) (settled_rows leaf.rules (Some (codes "family", (codes "scatter") ∷ [])) (settled_rows leaf.rules None [])))))) (Some (codes "side", (k ∷ ks) ∷ [])) idle 5) (n ∷ ns) ((m ∷ ms) ∷ (k ∷ ks) ∷ []) (n_after_joined_passes (used seed_rule (v ∷ []) (settled_rows leaf.rules (Some (codes "family", (codes "scatter") ∷ [])) (settled_rows leaf.rules None []))) n ns hn refl)
    (n_after_joined (used seed_rule (v ∷ []) (settled_rows leaf.rules (Some (codes "family", (codes "scatter") ∷ [])) (settled_rows leaf.rules None []))) n ns hn) (run_step (at (settled_rows leaf.rules None (used seed_rule (v ∷ []) (settled_rows leaf.rules (Some (codes "family", (codes "scatter") ∷ [])) (settled_rows leaf.rules None [])))) (Some (codes "n", (n ∷ ns) ∷ [])) idle 3) (at (settled_rows leaf.rules (Some (codes "n", (n ∷ ns) ∷ [])) (settled_rows leaf.rules None (used seed_rule (v ∷ []) (settled_rows leaf.rules (Some (codes "family", (codes "scatter") ∷ [])) (settled_rows leaf.rules None []))))) (Some (codes "m", (m ∷ ms) ∷ [])) idle 4) (at (settled_rows leaf.rules (Some (codes "m", (m ∷ ms) ∷ [])) (settled_rows leaf.rules (Some (codes "n", (n ∷ ns) ∷ [])) (settled_rows leaf.rules None (used seed_rule (v ∷ []) (settled_rows leaf.rules (Some (codes "family", (codes "scatter") ∷ [])) (settled_rows leaf.rules None [])))))) (Some (codes "side", (k ∷ ks) ∷ [])) idle 5) (m ∷ ms) ((k ∷ ks) ∷ []) (m_word_passes (settled_rows leaf.rules None (used seed_rule (v ∷ []) (settled_rows leaf.rules (Some (codes "family", (codes "scatter") ∷ [])) (settled_rows leaf.rules None [])))) ((n ∷ ns) ∷ []) m ms hm refl)
    (m_word (settled_rows leaf.rules None (used seed_rule (v ∷ []) (settled_rows leaf.rules (Some (codes "family", (codes "scatter") ∷ [])) (settled_rows leaf.rules None [])))) ((n ∷ ns) ∷ []) m ms hm) (run_step (at (settled_rows leaf.rules (Some (codes "n", (n ∷ ns) ∷ [])) (settled_rows leaf.rules None (used seed_rule (v ∷ []) (settled_rows leaf.rules (Some (codes "family", (codes "scatter") ∷ [])) (settled_rows leaf.rules None []))))) (Some (codes "m", (m ∷ ms) ∷ [])) idle 4) (at (settled_rows leaf.rules (Some (codes "m", (m ∷ ms) ∷ [])) (settled_rows leaf.rules (Some (codes "n", (n ∷ ns) ∷ [])) (settled_rows leaf.rules None (used seed_rule (v ∷ []) (settled_rows leaf.rules (Some (codes "family", (codes "scatter") ∷ [])) (settled_rows leaf.rules None [])))))) (Some (codes "side", (k ∷ ks) ∷ [])) idle 5) (at (settled_rows leaf.rules (Some (codes "m", (m ∷ ms) ∷ [])) (settled_rows leaf.rules (Some (codes "n", (n ∷ ns) ∷ [])) (settled_rows leaf.rules None (used seed_rule (v ∷ []) (settled_rows leaf.rules (Some (codes "family", (codes "scatter") ∷ [])) (settled_rows leaf.rules None [])))))) (Some (codes "side", (k ∷ ks) ∷ [])) idle 5) (k ∷ ks) ([]) (side_word_passes (settled_rows leaf.rules (Some (codes "n", (n ∷ ns) ∷ [])) (settled_rows leaf.rules None (used seed_rule (v ∷ []) (settled_rows leaf.rules (Some (codes "family", (codes "scatter") ∷ [])) (settled_rows leaf.rules None []))))) ((m ∷ ms) ∷ []) k ks hk refl)
    (side_word (settled_rows leaf.rules (Some (codes "n", (n ∷ ns) ∷ [])) (settled_rows leaf.rules None (used seed_rule (v ∷ []) (settled_rows leaf.rules (Some (codes "family", (codes "scatter") ∷ [])) (settled_rows leaf.rules None []))))) ((m ∷ ms) ∷ []) k ks hk) (run_end (at (settled_rows leaf.rules (Some (codes "m", (m ∷ ms) ∷ [])) (settled_rows leaf.rules (Some (codes "n", (n ∷ ns) ∷ [])) (settled_rows leaf.rules None (used seed_rule (v ∷ []) (settled_rows leaf.rules (Some (codes "family", (codes "scatter") ∷ [])) (settled_rows leaf.rules None [])))))) (Some (codes "side", (k ∷ ks) ∷ [])) idle 5))))))) refl refl

pub scatter_two1 : (n : ℕ) (ns : Text) (m : ℕ) (ms : Text) (k : ℕ) (ks : Text) (x : ℕ) (xs : Text) → (n == 45) ≡ false → (m == 45) ≡ false → (k == 45) ≡ false → (x == 45) ≡ false → IsMakeRead ((codes "scatter") ∷ (codes "--seed") ∷ (x ∷ xs) ∷ (n ∷ ns) ∷ (m ∷ ms) ∷ (k ∷ ks) ∷ []) (read_make (Some (codes "scatter")) (Some (n ∷ ns)) (Some (m ∷ ms)) (Some (k ∷ ks)) (Some (x ∷ xs)))
scatter_two1 n ns m ms k ks x xs hn hm hk hx = from_run ((codes "scatter") ∷ (codes "--seed") ∷ (x ∷ xs) ∷ (n ∷ ns) ∷ (m ∷ ms) ∷ (k ∷ ks) ∷ []) (at (settled_rows leaf.rules (Some (codes "m", (m ∷ ms) ∷ [])) (settled_rows leaf.rules (Some (codes "n", (n ∷ ns) ∷ [])) (settled_rows leaf.rules (Some (codes "seed", (x ∷ xs) ∷ [])) (settled_rows leaf.rules (Some (codes "family", (codes "scatter") ∷ [])) (settled_rows leaf.rules None []))))) (Some (codes "side", (k ∷ ks) ∷ [])) idle 5) (read_make (Some (codes "scatter")) (Some (n ∷ ns)) (Some (m ∷ ms)) (Some (k ∷ ks)) (Some (x ∷ xs))) (stops6 (codes "scatter") (codes "--seed") (x ∷ xs) (n ∷ ns) (m ∷ ms) (k ∷ ks)) (above6 (codes "scatter") (codes "--seed") (x ∷ xs) (n ∷ ns) (m ∷ ms) (k ∷ ks))
    (run_step (at [] None idle 1) (at (settled_rows leaf.rules None []) (Some (codes "family", (codes "scatter") ∷ [])) idle 2) (at (settled_rows leaf.rules (Some (codes "m", (m ∷ ms) ∷ [])) (settled_rows leaf.rules (Some (codes "n", (n ∷ ns) ∷ [])) (settled_rows leaf.rules (Some (codes "seed", (x ∷ xs) ∷ [])) (settled_rows leaf.rules (Some (codes "family", (codes "scatter") ∷ [])) (settled_rows leaf.rules None []))))) (Some (codes "side", (k ∷ ks) ∷ [])) idle 5) (codes "scatter") ((codes "--seed") ∷ (x ∷ xs) ∷ (n ∷ ns) ∷ (m ∷ ms) ∷ (k ∷ ks) ∷ []) (scatter_first_passes [] refl)
    (scatter_first []) (run_step (at (settled_rows leaf.rules None []) (Some (codes "family", (codes "scatter") ∷ [])) idle 2) (at (settled_rows leaf.rules (Some (codes "family", (codes "scatter") ∷ [])) (settled_rows leaf.rules None [])) (Some (codes "seed", [])) (option (codes "seed")) 2) (at (settled_rows leaf.rules (Some (codes "m", (m ∷ ms) ∷ [])) (settled_rows leaf.rules (Some (codes "n", (n ∷ ns) ∷ [])) (settled_rows leaf.rules (Some (codes "seed", (x ∷ xs) ∷ [])) (settled_rows leaf.rules (Some (codes "family", (codes "scatter") ∷ [])) (settled_rows leaf.rules None []))))) (Some (codes "side", (k ∷ ks) ∷ [])) idle 5) (codes "--seed") ((x ∷ xs) ∷ (n ∷ ns) ∷ (m ∷ ms) ∷ (k ∷ ks) ∷ []) (seed_after_family_passes (settled_rows leaf.rules None []) ((codes "scatter") ∷ []) 2 refl)
    (seed_after_family (settled_rows leaf.rules None []) ((codes "scatter") ∷ []) 2) (run_step (at (settled_rows leaf.rules (Some (codes "family", (codes "scatter") ∷ [])) (settled_rows leaf.rules None [])) (Some (codes "seed", [])) (option (codes "seed")) 2) (at (settled_rows leaf.rules (Some (codes "family", (codes "scatter") ∷ [])) (settled_rows leaf.rules None [])) (Some (codes "seed", (x ∷ xs) ∷ [])) idle 2) (at (settled_rows leaf.rules (Some (codes "m", (m ∷ ms) ∷ [])) (settled_rows leaf.rules (Some (codes "n", (n ∷ ns) ∷ [])) (settled_rows leaf.rules (Some (codes "seed", (x ∷ xs) ∷ [])) (settled_rows leaf.rules (Some (codes "family", (codes "scatter") ∷ [])) (settled_rows leaf.rules None []))))) (Some (codes "side", (k ∷ ks) ∷ [])) idle 5) (x ∷ xs) ((n ∷ ns) ∷ (m ∷ ms) ∷ (k ∷ ks) ∷ []) (seed_value_passes (settled_rows leaf.rules (Some (codes "family", (codes "scatter") ∷ [])) (settled_rows leaf.rules None [])) 2 x xs hx)
    (seed_value (settled_rows leaf.rules (Some (codes "family", (codes "scatter") ∷ [])) (settled_rows leaf.rules None [])) 2 x xs hx) (run_step (at (settled_rows leaf.rules (Some (codes "family", (codes "scatter") ∷ [])) (settled_rows leaf.rules None [])) (Some (codes "seed", (x ∷ xs) ∷ [])) idle 2) (at (settled_rows leaf.rules (Some (codes "seed", (x ∷ xs) ∷ [])) (settled_rows leaf.rules (Some (codes "family", (codes "scatter") ∷ [])) (settled_rows leaf.rules None []))) (Some (codes "n", (n ∷ ns) ∷ [])) idle 3) (at (settled_rows leaf.rules (Some (codes "m", (m ∷ ms) ∷ [])) (settled_rows leaf.rules (Some (codes "n", (n ∷ ns) ∷ [])) (settled_rows leaf.rules (Some (codes "seed", (x ∷ xs) ∷ [])) (settled_rows leaf.rules (Some (codes "family", (codes "scatter") ∷ [])) (settled_rows leaf.rules None []))))) (Some (codes "side", (k ∷ ks) ∷ [])) idle 5) (n ∷ ns) ((m ∷ ms) ∷ (k ∷ ks) ∷ []) (n_after_seed_passes (settled_rows leaf.rules (Some (codes "family", (codes "scatter") ∷ [])) (settled_rows leaf.rules None [])) ((x ∷ xs) ∷ []) n ns hn refl)
    (n_after_seed (settled_rows leaf.rules (Some (codes "family", (codes "scatter") ∷ [])) (settled_rows leaf.rules None [])) ((x ∷ xs) ∷ []) n ns hn) (run_step (at (settled_rows leaf.rules (Some (codes "seed", (x ∷ xs) ∷ [])) (settled_rows leaf.rules (Some (codes "family", (codes "scatter") ∷ [])) (settled_rows leaf.rules None []))) (Some (codes "n", (n ∷ ns) ∷ [])) idle 3) (at (settled_rows leaf.rules (Some (codes "n", (n ∷ ns) ∷ [])) (settled_rows leaf.rules (Some (codes "seed", (x ∷ xs) ∷ [])) (settled_rows leaf.rules (Some (codes "family", (codes "scatter") ∷ [])) (settled_rows leaf.rules None [])))) (Some (codes "m", (m ∷ ms) ∷ [])) idle 4) (at (settled_rows leaf.rules (Some (codes "m", (m ∷ ms) ∷ [])) (settled_rows leaf.rules (Some (codes "n", (n ∷ ns) ∷ [])) (settled_rows leaf.rules (Some (codes "seed", (x ∷ xs) ∷ [])) (settled_rows leaf.rules (Some (codes "family", (codes "scatter") ∷ [])) (settled_rows leaf.rules None []))))) (Some (codes "side", (k ∷ ks) ∷ [])) idle 5) (m ∷ ms) ((k ∷ ks) ∷ []) (m_word_passes (settled_rows leaf.rules (Some (codes "seed", (x ∷ xs) ∷ [])) (settled_rows leaf.rules (Some (codes "family", (codes "scatter") ∷ [])) (settled_rows leaf.rules None []))) ((n ∷ ns) ∷ []) m ms hm refl)
    (m_word (settled_rows leaf.rules (Some (codes "seed", (x ∷ xs) ∷ [])) (settled_rows leaf.rules (Some (codes "family", (codes "scatter") ∷ [])) (settled_rows leaf.rules None []))) ((n ∷ ns) ∷ []) m ms hm) (run_step (at (settled_rows leaf.rules (Some (codes "n", (n ∷ ns) ∷ [])) (settled_rows leaf.rules (Some (codes "seed", (x ∷ xs) ∷ [])) (settled_rows leaf.rules (Some (codes "family", (codes "scatter") ∷ [])) (settled_rows leaf.rules None [])))) (Some (codes "m", (m ∷ ms) ∷ [])) idle 4) (at (settled_rows leaf.rules (Some (codes "m", (m ∷ ms) ∷ [])) (settled_rows leaf.rules (Some (codes "n", (n ∷ ns) ∷ [])) (settled_rows leaf.rules (Some (codes "seed", (x ∷ xs) ∷ [])) (settled_rows leaf.rules (Some (codes "family", (codes "scatter") ∷ [])) (settled_rows leaf.rules None []))))) (Some (codes "side", (k ∷ ks) ∷ [])) idle 5) (at (settled_rows leaf.rules (Some (codes "m", (m ∷ ms) ∷ [])) (settled_rows leaf.rules (Some (codes "n", (n ∷ ns) ∷ [])) (settled_rows leaf.rules (Some (codes "seed", (x ∷ xs) ∷ [])) (settled_rows leaf.rules (Some (codes "family", (codes "scatter") ∷ [])) (settled_rows leaf.rules None []))))) (Some (codes "side", (k ∷ ks) ∷ [])) idle 5) (k ∷ ks) ([]) (side_word_passes (settled_rows leaf.rules (Some (codes "n", (n ∷ ns) ∷ [])) (settled_rows leaf.rules (Some (codes "seed", (x ∷ xs) ∷ [])) (settled_rows leaf.rules (Some (codes "family", (codes "scatter") ∷ [])) (settled_rows leaf.rules None [])))) ((m ∷ ms) ∷ []) k ks hk refl)
    (side_word (settled_rows leaf.rules (Some (codes "n", (n ∷ ns) ∷ [])) (settled_rows leaf.rules (Some (codes "seed", (x ∷ xs) ∷ [])) (settled_rows leaf.rules (Some (codes "family", (codes "scatter") ∷ [])) (settled_rows leaf.rules None [])))) ((m ∷ ms) ∷ []) k ks hk) (run_end (at (settled_rows leaf.rules (Some (codes "m", (m ∷ ms) ∷ [])) (settled_rows leaf.rules (Some (codes "n", (n ∷ ns) ∷ [])) (settled_rows leaf.rules (Some (codes "seed", (x ∷ xs) ∷ [])) (settled_rows leaf.rules (Some (codes "family", (codes "scatter") ∷ [])) (settled_rows leaf.rules None []))))) (Some (codes "side", (k ∷ ks) ∷ [])) idle 5)))))))) refl refl

pub scatter_joined2 : (n : ℕ) (ns : Text) (m : ℕ) (ms : Text) (k : ℕ) (ks : Text) (v : Text) → (n == 45) ≡ false → (m == 45) ≡ false → (k == 45) ≡ false → IsMakeRead ((codes "scatter") ∷ (n ∷ ns) ∷ (codes "--seed=" ++ v) ∷ (m ∷ ms) ∷ (k ∷ ks) ∷ []) (read_make (Some (codes "scatter")) (Some (n ∷ ns)) (Some (m ∷ ms)) (Some (k ∷ ks)) (Some v))
scatter_joined2 n ns m ms k ks v hn hm hk = from_run ((codes "scatter") ∷ (n ∷ ns) ∷ (codes "--seed=" ++ v) ∷ (m ∷ ms) ∷ (k ∷ ks) ∷ []) (at (settled_rows leaf.rules (Some (codes "m", (m ∷ ms) ∷ [])) (settled_rows leaf.rules None (used seed_rule (v ∷ []) (settled_rows leaf.rules (Some (codes "n", (n ∷ ns) ∷ [])) (settled_rows leaf.rules (Some (codes "family", (codes "scatter") ∷ [])) (settled_rows leaf.rules None [])))))) (Some (codes "side", (k ∷ ks) ∷ [])) idle 5) (read_make (Some (codes "scatter")) (Some (n ∷ ns)) (Some (m ∷ ms)) (Some (k ∷ ks)) (Some v)) (stops5 (codes "scatter") (n ∷ ns) (codes "--seed=" ++ v) (m ∷ ms) (k ∷ ks)) (above5 (codes "scatter") (n ∷ ns) (codes "--seed=" ++ v) (m ∷ ms) (k ∷ ks))
    (run_step (at [] None idle 1) (at (settled_rows leaf.rules None []) (Some (codes "family", (codes "scatter") ∷ [])) idle 2) (at (settled_rows leaf.rules (Some (codes "m", (m ∷ ms) ∷ [])) (settled_rows leaf.rules None (used seed_rule (v ∷ []) (settled_rows leaf.rules (Some (codes "n", (n ∷ ns) ∷ [])) (settled_rows leaf.rules (Some (codes "family", (codes "scatter") ∷ [])) (settled_rows leaf.rules None [])))))) (Some (codes "side", (k ∷ ks) ∷ [])) idle 5) (codes "scatter") ((n ∷ ns) ∷ (codes "--seed=" ++ v) ∷ (m ∷ ms) ∷ (k ∷ ks) ∷ []) (scatter_first_passes [] refl)
    (scatter_first []) (run_step (at (settled_rows leaf.rules None []) (Some (codes "family", (codes "scatter") ∷ [])) idle 2) (at (settled_rows leaf.rules (Some (codes "family", (codes "scatter") ∷ [])) (settled_rows leaf.rules None [])) (Some (codes "n", (n ∷ ns) ∷ [])) idle 3) (at (settled_rows leaf.rules (Some (codes "m", (m ∷ ms) ∷ [])) (settled_rows leaf.rules None (used seed_rule (v ∷ []) (settled_rows leaf.rules (Some (codes "n", (n ∷ ns) ∷ [])) (settled_rows leaf.rules (Some (codes "family", (codes "scatter") ∷ [])) (settled_rows leaf.rules None [])))))) (Some (codes "side", (k ∷ ks) ∷ [])) idle 5) (n ∷ ns) ((codes "--seed=" ++ v) ∷ (m ∷ ms) ∷ (k ∷ ks) ∷ []) (n_word_passes (settled_rows leaf.rules None []) ((codes "scatter") ∷ []) n ns hn refl)
    (n_word (settled_rows leaf.rules None []) ((codes "scatter") ∷ []) n ns hn) (run_step (at (settled_rows leaf.rules (Some (codes "family", (codes "scatter") ∷ [])) (settled_rows leaf.rules None [])) (Some (codes "n", (n ∷ ns) ∷ [])) idle 3) (at (used seed_rule (v ∷ []) (settled_rows leaf.rules (Some (codes "n", (n ∷ ns) ∷ [])) (settled_rows leaf.rules (Some (codes "family", (codes "scatter") ∷ [])) (settled_rows leaf.rules None [])))) None idle 3) (at (settled_rows leaf.rules (Some (codes "m", (m ∷ ms) ∷ [])) (settled_rows leaf.rules None (used seed_rule (v ∷ []) (settled_rows leaf.rules (Some (codes "n", (n ∷ ns) ∷ [])) (settled_rows leaf.rules (Some (codes "family", (codes "scatter") ∷ [])) (settled_rows leaf.rules None [])))))) (Some (codes "side", (k ∷ ks) ∷ [])) idle 5) (codes "--seed=" ++ v) ((m ∷ ms) ∷ (k ∷ ks) ∷ []) (joined_after_n_passes (settled_rows leaf.rules (Some (codes "family", (codes "scatter") ∷ [])) (settled_rows leaf.rules None [])) ((n ∷ ns) ∷ []) 3 v refl refl)
    (joined_after_n (settled_rows leaf.rules (Some (codes "family", (codes "scatter") ∷ [])) (settled_rows leaf.rules None [])) ((n ∷ ns) ∷ []) 3 v) (run_step (at (used seed_rule (v ∷ []) (settled_rows leaf.rules (Some (codes "n", (n ∷ ns) ∷ [])) (settled_rows leaf.rules (Some (codes "family", (codes "scatter") ∷ [])) (settled_rows leaf.rules None [])))) None idle 3) (at (settled_rows leaf.rules None (used seed_rule (v ∷ []) (settled_rows leaf.rules (Some (codes "n", (n ∷ ns) ∷ [])) (settled_rows leaf.rules (Some (codes "family", (codes "scatter") ∷ [])) (settled_rows leaf.rules None []))))) (Some (codes "m", (m ∷ ms) ∷ [])) idle 4) (at (settled_rows leaf.rules (Some (codes "m", (m ∷ ms) ∷ [])) (settled_rows leaf.rules None (used seed_rule (v ∷ []) (settled_rows leaf.rules (Some (codes "n", (n ∷ ns) ∷ [])) (settled_rows leaf.rules (Some (codes "family", (codes "scatter") ∷ [])) (settled_rows leaf.rules None [])))))) (Some (codes "side", (k ∷ ks) ∷ [])) idle 5) (m ∷ ms) ((k ∷ ks) ∷ []) (m_after_joined_passes (used seed_rule (v ∷ []) (settled_rows leaf.rules (Some (codes "n", (n ∷ ns) ∷ [])) (settled_rows leaf.rules (Some (codes "family", (codes "scatter") ∷ [])) (settled_rows leaf.rules None [])))) m ms hm refl)
    (m_after_joined (used seed_rule (v ∷ []) (settled_rows leaf.rules (Some (codes "n", (n ∷ ns) ∷ [])) (settled_rows leaf.rules (Some (codes "family", (codes "scatter") ∷ [])) (settled_rows leaf.rules None [])))) m ms hm) (run_step (at (settled_rows leaf.rules None (used seed_rule (v ∷ []) (settled_rows leaf.rules (Some (codes "n", (n ∷ ns) ∷ [])) (settled_rows leaf.rules (Some (codes "family", (codes "scatter") ∷ [])) (settled_rows leaf.rules None []))))) (Some (codes "m", (m ∷ ms) ∷ [])) idle 4) (at (settled_rows leaf.rules (Some (codes "m", (m ∷ ms) ∷ [])) (settled_rows leaf.rules None (used seed_rule (v ∷ []) (settled_rows leaf.rules (Some (codes "n", (n ∷ ns) ∷ [])) (settled_rows leaf.rules (Some (codes "family", (codes "scatter") ∷ [])) (settled_rows leaf.rules None [])))))) (Some (codes "side", (k ∷ ks) ∷ [])) idle 5) (at (settled_rows leaf.rules (Some (codes "m", (m ∷ ms) ∷ [])) (settled_rows leaf.rules None (used seed_rule (v ∷ []) (settled_rows leaf.rules (Some (codes "n", (n ∷ ns) ∷ [])) (settled_rows leaf.rules (Some (codes "family", (codes "scatter") ∷ [])) (settled_rows leaf.rules None [])))))) (Some (codes "side", (k ∷ ks) ∷ [])) idle 5) (k ∷ ks) ([]) (side_word_passes (settled_rows leaf.rules None (used seed_rule (v ∷ []) (settled_rows leaf.rules (Some (codes "n", (n ∷ ns) ∷ [])) (settled_rows leaf.rules (Some (codes "family", (codes "scatter") ∷ [])) (settled_rows leaf.rules None []))))) ((m ∷ ms) ∷ []) k ks hk refl)
    (side_word (settled_rows leaf.rules None (used seed_rule (v ∷ []) (settled_rows leaf.rules (Some (codes "n", (n ∷ ns) ∷ [])) (settled_rows leaf.rules (Some (codes "family", (codes "scatter") ∷ [])) (settled_rows leaf.rules None []))))) ((m ∷ ms) ∷ []) k ks hk) (run_end (at (settled_rows leaf.rules (Some (codes "m", (m ∷ ms) ∷ [])) (settled_rows leaf.rules None (used seed_rule (v ∷ []) (settled_rows leaf.rules (Some (codes "n", (n ∷ ns) ∷ [])) (settled_rows leaf.rules (Some (codes "family", (codes "scatter") ∷ [])) (settled_rows leaf.rules None [])))))) (Some (codes "side", (k ∷ ks) ∷ [])) idle 5))))))) refl refl

pub scatter_two2 : (n : ℕ) (ns : Text) (m : ℕ) (ms : Text) (k : ℕ) (ks : Text) (x : ℕ) (xs : Text) → (n == 45) ≡ false → (m == 45) ≡ false → (k == 45) ≡ false → (x == 45) ≡ false → IsMakeRead ((codes "scatter") ∷ (n ∷ ns) ∷ (codes "--seed") ∷ (x ∷ xs) ∷ (m ∷ ms) ∷ (k ∷ ks) ∷ []) (read_make (Some (codes "scatter")) (Some (n ∷ ns)) (Some (m ∷ ms)) (Some (k ∷ ks)) (Some (x ∷ xs)))
scatter_two2 n ns m ms k ks x xs hn hm hk hx = from_run ((codes "scatter") ∷ (n ∷ ns) ∷ (codes "--seed") ∷ (x ∷ xs) ∷ (m ∷ ms) ∷ (k ∷ ks) ∷ []) (at (settled_rows leaf.rules (Some (codes "m", (m ∷ ms) ∷ [])) (settled_rows leaf.rules (Some (codes "seed", (x ∷ xs) ∷ [])) (settled_rows leaf.rules (Some (codes "n", (n ∷ ns) ∷ [])) (settled_rows leaf.rules (Some (codes "family", (codes "scatter") ∷ [])) (settled_rows leaf.rules None []))))) (Some (codes "side", (k ∷ ks) ∷ [])) idle 5) (read_make (Some (codes "scatter")) (Some (n ∷ ns)) (Some (m ∷ ms)) (Some (k ∷ ks)) (Some (x ∷ xs))) (stops6 (codes "scatter") (n ∷ ns) (codes "--seed") (x ∷ xs) (m ∷ ms) (k ∷ ks)) (above6 (codes "scatter") (n ∷ ns) (codes "--seed") (x ∷ xs) (m ∷ ms) (k ∷ ks))
    (run_step (at [] None idle 1) (at (settled_rows leaf.rules None []) (Some (codes "family", (codes "scatter") ∷ [])) idle 2) (at (settled_rows leaf.rules (Some (codes "m", (m ∷ ms) ∷ [])) (settled_rows leaf.rules (Some (codes "seed", (x ∷ xs) ∷ [])) (settled_rows leaf.rules (Some (codes "n", (n ∷ ns) ∷ [])) (settled_rows leaf.rules (Some (codes "family", (codes "scatter") ∷ [])) (settled_rows leaf.rules None []))))) (Some (codes "side", (k ∷ ks) ∷ [])) idle 5) (codes "scatter") ((n ∷ ns) ∷ (codes "--seed") ∷ (x ∷ xs) ∷ (m ∷ ms) ∷ (k ∷ ks) ∷ []) (scatter_first_passes [] refl)
    (scatter_first []) (run_step (at (settled_rows leaf.rules None []) (Some (codes "family", (codes "scatter") ∷ [])) idle 2) (at (settled_rows leaf.rules (Some (codes "family", (codes "scatter") ∷ [])) (settled_rows leaf.rules None [])) (Some (codes "n", (n ∷ ns) ∷ [])) idle 3) (at (settled_rows leaf.rules (Some (codes "m", (m ∷ ms) ∷ [])) (settled_rows leaf.rules (Some (codes "seed", (x ∷ xs) ∷ [])) (settled_rows leaf.rules (Some (codes "n", (n ∷ ns) ∷ [])) (settled_rows leaf.rules (Some (codes "family", (codes "scatter") ∷ [])) (settled_rows leaf.rules None []))))) (Some (codes "side", (k ∷ ks) ∷ [])) idle 5) (n ∷ ns) ((codes "--seed") ∷ (x ∷ xs) ∷ (m ∷ ms) ∷ (k ∷ ks) ∷ []) (n_word_passes (settled_rows leaf.rules None []) ((codes "scatter") ∷ []) n ns hn refl)
    (n_word (settled_rows leaf.rules None []) ((codes "scatter") ∷ []) n ns hn) (run_step (at (settled_rows leaf.rules (Some (codes "family", (codes "scatter") ∷ [])) (settled_rows leaf.rules None [])) (Some (codes "n", (n ∷ ns) ∷ [])) idle 3) (at (settled_rows leaf.rules (Some (codes "n", (n ∷ ns) ∷ [])) (settled_rows leaf.rules (Some (codes "family", (codes "scatter") ∷ [])) (settled_rows leaf.rules None []))) (Some (codes "seed", [])) (option (codes "seed")) 3) (at (settled_rows leaf.rules (Some (codes "m", (m ∷ ms) ∷ [])) (settled_rows leaf.rules (Some (codes "seed", (x ∷ xs) ∷ [])) (settled_rows leaf.rules (Some (codes "n", (n ∷ ns) ∷ [])) (settled_rows leaf.rules (Some (codes "family", (codes "scatter") ∷ [])) (settled_rows leaf.rules None []))))) (Some (codes "side", (k ∷ ks) ∷ [])) idle 5) (codes "--seed") ((x ∷ xs) ∷ (m ∷ ms) ∷ (k ∷ ks) ∷ []) (seed_after_n_passes (settled_rows leaf.rules (Some (codes "family", (codes "scatter") ∷ [])) (settled_rows leaf.rules None [])) ((n ∷ ns) ∷ []) 3 refl)
    (seed_after_n (settled_rows leaf.rules (Some (codes "family", (codes "scatter") ∷ [])) (settled_rows leaf.rules None [])) ((n ∷ ns) ∷ []) 3) (run_step (at (settled_rows leaf.rules (Some (codes "n", (n ∷ ns) ∷ [])) (settled_rows leaf.rules (Some (codes "family", (codes "scatter") ∷ [])) (settled_rows leaf.rules None []))) (Some (codes "seed", [])) (option (codes "seed")) 3) (at (settled_rows leaf.rules (Some (codes "n", (n ∷ ns) ∷ [])) (settled_rows leaf.rules (Some (codes "family", (codes "scatter") ∷ [])) (settled_rows leaf.rules None []))) (Some (codes "seed", (x ∷ xs) ∷ [])) idle 3) (at (settled_rows leaf.rules (Some (codes "m", (m ∷ ms) ∷ [])) (settled_rows leaf.rules (Some (codes "seed", (x ∷ xs) ∷ [])) (settled_rows leaf.rules (Some (codes "n", (n ∷ ns) ∷ [])) (settled_rows leaf.rules (Some (codes "family", (codes "scatter") ∷ [])) (settled_rows leaf.rules None []))))) (Some (codes "side", (k ∷ ks) ∷ [])) idle 5) (x ∷ xs) ((m ∷ ms) ∷ (k ∷ ks) ∷ []) (seed_value_passes (settled_rows leaf.rules (Some (codes "n", (n ∷ ns) ∷ [])) (settled_rows leaf.rules (Some (codes "family", (codes "scatter") ∷ [])) (settled_rows leaf.rules None []))) 3 x xs hx)
    (seed_value (settled_rows leaf.rules (Some (codes "n", (n ∷ ns) ∷ [])) (settled_rows leaf.rules (Some (codes "family", (codes "scatter") ∷ [])) (settled_rows leaf.rules None []))) 3 x xs hx) (run_step (at (settled_rows leaf.rules (Some (codes "n", (n ∷ ns) ∷ [])) (settled_rows leaf.rules (Some (codes "family", (codes "scatter") ∷ [])) (settled_rows leaf.rules None []))) (Some (codes "seed", (x ∷ xs) ∷ [])) idle 3) (at (settled_rows leaf.rules (Some (codes "seed", (x ∷ xs) ∷ [])) (settled_rows leaf.rules (Some (codes "n", (n ∷ ns) ∷ [])) (settled_rows leaf.rules (Some (codes "family", (codes "scatter") ∷ [])) (settled_rows leaf.rules None [])))) (Some (codes "m", (m ∷ ms) ∷ [])) idle 4) (at (settled_rows leaf.rules (Some (codes "m", (m ∷ ms) ∷ [])) (settled_rows leaf.rules (Some (codes "seed", (x ∷ xs) ∷ [])) (settled_rows leaf.rules (Some (codes "n", (n ∷ ns) ∷ [])) (settled_rows leaf.rules (Some (codes "family", (codes "scatter") ∷ [])) (settled_rows leaf.rules None []))))) (Some (codes "side", (k ∷ ks) ∷ [])) idle 5) (m ∷ ms) ((k ∷ ks) ∷ []) (m_after_seed_passes (settled_rows leaf.rules (Some (codes "n", (n ∷ ns) ∷ [])) (settled_rows leaf.rules (Some (codes "family", (codes "scatter") ∷ [])) (settled_rows leaf.rules None []))) ((x ∷ xs) ∷ []) m ms hm refl)
    (m_after_seed (settled_rows leaf.rules (Some (codes "n", (n ∷ ns) ∷ [])) (settled_rows leaf.rules (Some (codes "family", (codes "scatter") ∷ [])) (settled_rows leaf.rules None []))) ((x ∷ xs) ∷ []) m ms hm) (run_step (at (settled_rows leaf.rules (Some (codes "seed", (x ∷ xs) ∷ [])) (settled_rows leaf.rules (Some (codes "n", (n ∷ ns) ∷ [])) (settled_rows leaf.rules (Some (codes "family", (codes "scatter") ∷ [])) (settled_rows leaf.rules None [])))) (Some (codes "m", (m ∷ ms) ∷ [])) idle 4) (at (settled_rows leaf.rules (Some (codes "m", (m ∷ ms) ∷ [])) (settled_rows leaf.rules (Some (codes "seed", (x ∷ xs) ∷ [])) (settled_rows leaf.rules (Some (codes "n", (n ∷ ns) ∷ [])) (settled_rows leaf.rules (Some (codes "family", (codes "scatter") ∷ [])) (settled_rows leaf.rules None []))))) (Some (codes "side", (k ∷ ks) ∷ [])) idle 5) (at (settled_rows leaf.rules (Some (codes "m", (m ∷ ms) ∷ [])) (settled_rows leaf.rules (Some (codes "seed", (x ∷ xs) ∷ [])) (settled_rows leaf.rules (Some (codes "n", (n ∷ ns) ∷ [])) (settled_rows leaf.rules (Some (codes "family", (codes "scatter") ∷ [])) (settled_rows leaf.rules None []))))) (Some (codes "side", (k ∷ ks) ∷ [])) idle 5) (k ∷ ks) ([]) (side_word_passes (settled_rows leaf.rules (Some (codes "seed", (x ∷ xs) ∷ [])) (settled_rows leaf.rules (Some (codes "n", (n ∷ ns) ∷ [])) (settled_rows leaf.rules (Some (codes "family", (codes "scatter") ∷ [])) (settled_rows leaf.rules None [])))) ((m ∷ ms) ∷ []) k ks hk refl)
    (side_word (settled_rows leaf.rules (Some (codes "seed", (x ∷ xs) ∷ [])) (settled_rows leaf.rules (Some (codes "n", (n ∷ ns) ∷ [])) (settled_rows leaf.rules (Some (codes "family", (codes "scatter") ∷ [])) (settled_rows leaf.rules None [])))) ((m ∷ ms) ∷ []) k ks hk) (run_end (at (settled_rows leaf.rules (Some (codes "m", (m ∷ ms) ∷ [])) (settled_rows leaf.rules (Some (codes "seed", (x ∷ xs) ∷ [])) (settled_rows leaf.rules (Some (codes "n", (n ∷ ns) ∷ [])) (settled_rows leaf.rules (Some (codes "family", (codes "scatter") ∷ [])) (settled_rows leaf.rules None []))))) (Some (codes "side", (k ∷ ks) ∷ [])) idle 5)))))))) refl refl

pub scatter_joined3 : (n : ℕ) (ns : Text) (m : ℕ) (ms : Text) (k : ℕ) (ks : Text) (v : Text) → (n == 45) ≡ false → (m == 45) ≡ false → (k == 45) ≡ false → IsMakeRead ((codes "scatter") ∷ (n ∷ ns) ∷ (m ∷ ms) ∷ (codes "--seed=" ++ v) ∷ (k ∷ ks) ∷ []) (read_make (Some (codes "scatter")) (Some (n ∷ ns)) (Some (m ∷ ms)) (Some (k ∷ ks)) (Some v))
scatter_joined3 n ns m ms k ks v hn hm hk = from_run ((codes "scatter") ∷ (n ∷ ns) ∷ (m ∷ ms) ∷ (codes "--seed=" ++ v) ∷ (k ∷ ks) ∷ []) (at (settled_rows leaf.rules None (used seed_rule (v ∷ []) (settled_rows leaf.rules (Some (codes "m", (m ∷ ms) ∷ [])) (settled_rows leaf.rules (Some (codes "n", (n ∷ ns) ∷ [])) (settled_rows leaf.rules (Some (codes "family", (codes "scatter") ∷ [])) (settled_rows leaf.rules None [])))))) (Some (codes "side", (k ∷ ks) ∷ [])) idle 5) (read_make (Some (codes "scatter")) (Some (n ∷ ns)) (Some (m ∷ ms)) (Some (k ∷ ks)) (Some v)) (stops5 (codes "scatter") (n ∷ ns) (m ∷ ms) (codes "--seed=" ++ v) (k ∷ ks)) (above5 (codes "scatter") (n ∷ ns) (m ∷ ms) (codes "--seed=" ++ v) (k ∷ ks))
    (run_step (at [] None idle 1) (at (settled_rows leaf.rules None []) (Some (codes "family", (codes "scatter") ∷ [])) idle 2) (at (settled_rows leaf.rules None (used seed_rule (v ∷ []) (settled_rows leaf.rules (Some (codes "m", (m ∷ ms) ∷ [])) (settled_rows leaf.rules (Some (codes "n", (n ∷ ns) ∷ [])) (settled_rows leaf.rules (Some (codes "family", (codes "scatter") ∷ [])) (settled_rows leaf.rules None [])))))) (Some (codes "side", (k ∷ ks) ∷ [])) idle 5) (codes "scatter") ((n ∷ ns) ∷ (m ∷ ms) ∷ (codes "--seed=" ++ v) ∷ (k ∷ ks) ∷ []) (scatter_first_passes [] refl)
    (scatter_first []) (run_step (at (settled_rows leaf.rules None []) (Some (codes "family", (codes "scatter") ∷ [])) idle 2) (at (settled_rows leaf.rules (Some (codes "family", (codes "scatter") ∷ [])) (settled_rows leaf.rules None [])) (Some (codes "n", (n ∷ ns) ∷ [])) idle 3) (at (settled_rows leaf.rules None (used seed_rule (v ∷ []) (settled_rows leaf.rules (Some (codes "m", (m ∷ ms) ∷ [])) (settled_rows leaf.rules (Some (codes "n", (n ∷ ns) ∷ [])) (settled_rows leaf.rules (Some (codes "family", (codes "scatter") ∷ [])) (settled_rows leaf.rules None [])))))) (Some (codes "side", (k ∷ ks) ∷ [])) idle 5) (n ∷ ns) ((m ∷ ms) ∷ (codes "--seed=" ++ v) ∷ (k ∷ ks) ∷ []) (n_word_passes (settled_rows leaf.rules None []) ((codes "scatter") ∷ []) n ns hn refl)
    (n_word (settled_rows leaf.rules None []) ((codes "scatter") ∷ []) n ns hn) (run_step (at (settled_rows leaf.rules (Some (codes "family", (codes "scatter") ∷ [])) (settled_rows leaf.rules None [])) (Some (codes "n", (n ∷ ns) ∷ [])) idle 3) (at (settled_rows leaf.rules (Some (codes "n", (n ∷ ns) ∷ [])) (settled_rows leaf.rules (Some (codes "family", (codes "scatter") ∷ [])) (settled_rows leaf.rules None []))) (Some (codes "m", (m ∷ ms) ∷ [])) idle 4) (at (settled_rows leaf.rules None (used seed_rule (v ∷ []) (settled_rows leaf.rules (Some (codes "m", (m ∷ ms) ∷ [])) (settled_rows leaf.rules (Some (codes "n", (n ∷ ns) ∷ [])) (settled_rows leaf.rules (Some (codes "family", (codes "scatter") ∷ [])) (settled_rows leaf.rules None [])))))) (Some (codes "side", (k ∷ ks) ∷ [])) idle 5) (m ∷ ms) ((codes "--seed=" ++ v) ∷ (k ∷ ks) ∷ []) (m_word_passes (settled_rows leaf.rules (Some (codes "family", (codes "scatter") ∷ [])) (settled_rows leaf.rules None [])) ((n ∷ ns) ∷ []) m ms hm refl)
    (m_word (settled_rows leaf.rules (Some (codes "family", (codes "scatter") ∷ [])) (settled_rows leaf.rules None [])) ((n ∷ ns) ∷ []) m ms hm) (run_step (at (settled_rows leaf.rules (Some (codes "n", (n ∷ ns) ∷ [])) (settled_rows leaf.rules (Some (codes "family", (codes "scatter") ∷ [])) (settled_rows leaf.rules None []))) (Some (codes "m", (m ∷ ms) ∷ [])) idle 4) (at (used seed_rule (v ∷ []) (settled_rows leaf.rules (Some (codes "m", (m ∷ ms) ∷ [])) (settled_rows leaf.rules (Some (codes "n", (n ∷ ns) ∷ [])) (settled_rows leaf.rules (Some (codes "family", (codes "scatter") ∷ [])) (settled_rows leaf.rules None []))))) None idle 4) (at (settled_rows leaf.rules None (used seed_rule (v ∷ []) (settled_rows leaf.rules (Some (codes "m", (m ∷ ms) ∷ [])) (settled_rows leaf.rules (Some (codes "n", (n ∷ ns) ∷ [])) (settled_rows leaf.rules (Some (codes "family", (codes "scatter") ∷ [])) (settled_rows leaf.rules None [])))))) (Some (codes "side", (k ∷ ks) ∷ [])) idle 5) (codes "--seed=" ++ v) ((k ∷ ks) ∷ []) (joined_after_m_passes (settled_rows leaf.rules (Some (codes "n", (n ∷ ns) ∷ [])) (settled_rows leaf.rules (Some (codes "family", (codes "scatter") ∷ [])) (settled_rows leaf.rules None []))) ((m ∷ ms) ∷ []) 4 v refl refl)
    (joined_after_m (settled_rows leaf.rules (Some (codes "n", (n ∷ ns) ∷ [])) (settled_rows leaf.rules (Some (codes "family", (codes "scatter") ∷ [])) (settled_rows leaf.rules None []))) ((m ∷ ms) ∷ []) 4 v) (run_step (at (used seed_rule (v ∷ []) (settled_rows leaf.rules (Some (codes "m", (m ∷ ms) ∷ [])) (settled_rows leaf.rules (Some (codes "n", (n ∷ ns) ∷ [])) (settled_rows leaf.rules (Some (codes "family", (codes "scatter") ∷ [])) (settled_rows leaf.rules None []))))) None idle 4) (at (settled_rows leaf.rules None (used seed_rule (v ∷ []) (settled_rows leaf.rules (Some (codes "m", (m ∷ ms) ∷ [])) (settled_rows leaf.rules (Some (codes "n", (n ∷ ns) ∷ [])) (settled_rows leaf.rules (Some (codes "family", (codes "scatter") ∷ [])) (settled_rows leaf.rules None [])))))) (Some (codes "side", (k ∷ ks) ∷ [])) idle 5) (at (settled_rows leaf.rules None (used seed_rule (v ∷ []) (settled_rows leaf.rules (Some (codes "m", (m ∷ ms) ∷ [])) (settled_rows leaf.rules (Some (codes "n", (n ∷ ns) ∷ [])) (settled_rows leaf.rules (Some (codes "family", (codes "scatter") ∷ [])) (settled_rows leaf.rules None [])))))) (Some (codes "side", (k ∷ ks) ∷ [])) idle 5) (k ∷ ks) ([]) (side_after_joined_passes (used seed_rule (v ∷ []) (settled_rows leaf.rules (Some (codes "m", (m ∷ ms) ∷ [])) (settled_rows leaf.rules (Some (codes "n", (n ∷ ns) ∷ [])) (settled_rows leaf.rules (Some (codes "family", (codes "scatter") ∷ [])) (settled_rows leaf.rules None []))))) k ks hk refl)
    (side_after_joined (used seed_rule (v ∷ []) (settled_rows leaf.rules (Some (codes "m", (m ∷ ms) ∷ [])) (settled_rows leaf.rules (Some (codes "n", (n ∷ ns) ∷ [])) (settled_rows leaf.rules (Some (codes "family", (codes "scatter") ∷ [])) (settled_rows leaf.rules None []))))) k ks hk) (run_end (at (settled_rows leaf.rules None (used seed_rule (v ∷ []) (settled_rows leaf.rules (Some (codes "m", (m ∷ ms) ∷ [])) (settled_rows leaf.rules (Some (codes "n", (n ∷ ns) ∷ [])) (settled_rows leaf.rules (Some (codes "family", (codes "scatter") ∷ [])) (settled_rows leaf.rules None [])))))) (Some (codes "side", (k ∷ ks) ∷ [])) idle 5))))))) refl refl

pub scatter_two3 : (n : ℕ) (ns : Text) (m : ℕ) (ms : Text) (k : ℕ) (ks : Text) (x : ℕ) (xs : Text) → (n == 45) ≡ false → (m == 45) ≡ false → (k == 45) ≡ false → (x == 45) ≡ false → IsMakeRead ((codes "scatter") ∷ (n ∷ ns) ∷ (m ∷ ms) ∷ (codes "--seed") ∷ (x ∷ xs) ∷ (k ∷ ks) ∷ []) (read_make (Some (codes "scatter")) (Some (n ∷ ns)) (Some (m ∷ ms)) (Some (k ∷ ks)) (Some (x ∷ xs)))
scatter_two3 n ns m ms k ks x xs hn hm hk hx = from_run ((codes "scatter") ∷ (n ∷ ns) ∷ (m ∷ ms) ∷ (codes "--seed") ∷ (x ∷ xs) ∷ (k ∷ ks) ∷ []) (at (settled_rows leaf.rules (Some (codes "seed", (x ∷ xs) ∷ [])) (settled_rows leaf.rules (Some (codes "m", (m ∷ ms) ∷ [])) (settled_rows leaf.rules (Some (codes "n", (n ∷ ns) ∷ [])) (settled_rows leaf.rules (Some (codes "family", (codes "scatter") ∷ [])) (settled_rows leaf.rules None []))))) (Some (codes "side", (k ∷ ks) ∷ [])) idle 5) (read_make (Some (codes "scatter")) (Some (n ∷ ns)) (Some (m ∷ ms)) (Some (k ∷ ks)) (Some (x ∷ xs))) (stops6 (codes "scatter") (n ∷ ns) (m ∷ ms) (codes "--seed") (x ∷ xs) (k ∷ ks)) (above6 (codes "scatter") (n ∷ ns) (m ∷ ms) (codes "--seed") (x ∷ xs) (k ∷ ks))
    (run_step (at [] None idle 1) (at (settled_rows leaf.rules None []) (Some (codes "family", (codes "scatter") ∷ [])) idle 2) (at (settled_rows leaf.rules (Some (codes "seed", (x ∷ xs) ∷ [])) (settled_rows leaf.rules (Some (codes "m", (m ∷ ms) ∷ [])) (settled_rows leaf.rules (Some (codes "n", (n ∷ ns) ∷ [])) (settled_rows leaf.rules (Some (codes "family", (codes "scatter") ∷ [])) (settled_rows leaf.rules None []))))) (Some (codes "side", (k ∷ ks) ∷ [])) idle 5) (codes "scatter") ((n ∷ ns) ∷ (m ∷ ms) ∷ (codes "--seed") ∷ (x ∷ xs) ∷ (k ∷ ks) ∷ []) (scatter_first_passes [] refl)
    (scatter_first []) (run_step (at (settled_rows leaf.rules None []) (Some (codes "family", (codes "scatter") ∷ [])) idle 2) (at (settled_rows leaf.rules (Some (codes "family", (codes "scatter") ∷ [])) (settled_rows leaf.rules None [])) (Some (codes "n", (n ∷ ns) ∷ [])) idle 3) (at (settled_rows leaf.rules (Some (codes "seed", (x ∷ xs) ∷ [])) (settled_rows leaf.rules (Some (codes "m", (m ∷ ms) ∷ [])) (settled_rows leaf.rules (Some (codes "n", (n ∷ ns) ∷ [])) (settled_rows leaf.rules (Some (codes "family", (codes "scatter") ∷ [])) (settled_rows leaf.rules None []))))) (Some (codes "side", (k ∷ ks) ∷ [])) idle 5) (n ∷ ns) ((m ∷ ms) ∷ (codes "--seed") ∷ (x ∷ xs) ∷ (k ∷ ks) ∷ []) (n_word_passes (settled_rows leaf.rules None []) ((codes "scatter") ∷ []) n ns hn refl)
    (n_word (settled_rows leaf.rules None []) ((codes "scatter") ∷ []) n ns hn) (run_step (at (settled_rows leaf.rules (Some (codes "family", (codes "scatter") ∷ [])) (settled_rows leaf.rules None [])) (Some (codes "n", (n ∷ ns) ∷ [])) idle 3) (at (settled_rows leaf.rules (Some (codes "n", (n ∷ ns) ∷ [])) (settled_rows leaf.rules (Some (codes "family", (codes "scatter") ∷ [])) (settled_rows leaf.rules None []))) (Some (codes "m", (m ∷ ms) ∷ [])) idle 4) (at (settled_rows leaf.rules (Some (codes "seed", (x ∷ xs) ∷ [])) (settled_rows leaf.rules (Some (codes "m", (m ∷ ms) ∷ [])) (settled_rows leaf.rules (Some (codes "n", (n ∷ ns) ∷ [])) (settled_rows leaf.rules (Some (codes "family", (codes "scatter") ∷ [])) (settled_rows leaf.rules None []))))) (Some (codes "side", (k ∷ ks) ∷ [])) idle 5) (m ∷ ms) ((codes "--seed") ∷ (x ∷ xs) ∷ (k ∷ ks) ∷ []) (m_word_passes (settled_rows leaf.rules (Some (codes "family", (codes "scatter") ∷ [])) (settled_rows leaf.rules None [])) ((n ∷ ns) ∷ []) m ms hm refl)
    (m_word (settled_rows leaf.rules (Some (codes "family", (codes "scatter") ∷ [])) (settled_rows leaf.rules None [])) ((n ∷ ns) ∷ []) m ms hm) (run_step (at (settled_rows leaf.rules (Some (codes "n", (n ∷ ns) ∷ [])) (settled_rows leaf.rules (Some (codes "family", (codes "scatter") ∷ [])) (settled_rows leaf.rules None []))) (Some (codes "m", (m ∷ ms) ∷ [])) idle 4) (at (settled_rows leaf.rules (Some (codes "m", (m ∷ ms) ∷ [])) (settled_rows leaf.rules (Some (codes "n", (n ∷ ns) ∷ [])) (settled_rows leaf.rules (Some (codes "family", (codes "scatter") ∷ [])) (settled_rows leaf.rules None [])))) (Some (codes "seed", [])) (option (codes "seed")) 4) (at (settled_rows leaf.rules (Some (codes "seed", (x ∷ xs) ∷ [])) (settled_rows leaf.rules (Some (codes "m", (m ∷ ms) ∷ [])) (settled_rows leaf.rules (Some (codes "n", (n ∷ ns) ∷ [])) (settled_rows leaf.rules (Some (codes "family", (codes "scatter") ∷ [])) (settled_rows leaf.rules None []))))) (Some (codes "side", (k ∷ ks) ∷ [])) idle 5) (codes "--seed") ((x ∷ xs) ∷ (k ∷ ks) ∷ []) (seed_after_m_passes (settled_rows leaf.rules (Some (codes "n", (n ∷ ns) ∷ [])) (settled_rows leaf.rules (Some (codes "family", (codes "scatter") ∷ [])) (settled_rows leaf.rules None []))) ((m ∷ ms) ∷ []) 4 refl)
    (seed_after_m (settled_rows leaf.rules (Some (codes "n", (n ∷ ns) ∷ [])) (settled_rows leaf.rules (Some (codes "family", (codes "scatter") ∷ [])) (settled_rows leaf.rules None []))) ((m ∷ ms) ∷ []) 4) (run_step (at (settled_rows leaf.rules (Some (codes "m", (m ∷ ms) ∷ [])) (settled_rows leaf.rules (Some (codes "n", (n ∷ ns) ∷ [])) (settled_rows leaf.rules (Some (codes "family", (codes "scatter") ∷ [])) (settled_rows leaf.rules None [])))) (Some (codes "seed", [])) (option (codes "seed")) 4) (at (settled_rows leaf.rules (Some (codes "m", (m ∷ ms) ∷ [])) (settled_rows leaf.rules (Some (codes "n", (n ∷ ns) ∷ [])) (settled_rows leaf.rules (Some (codes "family", (codes "scatter") ∷ [])) (settled_rows leaf.rules None [])))) (Some (codes "seed", (x ∷ xs) ∷ [])) idle 4) (at (settled_rows leaf.rules (Some (codes "seed", (x ∷ xs) ∷ [])) (settled_rows leaf.rules (Some (codes "m", (m ∷ ms) ∷ [])) (settled_rows leaf.rules (Some (codes "n", (n ∷ ns) ∷ [])) (settled_rows leaf.rules (Some (codes "family", (codes "scatter") ∷ [])) (settled_rows leaf.rules None []))))) (Some (codes "side", (k ∷ ks) ∷ [])) idle 5) (x ∷ xs) ((k ∷ ks) ∷ []) (seed_value_passes (settled_rows leaf.rules (Some (codes "m", (m ∷ ms) ∷ [])) (settled_rows leaf.rules (Some (codes "n", (n ∷ ns) ∷ [])) (settled_rows leaf.rules (Some (codes "family", (codes "scatter") ∷ [])) (settled_rows leaf.rules None [])))) 4 x xs hx)
    (seed_value (settled_rows leaf.rules (Some (codes "m", (m ∷ ms) ∷ [])) (settled_rows leaf.rules (Some (codes "n", (n ∷ ns) ∷ [])) (settled_rows leaf.rules (Some (codes "family", (codes "scatter") ∷ [])) (settled_rows leaf.rules None [])))) 4 x xs hx) (run_step (at (settled_rows leaf.rules (Some (codes "m", (m ∷ ms) ∷ [])) (settled_rows leaf.rules (Some (codes "n", (n ∷ ns) ∷ [])) (settled_rows leaf.rules (Some (codes "family", (codes "scatter") ∷ [])) (settled_rows leaf.rules None [])))) (Some (codes "seed", (x ∷ xs) ∷ [])) idle 4) (at (settled_rows leaf.rules (Some (codes "seed", (x ∷ xs) ∷ [])) (settled_rows leaf.rules (Some (codes "m", (m ∷ ms) ∷ [])) (settled_rows leaf.rules (Some (codes "n", (n ∷ ns) ∷ [])) (settled_rows leaf.rules (Some (codes "family", (codes "scatter") ∷ [])) (settled_rows leaf.rules None []))))) (Some (codes "side", (k ∷ ks) ∷ [])) idle 5) (at (settled_rows leaf.rules (Some (codes "seed", (x ∷ xs) ∷ [])) (settled_rows leaf.rules (Some (codes "m", (m ∷ ms) ∷ [])) (settled_rows leaf.rules (Some (codes "n", (n ∷ ns) ∷ [])) (settled_rows leaf.rules (Some (codes "family", (codes "scatter") ∷ [])) (settled_rows leaf.rules None []))))) (Some (codes "side", (k ∷ ks) ∷ [])) idle 5) (k ∷ ks) ([]) (side_after_seed_passes (settled_rows leaf.rules (Some (codes "m", (m ∷ ms) ∷ [])) (settled_rows leaf.rules (Some (codes "n", (n ∷ ns) ∷ [])) (settled_rows leaf.rules (Some (codes "family", (codes "scatter") ∷ [])) (settled_rows leaf.rules None [])))) ((x ∷ xs) ∷ []) k ks hk refl)
    (side_after_seed (settled_rows leaf.rules (Some (codes "m", (m ∷ ms) ∷ [])) (settled_rows leaf.rules (Some (codes "n", (n ∷ ns) ∷ [])) (settled_rows leaf.rules (Some (codes "family", (codes "scatter") ∷ [])) (settled_rows leaf.rules None [])))) ((x ∷ xs) ∷ []) k ks hk) (run_end (at (settled_rows leaf.rules (Some (codes "seed", (x ∷ xs) ∷ [])) (settled_rows leaf.rules (Some (codes "m", (m ∷ ms) ∷ [])) (settled_rows leaf.rules (Some (codes "n", (n ∷ ns) ∷ [])) (settled_rows leaf.rules (Some (codes "family", (codes "scatter") ∷ [])) (settled_rows leaf.rules None []))))) (Some (codes "side", (k ∷ ks) ∷ [])) idle 5)))))))) refl refl

pub scatter_joined4 : (n : ℕ) (ns : Text) (m : ℕ) (ms : Text) (k : ℕ) (ks : Text) (v : Text) → (n == 45) ≡ false → (m == 45) ≡ false → (k == 45) ≡ false → IsMakeRead ((codes "scatter") ∷ (n ∷ ns) ∷ (m ∷ ms) ∷ (k ∷ ks) ∷ (codes "--seed=" ++ v) ∷ []) (read_make (Some (codes "scatter")) (Some (n ∷ ns)) (Some (m ∷ ms)) (Some (k ∷ ks)) (Some v))
scatter_joined4 n ns m ms k ks v hn hm hk = from_run ((codes "scatter") ∷ (n ∷ ns) ∷ (m ∷ ms) ∷ (k ∷ ks) ∷ (codes "--seed=" ++ v) ∷ []) (at (used seed_rule (v ∷ []) (settled_rows leaf.rules (Some (codes "side", (k ∷ ks) ∷ [])) (settled_rows leaf.rules (Some (codes "m", (m ∷ ms) ∷ [])) (settled_rows leaf.rules (Some (codes "n", (n ∷ ns) ∷ [])) (settled_rows leaf.rules (Some (codes "family", (codes "scatter") ∷ [])) (settled_rows leaf.rules None [])))))) None idle 5) (read_make (Some (codes "scatter")) (Some (n ∷ ns)) (Some (m ∷ ms)) (Some (k ∷ ks)) (Some v)) (stops5 (codes "scatter") (n ∷ ns) (m ∷ ms) (k ∷ ks) (codes "--seed=" ++ v)) (above5 (codes "scatter") (n ∷ ns) (m ∷ ms) (k ∷ ks) (codes "--seed=" ++ v))
    (run_step (at [] None idle 1) (at (settled_rows leaf.rules None []) (Some (codes "family", (codes "scatter") ∷ [])) idle 2) (at (used seed_rule (v ∷ []) (settled_rows leaf.rules (Some (codes "side", (k ∷ ks) ∷ [])) (settled_rows leaf.rules (Some (codes "m", (m ∷ ms) ∷ [])) (settled_rows leaf.rules (Some (codes "n", (n ∷ ns) ∷ [])) (settled_rows leaf.rules (Some (codes "family", (codes "scatter") ∷ [])) (settled_rows leaf.rules None [])))))) None idle 5) (codes "scatter") ((n ∷ ns) ∷ (m ∷ ms) ∷ (k ∷ ks) ∷ (codes "--seed=" ++ v) ∷ []) (scatter_first_passes [] refl)
    (scatter_first []) (run_step (at (settled_rows leaf.rules None []) (Some (codes "family", (codes "scatter") ∷ [])) idle 2) (at (settled_rows leaf.rules (Some (codes "family", (codes "scatter") ∷ [])) (settled_rows leaf.rules None [])) (Some (codes "n", (n ∷ ns) ∷ [])) idle 3) (at (used seed_rule (v ∷ []) (settled_rows leaf.rules (Some (codes "side", (k ∷ ks) ∷ [])) (settled_rows leaf.rules (Some (codes "m", (m ∷ ms) ∷ [])) (settled_rows leaf.rules (Some (codes "n", (n ∷ ns) ∷ [])) (settled_rows leaf.rules (Some (codes "family", (codes "scatter") ∷ [])) (settled_rows leaf.rules None [])))))) None idle 5) (n ∷ ns) ((m ∷ ms) ∷ (k ∷ ks) ∷ (codes "--seed=" ++ v) ∷ []) (n_word_passes (settled_rows leaf.rules None []) ((codes "scatter") ∷ []) n ns hn refl)
    (n_word (settled_rows leaf.rules None []) ((codes "scatter") ∷ []) n ns hn) (run_step (at (settled_rows leaf.rules (Some (codes "family", (codes "scatter") ∷ [])) (settled_rows leaf.rules None [])) (Some (codes "n", (n ∷ ns) ∷ [])) idle 3) (at (settled_rows leaf.rules (Some (codes "n", (n ∷ ns) ∷ [])) (settled_rows leaf.rules (Some (codes "family", (codes "scatter") ∷ [])) (settled_rows leaf.rules None []))) (Some (codes "m", (m ∷ ms) ∷ [])) idle 4) (at (used seed_rule (v ∷ []) (settled_rows leaf.rules (Some (codes "side", (k ∷ ks) ∷ [])) (settled_rows leaf.rules (Some (codes "m", (m ∷ ms) ∷ [])) (settled_rows leaf.rules (Some (codes "n", (n ∷ ns) ∷ [])) (settled_rows leaf.rules (Some (codes "family", (codes "scatter") ∷ [])) (settled_rows leaf.rules None [])))))) None idle 5) (m ∷ ms) ((k ∷ ks) ∷ (codes "--seed=" ++ v) ∷ []) (m_word_passes (settled_rows leaf.rules (Some (codes "family", (codes "scatter") ∷ [])) (settled_rows leaf.rules None [])) ((n ∷ ns) ∷ []) m ms hm refl)
    (m_word (settled_rows leaf.rules (Some (codes "family", (codes "scatter") ∷ [])) (settled_rows leaf.rules None [])) ((n ∷ ns) ∷ []) m ms hm) (run_step (at (settled_rows leaf.rules (Some (codes "n", (n ∷ ns) ∷ [])) (settled_rows leaf.rules (Some (codes "family", (codes "scatter") ∷ [])) (settled_rows leaf.rules None []))) (Some (codes "m", (m ∷ ms) ∷ [])) idle 4) (at (settled_rows leaf.rules (Some (codes "m", (m ∷ ms) ∷ [])) (settled_rows leaf.rules (Some (codes "n", (n ∷ ns) ∷ [])) (settled_rows leaf.rules (Some (codes "family", (codes "scatter") ∷ [])) (settled_rows leaf.rules None [])))) (Some (codes "side", (k ∷ ks) ∷ [])) idle 5) (at (used seed_rule (v ∷ []) (settled_rows leaf.rules (Some (codes "side", (k ∷ ks) ∷ [])) (settled_rows leaf.rules (Some (codes "m", (m ∷ ms) ∷ [])) (settled_rows leaf.rules (Some (codes "n", (n ∷ ns) ∷ [])) (settled_rows leaf.rules (Some (codes "family", (codes "scatter") ∷ [])) (settled_rows leaf.rules None [])))))) None idle 5) (k ∷ ks) ((codes "--seed=" ++ v) ∷ []) (side_word_passes (settled_rows leaf.rules (Some (codes "n", (n ∷ ns) ∷ [])) (settled_rows leaf.rules (Some (codes "family", (codes "scatter") ∷ [])) (settled_rows leaf.rules None []))) ((m ∷ ms) ∷ []) k ks hk refl)
    (side_word (settled_rows leaf.rules (Some (codes "n", (n ∷ ns) ∷ [])) (settled_rows leaf.rules (Some (codes "family", (codes "scatter") ∷ [])) (settled_rows leaf.rules None []))) ((m ∷ ms) ∷ []) k ks hk) (run_step (at (settled_rows leaf.rules (Some (codes "m", (m ∷ ms) ∷ [])) (settled_rows leaf.rules (Some (codes "n", (n ∷ ns) ∷ [])) (settled_rows leaf.rules (Some (codes "family", (codes "scatter") ∷ [])) (settled_rows leaf.rules None [])))) (Some (codes "side", (k ∷ ks) ∷ [])) idle 5) (at (used seed_rule (v ∷ []) (settled_rows leaf.rules (Some (codes "side", (k ∷ ks) ∷ [])) (settled_rows leaf.rules (Some (codes "m", (m ∷ ms) ∷ [])) (settled_rows leaf.rules (Some (codes "n", (n ∷ ns) ∷ [])) (settled_rows leaf.rules (Some (codes "family", (codes "scatter") ∷ [])) (settled_rows leaf.rules None [])))))) None idle 5) (at (used seed_rule (v ∷ []) (settled_rows leaf.rules (Some (codes "side", (k ∷ ks) ∷ [])) (settled_rows leaf.rules (Some (codes "m", (m ∷ ms) ∷ [])) (settled_rows leaf.rules (Some (codes "n", (n ∷ ns) ∷ [])) (settled_rows leaf.rules (Some (codes "family", (codes "scatter") ∷ [])) (settled_rows leaf.rules None [])))))) None idle 5) (codes "--seed=" ++ v) ([]) (joined_after_side_passes (settled_rows leaf.rules (Some (codes "m", (m ∷ ms) ∷ [])) (settled_rows leaf.rules (Some (codes "n", (n ∷ ns) ∷ [])) (settled_rows leaf.rules (Some (codes "family", (codes "scatter") ∷ [])) (settled_rows leaf.rules None [])))) ((k ∷ ks) ∷ []) 5 v refl refl)
    (joined_after_side (settled_rows leaf.rules (Some (codes "m", (m ∷ ms) ∷ [])) (settled_rows leaf.rules (Some (codes "n", (n ∷ ns) ∷ [])) (settled_rows leaf.rules (Some (codes "family", (codes "scatter") ∷ [])) (settled_rows leaf.rules None [])))) ((k ∷ ks) ∷ []) 5 v) (run_end (at (used seed_rule (v ∷ []) (settled_rows leaf.rules (Some (codes "side", (k ∷ ks) ∷ [])) (settled_rows leaf.rules (Some (codes "m", (m ∷ ms) ∷ [])) (settled_rows leaf.rules (Some (codes "n", (n ∷ ns) ∷ [])) (settled_rows leaf.rules (Some (codes "family", (codes "scatter") ∷ [])) (settled_rows leaf.rules None [])))))) None idle 5))))))) refl refl

pub scatter_two4 : (n : ℕ) (ns : Text) (m : ℕ) (ms : Text) (k : ℕ) (ks : Text) (x : ℕ) (xs : Text) → (n == 45) ≡ false → (m == 45) ≡ false → (k == 45) ≡ false → (x == 45) ≡ false → IsMakeRead ((codes "scatter") ∷ (n ∷ ns) ∷ (m ∷ ms) ∷ (k ∷ ks) ∷ (codes "--seed") ∷ (x ∷ xs) ∷ []) (read_make (Some (codes "scatter")) (Some (n ∷ ns)) (Some (m ∷ ms)) (Some (k ∷ ks)) (Some (x ∷ xs)))
scatter_two4 n ns m ms k ks x xs hn hm hk hx = from_run ((codes "scatter") ∷ (n ∷ ns) ∷ (m ∷ ms) ∷ (k ∷ ks) ∷ (codes "--seed") ∷ (x ∷ xs) ∷ []) (at (settled_rows leaf.rules (Some (codes "side", (k ∷ ks) ∷ [])) (settled_rows leaf.rules (Some (codes "m", (m ∷ ms) ∷ [])) (settled_rows leaf.rules (Some (codes "n", (n ∷ ns) ∷ [])) (settled_rows leaf.rules (Some (codes "family", (codes "scatter") ∷ [])) (settled_rows leaf.rules None []))))) (Some (codes "seed", (x ∷ xs) ∷ [])) idle 5) (read_make (Some (codes "scatter")) (Some (n ∷ ns)) (Some (m ∷ ms)) (Some (k ∷ ks)) (Some (x ∷ xs))) (stops6 (codes "scatter") (n ∷ ns) (m ∷ ms) (k ∷ ks) (codes "--seed") (x ∷ xs)) (above6 (codes "scatter") (n ∷ ns) (m ∷ ms) (k ∷ ks) (codes "--seed") (x ∷ xs))
    (run_step (at [] None idle 1) (at (settled_rows leaf.rules None []) (Some (codes "family", (codes "scatter") ∷ [])) idle 2) (at (settled_rows leaf.rules (Some (codes "side", (k ∷ ks) ∷ [])) (settled_rows leaf.rules (Some (codes "m", (m ∷ ms) ∷ [])) (settled_rows leaf.rules (Some (codes "n", (n ∷ ns) ∷ [])) (settled_rows leaf.rules (Some (codes "family", (codes "scatter") ∷ [])) (settled_rows leaf.rules None []))))) (Some (codes "seed", (x ∷ xs) ∷ [])) idle 5) (codes "scatter") ((n ∷ ns) ∷ (m ∷ ms) ∷ (k ∷ ks) ∷ (codes "--seed") ∷ (x ∷ xs) ∷ []) (scatter_first_passes [] refl)
    (scatter_first []) (run_step (at (settled_rows leaf.rules None []) (Some (codes "family", (codes "scatter") ∷ [])) idle 2) (at (settled_rows leaf.rules (Some (codes "family", (codes "scatter") ∷ [])) (settled_rows leaf.rules None [])) (Some (codes "n", (n ∷ ns) ∷ [])) idle 3) (at (settled_rows leaf.rules (Some (codes "side", (k ∷ ks) ∷ [])) (settled_rows leaf.rules (Some (codes "m", (m ∷ ms) ∷ [])) (settled_rows leaf.rules (Some (codes "n", (n ∷ ns) ∷ [])) (settled_rows leaf.rules (Some (codes "family", (codes "scatter") ∷ [])) (settled_rows leaf.rules None []))))) (Some (codes "seed", (x ∷ xs) ∷ [])) idle 5) (n ∷ ns) ((m ∷ ms) ∷ (k ∷ ks) ∷ (codes "--seed") ∷ (x ∷ xs) ∷ []) (n_word_passes (settled_rows leaf.rules None []) ((codes "scatter") ∷ []) n ns hn refl)
    (n_word (settled_rows leaf.rules None []) ((codes "scatter") ∷ []) n ns hn) (run_step (at (settled_rows leaf.rules (Some (codes "family", (codes "scatter") ∷ [])) (settled_rows leaf.rules None [])) (Some (codes "n", (n ∷ ns) ∷ [])) idle 3) (at (settled_rows leaf.rules (Some (codes "n", (n ∷ ns) ∷ [])) (settled_rows leaf.rules (Some (codes "family", (codes "scatter") ∷ [])) (settled_rows leaf.rules None []))) (Some (codes "m", (m ∷ ms) ∷ [])) idle 4) (at (settled_rows leaf.rules (Some (codes "side", (k ∷ ks) ∷ [])) (settled_rows leaf.rules (Some (codes "m", (m ∷ ms) ∷ [])) (settled_rows leaf.rules (Some (codes "n", (n ∷ ns) ∷ [])) (settled_rows leaf.rules (Some (codes "family", (codes "scatter") ∷ [])) (settled_rows leaf.rules None []))))) (Some (codes "seed", (x ∷ xs) ∷ [])) idle 5) (m ∷ ms) ((k ∷ ks) ∷ (codes "--seed") ∷ (x ∷ xs) ∷ []) (m_word_passes (settled_rows leaf.rules (Some (codes "family", (codes "scatter") ∷ [])) (settled_rows leaf.rules None [])) ((n ∷ ns) ∷ []) m ms hm refl)
    (m_word (settled_rows leaf.rules (Some (codes "family", (codes "scatter") ∷ [])) (settled_rows leaf.rules None [])) ((n ∷ ns) ∷ []) m ms hm) (run_step (at (settled_rows leaf.rules (Some (codes "n", (n ∷ ns) ∷ [])) (settled_rows leaf.rules (Some (codes "family", (codes "scatter") ∷ [])) (settled_rows leaf.rules None []))) (Some (codes "m", (m ∷ ms) ∷ [])) idle 4) (at (settled_rows leaf.rules (Some (codes "m", (m ∷ ms) ∷ [])) (settled_rows leaf.rules (Some (codes "n", (n ∷ ns) ∷ [])) (settled_rows leaf.rules (Some (codes "family", (codes "scatter") ∷ [])) (settled_rows leaf.rules None [])))) (Some (codes "side", (k ∷ ks) ∷ [])) idle 5) (at (settled_rows leaf.rules (Some (codes "side", (k ∷ ks) ∷ [])) (settled_rows leaf.rules (Some (codes "m", (m ∷ ms) ∷ [])) (settled_rows leaf.rules (Some (codes "n", (n ∷ ns) ∷ [])) (settled_rows leaf.rules (Some (codes "family", (codes "scatter") ∷ [])) (settled_rows leaf.rules None []))))) (Some (codes "seed", (x ∷ xs) ∷ [])) idle 5) (k ∷ ks) ((codes "--seed") ∷ (x ∷ xs) ∷ []) (side_word_passes (settled_rows leaf.rules (Some (codes "n", (n ∷ ns) ∷ [])) (settled_rows leaf.rules (Some (codes "family", (codes "scatter") ∷ [])) (settled_rows leaf.rules None []))) ((m ∷ ms) ∷ []) k ks hk refl)
    (side_word (settled_rows leaf.rules (Some (codes "n", (n ∷ ns) ∷ [])) (settled_rows leaf.rules (Some (codes "family", (codes "scatter") ∷ [])) (settled_rows leaf.rules None []))) ((m ∷ ms) ∷ []) k ks hk) (run_step (at (settled_rows leaf.rules (Some (codes "m", (m ∷ ms) ∷ [])) (settled_rows leaf.rules (Some (codes "n", (n ∷ ns) ∷ [])) (settled_rows leaf.rules (Some (codes "family", (codes "scatter") ∷ [])) (settled_rows leaf.rules None [])))) (Some (codes "side", (k ∷ ks) ∷ [])) idle 5) (at (settled_rows leaf.rules (Some (codes "side", (k ∷ ks) ∷ [])) (settled_rows leaf.rules (Some (codes "m", (m ∷ ms) ∷ [])) (settled_rows leaf.rules (Some (codes "n", (n ∷ ns) ∷ [])) (settled_rows leaf.rules (Some (codes "family", (codes "scatter") ∷ [])) (settled_rows leaf.rules None []))))) (Some (codes "seed", [])) (option (codes "seed")) 5) (at (settled_rows leaf.rules (Some (codes "side", (k ∷ ks) ∷ [])) (settled_rows leaf.rules (Some (codes "m", (m ∷ ms) ∷ [])) (settled_rows leaf.rules (Some (codes "n", (n ∷ ns) ∷ [])) (settled_rows leaf.rules (Some (codes "family", (codes "scatter") ∷ [])) (settled_rows leaf.rules None []))))) (Some (codes "seed", (x ∷ xs) ∷ [])) idle 5) (codes "--seed") ((x ∷ xs) ∷ []) (seed_after_side_passes (settled_rows leaf.rules (Some (codes "m", (m ∷ ms) ∷ [])) (settled_rows leaf.rules (Some (codes "n", (n ∷ ns) ∷ [])) (settled_rows leaf.rules (Some (codes "family", (codes "scatter") ∷ [])) (settled_rows leaf.rules None [])))) ((k ∷ ks) ∷ []) 5 refl)
    (seed_after_side (settled_rows leaf.rules (Some (codes "m", (m ∷ ms) ∷ [])) (settled_rows leaf.rules (Some (codes "n", (n ∷ ns) ∷ [])) (settled_rows leaf.rules (Some (codes "family", (codes "scatter") ∷ [])) (settled_rows leaf.rules None [])))) ((k ∷ ks) ∷ []) 5) (run_step (at (settled_rows leaf.rules (Some (codes "side", (k ∷ ks) ∷ [])) (settled_rows leaf.rules (Some (codes "m", (m ∷ ms) ∷ [])) (settled_rows leaf.rules (Some (codes "n", (n ∷ ns) ∷ [])) (settled_rows leaf.rules (Some (codes "family", (codes "scatter") ∷ [])) (settled_rows leaf.rules None []))))) (Some (codes "seed", [])) (option (codes "seed")) 5) (at (settled_rows leaf.rules (Some (codes "side", (k ∷ ks) ∷ [])) (settled_rows leaf.rules (Some (codes "m", (m ∷ ms) ∷ [])) (settled_rows leaf.rules (Some (codes "n", (n ∷ ns) ∷ [])) (settled_rows leaf.rules (Some (codes "family", (codes "scatter") ∷ [])) (settled_rows leaf.rules None []))))) (Some (codes "seed", (x ∷ xs) ∷ [])) idle 5) (at (settled_rows leaf.rules (Some (codes "side", (k ∷ ks) ∷ [])) (settled_rows leaf.rules (Some (codes "m", (m ∷ ms) ∷ [])) (settled_rows leaf.rules (Some (codes "n", (n ∷ ns) ∷ [])) (settled_rows leaf.rules (Some (codes "family", (codes "scatter") ∷ [])) (settled_rows leaf.rules None []))))) (Some (codes "seed", (x ∷ xs) ∷ [])) idle 5) (x ∷ xs) ([]) (seed_value_passes (settled_rows leaf.rules (Some (codes "side", (k ∷ ks) ∷ [])) (settled_rows leaf.rules (Some (codes "m", (m ∷ ms) ∷ [])) (settled_rows leaf.rules (Some (codes "n", (n ∷ ns) ∷ [])) (settled_rows leaf.rules (Some (codes "family", (codes "scatter") ∷ [])) (settled_rows leaf.rules None []))))) 5 x xs hx)
    (seed_value (settled_rows leaf.rules (Some (codes "side", (k ∷ ks) ∷ [])) (settled_rows leaf.rules (Some (codes "m", (m ∷ ms) ∷ [])) (settled_rows leaf.rules (Some (codes "n", (n ∷ ns) ∷ [])) (settled_rows leaf.rules (Some (codes "family", (codes "scatter") ∷ [])) (settled_rows leaf.rules None []))))) 5 x xs hx) (run_end (at (settled_rows leaf.rules (Some (codes "side", (k ∷ ks) ∷ [])) (settled_rows leaf.rules (Some (codes "m", (m ∷ ms) ∷ [])) (settled_rows leaf.rules (Some (codes "n", (n ∷ ns) ∷ [])) (settled_rows leaf.rules (Some (codes "family", (codes "scatter") ∷ [])) (settled_rows leaf.rules None []))))) (Some (codes "seed", (x ∷ xs) ∷ [])) idle 5)))))))) refl refl
