-- members of lists of branches
use Rattle.std.proofs.Common.{◌≡◌, List, inl, inr, Option, None, Some, rules}
use Rattle.std.specs.Prelude.{Contains, IfSome, IsSome}
use Rattle.int_vectors.specs.Vectors.{Each}
use Rattle.cayley.specs.Problems.{Problem}
use Rattle.int_vectors.proofs.Each.{each_weaker}
use Rattle.cayley.proofs.Searching.Members.{has_contains, contains_has}
use Rattle.cayley.proofs.Order.Lined.{each_has}
use Rattle.cayley.proofs.Searching.Steps.{each_in}
use Rattle.searcher.specs.declared.branches.Branch.{Branch}
use Rattle.search_team.specs.Accounts.{IsMade}

pub each_member : {A : Type 0} (P : A → Type 0) (xs : List A) → ((x : A) → Contains xs x → P x) → Each xs P
each_member P xs f = each_in P xs (λ x h. f x (has_contains xs x h))

pub member_each : {A : Type 0} (P : A → Type 0) (xs : List A) (x : A) → Each xs P → Contains xs x → P x
member_each P xs x e c = each_has P xs x e (contains_has xs x c)

pub if_some : {X : Type 0} (P Q : X → Type 0) (r : Option X) → ((x : X) → P x → Q x) → IfSome r P → IfSome r Q
if_some P Q None f h = h
if_some P Q (Some x) f h = f x h

pub if_none : {X : Type 0} (P : X → Type 0) (r : Option X) → r ≡ None → IfSome r P
if_none P None e = tt
if_none P (Some x) e = absurd (search (e, rules))

pub not_some : {X : Type 0} (r : Option X) → r ≡ None → IsSome r → ⊥
not_some None e h = absurd (search (h, rules))
not_some (Some x) e h = absurd (search (e, rules))

pub made_more : (p : Problem) (firsts firsts' ins ins' : List Branch) → ((b : Branch) → Contains firsts b → Contains firsts' b) → ((b : Branch) → Contains ins b → Contains ins' b)
    → (b : Branch) → IsMade p firsts ins b → IsMade p firsts' ins' b
made_more p firsts firsts' ins ins' f i b (inl c) = inl (f b c)
made_more p firsts firsts' ins ins' f i b (inr m) = inr (m.0, i m.0 m.1, m.2)

pub each_made : (p : Problem) (firsts firsts' ins ins' : List Branch) → ((b : Branch) → Contains firsts b → Contains firsts' b) → ((b : Branch) → Contains ins b → Contains ins' b)
    → (xs : List Branch) → Each xs (IsMade p firsts ins) → Each xs (IsMade p firsts' ins')
each_made p firsts firsts' ins ins' f i xs h = each_weaker (IsMade p firsts ins) (IsMade p firsts' ins') xs (made_more p firsts firsts' ins ins' f i) h
