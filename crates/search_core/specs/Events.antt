-- Events: where each is enabled, and what it makes of a state.
use Rattle.std.specs.Prelude.{◌≡◌, ◌≢◌, ◌⊎◌, List, [], ◌∷◌, ◌++◌}
use Rattle.cayley.specs.Cells.{Cell}
use Rattle.search_core.specs.declared.branches.CoreBranch.{CoreBranch}
use Rattle.search_core.specs.declared.branches.CoreOutcome.{CoreOutcome}
use Rattle.search_core.specs.declared.branches.CoreOutcome.TheVariants.{Children, Cell as Own, Nothing}
use Rattle.search_core.specs.declared.branches.Children2.TheVariants.{One as OneChild, Two as TwoChildren}
use Rattle.search_core.specs.declared.branches.Hand.{Hand}
use Rattle.search_core.specs.declared.branches.Hand.TheVariants.{Empty, Branch, One, Two, Cell as Finished}
use Rattle.search_core.specs.declared.events.Event.{Event}
use Rattle.search_core.specs.declared.events.Event.TheVariants.{Claim, Steal, Expand, Offer, Report}
use Rattle.search_core.specs.States.{State, IsSearcher, searcher_at, with_searcher}

-- b is the first child that waits in the hand, and rest is the hand without it
abbrev pub IsFirstChild : Hand → CoreBranch → Hand → Type 0
IsFirstChild hand b rest = ((hand ≡ One b) × (rest ≡ Empty)) ⊎ ((c : CoreBranch) × (hand ≡ Two b c) × (rest ≡ One c))

-- where an event is enabled
abbrev pub IsEnabled : State → Event → Type 0
IsEnabled state (Claim s) = IsSearcher state s × ((searcher_at state s).hand ≡ Empty) × ((searcher_at state s).deque ≢ [])
IsEnabled state (Steal s from) = IsSearcher state s × IsSearcher state from × (from ≢ s)
    × ((searcher_at state s).hand ≡ Empty) × ((searcher_at state from).deque ≢ [])
IsEnabled state (Expand s outcome) = IsSearcher state s × ((b : CoreBranch) × ((searcher_at state s).hand ≡ Branch b))
IsEnabled state (Offer s) = IsSearcher state s × ((b : CoreBranch) × (rest : Hand) × IsFirstChild (searcher_at state s).hand b rest)
IsEnabled state (Report s) = IsSearcher state s × ((c : Cell) × ((searcher_at state s).hand ≡ Finished c))

-- the hand that an expansion leaves
abbrev pub hand_of : CoreOutcome → Hand
hand_of (Children (OneChild b)) = One b
hand_of (Children (TwoChildren b c)) = Two b c
hand_of (Own c) = Finished c
hand_of Nothing = Empty

-- what an enabled event makes of a state
abbrev pub HasEffect : Event → State → State → Type 0
HasEffect (Claim s) old new =
    let x = searcher_at old s in
    (rest : List CoreBranch) × (b : CoreBranch) × (x.deque ≡ rest ++ b ∷ [])
    × (new ≡ with_searcher old s (record x { deque = rest; hand = Branch b }))
HasEffect (Steal s from) old new =
    let x = searcher_at old s in
    let y = searcher_at old from in
    (b : CoreBranch) × (rest : List CoreBranch) × (y.deque ≡ b ∷ rest)
    × (new ≡ with_searcher (with_searcher old from (record y { deque = rest })) s (record x { hand = Branch b }))
HasEffect (Expand s outcome) old new = new ≡ with_searcher old s (record (searcher_at old s) { hand = hand_of outcome })
HasEffect (Offer s) old new =
    let x = searcher_at old s in
    (b : CoreBranch) × (rest : Hand) × IsFirstChild x.hand b rest × (new ≡ with_searcher old s (record x { deque = x.deque ++ b ∷ []; hand = rest }))
HasEffect (Report s) old new =
    let x = searcher_at old s in
    (c : Cell) × (x.hand ≡ Finished c) × (new ≡ with_searcher old s (record x { hand = Empty; outs = x.outs ++ c ∷ [] }))

-- one event: it is enabled, and has its effect
abbrev pub Follows : Event → State → State → Type 0
Follows event old new = IsEnabled old event × HasEffect event old new

-- an event that makes a list longer
abbrev pub IsGrowing : Event → Type 0
IsGrowing (Claim s) = ⊥
IsGrowing (Steal s from) = ⊥
IsGrowing (Expand s outcome) = ⊥
IsGrowing (Offer s) = Unit {0}
IsGrowing (Report s) = Unit {0}
