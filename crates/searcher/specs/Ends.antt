-- Ties where a cell begins or ends: two further points are level there.
use Rattle.std.specs.Prelude.{◌≡◌, ◌⊎◌, Some}
use Rattle.std.specs.Option.{option_map}
use Rattle.cayley.specs.declared.found.TieProof.{TieProof}
use Rattle.cayley.specs.Times.{Time}
use Rattle.cayley.specs.Problems.{Problem}
use Rattle.cayley.specs.Cells.{Cell}
use Rattle.cayley.specs.Normals.{Normal, IsNormal}
use Rattle.cayley.specs.Lives.{BeginsAt, EndsAt}
use Rattle.cayley.specs.Ties.{TwoLevel}
use Rattle.cayley.specs.StoredTies.{Spot}
use Rattle.cayley.specs.NamedTies.{IsLevelThen, AreFirstTwo}
use Rattle.cayley.specs.TieProofs.{spot_of, IsTimeOf}

-- two different further points are level at t
abbrev pub IsTiedAt : Problem → Cell → Time → Type 0
IsTiedAt p cell t = (v : Normal) × IsNormal p cell t v × TwoLevel p cell t v

abbrev pub IsTiedAtBegin : Problem → Cell → Type 0
IsTiedAtBegin p cell = (t : Time) × BeginsAt p cell t × IsTiedAt p cell t

abbrev pub IsTiedAtEnd : Problem → Cell → Type 0
IsTiedAtEnd p cell = (t : Time) × EndsAt p cell t × IsTiedAt p cell t

-- the proof has the cell, the time and the first two further points that are level then
abbrev pub NamesLevel : Problem → Cell → Time → TieProof → Type 0
NamesLevel p cell t proof = (proof.cell ≡ cell) × IsTimeOf proof t
    × ((second : Spot) × (option_map spot_of proof.second ≡ Some second) × AreFirstTwo (IsLevelThen p cell t) (spot_of proof.first) second)

-- the tie where the cell begins, or else the one where it ends
abbrev pub NamesEnd : Problem → Cell → TieProof → Type 0
NamesEnd p cell proof = ((t : Time) × BeginsAt p cell t × NamesLevel p cell t proof)
    ⊎ (¬ (IsTiedAtBegin p cell) × ((t : Time) × EndsAt p cell t × NamesLevel p cell t proof))
