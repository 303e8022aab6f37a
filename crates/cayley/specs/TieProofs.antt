-- What the code's proofs of ties show.
use Rattle.std.specs.Prelude.{◌≡◌}
use Rattle.std.specs.Option.{option_map}
use Rattle.lex_height.specs.Entries.{entries}
use Rattle.cayley.specs.declared.found.Place.{Place}
use Rattle.cayley.specs.declared.found.TieProof.{TieProof}
use Rattle.cayley.specs.Times.{Time}
use Rattle.cayley.specs.Problems.{Problem}
use Rattle.cayley.specs.StoredTies.{Spot, ShowsTieAtEnd}

abbrev pub spot_of : Place → Spot
spot_of place = (place.support, place.position)

-- the time that a proof names
abbrev pub IsTimeOf : TieProof → Time → Type 0
IsTimeOf proof t = (t.entries ≡ entries proof.time.parts) × (t.over ≡ proof.time.den)

-- at a time at which its cell begins or ends
abbrev pub IsTieProofAtEnd : Problem → TieProof → Type 0
IsTieProofAtEnd p proof = (t : Time) × IsTimeOf proof t × ShowsTieAtEnd p proof.cell t (spot_of proof.first) (option_map spot_of proof.second)
