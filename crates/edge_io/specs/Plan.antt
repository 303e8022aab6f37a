-- What contracts see of the ends in memory.
use Rattle.std.specs.Prelude.{ℕ, ◌+◌, ◌-◌, ◌^◌, min, List, Bool, if◌then◌else◌}

-- the most bytes that a call moves, the numbers of the calls that fail, and how many calls and faults there were
pub record Plan : Type 0 where
  pub piece : ℕ
  pub failing : List ℕ
  pub calls : ℕ
  pub faults : ℕ

-- a source: the bytes that are left, and the plan of its calls
pub record Supply : Type 0 where
  pub left : List ℕ
  pub plan : Plan

-- a sink: the bytes that it holds, how many it has room for, and the plan of its calls
pub record Store : Type 0 where
  pub held : List ℕ
  pub room : ℕ
  pub plan : Plan

-- a count after one more; it stands still at 2^64 - 1
abbrev pub next : ℕ → ℕ
next n = min (n + 1) (2 ^ 64 - 1)

-- no call came yet
abbrev pub new_plan : ℕ → List ℕ → Plan
new_plan piece failing = record { piece = piece; failing = failing; calls = 0; faults = 0 }

-- one more call came, and failed or didn't
abbrev pub after_call : Plan → Bool → Plan
after_call p failed = record p { calls = next p.calls; faults = if failed then next p.faults else p.faults }
