-- What `read_all` says of the input where it stopped.
use Rattle.std.specs.Prelude.{◌≡◌, ℕ, ◌≤◌}
use Rattle.edge_io.specs.Faults.{Rose}
use Rattle.edge_io.specs.declared.reading.ReadStop.{ReadStop}
use Rattle.edge_io.specs.declared.reading.ReadStop.TheVariants.{Fault, TooLong, OutOfMemory}

-- how the count of faults went, and how many bytes were taken, where the reading stopped so
abbrev pub Stops : ℕ → ℕ → ℕ → ReadStop → Type 0
Stops before now taken Fault = (taken ≤ 16777216) × Rose before now
Stops before now taken TooLong = taken ≡ 16777217
Stops before now taken OutOfMemory = taken ≤ 16777216
