-- Runs of numbers in a list. Assumes nothing.
use Rattle.std.specs.Prelude.{ℕ, List, take, drop}

-- n numbers from a place on
abbrev pub run : ℕ → ℕ → List ℕ → List ℕ
run at n cells = take n (drop at cells)
