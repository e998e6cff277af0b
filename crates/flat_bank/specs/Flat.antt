-- The rows that lie one after another in a list of numbers. Assumes nothing.
use Rattle.std.specs.Prelude.{ℕ, zero, suc, ◌+◌, ◌*◌, List, [], ◌∷◌, ◌++◌, length, take, drop, replicate, Option}
use Rattle.clock_bank.specs.declared.fault.BankFault.{BankFault}
use Rattle.clock_bank.specs.Faults.{count_fault}
use Rattle.clock_bank.specs.Rows.{Rows}

-- n rows of k numbers
abbrev pub rows_in : ℕ → ℕ → List ℕ → List (List ℕ)
rows_in zero k cells = []
rows_in (suc n) k cells = take k cells ∷ rows_in n k (drop k cells)

-- k thread rows, then s slot rows
abbrev pub flat_rows : ℕ → ℕ → List ℕ → Rows
flat_rows k s cells = record { threads = rows_in k k cells; slots = rows_in s k (drop (k * k) cells) }

-- how many numbers a flat bank of k threads and s slots needs
abbrev pub places : ℕ → ℕ → ℕ
places k s = (k + s) * k

abbrev pub flat_fault : ℕ → ℕ → List ℕ → Option BankFault
flat_fault k s table = count_fault k s (places k s) (length table)

-- a table whose first n numbers became 0
abbrev pub cleared : ℕ → List ℕ → List ℕ
cleared n cells = replicate n 0 ++ drop n cells
