-- What a flat bank means. Assumes nothing.
use Rattle.std.specs.Prelude.{ℕ, List, drop}
use Rattle.clock_bank.specs.Rows.{Rows}
use Rattle.flat_bank.specs.declared.flat.FlatBank.{FlatBank}
use Rattle.flat_bank.specs.Flat.{flat_rows, places}

abbrev pub view : FlatBank → Rows
view b = flat_rows b.counts.threads b.counts.slots b.cells.now

-- what the table holds behind the rows
abbrev pub rest : FlatBank → List ℕ
rest b = drop (places b.counts.threads b.counts.slots) b.cells.now
