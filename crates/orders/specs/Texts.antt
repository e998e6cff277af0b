-- The text of a pair. Assumes nothing.
use Rattle.std.specs.Prelude.{ℕ, List, ◌++◌, codes, decimal}
use Rattle.orders.specs.declared.pair.PositionPair.{PositionPair}

-- its two positions, the earlier one first
abbrev pub pair_text : PositionPair → List ℕ
pair_text p = decimal p.earlier ++ (codes "-" ++ decimal p.later)
