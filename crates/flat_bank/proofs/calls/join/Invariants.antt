use Rattle.std.proofs.Common.{◌≡◌, take}
use Rattle.clock_bank.specs.Rows.{larger}
use Rattle.flat_bank.proofs.calls.join.Given as goal

-- so far the row is joined with the first numbers of the other
abbrev pub invariant-loop-column : goal.invariant-loop-column
invariant-loop-column l = l.row ≡ larger l.initial.row (take l.column l.other)
