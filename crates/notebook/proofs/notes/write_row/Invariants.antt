use Rattle.std.proofs.Common.{◌≡◌, [], get_or}
use lib.Seq.{paste}
use Rattle.notebook.proofs.notes.write_row.Given as goal

abbrev pub invariant-loop-column : goal.invariant-loop-column
invariant-loop-column g l = l.row ≡ paste l.initial.row 0 (get_or (g.B.Bank.rows l.bank).threads l.thread []) l.column
