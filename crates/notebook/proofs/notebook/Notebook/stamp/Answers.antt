use Rattle.std.proofs.Common.{ℕ, ◌+◌, ◌*◌, get_or, Ok, Result, arith}
use Rattle.notebook.specs.declared.fault.NotebookFault.{NotebookFault}
use Rattle.notebook.specs.Questions.{TellsTime}
use Rattle.notebook.proofs.Asking.{stamp_told}
use Rattle.notebook.proofs.Telling.{in_every_run, tells_time}
use Rattle.notebook.proofs.notebook.Notebook.stamp.Goals as goal

pub returns-clause-time : goal.returns-clause-time
returns-clause-time c =
    let n = c.args.self.now in
    let i = c.args.position in
    let t = c.args.thread in
    let answer : Result ℕ NotebookFault = Ok (get_or n.tables.stamps.now (i * n.counts.threads + t) 0) in
    in_every_run n (TellsTime i t answer n.counts)
    (λ s r law log rows f. tells_time n s r law log rows f i t answer (stamp_told n i t (omega (arith, c.total.ensures.value)) (omega arith)))
