use Rattle.notebook.specs.Questions.{TellsTotal}
use Rattle.notebook.proofs.Telling.{in_every_run, tells_total}
use Rattle.notebook.proofs.notebook.Notebook.pair_total.Goals as goal

pub returns-clause-all : goal.returns-clause-all
returns-clause-all c =
    let n = c.args.self.now in
    in_every_run n (TellsTotal c.total.result n.counts) (λ s r law log rows f. tells_total n s r law log rows f c.total.result c.total.ensures.value)
