use Rattle.std.proofs.Common.{◌≡◌, length, rules}
use Rattle.notebook.specs.Questions.{pair_answer, TellsPair}
use Rattle.notebook.specs.View.{book}
use Rattle.notebook.proofs.Telling.{in_every_run, tells_pair}
use Rattle.notebook.proofs.notebook.Notebook.pair.Goals as goal

pub returns-clause-listed : goal.returns-clause-listed
returns-clause-listed c =
    let n = c.args.self.now in
    let value : c.ok_or.result ≡ pair_answer (book n) c.args.index = search rules in
    in_every_run n (TellsPair (length (book n).tables.pairs.table) c.args.index c.ok_or.result n.counts)
    (λ s r law log rows f. tells_pair n s r law log rows f c.args.index c.ok_or.result value)
