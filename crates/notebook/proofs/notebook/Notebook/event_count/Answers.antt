use Rattle.notebook.specs.Questions.{KeepsAccount}
use Rattle.notebook.proofs.Telling.{in_every_run, keeps}
use Rattle.notebook.proofs.notebook.Notebook.event_count.Goals as goal

pub returns-clause-account : goal.returns-clause-account
returns-clause-account c = let n = c.args.self.now in in_every_run n (λ _ log. KeepsAccount n log) (keeps n)
