use Rattle.std.proofs.Common.{◌≡◌, leb, Some, Ok, ap, ◌∙◌, rules}
use Rattle.std.specs.List.{slice_get}
use Rattle.keep_list.specs.Kept.{records}
use Rattle.notebook.specs.Books.{Book}
use Rattle.notebook.specs.Questions.{stamp_answer, TellsOrder}
use Rattle.notebook.proofs.Asking.{before_told}
use Rattle.notebook.proofs.Telling.{in_every_run, tells_order}
use Rattle.notebook.proofs.notebook.Notebook.before.Goals as goal

pub returns-clause-order : goal.returns-clause-order
returns-clause-order c =
    let n = c.args.self.now in
    let x = c.in_ok-logged.logged in
    let is : Some x ≡ slice_get (records n.tables.log) c.args.first = search rules in
    let told = c.in_ok-known.ensures.value ∙ ap (λ (b : Book). stamp_answer b c.args.second x.event.thread) c.record_at.ensures.same in
    let value = before_told n c.args.first c.args.second x c.in_ok-known.known is told in
    in_every_run n (TellsOrder c.args.first c.args.second (Ok (leb x.time c.in_ok-known.known)) n.counts)
    (λ s r law log rows f. tells_order n s r law log rows f c.args.first c.args.second (Ok (leb x.time c.in_ok-known.known)) value)
