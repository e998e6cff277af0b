use Rattle.std.proofs.Common.{ℕ, List, [], length, get_or, Some, None, Ok, Err, Option, sym, refl, ap, ◌∙◌, subst, ap₂, arith}
use Rattle.std.proofs.lemmas.Result.{err_from_is_err_and}
use Rattle.std.proofs.lemmas.List.{length-set, get_or-set_same}
use Rattle.clock_bank.specs.declared.fault.BankFault.{BankFault}
use Rattle.clock_bank.specs.Rows.{Rows}
use Rattle.clock_bank.specs.Faults.{unless}
use Rattle.clock_bank.proofs.Refusals.{fault_is, no_fault}
use Rattle.orders.specs.Stamps.{moved}
use Rattle.notebook.specs.declared.fault.NotebookFault.TheVariants.{Bank}
use Rattle.notebook.specs.Books.{Book, events}
use Rattle.notebook.specs.Notes.{setting, move_fault, new_stamp, noted}
use Rattle.notebook.specs.Parts.{Admitted}
use Rattle.notebook.specs.View.{book}
use Rattle.notebook.proofs.Noting.{refused, accepted, event_refused, bank_answers, misfit_is, own_is, right, admitted}
use Rattle.notebook.proofs.notes.note.Goals as goal

pub returns-in_err-check_fit : goal.returns-in_err-check_fit
returns-in_err-check_fit g c =
    let r = g.R.Rule.means in
    let rows = g.B.Bank.rows c.args.bank.now in
    let b = book c.args.notebook.now in
    let e = c.args.event in
    let f = c.in_err-check_fit.field-0.0 in
    let is = misfit_is (setting b) (events b) e c.counts.ensures.threads c.counts.ensures.slots (c.NUMBER.ensures ∙ g.met.R.Rule.numbered) f
    (fault_is _ tt f c.in_err-check_fit.ensures) in
    let p = err_from_is_err_and c.from_residual.result c.from_residual.ensures.1 in
    refused r rows b e f (event_refused r rows b e f is) (p.1 ∙ ap Err p.2) refl refl

pub returns-in_err-check_event : goal.returns-in_err-check_event
returns-in_err-check_event g c =
    let r = g.R.Rule.means in
    let rows = g.B.Bank.rows c.args.bank.now in
    let b = book c.args.notebook.now in
    let e = c.args.event in
    let f = c.in_err-check_event.field-0.0 in
    let is = own_is (setting b) (events b) e c.counts.ensures.threads c.counts.ensures.slots (c.NUMBER.ensures ∙ g.met.R.Rule.numbered) (Some f)
    (no_fault _ tt _ c.in_ok-check_fit.ensures) (fault_is _ tt f c.in_err-check_event.ensures.answer) in
    let p = err_from_is_err_and c.from_residual-in_err-check_event.result c.from_residual-in_err-check_event.ensures.1 in
    refused r rows b e f (event_refused r rows b e f is) (p.1 ∙ ap Err p.2) refl c.check_event.ensures.same

pub returns-in_err-follow : goal.returns-in_err-follow
returns-in_err-follow g c =
    let r = g.R.Rule.means in
    let rows = g.B.Bank.rows c.args.bank.now in
    let b = book c.args.notebook.now in
    let e = c.args.event in
    let f = c.in_err-follow.field-0.0 in
    let same = c.check_event.ensures.same in
    let none = own_is (setting b) (events b) e c.counts.ensures.threads c.counts.ensures.slots (c.NUMBER.ensures ∙ g.met.R.Rule.numbered) None
    (no_fault _ tt _ c.in_ok-check_fit.ensures) (no_fault _ tt _ c.in_ok-check_event.ensures.answer) in
    let tells = fault_is _ tt f c.in_err-follow.ensures.answer in
    let is = ap (λ (x : Book). move_fault r x.counts.locks rows e) (sym same) ∙ tells in
    let p = err_from_is_err_and c.from_residual-in_err-follow.result c.from_residual-in_err-follow.ensures.1 in
    refused r rows b e (Bank f) (bank_answers r rows b e (Some f) none is) (p.1 ∙ ap Err p.2)
    (c.follow.ensures.after ∙ ap (λ (x : Option BankFault). unless x (moved r c.check_event.new.self.counts.locks rows e) rows) tells)
    same

pub enter-requires : goal.enter-requires
enter-requires g c =
    let r = g.R.Rule.means in
    let rows = g.B.Bank.rows c.args.bank.now in
    let b = book c.args.notebook.now in
    let e = c.args.event in
    let same = c.check_event.ensures.same in
    let locks = c.check_event.new.self.counts.locks in
    let none = own_is (setting b) (events b) e c.counts.ensures.threads c.counts.ensures.slots (c.NUMBER.ensures ∙ g.met.R.Rule.numbered) None
    (no_fault _ tt _ c.in_ok-check_fit.ensures) (no_fault _ tt _ c.in_ok-check_event.ensures.answer) in
    let ok = right (setting b) (length rows.threads) (length rows.slots) r.number (events b) e none in
    let free = no_fault _ tt _ c.in_ok-follow.ensures.answer in
    let after = c.follow.ensures.after ∙ ap (λ (x : Option BankFault). unless x (moved r locks rows e) rows) free in (record {
      bank_len = ap (λ (x : Rows). length x.threads) after
          ∙ (length-set rows.threads e.thread (new_stamp r locks rows e) ∙ (ok.threads ∙ ap (λ (x : Book). x.counts.threads) (sym same)));
      admitted = subst (λ (x : Book). Admitted x e) (sym same) (admitted b _ _ _ e ok);
    })

pub returns : goal.returns
returns g c =
    let r = g.R.Rule.means in
    let rows = g.B.Bank.rows c.args.bank.now in
    let b = book c.args.notebook.now in
    let e = c.args.event in
    let same = c.check_event.ensures.same in
    let none = own_is (setting b) (events b) e c.counts.ensures.threads c.counts.ensures.slots (c.NUMBER.ensures ∙ g.met.R.Rule.numbered) None
    (no_fault _ tt _ c.in_ok-check_fit.ensures) (no_fault _ tt _ c.in_ok-check_event.ensures.answer) in
    let ok = right (setting b) (length rows.threads) (length rows.slots) r.number (events b) e none in
    let tells = no_fault _ tt _ c.in_ok-follow.ensures.answer in
    let free = ap (λ (x : Book). move_fault r x.counts.locks rows e) (sym same) ∙ tells in
    let after = c.follow.ensures.after
    ∙ (ap (λ (x : Option BankFault). unless x (moved r c.check_event.new.self.counts.locks rows e) rows) tells
    ∙ ap (λ (x : Book). moved r x.counts.locks rows e) same) in
    let row = ap (λ (x : Rows). get_or x.threads e.thread []) after
    ∙ get_or-set_same rows.threads e.thread (new_stamp r b.counts.locks rows e) [] (omega (arith, ok.thread, ok.threads)) in
    accepted r rows b e (bank_answers r rows b e None none free)
    (ap Ok (c.enter.ensures.position ∙ ap (λ (x : Book). length (events x)) same)) after
    (c.enter.ensures.after ∙ ap₂ (λ (x : Book) (stamp : List ℕ). noted x e stamp) same row)
