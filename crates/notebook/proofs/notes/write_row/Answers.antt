use Rattle.std.proofs.Common.{◌≡◌, ℕ, ◌+◌, List, [], length, get_or, set, Ok, Option, ap, ◌∙◌, subst, arith}
use lib.Seq.{paste}
use Rattle.std.proofs.lemmas.List.Edits.{paste_more}
use Rattle.clock_bank.specs.declared.fault.BankFault.{BankFault}
use Rattle.clock_bank.specs.Faults.{or_fault}
use Rattle.clock_bank.proofs.Refusals.{thread_entry_there}
use Rattle.notebook.proofs.notes.write_row.Goals as goal

pub loop-column-preserved : goal.loop-column-preserved
loop-column-preserved g c =
    let rows = g.B.Bank.rows c.args.bank.now in
    let row : List ℕ = get_or rows.threads c.args.thread [] in
    let u = c.loop-column.column in
    let long : length row ≡ length rows.threads = (g.met.B.Bank.shaped c.args.bank.now).thread_rows c.args.thread c.requires.thread_in_bounds in
    let answer : c.thread_entry.result ≡ Ok (get_or row u 0) =
    c.thread_entry.ensures
    ∙ ap (λ (f : Option BankFault). or_fault f (get_or row u 0)) (thread_entry_there rows c.args.thread u c.requires.thread_in_bounds (omega arith)) in
    let old : List ℕ = c.args.row.now in
    let first : 0 + u ≡ u = omega arith in
    let is : c.unwrap.result ≡ get_or row u 0 = cc (answer, c.unwrap.ensures) in
    ap (λ (v : ℕ). set c.loop-column.row u v) is
    ∙ (ap (λ (now : List ℕ). set now u (get_or row u 0)) c.loop-column.invariant
    ∙ subst (λ (k : ℕ). set (paste old 0 row u) k (get_or row u 0) ≡ paste old 0 row (u + 1)) first
    (paste_more old 0 row u 0 (omega (arith, c.requires.row_len)) (omega arith)))
