use Rattle.std.proofs.Common.{◌≡◌, ℕ, ◌*◌, List, [], length, get_or, sym, ap, ◌∙◌, ap₂, arith}
use lib.Seq.{paste}
use Rattle.std.proofs.lemmas.Slice.{put_mid-paste}
use Rattle.keep_list.specs.Kept.{Kept}
use Rattle.orders.specs.declared.pair.PositionPair.{PositionPair}
use Rattle.notebook.specs.Books.{logged_events}
use Rattle.notebook.proofs.Pairing.{no_pairs}
use Rattle.notebook.proofs.tables.Tables.stamp_from.Goals as goal

pub returns-then-width-le-SHORT_STAMP : goal.returns-then-width-le-SHORT_STAMP
returns-then-width-le-SHORT_STAMP g c =
    let self = c.args.self.now in
    let rows = g.B.Bank.rows c.args.bank.now in
    let k : ℕ = length rows.threads in
    let row : List ℕ = get_or rows.threads c.args.event.thread [] in
    let long : length row ≡ k = (g.met.B.Bank.shaped c.args.bank.now).thread_rows c.args.event.thread c.requires.thread_in_bounds in
    ap₂ (λ (cells : List ℕ) (ps : Kept PositionPair). record { log = self.log; stamps = cells; pairs = ps })
    (put_mid-paste _ _ self.stamps.now c.write_row.new.row row k c.write_row.ensures (omega (arith, c.thread_count-width.ensures)) (sym long)
    ∙ ap (λ (m : ℕ). paste self.stamps.now (c.args.position * m) row k) c.thread_count-width.ensures)
    (no_pairs self.pairs (logged_events self.log) c.args.event row c.args.position (sym c.is_access.ensures ∙ c.if-not-is_access.true))
