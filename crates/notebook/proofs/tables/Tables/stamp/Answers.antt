use Rattle.std.proofs.Common.{ℕ, List, sym, refl, ◌∙◌, ap₂, arith}
use Rattle.std.proofs.lemmas.Slice.{put_mid-paste}
use Rattle.keep_list.specs.Kept.{Kept}
use Rattle.orders.specs.declared.pair.PositionPair.{PositionPair}
use Rattle.notebook.specs.Books.{logged_events}
use Rattle.notebook.proofs.Pairing.{no_pairs}
use Rattle.notebook.proofs.tables.Tables.stamp.Goals as goal

pub returns-else-is_access : goal.returns-else-is_access
returns-else-is_access c =
    let self = c.args.self.now in
    let stamp : List ℕ = c.args.stamp.now in
    ap₂ (λ (cells : List ℕ) (ps : Kept PositionPair). record { log = self.log; stamps = cells; pairs = ps })
    (put_mid-paste _ _ self.stamps.now c.copy_from_slice.new.self stamp _ c.copy_from_slice.ensures.after (omega arith) refl)
    (no_pairs self.pairs (logged_events self.log) c.args.event stamp c.args.position (sym c.is_access.ensures ∙ c.if-is_access.false))
