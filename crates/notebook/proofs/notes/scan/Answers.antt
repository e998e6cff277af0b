use Rattle.std.proofs.Common.{◌≡◌, ℕ, sym, ap, ◌∙◌}
use Rattle.keep_list.specs.Kept.{Kept, added}
use Rattle.orders.specs.declared.pair.PositionPair.{PositionPair}
use Rattle.orders.specs.Pairs.{positions}
use Rattle.orders.specs.Stamps.{unseen_by}
use Rattle.notebook.specs.declared.log.LoggedEvent.{LoggedEvent}
use Rattle.notebook.specs.Books.{logged_events}
use Rattle.notebook.proofs.Pairing.{pair_more, pair_skip}
use Rattle.notebook.proofs.notes.scan.Goals as goal
use Rattle.notebook.proofs.notes.scan.Goals.{then-races, else-races}

pub loop-earlier-preserved : goal.loop-earlier-preserved
loop-earlier-preserved c =
    let i = c.loop-earlier.earlier in
    let inv = c.loop-earlier.invariant in
    let test : ℕ → _ = unseen_by (logged_events c.args.log.now) c.args.event c.args.stamp.now in
    let is : c.races.result ≡ test i =
    c.races.ensures.value ∙ ap (λ (log : Kept LoggedEvent). unseen_by (logged_events log) c.args.event c.args.stamp.now i) inv.same in
    record {
      same = c.races.ensures.same ∙ inv.same;
      added = elim c.if-races.branch [
        | then-races w ↦ w.pairs-is ∙ (w.add.ensures ∙ (ap (λ (ps : Kept PositionPair). added ps (positions i c.args.position)) inv.added
            ∙ pair_more c.args.pairs.now test c.args.position i (sym is ∙ w.if-races.true)))
        | else-races w ↦ w.pairs-is ∙ (inv.added ∙ pair_skip c.args.pairs.now test c.args.position i (sym is ∙ w.if-races.false))
      ];
    }
