use Rattle.std.proofs.Common.{◌≡◌}
use Rattle.keep_list.specs.Kept.{all_added}
use Rattle.orders.specs.Stamps.{unseen_by, pairs_with}
use Rattle.notebook.specs.Books.{logged_events}
use Rattle.notebook.proofs.notes.scan.Given as goal

abbrev pub invariant-loop-earlier : goal.invariant-loop-earlier
invariant-loop-earlier l = record {
  same : l.log ≡ l.initial.log;
  added : l.pairs ≡ all_added l.initial.pairs (pairs_with (unseen_by (logged_events l.initial.log) l.event l.stamp) l.position l.earlier);
}
