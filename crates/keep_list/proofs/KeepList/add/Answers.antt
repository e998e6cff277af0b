use Rattle.std.proofs.Common.{◌<◌, sym, refl, arith}
use Rattle.std.proofs.lemmas.List.{set_past}
use Rattle.keep_list.specs.Kept.{Kept, most}
use Rattle.keep_list.proofs.Records.{added_is}
use Rattle.keep_list.proofs.KeepList.add.Goals as goal
use Rattle.keep_list.proofs.KeepList.add.Goals.{then-place-self, else-place-self}

pub returns : goal.returns
returns g c =
    let inside = c.self.inside in
    let old : Kept g.row.T.Denot = record { table = inside.table.now; total = inside.total } in
    let below : old.total < most = omega (arith, c.if-self.false) in
    rw (← c.self.view_is)
    (elim c.if-place-self.branch [
      | then-place-self w ↦ rw w.self-inside-is (added_is old _ c.args.item below refl)
      | else-place-self w ↦ rw w.self-inside-is (added_is old _ c.args.item below (sym (set_past _ _ _ w.if-place-self.false)))
    ])
