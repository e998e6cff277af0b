use Rattle.std.proofs.Common.{length, sym, subst}
use Rattle.notebook.proofs.Sound.{Limits, limited, sound_as, opened_sound}
use Rattle.notebook.proofs.notebook.Notebook.new.Goals as goal

pub invariant_of-result : goal.invariant_of-result
invariant_of-result c =
    let limits : Limits c.admitted.result = subst Limits (sym c.admitted.ensures) (limited c.args.counts) in
    record { sound = sound_as c.new.ensures (opened_sound c.admitted.result c.args.log.now (length c.args.stamps.now) limits) }
