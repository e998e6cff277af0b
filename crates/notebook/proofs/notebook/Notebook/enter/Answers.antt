use Rattle.std.proofs.Common.{◌≡◌, ℕ, ◌+◌, ◌*◌, List, [], ◌∷◌, ◌++◌, length, get_or, sym, ap, ◌∙◌, subst, ap₂, arith}
use Rattle.std.proofs.lemmas.List.Edits.{length-paste}
use Rattle.keep_list.specs.Kept.{Kept, added}
use Rattle.events.specs.declared.event.Event.{Event}
use Rattle.orders.specs.Traces.{local}
use Rattle.notebook.specs.declared.log.LoggedEvent.{LoggedEvent}
use Rattle.notebook.specs.Books.{Written, Book, events}
use Rattle.notebook.specs.Notes.{noted}
use Rattle.notebook.specs.Parts.{Timed, stamped}
use Rattle.notebook.specs.Tables.{written}
use Rattle.notebook.specs.View.{book}
use Rattle.keep_list.proofs.Records.{added_more}
use Rattle.notebook.proofs.Logs.{length_events}
use Rattle.notebook.proofs.Sound.{sound_at}
use Rattle.notebook.proofs.Entering.{room_of, more_sound, new_time, lock_below, count_most}
use Rattle.notebook.proofs.notebook.Notebook.enter.Goals as goal

-- the stamp, the pairs and the record in the log make the notebook that is noted
entered : (b : Book) (e : Event) (row : List ℕ) (old new : Kept LoggedEvent) (w : Written) (k n time : ℕ)
    → old ≡ b.tables.log → w ≡ stamped (record { log = old; stamps = b.tables.stamps; pairs = b.tables.pairs }) e row k n
    → k ≡ b.counts.threads → n ≡ length (events b) → time ≡ local (events b ++ e ∷ []) (length (events b))
    → new ≡ added w.log (record { event = e; time = time })
    → ◌≡◌ {A = Book} (record { counts = b.counts; rule = b.rule; tables = record { log = new; stamps = w.stamps; pairs = w.pairs } }) (noted b e row)
entered b e row old new w k n time old-is w-is k-is n-is time-is New-is =
    ap (λ (x : Kept LoggedEvent). record { counts = b.counts; rule = b.rule; tables = record { log = x; stamps = w.stamps; pairs = w.pairs } }) New-is
    ∙ ap₂ (λ (x : Written) (t : ℕ). record {
      counts = b.counts;
      rule = b.rule;
      tables = record { log = added x.log (record { event = e; time = t }); stamps = x.stamps; pairs = x.pairs };
    }) (w-is ∙ (ap (λ (x : Kept LoggedEvent). stamped (record { log = x; stamps = b.tables.stamps; pairs = b.tables.pairs }) e row k n) old-is
    ∙ ap₂ (stamped b.tables e row) k-is n-is)) time-is

pub stamp_from-requires : goal.stamp_from-requires
stamp_from-requires g c =
    let n = c.args.self.now in
    let k : ℕ = length (g.B.Bank.rows c.args.bank.now).threads in
    let room = room_of n c.args.event c.requires.admitted in
    let total = c.total-position.ensures.value in
    let bank_len = c.requires.bank_len in
    let timed : Timed n.tables.log k c.total-position.result =
    record { within = omega (arith, total); whole = n.sound.whole; inside = λ i h. omega (arith, bank_len, n.sound.inside i h); timed = n.sound.timed } in
    record {
      timed = subst (λ (log : Kept LoggedEvent). Timed log k c.total-position.result) (sym c.total-position.ensures.same) timed;
      thread_in_bounds = omega (arith, bank_len, room.thread);
      few = omega (arith, bank_len, n.sound.few);
      in_bounds = omega (arith, room.stamps, ap₂ ◌*◌ total bank_len, bank_len);
    }

pub overflow_add-time : goal.overflow_add-time
overflow_add-time g c =
    let n = c.args.self.now in
    let e = c.args.event in
    let room = room_of n e c.requires.admitted in
    omega (
      arith,
      n.sound.counted e.thread (omega (arith, room.thread, n.sound.few)),
      count_most (events (book n)) e.thread n.tables.log.total,
      room.short,
    )

pub change_lock-requires : goal.change_lock-requires
change_lock-requires g c = lock_below c.args.self.now.counts c.args.event.operation c.args.self.now.sound.some c.requires.admitted.object

pub invariant_of-self : goal.invariant_of-self
invariant_of-self g c =
    let n = c.args.self.now in
    let e = c.args.event in
    let log = n.tables.log in
    let cells : List ℕ = n.tables.stamps.now in
    let room = room_of n e c.requires.admitted in
    let x : LoggedEvent = record { event = e; time = get_or n.seen e.thread 0 + 1 } in
    let rows = g.B.Bank.rows c.args.bank.now in
    let k : ℕ = length rows.threads in
    let stamp : List ℕ = get_or rows.threads e.thread [] in
    let bank_len = c.requires.bank_len in
    let long : length stamp ≡ k = (g.met.B.Bank.shaped c.args.bank.now).thread_rows e.thread (omega (arith, bank_len, room.thread)) in
    let same = ap (λ (w : Written). w.log) c.stamp_from.ensures ∙ c.total-position.ensures.same in
    record {
      sound = sound_at c.change_lock.ensures
          (c.add.ensures ∙ (ap (λ (k : Kept LoggedEvent). added k x) same ∙ added_more log x (omega (arith, room.short))))
          (ap (λ (w : Written). length w.stamps) c.stamp_from.ensures
          ∙ length-paste cells (c.total-position.result * k) stamp k
          (omega (arith, room.stamps, ap₂ ◌*◌ c.total-position.ensures.value bank_len, bank_len)) (omega (arith, long)))
          (more_sound n.counts n.locks n.seen log (length cells) e n.sound room.thread c.requires.admitted.lock room.log room.stamps room.short);
    }

pub returns : goal.returns
returns g c =
    let n = c.args.self.now in
    let e = c.args.event in
    let b = book n in
    let log = n.tables.log in
    let cells : List ℕ = n.tables.stamps.now in
    let rows = g.B.Bank.rows c.args.bank.now in
    let room = room_of n e c.requires.admitted in
    let at : c.total-position.result ≡ length (events b) = c.total-position.ensures.value ∙ sym (length_events log n.sound.whole) in
    let time = new_time n.counts n.locks n.seen log (length cells) e n.sound room.thread c.requires.admitted.lock room.log room.stamps room.short in
    record {
      position = at;
      after = entered b e (get_or rows.threads e.thread []) c.total-position.new.self c.add.new.self (written c.stamp_from.new.self)
          (length rows.threads) c.total-position.result (get_or n.seen e.thread 0 + 1)
          c.total-position.ensures.same c.stamp_from.ensures c.requires.bank_len at time c.add.ensures;
    }
