-- Along a run the notebook follows its account: log, stamps and pairs are those of the account's events. Assumes nothing.
use Rattle.std.proofs.Common.{◌≡◌, ℕ, suc, ◌+◌, ◌*◌, ◌<◌, ◌≤◌, List, [], ◌∷◌, ◌++◌, length, Some, None, Option, Result, sym, refl, ap, ◌∙◌, subst, ap₂, inl, mul-le-mul_right, suc-mul, arith}
use native.Mathlib.Decide.{dec_lt}
use Rattle.std.proofs.lemmas.List.{length-set, length_push}
use Rattle.std.proofs.lemmas.List.Edits.{length-paste}
use Rattle.keep_list.specs.Kept.{Kept, empty, all_added}
use Rattle.keep_list.proofs.Records.{all_added_append}
use Rattle.clock_bank.specs.Rows.{Rows, fresh, entry}
use Rattle.clock_bank.specs.Runs.{run}
use Rattle.clock_bank.specs.Faults.{unless}
use Rattle.clock_bank.proofs.Runs.{run_same, run_beside}
use Rattle.clock_bank.proofs.Entries.{Sized, thread_row, fresh_sized, advanced_sized, length_new_row}
use Rattle.clock_bank.proofs.Refusals.{slot_there, step_free}
use Rattle.events.specs.declared.event.Event.{Event}
use Rattle.events.specs.Rules.{OrderRule, Lawful}
use Rattle.orders.specs.declared.counts.Counts.{Counts}
use Rattle.orders.specs.declared.pair.PositionPair.{PositionPair}
use Rattle.orders.specs.Accepted.{HasObject, Accepted}
use Rattle.orders.specs.Stamps.{moved, after, stamp, unseen_by, pairs_with, found}
use Rattle.orders.proofs.Slots.{takes_inside, posts_inside}
use Rattle.orders.proofs.Times.{own_entry, after_right, stamp_is}
use Rattle.orders.proofs.Prefixes.{after_shared, stamp_shared, found_more}
use Rattle.notebook.specs.declared.fault.NotebookFault.{NotebookFault}
use Rattle.notebook.specs.declared.log.LoggedEvent.{LoggedEvent}
use Rattle.notebook.specs.declared.notebook.Notebook.{Notebook}
use Rattle.notebook.specs.Books.{Book, logged_events, events, stamp_held, admitted_counts}
use Rattle.notebook.specs.Notes.{Setting, setting, event_fault, move_fault, note_fault, new_stamp, Note}
use Rattle.notebook.specs.Runs.{Call, notes, asks, Start, made, accepted_by, Run, fresh_start, then_notes, then_asks}
use Rattle.notebook.specs.View.{book}
use Rattle.keep_list.proofs.Records.{added_more}
use Rattle.notebook.proofs.Logs.{length_events}
use Rattle.notebook.proofs.Entering.{more_events, new_event, old_event, count_most, Room, room_of}
use Rattle.notebook.proofs.Noting.{written_down, event_refused, bank_answers, Right, right, admitted}
use Rattle.notebook.proofs.Accepting.{object_there, empty_accepted, more_accepted}

module _ (s : Start) (r : OrderRule) (law : Lawful r) where
  -- the counts as the notebook has them
  abbrev counts_made : Counts
  counts_made = admitted_counts s.counts

  pub record Follows (log : List Event) (rows : Rows) (b : Book) : Type 0 where
    pub same : setting b ≡ setting (made s)
    pub logs : events b ≡ log
    pub accepts : Accepted counts_made log
    pub sized : Sized s.threads s.slots rows
    pub rows_are : s.threads ≡ counts_made.threads → s.slots ≡ counts_made.locks + counts_made.variables
        → rows ≡ after r counts_made log (length log)
    pub stamps : (i : ℕ) → i < length log → stamp_held b i ≡ stamp r counts_made log i
    pub pairs : b.tables.pairs ≡ all_added (empty s.pairs) (found r counts_made log)

  begins : (rows : Rows) (b : Book) → rows ≡ fresh s.threads s.slots → b ≡ made s → Follows [] rows b
  begins rows b rows-fresh b-made =
      subst (λ x. Follows [] x b) (sym rows-fresh) (subst (Follows [] (fresh s.threads s.slots)) (sym b-made) (record {
        same = refl;
        logs = refl;
        accepts = empty_accepted counts_made;
        sized = fresh_sized s.threads s.slots;
        rows_are = λ e f. ap₂ fresh e f;
        stamps = λ i h. absurd (omega arith);
        pairs = refl;
      }))

  -- the conditions read with the notebook are those read with the account
  same_fault : (log : List Event) (rows : Rows) (b : Book) (e : Event) → Follows log rows b
      → event_fault (setting b) (length rows.threads) (length rows.slots) r.number (events b) e
      ≡ event_fault (setting (made s)) s.threads s.slots r.number log e
  same_fault log rows b e f = cc

  -- one event more is accepted
  module _ (log : List Event) (rows : Rows) (n : Notebook) (e : Event) (f : Follows log rows (book n))
      (none : event_fault (setting (made s)) s.threads s.slots r.number log e ≡ None) where
    abbrev longer : List Event
    longer = log ++ e ∷ []

    ok : Right (setting (made s)) s.threads s.slots r.number log e
    ok = right (setting (made s)) s.threads s.slots r.number log e none

    here : event_fault (setting (book n)) (length rows.threads) (length rows.slots) r.number (events (book n)) e ≡ None
    here = same_fault log rows (book n) e f ∙ none

    room : Room n e
    room = room_of n e (admitted (book n) (length rows.threads) (length rows.slots) r.number e
        (right (setting (book n)) (length rows.threads) (length rows.slots) r.number (events (book n)) e here))

    counts_are : n.counts ≡ counts_made
    counts_are = ap (λ (m : Setting). m.counts) f.same

    threads_are : n.counts.threads ≡ counts_made.threads
    threads_are = ap (λ (c : Counts). c.threads) counts_are

    rows_now : rows ≡ after r counts_made log (length log)
    rows_now = f.rows_are ok.threads ok.slots

    total_is : n.tables.log.total ≡ length log
    total_is = sym (length_events n.tables.log n.sound.whole) ∙ ap length f.logs

    object : HasObject counts_made e.operation
    object = object_there counts_made e.operation ok.object

    accepts_more : Accepted counts_made (log ++ e ∷ [])
    accepts_more = more_accepted counts_made log e f.accepts ok.thread object ok.lock

    one_more : length (log ++ e ∷ []) ≡ suc (length log)
    one_more = length_push log e ∙ omega arith

    -- the bank does not refuse: the thread's own entry is the number of its events
    own_below : entry rows.threads e.thread e.thread < 65535
    own_below =
        let now = after r counts_made log (length log) in
        let knows = (after_right r law counts_made log f.accepts.inside (length log) (omega arith)).knows e.thread e.thread ok.thread ok.thread in
        let own = own_entry r counts_made.locks log e.thread (length log) (entry now.threads e.thread e.thread) (omega arith) knows in
        omega (
          arith,
          own,
          count_most log e.thread (length log),
          room.short,
          total_is,
          ap (λ (x : Rows). entry x.threads e.thread e.thread) rows_now,
        )

    bank_free : move_fault r n.counts.locks rows e ≡ None
    bank_free =
        let slots : length rows.slots ≡ counts_made.locks + counts_made.variables = f.sized.slots ∙ ok.slots in
        let there : move_fault r counts_made.locks rows e ≡ None =
        step_free (length rows.threads) (length rows.slots) (entry rows.threads e.thread e.thread) e.thread _ _ (record {
          thread = omega (arith, f.sized.threads, ok.threads, ok.thread);
          take_slot = slot_there (length rows.slots) _ (λ q is. omega (arith, slots, takes_inside r law counts_made e.operation q object is));
          post_slot = slot_there (length rows.slots) _ (λ q is. omega (arith, slots, posts_inside r law counts_made e.operation q object is));
          below = own_below;
        }) in
        ap (λ (c : Counts). move_fault r c.locks rows e) counts_are ∙ there

    pub never_refused : note_fault r rows (book n) e ≡ None
    never_refused = bank_answers r rows (book n) e None here bank_free

    rows_more : moved r n.counts.locks rows e ≡ after r counts_made (log ++ e ∷ []) (suc (length log))
    rows_more = cc (counts_are, rows_now, new_event log e, after_shared r counts_made (length log) longer log (old_event log e))

    abbrev row : List ℕ
    row = new_stamp r n.counts.locks rows e

    row_is : row ≡ stamp r counts_made (log ++ e ∷ []) (length log)
    row_is = cc (
      counts_are,
      rows_now,
      new_event log e,
      after_shared r counts_made (length log) longer log (old_event log e),
      stamp_is r law counts_made longer accepts_more.inside (length log) (omega (arith, one_more)),
    )

    row_long : length row ≡ n.counts.threads
    row_long =
        length_new_row rows e.thread (r.takes n.counts.locks e.operation)
        ∙ (thread_row f.sized e.thread (omega (arith, ok.threads, ok.thread)) ∙ omega (arith, ok.threads, threads_are))

    at_is : length (events (book n)) ≡ length log
    at_is = ap length f.logs

    fits : length (events (book n)) * n.counts.threads + n.counts.threads ≤ length n.tables.stamps.now
    fits = omega (arith, room.stamps, ap (λ (m : ℕ). m * n.counts.threads) (at_is ∙ sym total_is))

    stamps_more : (i : ℕ) → i < length (log ++ e ∷ []) → stamp_held (written_down r rows (book n) e) i ≡ stamp r counts_made (log ++ e ∷ []) i
    stamps_more i h = elim (dec_lt i (length log)) [
      | yes l ↦
          run_beside cells (length (events (book n)) * k) k row row_long fits (i * k) (inl (before l))
          ∙ (f.stamps i l ∙ sym (stamp_shared r counts_made (length log) longer log (old_event log e) i l))
      | no l ↦
          let is : i ≡ length (events (book n)) = omega (arith, at_is, one_more) in
          ap (λ (m : ℕ). stamp_held (written_down r rows (book n) e) m) is
          ∙ (run_same cells (length (events (book n)) * k) k row row_long fits
          ∙ (row_is ∙ ap (stamp r counts_made longer) (sym at_is ∙ sym is)))
    ]
      where
        cells : List ℕ
        cells = n.tables.stamps.now

        k : ℕ
        k = n.counts.threads

        before : i < length log → i * n.counts.threads + n.counts.threads ≤ length (events (book n)) * n.counts.threads
        before l = omega (
          arith,
          suc-mul i n.counts.threads,
          mul-le-mul_right n.counts.threads (le_at l),
        )
          where
            le_at : i < length log → suc i ≤ length (events (book n))
            le_at l = omega (arith, at_is)

    pairs_more : (written_down r rows (book n) e).tables.pairs ≡ all_added (empty s.pairs) (found r counts_made (log ++ e ∷ []))
    pairs_more =
        let new : List PositionPair = pairs_with (unseen_by log e (stamp r counts_made longer (length log))) (length log) (length log) in
        ap₂ (λ (es : List Event) (x : List ℕ). all_added (book n).tables.pairs (pairs_with (unseen_by es e x) (length es) (length es))) f.logs row_is
        ∙ (ap (λ (ps : Kept PositionPair). all_added ps new) f.pairs
        ∙ (sym (all_added_append (empty s.pairs) (found r counts_made log) new)
        ∙ ap (all_added (empty s.pairs)) (sym (found_more r counts_made log e))))

    events_more : events (written_down r rows (book n) e) ≡ log ++ e ∷ []
    events_more =
        let x : LoggedEvent = record { event = e; time = _ } in
        ap logged_events (added_more n.tables.log x (omega (arith, room.short)))
        ∙ (more_events n.tables.log x room.log ∙ ap (λ (es : List Event). es ++ e ∷ []) f.logs)

    same_more : setting (written_down r rows (book n) e) ≡ setting (made s)
    same_more =
        ap₂ (λ (p q : ℕ). record { counts = n.counts; rule = n.rule; log_places = p; stamp_places = q })
        (ap (λ (log : Kept LoggedEvent). length log.table) (added_more n.tables.log _ (omega (arith, room.short)))
        ∙ length-set n.tables.log.table n.tables.log.total _)
        (length-paste n.tables.stamps.now _ row _ fits (omega (arith, row_long)))
        ∙ f.same

    pub follows_more : Follows (log ++ e ∷ []) (moved r n.counts.locks rows e) (written_down r rows (book n) e)
    follows_more = record {
      same = same_more;
      logs = events_more;
      accepts = accepts_more;
      sized = advanced_sized s.threads s.slots rows e.thread _ _ f.sized (omega (arith, ok.threads, ok.thread));
      rows_are = λ p q. rows_more ∙ ap (after r counts_made longer) (sym one_more);
      stamps = stamps_more;
      pairs = pairs_more;
    }

  step : (log : List Event) (rows rows' : Rows) (n n' : Notebook) (e : Event) (answer : Result ℕ NotebookFault) → Follows log rows (book n)
      → Note r rows (book n) e answer rows' (book n')
      → Follows (unless (event_fault (setting (made s)) s.threads s.slots r.number log e) (log ++ e ∷ []) log) rows' (book n')
  step log rows rows' n n' e answer f note = go (event_fault (setting (made s)) s.threads s.slots r.number log e) refl
    where
      go : (x : Option NotebookFault) → event_fault (setting (made s)) s.threads s.slots r.number log e ≡ x
          → Follows (unless x (log ++ e ∷ []) log) rows' (book n')
      go (Some d) is =
          let fault = event_refused r rows (book n) e d (same_fault log rows (book n) e f ∙ is) in
          let rows_same : rows' ≡ rows = note.advances ∙ ap (λ (y : Option NotebookFault). unless y (moved r n.counts.locks rows e) rows) fault in
          let book-same : book n' ≡ book n = note.notes ∙ ap (λ (y : Option NotebookFault). unless y (written_down r rows (book n) e) (book n)) fault in
          subst (λ (x : Rows). Follows log x (book n')) (sym rows_same) (subst (Follows log rows) (sym book-same) f)
      go None is =
          let fault = never_refused log rows n e f is in
          let rows-moved : rows' ≡ moved r n.counts.locks rows e = note.advances ∙ ap (λ (y : Option NotebookFault). unless y (moved r n.counts.locks rows e) rows) fault in
          let book-noted : book n' ≡ written_down r rows (book n) e =
          note.notes ∙ ap (λ (y : Option NotebookFault). unless y (written_down r rows (book n) e) (book n)) fault in
          subst (λ (x : Rows). Follows (log ++ e ∷ []) x (book n')) (sym rows-moved)
          (subst (Follows (log ++ e ∷ []) (moved r n.counts.locks rows e)) (sym book-noted) (follows_more log rows n e f is))

  pub follows : (calls : List Call) (rows : Rows) (n : Notebook) → Run s r calls rows n → Follows (accepted_by s r calls) rows (book n)
  follows [] rows n (fresh_start p q) = begins rows (book n) p q
  follows (notes e ∷ calls) rows n (then_notes {rows = was} {n = m} run did) = step _ was rows m n e _ (follows calls was m run) did
  follows (asks ∷ calls) rows n (then_asks {rows = was} {n = m} run p q) =
      subst (λ (x : Rows). Follows (accepted_by s r calls) x (book n)) (sym p)
      (subst (Follows (accepted_by s r calls) was) (sym q) (follows calls was m run))
