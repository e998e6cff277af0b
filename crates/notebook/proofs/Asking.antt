-- What the questions find, by places. Assumes nothing.
use Rattle.std.proofs.Common.{◌≡◌, ℕ, ◌+◌, ◌*◌, ◌<◌, ◌≤◌, Bool, true, false, ◌&&◌, ltb, leb, length, get_or, Some, None, Ok, Err, Result, sym, ap, ◌∙◌, ap₂, inl, inr, arith}
use Rattle.std.specs.List.{slice_get}
use Rattle.std.proofs.lemmas.Bool.{cases_lt, lt-ltb, le-ltb}
use Rattle.keep_list.specs.Kept.{records}
use Rattle.keep_list.proofs.Records.{held_none}
use Rattle.clock_bank.specs.Faults.{or_fault, require}
use Rattle.clock_bank.proofs.Refusals.{ok_is}
use Rattle.clock_bank.proofs.Runs.{get_or_run}
use Rattle.events.specs.declared.event.Event.{Event}
use Rattle.orders.specs.Traces.{thread_at, local}
use Rattle.std.proofs.lemmas.Option.{none-some}
use Rattle.notebook.specs.declared.fault.NotebookFault.{NotebookFault}
use Rattle.notebook.specs.declared.fault.NotebookFault.TheVariants.{NoThread, NoPosition}
use Rattle.notebook.specs.declared.log.LoggedEvent.{LoggedEvent}
use Rattle.notebook.specs.declared.notebook.Notebook.{Notebook}
use Rattle.notebook.specs.Books.{events, stamp_held}
use Rattle.notebook.specs.Questions.{stamp_answer, before_answer}
use Rattle.notebook.specs.View.{book}
use Rattle.notebook.proofs.Logs.{length_events, event_at, record_at}

ok_err : {v : ℕ} {f : NotebookFault} → ◌≡◌ {A = Result ℕ NotebookFault} (Ok v) (Err f) → ⊥
ok_err e = let z : ◌≡◌ {A = ℕ} 0 1 = cc in omega arith

module _ (n : Notebook) where
  total_is : length (events (book n)) ≡ n.tables.log.total
  total_is = length_events n.tables.log n.sound.whole

  -- a record that is told is at a position
  pub position_there : (i : ℕ) (x : LoggedEvent) → Some x ≡ slice_get (records n.tables.log) i → i < n.tables.log.total
  position_there i x is = elim (cases_lt i n.tables.log.total) [
    | inl h ↦ h
    | inr h ↦ absurd (none-some _ (held_none n.tables.log.table n.tables.log.total i (omega arith) ∙ sym is))
  ]

  below : (i : ℕ) → i < n.tables.log.total → ltb i (length (events (book n))) ≡ true
  below i h = lt-ltb i (length (events (book n))) (omega (arith, total_is))

  past : (i : ℕ) → n.tables.log.total ≤ i → ltb i (length (events (book n))) ≡ false
  past i h = le-ltb i (length (events (book n))) (omega (arith, total_is))

  pub stamp_missing : (i t : ℕ) → n.tables.log.total ≤ i → Err NoPosition ≡ stamp_answer (book n) i t
  stamp_missing i t h =
      ap (λ (b : Bool). or_fault (require b NoPosition (require (ltb t n.counts.threads) NoThread None)) (get_or (stamp_held (book n) i) t 0)) (sym (past i h))

  pub stamp_told : (i t : ℕ) → i < n.tables.log.total → t < n.counts.threads
      → Ok (get_or n.tables.stamps.now (i * n.counts.threads + t) 0) ≡ stamp_answer (book n) i t
  stamp_told i t h g =
      ap Ok (sym (get_or_run (i * n.counts.threads) n.counts.threads t 0 n.tables.stamps.now g))
      ∙ ap₂ (λ (b d : Bool). or_fault (require b NoPosition (require d NoThread None)) (get_or (stamp_held (book n) i) t 0))
      (sym (below i h)) (sym (lt-ltb t n.counts.threads g))

  -- of a record that is told: its local time, and its thread
  time_of : (i : ℕ) (x : LoggedEvent) → Some x ≡ slice_get (records n.tables.log) i → x.time ≡ local (events (book n)) i
  time_of i x is =
      let h = position_there i x is in
      ap (λ (y : LoggedEvent). y.time) (record_at n.tables.log n.sound.whole i x h is) ∙ n.sound.timed i h

  thread_of : (i : ℕ) (x : LoggedEvent) → Some x ≡ slice_get (records n.tables.log) i → x.event.thread ≡ thread_at (events (book n)) i
  thread_of i x is =
      let h = position_there i x is in
      ap (λ (y : LoggedEvent). y.event.thread) (record_at n.tables.log n.sound.whole i x h is)
      ∙ sym (ap (λ (d : Event). d.thread) (event_at n.tables.log n.sound.whole i h))

  thread_in : (i : ℕ) (x : LoggedEvent) → Some x ≡ slice_get (records n.tables.log) i → x.event.thread < n.counts.threads
  thread_in i x is = omega (arith, thread_of i x is, n.sound.inside i (position_there i x is))

  -- the answer by the two positions
  answer_by : (i j : ℕ) (b d : Bool) → ltb i (length (events (book n))) ≡ b → ltb j (length (events (book n))) ≡ d
      → before_answer (book n) i j
      ≡ or_fault (require (b && d) NoPosition None) (leb (local (events (book n)) i) (get_or (stamp_held (book n) j) (thread_at (events (book n)) i) 0))
  answer_by i j b d p q =
      ap₂ (λ (x y : Bool). or_fault (require (x && y) NoPosition None)
      (leb (local (events (book n)) i) (get_or (stamp_held (book n) j) (thread_at (events (book n)) i) 0))) p q

  pub before_told : (i j : ℕ) (x : LoggedEvent) (v : ℕ) → Some x ≡ slice_get (records n.tables.log) i
      → Ok v ≡ stamp_answer (book n) j x.event.thread → Ok (leb x.time v) ≡ before_answer (book n) i j
  before_told i j x v is told = elim (cases_lt j n.tables.log.total) [
    | inl h ↦
        let known : v ≡ get_or n.tables.stamps.now (j * n.counts.threads + x.event.thread) 0 =
        ok_is (told ∙ sym (stamp_told j x.event.thread h (thread_in i x is))) in
        let row = get_or_run (j * n.counts.threads) n.counts.threads x.event.thread 0 n.tables.stamps.now (thread_in i x is) in
        let stamp : v ≡ get_or (stamp_held (book n) j) (thread_at (events (book n)) i) 0 =
        known ∙ (sym row ∙ ap (λ (t : ℕ). get_or (stamp_held (book n) j) t 0) (thread_of i x is)) in
        ap₂ (λ (a b : ℕ). Ok (leb a b)) (time_of i x is) stamp ∙ sym (answer_by i j true true (below i (position_there i x is)) (below j h))
    | inr h ↦ absurd (ok_err (told ∙ sym (stamp_missing j x.event.thread h)))
  ]
