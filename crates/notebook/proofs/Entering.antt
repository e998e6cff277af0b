-- One event more: the log, and what a notebook keeps beside it. Assumes nothing.
use Rattle.std.proofs.Common.{◌≡◌, ℕ, zero, suc, ◌+◌, ◌*◌, ◌<◌, ◌≤◌, Bool, true, cond, eqb, List, [], ◌∷◌, ◌++◌, map, length, get_or, take, set, Some, None, Option, sym, refl, ap, ◌∙◌, subst, ap₂, suc-mul, add-one, arith}
use native.Mathlib.Decide.{ℕ_discrete, dec_lt}
use Rattle.std.proofs.lemmas.List.{length-set, get_or-set_same, get_or-set_other, get_or_push, take_more_set, map_push}
use Rattle.std.proofs.lemmas.Bool.{ltb-true, eq-eqb, ne_eqb}
use Rattle.std.proofs.lemmas.Bool.Decides.{nat_tests}
use Rattle.clock_bank.specs.Faults.{unless}
use Rattle.keep_list.specs.Kept.{Kept}
use Rattle.keep_list.proofs.Records.{more}
use Rattle.events.specs.declared.event.Operation.{Operation}
use Rattle.events.specs.declared.event.Operation.TheVariants.{Read, Write, Acquire, Release}
use Rattle.events.specs.declared.event.Event.{Event}
use Rattle.events.specs.Events.{object_of}
use Rattle.orders.specs.declared.counts.Counts.{Counts}
use Rattle.orders.specs.Traces.{no_event, event, thread_at, count, local}
use Rattle.orders.specs.Accepted.{held_after, holder}
use Rattle.orders.proofs.LocalTimes.{count_same, count_other, local_is}
use Rattle.orders.proofs.Prefixes.{shares, count_shared, local_shared, holder_shared}
use Rattle.notebook.specs.declared.fault.NotebookFault.{NotebookFault}
use Rattle.notebook.specs.declared.lock.Lock.{Lock}
use Rattle.notebook.specs.declared.log.LoggedEvent.{LoggedEvent}
use Rattle.notebook.specs.Places.{no_logged_event, free, holder_number}
use Rattle.notebook.specs.Locks.{lock_fault, lock_after}
use Rattle.notebook.specs.Books.{logged_events, events}
use Rattle.notebook.specs.Notes.{Setting, setting, is_object_of, has_room, held_by}
use Rattle.notebook.specs.Parts.{Admitted, LockBelow, locks_after}
use Rattle.notebook.specs.declared.notebook.Notebook.{Notebook}
use Rattle.notebook.specs.View.{book}
use Rattle.notebook.proofs.Logs.{length_events}
use Rattle.notebook.specs.Sound.{Sound}

pub more_events : (log : Kept LoggedEvent) (x : LoggedEvent) → log.total < length log.table
    → logged_events (more log x) ≡ logged_events log ++ x.event ∷ []
more_events log x h =
    ap (map (λ (y : LoggedEvent). y.event)) (take_more_set log.table log.total x h)
    ∙ map_push (λ (y : LoggedEvent). y.event) (take log.total log.table) x

-- one event behind a trace
module _ (log : List Event) (e : Event) where
  abbrev longer : List Event
  longer = log ++ e ∷ []

  pub new_event : event longer (length log) ≡ e
  new_event = get_or_push log e no_event (length log) refl

  pub old_event : (i : ℕ) → i < length log → event longer i ≡ event log i
  old_event = shares log (e ∷ [])

  -- its local time is one more than the number of its thread's events
  pub new_local : local longer (length log) ≡ count log e.thread (length log) + 1
  new_local =
      omega (
        arith,
        local_is longer e.thread (length log) (ap (λ (d : Event). d.thread) new_event),
        count_shared (length log) longer log e.thread old_event,
      )

  pub new_count : (t : ℕ) → count longer t (suc (length log)) ≡ cond (eqb e.thread t) (suc (count log t (length log))) (count log t (length log))
  new_count t = cc (new_event, count_shared (length log) longer log t old_event)

  pub new_holder : (l : ℕ) → holder longer l (suc (length log)) ≡ held_after e.operation e.thread l (holder log l (length log))
  new_holder l = cc (new_event, holder_shared (length log) longer log l old_event)

pub holder_one : (o p : Option ℕ) → holder_number o ≡ holder_number p → o ≡ p
holder_one None None e = refl
holder_one None (Some t) e = absurd (omega arith)
holder_one (Some t) None e = absurd (omega arith)
holder_one (Some t) (Some u) e = ap Some (omega arith)

-- the locks hold what `who` says of each
abbrev Holds : List Lock → (ℕ → Option ℕ) → Type 0
Holds locks who = (l : ℕ) → l < 256 → holder_number (get_or locks l free).holder ≡ holder_number (who l)

-- one lock is changed
set_held : (locks : List Lock) (who : ℕ → Option ℕ) (m : ℕ) (x : Lock) (v : Option ℕ) → length locks ≡ 256 → Holds locks who
    → (m < 256 → x.holder ≡ v) → Holds (set locks m x) (λ l. cond (eqb m l) v (who l))
set_held locks who m x v long held is l h = elim (ℕ_discrete l m) [
  | yes e ↦ ap (λ (y : Lock). holder_number y.holder) (ap (λ (k : ℕ). get_or (set locks m x) k free) e ∙ get_or-set_same locks m x free (omega arith))
      ∙ (ap holder_number (is (omega arith)) ∙ ap (λ (b : Bool). holder_number (cond b v (who l))) (sym (eq-eqb m l (sym e))))
  | no e ↦ ap (λ (y : Lock). holder_number y.holder) (get_or-set_other locks m l x free e)
      ∙ (held l h ∙ ap (λ (b : Bool). holder_number (cond b v (who l))) (sym (ne_eqb m l (λ k. e (sym k)))))
]

-- an operation that nothing stands against at its lock changes the locks as the log says
pub locks_follow : (locks : List Lock) (who : ℕ → Option ℕ) (o : Operation) (t : ℕ) → length locks ≡ 256
    → lock_fault (who (object_of o)) t o ≡ None → Holds locks who → Holds (locks_after locks t o) (λ l. held_after o t l (who l))
locks_follow locks who (Read v) t long none held = held
locks_follow locks who (Write v) t long none held = held
locks_follow locks who (Acquire m) t long none held = set_held locks who m _ (Some t) long held
    (λ h. ap (lock_after (Acquire m) t) (holder_one _ _ (held m h)) ∙ acquired (who m) none)
  where
    acquired : (p : Option ℕ) → lock_fault p t (Acquire m) ≡ None → lock_after (Acquire m) t p ≡ Some t
    acquired p none = ap (λ (f : Option NotebookFault). unless f (Some t) p) none
locks_follow locks who (Release m) t long none held = set_held locks who m _ None long held
    (λ h. ap (lock_after (Release m) t) (holder_one _ _ (held m h)) ∙ released (who m) none)
  where
    released : (p : Option ℕ) → lock_fault p t (Release m) ≡ None → lock_after (Release m) t p ≡ None
    released p none = ap (λ (f : Option NotebookFault). unless f None p) none

length_locks : (locks : List Lock) (t : ℕ) (o : Operation) → length (locks_after locks t o) ≡ length locks
length_locks locks t (Read v) = refl
length_locks locks t (Write v) = refl
length_locks locks t (Acquire m) = length-set locks m _
length_locks locks t (Release m) = length-set locks m _

-- the numbers of events of each thread
counted_more : (seen : List ℕ) (log : List Event) (e : Event) → e.thread < length seen
    → ((t : ℕ) → t < 32 → get_or seen t 0 ≡ count log t (length log))
    → (t : ℕ) → t < 32 → get_or (set seen e.thread (get_or seen e.thread 0 + 1)) t 0 ≡ count (log ++ e ∷ []) t (suc (length log))
counted_more seen log e within counted t h = elim (ℕ_discrete t e.thread) [
  | yes is ↦
      ap (λ (k : ℕ). get_or (set seen e.thread (get_or seen e.thread 0 + 1)) k 0) is
      ∙ (get_or-set_same seen e.thread _ 0 within
      ∙ omega (
        arith,
        ap (λ (k : ℕ). get_or seen k 0) is,
        counted t h,
        new_count log e t,
        ap (λ (b : Bool). cond b (suc (count log t (length log))) (count log t (length log))) (eq-eqb e.thread t (sym is)),
      ))
  | no is ↦
      get_or-set_other seen e.thread t _ 0 is
      ∙ (counted t h
      ∙ sym (new_count log e t
      ∙ ap (λ (b : Bool). cond b (suc (count log t (length log))) (count log t (length log))) (ne_eqb e.thread t (λ k. is (sym k)))))
]

-- what a notebook keeps is kept
module _ (c : Counts) (locks : List Lock) (seen : List ℕ) (log : Kept LoggedEvent) (places : ℕ) (e : Event)
    (s : Sound c locks seen log places)
    (thread : e.thread < c.threads)
    (lock : lock_fault (held_by (logged_events log) (object_of e.operation)) e.thread e.operation ≡ None)
    (room : log.total < length log.table) (stamps : log.total * c.threads + c.threads ≤ places) (short : log.total < 65535) where
  n_is : length (logged_events log) ≡ log.total
  n_is = length_events log s.whole

  pub new_time : get_or seen e.thread 0 + 1 ≡ local (logged_events log ++ e ∷ []) (length (logged_events log))
  new_time =
      omega (
        arith,
        s.counted e.thread (omega (arith, s.few)),
        new_local (logged_events log) e,
        ap (count (logged_events log) e.thread) n_is,
      )

  pub more_sound : Sound c (locks_after locks e.thread e.operation) (set seen e.thread (get_or seen e.thread 0 + 1))
      (more log (record { event = e; time = get_or seen e.thread 0 + 1 })) places
  more_sound = record {
    few = s.few;
    some = s.some;
    many = s.many;
    every = length_locks locks e.thread e.operation ∙ s.every;
    each = length-set seen e.thread _ ∙ s.each;
    whole = omega (arith, length-set log.table log.total x);
    short = omega arith;
    stamped = omega (arith, suc-mul log.total c.threads, ap (λ (m : ℕ). m * c.threads) (add-one log.total));
    inside = λ i h. subst (λ (es : List Event). thread_at es i < c.threads) (sym events_are) (inside_more i h);
    timed = λ i h. time_more i h ∙ ap (λ (es : List Event). local es i) (sym events_are);
    counted = λ t h. counted_more seen es e (omega (arith, s.few, s.each)) (λ u l. s.counted u l ∙ ap (count es u) (sym n_is)) t h
        ∙ ap₂ (λ (xs : List Event) (m : ℕ). count xs t m) (sym events_are) after;
    held = λ l h. locks_follow locks (λ k. holder es k (length es)) e.operation e.thread s.every lock
        (λ k g. s.held k g ∙ ap (λ (m : ℕ). holder_number (holder es k m)) (sym n_is)) l h
        ∙ (ap holder_number (sym (new_holder es e l)) ∙ ap₂ (λ (xs : List Event) (m : ℕ). holder_number (holder xs l m)) (sym events_are) after);
  }
    where
      x : LoggedEvent
      x = record { event = e; time = get_or seen e.thread 0 + 1 }

      es : List Event
      es = logged_events log

      events_are : logged_events (more log x) ≡ es ++ e ∷ []
      events_are = more_events log x room

      after : suc (length es) ≡ log.total + 1
      after = omega (arith, n_is)

      inside_more : (i : ℕ) → i < log.total + 1 → thread_at (es ++ e ∷ []) i < c.threads
      inside_more i h = elim (dec_lt i log.total) [
        | yes l ↦ subst (λ (d : Event). d.thread < c.threads) (sym (old_event es e i (omega (arith, n_is)))) (s.inside i l)
        | no l ↦
            let is : i ≡ length es = omega (arith, n_is) in
            subst (λ (d : Event). d.thread < c.threads) (sym (ap (event (es ++ e ∷ [])) is ∙ new_event es e)) thread
      ]

      time_more : (i : ℕ) → i < log.total + 1 → (get_or (set log.table log.total x) i no_logged_event).time ≡ local (es ++ e ∷ []) i
      time_more i h = elim (dec_lt i log.total) [
        | yes l ↦
            ap (λ (y : LoggedEvent). y.time) (get_or-set_other log.table log.total i x no_logged_event (omega arith))
            ∙ (s.timed i l ∙ sym (local_shared (length es) (es ++ e ∷ []) es (old_event es e) i (omega (arith, n_is))))
        | no l ↦
            let is : i ≡ log.total = omega arith in
            ap (λ (k : ℕ). (get_or (set log.table log.total x) k no_logged_event).time) is
            ∙ (ap (λ (y : LoggedEvent). y.time) (get_or-set_same log.table log.total x no_logged_event room)
            ∙ (new_time ∙ ap (local (es ++ e ∷ [])) (n_is ∙ sym is)))
      ]

-- what an admitted event has
pub record Room (n : Notebook) (e : Event) : Type 0 where
  pub thread : e.thread < n.counts.threads
  pub log : n.tables.log.total < length n.tables.log.table
  pub stamps : n.tables.log.total * n.counts.threads + n.counts.threads ≤ length n.tables.stamps.now
  pub short : n.tables.log.total < 65535

-- room for one event more behind n
pub record RoomFor (m : Setting) (n : ℕ) : Type 0 where
  pub log : n < m.log_places
  pub stamps : n * m.counts.threads + m.counts.threads ≤ m.stamp_places
  pub short : n < 65535

pub room_for : (m : Setting) (n : ℕ) → has_room m n ≡ true → RoomFor m n
room_for m n h = record { log = grind (arith, nat_tests); stamps = grind (arith, nat_tests); short = grind (arith, nat_tests) }

pub room_of : (n : Notebook) (e : Event) → Admitted (book n) e → Room n e
room_of n e a =
    let total = length_events n.tables.log n.sound.whole in
    let room = room_for (setting (book n)) (length (events (book n))) a.room in
    record {
      thread = a.thread;
      log = omega (arith, total, room.log);
      stamps = omega (arith, ap (λ (m : ℕ). m * n.counts.threads) total, room.stamps);
      short = omega (arith, total, room.short);
    }

-- a lock that there is has a record
pub lock_below : (c : Counts) (o : Operation) → c.locks ≤ 256 → is_object_of c o ≡ true → LockBelow 256 o
lock_below c (Read v) few h = tt
lock_below c (Write v) few h = tt
lock_below c (Acquire l) few h = omega (arith, ltb-true _ _ h)
lock_below c (Release l) few h = omega (arith, ltb-true _ _ h)

-- a thread has no more events than there are
pub count_most : (log : List Event) (t n : ℕ) → count log t n ≤ n
count_most log t zero = omega arith
count_most log t (suc n) = elim (ℕ_discrete (thread_at log n) t) [
  | yes e ↦ omega (arith, count_same log t n e, count_most log t n)
  | no e ↦ omega (arith, count_other log t n e, count_most log t n)
]
