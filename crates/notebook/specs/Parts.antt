-- What the parts of a note do to the locks and the tables. Assumes nothing.
use Rattle.std.specs.Prelude.{◌≡◌, ℕ, ◌*◌, ◌<◌, ◌≤◌, true, List, length, None, slice_index_or, slice_set}
use Rattle.std.proofs.Math.Seq.{paste}
use Rattle.keep_list.specs.Kept.{Kept, all_added}
use Rattle.events.specs.declared.event.Operation.{Operation}
use Rattle.events.specs.declared.event.Operation.TheVariants.{Read, Write, Acquire, Release}
use Rattle.events.specs.declared.event.Event.{Event}
use Rattle.events.specs.Events.{object_of}
use Rattle.orders.specs.Traces.{thread_at, local}
use Rattle.orders.specs.Stamps.{unseen_by, pairs_with}
use Rattle.notebook.specs.declared.lock.Lock.{Lock}
use Rattle.notebook.specs.declared.log.LoggedEvent.{LoggedEvent}
use Rattle.notebook.specs.Locks.{lock_fault, lock_after}
use Rattle.notebook.specs.Places.{no_logged_event, free}
use Rattle.notebook.specs.Books.{Written, Book, logged_events, events}
use Rattle.notebook.specs.Notes.{setting, is_object_of, has_room, held_by}

-- nothing stands against an event in this notebook, by the conditions 9 to 13
pub record Admitted (b : Book) (e : Event) : Type 0 where
  pub thread : e.thread < b.counts.threads
  pub object : is_object_of b.counts e.operation ≡ true
  pub lock : lock_fault (held_by (events b) (object_of e.operation)) e.thread e.operation ≡ None
  pub room : has_room (setting b) (length (events b)) ≡ true

-- the lock of an operation, if it is on one, is among the first n
abbrev pub LockBelow : ℕ → Operation → Type 0
LockBelow n (Read v) = Unit {0}
LockBelow n (Write v) = Unit {0}
LockBelow n (Acquire l) = l < n
LockBelow n (Release l) = l < n

-- one lock after an operation of thread t
abbrev pub changed : Operation → ℕ → Lock → Lock
changed o t lock = record { holder = lock_after o t lock.holder }

-- the locks after an operation of thread t
abbrev pub locks_after : List Lock → ℕ → Operation → List Lock
locks_after locks t (Read v) = locks
locks_after locks t (Write v) = locks
locks_after locks t (Acquire l) = slice_set locks l (changed (Acquire l) t (slice_index_or locks l free))
locks_after locks t (Release l) = slice_set locks l (changed (Release l) t (slice_index_or locks l free))

-- the first n records of a log have their local times, of threads below k
pub record Timed (log : Kept LoggedEvent) (k n : ℕ) : Type 0 where
  pub within : n ≤ log.total
  pub whole : log.total ≤ length log.table
  pub inside : (i : ℕ) → i < log.total → thread_at (logged_events log) i < k
  pub timed : (i : ℕ) → i < log.total → (slice_index_or log.table i no_logged_event).time ≡ local (logged_events log) i

-- the tables with the stamp of the event at n, a row of k numbers, and with its pairs
abbrev pub stamped : Written → Event → List ℕ → ℕ → ℕ → Written
stamped w e row k n = record {
  log = w.log;
  stamps = paste w.stamps (n * k) row k;
  pairs = all_added w.pairs (pairs_with (unseen_by (logged_events w.log) e row) n n);
}
