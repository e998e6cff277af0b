-- The invariant of a notebook: what it holds beside its tables follows from the log. Assumes nothing.
use Rattle.std.specs.Prelude.{◌≡◌, ℕ, ◌*◌, ◌<◌, ◌≤◌, List, length, slice_index, slice_index_or}
use Rattle.keep_list.specs.Kept.{Kept}
use Rattle.orders.specs.declared.counts.Counts.{Counts}
use Rattle.orders.specs.Traces.{thread_at, count, local}
use Rattle.orders.specs.Accepted.{holder}
use Rattle.notebook.specs.declared.lock.Lock.{Lock}
use Rattle.notebook.specs.declared.log.LoggedEvent.{LoggedEvent}
use Rattle.notebook.specs.Books.{logged_events}
use Rattle.notebook.specs.Places.{no_logged_event, free, holder_number}

-- of the counts, the locks, the numbers of events of each thread, the log, and how many places the stamps have
pub record Sound (c : Counts) (locks : List Lock) (seen : List ℕ) (log : Kept LoggedEvent) (places : ℕ) : Type 0 where
  pub few : c.threads ≤ 32
  pub some : c.locks ≤ 256
  pub many : c.variables ≤ 1024
  pub every : length locks ≡ 256
  pub each : length seen ≡ 32
  pub whole : log.total ≤ length log.table
  pub short : log.total ≤ 65535
  pub stamped : log.total * c.threads ≤ places
  pub inside : (i : ℕ) → i < log.total → thread_at (logged_events log) i < c.threads
  pub timed : (i : ℕ) → i < log.total → (slice_index_or log.table i no_logged_event).time ≡ local (logged_events log) i
  pub counted : (t : ℕ) → t < 32 → slice_index seen t ≡ count (logged_events log) t log.total
  pub held : (l : ℕ) → l < 256 → holder_number (slice_index_or locks l free).holder ≡ holder_number (holder (logged_events log) l log.total)
