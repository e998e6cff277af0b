-- What a note does: when it is refused, and what bank and notebook hold after it. Assumes nothing.
use Rattle.std.specs.Prelude.{◌≡◌, ℕ, ◌+◌, ◌*◌, Bool, ◌&&◌, List, [], ◌∷◌, ◌++◌, length, None, Option, Result, ◌==◌, nat_le, nat_lt}
use Rattle.std.proofs.Math.Seq.{paste}
use Rattle.keep_list.specs.Kept.{added, all_added}
use Rattle.clock_bank.specs.declared.fault.BankFault.{BankFault}
use Rattle.clock_bank.specs.Rows.{Rows, new_row}
use Rattle.clock_bank.specs.Faults.{or_fault, unless, require, advance_fault}
use Rattle.events.specs.declared.event.Operation.{Operation}
use Rattle.events.specs.declared.event.Operation.TheVariants.{Read, Write, Acquire, Release}
use Rattle.events.specs.declared.event.Event.{Event}
use Rattle.events.specs.Events.{object_of}
use Rattle.events.specs.Rules.{OrderRule}
use Rattle.orders.specs.declared.counts.Counts.{Counts}
use Rattle.orders.specs.Traces.{local}
use Rattle.orders.specs.Accepted.{holder}
use Rattle.orders.specs.Stamps.{moved, unseen_by, pairs_with}
use Rattle.notebook.specs.declared.fault.NotebookFault.{NotebookFault}
use Rattle.notebook.specs.declared.fault.NotebookFault.TheVariants.{Misfit, NoThread, NoObject, Full}
use Rattle.notebook.specs.Faults.{from_bank, first}
use Rattle.notebook.specs.Locks.{lock_fault}
use Rattle.notebook.specs.Books.{Book, events}

-- what of a notebook stays as it was made: its counts, its rule's number, and the lengths of its log and its stamps
pub record Setting : Type 0 where
  pub counts : Counts
  pub rule : ℕ
  pub log_places : ℕ
  pub stamp_places : ℕ

abbrev pub setting : Book → Setting
setting b = record {
  counts = b.counts;
  rule = b.rule;
  log_places = length b.tables.log.table;
  stamp_places = length b.tables.stamps;
}

-- a bank of k threads and s slots and a rule of this number are those that the notebook is for
abbrev pub fits : Setting → ℕ → ℕ → ℕ → Bool
fits m k s number = (k == m.counts.threads && s == m.counts.locks + m.counts.variables) && number == m.rule

-- the variable or lock of an operation is one that there is
abbrev pub is_object_of : Counts → Operation → Bool
is_object_of c (Read v) = nat_lt v c.variables
is_object_of c (Write v) = nat_lt v c.variables
is_object_of c (Acquire l) = nat_lt l c.locks
is_object_of c (Release l) = nat_lt l c.locks

-- there is room for one more behind n events: in the log, in the stamps, and below 65,535
abbrev pub has_room : Setting → ℕ → Bool
has_room m n = (nat_lt n m.log_places && nat_le (n * m.counts.threads + m.counts.threads) m.stamp_places) && nat_lt n 65535

-- who holds lock l after all events of a trace
abbrev pub held_by : List Event → ℕ → Option ℕ
held_by log l = holder log l (length log)

-- the conditions 9 to 12 of an event that would follow a trace, and then what comes next
abbrev pub admission : Setting → List Event → Event → Option NotebookFault → Option NotebookFault
admission m log e next =
    require (nat_lt e.thread m.counts.threads) NoThread
    (require (is_object_of m.counts e.operation) NoObject
    (first (lock_fault (held_by log (object_of e.operation)) e.thread e.operation) next))

-- the conditions 9 to 13
abbrev pub own_fault : Setting → List Event → Event → Option NotebookFault
own_fault m log e = admission m log e (require (has_room m (length log)) Full None)

-- the conditions 8 to 13, with a bank of k threads and s slots and a rule of this number
abbrev pub event_fault : Setting → ℕ → ℕ → ℕ → List Event → Event → Option NotebookFault
event_fault m k s number log e = require (fits m k s number) Misfit (own_fault m log e)

-- the bank's own, where the rule moves it by the event
abbrev pub move_fault : OrderRule → ℕ → Rows → Event → Option BankFault
move_fault r locks rows e = advance_fault rows e.thread (r.takes locks e.operation) (r.posts locks e.operation)

-- the conditions 8 to 13, and then the bank's own
abbrev pub note_fault : OrderRule → Rows → Book → Event → Option NotebookFault
note_fault r rows b e =
    first (event_fault (setting b) (length rows.threads) (length rows.slots) r.number (events b) e)
    (from_bank (move_fault r b.counts.locks rows e))

-- the new row of the event's thread, once the rule has moved the bank
abbrev pub new_stamp : OrderRule → ℕ → Rows → Event → List ℕ
new_stamp r locks rows e = new_row rows e.thread (r.takes locks e.operation)

-- a notebook with one event more, whose stamp is row: the log has the event with its local time, the stamps have the row
-- behind the others, and of the earlier positions, rising, each that is unseen by the event is a pair with it
abbrev pub noted : Book → Event → List ℕ → Book
noted b e row =
    let log : List Event = events b in
    let n : ℕ = length log in
    record {
      counts = b.counts;
      rule = b.rule;
      tables = record {
        log = added b.tables.log (record { event = e; time = local (log ++ e ∷ []) n });
        stamps = paste b.tables.stamps (n * b.counts.threads) row b.counts.threads;
        pairs = all_added b.tables.pairs (pairs_with (unseen_by log e row) n n);
      };
    }

-- a note of e under the rule r, from rows and the notebook b to rows' and b': the answer is the event's position
pub record Note (r : OrderRule) (rows : Rows) (b : Book) (e : Event) (answer : Result ℕ NotebookFault) (rows' : Rows) (b' : Book) : Type 0 where
  pub answers : answer ≡ or_fault (note_fault r rows b e) (length (events b))
  pub advances : rows' ≡ unless (note_fault r rows b e) (moved r b.counts.locks rows e) rows
  pub notes : b' ≡ unless (note_fault r rows b e) (noted b e (new_stamp r b.counts.locks rows e)) b
