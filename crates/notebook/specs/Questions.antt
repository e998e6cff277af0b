-- What the questions answer, and what the answers mean in a run. Assumes nothing.
use Rattle.std.specs.Prelude.{◌≡◌, ℕ, ◌<◌, Bool, ◌&&◌, List, length, take, IfOk, IsTrue, ◌↔◌, Some, None, Ok, Err, Option, Result, nat_le, nat_lt, slice_index, slice_index_or}
use Rattle.std.specs.List.{slice_get}
use Rattle.keep_list.specs.Kept.{records}
use Rattle.clock_bank.specs.Faults.{or_fault, require}
use Rattle.events.specs.declared.event.Event.{Event}
use Rattle.events.specs.Rules.{OrderRule}
use Rattle.orders.specs.declared.counts.Counts.{Counts}
use Rattle.orders.specs.declared.pair.PositionPair.{PositionPair}
use Rattle.orders.specs.Traces.{event, thread_at, local}
use Rattle.orders.specs.Accepted.{Accepted}
use Rattle.orders.specs.Orders.{Relation, Before, Order1, Order2}
use Rattle.orders.specs.Times.{Time}
use Rattle.orders.specs.Pairs.{Lists, Total}
use Rattle.notebook.specs.declared.fault.NotebookFault.{NotebookFault}
use Rattle.notebook.specs.declared.fault.NotebookFault.TheVariants.{NoThread, NoPosition, NotHeld}
use Rattle.notebook.specs.declared.notebook.Notebook.{Notebook}
use Rattle.notebook.specs.Places.{free}
use Rattle.notebook.specs.Books.{Book, events, stamp_held}
use Rattle.notebook.specs.Notes.{held_by}
use Rattle.notebook.specs.View.{book}

abbrev pub event_answer : Book → ℕ → Result Event NotebookFault
event_answer b i = or_fault (require (nat_lt i (length (events b))) NoPosition None) (event (events b) i)

abbrev pub stamp_answer : Book → ℕ → ℕ → Result ℕ NotebookFault
stamp_answer b i t =
    or_fault (require (nat_lt i (length (events b))) NoPosition (require (nat_lt t b.counts.threads) NoThread None)) (slice_index (stamp_held b i) t)

-- the event at i is before that at j, or is it, if its local time is at most the stamp of j at its thread
abbrev pub before_answer : Book → ℕ → ℕ → Result Bool NotebookFault
before_answer b i j =
    or_fault (require (nat_lt i (length (events b)) && nat_lt j (length (events b))) NoPosition None)
    (nat_le (local (events b) i) (slice_index (stamp_held b j) (thread_at (events b) i)))

-- a pair that is told, or that is not held
abbrev pub pair_found : Option PositionPair → Result PositionPair NotebookFault
pair_found None = Err NotHeld
pair_found (Some p) = Ok p

abbrev pub pair_answer : Book → ℕ → Result PositionPair NotebookFault
pair_answer b m = pair_found (slice_get (records b.tables.pairs) m)

-- the log is the account, which is an accepted trace, and each lock is held as the account says
pub record KeepsAccount (n : Notebook) (log : List Event) : Type 0 where
  pub logs : events (book n) ≡ log
  pub holds : (l : ℕ) → l < n.counts.locks → (slice_index_or n.locks l free).holder ≡ held_by log l
  pub accepts : Accepted n.counts log

-- P holds of the order that the rule means on a trace, and of order 1 or order 2 by its name where the rule has its number
pub record OfOrder (r : OrderRule) (c : Counts) (log : List Event) (P : Relation → Type 0) : Type 0 where
  pub rule : P (Before r c.locks log)
  pub order_1 : r.number ≡ 1 → P (Order1 log)
  pub order_2 : r.number ≡ 2 → P (Order2 log)

-- a stamp that is answered is the event's time
abbrev pub TellsTime : ℕ → ℕ → Result ℕ NotebookFault → Counts → OrderRule → List Event → Type 0
TellsTime i t answer c r log = IfOk answer (λ v. OfOrder r c log (λ B. Time B log i t v))

-- "before or equal" is answered as the order says
abbrev pub TellsOrder : ℕ → ℕ → Result Bool NotebookFault → Counts → OrderRule → List Event → Type 0
TellsOrder i j answer c r log = IfOk answer (λ yes'. OfOrder r c log (λ B. IsTrue yes' ↔ B i j))

-- the total is the number of all pairs
abbrev pub TellsTotal : ℕ → Counts → OrderRule → List Event → Type 0
TellsTotal answer c r log = OfOrder r c log (λ B. Total B log answer)

-- the pairs that are told are the list of all pairs, cut only where the table, of so many places, ends
abbrev pub TellsPair : ℕ → ℕ → Result PositionPair NotebookFault → Counts → OrderRule → List Event → Type 0
TellsPair places m answer c r log =
    OfOrder r c log (λ B. (ps : List PositionPair) → Lists B log ps → answer ≡ pair_found (slice_get (take places ps) m))
