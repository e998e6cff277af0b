-- The worked runs: short traces with the times and pairs that orders 1 and 2 give them. Assumes nothing.
use Rattle.std.specs.Prelude.{◌≡◌, ℕ, ◌<◌, List, [], ◌∷◌, length, slice_index}
use Rattle.std.specs.List.{AllByRecursion}
use Rattle.events.specs.declared.event.Operation.{Operation}
use Rattle.events.specs.declared.event.Operation.TheVariants.{Read, Write, Acquire, Release}
use Rattle.events.specs.declared.event.Event.{Event}
use Rattle.orders.specs.declared.counts.Counts.{Counts}
use Rattle.orders.specs.declared.pair.PositionPair.{PositionPair}
use Rattle.orders.specs.Accepted.{Accepted}
use Rattle.orders.specs.Orders.{Relation, Order1, Order2}
use Rattle.orders.specs.Times.{Time}
use Rattle.orders.specs.Pairs.{positions, Lists}

-- the time of the event at a position, a number for each thread
pub record Stamp : Type 0 where
  pub at : ℕ
  pub time : List ℕ

-- what a run states under one order: the times of some events, and all pairs
pub record Stated : Type 0 where
  pub times : List Stamp
  pub pairs : List PositionPair

pub record Run : Type 0 where
  pub counts : Counts
  pub log : List Event
  pub order_1 : Stated
  pub order_2 : Stated

pub record Timed (c : Counts) (B : Relation) (log : List Event) (s : Stamp) : Type 0 where
  pub inside : s.at < length log
  pub whole : length s.time ≡ c.threads
  pub times : (t : ℕ) → t < c.threads → Time B log s.at t (slice_index s.time t)

-- the order B gives what is stated
pub record Gives (c : Counts) (B : Relation) (log : List Event) (s : Stated) : Type 0 where
  pub times : AllByRecursion (Timed c B log) s.times
  pub pairs : Lists B log s.pairs

-- the run is an accepted trace, and what it states is so
pub record Holds (run : Run) : Type 0 where
  pub accepted : Accepted run.counts run.log
  pub order_1 : Gives run.counts (Order1 run.log) run.log run.order_1
  pub order_2 : Gives run.counts (Order2 run.log) run.log run.order_2

abbrev pub sizes : ℕ → ℕ → ℕ → Counts
sizes threads locks variables = record { threads = threads; locks = locks; variables = variables }

abbrev pub does : ℕ → Operation → Event
does t o = record { thread = t; operation = o }

abbrev pub stated : List Stamp → List PositionPair → Stated
stated times pairs = record { times = times; pairs = pairs }

abbrev pub stamped : ℕ → List ℕ → Stamp
stamped at time = record { at = at; time = time }

abbrev pub run : Counts → List Event → Stated → Stated → Run
run counts log first second = record { counts = counts; log = log; order_1 = first; order_2 = second }

-- a thread acquires a lock, and releases it
abbrev pub locked : ℕ → ℕ → List Event → List Event
locked t l es = does t (Acquire l) ∷ does t (Release l) ∷ es

-- one thread, no event
abbrev pub run_a : Run
run_a = run (sizes 1 0 0) [] (stated [] []) (stated [] [])

-- t0 writes v0, t1 reads it
abbrev pub run_b : Run
run_b = run (sizes 2 0 1) (does 0 (Write 0) ∷ does 1 (Read 0) ∷ [])
    (stated (stamped 0 (1 ∷ 0 ∷ []) ∷ stamped 1 (0 ∷ 1 ∷ []) ∷ []) (positions 0 1 ∷ []))
    (stated (stamped 0 (1 ∷ 0 ∷ []) ∷ stamped 1 (1 ∷ 1 ∷ []) ∷ []) [])

-- its events in the other order
abbrev pub turned_b : List Event
turned_b = does 1 (Read 0) ∷ does 0 (Write 0) ∷ []

-- t0 and t1 write v0, t2 reads it
abbrev pub run_c : Run
run_c = run (sizes 3 0 1) (does 0 (Write 0) ∷ does 1 (Write 0) ∷ does 2 (Read 0) ∷ [])
    (stated [] (positions 0 1 ∷ positions 0 2 ∷ positions 1 2 ∷ []))
    (stated (stamped 0 (1 ∷ 0 ∷ 0 ∷ []) ∷ stamped 1 (0 ∷ 1 ∷ 0 ∷ []) ∷ stamped 2 (0 ∷ 1 ∷ 1 ∷ []) ∷ []) (positions 0 1 ∷ positions 0 2 ∷ []))

-- t0 writes v0 and then holds l0, t1 reads v0 while it holds l0
abbrev pub writer : List Event → List Event
writer es = does 0 (Write 0) ∷ locked 0 0 es

abbrev pub reader : List Event → List Event
reader es = does 1 (Acquire 0) ∷ does 1 (Read 0) ∷ does 1 (Release 0) ∷ es

abbrev pub run_d : Run
run_d = run (sizes 2 1 1) (writer (reader [])) (stated (stamped 5 (3 ∷ 3 ∷ []) ∷ []) []) (stated (stamped 5 (3 ∷ 3 ∷ []) ∷ []) [])

-- the same with t1's events first
abbrev pub run_e : Run
run_e = run (sizes 2 1 1) (reader (writer [])) (stated [] (positions 1 3 ∷ [])) (stated [] (positions 1 3 ∷ []))

-- t0 and t1 read v0
abbrev pub run_f : Run
run_f = run (sizes 2 0 1) (does 0 (Read 0) ∷ does 1 (Read 0) ∷ []) (stated [] []) (stated [] [])

-- t0 writes and reads v0
abbrev pub run_g : Run
run_g = run (sizes 1 0 1) (does 0 (Write 0) ∷ does 0 (Read 0) ∷ []) (stated [] []) (stated [] [])

-- what t0 knows reaches t3 over t2 and two locks
abbrev pub run_h : Run
run_h = run (sizes 4 3 0) (locked 0 0 (locked 2 0 (locked 1 1 (locked 2 1 (locked 3 1 (locked 2 2 (does 3 (Acquire 2) ∷ [])))))))
    (stated (stamped 12 (2 ∷ 2 ∷ 6 ∷ 3 ∷ []) ∷ []) []) (stated (stamped 12 (2 ∷ 2 ∷ 6 ∷ 3 ∷ []) ∷ []) [])

-- traces of two threads and a lock that are not accepted: t0 holds the lock, and t1 acquires it, or t0 does again, or
-- t1 releases it
abbrev pub not_accepted : List (List Event)
not_accepted =
    (does 0 (Acquire 0) ∷ does 1 (Acquire 0) ∷ [])
    ∷ (does 0 (Acquire 0) ∷ does 0 (Acquire 0) ∷ [])
    ∷ (does 0 (Acquire 0) ∷ does 1 (Release 0) ∷ [])
    ∷ []

abbrev pub runs : List Run
runs = run_a ∷ run_b ∷ run_c ∷ run_d ∷ run_e ∷ run_f ∷ run_g ∷ run_h ∷ []
