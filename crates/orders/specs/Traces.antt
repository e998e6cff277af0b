-- Traces: positions, local times, and the names of events. Assumes nothing.
use Rattle.std.specs.Prelude.{◌≡◌, ℕ, zero, suc, if◌then◌else◌, List, ◌==◌, slice_index_or}
use Rattle.events.specs.declared.event.Operation.{Operation}
use Rattle.events.specs.declared.event.Operation.TheVariants.{Read}
use Rattle.events.specs.declared.event.Event.{Event}

-- what is read past the end of a trace; it stands at no position
abbrev pub no_event : Event
no_event = record { thread = 0; operation = Read 0 }

-- a trace is a list of events, its positions are the numbers below its length: the event at position i
abbrev pub event : List Event → ℕ → Event
event log i = slice_index_or log i no_event

abbrev pub thread_at : List Event → ℕ → ℕ
thread_at log i = (event log i).thread

abbrev pub operation_at : List Event → ℕ → Operation
operation_at log i = (event log i).operation

-- how many of the first n events are thread t's
abbrev pub count : List Event → ℕ → ℕ → ℕ
count log t zero = 0
count log t (suc n) = if thread_at log n == t then suc (count log t n) else count log t n

-- the local time of the event at i: the number of its thread's events up to it, itself included
abbrev pub local : List Event → ℕ → ℕ
local log i = count log (thread_at log i) (suc i)

-- an event's name is its thread and its local time: the event at i of one trace has the name of that at j of another
pub record SameName (log other : List Event) (i j : ℕ) : Type 0 where
  pub thread : thread_at log i ≡ thread_at other j
  pub time : local log i ≡ local other j
