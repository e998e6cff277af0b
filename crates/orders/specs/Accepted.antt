-- Accepted traces: every event names what there is, and locks are held by one thread at a time. Assumes nothing.
use Rattle.std.specs.Prelude.{◌≡◌, ℕ, zero, suc, ◌<◌, if◌then◌else◌, List, length, Some, None, Option, ◌==◌}
use Rattle.events.specs.declared.event.Operation.{Operation}
use Rattle.events.specs.declared.event.Operation.TheVariants.{Read, Write, Acquire, Release}
use Rattle.events.specs.declared.event.Event.{Event}
use Rattle.orders.specs.declared.counts.Counts.{Counts}
use Rattle.orders.specs.Traces.{thread_at, operation_at}

-- the variable or lock of an operation is one that there is
abbrev pub HasObject : Counts → Operation → Type 0
HasObject c (Read v) = v < c.variables
HasObject c (Write v) = v < c.variables
HasObject c (Acquire l) = l < c.locks
HasObject c (Release l) = l < c.locks

-- every event's thread and object are ones that there are
pub record Inside (c : Counts) (log : List Event) : Type 0 where
  pub thread : (i : ℕ) → i < length log → thread_at log i < c.threads
  pub object : (i : ℕ) → i < length log → HasObject c (operation_at log i)

-- who holds lock l after an operation of thread t, if it was o before: a lock is free, or held by one thread
abbrev pub held_after : Operation → ℕ → ℕ → Option ℕ → Option ℕ
held_after (Read v) t l o = o
held_after (Write v) t l o = o
held_after (Acquire m) t l o = if m == l then Some t else o
held_after (Release m) t l o = if m == l then None else o

-- who holds lock l after the first n events
abbrev pub holder : List Event → ℕ → ℕ → Option ℕ
holder log l zero = None
holder log l (suc n) = held_after (operation_at log n) (thread_at log n) l (holder log l n)

-- an acquire finds its lock free, and a release is its holder's
pub record Accepted (c : Counts) (log : List Event) : Type 0 where
  pub inside : Inside c log
  pub free : (i l : ℕ) → i < length log → operation_at log i ≡ Acquire l → holder log l i ≡ None
  pub own : (i l : ℕ) → i < length log → operation_at log i ≡ Release l → holder log l i ≡ Some (thread_at log i)
