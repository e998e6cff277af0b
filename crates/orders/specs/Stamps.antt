-- What clocks tell of a trace: the rows of a bank along it, stamps, and the pairs found by comparing. Assumes nothing.
use Rattle.std.specs.Prelude.{ℕ, zero, suc, ◌+◌, Bool, if◌then◌else◌, ◌&&◌, List, [], ◌∷◌, ◌++◌, length, nat_lt, slice_index, slice_index_or}
use Rattle.events.specs.declared.event.Event.{Event}
use Rattle.events.specs.Conflicts.{conflicts}
use Rattle.events.specs.Rules.{OrderRule}
use Rattle.clock_bank.specs.Rows.{Rows, fresh, advanced}
use Rattle.orders.specs.declared.counts.Counts.{Counts}
use Rattle.orders.specs.declared.pair.PositionPair.{PositionPair}
use Rattle.orders.specs.Traces.{event, thread_at, local}
use Rattle.orders.specs.Pairs.{positions}

-- the rows of a bank after one event more: its thread advances by the rule's slots
abbrev pub moved : OrderRule → ℕ → Rows → Event → Rows
moved r locks rows e = advanced rows e.thread (r.takes locks e.operation) (r.posts locks e.operation)

-- the rows of a bank after the first n events
abbrev pub after : OrderRule → Counts → List Event → ℕ → Rows
after r c log zero = fresh c.threads (c.locks + c.variables)
after r c log (suc n) = moved r c.locks (after r c log n) (event log n)

-- the stamp of the event at i: its thread's row after it
abbrev pub stamp : OrderRule → Counts → List Event → ℕ → List ℕ
stamp r c log i = slice_index_or (after r c log (suc i)).threads (thread_at log i) []

-- the event at i conflicts with e, and its local time exceeds e's stamp, which is row, at its thread
abbrev pub unseen_by : List Event → Event → List ℕ → ℕ → Bool
unseen_by log e row i = conflicts (event log i) e && nat_lt (slice_index row (thread_at log i)) (local log i)

-- the same of the event at j, with the stamp that it has
abbrev pub unseen : OrderRule → Counts → List Event → ℕ → ℕ → Bool
unseen r c log i j = unseen_by log (event log j) (stamp r c log j) i

-- the positions below n that pass a test, rising, each as a pair with the later position j
abbrev pub pairs_with : (ℕ → Bool) → ℕ → ℕ → List PositionPair
pairs_with test j zero = []
pairs_with test j (suc n) = pairs_with test j n ++ (if test n then positions n j ∷ [] else [])

-- the pairs of positions below n that pass a test, the later position rising and within it the earlier one
abbrev pub pairs_below : (ℕ → ℕ → Bool) → ℕ → List PositionPair
pairs_below test zero = []
pairs_below test (suc n) = pairs_below test n ++ pairs_with (λ i. test i n) n n

-- the pairs found by comparing local times with stamps
abbrev pub found : OrderRule → Counts → List Event → List PositionPair
found r c log = pairs_below (unseen r c log) (length log)
