-- The time of an event: for each thread, how far the event knows it. Assumes nothing.
use Rattle.std.specs.Prelude.{◌≡◌, ℕ, ◌≤◌, ◌⊎◌, List}
use Rattle.events.specs.declared.event.Event.{Event}
use Rattle.orders.specs.Traces.{thread_at, local}
use Rattle.orders.specs.Orders.{Relation}

-- an event of thread t among those of a set has local time v
pub record Reached (log : List Event) (Set : ℕ → Type 0) (t v : ℕ) : Type 0 where
  pub at : ℕ
  pub member : Set at
  pub own : thread_at log at ≡ t
  pub time : local log at ≡ v

-- v is the largest local time among thread t's events of a set, else 0
pub record Largest (log : List Event) (Set : ℕ → Type 0) (t v : ℕ) : Type 0 where
  pub bound : (j : ℕ) → Set j → thread_at log j ≡ t → local log j ≤ v
  pub met : (v ≡ 0) ⊎ Reached log Set t v

-- under the order B the time of the event at i is v at thread t: over the events that are before it or are it
abbrev pub Time : Relation → List Event → ℕ → ℕ → ℕ → Type 0
Time B log i = Largest log (λ j. B j i)
