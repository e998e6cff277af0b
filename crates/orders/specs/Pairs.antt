-- Pairs: conflicting events with no order between them; the list of them and its length. Assumes nothing.
use Rattle.std.specs.Prelude.{◌≡◌, ℕ, ◌<◌, ◌⊎◌, List, [], ◌∷◌, length}
use mathlib.Core.List.{Memᴰ}
use Rattle.events.specs.declared.event.Event.{Event}
use Rattle.events.specs.Conflicts.{Conflict}
use Rattle.orders.specs.declared.pair.PositionPair.{PositionPair}
use Rattle.orders.specs.Traces.{event}
use Rattle.orders.specs.Orders.{Relation, Earlier}

-- the events at i and j conflict, and the order B relates them neither way
pub record Pair (B : Relation) (log : List Event) (i j : ℕ) : Type 0 where
  pub conflict : Conflict (event log i) (event log j)
  pub not_before : B i j → ⊥
  pub not_after : B j i → ⊥

abbrev pub positions : ℕ → ℕ → PositionPair
positions i j = record { earlier = i; later = j }

-- p stands before q in the list: its later position is the smaller one, or these are equal and its earlier position is
abbrev pub Ahead : PositionPair → PositionPair → Type 0
Ahead p q = (p.later < q.later) ⊎ ((p.later ≡ q.later) × (p.earlier < q.earlier))

abbrev pub Rising : List PositionPair → Type 0
Rising [] = Unit {0}
Rising (p ∷ ps) = ((q : PositionPair) → Memᴰ q ps → Ahead p q) × Rising ps

-- ps has every pair of the trace once, the later position rising and within it the earlier one
pub record Lists (B : Relation) (log : List Event) (ps : List PositionPair) : Type 0 where
  pub rising : Rising ps
  pub placed : (p : PositionPair) → Memᴰ p ps → Earlier log p.earlier p.later
  pub sound : (p : PositionPair) → Memᴰ p ps → Pair B log p.earlier p.later
  pub whole : (i j : ℕ) → Earlier log i j → Pair B log i j → Memᴰ (positions i j) ps

-- the total: the length of the list
pub record Total (B : Relation) (log : List Event) (n : ℕ) : Type 0 where
  pub list : List PositionPair
  pub lists : Lists B log list
  pub counts : length list ≡ n
