-- Orders on the positions of a trace: smallest partial orders, a rule's order, and orders 1 and 2. Assumes nothing.
use Rattle.std.specs.Prelude.{◌≡◌, ℕ, ◌<◌, List, length, Some}
use Rattle.events.specs.declared.event.Operation.{Operation}
use Rattle.events.specs.declared.event.Operation.TheVariants.{Read, Write, Acquire, Release}
use Rattle.events.specs.declared.event.Event.{Event}
use Rattle.events.specs.Rules.{OrderRule}
use Rattle.orders.specs.Traces.{thread_at, operation_at}

-- a relation between positions; of an order B, B i j says that i is before j or is j
abbrev pub Relation : Type 1
Relation = ℕ → ℕ → Type 0

abbrev pub Contains : Relation → Relation → Type 0
Contains B E = (i j : ℕ) → E i j → B i j

pub record Preorder (B : Relation) : Type 0 where
  pub reflexive : (i : ℕ) → B i i
  pub transitive : (i j k : ℕ) → B i j → B j k → B i k

pub record PartialOrder (B : Relation) : Type 0 where
  pub preorder : Preorder B
  pub antisymmetric : (i j : ℕ) → B i j → B j i → i ≡ j

-- what a chain of edges leads from and to
pub data Closure (E : Relation) : ℕ → ℕ → Type 0 where
  self : {i : ℕ} → Closure E i i
  then : {i j k : ℕ} → Closure E i j → E j k → Closure E i k

-- i and j are positions of the trace, and i is the earlier
pub record Earlier (log : List Event) (i j : ℕ) : Type 0 where
  pub first : i < j
  pub inside : j < length log

-- the order of each thread's events
pub record InThread (log : List Event) (i j : ℕ) : Type 0 where
  pub earlier : Earlier log i j
  pub one_thread : thread_at log i ≡ thread_at log j

-- of the positions where P holds, q is the last before n
pub record Last (P : ℕ → Type 0) (q n : ℕ) : Type 0 where
  pub earlier : q < n
  pub holds : P q
  pub latest : (k : ℕ) → q < k → k < n → P k → ⊥

-- the event at i is this operation
abbrev pub Performs : List Event → Operation → ℕ → Type 0
Performs log o i = operation_at log i ≡ o

-- with so many locks, the event at i takes from slot s, or posts to it
abbrev pub Takes : OrderRule → ℕ → List Event → ℕ → ℕ → Type 0
Takes r locks log s i = r.takes locks (operation_at log i) ≡ Some s

abbrev pub Posts : OrderRule → ℕ → List Event → ℕ → ℕ → Type 0
Posts r locks log s i = r.posts locks (operation_at log i) ≡ Some s

-- a rule's order: thread order, and before each taking event the last earlier event that posted to the slot
pub data Edge (r : OrderRule) (locks : ℕ) (log : List Event) (i j : ℕ) : Type 0 where
  thread_edge : InThread log i j → Edge r locks log i j
  slot_edge : (s : ℕ) → j < length log → Takes r locks log s j → Last (Posts r locks log s) i j → Edge r locks log i j

abbrev pub Before : OrderRule → ℕ → List Event → Relation
Before r locks log = Closure (Edge r locks log)

-- order 1, happens-before: thread order, and every release of a lock before each later acquire of that lock
pub data Edge1 (log : List Event) (i j : ℕ) : Type 0 where
  thread_edge_1 : InThread log i j → Edge1 log i j
  lock_edge : (l : ℕ) → Earlier log i j → Performs log (Release l) i → Performs log (Acquire l) j → Edge1 log i j

abbrev pub Order1 : List Event → Relation
Order1 log = Closure (Edge1 log)

-- order 2, schedulable happens-before: order 1, and before each read the last earlier write of its variable
pub data Edge2 (log : List Event) (i j : ℕ) : Type 0 where
  order_edge : Order1 log i j → Edge2 log i j
  write_edge : (v : ℕ) → j < length log → Performs log (Read v) j → Last (Performs log (Write v)) i j → Edge2 log i j

abbrev pub Order2 : List Event → Relation
Order2 log = Closure (Edge2 log)

-- B is a partial order that contains E, and is inside R if R is reflexive, transitive and contains E; if this holds for
-- every R, then B is the smallest partial order that contains E
pub record Smallest (E B R : Relation) : Type 0 where
  pub order : PartialOrder B
  pub contains : Contains B E
  pub least : Preorder R → Contains R E → Contains R B
