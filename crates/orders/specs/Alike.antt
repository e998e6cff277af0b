-- Two traces of one behaviour, compared by the names of their events. Assumes nothing.
use Rattle.std.specs.Prelude.{◌≡◌, ℕ, ◌<◌, if◌then◌else◌, ◌⊎◌, ◌↔◌, List, [], ◌∷◌, length, ◌==◌}
use mathlib.Core.List.{Memᴰ}
use Rattle.events.specs.declared.event.Operation.{Operation}
use Rattle.events.specs.declared.event.Operation.TheVariants.{Read, Write, Acquire, Release}
use Rattle.events.specs.declared.event.Event.{Event}
use Rattle.events.specs.Rules.{OrderRule}
use Rattle.orders.specs.declared.pair.PositionPair.{PositionPair}
use Rattle.orders.specs.Traces.{SameName}
use Rattle.orders.specs.Orders.{Relation, Last, Performs, Takes, Posts}
use Rattle.orders.specs.Times.{Time}
use Rattle.orders.specs.Pairs.{Pair, Lists, Total}

-- what thread t does, in its order
abbrev pub operations : ℕ → List Event → List Operation
operations t [] = []
operations t (e ∷ es) = if e.thread == t then e.operation ∷ operations t es else operations t es

abbrev pub SameOperations : List Event → List Event → Type 0
SameOperations log other = (t : ℕ) → operations t log ≡ operations t other

-- i and j are positions of their traces, and their events have one name
pub record Same (log other : List Event) (i j : ℕ) : Type 0 where
  pub left : i < length log
  pub right : j < length other
  pub name : SameName log other i j

-- an event of the other trace has the name of that at q, and is the last before j where P holds
pub record LastPartner (log other : List Event) (q : ℕ) (P : ℕ → Type 0) (j : ℕ) : Type 0 where
  pub at : ℕ
  pub name : SameName log other q at
  pub last : Last P at j

-- the last position before i where P holds and the last one before j where Q holds in the other trace are of one name,
-- or there is none in both
pub record SameLast (log other : List Event) (P Q : ℕ → Type 0) (i j : ℕ) : Type 0 where
  pub forth : (q : ℕ) → Last P q i → LastPartner log other q Q j
  pub back : (q : ℕ) → Last Q q j → LastPartner other log q P i

-- every thread has the same operations in both, and every taking event finds the same last post, or none in both
pub record Alike (r : OrderRule) (locks : ℕ) (log other : List Event) : Type 0 where
  pub does : SameOperations log other
  pub finds : (i j s : ℕ) → Same log other i j → Takes r locks log s i → SameLast log other (Posts r locks log s) (Posts r locks other s) i j

-- the same in the words of order 1: every acquire finds the same last release of its lock, or none in both
pub record Alike1 (log other : List Event) : Type 0 where
  pub does : SameOperations log other
  pub acquires : (i j l : ℕ) → Same log other i j → Performs log (Acquire l) i →
      SameLast log other (Performs log (Release l)) (Performs other (Release l)) i j

-- in the words of order 2: also every read finds the same last write of its variable, or none in both
pub record Alike2 (log other : List Event) : Type 0 where
  pub order_1 : Alike1 log other
  pub reads : (i j v : ℕ) → Same log other i j → Performs log (Read v) i →
      SameLast log other (Performs log (Write v)) (Performs other (Write v)) i j

-- two pairs of positions are of the same two events, either one first
abbrev pub SameEvents : List Event → List Event → PositionPair → PositionPair → Type 0
SameEvents log other p q =
    (Same log other p.earlier q.earlier × Same log other p.later q.later)
    ⊎ (Same log other p.earlier q.later × Same log other p.later q.earlier)

-- each pair of one list is of the same two events as a pair of the other
abbrev pub InOther : List Event → List Event → List PositionPair → List PositionPair → Type 0
InOther log other ps qs = (p : PositionPair) → Memᴰ p ps → (q : PositionPair) × Memᴰ q qs × SameEvents log other p q

-- the traces have the same events; under the order B of the one and the order C of the other the same events are
-- related, times are equal, and the lists have the same pairs of events and equal totals
pub record Agree (log other : List Event) (B C : Relation) : Type 0 where
  pub there : (i : ℕ) → i < length log → (k : ℕ) × Same log other i k
  pub here : (k : ℕ) → k < length other → (i : ℕ) × Same log other i k
  pub order : (i j k l : ℕ) → Same log other i k → Same log other j l → B i j ↔ C k l
  pub times : (i k t v : ℕ) → Same log other i k → Time B log i t v ↔ Time C other k t v
  pub pairs : (i j k l : ℕ) → Same log other i k → Same log other j l → Pair B log i j ↔ Pair C other k l
  pub lists : (ps qs : List PositionPair) → Lists B log ps → Lists C other qs → InOther log other ps qs × InOther other log qs ps
  pub totals : (m n : ℕ) → Total B log m → Total C other n → m ≡ n
