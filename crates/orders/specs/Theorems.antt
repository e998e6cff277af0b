-- What is proved of orders, times and pairs. Each statement stands on the contract of a function. Assumes nothing.
use Rattle.std.specs.Prelude.{◌≡◌, ℕ, ◌<◌, ◌≤◌, ◌↔◌, List, ◌++◌, length, take, IsTrue, slice_index}
use Rattle.std.specs.List.{AllByRecursion}
use Rattle.events.specs.declared.event.Event.{Event}
use Rattle.events.specs.Rules.{OrderRule, Lawful, happens_before}
use Rattle.orders.specs.declared.counts.Counts.{Counts}
use Rattle.orders.specs.declared.pair.PositionPair.{PositionPair}
use Rattle.orders.specs.Traces.{thread_at, local}
use Rattle.orders.specs.Accepted.{Inside, Accepted}
use Rattle.orders.specs.Orders.{Relation, Closure, Earlier, Edge, Before, Edge1, Order1, Edge2, Order2, Smallest}
use Rattle.orders.specs.Times.{Time}
use Rattle.orders.specs.Pairs.{Pair, Lists, Total}
use Rattle.orders.specs.Stamps.{stamp, unseen, found}
use Rattle.orders.specs.Alike.{Alike, Alike1, Alike2, Agree}
use Rattle.orders.specs.WorkedRuns.{Holds, sizes, run_b, turned_b, not_accepted, runs}

-- the closure of edges E that lead to no earlier position is the smallest partial order that contains them;
-- so are a rule's order and orders 1 and 2. R is any relation
pub record SmallestOrders (E R : Relation) : Type 0 where
  pub closure : ((i j : ℕ) → E i j → i ≤ j) → Smallest E (Closure E) R
  pub rule : (r : OrderRule) (locks : ℕ) (log : List Event) → Smallest (Edge r locks log) (Before r locks log) R
  pub order_1 : (log : List Event) → Smallest (Edge1 log) (Order1 log) R
  pub order_2 : (log : List Event) → Smallest (Edge2 log) (Order2 log) R

-- on accepted traces rule 1 means order 1, and rule 2 means order 2
pub record RulesMeanOrders : Type 0 where
  pub rule_1 : (r : OrderRule) → Lawful r → r.number ≡ 1 → (c : Counts) (log : List Event) → Accepted c log →
      (i j : ℕ) → Before r c.locks log i j ↔ Order1 log i j
  pub rule_2 : (r : OrderRule) → Lawful r → r.number ≡ 2 → (c : Counts) (log : List Event) → Accepted c log →
      (i j : ℕ) → Before r c.locks log i j ↔ Order2 log i j

-- i is before j or is j exactly when the local time of i is at most the time of j at the thread of i
abbrev pub ToldByTimes : Relation → List Event → Type 0
ToldByTimes B log =
    (i j v : ℕ) → i < length log → j < length log → Time B log j (thread_at log i) v → B i j ↔ local log i ≤ v

-- a bank that follows a trace from fresh rows has after each event, in its thread's row, the event's time, a number for
-- each thread; no relation R gives an event two times
pub record StampsAreTimes (R : Relation) : Type 0 where
  pub times : (r : OrderRule) → Lawful r → (c : Counts) (log : List Event) → Inside c log →
      (i t : ℕ) → i < length log → t < c.threads → Time (Before r c.locks log) log i t (slice_index (stamp r c log i) t)
  pub long : (r : OrderRule) → Lawful r → (c : Counts) (log : List Event) → Inside c log →
      (i : ℕ) → i < length log → length (stamp r c log i) ≡ c.threads
  pub rule : (r : OrderRule) (locks : ℕ) (log : List Event) → ToldByTimes (Before r locks log) log
  pub order_1 : (log : List Event) → ToldByTimes (Order1 log) log
  pub order_2 : (log : List Event) → ToldByTimes (Order2 log) log
  pub one : (log : List Event) (i t v w : ℕ) → Time R log i t v → Time R log i t w → v ≡ w

-- the pairs found by comparing local times with stamps are the pairs of the order, and they are found in the order of
-- the list; no relation R has two lists
pub record PairsAreFound (R : Relation) : Type 0 where
  pub each : (r : OrderRule) → Lawful r → (c : Counts) (log : List Event) → Inside c log →
      (i j : ℕ) → Earlier log i j → (IsTrue (unseen r c log i j) ↔ Pair (Before r c.locks log) log i j)
  pub list : (r : OrderRule) → Lawful r → (c : Counts) (log : List Event) → Inside c log →
      Lists (Before r c.locks log) log (found r c log)
  pub total : (r : OrderRule) → Lawful r → (c : Counts) (log : List Event) → Inside c log →
      Total (Before r c.locks log) log (length (found r c log))
  pub one : (log : List Event) (ps qs : List PositionPair) → Lists R log ps → Lists R log qs → ps ≡ qs

-- two traces that are alike under a rule agree under its order, and so do accepted traces under orders 1 and 2; alike
-- traces may differ: rule 1 does not tell the events of run B from the same in the other order, and order 2 does
pub record AlikeTracesAgree : Type 0 where
  pub rule : (r : OrderRule) (locks : ℕ) (log other : List Event) → Alike r locks log other →
      Agree log other (Before r locks log) (Before r locks other)
  pub order_1 : (c : Counts) (log other : List Event) → Accepted c log → Accepted c other → Alike1 log other →
      Agree log other (Order1 log) (Order1 other)
  pub order_2 : (c : Counts) (log other : List Event) → Accepted c log → Accepted c other → Alike2 log other →
      Agree log other (Order2 log) (Order2 other)
  pub example : Alike happens_before 0 run_b.log turned_b
  pub counterexample : Alike2 run_b.log turned_b → ⊥

-- order 2 contains order 1, so every pair of order 2 is a pair of order 1
pub record FewerPairs : Type 0 where
  pub contained : (log : List Event) (i j : ℕ) → Order1 log i j → Order2 log i j
  pub pairs : (log : List Event) (i j : ℕ) → Pair (Order2 log) log i j → Pair (Order1 log) log i j

-- what holds of a trace's events still holds when more events follow it
pub record LaterEventsChangeNothing (log more : List Event) : Type 0 where
  pub local_time : (i : ℕ) → i < length log → local (log ++ more) i ≡ local log i
  pub rule : (r : OrderRule) (locks i j : ℕ) → j < length log → Before r locks (log ++ more) i j ↔ Before r locks log i j
  pub order_1 : (i j : ℕ) → j < length log → Order1 (log ++ more) i j ↔ Order1 log i j
  pub order_2 : (i j : ℕ) → j < length log → Order2 (log ++ more) i j ↔ Order2 log i j
  pub stamps : (r : OrderRule) (c : Counts) (i : ℕ) → i < length log → stamp r c (log ++ more) i ≡ stamp r c log i
  pub pairs : (r : OrderRule) (c : Counts) → take (length (found r c log)) (found r c (log ++ more)) ≡ found r c log
  pub accepted : (c : Counts) → Accepted c (log ++ more) → Accepted c log

-- every worked run is an accepted trace with the times and pairs that it states; and what breaks the lock discipline is
-- not accepted
pub record WorkedRunsHold : Type 0 where
  pub hold : AllByRecursion Holds runs
  pub not_so : AllByRecursion (λ log. Accepted (sizes 2 1 0) log → ⊥) not_accepted
