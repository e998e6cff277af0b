-- Closures of edges that lead to no earlier position. Assumes nothing.
use Rattle.std.proofs.Common.{ℕ, ◌≤◌, List, arith}
use Rattle.events.specs.declared.event.Event.{Event}
use Rattle.events.specs.Rules.{OrderRule}
use Rattle.orders.specs.Orders.{Relation, Contains, Preorder, Closure, self, then, Edge, Edge1, Edge2, order_edge, write_edge, Smallest}
use Rattle.orders.specs.Theorems.{SmallestOrders}

module _ {E : Relation} where
  -- two chains, one behind the other; an edge is a chain
  pub chained : {i j k : ℕ} → Closure E i j → Closure E j k → Closure E i k
  chained a self = a
  chained a (then b e) = then (chained a b) e

  pub one_edge : {i j : ℕ} → E i j → Closure E i j
  one_edge e = then self e

  -- a reflexive and transitive relation that contains the edges contains the chains
  pub closed_in : (R : Relation) → Preorder R → Contains R E → {i j : ℕ} → Closure E i j → R i j
  closed_in R order contains {i} self = order.reflexive i
  closed_in R order contains (then {i = i} {j = j} {k = k} b e) = order.transitive i j k (closed_in R order contains b) (contains j k e)

  -- chains of edges that lead to no earlier position lead to none either
  pub upwards : ((i j : ℕ) → E i j → i ≤ j) → {i j : ℕ} → Closure E i j → i ≤ j
  upwards up b = closed_in (λ i j. i ≤ j) (omega arith) up b

pub closure_order : (E : Relation) → Preorder (Closure E)
closure_order E = record { reflexive = λ i. self; transitive = λ i j k a b. chained a b }

-- a closure goes into another if each of its edges does
pub inside : {E F : Relation} → Contains (Closure F) E → Contains (Closure F) (Closure E)
inside {F = F} edges i j b = closed_in (Closure F) (closure_order F) edges b

-- a rule's edges, and those of orders 1 and 2, lead to no earlier position
pub edge_up : (r : OrderRule) (locks : ℕ) (log : List Event) (i j : ℕ) → Edge r locks log i j → i ≤ j
edge_up r locks log i j e = grind arith

pub edge_1_up : (log : List Event) (i j : ℕ) → Edge1 log i j → i ≤ j
edge_1_up log i j e = grind arith

pub edge_2_up : (log : List Event) (i j : ℕ) → Edge2 log i j → i ≤ j
edge_2_up log i j (order_edge b) = omega (arith, upwards (edge_1_up log) b)
edge_2_up log i j (write_edge v inside read last) = omega arith

smallest : (E R : Relation) → ((i j : ℕ) → E i j → i ≤ j) → Smallest E (Closure E) R
smallest E R up = record {
  order = record { preorder = closure_order E; antisymmetric = λ i j a b. omega (arith, upwards up a, upwards up b) };
  contains = λ i j e. one_edge e;
  least = λ order contains i j b. closed_in R order contains b;
}

pub smallest_orders : (E R : Relation) → SmallestOrders E R
smallest_orders E R = record {
  closure = smallest E R;
  rule = λ r locks log. smallest (Edge r locks log) R (edge_up r locks log);
  order_1 = λ log. smallest (Edge1 log) R (edge_1_up log);
  order_2 = λ log. smallest (Edge2 log) R (edge_2_up log);
}
