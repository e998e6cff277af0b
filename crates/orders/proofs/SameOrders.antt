-- Two relations that relate the same positions have the same times, pairs, lists and totals. Assumes nothing.
use Rattle.std.proofs.Common.{ℕ, ◌↔◌, List}
use Rattle.events.specs.declared.event.Event.{Event}
use Rattle.orders.specs.declared.pair.PositionPair.{PositionPair}
use Rattle.orders.specs.Orders.{Relation, Contains}
use Rattle.orders.specs.Times.{Time}
use Rattle.orders.specs.Pairs.{Pair, Lists, Total}
use Rattle.orders.proofs.Largest.{largest_same}

abbrev pub SameRelations : Relation → Relation → Type 0
SameRelations B C = (i j : ℕ) → B i j ↔ C i j

pub turned : {B C : Relation} → SameRelations B C → SameRelations C B
turned same i j = ((same i j).1, (same i j).0)

pub time_as : {B C : Relation} {log : List Event} {i t v : ℕ} → SameRelations B C → Time B log i t v → Time C log i t v
time_as {i = i} same l = largest_same (λ j b. (same j i).0 b) (λ j b. (same j i).1 b) l

-- what a relation leaves apart, one that it contains leaves apart too
pub pair_less : {B E : Relation} {log : List Event} {i j : ℕ} → Contains B E → Pair B log i j → Pair E log i j
pair_less {i = i} {j = j} contains p =
    record { conflict = p.conflict; not_before = λ b. p.not_before (contains i j b); not_after = λ b. p.not_after (contains j i b) }

pub lists_as : {B C : Relation} {log : List Event} {ps : List PositionPair} → SameRelations B C → Lists B log ps → Lists C log ps
lists_as same l = record {
  rising = l.rising;
  placed = l.placed;
  sound = λ p m. pair_less (λ i j. (same i j).1) (l.sound p m);
  whole = λ i j h p. l.whole i j h (pair_less (λ i j. (same i j).0) p);
}

pub total_as : {B C : Relation} {log : List Event} {n : ℕ} → SameRelations B C → Total B log n → Total C log n
total_as same w = record { list = w.list; lists = lists_as same w.lists; counts = w.counts }
