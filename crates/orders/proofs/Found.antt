-- The pairs found by comparing local times with stamps are the pairs of the rule's order. Assumes nothing.
use Rattle.std.proofs.Common.{ℕ, ◌<◌, ◌≤◌, ◌↔◌, List, length, get_or, Decides, refl, inl, inr, arith}
use Rattle.std.proofs.lemmas.Bool.{cases_lt}
use Rattle.std.proofs.lemmas.Bool.Decides.{Decides-and, Decides-like, Decides-ltb}
use Rattle.events.specs.declared.event.Event.{Event}
use Rattle.events.specs.Rules.{OrderRule, Lawful}
use Rattle.events.proofs.Meaning.{decides}
use Rattle.orders.specs.declared.counts.Counts.{Counts}
use Rattle.orders.specs.Traces.{event, thread_at, local}
use Rattle.orders.specs.Accepted.{Inside}
use Rattle.orders.specs.Orders.{Relation, Earlier, Before}
use Rattle.orders.specs.Pairs.{Pair, Lists}
use Rattle.orders.specs.Stamps.{stamp, unseen, found}
use Rattle.orders.specs.Theorems.{PairsAreFound}
use Rattle.orders.proofs.Closures.{upwards, edge_up}
use Rattle.orders.proofs.Times.{stamp_time, rule_told}
use Rattle.orders.proofs.Listing.{lists_one, lists_by_test}

module _ (r : OrderRule) (law : Lawful r) (c : Counts) (log : List Event) (inside : Inside c log) where
  -- of an earlier and a later position the test tells whether they are a pair
  pub unseen_decides : (i j : ℕ) → Earlier log i j → Decides (unseen r c log i j) (Pair (Before r c.locks log) log i j)
  unseen_decides i j h = Decides-like (unseen r c log i j)
      (λ w. record {
        conflict = w.0;
        not_before = λ b. omega (arith, w.1, order.0 b);
        not_after = λ b. omega (arith, upwards (edge_up r c.locks log) b);
      })
      (λ p. (p.conflict, elim (cases_lt known (local log i)) [ inl a ↦ a | inr a ↦ absurd (p.not_before (order.1 a)) ]))
      (Decides-and _ _ (decides (event log i) (event log j)) (Decides-ltb known (local log i)))
    where
      -- what the later event knows of the earlier one's thread
      known : ℕ
      known = get_or (stamp r c log j) (thread_at log i) 0

      order : Before r c.locks log i j ↔ local log i ≤ known
      order =
          let within : i < length log = omega arith in
          rule_told r c.locks log i j known within h.inside (stamp_time r law c log inside j (thread_at log i) h.inside (inside.thread i within))

  pub found_list : Lists (Before r c.locks log) log (found r c log)
  found_list = lists_by_test (Before r c.locks log) log (unseen r c log) unseen_decides

pub pairs_are_found : (R : Relation) → PairsAreFound R
pairs_are_found R = record {
  each = unseen_decides;
  list = found_list;
  total = λ r law c log inside. record { list = found r c log; lists = found_list r law c log inside; counts = refl };
  one = lists_one R;
}
