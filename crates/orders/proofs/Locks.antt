-- On accepted traces rules 1 and 2 mean orders 1 and 2. Assumes nothing.
use Rattle.std.proofs.Common.{◌≡◌, ℕ, zero, suc, ◌+◌, ◌<◌, ◌⊎◌, ◌↔◌, List, length, Some, None, Option, ap, ◌∙◌, subst, inl, inr, arith}
use mathlib.Core.Logic.Iff
use native.Mathlib.Decide.{ℕ_discrete}
use Rattle.std.proofs.lemmas.Bool.{cases_order}
use Rattle.std.proofs.lemmas.Bool.Decides.{nat_tests}
use Rattle.events.specs.declared.event.Operation.{Operation}
use Rattle.events.specs.declared.event.Operation.TheVariants.{Read, Write, Acquire, Release}
use Rattle.events.specs.declared.event.Event.{Event}
use Rattle.events.specs.Rules.{OrderRule, Lawful}
use Rattle.orders.specs.declared.counts.Counts.{Counts}
use Rattle.orders.specs.Traces.{thread_at, operation_at}
use Rattle.orders.specs.Accepted.{HasObject, held_after, holder, Accepted}
use Rattle.orders.specs.Orders.{then, Earlier, Last, Performs, Posts, Edge, thread_edge, slot_edge, Before, Edge1, thread_edge_1, lock_edge, Order1, Edge2, order_edge, write_edge, Order2}
use Rattle.orders.specs.Theorems.{RulesMeanOrders, FewerPairs}
use Rattle.orders.proofs.Closures.{chained, one_edge, inside}
use Rattle.orders.proofs.Lasts.{none_more, last_before, last_as}
use Rattle.orders.proofs.SameOrders.{pair_less}
use Rattle.orders.proofs.Slots.{posts_release, takes_acquire, takes_read, posts_write}

-- whether a rule gives this slot
is_slot : (given : Option ℕ) (s : ℕ) → Dec (given ≡ Some s)
is_slot None s = no (λ e. cc)
is_slot (Some x) s = elim (ℕ_discrete x s) [ yes e ↦ yes (ap Some e) | no other ↦ no (λ e. other (cc)) ]

-- thread t holds lock l after n events since it acquired it; nobody has released it since
record Since (log : List Event) (l t n : ℕ) : Type 0 where
  pub at : ℕ
  pub before : at < n
  pub acquires : operation_at log at ≡ Acquire l
  pub own : thread_at log at ≡ t
  pub kept : (k : ℕ) → at < k → k < n → operation_at log k ≡ Release l → ⊥

-- who holds a lock after an operation has just acquired it, or held it before and nobody released it
held_from : (o : Operation) (u l t : ℕ) (before : Option ℕ) → held_after o u l before ≡ Some t
    → ((o ≡ Acquire l) × (u ≡ t)) ⊎ ((o ≡ Release l → ⊥) × (before ≡ Some t))
held_from o u l t before is = grind (arith, nat_tests)

-- so a holder acquired the lock, and nobody has released it since
since : (log : List Event) (l t n : ℕ) → holder log l n ≡ Some t → Since log l t n
since log l t zero h = cc
since log l t (suc n) h = elim (held_from (operation_at log n) (thread_at log n) l t (holder log l n) h) [
  | inl now ↦ record { at = n; before = omega arith; acquires = now.0; own = now.1; kept = λ k a b e. omega arith }
  | inr w ↦
      let s = since log l t n w.1 in
      record { at = s.at; before = omega (arith, s.before); acquires = s.acquires; own = s.own; kept = none_more s.kept w.0 }
]

module _ (r : OrderRule) (law : Lawful r) (c : Counts) (log : List Event) (ok : Accepted c log) where
  -- a lock that is acquired is one that there is
  pub acquired : (j l : ℕ) → j < length log → operation_at log j ≡ Acquire l → l < c.locks
  acquired j l h e = subst (HasObject c) e (ok.inside.object j h)

  -- the event that an acquire takes from is a release of its lock
  released : (i j l : ℕ) → j < length log → Performs log (Acquire l) j → Posts r c.locks log l i → Performs log (Release l) i
  released i j l h acquire post = (posts_release r law c (operation_at log i) l (acquired j l h acquire)).0 post

  -- so an acquire is after it in order 1
  lock_edge_in : (i j l : ℕ) → j < length log → Performs log (Acquire l) j → Last (Posts r c.locks log l) i j → Order1 log i j
  lock_edge_in i j l h acquire last =
      one_edge (lock_edge l (record { first = last.earlier; inside = h }) (released i j l h acquire last.holds) acquire)

  -- an acquire is after every release before it if this holds of earlier acquires: it takes from the last release, whose
  -- thread acquired the lock after the releases before it
  lock_step : (i j l : ℕ) → ((k : ℕ) → k < j → Earlier log i k → Performs log (Acquire l) k → Before r c.locks log i k)
      → Earlier log i j → Performs log (Release l) i → Performs log (Acquire l) j → Before r c.locks log i j
  lock_step i j l before h a b = elim (cases_order i w.0) [
    | inl e ↦ rw (← e) at last
    | inr x ↦ elim x [ inl x ↦ chained (earlier x) last | inr y ↦ absurd (w.1.latest i y h.first post) ]
  ]
    where
      post : Posts r c.locks log l i
      post = ap (r.posts c.locks) a ∙ law.release_posts c.locks l

      -- the last release, and the acquire that it ends
      w : (q : ℕ) × Last (Posts r c.locks log l) q j
      w = last_before (λ k. is_slot (r.posts c.locks (operation_at log k)) l) i j h.first post

      within : w.0 < length log
      within = omega (arith, w.1.earlier, h.inside)

      s : Since log l (thread_at log w.0) w.0
      s = since log l (thread_at log w.0) w.0 (ok.own w.0 l within (released w.0 j l h.inside b w.1.holds))

      last : Before r c.locks log w.0 j
      last = one_edge (slot_edge l h.inside (ap (r.takes c.locks) b ∙ law.acquire_takes c.locks l) w.1)

      late : i < w.0 → i < s.at
      late x = grind (arith, s.kept i, s.acquires)

      earlier : i < w.0 → Before r c.locks log i w.0
      earlier x =
          let first : Earlier log i s.at = record { first = late x; inside = omega (arith, s.before, within) } in
          let second : Earlier log s.at w.0 = record { first = s.before; inside = within } in
          then (before s.at (omega (arith, s.before, w.1.earlier)) first s.acquires) (thread_edge (record { earlier = second; one_thread = s.own }))

  -- so every release of a lock is before each later acquire of it
  lock_order : (m i j l : ℕ) → j < m → Earlier log i j → Performs log (Release l) i → Performs log (Acquire l) j → Before r c.locks log i j
  lock_order zero i j l f h a b = absurd (omega arith)
  lock_order (suc m) i j l f h a b = lock_step i j l (λ k g e acquire. lock_order m i k l (omega arith) e a acquire) h a b

  -- the edges of order 1 are in the rule's order
  order_1_in : (i j : ℕ) → Edge1 log i j → Before r c.locks log i j
  order_1_in i j (thread_edge_1 e) = one_edge (thread_edge e)
  order_1_in i j (lock_edge l h a b) = lock_order (suc j) i j l (omega arith) h (cc) (cc)

rule_1 : (r : OrderRule) → Lawful r → r.number ≡ 1 → (c : Counts) (log : List Event) → Accepted c log
    → (i j : ℕ) → Before r c.locks log i j ↔ Order1 log i j
rule_1 r law first c log ok i j = (inside edge i j, inside (order_1_in r law c log ok) i j)
  where
    edge : (i j : ℕ) → Edge r c.locks log i j → Order1 log i j
    edge i j (thread_edge e) = one_edge (thread_edge_1 e)
    edge i j (slot_edge s h takes last) = lock_edge_in r law c log ok i j s h (takes_acquire r law c (operation_at log j) s first takes) last

-- order 2 contains order 1
first_in_second : (log : List Event) (i j : ℕ) → Order1 log i j → Order2 log i j
first_in_second log i j b = one_edge (order_edge b)

module _ (r : OrderRule) (law : Lawful r) (second : r.number ≡ 2) (c : Counts) (log : List Event) (ok : Accepted c log) where
  -- writes of a variable post to its slot, and nothing else does
  pub writes : (v q : ℕ) → q < length log → Posts r c.locks log (c.locks + v) q ↔ Performs log (Write v) q
  writes v q h = posts_write r law second c (operation_at log q) v (ok.inside.object q h)

  -- the rule's edges are in order 2, and those of order 2 in the rule's order
  edge_in : (i j : ℕ) → Edge r c.locks log i j → Order2 log i j
  edge_in i j (thread_edge e) = first_in_second log i j (one_edge (thread_edge_1 e))
  edge_in i j (slot_edge s h takes last) = elim (takes_read r law c (operation_at log j) s second takes) [
    | inl acquire ↦ first_in_second log i j (lock_edge_in r law c log ok i j s h acquire last)
    | inr w ↦ one_edge (write_edge w.0 h w.1 (last_as (λ k b. writes w.0 k (omega arith)) (rw w.2 at last)))
  ]

  edge_back : (i j : ℕ) → Edge2 log i j → Before r c.locks log i j
  edge_back i j (order_edge b) = inside (order_1_in r law c log ok) i j b
  edge_back i j (write_edge v h read last) =
      one_edge (slot_edge (c.locks + v) h (cc (ap (λ x. x.take) (law.number_2 second c.locks (Read v))))
      (last_as (λ k b. Iff.symm (writes v k (omega arith))) last))

  rule_2 : (i j : ℕ) → Before r c.locks log i j ↔ Order2 log i j
  rule_2 i j = (inside edge_in i j, inside edge_back i j)

pub rules_mean_orders : RulesMeanOrders
rules_mean_orders = record { rule_1 = rule_1; rule_2 = rule_2 }

pub fewer_pairs : FewerPairs
fewer_pairs = record { contained = first_in_second; pairs = λ log i j. pair_less (first_in_second log) }
