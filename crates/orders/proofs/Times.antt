-- A bank that follows a trace has in its rows the times of the rule's order. Assumes nothing.
use Rattle.std.proofs.Common.{◌≡◌, ℕ, zero, suc, ◌+◌, ◌<◌, ◌≤◌, ◌⊎◌, List, [], length, get_or, set, Some, None, Option, sym, refl, ap, ◌∙◌, subst, inl, inr, arith}
use Rattle.std.proofs.lemmas.Bool.{cases_lt, cases_eq, cases_order}
use Rattle.std.proofs.lemmas.Grind.{get_or-set_at}
use Rattle.std.proofs.lemmas.List.{get_or-set_same, get_or-set_other, length-set}
use Rattle.events.specs.declared.event.Event.{Event}
use Rattle.events.specs.Rules.{OrderRule, Lawful}
use Rattle.clock_bank.specs.Rows.{Rows, fresh, entry, grown, joined, posted, new_row}
use Rattle.clock_bank.proofs.Entries.{Sized, thread_row, slot_row, fresh_sized, fresh_entry, advanced_sized, get_or_larger}
use Rattle.orders.specs.declared.counts.Counts.{Counts}
use Rattle.orders.specs.Traces.{event, thread_at, operation_at, count, local}
use Rattle.orders.specs.Accepted.{Inside}
use Rattle.orders.specs.Orders.{Relation, Contains, Preorder, self, then, InThread, Last, Takes, Posts, thread_edge, slot_edge, Before, thread_edge_1, Order1, order_edge, Order2}
use Rattle.orders.specs.Times.{Reached, Largest, Time}
use Rattle.orders.specs.Stamps.{moved, after, stamp}
use Rattle.orders.specs.Theorems.{ToldByTimes, StampsAreTimes}
use Rattle.orders.proofs.LocalTimes.{local_is, local_within, local_less, local_at}
use Rattle.orders.proofs.Closures.{upwards, edge_up, edge_1_up, edge_2_up, closure_order, one_edge}
use Rattle.orders.proofs.Lasts.{last_here, last_is, last_more, last_less}
use Rattle.orders.proofs.Largest.{reached_in, largest_same, largest_none, largest_both, largest_one}
use Rattle.orders.proofs.Slots.{takes_inside}

module _ (r : OrderRule) (locks : ℕ) (log : List Event) where
  -- what a thread knows after the first n events: what is before one of its events among them
  pub record Known (u n j : ℕ) : Type 0 where
    pub at : ℕ
    pub below : at < n
    pub own : thread_at log at ≡ u
    pub before : Before r locks log j at

  -- what a slot holds after the first n events: what is before the last post to it among them
  pub record Held (s n j : ℕ) : Type 0 where
    pub at : ℕ
    pub last : Last (Posts r locks log s) at n
    pub before : Before r locks log j at

  -- a thread knows all its own events
  pub own_entry : (u n v : ℕ) → n ≤ length log → Largest log (Known u n) u v → v ≡ count log u n
  own_entry u n v fits l = largest_one l (record {
    bound = λ j k own. local_within log u j n own (omega (arith, upwards (edge_up r locks log) k.before, k.below));
    met = elim (cases_lt 0 (count log u n)) [
      | inl h ↦
          let w = local_at log u n (count log u n) h (omega arith) in
          inr (record { at = w.at; member = record { at = w.at; below = w.member; own = w.own; before = self }; own = w.own; time = w.time })
      | inr h ↦ inl (omega arith)
    ];
  })

  -- the event at n itself, or what its thread knew
  abbrev Grown : ℕ → ℕ → Type 0
  Grown n j = (j ≡ n) ⊎ Known (thread_at log n) n j

  -- what the slot that the event at n takes from held
  record Taken (n j : ℕ) : Type 0 where
    pub slot : ℕ
    pub takes : Takes r locks log slot n
    pub held : Held slot n j

  -- what is before an event or is it: the event, what its thread knew, what the slot held that it takes from
  parted : {n j : ℕ} → Before r locks log j n → Grown n j ⊎ Taken n j
  parted self = inl (inl refl)
  parted (then b (thread_edge e)) = inl (inr (record { at = _; below = e.earlier.first; own = e.one_thread; before = b }))
  parted (then b (slot_edge s inside t l)) = inr (record { slot = s; takes = t; held = record { at = _; last = l; before = b } })

  -- the first two are before the event or are it
  from_thread : (n : ℕ) → n < length log → (j : ℕ) → Grown n j → Before r locks log j n
  from_thread n h j (inl e) = subst (λ k. Before r locks log j k) e self
  from_thread n h j (inr k) =
      then k.before (thread_edge (record { earlier = record { first = k.below; inside = h }; one_thread = k.own }))

  -- what a thread knows after the event at n it knew before, or it is before that event
  known_parts : {u n j : ℕ} → Known u (suc n) j → Known u n j ⊎ ((thread_at log n ≡ u) × Before r locks log j n)
  known_parts {n = n} k = elim (cases_lt k.at n) [
    | inl a ↦ inl (record { at = k.at; below = a; own = k.own; before = k.before })
    | inr a ↦ let z : k.at ≡ n = omega (arith, k.below) in inr (rw z at k.own, rw z at k.before)
  ]

  -- a slot that the event at n does not post to holds what it held
  slot_kept : {n s t v : ℕ} → (Posts r locks log s n → ⊥) → Largest log (Held s n) t v → Largest log (Held s (suc n)) t v
  slot_kept other l = largest_same
      (λ j h. record { at = h.at; last = last_more other h.last; before = h.before })
      (λ j h. record { at = h.at; last = last_less other h.last; before = h.before })
      l

module _ (r : OrderRule) (law : Lawful r) (c : Counts) (log : List Event) (inside : Inside c log) where
  -- the rows after the first n events: each thread's row has what it knows, each slot's row what it holds
  pub record Right (n : ℕ) (rows : Rows) : Type 0 where
    pub sized : Sized c.threads (c.locks + c.variables) rows
    pub knows : (u t : ℕ) → u < c.threads → t < c.threads → Largest log (Known r c.locks log u n) t (entry rows.threads u t)
    pub holds : (s t : ℕ) → s < c.locks + c.variables → t < c.threads
        → Largest log (Held r c.locks log s n) t (entry rows.slots s t)

  fresh_right : Right 0 (fresh c.threads (c.locks + c.variables))
  fresh_right = record {
    sized = fresh_sized c.threads (c.locks + c.variables);
    knows = λ u t a b. rw (fresh_entry c.threads c.threads u t a b) (largest_none (λ j w. omega (arith, w.below)) t);
    holds = λ s t a b. rw (fresh_entry c.threads (c.locks + c.variables) s t a b) (largest_none (λ j w. omega (arith, w.last.earlier)) t);
  }

  -- the event at n, after the first n events
  module _ (n : ℕ) (rows : Rows) (h : n < length log) (right : Right n rows) where
    -- its thread, that thread's row before, with its own entry grown, and after
    abbrev own : ℕ
    own = thread_at log n

    abbrev old : List ℕ
    old = get_or rows.threads own []

    abbrev more : List ℕ
    more = grown old own

    abbrev new : List ℕ
    new = new_row rows own (r.takes c.locks (operation_at log n))

    there : thread_at log n < c.threads
    there = inside.thread n h

    -- its own entry grown, the row has what the event and its thread knew
    grown_right : (t : ℕ) → t < c.threads → Largest log (Grown r c.locks log n) t (get_or more t 0)
    grown_right t below = elim (cases_eq t own) [
      | inl e ↦ rw (get_or-set_at old own t _ 0 e (omega (arith, thread_row right.sized own there))) (record {
        bound = λ j m is. elim m [
          | inl z ↦ omega (arith, mine, ap (local log) z)
          | inr k ↦ omega (arith, mine, (right.knows own own there there).bound j k (is ∙ e))
        ];
        met = inr (record { at = n; member = inl refl; own = sym e; time = mine });
      })
      | inr other ↦ rw (get_or-set_other old own t _ 0 other) (record {
        bound = λ j m is. elim m [ inl z ↦ absurd (other (sym is ∙ ap (thread_at log) z)) | inr k ↦ (right.knows own t there below).bound j k is ];
        met = reached_in (λ j k. inr k) refl (right.knows own t there below).met;
      })
    ]
      where
        mine : local log n ≡ get_or (get_or rows.threads (thread_at log n) []) (thread_at log n) 0 + 1
        mine = omega (arith, local_is log own n refl, own_entry r c.locks log own n _ (omega arith) (right.knows own own there there))

    -- the new row has the event's time
    new_right : (t : ℕ) → t < c.threads → Time (Before r c.locks log) log n t (get_or new t 0)
    new_right t below = go (r.takes c.locks (operation_at log n)) refl
      where
        go : (take : Option ℕ) → r.takes c.locks (operation_at log n) ≡ take
            → Time (Before r c.locks log) log n t (get_or (joined rows.slots take more) t 0)
        go None e = largest_same (from_thread r c.locks log n h)
            (λ j b. elim (parted r c.locks log b) [ inl g ↦ g | inr w ↦ cc ])
            (grown_right t below)
        go (Some s) e =
            let slot = takes_inside r law c (operation_at log n) s (inside.object n h) e in
            let long : t < length more = omega (arith, length-set old own (get_or old own 0 + 1), thread_row right.sized own there) in
            rw (get_or_larger more (get_or rows.slots s []) t 0 long (omega (arith, slot_row right.sized s slot))) (largest_both
            (from_thread r c.locks log n h)
            (λ j w. then w.before (slot_edge s h e w.last))
            (λ j b. elim (parted r c.locks log b) [ inl g ↦ inl g | inr w ↦ let z : w.slot ≡ s = cc in inr (rw z at w.held) ])
            (grown_right t below)
            (right.holds s t slot below))

    -- so the rows of threads and slots have what is known and held after the event
    threads_right : (u t : ℕ) → u < c.threads → t < c.threads
        → Largest log (Known r c.locks log u (suc n)) t (entry (set rows.threads own new) u t)
    threads_right u t a b = elim (cases_eq u own) [
      | inl e ↦ rw (get_or-set_at rows.threads own u new [] e (omega (arith, right.sized.threads))) (largest_same
          (λ j b. record { at = n; below = omega arith; own = sym e; before = b })
          (λ j k. elim (known_parts r c.locks log k) [ inl w ↦ from_thread r c.locks log n h j (inr (rw e at w)) | inr w ↦ w.1 ])
          (new_right t b))
      | inr other ↦ rw (get_or-set_other rows.threads own u new [] other) (largest_same
          (λ j k. record { at = k.at; below = omega (arith, k.below); own = k.own; before = k.before })
          (λ j k. elim (known_parts r c.locks log k) [ inl w ↦ w | inr w ↦ absurd (other (sym w.0)) ])
          (right.knows u t a b))
    ]

    slots_right : (s t : ℕ) → s < c.locks + c.variables → t < c.threads
        → Largest log (Held r c.locks log s (suc n)) t (entry (posted rows.slots (r.posts c.locks (operation_at log n)) new) s t)
    slots_right s t a b = go (r.posts c.locks (operation_at log n)) refl
      where
        go : (post : Option ℕ) → r.posts c.locks (operation_at log n) ≡ post
            → Largest log (Held r c.locks log s (suc n)) t (entry (posted rows.slots post new) s t)
        go None e = slot_kept r c.locks log (λ p. cc) (right.holds s t a b)
        go (Some x) e = elim (cases_eq s x) [
          | inl is ↦
              let post : Posts r c.locks log s n = cc in
              rw (get_or-set_at rows.slots x s new [] is (omega (arith, right.sized.slots))) (largest_same
              (λ j b. record { at = n; last = last_here post; before = b })
              (λ j h. rw (last_is post h.last) at h.before)
              (new_right t b))
          | inr other ↦ rw (get_or-set_other rows.slots x s new [] other) (slot_kept r c.locks log (λ p. other (cc)) (right.holds s t a b))
        ]

    step_right : Right (suc n) (moved r c.locks rows (event log n))
    step_right = record {
      sized = advanced_sized c.threads (c.locks + c.variables) rows own _ _ right.sized there;
      knows = threads_right;
      holds = slots_right;
    }

  pub after_right : (n : ℕ) → n ≤ length log → Right n (after r c log n)
  after_right zero h = fresh_right
  after_right (suc n) h = step_right n (after r c log n) h (after_right n (omega arith))

  -- the stamp of an event is its thread's new row
  pub stamp_is : (i : ℕ) → i < length log
      → stamp r c log i ≡ new_row (after r c log i) (thread_at log i) (r.takes c.locks (operation_at log i))
  stamp_is i h = get_or-set_same (after r c log i).threads (thread_at log i) _ []
      (omega (arith, (after_right i (omega arith)).sized.threads, inside.thread i h))

  pub stamp_long : (i : ℕ) → i < length log → length (stamp r c log i) ≡ c.threads
  stamp_long i h = thread_row (after_right (suc i) h).sized (thread_at log i) (inside.thread i h)

  pub stamp_time : (i t : ℕ) → i < length log → t < c.threads → Time (Before r c.locks log) log i t (get_or (stamp r c log i) t 0)
  stamp_time i t h below = rw (stamp_is i h) (new_right i (after r c log i) h (after_right i (omega arith)) t below)

-- times tell an order that contains the order of each thread's events
pub told : (B : Relation) (log : List Event) → Preorder B → ((i j : ℕ) → B i j → i ≤ j) → Contains B (InThread log) → ToldByTimes B log
told B log order up threads i j v inside below time = (λ b. time.bound i b refl, λ h. back h time.met)
  where
    back : local log i ≤ v → (v ≡ 0) ⊎ Reached log (λ k. B k j) (thread_at log i) v → B i j
    back h (inl z) = absurd (omega (arith, local_is log (thread_at log i) i refl))
    back h (inr w) = elim (cases_order i w.at) [
      | inl e ↦ rw (← e) at w.member
      | inr o ↦ elim o [
        | inl a ↦
            let l : w.at < length log = omega (arith, up w.at j w.member) in
            order.transitive i w.at j
            (threads i w.at (record { earlier = record { first = a; inside = l }; one_thread = sym w.own })) w.member
        | inr b ↦ absurd (omega (arith, w.time, local_less log (thread_at log i) w.at i w.own refl b))
      ]
    ]

-- times tell a rule's order
pub rule_told : (r : OrderRule) (locks : ℕ) (log : List Event) → ToldByTimes (Before r locks log) log
rule_told r locks log = told (Before r locks log) log (closure_order _)
    (λ i j b. upwards (edge_up r locks log) b) (λ i j e. one_edge (thread_edge e))

pub stamps_are_times : (R : Relation) → StampsAreTimes R
stamps_are_times R = record {
  times = stamp_time;
  long = stamp_long;
  rule = rule_told;
  order_1 = λ log. told (Order1 log) log (closure_order _) (λ i j b. upwards (edge_1_up log) b) (λ i j e. one_edge (thread_edge_1 e));
  order_2 = λ log. told (Order2 log) log (closure_order _) (λ i j b. upwards (edge_2_up log) b)
      (λ i j e. one_edge (order_edge (one_edge (thread_edge_1 e))));
  one = λ log i t v w a b. largest_one a b;
}
