-- Traces that are alike agree. Assumes nothing.
use Rattle.std.proofs.Common.{◌≡◌, ℕ, zero, suc, ◌<◌, ◌≤◌, cond, eqb, ◌⊎◌, List, [], ◌∷◌, length, get_or, sym, refl, ap, ◌∙◌, subst, subst₂, inl, inr, arith}
use mathlib.Core.List.{Memᴰ}
use Rattle.std.proofs.lemmas.Bool.{cases_Bool, cases_order, eq-eqb}
use Rattle.std.proofs.lemmas.Bool.Decides.{nat_tests}
use Rattle.events.specs.declared.event.Operation.{Operation}
use Rattle.events.specs.declared.event.Event.{Event}
use Rattle.events.specs.Conflicts.{Conflict}
use Rattle.events.specs.Rules.{OrderRule}
use Rattle.orders.specs.declared.pair.PositionPair.{PositionPair}
use Rattle.orders.specs.Traces.{event, thread_at, operation_at, count, local}
use Rattle.orders.specs.Orders.{Relation, self, then, InThread, thread_edge, slot_edge, Before}
use Rattle.orders.specs.Times.{Time}
use Rattle.orders.specs.Pairs.{Pair, positions, Ahead, Rising, Lists}
use Rattle.orders.specs.Alike.{operations, Alike, Same, SameEvents, InOther, Agree}
use Rattle.orders.proofs.Closures.{upwards, edge_up}
use Rattle.orders.proofs.LocalTimes.{local_is, local_within, local_less, less_from_local, local_at, name_back, name_one}
use Rattle.orders.proofs.Largest.{largest_named}
use Rattle.orders.proofs.Matched.{Apart, no_more}
use Rattle.orders.proofs.SameOrders.{SameRelations}

-- a trace's counts with one event more in front
count_front : (e : Event) (log : List Event) (t n : ℕ) → count (e ∷ log) t (suc n) ≡ cond (eqb e.thread t) (suc (count log t n)) (count log t n)
count_front e log t zero = refl
count_front e log t (suc n) = grind (arith, nat_tests, count_front e log t n)

-- a thread has as many events as operations
count_all : (log : List Event) (t : ℕ) → count log t (length log) ≡ length (operations t log)
count_all [] t = refl
count_all (e ∷ log) t = grind (arith, nat_tests, count_front e log t (length log), count_all log t)

-- the operation at i is among its thread's at the place that the count tells
operation_from : (o : Operation) (log : List Event) (t i : ℕ) → i < length log → thread_at log i ≡ t →
    get_or (operations t log) (count log t i) o ≡ operation_at log i
operation_from o [] t i h own = absurd (omega arith)
operation_from o (e ∷ log) t zero h own = rw (eq-eqb e.thread t own)
operation_from o (e ∷ log) t (suc i) h own =
    let rest = operation_from o log t i (omega arith) own in
    elim (cases_Bool (eqb e.thread t)) [ inl b ↦ rw (count_front e log t i, b) rest | inr b ↦ rw (count_front e log t i, b) rest ]

-- the same two positions seen from the other trace
same_back : {log other : List Event} {i k : ℕ} → Same log other i k → Same other log k i
same_back s = record { left = s.right; right = s.left; name = name_back s.name }

-- one name, one event
same_one : {log other : List Event} {i j k : ℕ} → Same log other i k → Same log other j k → i ≡ j
same_one {log} {other} {i} {j} {k} a b = name_one log other i j k a.name b.name

-- the order of a thread's events is told by their names
same_thread_order : {log other : List Event} {i j k l : ℕ} → Same log other i k → Same log other j l → InThread log i j → InThread other k l
same_thread_order {log} {other} {i} {j} {k} {l} a b e =
    let t = thread_at log j in
    let own : thread_at other k ≡ t = sym a.name.thread ∙ e.one_thread in
    let less : local other k < local other l = omega (arith, local_less log t i j e.one_thread refl e.earlier.first) in
    let first = less_from_local other t k l own (sym b.name.thread) less in
    record { earlier = record { first = first; inside = b.right }; one_thread = own ∙ b.name.thread }

-- every event is in the other trace too, and so is the order of every two; B leads to no earlier position
pub record Follows (log other : List Event) (B C : Relation) : Type 0 where
  pub like : (i : ℕ) → i < length log → (k : ℕ) × Same log other i k
  pub equal : (i k : ℕ) → Same log other i k → event log i ≡ event other k
  pub order : (i j k l : ℕ) → Same log other i k → Same log other j l → B i j → C k l
  pub upwards : (i j : ℕ) → B i j → i ≤ j

-- conflicts and pairs have no direction
conflict_back : (d e : Event) → Conflict d e → Conflict e d
conflict_back d e c =
    record { variable = c.variable; first = c.second; second = c.first; apart = λ p. c.apart (sym p); written = grind arith }

pair_back : {B : Relation} {log : List Event} {i j : ℕ} → Pair B log i j → Pair B log j i
pair_back {log = log} {i} {j} p =
    record { conflict = conflict_back (event log i) (event log j) p.conflict; not_before = p.not_after; not_after = p.not_before }

-- a pair is in the list, one position first or the other
in_list : {B : Relation} {log : List Event} (ps : List PositionPair) → Lists B log ps → (i j : ℕ) → i < length log → j < length log →
    Pair B log i j → Memᴰ (positions i j) ps ⊎ Memᴰ (positions j i) ps
in_list {log = log} ps lists i j h k p = elim (cases_order i j) [
  | inl e ↦ absurd (p.conflict.apart (ap (thread_at log) e))
  | inr o ↦ elim o [
    | inl a ↦ inl (lists.whole i j (record { first = a; inside = k }) p)
    | inr b ↦ inr (lists.whole j i (record { first = b; inside = h }) (pair_back p))
  ]
]

module _ (log other : List Event) where
  -- two pairs of a list are not of the same events
  pairs_differ : (p q x : PositionPair) → p.earlier < p.later → q.earlier < q.later → Ahead p q →
      SameEvents log other p x → SameEvents log other q x → ⊥
  pairs_differ p q x h k ahead (inl a) (inl b) = omega (arith, same_one a.0 b.0, same_one a.1 b.1)
  pairs_differ p q x h k ahead (inl a) (inr b) = omega (arith, same_one a.0 b.1, same_one a.1 b.0)
  pairs_differ p q x h k ahead (inr a) (inl b) = omega (arith, same_one a.0 b.1, same_one a.1 b.0)
  pairs_differ p q x h k ahead (inr a) (inr b) = omega (arith, same_one a.0 b.0, same_one a.1 b.1)

  -- so the pairs of a list share no events with one pair
  pairs_apart : (ps : List PositionPair) → Rising ps → ((p : PositionPair) → Memᴰ p ps → p.earlier < p.later) →
      Apart (SameEvents log other) ps
  pairs_apart [] rising placed = tt
  pairs_apart (p ∷ ps) rising placed = (
    λ q m x. pairs_differ p q x (placed p (Memᴰ.head refl)) (placed q (Memᴰ.tail m)) (rising.0 q m),
    pairs_apart ps rising.1 (λ q m. placed q (Memᴰ.tail m)),
  )

module _ {log other : List Event} {B C : Relation} (forth : Follows log other B C) (back : Follows other log C B) where
  -- times, pairs and lists of pairs go over
  time_follows : {i k t v : ℕ} → Same log other i k → Time B log i t v → Time C other k t v
  time_follows {i} {k} s = largest_named
      (λ j before. let w = forth.like j (omega (arith, s.left, forth.upwards j i before)) in (w.0, forth.order j i w.0 k w.1 s before, w.1.name))
      (λ l before.
      let w = back.like l (omega (arith, s.right, back.upwards l k before)) in
      (w.0, back.order l k w.0 i w.1 (same_back s) before, (same_back w.1).name))

  pair_follows : {i j k l : ℕ} → Same log other i k → Same log other j l → Pair B log i j → Pair C other k l
  pair_follows {i} {j} {k} {l} a b p = record {
    conflict = subst₂ Conflict (forth.equal i k a) (forth.equal j l b) p.conflict;
    not_before = λ c. p.not_before (back.order k l i j (same_back a) (same_back b) c);
    not_after = λ c. p.not_after (back.order l k j i (same_back b) (same_back a) c);
  }

  list_follows : {ps qs : List PositionPair} → Lists B log ps → Lists C other qs → InOther log other ps qs
  list_follows {qs = qs} l m p here =
      let e = l.placed p here in
      let v = forth.like p.earlier (omega arith) in
      let w = forth.like p.later e.inside in
      elim (in_list qs m v.0 w.0 v.1.right w.1.right (pair_follows v.1 w.1 (l.sound p here))) [
        | inl q ↦ (positions v.0 w.0, q, inl (v.1, w.1))
        | inr q ↦ (positions w.0 v.0, q, inr (v.1, w.1))
      ]

  total_follows : {ps qs : List PositionPair} → Lists B log ps → Lists C other qs → length ps ≤ length qs
  total_follows {ps} {qs} l m =
      no_more (SameEvents log other) ps qs (pairs_apart log other ps l.rising (λ p k. (l.placed p k).first)) (list_follows l m)

pub follows_agree : {log other : List Event} {B C : Relation} → Follows log other B C → Follows other log C B → Agree log other B C
follows_agree forth back = record {
  there = forth.like;
  here = λ k h. let w = back.like k h in (w.0, same_back w.1);
  order = λ i j k l a b. (forth.order i j k l a b, back.order k l i j (same_back a) (same_back b));
  times = λ i k t v s. (time_follows forth back s, time_follows back forth (same_back s));
  pairs = λ i j k l a b. (pair_follows forth back a b, pair_follows back forth (same_back a) (same_back b));
  lists = λ ps qs l m. (list_follows forth back l m, list_follows back forth m l);
  totals = λ m n a b. omega (arith, total_follows forth back a.lists b.lists, total_follows back forth b.lists a.lists, a.counts, b.counts);
}

module _ (log other : List Event) (does : (t : ℕ) → operations t log ≡ operations t other) where
  -- every event has its like in the other trace, for its thread has as many events there
  find_like : (i : ℕ) → i < length log → (k : ℕ) × Same log other i k
  find_like i h =
      let t = thread_at log i in
      let many : count log t (length log) ≡ count other t (length other) = count_all log t ∙ ap length (does t) ∙ sym (count_all other t) in
      let within : local log i ≤ count other t (length other) = omega (arith, local_within log t i (length log) refl h) in
      let w = local_at other t (length other) (local log i) (omega (arith, local_is log t i refl)) within in
      (w.at, record { left = h; right = w.member; name = record { thread = sym w.own; time = sym w.time } })

  -- events of one name have one operation, at one place among their thread's
  pub same_operation : (i k : ℕ) → Same log other i k → operation_at log i ≡ operation_at other k
  same_operation i k s =
      let t = thread_at log i in
      let o = operation_at log i in
      let own : thread_at other k ≡ t = sym s.name.thread in
      let place : count log t i ≡ count other t k = omega (arith, local_is log t i refl, local_is other t k own) in
      cc (operation_from o log t i s.left refl, operation_from o other t k s.right own, does t, place)

  same_event : (i k : ℕ) → Same log other i k → event log i ≡ event other k
  same_event i k s = λ d. record { thread = s.name.thread d; operation = same_operation i k s d }

-- being alike has no direction
pub alike_back : (r : OrderRule) (locks : ℕ) (log other : List Event) → Alike r locks log other → Alike r locks other log
alike_back r locks log other alike = record {
  does = λ t. sym (alike.does t);
  finds = λ i j s same takes.
      let found = alike.finds j i s (same_back same) (cc (same_operation log other alike.does j i (same_back same))) in
      record { forth = found.back; back = found.forth };
}

module _ (r : OrderRule) (locks : ℕ) (log other : List Event) (alike : Alike r locks log other) where
  -- what is before an event in one trace is before it in the other, edge by edge
  before_follows : {i j : ℕ} → Before r locks log i j → (k l : ℕ) → Same log other i k → Same log other j l → Before r locks other k l
  before_follows self k l a b = subst (Before r locks other k) (same_one (same_back a) (same_back b)) self
  before_follows (then {j = m} {k = j} before (thread_edge e)) k l a b =
      let w = find_like log other alike.does m (omega arith) in
      then (before_follows before k w.0 a w.1) (thread_edge (same_thread_order w.1 b e))
  before_follows (then {j = m} {k = j} before (slot_edge s inside takes last)) k l a b =
      let w = (alike.finds j l s b takes).forth m last in
      let same : Same log other m w.at = record { left = omega arith; right = omega (arith, w.last.earlier); name = w.name } in
      then (before_follows before k w.at a same) (slot_edge s b.right (cc (same_operation log other alike.does j l b)) w.last)

  -- so it is under any relations that are the same as the rule's order
  pub alike_follows : (B C : Relation) → SameRelations (Before r locks log) B → SameRelations (Before r locks other) C → Follows log other B C
  alike_follows B C b c = record {
    like = find_like log other alike.does;
    equal = same_event log other alike.does;
    order = λ i j k l x y before. (c k l).0 (before_follows ((b i j).1 before) k l x y);
    upwards = λ i j before. upwards (edge_up r locks log) ((b i j).1 before);
  }

-- alike traces agree under the rule's order, and under any relations that are the same as it
pub alike_agree : (r : OrderRule) (locks : ℕ) (log other : List Event) → Alike r locks log other → (B C : Relation)
    → SameRelations (Before r locks log) B → SameRelations (Before r locks other) C → Agree log other B C
alike_agree r locks log other alike B C b c = follows_agree
    (alike_follows r locks log other alike B C b c)
    (alike_follows r locks other log (alike_back r locks log other alike) C B c b)
