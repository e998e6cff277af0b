-- What is said of the first n events of a trace depends on these events alone. Assumes nothing.
use Rattle.std.proofs.Common.{◌≡◌, ℕ, zero, suc, ◌<◌, ◌≤◌, Bool, List, [], ◌∷◌, ◌++◌, length, take, Some, sym, refl, ap, ◌∙◌, subst, ap₂, arith}
use Rattle.std.proofs.lemmas.List.{length-append, get_or_append_left, get_or_push, length_push}
use Rattle.events.specs.declared.event.Operation.TheVariants.{Write}
use Rattle.events.specs.declared.event.Event.{Event}
use Rattle.events.specs.Rules.{OrderRule}
use Rattle.orders.specs.declared.counts.Counts.{Counts}
use Rattle.orders.specs.declared.pair.PositionPair.{PositionPair}
use Rattle.orders.specs.Traces.{no_event, event, thread_at, count, local}
use Rattle.orders.specs.Accepted.{HasObject, holder, Accepted}
use Rattle.orders.specs.Orders.{Relation, Closure, self, then, InThread, Last, Edge, thread_edge, slot_edge, Before, Edge1, thread_edge_1, lock_edge, Order1, Edge2, order_edge, write_edge, Order2}
use Rattle.orders.specs.Stamps.{after, stamp, unseen_by, unseen, pairs_with, pairs_below, found}
use Rattle.orders.specs.Theorems.{LaterEventsChangeNothing}
use Rattle.orders.proofs.Closures.{edge_up, edge_1_up, edge_2_up}
use Rattle.orders.proofs.Lasts.{last_as}
use Rattle.orders.proofs.Listing.{below_begin}

-- a chain that ends below n goes over edge by edge
kept : {E F : Relation} (n : ℕ) → ((i j : ℕ) → E i j → i ≤ j) → ((i j : ℕ) → j < n → E i j → F i j)
    → {i j : ℕ} → Closure E i j → j < n → Closure F i j
kept n up f self h = self
kept n up f (then {j = j} {k = k} b e) h = then (kept n up f b (omega (arith, up j k e))) (f j k h e)

-- two traces with the same first n events
abbrev pub Shares : ℕ → List Event → List Event → Type 0
Shares n log other = (i : ℕ) → i < n → event log i ≡ event other i

-- a trace and a longer one share the events of the first
pub shares : (log more : List Event) → Shares (length log) (log ++ more) log
shares log more i h = get_or_append_left log more no_event i h

-- counts, local times, holders, rows and stamps of these events are the same
pub count_shared : (n : ℕ) (log other : List Event) (t : ℕ) → Shares n log other → count log t n ≡ count other t n
count_shared zero log other t s = refl
count_shared (suc n) log other t s = cc (s n (omega arith), count_shared n log other t (λ i h. s i (omega arith)))

pub local_shared : (n : ℕ) (log other : List Event) → Shares n log other → (i : ℕ) → i < n → local log i ≡ local other i
local_shared n log other s i h = cc (s i h, count_shared (suc i) log other (thread_at other i) (λ k l. s k (omega arith)))

pub holder_shared : (n : ℕ) (log other : List Event) (l : ℕ) → Shares n log other → holder log l n ≡ holder other l n
holder_shared zero log other l s = refl
holder_shared (suc n) log other l s = cc (s n (omega arith), holder_shared n log other l (λ i h. s i (omega arith)))

pub after_shared : (r : OrderRule) (c : Counts) (n : ℕ) (log other : List Event) → Shares n log other → after r c log n ≡ after r c other n
after_shared r c zero log other s = refl
after_shared r c (suc n) log other s = cc (s n (omega arith), after_shared r c n log other (λ i h. s i (omega arith)))

pub stamp_shared : (r : OrderRule) (c : Counts) (n : ℕ) (log other : List Event) → Shares n log other
    → (i : ℕ) → i < n → stamp r c log i ≡ stamp r c other i
stamp_shared r c n log other s i h = cc (s i h, after_shared r c (suc i) log other (λ k l. s k (omega arith)))

module _ (n : ℕ) (log other : List Event) (s : Shares n log other) (fits : n ≤ length other) where
  -- edges that end below n go over, and so do the last posts and writes that they name
  thread_kept : (i j : ℕ) → j < n → InThread log i j → InThread other i j
  thread_kept i j h e = record {
    earlier = record { first = e.earlier.first; inside = omega arith };
    one_thread = cc (s i (omega arith), s j h);
  }

  last_kept : (P : Event → Type 0) (q m : ℕ) → m < n → Last (λ k. P (event log k)) q m → Last (λ k. P (event other k)) q m
  last_kept P q m h = last_as (λ k b. let same = s k (omega arith) in (subst P same, subst P (sym same)))

  edge_kept : (r : OrderRule) (locks i j : ℕ) → j < n → Edge r locks log i j → Edge r locks other i j
  edge_kept r locks i j h (thread_edge e) = thread_edge (thread_kept i j h e)
  edge_kept r locks i j h (slot_edge x inside takes last) =
      slot_edge x (omega arith) (cc (s j h)) (last_kept (λ e. r.posts locks e.operation ≡ Some x) i j h last)

  edge_1_kept : (i j : ℕ) → j < n → Edge1 log i j → Edge1 other i j
  edge_1_kept i j h (thread_edge_1 e) = thread_edge_1 (thread_kept i j h e)
  edge_1_kept i j h (lock_edge l e release acquire) =
      lock_edge l (record { first = e.first; inside = omega arith }) (cc (s i (omega arith))) (cc (s j h))

  edge_2_kept : (i j : ℕ) → j < n → Edge2 log i j → Edge2 other i j
  edge_2_kept i j h (order_edge b) = order_edge (kept n (edge_1_up log) edge_1_kept b h)
  edge_2_kept i j h (write_edge v inside read last) =
      write_edge v (omega arith) (cc (s j h)) (last_kept (λ e. e.operation ≡ Write v) i j h last)

  -- and so do the orders of these events
  pub before_shared : (r : OrderRule) (locks i j : ℕ) → j < n → Before r locks log i j → Before r locks other i j
  before_shared r locks i j h b = kept n (edge_up r locks log) (edge_kept r locks) b h

  pub order_1_shared : (i j : ℕ) → j < n → Order1 log i j → Order1 other i j
  order_1_shared i j h b = kept n (edge_1_up log) edge_1_kept b h

  pub order_2_shared : (i j : ℕ) → j < n → Order2 log i j → Order2 other i j
  order_2_shared i j h b = kept n (edge_2_up log) edge_2_kept b h

-- two tests that agree below n list the same pairs
pub with_shared : (test other : ℕ → Bool) (j n : ℕ) → ((i : ℕ) → i < n → test i ≡ other i) → pairs_with test j n ≡ pairs_with other j n
with_shared test other j zero s = refl
with_shared test other j (suc n) s = cc (with_shared test other j n (λ i h. s i (omega arith)), s n (omega arith))

pub below_shared : (test other : ℕ → ℕ → Bool) (n : ℕ) → ((i j : ℕ) → i < j → j < n → test i j ≡ other i j)
    → pairs_below test n ≡ pairs_below other n
below_shared test other zero s = refl
below_shared test other (suc n) s = cc (
  below_shared test other n (λ i j a b. s i j a (omega arith)),
  with_shared (λ i. test i n) (λ i. other i n) n n (λ i h. s i n h (omega arith)),
)

-- so are the pairs found
pub unseen_shared : (r : OrderRule) (c : Counts) (n : ℕ) (log other : List Event) → Shares n log other
    → (i j : ℕ) → i < j → j < n → unseen r c log i j ≡ unseen r c other i j
unseen_shared r c n log other s i j a b =
    cc (s i (omega arith), s j b, stamp_shared r c n log other s j b, local_shared n log other s i (omega arith))

-- the pairs found in a longer trace: those found before, and those of the new event
pub found_more : (r : OrderRule) (c : Counts) (log : List Event) (e : Event)
    → found r c (log ++ e ∷ [])
    ≡ found r c log ++ pairs_with (unseen_by log e (stamp r c (log ++ e ∷ []) (length log))) (length log) (length log)
found_more r c log e =
    ap (pairs_below test) one_more
    ∙ ap₂ (λ (ps qs : List PositionPair). ps ++ qs)
    (below_shared test (unseen r c log) (length log) (unseen_shared r c (length log) longer log same))
    (with_shared (λ i. test i (length log)) (unseen_by log e row) (length log) (length log) new)
  where
    one_more : length (log ++ e ∷ []) ≡ suc (length log)
    one_more = omega (arith, length_push log e)

    longer : List Event
    longer = log ++ e ∷ []

    test : ℕ → ℕ → Bool
    test = unseen r c longer

    row : List ℕ
    row = stamp r c longer (length log)

    same : Shares (length log) (log ++ e ∷ []) log
    same = shares log (e ∷ [])

    new : (i : ℕ) → i < length log → unseen r c (log ++ e ∷ []) i (length log) ≡ unseen_by log e (stamp r c (log ++ e ∷ []) (length log)) i
    new i h = cc (get_or_push log e no_event (length log) refl, same i h, local_shared (length log) longer log same i h)

module _ (log more : List Event) where
  abbrev n : ℕ
  n = length log

  abbrev longer : List Event
  longer = log ++ more

  forth : Shares n longer log
  forth = shares log more

  back : Shares n log longer
  back i h = sym (shares log more i h)

  long : length log ≤ length (log ++ more)
  long = omega (arith, length-append log more)

  -- a trace that begins an accepted one is accepted
  accepted_before : (c : Counts) → Accepted c longer → Accepted c log
  accepted_before c ok = record {
    inside = record {
      thread = λ i h. rw (forth i h, thread_at) at (ok.inside.thread i (omega (arith, long)));
      object = λ i h. subst (λ (e : Event). HasObject c e.operation) (forth i h) (ok.inside.object i (omega (arith, long)));
    };
    free = λ i l h is. held i l h ∙ ok.free i l (omega (arith, long)) (cc (forth i h));
    own = λ i l h is. held i l h ∙ cc (ok.own i l (omega (arith, long)) (cc (forth i h)), forth i h);
  }
    where
      held : (i l : ℕ) → i < length log → holder log l i ≡ holder (log ++ more) l i
      held i l h = holder_shared i log longer l (λ k g. back k (omega arith))

  -- the pairs found begin with those found before
  pairs_begin : (r : OrderRule) (c : Counts) → take (length (found r c log)) (found r c longer) ≡ found r c log
  pairs_begin r c =
      let same = below_shared (unseen r c longer) (unseen r c log) n (unseen_shared r c n longer log forth) in
      rw same at (below_begin (unseen r c longer) n (length longer) long)

  pub later_events : LaterEventsChangeNothing log more
  later_events = record {
    local_time = local_shared n longer log forth;
    rule = λ r locks i j h. (
      before_shared n longer log forth (omega arith) r locks i j h,
      before_shared n log longer back long r locks i j h,
    );
    order_1 = λ i j h. (
      order_1_shared n longer log forth (omega arith) i j h,
      order_1_shared n log longer back long i j h,
    );
    order_2 = λ i j h. (
      order_2_shared n longer log forth (omega arith) i j h,
      order_2_shared n log longer back long i j h,
    );
    stamps = λ r c. stamp_shared r c n longer log forth;
    pairs = pairs_begin;
    accepted = accepted_before;
  }
