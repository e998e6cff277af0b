-- The worked runs, by one computed test over their list. Assumes nothing.
use Rattle.std.proofs.Common.{◌≡◌, ℕ, ◌<◌, Bool, true, false, ◌&&◌, eqb, ltb, List, [], ◌∷◌, map, length, Some, None, Option, sym, refl, ap, ◌∙◌, subst, arith}
use mathlib.Core.Bool.{not}
use Rattle.std.specs.List.{AllByRecursion, list_all}
use Rattle.std.specs.Option.{is_some}
use Rattle.std.proofs.lemmas.Bool.{and_parts, ltb-true, agree_below, agree_below_at}
use Rattle.std.proofs.lemmas.Bool.Decides.{nat_tests}
use Rattle.events.specs.declared.event.Operation.{Operation}
use Rattle.events.specs.declared.event.Operation.TheVariants.{Read, Write, Acquire, Release}
use Rattle.events.specs.declared.event.Event.{Event}
use Rattle.events.specs.Rules.{OrderRule, Lawful, happens_before, schedulable}
use Rattle.orders.specs.declared.counts.Counts.{Counts}
use Rattle.orders.specs.Traces.{thread_at, operation_at}
use Rattle.orders.specs.Accepted.{HasObject, Inside, holder, Accepted}
use Rattle.orders.specs.Orders.{Relation, Before, Order1, Order2}
use Rattle.orders.specs.Pairs.{Lists}
use Rattle.orders.specs.Stamps.{stamp, found}
use Rattle.orders.specs.WorkedRuns.{Stamp, Stated, Run, Timed, Gives, Holds, stamped, stated, run, runs}
use Rattle.orders.specs.Theorems.{WorkedRunsHold}
use Rattle.orders.proofs.SameOrders.{SameRelations, time_as, lists_as}
use Rattle.orders.proofs.Slots.{happens_before_lawful, schedulable_lawful}
use Rattle.orders.proofs.Times.{stamp_time, stamp_long}
use Rattle.orders.proofs.Locks.{rules_mean_orders}
use Rattle.orders.proofs.Found.{found_list}

-- the test of one event of an accepted trace
abbrev held_by : ℕ → Option ℕ → Bool
held_by t None = false
held_by t (Some u) = eqb u t

abbrev allowed : Counts → ℕ → (ℕ → Option ℕ) → Operation → Bool
allowed c t holds (Read v) = ltb v c.variables
allowed c t holds (Write v) = ltb v c.variables
allowed c t holds (Acquire l) = ltb l c.locks && not (is_some (holds l))
allowed c t holds (Release l) = ltb l c.locks && held_by t (holds l)

abbrev allowed_at : Counts → List Event → ℕ → Bool
allowed_at c log i = ltb (thread_at log i) c.threads && allowed c (thread_at log i) (λ l. holder log l i) (operation_at log i)

-- what the test tells
allowed_tells : (c : Counts) (t : ℕ) (holds : ℕ → Option ℕ) (o : Operation) → (ltb t c.threads && allowed c t holds o) ≡ true
    → (t < c.threads) × HasObject c o × ((l : ℕ) → o ≡ Acquire l → holds l ≡ None) × ((l : ℕ) → o ≡ Release l → holds l ≡ Some t)
allowed_tells c t holds o is = grind (arith, nat_tests)

-- the test of a trace
abbrev all_allowed : Counts → List Event → Bool
all_allowed c log = agree_below (allowed_at c log) (λ i. true) (length log)

accepted_by : (c : Counts) (log : List Event) → all_allowed c log ≡ true → Accepted c log
accepted_by c log all =
    let at = λ (i : ℕ) (h : i < length log). allowed_tells c (thread_at log i) (λ l. holder log l i) (operation_at log i)
    (agree_below_at (allowed_at c log) (λ k. true) (length log) i all h) in
    record {
      inside = record { thread = λ i h. (at i h).0; object = λ i h. (at i h).1 };
      free = λ i l h. (at i h).2 l;
      own = λ i l h. (at i h).3 l;
    }

-- what clocks tell where something is stated
abbrev by_clocks : OrderRule → Counts → List Event → Stated → Stated
by_clocks r c log s = stated (map (λ x. stamped x.at (stamp r c log x.at)) s.times) (found r c log)

-- what holds of x where a test passes and f leaves x as it is holds of each element of a list of such
each_by : {X : Type 0} (p : X → Bool) (f : X → X) (P : X → Type 0) → ((x : X) → p x ≡ true → f x ≡ x → P x)
    → (xs : List X) → list_all p xs ≡ true → map f xs ≡ xs → AllByRecursion P xs
each_by p f P one [] all same = tt
each_by p f P one (x ∷ xs) all same = let parts = and_parts _ _ all in (one x parts.0 (cc), each_by p f P one xs parts.1 (cc))

abbrev inside_all : List Event → List Stamp → Bool
inside_all log = list_all (λ x. ltb x.at (length log))

-- the order that a rule means gives what the rule's clocks tell
module _ (r : OrderRule) (law : Lawful r) (c : Counts) (log : List Event) (inside : Inside c log)
    (B : Relation) (means : SameRelations (Before r c.locks log) B) where
  timed : (x : Stamp) → ltb x.at (length log) ≡ true → stamped x.at (stamp r c log x.at) ≡ x → Timed c B log x
  timed x within same =
      let below = ltb-true x.at (length log) within in
      let time : stamp r c log x.at ≡ x.time = ap (λ y. y.time) same in
      record {
        inside = below;
        whole = ap length (sym time) ∙ stamp_long r law c log inside x.at below;
        times = λ t h. rw (← time) (time_as means (stamp_time r law c log inside x.at t below h));
      }

  gives : (s : Stated) → inside_all log s.times ≡ true → by_clocks r c log s ≡ s → Gives c B log s
  gives s all same = record {
    times = each_by _ _ _ timed s.times all (ap (λ x. x.times) same);
    pairs = subst (Lists B log) (ap (λ x. x.pairs) same) (lists_as means (found_list r law c log inside));
  }

-- the run with what clocks tell in the place of what it states
abbrev recomputed : Run → Run
recomputed x = run x.counts x.log
    (by_clocks happens_before x.counts x.log x.order_1)
    (by_clocks schedulable x.counts x.log x.order_2)

-- the trace is accepted, and times are stated of positions
abbrev sensible : Run → Bool
sensible x = all_allowed x.counts x.log && (inside_all x.log x.order_1.times && inside_all x.log x.order_2.times)

run_holds : (x : Run) → sensible x ≡ true → recomputed x ≡ x → Holds x
run_holds x is same =
    let parts = and_parts _ _ is in
    let times = and_parts _ _ parts.1 in
    let ok = accepted_by x.counts x.log parts.0 in
    record {
      accepted = ok;
      order_1 = gives happens_before happens_before_lawful x.counts x.log ok.inside (Order1 x.log)
          (rules_mean_orders.rule_1 happens_before happens_before_lawful refl x.counts x.log ok)
          x.order_1 times.0 (ap (λ y. y.order_1) same);
      order_2 = gives schedulable schedulable_lawful x.counts x.log ok.inside (Order2 x.log)
          (rules_mean_orders.rule_2 schedulable schedulable_lawful refl x.counts x.log ok)
          x.order_2 times.1 (ap (λ y. y.order_2) same);
    }

-- the one test, over the whole list
pub worked_runs_hold : WorkedRunsHold
worked_runs_hold = record {
  hold = each_by sensible recomputed Holds run_holds runs refl refl;
  not_so = (
    λ ok. cc (ok.free 1 0 (omega arith) refl),
    (λ ok. cc (ok.free 1 0 (omega arith) refl), (λ ok. cc (ok.own 1 0 (omega arith) refl), tt)),
  );
}
