-- Traces that are alike in the words of orders 1 and 2 are alike under rules 1 and 2. Assumes nothing.
use Rattle.std.proofs.Common.{◌≡◌, ℕ, ◌<◌, ◌↔◌, List, refl, inl, inr, arith}
use mathlib.Core.Logic.Iff
use Rattle.std.proofs.lemmas.Bool.Decides.{nat_tests}
use Rattle.events.specs.declared.event.Operation.TheVariants.{Write, Acquire}
use Rattle.events.specs.declared.event.Event.{Event}
use Rattle.events.specs.Rules.{OrderRule, Lawful, happens_before, schedulable}
use Rattle.orders.specs.declared.counts.Counts.{Counts}
use Rattle.orders.specs.Traces.{operation_at}
use Rattle.orders.specs.Accepted.{Accepted}
use Rattle.orders.specs.Orders.{Last, Performs, Takes, Posts}
use Rattle.orders.specs.Alike.{operations, Same, SameLast, Alike, Alike1, Alike2}
use Rattle.orders.specs.WorkedRuns.{run_b, turned_b}
use Rattle.orders.specs.Theorems.{AlikeTracesAgree}
use Rattle.orders.proofs.Lasts.{last_as}
use Rattle.orders.proofs.Slots.{posts_release, takes_acquire, takes_read, happens_before_lawful, schedulable_lawful}
use Rattle.orders.proofs.Locks.{acquired, writes, rules_mean_orders}
use Rattle.orders.proofs.AlikeTraces.{alike_agree}

-- last events of one name are so also where other words say which events they are the last of
same_last_as : {log other : List Event} {P Q R S : ℕ → Type 0} {i j : ℕ} → ((k : ℕ) → k < i → P k ↔ R k) → ((k : ℕ) → k < j → Q k ↔ S k)
    → SameLast log other R S i j → SameLast log other P Q i j
same_last_as p q s = record {
  forth = λ x last.
      let w = s.forth x (last_as p last) in
      record { at = w.at; name = w.name; last = last_as (λ k h. Iff.symm (q k h)) w.last };
  back = λ x last.
      let w = s.back x (last_as q last) in
      record { at = w.at; name = w.name; last = last_as (λ k h. Iff.symm (p k h)) w.last };
}

module _ (c : Counts) (log other : List Event) (ok : Accepted c log) where
  -- an acquire that finds the last release of its lock finds the last post to its slot
  acquire_finds : (r : OrderRule) → Lawful r → Alike1 log other → (i j s : ℕ) → Same log other i j → Performs log (Acquire s) i
      → SameLast log other (Posts r c.locks log s) (Posts r c.locks other s) i j
  acquire_finds r law a i j s same acquire =
      let h = acquired r law c log ok i s same.left acquire in
      same_last_as (λ k b. posts_release r law c (operation_at log k) s h) (λ k b. posts_release r law c (operation_at other k) s h)
      (a.acquires i j s same acquire)

  -- so traces that are alike in the words of orders 1 and 2 are alike under rules 1 and 2
  alike_1 : Alike1 log other → Alike happens_before c.locks log other
  alike_1 a = record {
    does = a.does;
    finds = λ i j s same takes. acquire_finds happens_before happens_before_lawful a i j s same
        (takes_acquire happens_before happens_before_lawful c (operation_at log i) s refl takes);
  }

  alike_2 : Accepted c other → Alike2 log other → Alike schedulable c.locks log other
  alike_2 ok' a = record {
    does = a.order_1.does;
    finds = λ i j s same takes. elim (takes_read schedulable schedulable_lawful c (operation_at log i) s refl takes) [
      | inl acquire ↦ acquire_finds schedulable schedulable_lawful a.order_1 i j s same acquire
      | inr w ↦ rw w.2 (same_last_as
          (λ k b. writes schedulable schedulable_lawful refl c log ok w.0 k (omega (arith, same.left)))
          (λ k b. writes schedulable schedulable_lawful refl c other ok' w.0 k (omega (arith, same.right)))
          (a.reads i j w.0 same w.1))
    ];
  }

-- the threads of run B have the same operations in either order of its events
turned_does : (t : ℕ) → operations t run_b.log ≡ operations t turned_b
turned_does t = grind (arith, nat_tests)

-- its first two events take from no slot
no_takes : (i s : ℕ) → i < 2 → Takes happens_before 0 run_b.log s i → ⊥
no_takes i s h takes = grind arith

-- the read finds the write in run B, and none in the other order
told_apart : Alike2 run_b.log turned_b → ⊥
told_apart a =
    let read : Same run_b.log turned_b 1 0 = record { left = omega arith; right = omega arith; name = record { thread = refl; time = refl } } in
    let write : Last (Performs run_b.log (Write 0)) 0 1 = record { earlier = omega arith; holds = refl; latest = λ k b c p. omega arith } in
    omega (arith, ((a.reads 1 0 0 read refl).forth 0 write).last.earlier)

pub alike_traces_agree : AlikeTracesAgree
alike_traces_agree = record {
  rule = λ r locks log other a. alike_agree r locks log other a _ _ (λ i j. Iff.rfl) (λ i j. Iff.rfl);
  order_1 = λ c log other ok ok' a. alike_agree happens_before c.locks log other (alike_1 c log other ok a) _ _
      (rules_mean_orders.rule_1 happens_before happens_before_lawful refl c log ok)
      (rules_mean_orders.rule_1 happens_before happens_before_lawful refl c other ok');
  order_2 = λ c log other ok ok' a. alike_agree schedulable c.locks log other (alike_2 c log other ok ok' a) _ _
      (rules_mean_orders.rule_2 schedulable schedulable_lawful refl c log ok)
      (rules_mean_orders.rule_2 schedulable schedulable_lawful refl c other ok');
  example = record { does = turned_does; finds = λ i j s same takes. absurd (no_takes i s same.left takes) };
  counterexample = told_apart;
}
