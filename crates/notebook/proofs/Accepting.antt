-- A trace that a notebook accepts is an accepted trace. Assumes nothing.
use Rattle.std.proofs.Common.{◌≡◌, ℕ, ◌<◌, true, List, [], ◌∷◌, ◌++◌, length, Some, None, Option, sym, refl, ◌∙◌, subst, arith}
use native.Mathlib.Decide.{dec_lt}
use Rattle.std.proofs.lemmas.List.{length_push}
use Rattle.std.proofs.lemmas.Bool.{ltb-true}
use Rattle.std.proofs.lemmas.Bool.Decides.{nat_tests}
use Rattle.events.specs.declared.event.Operation.{Operation}
use Rattle.events.specs.declared.event.Operation.TheVariants.{Read, Write, Acquire, Release}
use Rattle.events.specs.declared.event.Event.{Event}
use Rattle.events.specs.Events.{object_of}
use Rattle.orders.specs.declared.counts.Counts.{Counts}
use Rattle.orders.specs.Traces.{event}
use Rattle.orders.specs.Accepted.{HasObject, holder, Accepted}
use Rattle.orders.proofs.Prefixes.{holder_shared}
use Rattle.notebook.specs.Locks.{lock_fault}
use Rattle.notebook.specs.Notes.{is_object_of, held_by}
use Rattle.notebook.proofs.Entering.{new_event, old_event}

pub object_there : (c : Counts) (o : Operation) → is_object_of c o ≡ true → HasObject c o
object_there c (Read v) h = ltb-true _ _ h
object_there c (Write v) h = ltb-true _ _ h
object_there c (Acquire l) h = ltb-true _ _ h
object_there c (Release l) h = ltb-true _ _ h

free_then : (o : Option ℕ) (t l : ℕ) → lock_fault o t (Acquire l) ≡ None → o ≡ None
free_then None t l none = refl
free_then (Some u) t l none = grind arith

own_then : (o : Option ℕ) (t l : ℕ) → lock_fault o t (Release l) ≡ None → o ≡ Some t
own_then None t l none = grind arith
own_then (Some u) t l none = grind (arith, nat_tests)

pub empty_accepted : (c : Counts) → Accepted c []
empty_accepted c = record {
  inside = record { thread = λ i h. absurd (omega arith); object = λ i h. absurd (omega arith) };
  free = λ i l h is. absurd (omega arith);
  own = λ i l h is. absurd (omega arith);
}

module _ (c : Counts) (log : List Event) (e : Event) (ok : Accepted c log) (thread : e.thread < c.threads) (object : HasObject c e.operation)
    (lock : lock_fault (held_by log (object_of e.operation)) e.thread e.operation ≡ None) where
  -- what holds of the old events and of the new one holds of each
  each : (P : ℕ → Event → Type 0) → ((i : ℕ) → i < length log → P i (event log i)) → P (length log) e
      → (i : ℕ) → i < length (log ++ e ∷ []) → P i (event (log ++ e ∷ []) i)
  each P old new i h = elim (dec_lt i (length log)) [
    | yes l ↦ subst (P i) (sym (old_event log e i l)) (old i l)
    | no l ↦
        let is : length log ≡ i = omega (arith, length_push log e) in
        subst (λ (k : ℕ). P k (event (log ++ e ∷ []) k)) is (subst (P (length log)) (sym (new_event log e)) new)
  ]

  before : (l i : ℕ) → i < length (log ++ e ∷ []) → holder (log ++ e ∷ []) l i ≡ holder log l i
  before l i h = holder_shared i (log ++ e ∷ []) log l (λ k g. old_event log e k (omega (arith, length_push log e)))

  pub more_accepted : Accepted c (log ++ e ∷ [])
  more_accepted = record {
    inside = record {
      thread = each (λ i d. d.thread < c.threads) ok.inside.thread thread;
      object = each (λ i d. HasObject c d.operation) ok.inside.object object;
    };
    free = λ i l h is. before l i h ∙ each (λ k d. d.operation ≡ Acquire l → holder log l k ≡ None) (λ k g. ok.free k l g) acquires i h is;
    own = λ i l h is. before l i h ∙ each (λ k d. d.operation ≡ Release l → holder log l k ≡ Some d.thread) (λ k g. ok.own k l g) releases i h is;
  }
    where
      acquires : {l : ℕ} → e.operation ≡ Acquire l → holder log l (length log) ≡ None
      acquires {l} is =
          free_then (held_by log l) e.thread l
          (subst (λ (o : Operation). lock_fault (held_by log (object_of o)) e.thread o ≡ None) is lock)

      releases : {l : ℕ} → e.operation ≡ Release l → holder log l (length log) ≡ Some e.thread
      releases {l} is =
          own_then (held_by log l) e.thread l
          (subst (λ (o : Operation). lock_fault (held_by log (object_of o)) e.thread o ≡ None) is lock)
