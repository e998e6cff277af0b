-- Local times count up within a thread. Assumes nothing.
use Rattle.std.proofs.Common.{◌≡◌, ℕ, zero, suc, ◌<◌, ◌≤◌, List, sym, ap, ◌∙◌, inl, inr, arith}
use native.Mathlib.Decide.{ℕ_discrete, le_ind}
use Rattle.std.proofs.lemmas.Bool.{eq-eqb, ne_eqb, cases_lt}
use Rattle.std.proofs.lemmas.Bool.Decides.{nat_tests}
use Rattle.events.specs.declared.event.Event.{Event}
use Rattle.orders.specs.Traces.{thread_at, count, local, SameName}
use Rattle.orders.specs.Times.{Reached}

module _ (log : List Event) where
  -- an event of the thread counts, and one of another does not
  pub count_same : (t n : ℕ) → thread_at log n ≡ t → count log t (suc n) ≡ suc (count log t n)
  count_same t n own = rw (eq-eqb (thread_at log n) t own)

  pub count_other : (t n : ℕ) → (thread_at log n ≡ t → ⊥) → count log t (suc n) ≡ count log t n
  count_other t n other = rw (ne_eqb (thread_at log n) t other)

  -- counts do not fall
  count_more : (t n m : ℕ) → n ≤ m → count log t n ≤ count log t m
  count_more t n m h = le_ind (λ k. count log t n ≤ count log t k) (omega arith) (λ k a b. grind (arith, nat_tests)) m h

  -- an event's local time is one more than the number of its thread's events before it
  pub local_is : (t i : ℕ) → thread_at log i ≡ t → local log i ≡ suc (count log t i)
  local_is t i own = omega (arith, ap (λ u. count log u (suc i)) own, count_same t i own)

  -- and at most the number of them up to any later position
  pub local_within : (t i n : ℕ) → thread_at log i ≡ t → i < n → local log i ≤ count log t n
  local_within t i n own h = omega (arith, local_is t i own, count_same t i own, count_more t (suc i) n h)

  -- of two events of a thread the later one has the larger local time
  pub local_less : (t i j : ℕ) → thread_at log i ≡ t → thread_at log j ≡ t → i < j → local log i < local log j
  local_less t i j a b h = omega (arith, local_within t i j a h, local_is t j b)

  -- and the other way round
  pub less_from_local : (t i j : ℕ) → thread_at log i ≡ t → thread_at log j ≡ t → local log i < local log j → i < j
  less_from_local t i j a b h = grind (arith, local_is t i a, local_is t j b, count_more t j i)

  -- one local time, one event
  pub local_one : (t i j : ℕ) → thread_at log i ≡ t → thread_at log j ≡ t → local log i ≡ local log j → i ≡ j
  local_one t i j a b e = grind (arith, local_less t i j a b, local_less t j i b a)

  -- each local time up to the count has its event
  pub local_at : (t n v : ℕ) → 0 < v → v ≤ count log t n → Reached log (λ j. j < n) t v
  local_at t zero v a b = absurd (omega arith)
  local_at t (suc n) v a b = elim (cases_lt (count log t n) v) [
    | inr h ↦ let w = local_at t n v a h in record { at = w.at; member = omega (arith, w.member); own = w.own; time = w.time }
    | inl h ↦ elim (ℕ_discrete (thread_at log n) t) [
      | yes e ↦ record { at = n; member = omega arith; own = e; time = omega (arith, local_is t n e, count_same t n e) }
      | no e ↦ absurd (omega (arith, count_other t n e))
    ]
  ]

pub name_back : {log other : List Event} {i j : ℕ} → SameName log other i j → SameName other log j i
name_back n = record { thread = sym n.thread; time = sym n.time }

-- one name, one event
pub name_one : (log other : List Event) (i j k : ℕ) → SameName log other i k → SameName log other j k → i ≡ j
name_one log other i j k a b = local_one log (thread_at other k) i j a.thread b.thread (a.time ∙ sym b.time)
