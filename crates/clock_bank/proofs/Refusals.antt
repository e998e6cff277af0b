-- What an answer tells of the fault, and what holds where there is none. Assumes nothing.
use Rattle.std.proofs.Common.{◌≡◌, ℕ, ◌<◌, ◌≤◌, true, false, length, is_err, Some, None, Ok, Err, Option, Result, refl, arith}
use Rattle.std.proofs.lemmas.Bool.{lt-ltb}
use Rattle.std.proofs.lemmas.Bool.Decides.{nat_tests}
use Rattle.clock_bank.specs.Rows.{Rows}
use Rattle.clock_bank.specs.Faults.{or_fault, count_fault, thread_entry_fault, step_fault, is_slot_of}

pub fault_is : {X E : Type 0} (f : Option E) (x : X) (e : E) → Err e ≡ or_fault f x → f ≡ Some e
fault_is None x e is = grind arith
fault_is (Some g) x e is = grind arith

pub no_fault : {X E : Type 0} (f : Option E) (x y : X) → Ok y ≡ or_fault f x → f ≡ None
no_fault None x y is = refl
no_fault (Some g) x y is = grind arith

pub ok_is : {X E : Type 0} {x y : X} → ◌≡◌ {A = Result X E} (Ok x) (Ok y) → x ≡ y
ok_is e = cc

-- an answer without a fault is the value
pub answered : {X E : Type 0} (f : Option E) (x y : X) → Ok y ≡ or_fault f x → (f ≡ None) × (y ≡ x)
answered None x y is = (refl, ok_is is)
answered (Some g) x y is = grind arith

pub none_if : {X E : Type 0} (f : Option E) (x : X) (r : Result X E) → r ≡ or_fault f x → is_err r ≡ false → f ≡ None
none_if None x r is ok = refl
none_if (Some g) x r is ok = grind arith

-- what holds of counts without a fault
pub record Counts (k s needed places : ℕ) : Type 0 where
  pub some : 1 ≤ k
  pub few : k ≤ 32
  pub slots : s ≤ 1280
  pub room : needed ≤ places

pub counts_right : (k s needed places : ℕ) → count_fault k s needed places ≡ None → Counts k s needed places
counts_right k s needed places none = record { some = grind (arith, nat_tests); few = grind (arith, nat_tests); slots = grind (arith, nat_tests); room = grind (arith, nat_tests) }

-- what holds of an advance without a fault, and what makes it one
pub record Step (k n own t : ℕ) (take post : Option ℕ) : Type 0 where
  pub thread : t < k
  pub take_slot : is_slot_of n take ≡ true
  pub post_slot : is_slot_of n post ≡ true
  pub below : own < 65535

pub step_right : (k n own t : ℕ) (take post : Option ℕ) → step_fault k n own t take post ≡ None → Step k n own t take post
step_right k n own t take post none =
    record { thread = grind (arith, nat_tests); take_slot = grind (arith, nat_tests); post_slot = grind (arith, nat_tests); below = grind (arith, nat_tests) }

pub thread_entry_there : (r : Rows) (t u : ℕ) → t < length r.threads → u < length r.threads → thread_entry_fault r t u ≡ None
thread_entry_there r t u a b = grind (arith, nat_tests)

-- a slot that is given is there
pub slot_there : (n : ℕ) (slot : Option ℕ) → ((q : ℕ) → slot ≡ Some q → q < n) → is_slot_of n slot ≡ true
slot_there n None h = refl
slot_there n (Some q) h = lt-ltb q n (h q refl)

pub step_free : (k n own t : ℕ) (take post : Option ℕ) → Step k n own t take post → step_fault k n own t take post ≡ None
step_free k n own t take post s =
    simp (lt-ltb t k s.thread, s.take_slot, s.post_slot, lt-ltb own 65535 s.below)
