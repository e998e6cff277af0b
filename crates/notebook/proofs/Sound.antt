-- The invariant of a notebook, as it is made and under equal parts. Assumes nothing.
use Rattle.std.proofs.Common.{◌≡◌, ℕ, ◌≤◌, List, replicate, Some, None, Option, sym, refl, ap, subst, zero-mul, arith}
use Rattle.std.proofs.lemmas.List.{length-replicate, get_or-replicate}
use Rattle.std.proofs.lemmas.Bool.Decides.{nat_tests}
use Rattle.clock_bank.specs.Faults.{unless}
use Rattle.keep_list.specs.Kept.{Kept, empty}
use Rattle.orders.specs.declared.counts.Counts.{Counts}
use Rattle.notebook.specs.declared.lock.Lock.{Lock}
use Rattle.notebook.specs.declared.log.LoggedEvent.{LoggedEvent}
use Rattle.notebook.specs.declared.fault.NotebookFault.{NotebookFault}
use Rattle.notebook.specs.Books.{check_fault, no_counts, admitted_counts}
use Rattle.notebook.specs.Sound.{Sound}
use Rattle.notebook.specs.Places.{free, holder_number}

pub sound_as : {c : Counts} {locks : List Lock} {seen : List ℕ} {log log' : Kept LoggedEvent} {places : ℕ} → log' ≡ log
    → Sound c locks seen log places → Sound c locks seen log' places
sound_as {c} {locks} {seen} {log} {log'} {places} e s = subst (λ k. Sound c locks seen k places) (sym e) s

pub sound_at : {c : Counts} {locks locks' : List Lock} {seen : List ℕ} {log log' : Kept LoggedEvent} {places places' : ℕ}
    → locks' ≡ locks → log' ≡ log → places' ≡ places → Sound c locks seen log places → Sound c locks' seen log' places'
sound_at {c} {locks} {locks'} {seen} {log} {log'} {places} {places'} e f h s =
    subst (λ k. Sound c k seen log' places') (sym e) (subst (λ k. Sound c locks seen log' k) (sym h) (sound_as f s))

-- the limits of a notebook's counts
pub record Limits (c : Counts) : Type 0 where
  pub few : c.threads ≤ 32
  pub some : c.locks ≤ 256
  pub many : c.variables ≤ 1024

pub limited : (c : Counts) → Limits (admitted_counts c)
limited c = go (check_fault c) refl
  where
    go : (f : Option NotebookFault) → check_fault c ≡ f → Limits (unless f c no_counts)
    go None none = record { few = grind (arith, nat_tests); some = grind (arith, nat_tests); many = grind (arith, nat_tests) }
    go (Some f) is = record { few = omega arith; some = omega arith; many = omega arith }

-- a notebook with nothing noted
pub opened_sound : (c : Counts) (table : List LoggedEvent) (places : ℕ) → Limits c
    → Sound c (replicate 256 free) (replicate 32 0) (empty table) places
opened_sound c table places l = record {
  few = l.few;
  some = l.some;
  many = l.many;
  every = length-replicate 256 free;
  each = length-replicate {A = ℕ} 32 0;
  whole = omega arith;
  short = omega arith;
  stamped = omega (arith, zero-mul c.threads);
  inside = λ i h. absurd (omega arith);
  timed = λ i h. absurd (omega arith);
  counted = λ t h. get_or-replicate 32 t 0 0 h;
  held = λ l h. ap (λ x. holder_number x.holder) (get_or-replicate 256 l free free h);
}
