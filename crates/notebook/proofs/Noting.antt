-- A note that is refused, and one that is not. Assumes nothing.
use Rattle.std.proofs.Common.{◌≡◌, ℕ, ◌+◌, ◌<◌, Bool, true, false, ltb, List, length, Some, None, Ok, Err, Option, Result, sym, refl, ap, ◌∙◌, arith}
use Rattle.std.proofs.lemmas.Bool.{ltb-true}
use Rattle.std.proofs.lemmas.Bool.Decides.{nat_tests}
use Rattle.clock_bank.specs.declared.fault.BankFault.{BankFault}
use Rattle.clock_bank.specs.Rows.{Rows}
use Rattle.clock_bank.specs.Faults.{require}
use Rattle.events.specs.declared.event.Event.{Event}
use Rattle.events.specs.Events.{object_of}
use Rattle.events.specs.Rules.{OrderRule}
use Rattle.orders.specs.Stamps.{moved}
use Rattle.std.proofs.lemmas.Option.{none-some}
use Rattle.notebook.specs.declared.fault.NotebookFault.{NotebookFault}
use Rattle.notebook.specs.declared.fault.NotebookFault.TheVariants.{Misfit, NoThread, NoObject, Full}
use Rattle.notebook.specs.Faults.{from_bank, first}
use Rattle.notebook.specs.Locks.{lock_fault}
use Rattle.notebook.specs.Books.{Book, events}
use Rattle.notebook.specs.Notes.{Setting, setting, fits, is_object_of, has_room, held_by, own_fault, event_fault, move_fault, note_fault, new_stamp, noted, Note}
use Rattle.notebook.specs.Parts.{Admitted}

pub first_some : {E : Type 0} (x y : Option E) (f : E) → x ≡ Some f → first x y ≡ Some f
first_some x y f is = ap (λ z. first z y) is

pub first_none : {E : Type 0} (x y : Option E) → x ≡ None → first x y ≡ y
first_none x y is = ap (λ z. first z y) is

first_both : {E : Type 0} (x y : Option E) → first x y ≡ None → (x ≡ None) × (y ≡ None)
first_both None y none = (refl, none)
first_both (Some f) y none = absurd (none-some _ (sym none))

pub required : {E : Type 0} (t : Bool) (f : E) (next : Option E) → require t f next ≡ None → (t ≡ true) × (next ≡ None)
required true f next none = (refl, none)
required false f next none = absurd (none-some _ (sym none))

-- a condition is asked first, and then the next one
refused_first : {E : Type 0} (t : Bool) (f g : E) (next : Option E) → require t f None ≡ Some g → require t f next ≡ Some g
refused_first true f g next is = absurd (none-some _ is)
refused_first false f g next is = is

asked_next : {E : Type 0} (t : Bool) (f : E) (next : Option E) → require t f None ≡ None → require t f next ≡ next
asked_next true f next none = refl
asked_next false f next none = absurd (none-some _ (sym none))

abbrev pub written_down : OrderRule → Rows → Book → Event → Book
written_down r rows b e = noted b e (new_stamp r b.counts.locks rows e)

module _ (r : OrderRule) (rows : Rows) (b : Book) (e : Event) where
  pub refused : {answer : Result ℕ NotebookFault} {rows' : Rows} {b' : Book} (f : NotebookFault) → note_fault r rows b e ≡ Some f
      → answer ≡ Err f → rows' ≡ rows → b' ≡ b → Note r rows b e answer rows' b'
  refused f is answer rows_same b-same = record { answers = rw is answer; advances = rw is rows_same; notes = rw is b-same }

  pub accepted : {answer : Result ℕ NotebookFault} {rows' : Rows} {b' : Book} → note_fault r rows b e ≡ None
      → answer ≡ Ok (length (events b)) → rows' ≡ moved r b.counts.locks rows e → b' ≡ written_down r rows b e → Note r rows b e answer rows' b'
  accepted is answer rows_are b-is = record { answers = rw is answer; advances = rw is rows_are; notes = rw is b-is }

  -- a fault of the event itself
  pub event_refused : (f : NotebookFault) → event_fault (setting b) (length rows.threads) (length rows.slots) r.number (events b) e ≡ Some f
      → note_fault r rows b e ≡ Some f
  event_refused f is = first_some _ _ f is

  -- else the fault is the bank's, or there is none
  pub bank_answers : (a : Option BankFault) → event_fault (setting b) (length rows.threads) (length rows.slots) r.number (events b) e ≡ None
      → move_fault r b.counts.locks rows e ≡ a
      → note_fault r rows b e ≡ from_bank a
  bank_answers a none is = first_none _ _ none ∙ ap from_bank is

-- what is asked of a bank and a rule, by their counts and number, and then of the event
module _ (m : Setting) (log : List Event) (e : Event) {k k' s s' number number' : ℕ} (same_k : k ≡ k') (same_s : s ≡ s') (same_number : number ≡ number') where
  pub misfit_is : (f : NotebookFault) → require (fits m k s number) Misfit None ≡ Some f → event_fault m k' s' number' log e ≡ Some f
  misfit_is f is = let first' = refused_first (fits m k s number) Misfit f (own_fault m log e) is in cc

  pub own_is : (x : Option NotebookFault) → require (fits m k s number) Misfit None ≡ None → own_fault m log e ≡ x → event_fault m k' s' number' log e ≡ x
  own_is x fit is = let next = asked_next (fits m k s number) Misfit (own_fault m log e) fit in cc

-- what holds of an event without a fault
pub record Right (m : Setting) (k s number : ℕ) (log : List Event) (e : Event) : Type 0 where
  pub threads : k ≡ m.counts.threads
  pub slots : s ≡ m.counts.locks + m.counts.variables
  pub rule : number ≡ m.rule
  pub thread : e.thread < m.counts.threads
  pub object : is_object_of m.counts e.operation ≡ true
  pub lock : lock_fault (held_by log (object_of e.operation)) e.thread e.operation ≡ None
  pub room : has_room m (length log) ≡ true

pub right : (m : Setting) (k s number : ℕ) (log : List Event) (e : Event) → event_fault m k s number log e ≡ None → Right m k s number log e
right m k s number log e none =
    let fit = required (fits m k s number) Misfit _ none in
    let thread = required (ltb e.thread m.counts.threads) NoThread _ fit.1 in
    let object = required (is_object_of m.counts e.operation) NoObject _ thread.1 in
    let lock = first_both (lock_fault (held_by log (object_of e.operation)) e.thread e.operation) _ object.1 in
    let room = required (has_room m (length log)) Full None lock.1 in
    let counts = fit.0 in
    record {
      threads = grind (arith, nat_tests);
      slots = grind (arith, nat_tests);
      rule = grind (arith, nat_tests);
      thread = ltb-true _ _ thread.0;
      object = object.0;
      lock = lock.0;
      room = room.0;
    }

pub admitted : (b : Book) (k s number : ℕ) (e : Event) → Right (setting b) k s number (events b) e → Admitted b e
admitted b k s number e w = record { thread = w.thread; object = w.object; lock = w.lock; room = w.room }
