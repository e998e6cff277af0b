-- Runs of calls, and the account of a run. Assumes nothing.
use Rattle.std.specs.Prelude.{◌≡◌, ℕ, List, [], ◌∷◌, ◌++◌, Result}
use Rattle.clock_bank.specs.Rows.{Rows, fresh}
use Rattle.clock_bank.specs.Faults.{unless}
use Rattle.events.specs.declared.event.Event.{Event}
use Rattle.events.specs.Rules.{OrderRule, Lawful}
use Rattle.orders.specs.declared.counts.Counts.{Counts}
use Rattle.orders.specs.declared.pair.PositionPair.{PositionPair}
use Rattle.notebook.specs.declared.fault.NotebookFault.{NotebookFault}
use Rattle.notebook.specs.declared.log.LoggedEvent.{LoggedEvent}
use Rattle.notebook.specs.declared.notebook.Notebook.{Notebook}
use Rattle.notebook.specs.Books.{Book, opened}
use Rattle.notebook.specs.Notes.{Setting, setting, event_fault, Note}
use Rattle.notebook.specs.View.{book}

-- a call of a run: a note of an event, or any question
pub data Call : Type 0 where
  notes : Event → Call
  asks : Call

-- the account of a run: the events that it accepts, in their order. The calls stand with the newest first; the bank has k
-- threads and s slots, and the rule has this number. An event is accepted if none of the conditions 8 to 13 stands
-- against it, read with the account so far
abbrev pub account : Setting → ℕ → ℕ → ℕ → List Call → List Event
account m k s number [] = []
account m k s number (asks ∷ calls) = account m k s number calls
account m k s number (notes e ∷ calls) =
    let log : List Event = account m k s number calls in
    unless (event_fault m k s number log e) (log ++ e ∷ []) log

-- how a run starts: a bank of so many threads and slots, and what the notebook is made with
pub record Start : Type 0 where
  pub threads : ℕ
  pub slots : ℕ
  pub counts : Counts
  pub rule : ℕ
  pub log : List LoggedEvent
  pub stamps : List ℕ
  pub pairs : List PositionPair

abbrev pub made : Start → Book
made s = opened s.counts s.rule s.log s.stamps s.pairs

-- the account of a run from a start, under a rule
abbrev pub accepted_by : Start → OrderRule → List Call → List Event
accepted_by s r calls = account (setting (made s)) s.threads s.slots r.number calls

-- the rows of a bank and the notebook that a run has reached: both are fresh at the start; a note under the rule does
-- what its contract says, refused or not; a question changes neither
pub data Run (s : Start) (r : OrderRule) : List Call → Rows → Notebook → Type 0 where
  fresh_start : {rows : Rows} {n : Notebook} → rows ≡ fresh s.threads s.slots → book n ≡ made s → Run s r [] rows n
  then_notes : {calls : List Call} {rows rows' : Rows} {n n' : Notebook} {e : Event} {answer : Result ℕ NotebookFault}
      → Run s r calls rows n → Note r rows (book n) e answer rows' (book n') → Run s r (notes e ∷ calls) rows' n'
  then_asks : {calls : List Call} {rows rows' : Rows} {n n' : Notebook}
      → Run s r calls rows n → rows' ≡ rows → book n' ≡ book n → Run s r (asks ∷ calls) rows' n'

-- P holds of the rule and the account of every run that has reached this notebook, under any lawful rule and over any bank
abbrev pub InEveryRun : Notebook → (OrderRule → List Event → Type 0) → Type 0
InEveryRun n P = (s : Start) (r : OrderRule) (calls : List Call) (rows : Rows) → Lawful r → Run s r calls rows n → P r (accepted_by s r calls)
