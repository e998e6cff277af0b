-- What a notebook means: its counts, its rule's number, and what its tables hold. Assumes nothing.
use Rattle.std.specs.Prelude.{ℕ, ◌*◌, ◌&&◌, List, map, None, Option, nat_le}
use Rattle.keep_list.specs.Kept.{Kept, empty, records}
use Rattle.clock_bank.specs.Runs.{run}
use Rattle.clock_bank.specs.Faults.{require, unless}
use Rattle.events.specs.declared.event.Event.{Event}
use Rattle.orders.specs.declared.counts.Counts.{Counts}
use Rattle.orders.specs.declared.pair.PositionPair.{PositionPair}
use Rattle.notebook.specs.declared.fault.NotebookFault.{NotebookFault}
use Rattle.notebook.specs.declared.fault.NotebookFault.TheVariants.{CountLimit}
use Rattle.notebook.specs.declared.log.LoggedEvent.{LoggedEvent}

-- what the three tables hold: the log, the stamps, a row of numbers for each event, and the pairs
pub record Written : Type 0 where
  pub log : Kept LoggedEvent
  pub stamps : List ℕ
  pub pairs : Kept PositionPair

pub record Book : Type 0 where
  pub counts : Counts
  pub rule : ℕ
  pub tables : Written

-- the events of a log, in order
abbrev pub logged_events : Kept LoggedEvent → List Event
logged_events log = map (λ x. x.event) (records log)

abbrev pub events : Book → List Event
events b = logged_events b.tables.log

-- the stamp of the event at i, as the table has it: a number for each thread
abbrev pub stamp_held : Book → ℕ → List ℕ
stamp_held b i = run (i * b.counts.threads) b.counts.threads b.tables.stamps

-- 1 to 32 threads, at most 256 locks, at most 1,024 variables
abbrev pub check_fault : Counts → Option NotebookFault
check_fault c = require ((nat_le 1 c.threads && nat_le c.threads 32) && (nat_le c.locks 256 && nat_le c.variables 1024)) CountLimit None

abbrev pub no_counts : Counts
no_counts = record { threads = 0; locks = 0; variables = 0 }

-- the counts of a notebook that is made: those it is made for, but all 0 where the check fails
abbrev pub admitted_counts : Counts → Counts
admitted_counts c = unless (check_fault c) c no_counts

-- a notebook as it is made: nothing is noted, and its tables are as they are lent
abbrev pub opened : Counts → ℕ → List LoggedEvent → List ℕ → List PositionPair → Book
opened c rule log stamps pairs = record {
  counts = admitted_counts c;
  rule = rule;
  tables = record { log = empty log; stamps = stamps; pairs = empty pairs };
}
