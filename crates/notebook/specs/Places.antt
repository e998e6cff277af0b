-- How the invariant of a notebook reads its log and its locks. Assumes nothing.
use Rattle.std.specs.Prelude.{ℕ, suc, Some, None, Option}
use Rattle.orders.specs.Traces.{no_event}
use Rattle.notebook.specs.declared.lock.Lock.{Lock}
use Rattle.notebook.specs.declared.log.LoggedEvent.{LoggedEvent}

-- what is read past the end of the log and of the locks; it stands at no place
abbrev pub no_logged_event : LoggedEvent
no_logged_event = record { event = no_event; time = 0 }

abbrev pub free : Lock
free = record { holder = None }

-- a lock's holder as a number, each its own: an invariant is an equation between numbers
abbrev pub holder_number : Option ℕ → ℕ
holder_number None = 0
holder_number (Some t) = suc t
