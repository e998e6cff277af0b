-- What an operation finds and does at its lock. Assumes nothing.
use Rattle.std.specs.Prelude.{ℕ, Bool, false, Some, None, Option, is_none, ◌==◌}
use Rattle.clock_bank.specs.Faults.{require, unless}
use Rattle.events.specs.declared.event.Operation.{Operation}
use Rattle.events.specs.declared.event.Operation.TheVariants.{Read, Write, Acquire, Release}
use Rattle.notebook.specs.declared.fault.NotebookFault.{NotebookFault}
use Rattle.notebook.specs.declared.fault.NotebookFault.TheVariants.{LockHeld, NotHolder}

abbrev pub is_held_by : ℕ → Option ℕ → Bool
is_held_by t None = false
is_held_by t (Some u) = u == t

-- an acquire needs the lock free, and a release needs its holder
abbrev pub lock_fault : Option ℕ → ℕ → Operation → Option NotebookFault
lock_fault o t (Read v) = None
lock_fault o t (Write v) = None
lock_fault o t (Acquire l) = require (is_none o) LockHeld None
lock_fault o t (Release l) = require (is_held_by t o) NotHolder None

-- an acquire makes its thread the holder, and a release leaves none; what is refused changes nothing
abbrev pub lock_after : Operation → ℕ → Option ℕ → Option ℕ
lock_after (Read v) t o = o
lock_after (Write v) t o = o
lock_after (Acquire l) t o = unless (lock_fault o t (Acquire l)) (Some t) o
lock_after (Release l) t o = unless (lock_fault o t (Release l)) None o
