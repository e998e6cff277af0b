-- The refusals of a notebook, and their numbers. Assumes nothing.
use Rattle.std.specs.Prelude.{ℕ, List, codes, Some, None, Option}
use Rattle.clock_bank.specs.declared.fault.BankFault.{BankFault}
use Rattle.clock_bank.specs.Faults.{number_of, reason_of}
use Rattle.notebook.specs.declared.fault.NotebookFault.{NotebookFault}
use Rattle.notebook.specs.declared.fault.NotebookFault.TheVariants.{CountLimit, Misfit, NoThread, NoObject, LockHeld, NotHolder, Full, NoPosition, NotHeld, Bank}

-- a bank's refusal keeps its number
abbrev pub fault_number : NotebookFault → ℕ
fault_number CountLimit = 7
fault_number Misfit = 8
fault_number NoThread = 9
fault_number NoObject = 10
fault_number LockHeld = 11
fault_number NotHolder = 12
fault_number Full = 13
fault_number NoPosition = 14
fault_number NotHeld = 15
fault_number (Bank f) = number_of f

-- the reason of a refusal, as it is printed; a bank's refusal keeps its reason
abbrev pub fault_reason : NotebookFault → List ℕ
fault_reason CountLimit = codes "a count is outside its limits"
fault_reason Misfit = codes "the bank or the rule is not the notebook's"
fault_reason NoThread = codes "no thread has that number"
fault_reason NoObject = codes "no lock or variable has that number"
fault_reason LockHeld = codes "the lock is held"
fault_reason NotHolder = codes "the thread does not hold the lock"
fault_reason Full = codes "the log or the stamps are full"
fault_reason NoPosition = codes "no event has that position"
fault_reason NotHeld = codes "the table holds no such pair"
fault_reason (Bank f) = reason_of f

-- a bank's refusal, inside the notebook's
abbrev pub from_bank : Option BankFault → Option NotebookFault
from_bank None = None
from_bank (Some f) = Some (Bank f)

-- of two conditions the first that fails
abbrev pub first : {E : Type 0} → Option E → Option E → Option E
first None next = next
first (Some f) next = Some f
