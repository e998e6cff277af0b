-- When a bank's calls are refused, by which number and with which words. Assumes nothing.
use Rattle.std.specs.Prelude.{ℕ, Bool, true, if◌then◌else◌, ◌&&◌, List, codes, length, Some, None, Ok, Err, Option, Result, nat_le, nat_lt}
use Rattle.clock_bank.specs.declared.fault.BankFault.{BankFault}
use Rattle.clock_bank.specs.declared.fault.BankFault.TheVariants.{ThreadCount, SlotCount, TableShort, NoThread, NoSlot, EntryLimit}
use Rattle.clock_bank.specs.Rows.{Rows, entry}

abbrev pub number_of : BankFault → ℕ
number_of ThreadCount = 1
number_of SlotCount = 2
number_of TableShort = 3
number_of NoThread = 4
number_of NoSlot = 5
number_of EntryLimit = 6

-- the reason of a refusal, as it is printed
abbrev pub reason_of : BankFault → List ℕ
reason_of ThreadCount = codes "a bank has 1 to 32 threads"
reason_of SlotCount = codes "a bank has at most 1280 slots"
reason_of TableShort = codes "the table is too short"
reason_of NoThread = codes "no thread has that number"
reason_of NoSlot = codes "no slot has that number"
reason_of EntryLimit = codes "the thread's own entry is at its largest"

-- the answer of a call: its fault, or else a value
abbrev pub or_fault : {X E : Type 0} → Option E → X → Result X E
or_fault None x = Ok x
or_fault (Some f) x = Err f

-- what a call leaves: with a fault what was there, or else what is new
abbrev pub unless : {X E : Type 0} → Option E → X → X → X
unless None new old = new
unless (Some f) new old = old

-- a condition of a call: with it what comes next, without it a fault
abbrev pub require : {E : Type 0} → Bool → E → Option E → Option E
require b f next = if b then next else Some f

-- k threads and s slots over a table that has some places and needs so many
abbrev pub count_fault : ℕ → ℕ → ℕ → ℕ → Option BankFault
count_fault k s needed places =
    require (nat_le 1 k && nat_le k 32) ThreadCount (require (nat_le s 1280) SlotCount (require (nat_le needed places) TableShort None))

abbrev pub thread_entry_fault : Rows → ℕ → ℕ → Option BankFault
thread_entry_fault r t u = require (nat_lt t (length r.threads) && nat_lt u (length r.threads)) NoThread None

abbrev pub slot_entry_fault : Rows → ℕ → ℕ → Option BankFault
slot_entry_fault r s u = require (nat_lt s (length r.slots)) NoSlot (require (nat_lt u (length r.threads)) NoThread None)

-- no slot, or one of n
abbrev pub is_slot_of : ℕ → Option ℕ → Bool
is_slot_of n None = true
is_slot_of n (Some s) = nat_lt s n

-- an advance of thread t, whose own entry is given, among k threads and n slots: the thread has to be there, then the
-- slots, and the own entry has to be below 65,535
abbrev pub step_fault : ℕ → ℕ → ℕ → ℕ → Option ℕ → Option ℕ → Option BankFault
step_fault k n own t take post =
    require (nat_lt t k) NoThread (require (is_slot_of n take && is_slot_of n post) NoSlot (require (nat_lt own 65535) EntryLimit None))

abbrev pub advance_fault : Rows → ℕ → Option ℕ → Option ℕ → Option BankFault
advance_fault r t take post = step_fault (length r.threads) (length r.slots) (entry r.threads t t) t take post
