-- The bank that a trace needs. Assumes nothing.
use Rattle.std.specs.Prelude.{◌+◌}
use Rattle.clock_bank.specs.declared.counts.BankCounts.{BankCounts}
use Rattle.orders.specs.declared.counts.Counts.{Counts}

-- a row for each thread, and a slot for each lock and each variable
abbrev pub bank_counts : Counts → BankCounts
bank_counts c = record { threads = c.threads; slots = c.locks + c.variables }
